-- Values of int and unsigned are words, and are spelled as such.
use Rattle.std.proofs.Common.{◌≡◌, subst, ℕ, ℤ, ◌<◌, ◌+◌, ◌^◌, length, drop, get_or, List, [], ◌∷◌, ◌++◌, true, refl}
use Rattle.std.proofs.Common.{sym, arith}
use Rattle.std.proofs.lemmas.Bool.{and_parts}
use Rattle.std.proofs.lemmas.List.{drop_more, drop_all}
use lib.IntN.{pos, negsuc}
use Rattle.xdr_value.specs.declared.ty.Basic.TheVariants as basics
use Rattle.xdr_value.specs.Data.{Kind, basic, Part, Datum, number, items, Data, end, more, Types}
use Rattle.xdr_value.specs.Ranges.{IsBelow, IsWithin}
use Rattle.xdr_value.specs.Heads.{Head, is_struct, head_of, head_within}
use Rattle.xdr_value.specs.Fits.{Fits, ItemsFit, PartsFit, AllFit, count}
use Rattle.xdr_value.specs.Spelling.{spelling, items_spelling, parts_spelling, all_spelling}
use Rattle.xdr_value.specs.View.{value_of, values_of}
use Rattle.xdr_value.specs.declared.value.Value.{Value}
use Rattle.xdr_code.specs.Words.{is_word, are_words, IsWord, word_spelling, AreWords, words_spelling, AreRows}
use Rattle.xdr_code.specs.Words.{rows_spelling}

within_word : (z : ℤ) → IsWithin (2 ^ 31) z → IsWord (number z)
within_word (pos n) h = omega (arith, h)
within_word (negsuc n) h = h

below_word : (z : ℤ) → IsBelow (2 ^ 32) z → IsWord (number z)
below_word (pos n) h = h
below_word (negsuc n) h = absurd h

-- the value is a word, and its bytes are the word's
abbrev pub AsWord : Types → Kind → Datum → Type 0
AsWord t k v = IsWord v × (spelling t k v ≡ word_spelling v)

int_is : (t : Types) (v : Datum) → Fits t (basic basics.Int) v → AsWord t (basic basics.Int) v
unfolding head_of head_within
int_is t (number z) f = (within_word z f, refl)
int_is t _ f = absurd f

uint_is : (t : Types) (v : Datum) → Fits t (basic basics.Uint) v → AsWord t (basic basics.Uint) v
unfolding head_of head_within
uint_is t (number z) f = (below_word z f, refl)
uint_is t _ f = absurd f

-- a value of a type of words
pub word_is : (t : Types) (k : Kind) (v : Datum) → is_word k ≡ true → Fits t k v → AsWord t k v
word_is t (basic basics.Int) v e f = int_is t v f
word_is t (basic basics.Uint) v e f = uint_is t v f
word_is t _ v e f = cc

-- one for each field
pub parts_are : (t : Types) (ps : List Part) (vs : Data) → are_words ps ≡ true → PartsFit t ps vs
    → AreWords vs × (parts_spelling t ps vs ≡ words_spelling vs)
parts_are t [] end e f = (tt, refl)
parts_are t [] (more v vs) e f = absurd f
parts_are t (p ∷ ps) end e f = absurd f
parts_are t (p ∷ ps) (more v vs) e f =
    let both = and_parts (is_word p.kind) (are_words ps) e in
    let one = word_is t p.kind v both.0 f.0 in
    let others = parts_are t ps vs both.1 f.1 in
    ((one.0, others.0), rw (one.1, others.1) refl)

-- each of a list
pub all_are : (t : Types) (k : Kind) (vs : Data) → is_word k ≡ true → AllFit t k vs
    → AreWords vs × (all_spelling t k vs ≡ words_spelling vs)
all_are t k end e f = (tt, refl)
all_are t k (more v vs) e f =
    let one = word_is t k v e f.0 in
    let others = all_are t k vs e f.1 in
    ((one.0, others.0), rw (one.1, others.1) refl)

-- a struct
row_of : (t : Types) (h : Head) (ps : List Part) (vs : Data) (all : Kind → Type 0) (alls : Kind → List ℕ) (n : ℕ)
    → is_struct ps ≡ h → are_words ps ≡ true → ItemsFit t h (λ ps. PartsFit t ps vs) all n
    → AreWords vs × (items_spelling h (λ ps. parts_spelling t ps vs) alls n ≡ words_spelling vs)
row_of t h ps vs all alls n is e f =
    let fits : PartsFit t ps vs = subst (λ (g : Head). ItemsFit t g (λ ps. PartsFit t ps vs) all n) (sym is) f in
    rw (← is) (parts_are t ps vs e fits)

-- each of a list of structs, which no other value fits
pub rows_are : (t : Types) (k : Kind) (ps : List Part) (vs : Data) → is_struct ps ≡ head_of t k → are_words ps ≡ true
    → AllFit t k vs → AreRows vs × (all_spelling t k vs ≡ rows_spelling vs)
rows_are t k ps end is e f = (tt, refl)
rows_are t k ps (more (items ws) vs) is e f =
    let one = row_of t (head_of t k) ps ws (λ e. AllFit t e ws) (λ e. all_spelling t e ws) (count ws) is e f.0 in
    let others = rows_are t k ps vs is e f.1 in
    ((one.0, others.0), rw (one.1, others.1) refl)
rows_are t k ps (more v vs) is e f = let none : ⊥ = rw (← is) at f.0 in absurd none

-- ---- values of an array, one after the other

-- one that follows
pub next_word : (vs : List Value) (i : ℕ) (v : Value) (bytes rest : List ℕ) → i < length vs
    → bytes ≡ word_spelling (value_of (get_or vs i v)) → rest ≡ words_spelling (values_of (drop (i + 1) vs))
    → bytes ++ rest ≡ words_spelling (values_of (drop i vs))
next_word vs i v bytes rest lt is behind = rw (is, behind, drop_more vs i v lt) refl

-- and the end
pub no_word : (vs : List Value) (i : ℕ) → length vs ≡ i → [] ≡ words_spelling (values_of (drop i vs))
no_word vs i e = rw (drop_all i vs (omega arith)) refl
