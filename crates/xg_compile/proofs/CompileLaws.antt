-- What a text means, or its first fault, is what the three passes answer one after another.
use Rattle.std.proofs.Common.{◌≡◌, ◌≢◌, ℕ, List, Result, Ok, Err, IsOkAnd, IsErrAnd, refl, sym, ap, subst, ◌∙◌}
use Rattle.xdr_value.specs.declared.interface.Interface.{Interface}
use Rattle.xg_lex.specs.declared.token.Tokens.{Tokens}
use Rattle.xg_lex.specs.declared.fault.LexFault.{LexFault}
use Rattle.xg_lex.specs.declared.fault.LexFault.TheVariants as lexing
use Rattle.xg_lex.specs.Grammar.{IsTokensOf, IsFirstFault as HasNoTokens}
use Rattle.xg_parse.specs.declared.tree.Tree.{Tree}
use Rattle.xg_parse.specs.declared.fault.ParseFault.{ParseFault}
use Rattle.xg_parse.specs.declared.fault.ParseFault.TheVariants as parsing
use Rattle.xg_parse.specs.Grammar.{IsTreeOf}
use Rattle.xg_parse.specs.Refusals.{IsFirstRefusal}
use Rattle.xg_check.specs.declared.fault.CheckFault.{CheckFault}
use Rattle.xg_check.specs.declared.fault.CheckFault.TheVariants as checking
use Rattle.xg_check.specs.Meaning.{Meant, Meaning, interface_of, IsFirstFault as HasNoMeaning}
use Rattle.xg_compile.specs.declared.fault.CompileFault.{CompileFault}
use Rattle.xg_compile.specs.declared.fault.CompileFault.TheVariants.{Lex, Parse, Check, OutOfMemory}
use Rattle.xg_compile.specs.Faults.{lex_fault, parse_fault, check_fault}
use Rattle.xg_compile.specs.Means.{HasTree, Means, IsFirstFaultOf}

abbrev pub Answer : Type 0
Answer = Result Interface CompileFault

-- what each pass answers
abbrev pub Lexed : Type 0
Lexed = Result Tokens LexFault

abbrev pub Parsed : Type 0
Parsed = Result Tree ParseFault

abbrev pub Checked : Type 0
Checked = Result Interface CheckFault

-- memory wasn't wanted for the interface
abbrev pub HasMemory : Checked → Type 0
HasMemory r = r ≢ Err checking.OutOfMemory

-- the answer is this one, unless it is that there is no memory
abbrev pub LexesAs : Lexed → Lexed → Type 0
LexesAs r answer = r ≢ Err lexing.OutOfMemory → r ≡ answer

abbrev pub ParsesAs : Parsed → Parsed → Type 0
ParsesAs r answer = r ≢ Err parsing.OutOfMemory → r ≡ answer

abbrev pub ChecksAs : Checked → Checked → Type 0
ChecksAs r answer = HasMemory r → r ≡ answer

-- the answer is the interface that the text means
abbrev pub GivesMeaning : List ℕ → Answer → Type 0
GivesMeaning text r = (m : Meant) → Means text m → r ≢ Err OutOfMemory → IsOkAnd r (λ i. interface_of i ≡ m)

-- the answer is the first fault of the text
abbrev pub GivesFault : List ℕ → Answer → Type 0
GivesFault text r = (f : CompileFault) → IsFirstFaultOf text f → r ≢ Err OutOfMemory → r ≡ Err f

-- ---- a fault that isn't want of memory stays what it is

lex_kept : (f : LexFault) → f ≢ lexing.OutOfMemory → lex_fault f ≡ Lex f
lex_kept (lexing.BadLine line) some = refl
lex_kept (lexing.BadNumber line) some = refl
lex_kept (lexing.BadChar line) some = refl
lex_kept lexing.OutOfMemory some = absurd (some refl)

parse_kept : (f : ParseFault) → f ≢ parsing.OutOfMemory → parse_fault f ≡ Parse f
parse_kept (parsing.Unexpected line want) some = refl
parse_kept (parsing.OutByName line word) some = refl
parse_kept parsing.OutOfMemory some = absurd (some refl)

check_kept : (f : CheckFault) → f ≢ checking.OutOfMemory → check_fault f ≡ Check f
check_kept (checking.Twice name) some = refl
check_kept (checking.Unknown name) some = refl
check_kept (checking.Size name) some = refl
check_kept (checking.Endless name) some = refl
check_kept (checking.Opcode name) some = refl
check_kept (checking.OpcodeTwice n) some = refl
check_kept checking.OutOfMemory some = absurd (some refl)

-- ---- answers that are equal

one_err : (A : Type 0) {E : Type 0} (e f : E) → ◌≡◌ {A = Result A E} (Err e) (Err f) → e ≡ f
one_err A e f is = cc

not_ok : {A E : Type 0} (e : E) (a : A) → ◌≡◌ {A = Result A E} (Err e) (Ok a) → ⊥
not_ok e a is = cc

one_ok : (E : Type 0) {A : Type 0} (a b : A) → ◌≡◌ {A = Result A E} (Ok a) (Ok b) → a ≡ b
one_ok E a b is = cc

-- an error of which this is known
pub err_is : (r : Answer) (g : CompileFault) → IsErrAnd r (λ f. f ≡ g) → r ≡ Err g
err_is (Ok i) g h = absurd h
err_is (Err f) g h = ap (λ (k : CompileFault). Err k) h

-- ---- the tokens are refused

module _ (text : List ℕ) (e : LexFault) (r : Answer) (is : r ≡ Err (lex_fault e)) where
  lex_some : r ≢ Err OutOfMemory → e ≢ lexing.OutOfMemory
  lex_some some none = some (is ∙ ap (λ (f : LexFault). Err (lex_fault f)) none)

  abbrev OnlyTokens : Type 0
  OnlyTokens = (t : Tokens) → IsTokensOf text t → LexesAs (Err e) (Ok t)

  no_tokens : OnlyTokens → r ≢ Err OutOfMemory → (t : Tokens) → IsTokensOf text t → ⊥
  no_tokens only some t are =
      not_ok e t (only t are (λ none. lex_some some (one_err Tokens e lexing.OutOfMemory none)))

  pub lex_meaning : OnlyTokens → GivesMeaning text r
  lex_meaning only m means some = absurd (no_tokens only some means.has.tokens means.has.are)

  pub lex_first : OnlyTokens
      → ((f : LexFault) → HasNoTokens text f → LexesAs (Err e) (Err f))
      → GivesFault text r
  lex_first only first (Lex f) has some =
      let same : e ≡ f =
      one_err Tokens e f (first f has (λ none. lex_some some (one_err Tokens e lexing.OutOfMemory none))) in
      is ∙ ap (λ (g : CompileFault). Err g) (lex_kept e (lex_some some) ∙ ap Lex same)
  lex_first only first (Parse f) has some = absurd (no_tokens only some has.0 has.1)
  lex_first only first (Check f) has some = absurd (no_tokens only some has.1.tokens has.1.are)
  lex_first only first OutOfMemory has some = absurd has

-- ---- the tokens are these

-- the text has these tokens and no others, and no fault of its tokens
pub record HasTokens (text : List ℕ) (t : Tokens) : Type 0 where
  pub are : IsTokensOf text t
  pub one : (u : Tokens) → IsTokensOf text u → t ≡ u
  pub faultless : (f : LexFault) → HasNoTokens text f → ⊥

pub has_tokens : (text : List ℕ) (t : Tokens) → IsTokensOf text t
    → ((u : Tokens) → IsTokensOf text u → LexesAs (Ok t) (Ok u))
    → ((f : LexFault) → HasNoTokens text f → LexesAs (Ok t) (Err f)) → HasTokens text t
has_tokens text t are only first = record {
  are = are;
  one = λ u is. one_ok LexFault t u (only u is (λ none. not_ok lexing.OutOfMemory t (sym none)));
  faultless = λ f has. not_ok f t (sym (first f has (λ none. not_ok lexing.OutOfMemory t (sym none))));
}

-- a tree of the text is one of its tokens
tree_of : (text : List ℕ) (t : Tokens) (s : Tree) → HasTokens text t → HasTree text s → IsTreeOf t.items s
tree_of text t s has tree =
    subst (λ (u : Tokens). IsTreeOf u.items s) (sym (has.one tree.tokens tree.are)) tree.grows

-- ---- the grammar refuses them

module _ (text : List ℕ) (t : Tokens) (has : HasTokens text t) (e : ParseFault) (r : Answer)
    (is : r ≡ Err (parse_fault e)) where
  parse_some : r ≢ Err OutOfMemory → e ≢ parsing.OutOfMemory
  parse_some some none = some (is ∙ ap (λ (f : ParseFault). Err (parse_fault f)) none)

  abbrev OnlyTree : Type 0
  OnlyTree = (s : Tree) → IsTreeOf t.items s → ParsesAs (Err e) (Ok s)

  no_tree : OnlyTree → r ≢ Err OutOfMemory → (s : Tree) → HasTree text s → ⊥
  no_tree only some s tree =
      not_ok e s (only s (tree_of text t s has tree)
      (λ none. parse_some some (one_err Tree e parsing.OutOfMemory none)))

  pub parse_meaning : OnlyTree → GivesMeaning text r
  parse_meaning only m means some = absurd (no_tree only some means.tree means.has)

  pub parse_first : OnlyTree
      → ((f : ParseFault) → IsFirstRefusal t f → ParsesAs (Err e) (Err f))
      → GivesFault text r
  parse_first only first (Lex f) fault some = absurd (has.faultless f fault)
  parse_first only first (Parse f) fault some =
      let refusal : IsFirstRefusal t f =
      subst (λ (u : Tokens). IsFirstRefusal u f) (sym (has.one fault.0 fault.1)) fault.2 in
      let same : e ≡ f =
      one_err Tree e f (first f refusal (λ none. parse_some some (one_err Tree e parsing.OutOfMemory none))) in
      is ∙ ap (λ (g : CompileFault). Err g) (parse_kept e (parse_some some) ∙ ap Parse same)
  parse_first only first (Check f) fault some = absurd (no_tree only some fault.0 fault.1)
  parse_first only first OutOfMemory fault some = absurd fault

-- ---- the tree is this

-- the text has this tree and no other, and no fault of its tokens or of the grammar
pub record HasOneTree (text : List ℕ) (s : Tree) : Type 0 where
  pub one : (other : Tree) → HasTree text other → s ≡ other
  pub lexed : (f : LexFault) → HasNoTokens text f → ⊥
  pub parsed : (f : ParseFault) (u : Tokens) → IsTokensOf text u → IsFirstRefusal u f → ⊥

pub has_one_tree : (text : List ℕ) (t : Tokens) (s : Tree) → HasTokens text t
    → ((other : Tree) → IsTreeOf t.items other → ParsesAs (Ok s) (Ok other))
    → ((f : ParseFault) → IsFirstRefusal t f → ParsesAs (Ok s) (Err f)) → HasOneTree text s
has_one_tree text t s has only first = record {
  one = λ other tree. one_ok ParseFault s other (only other (tree_of text t other has tree)
      (λ none. not_ok parsing.OutOfMemory s (sym none)));
  lexed = has.faultless;
  parsed = λ f u are refusal. not_ok f s (sym (first f
      (subst (λ (v : Tokens). IsFirstRefusal v f) (sym (has.one u are)) refusal)
      (λ none. not_ok parsing.OutOfMemory s (sym none))));
}

-- what the text means is what its tree means
meaning_of : (text : List ℕ) (s : Tree) (m : Meant) → HasOneTree text s → Means text m → Meaning s m
meaning_of text s m has means =
    subst (λ (other : Tree). Meaning other m) (sym (has.one means.tree means.has)) means.is

-- and so is its first fault
fault_in : (text : List ℕ) (s : Tree) (f : CheckFault) → HasOneTree text s → IsFirstFaultOf text (Check f)
    → HasNoMeaning s f
fault_in text s f has fault =
    subst (λ (other : Tree). HasNoMeaning other f) (sym (has.one fault.0 fault.1)) fault.2

-- ---- the tree means nothing

module _ (text : List ℕ) (s : Tree) (has : HasOneTree text s) (e : CheckFault) (r : Answer)
    (is : r ≡ Err (check_fault e)) where
  check_some : r ≢ Err OutOfMemory → HasMemory (Err e)
  check_some some none =
      some (is ∙ ap (λ (f : CheckFault). Err (check_fault f)) (one_err Interface e checking.OutOfMemory none))

  pub check_meaning : ((m : Meant) → Meaning s m → HasMemory (Err e) → ⊥) → GivesMeaning text r
  check_meaning only m means some = absurd (only m (meaning_of text s m has means) (check_some some))

  pub check_first : ((f : CheckFault) → HasNoMeaning s f → ChecksAs (Err e) (Err f)) → GivesFault text r
  check_first first (Lex f) fault some = absurd (has.lexed f fault)
  check_first first (Parse f) fault some = absurd (has.parsed f fault.0 fault.1 fault.2)
  check_first first (Check f) fault some =
      let same : e ≡ f = one_err Interface e f (first f (fault_in text s f has fault) (check_some some)) in
      let kept : e ≢ checking.OutOfMemory = λ none. check_some some (ap (λ (f : CheckFault). Err f) none) in
      is ∙ ap (λ (g : CompileFault). Err g) (check_kept e kept ∙ ap Check same)
  check_first first OutOfMemory fault some = absurd fault

-- ---- the tree means this

module _ (text : List ℕ) (s : Tree) (has : HasOneTree text s) (i : Interface) where
  given : HasMemory (Ok i)
  given none = not_ok checking.OutOfMemory i (sym none)

  pub ok_meaning : ((m : Meant) → Meaning s m → HasMemory (Ok i)
      → interface_of i ≡ m) → GivesMeaning text (Ok i)
  ok_meaning only m means some = only m (meaning_of text s m has means) given

  pub ok_first : ((f : CheckFault) → HasNoMeaning s f → ChecksAs (Ok i) (Err f)) → GivesFault text (Ok i)
  ok_first first (Lex f) fault some = absurd (has.lexed f fault)
  ok_first first (Parse f) fault some = absurd (has.parsed f fault.0 fault.1 fault.2)
  ok_first first (Check f) fault some = absurd (not_ok f i (sym (first f (fault_in text s f has fault) given)))
  ok_first first OutOfMemory fault some = absurd fault
