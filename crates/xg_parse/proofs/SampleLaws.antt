-- Each rule has a text, and each of its first terminals begins one.
use Rattle.std.proofs.Common.{◌≡◌, Bool, true, false, ◌&&◌, ◌||◌, not, List, [], ◌∷◌, ◌++◌, Some, None, refl, sym, ap}
use Rattle.std.proofs.Common.{◌∙◌, inl, inr}
use Rattle.std.specs.List.{list_any}
use Rattle.std.proofs.lemmas.List.{append-nil}
use Rattle.std.proofs.lemmas.Bool.{and_parts, or_cases, false≢true}
use Rattle.xg_lex.specs.declared.token.Token.{Token}
use Rattle.xg_parse.specs.declared.terminal.Terminal.{Terminal}
use Rattle.xg_parse.specs.Terminals.{terminals}
use Rattle.xg_parse.specs.Words.{terminal_of}
use Rattle.xg_parse.specs.Rules.{Rule, word, pair, either, maybe, many, change, has, Derives}
use Rattle.xg_parse.specs.Reading.{nullable, firsts, tails, are_apart, is_decided}
use Rattle.xg_parse.proofs.TokenFor.{token_for, token_for_is}

-- tokens that are a text
pub record Text {A : Type 0} (P : A → List Token → Type 0) : Type 0 where
  pub item : A
  pub tokens : List Token
  pub derives : P item tokens

-- tokens that go on to a text behind the front and the token
pub record TextFrom {A : Type 0} (P : A → List Token → Type 0) (front : List Token) (token : Token) : Type 0 where
  pub item : A
  pub more : List Token
  pub derives : P item (front ++ token ∷ more)

record InSet (set : Terminal → Bool) : Type 0 where
  terminal : Terminal
  is_in : set terminal ≡ true

some_in : (set : Terminal → Bool) (ts : List Terminal) → list_any set ts ≡ true → InSet set
some_in set [] e = absurd (false≢true e)
some_in set (t ∷ ts) e = by_test (set t) refl e (λ h. some_in set ts h)
  where
    by_test : (b : Bool) → set t ≡ b → (b || list_any set ts) ≡ true → (list_any set ts ≡ true → InSet set) → InSet set
    by_test true holds h rest = record { terminal = t; is_in = holds }
    by_test false fails h rest = rest h

-- a nullable rule has no tokens as a text
pub empty_text : {A : Type 0} (g : Rule A) → nullable g ≡ true → (a : A) × Derives g a []
empty_text (word set) e = absurd (false≢true e)
empty_text (pair g h) e =
    let p = and_parts (nullable g) (nullable h) e in
    let x = empty_text g p.0 in
    let y = empty_text h p.1 in
    ((x.0, y.0), ([], [], refl, x.1, y.1))
empty_text (either g h) e =
    elim (or_cases (nullable g) (nullable h) e) [
      | inl k ↦ (let x = empty_text g k in (x.0, inl x.1))
      | inr k ↦ (let x = empty_text h k in (x.0, inr x.1))
    ]
empty_text (maybe g) e = (None, refl)
empty_text (many g) e = ([], refl)
empty_text (change f g) e = let x = empty_text g e in (f x.0, (x.0, refl, x.1))

-- a rule has a text
pub some_text : {A : Type 0} (g : Rule A) → is_decided g ≡ true → Text (Derives g)
some_text (word set) d =
    let s = some_in set terminals d in
    record {
      item = token_for s.terminal;
      tokens = token_for s.terminal ∷ [];
      derives =
          (refl, ap (has set) (token_for_is s.terminal) ∙ s.is_in);
    }
some_text (pair g h) d =
    let p = and_parts (is_decided g && is_decided h) (are_apart (tails g) (firsts h)) d in
    let q = and_parts (is_decided g) (is_decided h) p.0 in
    let x = some_text g q.0 in
    let y = some_text h q.1 in
    record {
      item = (x.item, y.item);
      tokens = x.tokens ++ y.tokens;
      derives =
          (x.tokens, y.tokens, refl, x.derives, y.derives);
    }
some_text (either g h) d =
    let p = and_parts (is_decided g && is_decided h && not (nullable g) && not (nullable h))
    (are_apart (firsts g) (firsts h)) d in
    let q = and_parts (is_decided g && is_decided h && not (nullable g)) (not (nullable h)) p.0 in
    let r = and_parts (is_decided g && is_decided h) (not (nullable g)) q.0 in
    let x = some_text g (and_parts (is_decided g) (is_decided h) r.0).0 in
    record { item = x.item; tokens = x.tokens; derives = inl x.derives }
some_text (maybe g) d = record { item = None; tokens = []; derives = refl }
some_text (many g) d = record { item = []; tokens = []; derives = refl }
some_text (change f g) d =
    let x = some_text g d in
    record { item = f x.item; tokens = x.tokens; derives = (x.item, refl, x.derives) }

starts_pair : {A B : Type 0} (P : A → List Token → Type 0) (Q : B → List Token → Type 0) (t : Token) →
    TextFrom P [] t → Text Q →
    (both : A × B) × (more : List Token) × (front : List Token) × (back : List Token) × (t ∷ more ≡ front ++ back)
    × P both.0 front × Q both.1 back
starts_pair P Q t x y = ((x.item, y.item), x.more ++ y.tokens, t ∷ x.more, y.tokens, refl, x.derives, y.derives)

-- each of its first terminals begins one
pub starts : {A : Type 0} (g : Rule A) → is_decided g ≡ true → (t : Terminal) → firsts g t ≡ true →
    (token : Token) → terminal_of token ≡ Some t → TextFrom (Derives g) [] token
starts (word set) d t e token is = record { item = token; more = []; derives = (refl, ap (has set) is ∙ e) }
starts (pair g h) d t e token is =
    let p = and_parts (is_decided g && is_decided h) (are_apart (tails g) (firsts h)) d in
    let q = and_parts (is_decided g) (is_decided h) p.0 in
    elim (or_cases (firsts g t) (nullable g && firsts h t) e) [
      | inl k ↦ (let x = starts_pair (Derives g) (Derives h) token (starts g q.0 t k token is) (some_text h q.1) in
          record { item = x.0; more = x.1; derives = (x.2, x.3, x.4, x.5, x.6) })
      | inr k ↦ (let n = and_parts (nullable g) (firsts h t) k in
          let none = empty_text g n.0 in
          let y = starts h q.1 t n.1 token is in
          record { item = (none.0, y.item); more = y.more; derives = ([], token ∷ y.more, refl, none.1, y.derives) })
    ]
starts (either g h) d t e token is =
    let p = and_parts (is_decided g && is_decided h && not (nullable g) && not (nullable h))
    (are_apart (firsts g) (firsts h)) d in
    let q = and_parts (is_decided g && is_decided h && not (nullable g)) (not (nullable h)) p.0 in
    let r = and_parts (is_decided g && is_decided h) (not (nullable g)) q.0 in
    let s = and_parts (is_decided g) (is_decided h) r.0 in
    elim (or_cases (firsts g t) (firsts h t) e) [
      | inl k ↦ (let x = starts g s.0 t k token is in record { item = x.item; more = x.more; derives = inl x.derives })
      | inr k ↦ (let x = starts h s.1 t k token is in record { item = x.item; more = x.more; derives = inr x.derives })
    ]
starts (maybe g) d t e token is =
    let x = starts g (and_parts (is_decided g) (not (nullable g)) d).0 t e token is in
    record { item = Some x.item; more = x.more; derives = x.derives }
starts (many g) d t e token is =
    let p = and_parts (is_decided g && not (nullable g)) (are_apart (tails g) (firsts g)) d in
    let x = starts g (and_parts (is_decided g) (not (nullable g)) p.0).0 t e token is in
    record {
      item = x.item ∷ [];
      more = x.more;
      derives = (
        token ∷ x.more,
        [],
        sym (append-nil (token ∷ x.more)),
        x.derives,
        refl,
      );
    }
starts (change f g) d t e token is =
    let x = starts g d t e token is in
    record { item = f x.item; more = x.more; derives = (x.item, refl, x.derives) }
