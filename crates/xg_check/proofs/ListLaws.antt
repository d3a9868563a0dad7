-- Lists that are made one item at a time.
use Rattle.std.proofs.Common.{◌≡◌, ℕ, zero, suc, ◌+◌, ◌<◌, Bool, true, cond, nat_eq, List, [], ◌∷◌, ◌++◌, length}
use Rattle.std.proofs.Common.{get_or, take, map, refl, ap, sym, subst, ◌∙◌, arith, append_assoc}
use Rattle.std.proofs.lemmas.Bool.{false_from_ne_true}
use Rattle.std.proofs.lemmas.Bool.Decides.{Decides-eqb}
use Rattle.std.proofs.lemmas.List.{get_or-map, map-append, map_more, length-map}
use Rattle.xg_parse.specs.declared.tree.MembItem.{MembItem}
use Rattle.xg_check.specs.Constants.{Given, next, ConstantDef, given_or, members_from}

-- the member at a place
abbrev pub member_at : Given → ℕ → MembItem → ConstantDef
member_at other i m =
    record { name = m.name; given = given_or (cond (nat_eq i 0) other next) m.value; is_member = true }

-- each but the first follows the one before
given_behind : (other : Given) (i : ℕ) → cond (nat_eq (suc i) 0) other next ≡ next
given_behind other i = ap (λ (b : Bool). cond b other next)
    (false_from_ne_true (nat_eq (suc i) 0) (λ e. absurd (omega (arith, (Decides-eqb (suc i) 0).0 e))))

pub members-more : (other : Given) (ms : List MembItem) (i : ℕ) (d : MembItem) → i < length ms
    → members_from other (take (suc i) ms) ≡ members_from other (take i ms) ++ member_at other i (get_or ms i d) ∷ []
members-more other [] i d h = absurd (omega (arith, h))
members-more other (m ∷ ms) zero d h = refl
members-more other (m ∷ ms) (suc zero) d h = ap (λ (xs : List ConstantDef). member_at other 0 m ∷ xs)
    (members-more next ms 0 d (omega (arith, h)))
members-more other (m ∷ ms) (suc (suc i)) d h =
    ap (λ (xs : List ConstantDef). member_at other 0 m ∷ xs) (members-more next ms (suc i) d (omega (arith, h)))
    ∙ ap (λ (g : Given). member_at other 0 m ∷ (members_from next (take (suc i) ms)
    ++ record {
      name = (get_or ms (suc i) d).name;
      given = given_or g (get_or ms (suc i) d).value;
      is_member =
          true;
    } ∷ []))
    (given_behind next i ∙ sym (given_behind other (suc i)))

-- the image of a list of images, one item more
pub image-more : {V A B P : Type 0} (items : V → B) (f : A → B) (now : P → A) (vs new : List V) (ps : List P)
    (k : ℕ) (v : V)
    (p : P) → map items vs ≡ map f (take k (map now ps)) → new ≡ vs ++ v ∷ [] → k < length ps → p ≡ get_or ps k p
    → items v ≡ f (now p) → map items new ≡ map f (take (k + 1) (map now ps))
image-more {V} {A} {B} {P} items f now vs new ps k v p old pushed lt at is =
    ap (map items) pushed ∙ map-append items vs (v ∷ [])
    ∙ ap (λ (xs : List B). xs ++ items v ∷ []) old
    ∙ ap (λ (b : B). map f (take k (map now ps)) ++ b ∷ [])
    (is ∙ ap f (ap now at ∙ sym (get_or-map now ps k p (now p) lt)))
    ∙ sym (map_more f (map now ps) k (now p) (omega (arith, lt, length-map ps now)))

-- ---- one item more, where the count goes up

pub members_more : (other : Given) (ms : List MembItem) (i : ℕ) (d : MembItem) → i < length ms
    → members_from other (take (i + 1) ms) ≡ members_from other (take i ms) ++ member_at other i (get_or ms i d) ∷ []
members_more other ms i d h =
    let e : suc i ≡ i + 1 = omega arith in
    subst (λ (n : ℕ). members_from other (take n ms) ≡ members_from other (take i ms)
    ++ member_at other i (get_or ms i d) ∷ [])
    e (members-more other ms i d h)

pub map_push : {X A : Type 0} (f : X → A) (xs : List X) (x : X) → map f (xs ++ x ∷ []) ≡ map f xs ++ f x ∷ []
map_push f xs x = map-append f xs (x ∷ [])

module _ {X A : Type 0} (f : X → A) (new cur : List X) where
  -- a list seen through a function, with one item pushed
  pub push_step : (v : X) (a b : List A) (w : A) → new ≡ cur ++ v ∷ [] → map f cur ≡ a → b ≡ a ++ w ∷ [] → f v ≡ w
      → map f new ≡ b
  push_step v a b w is was more here =
      ap (map f) is ∙ map_push f cur v ∙ ap (λ (zs : List A). zs ++ f v ∷ []) was
      ∙ ap (λ (y : A). a ++ y ∷ []) here ∙ sym more

  -- the same behind what was there
  pub push_behind : (v : X) (old a b : List A) (w : A) → new ≡ cur ++ v ∷ [] → map f cur ≡ old ++ a → b ≡ a ++ w ∷ []
      → f v ≡ w → map f new ≡ old ++ b
  push_behind v old a b w is was more here =
      ap (map f) is ∙ map_push f cur v ∙ ap (λ (zs : List A). zs ++ f v ∷ []) was
      ∙ ap (λ (y : A). (old ++ a) ++ y ∷ []) here
      ∙ append_assoc old a (w ∷ []) ∙ ap (λ (zs : List A). old ++ zs) (sym more)
