-- Where no node leads to itself, each ends; and each constant has a value.
use Rattle.std.proofs.Common.{◌≡◌, ℕ, ℤ, zero, suc, ◌+◌, ◌<◌, ◌≤◌, Bool, true, false, cond, nat_eq, List, [], ◌∷◌}
use Rattle.std.proofs.Common.{length, slice_get, Option, Some, None, is_none, option_map, option_and_then, refl, sym}
use Rattle.std.proofs.Common.{ap, subst, ◌∙◌, arith, inl, inr, pos, ◌+ℤ◌}
use Rattle.std.specs.Str.{bytes_eq}
use Rattle.std.specs.Cmp.{IsEquivalence}
use Rattle.std.specs.List.{AllByRecursion, IsDistinct, list_any}
use Rattle.std.proofs.lemmas.Bool.{false_from_ne_true, false≢true, or_cases, or_left, or_right}
use Rattle.std.proofs.lemmas.Bool.Decides.{same_from_decides, Decides-eqb}
use Rattle.std.proofs.lemmas.Map.Made.{length-le_from_is_member}
use Rattle.std.proofs.lemmas.Option.{slice_get_within}
use Rattle.std.proofs.lemmas.List.{length-map}
use Rattle.xg_parse.specs.declared.tree.ConstWord.{ConstWord}
use Rattle.xg_parse.specs.declared.tree.ConstWord.TheVariants as consts
use Rattle.xg_check.specs.Places.{place_of}
use Rattle.xg_check.specs.Graphs.{Step, Leads, at_once, Ends, ends}
use Rattle.xg_check.specs.Constants.{Given, word, first, next, ConstantDef, constant_names, signed, given_value}
use Rattle.xg_check.specs.Constants.{constant_value, value_within, value_at, value_of, one_or_none, given_source}
use Rattle.xg_check.specs.Constants.{ways_from, constant_ways}
use Rattle.xg_check.specs.Judged.{is_unknown_constant}
use Rattle.xg_check.proofs.GraphLaws.{snoc}
use Rattle.xg_check.proofs.SearchLaws.{same_or_not}

-- ---- numbers that differ and are below one are no more than it

nat_laws : IsEquivalence nat_eq
nat_laws = record {
  refl = λ x. (Decides-eqb x x).1 refl;
  symm = λ x y. same_from_decides (nat_eq x y) (nat_eq y x) ((Decides-eqb x y).0, (Decides-eqb x y).1)
      (λ e. sym ((Decides-eqb y x).0 e), λ e. (Decides-eqb y x).1 (sym e));
  congr = λ x y z h. ap (λ (w : ℕ). nat_eq w z) ((Decides-eqb x y).0 h);
}

numbers_below : ℕ → List ℕ
numbers_below zero = []
numbers_below (suc n) = n ∷ numbers_below n

length_below : (n : ℕ) → length (numbers_below n) ≡ n
unfolding numbers_below
length_below zero = refl
length_below (suc n) = ap suc (length_below n)

is_below : (n q : ℕ) → q < n → list_any (nat_eq q) (numbers_below n) ≡ true
unfolding numbers_below
is_below zero q lt = absurd (omega (arith, lt))
is_below (suc n) q lt = elim (same_or_not q n) [
  | inl same ↦ or_left (nat_eq q n) (list_any (nat_eq q) (numbers_below n)) ((Decides-eqb q n).1 same)
  | inr ne ↦ or_right (nat_eq q n) (list_any (nat_eq q) (numbers_below n)) (is_below n q (omega (arith, lt, ne)))
]

all_below : (n : ℕ) (xs : List ℕ) → AllByRecursion (λ i. i < n) xs → (q : ℕ) → list_any (nat_eq q) xs ≡ true
    → list_any (nat_eq q) (numbers_below n) ≡ true
all_below n [] all q e = absurd (false≢true e)
all_below n (x ∷ xs) all q e = elim (or_cases (nat_eq q x) (list_any (nat_eq q) xs) e) [
  | inl h ↦ is_below n q (subst (λ (k : ℕ). k < n) (sym ((Decides-eqb q x).0 h)) all.0)
  | inr h ↦ all_below n xs all.1 q h
]

pub few : (n : ℕ) (xs : List ℕ) → IsDistinct nat_eq xs → AllByRecursion (λ i. i < n) xs → length xs ≤ n
few n xs differ all =
    let le : length xs ≤ length (numbers_below n) =
    length-le_from_is_member nat_laws xs (numbers_below n) differ (all_below n xs all) in
    omega (arith, le, length_below n)

-- ---- ways of which none returns

module _ (g : List (List ℕ)) (none : (i : ℕ) → Leads g i i → ⊥) where
  not_seen : (i : ℕ) (seen : List ℕ) → AllByRecursion (λ v. Leads g v i) seen
      → AllByRecursion (λ v. nat_eq i v ≡ false) seen
  not_seen i [] h = tt
  not_seen i (v ∷ seen) h = (
    false_from_ne_true (nat_eq i v)
        (λ e. none i (subst (λ (k : ℕ). Leads g k i) (sym ((Decides-eqb i v).0 e)) h.0)),
    not_seen i seen h.1,
  )

  all_on : (i j : ℕ) (seen : List ℕ) → Step g i j → AllByRecursion (λ v. Leads g v i) seen
      → AllByRecursion (λ v. Leads g v j) seen
  all_on i j [] s h = tt
  all_on i j (v ∷ seen) s h = (snoc g v i j h.0 s, all_on i j seen s h.1)

  -- no more nodes can be seen on the way to one than there are
  pub none_left : (i : ℕ) (seen : List ℕ) → i < length g → AllByRecursion (λ v. v < length g) seen
      → AllByRecursion (λ v. Leads g v i) seen → IsDistinct nat_eq seen → length g ≤ length seen → ⊥
  unfolding IsDistinct
  none_left i seen lt all leads differ le =
      let h = few (length g) (i ∷ seen) (not_seen i seen leads, differ) (lt, all) in
      omega (arith, h, le)

  pub seen_more : (i : ℕ) (seen : List ℕ) → AllByRecursion (λ v. Leads g v i) seen → IsDistinct nat_eq seen
      → IsDistinct nat_eq (i ∷ seen)
  unfolding IsDistinct
  seen_more i seen leads differ = (not_seen i seen leads, differ)

  -- so each node ends, where each leads to nodes that are there
  ends_within : ((i j : ℕ) → Step g i j → j < length g) → (n i : ℕ) (seen : List ℕ) → i < length g
      → AllByRecursion (λ v. v < length g) seen → AllByRecursion (λ v. Leads g v i) seen → IsDistinct nat_eq seen
      → length g ≤ length seen + n → Ends g i
  ends_within inside zero i seen lt all leads differ le =
      absurd (none_left i seen lt all leads differ (omega (arith, le)))
  ends_within inside (suc n) i seen lt all leads differ le =
      ends i (λ j s. ends_within inside n j (i ∷ seen) (inside i j s) (lt, all)
      (at_once i j s, all_on i j seen s leads) (seen_more i seen leads differ) (omega (arith, le)))

  pub each_ends : ((i j : ℕ) → Step g i j → j < length g) → (i : ℕ) → i < length g → Ends g i
  unfolding IsDistinct
  each_ends inside i lt = ends_within inside (length g) i [] lt tt tt tt (omega arith)

-- ---- values

abbrev pub GivenKnown : List ConstantDef → Given → Type 0
GivenKnown cs (word w) = is_unknown_constant cs w ≡ false
GivenKnown cs first = Unit {0}
GivenKnown cs next = Unit {0}

pub at_ways : (all : List ConstantDef) (k : ℕ) (cs : List ConstantDef) (i : ℕ) (c : ConstantDef)
    → slice_get cs i ≡ Some c
    → slice_get (ways_from all k cs) i ≡ Some (one_or_none (given_source all (k + i) c.given))
at_ways all k [] i c e = absurd cc
at_ways all k (d ∷ cs) zero c e =
    let is : d ≡ c = cc in
    let at : k + 0 ≡ k = omega arith in
    ap Some (ap (λ (x : ConstantDef). one_or_none (given_source all k x.given)) is
    ∙ ap (λ (n : ℕ). one_or_none (given_source all n c.given)) (sym at))
at_ways all k (d ∷ cs) (suc i) c e =
    let at : suc k + i ≡ k + suc i = omega arith in
    at_ways all (suc k) cs i c e ∙ ap (λ (n : ℕ). Some (one_or_none (given_source all n c.given))) at

pub length_ways : (all : List ConstantDef) (k : ℕ) (cs : List ConstantDef) → length (ways_from all k cs) ≡ length cs
length_ways all k [] = refl
length_ways all k (c ∷ cs) = ap suc (length_ways all (suc k) cs)

-- where a constant has its value from, it leads to
pub source_step : (cs : List ConstantDef) (i j : ℕ) (c : ConstantDef) → slice_get cs i ≡ Some c
    → given_source cs i c.given ≡ Some j → Step (constant_ways cs) i j
source_step cs i j c at e =
    let zeroth : zero + i ≡ i = omega arith in
    record {
      next = one_or_none (given_source cs i c.given);
      from = at_ways cs 0 cs i c at ∙ ap (λ (n : ℕ). Some (one_or_none (given_source cs n c.given))) zeroth;
      place = 0;
      to = ap (λ (o : Option ℕ). slice_get (one_or_none o) 0) e;
    }

pub place_inside : (name : List ℕ) (names : List (List ℕ)) (i : ℕ) → place_of name names ≡ Some i → i < length names
place_inside name [] i e = absurd cc
place_inside name (n ∷ names) i e = by_test (bytes_eq name n) e
    (λ j h. place_inside name names j h)
  where
    by_test : (b : Bool) → cond b (Some 0) (option_map suc (place_of name names)) ≡ Some i
        → ((j : ℕ) → place_of name names ≡ Some j → j < length names) → i < suc (length names)
    by_test true h more = let is : 0 ≡ i = cc in omega (arith, is)
    by_test false h more = by_place (place_of name names) refl h
      where
        by_place : (o : Option ℕ) → place_of name names ≡ o → option_map suc o ≡ Some i → i < suc (length names)
        by_place None at f = absurd cc
        by_place (Some j) at f = let is : suc j ≡ i = cc in omega (arith, is, more j at)

module _ (cs : List ConstantDef) (none : (i : ℕ) → Leads (constant_ways cs) i i → ⊥)
    (known : (i : ℕ) (c : ConstantDef) → slice_get cs i ≡ Some c → GivenKnown cs c.given)
    (behind : (c : ConstantDef) → slice_get cs 0 ≡ Some c → c.given ≡ next → ⊥) where
  same_length : length (constant_ways cs) ≡ length cs
  same_length = length_ways cs 0 cs

  given_exists : (n i : ℕ) (c : ConstantDef) (g : Given) → slice_get cs i ≡ Some c → c.given ≡ g
      → ((j : ℕ) → given_source cs i g ≡ Some j → (z : ℤ) × (value_within n cs j ≡ Some z))
      → (z : ℤ) × (given_value (value_within n cs) cs i g ≡ Some z)
  given_exists n i c (word (consts.Literal minus m)) at is go = (signed minus m, refl)
  given_exists n i c (word (consts.Name name)) at is go = by_place (place_of name (constant_names cs)) refl known_here
    where
      known_here : is_none (place_of name (constant_names cs)) ≡ false
      known_here = subst (GivenKnown cs) is (known i c at)

      by_place : (o : Option ℕ) → place_of name (constant_names cs) ≡ o → is_none o ≡ false
          → (z : ℤ) × (option_and_then (value_within n cs) (place_of name (constant_names cs)) ≡ Some z)
      by_place None e h = absurd (false≢true (sym h))
      by_place (Some j) e h =
          let v = go j e in
          (v.0, ap (option_and_then (value_within n cs)) e ∙ v.1)
  given_exists n i c first at is go = (pos 0, refl)
  given_exists n zero c next at is go = absurd (behind c at is)
  given_exists n (suc i) c next at is go =
      let v = go i refl in (v.0 +ℤ pos 1, ap (option_map (λ z. z +ℤ pos 1)) v.1)

  source_inside : (i j : ℕ) (c : ConstantDef) (g : Given) → slice_get cs i ≡ Some c → given_source cs i g ≡ Some j
      → j < length cs
  source_inside i j c (word (consts.Literal minus m)) at e = absurd cc
  source_inside i j c (word (consts.Name name)) at e =
      omega (arith, place_inside name (constant_names cs) j e, length-map cs (λ (d : ConstantDef). d.name))
  source_inside i j c first at e = absurd cc
  source_inside zero j c next at e = absurd cc
  source_inside (suc i) j c next at e =
      let is : i ≡ j = cc in omega (arith, is, slice_get_within cs (suc i) c at)

  exists_within : (n i : ℕ) (seen : List ℕ) → i < length cs → AllByRecursion (λ v. v < length (constant_ways cs)) seen
      → AllByRecursion (λ v. Leads (constant_ways cs) v i) seen → IsDistinct nat_eq seen
      → length cs ≤ length seen + n → (z : ℤ) × (value_within n cs i ≡ Some z)
  unfolding value_within
  exists_within zero i seen lt all leads differ le =
      absurd (none_left (constant_ways cs) none i seen (omega (arith, lt, same_length)) all leads differ
      (omega (arith, le, same_length)))
  exists_within (suc n) i seen lt all leads differ le = by_read (slice_get cs i) refl
      (λ j s small. exists_within n j (i ∷ seen) small (omega (arith, lt, same_length), all)
      (at_once i j s, all_on (constant_ways cs) none i j seen s leads)
      (seen_more (constant_ways cs) none i seen leads differ) (omega (arith, le)))
    where
      by_read : (o : Option ConstantDef) → slice_get cs i ≡ o
          → ((j : ℕ) → Step (constant_ways cs) i j → j < length cs → (z : ℤ) × (value_within n cs j ≡ Some z))
          → (z : ℤ) × (constant_value (value_within n cs) cs i o ≡ Some z)
      by_read None at go = absurd (omega (arith, lt, past))
        where
          past : length cs ≤ i
          past = no_item cs i at
            where
              no_item : (ds : List ConstantDef) (k : ℕ) → slice_get ds k ≡ None → length ds ≤ k
              no_item [] k e = omega arith
              no_item (d ∷ ds) zero e = absurd cc
              no_item (d ∷ ds) (suc k) e = omega (arith, no_item ds k e)
      by_read (Some c) at go =
          given_exists n i c c.given at refl
          (λ j e. go j (source_step cs i j c at e) (source_inside i j c c.given at e))

  -- each constant has a value
  pub exists_at : (i : ℕ) → i < length cs → (z : ℤ) × (value_at cs i ≡ Some z)
  unfolding value_at IsDistinct
  exists_at i lt = exists_within (length cs) i [] lt tt tt tt (omega arith)

  -- and so has each word that is known
  pub word_exists : (w : ConstWord) → is_unknown_constant cs w ≡ false → (z : ℤ) × (value_of cs w ≡ Some z)
  word_exists (consts.Literal minus m) h = (signed minus m, refl)
  word_exists (consts.Name name) h = by_place (place_of name (constant_names cs)) refl h
    where
      by_place : (o : Option ℕ) → place_of name (constant_names cs) ≡ o → is_none o ≡ false
          → (z : ℤ) × (option_and_then (value_at cs) (place_of name (constant_names cs)) ≡ Some z)
      by_place None e k = absurd (false≢true (sym k))
      by_place (Some j) e k =
          let lt : j < length cs =
          omega (arith, place_inside name (constant_names cs) j e, length-map cs (λ (d : ConstantDef). d.name)) in
          let v = exists_at j lt in
          (v.0, ap (option_and_then (value_at cs)) e ∙ v.1)
