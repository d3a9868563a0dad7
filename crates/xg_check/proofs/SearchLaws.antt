-- What a search through a graph keeps, step by step.
use Rattle.std.proofs.Common.{◌≡◌, ℕ, zero, suc, ◌+◌, ◌<◌, ◌≤◌, Bool, true, false, List, [], ◌∷◌, ◌++◌, length, get_or}
use Rattle.std.proofs.Common.{set, replicate, slice_get, Option, Some, refl, sym, ap, subst, ◌∙◌, arith, ◌⊎◌, inl, inr}
use Rattle.std.proofs.lemmas.List.{length-append, length-set}
use Rattle.std.proofs.lemmas.Option.{slice_get-get_or, slice_get_within}
use Rattle.xg_check.specs.Graphs.{Step, IsReached, start, step, AreReached}
use Rattle.xg_check.specs.Searching.{marked_count, AreListed, AreAdded, IsReaching}

-- what stands at a place is there
within : {A : Type 0} (xs : List A) (i : ℕ) (x : A) → slice_get xs i ≡ Some x → i < length xs
within xs i x e = slice_get_within xs i x e

-- ---- lists with one item more

pub at_front : {A : Type 0} (xs : List A) (y x : A) (i : ℕ) → slice_get xs i ≡ Some x
    → slice_get (xs ++ y ∷ []) i ≡ Some x
at_front [] y x i e = absurd cc
at_front (a ∷ xs) y x zero e = e
at_front (a ∷ xs) y x (suc i) e = at_front xs y x i e

pub at_end : {A : Type 0} (xs : List A) (y : A) → slice_get (xs ++ y ∷ []) (length xs) ≡ Some y
at_end [] y = refl
at_end (a ∷ xs) y = at_end xs y

pub of_pushed : {A : Type 0} (xs : List A) (y x : A) (i : ℕ) → slice_get (xs ++ y ∷ []) i ≡ Some x
    → (slice_get xs i ≡ Some x) ⊎ ((i ≡ length xs) × (x ≡ y))
of_pushed [] y x zero e = inr (refl, cc)
of_pushed [] y x (suc i) e = absurd cc
of_pushed (a ∷ xs) y x zero e = inl e
of_pushed (a ∷ xs) y x (suc i) e = elim (of_pushed xs y x i e) [
  | inl h ↦ inl h
  | inr h ↦ inr (ap suc h.0, h.1)
]

-- ---- a list with one item changed

pub set_here : {A : Type 0} (xs : List A) (i : ℕ) (y : A) → i < length xs → slice_get (set xs i y) i ≡ Some y
set_here [] i y h = absurd (omega (arith, h))
set_here (a ∷ xs) zero y h = refl
set_here (a ∷ xs) (suc i) y h = set_here xs i y (omega (arith, h))

pub set_there : {A : Type 0} (xs : List A) (i j : ℕ) (y : A) → (j ≡ i → ⊥) → slice_get (set xs i y) j ≡ slice_get xs j
set_there [] i j y ne = refl
set_there (a ∷ xs) zero zero y ne = absurd (ne refl)
set_there (a ∷ xs) zero (suc j) y ne = refl
set_there (a ∷ xs) (suc i) zero y ne = refl
set_there (a ∷ xs) (suc i) (suc j) y ne = set_there xs i j y (λ e. ne (ap suc e))

pub same_or_not : (i j : ℕ) → (i ≡ j) ⊎ (i ≡ j → ⊥)
same_or_not zero zero = inl refl
same_or_not zero (suc j) = inr (λ e. omega (arith, e))
same_or_not (suc i) zero = inr (λ e. omega (arith, e))
same_or_not (suc i) (suc j) = elim (same_or_not i j) [
  | inl e ↦ inl (ap suc e)
  | inr ne ↦ inr (λ e. ne (omega (arith, e)))
]

-- ---- marks

pub count-le : (marks : List Bool) → marked_count marks ≤ length marks
count-le [] = omega arith
count-le (true ∷ marks) = omega (arith, count-le marks)
count-le (false ∷ marks) = omega (arith, count-le marks)

pub count-set : (marks : List Bool) (i : ℕ) → slice_get marks i ≡ Some false
    → marked_count (set marks i true) ≡ suc (marked_count marks)
count-set [] i e = absurd cc
count-set (true ∷ marks) zero e = absurd cc
count-set (false ∷ marks) zero e = refl
count-set (true ∷ marks) (suc i) e = ap suc (count-set marks i e)
count-set (false ∷ marks) (suc i) e = count-set marks i e

-- a mark is set or not
pub mark_at : (marks : List Bool) (i : ℕ) → i < length marks
    → (slice_get marks i ≡ Some true) ⊎ (slice_get marks i ≡ Some false)
mark_at [] i h = absurd (omega (arith, h))
mark_at (true ∷ marks) zero h = inl refl
mark_at (false ∷ marks) zero h = inr refl
mark_at (b ∷ marks) (suc i) h = mark_at marks i (omega (arith, h))

pub not_both : {A : Type 0} (o : Option Bool) → o ≡ Some true → o ≡ Some false → A
not_both o e h = let both : Some true ≡ Some false = sym e ∙ h in absurd cc

-- ---- one node more

now_marked : (marks : List Bool) (i j : ℕ) → i < length marks → slice_get (set marks i true) j ≡ Some true
    → (slice_get marks j ≡ Some true) ⊎ (j ≡ i)
now_marked marks i j lt h = elim (same_or_not j i) [
  | inl e ↦ inr e
  | inr ne ↦ inl (sym (set_there marks i j true ne) ∙ h)
]

still_marked : (marks : List Bool) (i j : ℕ) → i < length marks → slice_get marks j ≡ Some true
    → slice_get (set marks i true) j ≡ Some true
still_marked marks i j lt h = elim (same_or_not j i) [
  | inl e ↦ subst (λ (n : ℕ). slice_get (set marks i true) n ≡ Some true) (sym e) (set_here marks i true lt)
  | inr ne ↦ set_there marks i j true ne ∙ h
]

-- a node that wasn't marked is marked and listed
pub marked_now : (marks : List Bool) (nodes : List ℕ) (i : ℕ) → AreListed marks nodes → i < length marks
    → slice_get marks i ≡ Some false → AreAdded marks (set marks i true) nodes (nodes ++ i ∷ []) (i ∷ [])
marked_now marks nodes i listed lt e = record {
  size = length-set marks i true;
  listed = record {
    there = there;
    place = place;
    count = count-set marks i e ∙ (ap suc listed.count ∙ longer);
  };
  kept = λ j h. still_marked marks i j lt h;
  added_are = one;
  only = only;
  grown = λ k j h. at_front nodes i j k h;
}
  where
    longer : suc (length nodes) ≡ length (nodes ++ i ∷ [])
    longer = omega (arith, length-append nodes (i ∷ []))

    here : slice_get (set marks i true) i ≡ Some true
    here = set_here marks i true lt

    one : (p j : ℕ) → slice_get (i ∷ []) p ≡ Some j → slice_get (set marks i true) j ≡ Some true
    one zero j h = let same : i ≡ j = cc in subst (λ (n : ℕ). slice_get (set marks i true) n ≡ Some true) same here
    one (suc p) j h = absurd cc

    there : (k j : ℕ) → slice_get (nodes ++ i ∷ []) k ≡ Some j → slice_get (set marks i true) j ≡ Some true
    there k j h = elim (of_pushed nodes i j k h) [
      | inl old ↦ still_marked marks i j lt (listed.there k j old)
      | inr new ↦ subst (λ (n : ℕ). slice_get (set marks i true) n ≡ Some true) (sym new.1) here
    ]

    place : (j : ℕ) → slice_get (set marks i true) j ≡ Some true
        → (k : ℕ) × (slice_get (nodes ++ i ∷ []) k ≡ Some j)
    place j h = elim (now_marked marks i j lt h) [
      | inl old ↦ let p = listed.place j old in (p.0, at_front nodes i j p.0 p.1)
      | inr e' ↦ (
        length nodes,
        subst (λ (n : ℕ). slice_get (nodes ++ i ∷ []) (length nodes) ≡ Some n) (sym e')
            (at_end nodes i),
      )
    ]

    only : (j : ℕ) → slice_get (set marks i true) j ≡ Some true
        → (slice_get marks j ≡ Some true) ⊎ ((p : ℕ) × (slice_get (i ∷ []) p ≡ Some j))
    only j h = elim (now_marked marks i j lt h) [
      | inl old ↦ inl old
      | inr e' ↦ inr (0, ap Some (sym e'))
    ]

-- ---- more nodes

pub added_more : (m0 m1 m2 : List Bool) (n0 n1 n2 : List ℕ) (xs : List ℕ) (x : ℕ) → AreAdded m0 m1 n0 n1 xs
    → AreAdded m1 m2 n1 n2 (x ∷ []) → AreAdded m0 m2 n0 n2 (xs ++ x ∷ [])
added_more m0 m1 m2 n0 n1 n2 xs x a b = record {
  size = b.size ∙ a.size;
  listed = b.listed;
  kept = λ i h. b.kept i (a.kept i h);
  added_are = added_are;
  only = only;
  grown = λ k i h. b.grown k i (a.grown k i h);
}
  where
    added_are : (p i : ℕ) → slice_get (xs ++ x ∷ []) p ≡ Some i → slice_get m2 i ≡ Some true
    added_are p i h = elim (of_pushed xs x i p h) [
      | inl old ↦ b.kept i (a.added_are p i old)
      | inr new ↦ b.added_are 0 i (ap Some (sym new.1))
    ]

    was : (i : ℕ) → (slice_get m1 i ≡ Some true)
        → (slice_get m0 i ≡ Some true) ⊎ ((p : ℕ) × (slice_get (xs ++ x ∷ []) p ≡ Some i))
    was i h = elim (a.only i h) [
      | inl old ↦ inl old
      | inr new ↦ inr (new.0, at_front xs x i new.0 new.1)
    ]

    last : (i p : ℕ) → slice_get (x ∷ []) p ≡ Some i → (q : ℕ) × (slice_get (xs ++ x ∷ []) q ≡ Some i)
    last i zero h = let same : x ≡ i = cc in
        (length xs, subst (λ (n : ℕ). slice_get (xs ++ x ∷ []) (length xs) ≡ Some n) same (at_end xs x))
    last i (suc p) h = absurd cc

    only : (i : ℕ) → slice_get m2 i ≡ Some true
        → (slice_get m0 i ≡ Some true) ⊎ ((p : ℕ) × (slice_get (xs ++ x ∷ []) p ≡ Some i))
    only i h = elim (b.only i h) [
      | inl old ↦ was i old
      | inr new ↦ inr (last i new.0 new.1)
    ]

-- ---- what is reached

module _ (g : List (List ℕ)) (starts : List ℕ) (m0 m1 : List Bool) (n0 n1 : List ℕ) (at node : ℕ) (next : List ℕ) where
  -- the ways from one more were followed
  pub followed_more : IsReaching g starts m0 n0 at → slice_get n0 at ≡ Some node → slice_get g node ≡ Some next
      → AreAdded m0 m1 n0 n1 next → IsReaching g starts m1 n1 (at + 1)
  followed_more r here from a = record {
    size = a.size ∙ r.size;
    listed = a.listed;
    started = λ p i h. a.kept i (r.started p i h);
    reached = reached;
    follows = follows;
  }
    where
      reached : (i : ℕ) → slice_get m1 i ≡ Some true → IsReached g starts i
      reached i h = elim (a.only i h) [
        | inl old ↦ r.reached i old
        | inr new ↦ step node i (r.reached node (r.listed.there at node here))
            (record { next = next; from = from; place = new.0; to = new.1 })
      ]

      from_node : (j : ℕ) → Step g node j → slice_get m1 j ≡ Some true
      from_node j s =
          let both : Some s.next ≡ Some next = sym s.from ∙ from in
          let same : s.next ≡ next = cc in
          a.added_are s.place j (subst (λ (xs : List ℕ). slice_get xs s.place ≡ Some j) same s.to)

      before : (k : ℕ) → k < at + 1 → (k < at) ⊎ (k ≡ at)
      before k lt = by_cases (same_or_not k at)
        where
          by_cases : (k ≡ at) ⊎ (k ≡ at → ⊥) → (k < at) ⊎ (k ≡ at)
          by_cases (inl e') = inr e'
          by_cases (inr ne) = inl (omega (arith, lt, ne))

      old_node : (k i : ℕ) → k < length n0 → slice_get n1 k ≡ Some i → slice_get n0 k ≡ Some i
      old_node k i lt e =
          let x = get_or n0 k i in
          let old : slice_get n0 k ≡ Some x = slice_get-get_or n0 k i lt in
          let both : Some x ≡ Some i = sym (a.grown k x old) ∙ e in
          old ∙ both

      follows : (k i j : ℕ) → k < at + 1 → slice_get n1 k ≡ Some i → Step g i j → slice_get m1 j ≡ Some true
      follows k i j lt e s = elim (before k lt) [
        | inl less ↦
            let there : at < length n0 = within n0 at node here in
            a.kept j (r.follows k i j less (old_node k i (omega (arith, less, there)) e) s)
        | inr same ↦
            let there : at < length n0 = within n0 at node here in
            let at_k : slice_get n0 at ≡ Some i =
            subst (λ (n : ℕ). slice_get n0 n ≡ Some i) same (old_node k i (omega (arith, same, there)) e) in
            let both : Some node ≡ Some i = sym here ∙ at_k in
            let is : i ≡ node = cc in
            from_node j (subst (λ (n : ℕ). Step g n j) is s)
      ]

-- where the ways from all were followed, the marks are those of what is reached
pub all_followed : (g : List (List ℕ)) (starts : List ℕ) (marks : List Bool) (nodes : List ℕ) (at : ℕ)
    → IsReaching g starts marks nodes at → length nodes ≤ at → AreReached g starts marks
all_followed g starts marks nodes at r le = record {
  size = r.size;
  marked = r.reached;
  unmarked = λ i e h. not_both (slice_get marks i) (is_marked i h) e;
}
  where
    is_marked : (i : ℕ) → IsReached g starts i → slice_get marks i ≡ Some true
    is_marked i (start j p h) = r.started p i h
    is_marked i (step m j h s) =
        let p = r.listed.place m (is_marked m h) in
        r.follows p.0 m i (omega (arith, within nodes p.0 m p.1, le)) p.1 s

-- no more are listed than there are nodes
pub listed-le : (marks : List Bool) (nodes : List ℕ) → AreListed marks nodes → length nodes ≤ length marks
listed-le marks nodes listed = omega (arith, count-le marks, listed.count)

-- what was marked as starts is what is reached, before any way was followed
pub reaching_starts : (g : List (List ℕ)) (starts : List ℕ) (m0 m1 : List Bool) (n0 n1 : List ℕ)
    → length m0 ≡ length g → ((i : ℕ) → slice_get m0 i ≡ Some true → ⊥) → AreAdded m0 m1 n0 n1 starts
    → IsReaching g starts m1 n1 0
reaching_starts g starts m0 m1 n0 n1 size none a = record {
  size = a.size ∙ size;
  listed = a.listed;
  started = a.added_are;
  reached = reached;
  follows = λ k i j lt e s. absurd (omega (arith, lt));
}
  where
    reached : (i : ℕ) → slice_get m1 i ≡ Some true → IsReached g starts i
    reached i h = elim (a.only i h) [
      | inl old ↦ absurd (none i old)
      | inr new ↦ start i new.0 new.1
    ]

-- ---- the beginning

pub none_marked : (n i : ℕ) → slice_get (replicate n false) i ≡ Some true → ⊥
none_marked zero i e = absurd cc
none_marked (suc n) zero e = absurd cc
none_marked (suc n) (suc i) e = none_marked n i e

pub count-none : (n : ℕ) → marked_count (replicate n false) ≡ 0
count-none zero = refl
count-none (suc n) = count-none n

pub none_listed : (n : ℕ) → AreListed (replicate n false) []
none_listed n = record {
  there = λ k i h. absurd cc;
  place = λ i h. absurd (none_marked n i h);
  count = count-none n;
}

pub is_true : (b : Bool) → (b ≡ false → ⊥) → b ≡ true
is_true true h = refl
is_true false h = absurd (h refl)
