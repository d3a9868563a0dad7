-- The values of constants, each found from that of the one that it leads to.
use Rattle.std.proofs.Common.{◌≡◌, ℕ, ℤ, zero, suc, ◌+◌, ◌<◌, ◌≤◌, Bool, true, false, nat_eq, List, [], ◌∷◌, length}
use Rattle.std.proofs.Common.{set, replicate, slice_get, Option, Some, None, option_map, option_and_then, refl, sym, ap}
use Rattle.std.proofs.Common.{subst, ◌∙◌, arith, ◌⊎◌, inl, inr, pos, ◌+ℤ◌}
use Rattle.std.specs.List.{AllByRecursion, IsDistinct}
use Rattle.std.proofs.lemmas.Bool.{false_from_ne_true}
use Rattle.std.proofs.lemmas.Bool.Decides.{Decides-eqb}
use Rattle.std.proofs.lemmas.Option.{slice_get_within}
use Rattle.std.proofs.lemmas.List.{length-map, length-set, length-replicate}
use Rattle.xg_parse.specs.declared.tree.ConstWord.TheVariants as consts
use Rattle.xg_check.specs.Graphs.{Step, Leads, at_once, Ends, ends, AreOrdered}
use Rattle.xg_check.specs.Places.{place_of}
use Rattle.xg_check.specs.Constants.{Given, word, first, next, ConstantDef, constant_names, given_value, constant_value}
use Rattle.xg_check.specs.Constants.{value_within, value_at, one_or_none, given_source, constant_ways}
use Rattle.xg_check.specs.Held.{flat, held_value, AreValues, AreFound}
use Rattle.xg_check.proofs.GraphLaws.{snoc, no_ring, marked_end}
use Rattle.xg_check.proofs.RingLaws.{few, place_inside, at_ways, length_ways, source_step}
use Rattle.xg_check.proofs.SearchLaws.{same_or_not, set_here, set_there}
use Rattle.xg_check.proofs.OrderLaws.{the_same}

-- a value comes from that of the constant that is led to, and from no other
given_same : (f h : ℕ → Option ℤ) (cs : List ConstantDef) (i : ℕ) (w : Given)
    → ((j : ℕ) → given_source cs i w ≡ Some j → f j ≡ h j) → given_value f cs i w ≡ given_value h cs i w
given_same f h cs i (word (consts.Literal minus n)) same = refl
given_same f h cs i (word (consts.Name name)) same = by_place (place_of name (constant_names cs)) same
  where
    by_place : (o : Option ℕ) → ((j : ℕ) → o ≡ Some j → f j ≡ h j) → option_and_then f o ≡ option_and_then h o
    by_place None k = refl
    by_place (Some j) k = k j refl
given_same f h cs i first same = refl
given_same f h cs zero next same = refl
given_same f h cs (suc i) next same = ap (option_map (λ z. z +ℤ pos 1)) (same i refl)

-- and where that has none, there is none
given_none : (f : ℕ → Option ℤ) (cs : List ConstantDef) (i j : ℕ) (w : Given)
    → given_source cs i w ≡ Some j → f j ≡ None → given_value f cs i w ≡ None
given_none f cs i j (word (consts.Literal minus n)) e none = absurd cc
given_none f cs i j (word (consts.Name name)) e none = ap (option_and_then f) e ∙ none
given_none f cs i j first e none = absurd cc
given_none f cs zero j next e none = absurd cc
given_none f cs (suc i) j next e none =
    let is : i ≡ j = cc in ap (option_map (λ z. z +ℤ pos 1)) (ap f is ∙ none)

past_end : {A : Type 0} (xs : List A) (i : ℕ) → slice_get xs i ≡ None → length xs ≤ i
past_end [] i e = omega arith
past_end (x ∷ xs) zero e = absurd cc
past_end (x ∷ xs) (suc i) e = omega (arith, past_end xs i e)

-- a constant leads to constants of the text
of_source : (cs : List ConstantDef) (i j : ℕ) (c : ConstantDef) (w : Given) → slice_get cs i ≡ Some c
    → given_source cs i w ≡ Some j → j < length cs
of_source cs i j c (word (consts.Literal minus m)) at e = absurd cc
of_source cs i j c (word (consts.Name name)) at e =
    omega (arith, place_inside name (constant_names cs) j e, length-map cs (λ (d : ConstantDef). d.name))
of_source cs i j c first at e = absurd cc
of_source cs zero j c next at e = absurd cc
of_source cs (suc i) j c next at e = let is : i ≡ j = cc in omega (arith, is, slice_get_within cs (suc i) c at)

-- ---- what is found of a node from those that it leads to

module _ (g : List (List ℕ)) where
  pub not_seen : (i : ℕ) (seen : List ℕ) → (Leads g i i → ⊥) → AllByRecursion (λ v. Leads g v i) seen
      → AllByRecursion (λ v. nat_eq i v ≡ false) seen
  not_seen i [] none h = tt
  not_seen i (v ∷ seen) none h = (
    false_from_ne_true (nat_eq i v)
        (λ e. none (subst (λ (k : ℕ). Leads g k i) (sym ((Decides-eqb i v).0 e)) h.0)),
    not_seen i seen none h.1,
  )

  pub all_on : (i j : ℕ) (seen : List ℕ) → Step g i j → AllByRecursion (λ v. Leads g v i) seen
      → AllByRecursion (λ v. Leads g v j) seen
  all_on i j [] s h = tt
  all_on i j (v ∷ seen) s h = (snoc g v i j h.0 s, all_on i j seen s h.1)

  pub seen_more : (i : ℕ) (seen : List ℕ) → (Leads g i i → ⊥) → AllByRecursion (λ v. Leads g v i) seen
      → IsDistinct nat_eq seen → IsDistinct nat_eq (i ∷ seen)
  unfolding IsDistinct
  seen_more i seen none leads differ = (not_seen i seen none leads, differ)

  pub none_left : (i : ℕ) (seen : List ℕ) → i < length g → (Leads g i i → ⊥) → AllByRecursion (λ v. v < length g) seen
      → AllByRecursion (λ v. Leads g v i) seen → IsDistinct nat_eq seen → length g ≤ length seen → ⊥
  none_left i seen lt none all leads differ le =
      let h = few (length g) (i ∷ seen) (seen_more i seen none leads differ) (lt, all) in omega (arith, h, le)

module _ {X : Type 0} (g : List (List ℕ)) (inside : (i j : ℕ) → Step g i j → j < length g) (w : ℕ → ℕ → X)
    (depends : (n m i : ℕ) → ((j : ℕ) → Step g i j → w n j ≡ w m j) → w (suc n) i ≡ w (suc m) i) where
  -- where all ways of a node end, one more step changes nothing
  stable : (n i : ℕ) (seen : List ℕ) → i < length g → Ends g i → AllByRecursion (λ v. v < length g) seen
      → AllByRecursion (λ v. Leads g v i) seen → IsDistinct nat_eq seen → length g ≤ length seen + n
      → w n i ≡ w (suc n) i
  stable zero i seen lt end all leads differ le =
      absurd (none_left g i seen lt (no_ring g i end) all leads differ (omega (arith, le)))
  stable (suc n) i seen lt (ends i' h) all leads differ le = depends n (suc n) i
      (λ j s. stable n j (i ∷ seen) (inside i j s) (h j s) (lt, all) (at_once i j s, all_on g i j seen s leads)
      (seen_more g i seen (no_ring g i (ends i h)) leads differ) (omega (arith, le)))

  pub settled : (i : ℕ) → i < length g → Ends g i → w (length g) i ≡ w (suc (length g)) i
  unfolding IsDistinct
  settled i lt end = stable (length g) i [] lt end tt tt tt (omega arith)

-- ---- the values of constants

module _ (cs : List ConstantDef) where
  same_size : length (constant_ways cs) ≡ length cs
  same_size = length_ways cs 0 cs

  from_step : (i j : ℕ) (c : ConstantDef) → slice_get cs i ≡ Some c → Step (constant_ways cs) i j
      → given_source cs i c.given ≡ Some j
  from_step i j c at s = by_source (given_source cs i c.given)
      (subst (λ (xs : List ℕ). slice_get xs s.place ≡ Some j) is s.to)
    where
      zeroth : zero + i ≡ i
      zeroth = omega arith

      is : s.next ≡ one_or_none (given_source cs i c.given)
      is = the_same (slice_get (constant_ways cs) i) s.next (one_or_none (given_source cs i c.given)) s.from
          (at_ways cs 0 cs i c at ∙ ap (λ (n : ℕ). Some (one_or_none (given_source cs n c.given))) zeroth)

      by_source : (o : Option ℕ) → slice_get (one_or_none o) s.place ≡ Some j → o ≡ Some j
      by_source None e = absurd cc
      by_source (Some k) e = by_place s.place e
        where
          by_place : (p : ℕ) → slice_get (k ∷ []) p ≡ Some j → Some k ≡ Some j
          by_place zero e' = e'
          by_place (suc p) e' = absurd cc

  inside : (i j : ℕ) → Step (constant_ways cs) i j → j < length (constant_ways cs)
  inside i j s = by_read (slice_get cs i) refl
    where
      below : (k : ℕ) → k < length cs → k < length (constant_ways cs)
      below k lt = omega (arith, lt, same_size)

      there : (c : ConstantDef) (w : Given) → slice_get cs i ≡ Some c → given_source cs i w ≡ Some j → j < length cs
      there c w at e = of_source cs i j c w at e

      by_read : (o : Option ConstantDef) → slice_get cs i ≡ o → j < length (constant_ways cs)
      by_read None at = absurd
          (omega (arith, slice_get_within (constant_ways cs) i s.next s.from, same_size, past_end cs i at))
      by_read (Some c) at = below j (there c c.given at (from_step i j c at s))

  depends : (n m i : ℕ) → ((j : ℕ) → Step (constant_ways cs) i j → value_within n cs j ≡ value_within m cs j)
      → value_within (suc n) cs i ≡ value_within (suc m) cs i
  unfolding value_within
  depends n m i same = by_read (slice_get cs i) refl
    where
      by_read : (o : Option ConstantDef) → slice_get cs i ≡ o
          → constant_value (value_within n cs) cs i o ≡ constant_value (value_within m cs) cs i o
      by_read None at = refl
      by_read (Some c) at = given_same (value_within n cs) (value_within m cs) cs i c.given
          (λ j e. same j (source_step cs i j c at e))

  -- its value comes from that of the constant that it leads to
  settles : (i : ℕ) → i < length cs → Ends (constant_ways cs) i
      → value_within (length cs) cs i ≡ value_within (suc (length cs)) cs i
  settles i lt end = subst (λ (n : ℕ). value_within n cs i ≡ value_within (suc n) cs i) same_size
      (settled (constant_ways cs) inside (λ n k. value_within n cs k) depends i (omega (arith, lt, same_size)) end)

  pub value_step : (i : ℕ) (c : ConstantDef) → slice_get cs i ≡ Some c → Ends (constant_ways cs) i
      → value_at cs i ≡ given_value (value_at cs) cs i c.given
  unfolding value_at value_within
  value_step i c at end =
      settles i (slice_get_within cs i c at) end
      ∙ ap (constant_value (value_within (length cs) cs) cs i) at

  -- a constant of which some way doesn't end has none
  no_value : (nodes : List ℕ) (ended : List Bool) → AreOrdered (constant_ways cs) nodes ended → (n i : ℕ)
      → slice_get ended i ≡ Some false → value_within n cs i ≡ None
  unfolding value_within
  no_value nodes ended o zero i idle = refl
  no_value nodes ended o (suc n) i idle =
      let s = o.stuck i idle in
      by_read s.0 (slice_get cs i) refl s.1 (no_value nodes ended o n s.0 s.2)
    where
      by_read : (j : ℕ) (p : Option ConstantDef) → slice_get cs i ≡ p → Step (constant_ways cs) i j
          → value_within n cs j ≡ None → constant_value (value_within n cs) cs i p ≡ None
      by_read j None at s none = refl
      by_read j (Some c) at s none =
          given_none (value_within n cs) cs i j c.given (from_step i j c at s) none

  -- nothing is found of what isn't there
  past : (n i : ℕ) → slice_get cs i ≡ None → value_within n cs i ≡ None
  unfolding value_within
  past zero i e = refl
  past (suc n) i e = ap (constant_value (value_within n cs) cs i) e

  -- ---- the search

  pub none_found : (nodes : List ℕ) → AreFound cs nodes 0 (replicate (length cs) None)
  none_found nodes = record {
    size = length-replicate (length cs) None;
    done = λ m i lt e. absurd (omega (arith, lt));
    right = λ i z e. absurd (empty (length cs) i z e);
  }
    where
      empty : (n i : ℕ) (z : ℤ) → held_value (replicate n None) i ≡ Some z → ⊥
      empty zero i z e = absurd cc
      empty (suc n) zero z e = absurd cc
      empty (suc n) (suc i) z e = empty n i z e

  pub found_more : (nodes : List ℕ) (ended : List Bool) (k i : ℕ) (c : ConstantDef) (values : List (Option ℤ))
      → AreOrdered (constant_ways cs) nodes ended → AreFound cs nodes k values → slice_get nodes k ≡ Some i
      → slice_get cs i ≡ Some c
      → AreFound cs nodes (k + 1) (set values i (given_value (held_value values) cs i c.given))
  found_more nodes ended k i c values o f here at = record {
    size = length-set values i (given_value (held_value values) cs i c.given) ∙ f.size;
    done = done;
    right = right;
  }
    where
      ends_here : Ends (constant_ways cs) i
      ends_here = marked_end (constant_ways cs) nodes ended o i (o.there k i here)

      from : (j : ℕ) → given_source cs i c.given ≡ Some j → held_value values j ≡ value_at cs j
      from j e =
          let b = o.behind k i j here (source_step cs i j c at e) in f.done b.0 j b.1 b.2

      is : given_value (held_value values) cs i c.given ≡ value_at cs i
      is = given_same (held_value values) (value_at cs) cs i c.given from ∙ sym (value_step i c at ends_here)

      small : i < length values
      small = omega (arith, slice_get_within cs i c at, f.size)

      now_here : held_value (set values i (given_value (held_value values) cs i c.given)) i ≡ value_at cs i
      now_here = ap flat (set_here values i (given_value (held_value values) cs i c.given) small) ∙ is

      done : (m j : ℕ) → m < k + 1 → slice_get nodes m ≡ Some j
          → held_value (set values i (given_value (held_value values) cs i c.given)) j ≡ value_at cs j
      done m j lt e = elim (same_or_not j i) [
        | inl same ↦ subst (λ (q : ℕ).
            held_value (set values i (given_value (held_value values) cs i c.given)) q ≡ value_at cs q)
            (sym same) now_here
        | inr ne ↦ ap flat (set_there values i j (given_value (held_value values) cs i c.given) ne)
            ∙ f.done m j (earlier ne (same_or_not m k)) e
      ]
        where
          earlier : (j ≡ i → ⊥) → (m ≡ k) ⊎ (m ≡ k → ⊥) → m < k
          earlier ne (inl is_k) =
              let at_k : slice_get nodes k ≡ Some j = subst (λ (q : ℕ). slice_get nodes q ≡ Some j) is_k e in
              absurd (ne (the_same (slice_get nodes k) j i at_k here))
          earlier ne (inr differ) = omega (arith, differ, lt)

      right : (j : ℕ) (z : ℤ) → held_value (set values i (given_value (held_value values) cs i c.given)) j ≡ Some z
          → value_at cs j ≡ Some z
      right j z e = elim (same_or_not j i) [
        | inl same ↦ subst (λ (q : ℕ). value_at cs q ≡ Some z) (sym same)
            (sym now_here ∙ subst (λ (q : ℕ).
            held_value (set values i (given_value (held_value values) cs i c.given)) q ≡ Some z) same e)
        | inr ne ↦ f.right j z
            (sym (ap flat (set_there values i j (given_value (held_value values) cs i c.given) ne)) ∙ e)
      ]

  pub all_found : (nodes : List ℕ) (ended : List Bool) (k : ℕ) (values : List (Option ℤ))
      → AreOrdered (constant_ways cs) nodes ended → AreFound cs nodes k values → length nodes ≤ k
      → AreValues cs values
  unfolding value_at
  all_found nodes ended k values o f le i = by_read (slice_get ended i) refl
    where
      idle : value_within (length cs) cs i ≡ None → held_value values i ≡ value_within (length cs) cs i
      idle none = by_held (held_value values i) refl
        where
          by_held : (v : Option ℤ) → held_value values i ≡ v → held_value values i ≡ value_within (length cs) cs i
          by_held None e = e ∙ sym none
          by_held (Some z) e = let two : None ≡ Some z = sym none ∙ f.right i z e in absurd cc

      by_read : (b : Option Bool) → slice_get ended i ≡ b → held_value values i ≡ value_within (length cs) cs i
      by_read (Some true) e =
          let p = o.place i e in f.done p.0 i (omega (arith, slice_get_within nodes p.0 i p.1, le)) p.1
      by_read (Some false) e = idle (no_value nodes ended o (length cs) i e)
      by_read None e = idle (past (length cs) i (none_there cs ended i (o.size ∙ same_size) e))
        where
          none_there : (ds : List ConstantDef) (marks : List Bool) (q : ℕ) → length marks ≡ length ds
              → slice_get marks q ≡ None → slice_get ds q ≡ None
          none_there [] marks q s n = refl
          none_there (d ∷ ds) [] q s n = absurd cc
          none_there (d ∷ ds) (m ∷ marks) zero s n = absurd cc
          none_there (d ∷ ds) (m ∷ marks) (suc q) s n = let t : length marks ≡ length ds =
              cc in none_there ds marks q t n
