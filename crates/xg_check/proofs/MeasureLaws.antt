-- Types measured one by one, along an order in which each stands behind those that it holds.
use Rattle.std.proofs.Common.{◌≡◌, ℕ, zero, suc, ◌+◌, ◌<◌, ◌≤◌, Bool, false, List, length, set, replicate, slice_get}
use Rattle.std.proofs.Common.{Option, Some, None, unwrap_or, option_map, refl, sym, ap, subst, ◌∙◌, arith, ◌⊎◌, inl}
use Rattle.std.proofs.Common.{inr}
use Rattle.std.proofs.lemmas.List.{length-set, length-replicate}
use Rattle.std.proofs.lemmas.Option.{slice_get_within}
use Rattle.xg_parse.specs.declared.tree.Part.{Part}
use Rattle.xg_check.specs.declared.types.Ways.TheVariants as ways
use Rattle.xg_check.specs.Constants.{ConstantDef}
use Rattle.xg_check.specs.Typed.{part_places, type_ways}
use Rattle.xg_check.specs.Graphs.{Ends, AreOrdered}
use Rattle.xg_check.specs.Encodings.{part_hollow, hollow_at, part_bytes, word_bytes, bytes_at}
use Rattle.xg_check.specs.Held.{flat, capped, held_count, hollow_word, IsCapped, TypeEnds, AreMeasured, AreEncodings}
use Rattle.xg_check.proofs.GraphLaws.{marked_end, unmarked_goes_on}
use Rattle.xg_check.proofs.SearchLaws.{same_or_not, set_here, set_there, mark_at}
use Rattle.xg_check.proofs.OrderLaws.{the_same}
use Rattle.xg_check.proofs.EndlessLaws.{Among}
use Rattle.xg_check.proofs.HeldLaws.{step_of, part_hollow_same, part_bytes_same, hollow_step, bytes_step}
use Rattle.xg_check.proofs.ValueLaws.{item_at}

-- what is known of a count, where the table has one
pub known_of : Option ℕ → Option ℕ → Option ℕ
known_of None o = None
known_of (Some n) o = o

module _ (ts : List Part) (cs : List ConstantDef) (least : List (Option ℕ)) where
  pub capped_known : ((i n : ℕ) → held_count least i ≡ Some n → option_map capped (bytes_at ts cs i) ≡ Some n)
      → IsCapped (λ j. known_of (held_count least j) (bytes_at ts cs j)) least
  unfolding known_of
  capped_known right i = by_held (held_count least i) refl
    where
      by_held : (v : Option ℕ) → held_count least i ≡ v
          → held_count least i ≡ option_map capped (known_of (held_count least i) (bytes_at ts cs i))
      by_held None e = e ∙ ap (λ (v : Option ℕ). option_map capped (known_of v (bytes_at ts cs i))) (sym e)
      by_held (Some n) e = e ∙ sym (right i n e)
          ∙ ap (λ (v : Option ℕ). option_map capped (known_of v (bytes_at ts cs i))) (sym e)

  pub known_is : (j : ℕ) → held_count least j ≡ option_map capped (bytes_at ts cs j)
      → known_of (held_count least j) (bytes_at ts cs j) ≡ bytes_at ts cs j
  unfolding known_of
  known_is j e = by_bytes (bytes_at ts cs j) refl
    where
      by_bytes : (v : Option ℕ) → bytes_at ts cs j ≡ v → known_of (held_count least j)
          (bytes_at ts cs j) ≡ bytes_at ts cs j
      by_bytes None b = ap (λ (v : Option ℕ). known_of v (bytes_at ts cs j)) (e ∙ ap (option_map capped) b) ∙ sym b
      by_bytes (Some n) b = ap (λ (v : Option ℕ). known_of v (bytes_at ts cs j)) (e ∙ ap (option_map capped) b)

module _ (ts : List Part) (cs : List ConstantDef) (nodes : List ℕ) where
  pub none_measured : AreMeasured ts cs nodes 0 (replicate (length ts) false) (replicate (length ts) None)
  none_measured = record {
    hollow_size = length-replicate (length ts) false;
    least_size = length-replicate (length ts) None;
    hollow_is = λ m i lt e. absurd (omega (arith, lt));
    least_is = λ m i lt e. absurd (omega (arith, lt));
    right = λ i n e. absurd (empty (length ts) i n e);
  }
    where
      empty : (k i n : ℕ) → held_count (replicate k None) i ≡ Some n → ⊥
      empty zero i n e = absurd cc
      empty (suc k) zero n e = absurd cc
      empty (suc k) (suc i) n e = empty k i n e

  module _ (ended : List Bool) (o : AreOrdered (type_ways ts ways.Held) nodes ended) where
    earlier : (k m i j : ℕ) → slice_get nodes k ≡ Some i → slice_get nodes m ≡ Some j → (j ≡ i → ⊥) → m < k + 1 → m < k
    earlier k m i j here e ne lt = by_place (same_or_not m k)
      where
        by_place : (m ≡ k) ⊎ (m ≡ k → ⊥) → m < k
        by_place (inl is_k) =
            let at_k : slice_get nodes k ≡ Some j = subst (λ (q : ℕ). slice_get nodes q ≡ Some j) is_k e in
            absurd (ne (the_same (slice_get nodes k) j i at_k here))
        by_place (inr differ) = omega (arith, differ, lt)

    module _ (k i : ℕ) (p : Part) (hollow : List Bool) (least : List (Option ℕ))
        (f : AreMeasured ts cs nodes k hollow least) (here : slice_get nodes k ≡ Some i)
        (at : slice_get ts i ≡ Some p) where
      ends_here : Ends (type_ways ts ways.Held) i
      ends_here = marked_end (type_ways ts ways.Held) nodes ended o i (o.there k i here)

      hollow_right : (v : Bool) → v ≡ part_hollow (hollow_word hollow ts) cs p → v ≡ hollow_at ts cs i
      hollow_right v e = e
          ∙ part_hollow_same ts cs (λ j. unwrap_or (slice_get hollow j) false) (hollow_at ts cs) p from
          ∙ sym (hollow_step ts cs i p at ends_here)
        where
          from : (j : ℕ) → Among (part_places ts ways.Held p) j
              → unwrap_or (slice_get hollow j) false ≡ hollow_at ts cs j
          from j a =
              let b = o.behind k i j here (step_of ts i p at j a) in
              ap (λ (x : Option Bool). unwrap_or x false) (f.hollow_is b.0 j b.1 b.2)

      least_right : (n : Option ℕ) → ((held : ℕ → Option ℕ) → IsCapped held least
          → n ≡ option_map capped (part_bytes (word_bytes held ts) cs p)) → n ≡ option_map capped (bytes_at ts cs i)
      least_right n e =
          e (λ j. known_of (held_count least j) (bytes_at ts cs j)) (capped_known ts cs least f.right)
          ∙ ap (option_map capped)
          (part_bytes_same ts cs (λ j. known_of (held_count least j) (bytes_at ts cs j)) (bytes_at ts cs) p from
          ∙ sym (bytes_step ts cs i p at ends_here))
        where
          from : (j : ℕ) → Among (part_places ts ways.Held p) j
              → known_of (held_count least j) (bytes_at ts cs j) ≡ bytes_at ts cs j
          from j a =
              let b = o.behind k i j here (step_of ts i p at j a) in
              known_is ts cs least j (f.least_is b.0 j b.1 b.2)

      -- one type more
      pub measured_more : (v : Bool) (n : Option ℕ) → v ≡ part_hollow (hollow_word hollow ts) cs p
          → ((held : ℕ → Option ℕ) → IsCapped held least → n ≡ option_map capped (part_bytes (word_bytes held ts) cs p))
          → AreMeasured ts cs nodes (k + 1) (set hollow i v) (set least i n)
      measured_more v n hv hn = record {
        hollow_size = length-set hollow i v ∙ f.hollow_size;
        least_size = length-set least i n ∙ f.least_size;
        hollow_is = hollow_is;
        least_is = least_is;
        right = right;
      }
        where
          small : i < length ts
          small = slice_get_within ts i p at

          hollow_here : slice_get (set hollow i v) i ≡ Some (hollow_at ts cs i)
          hollow_here = set_here hollow i v (omega (arith, small, f.hollow_size)) ∙ ap Some (hollow_right v hv)

          least_here : held_count (set least i n) i ≡ option_map capped (bytes_at ts cs i)
          least_here = ap flat (set_here least i n (omega (arith, small, f.least_size))) ∙ least_right n hn

          hollow_is : (m j : ℕ) → m < k + 1 → slice_get nodes m ≡ Some j
              → slice_get (set hollow i v) j ≡ Some (hollow_at ts cs j)
          hollow_is m j lt e = elim (same_or_not j i) [
            | inl same ↦ subst (λ (q : ℕ). slice_get (set hollow i v) q ≡ Some (hollow_at ts cs q))
                (sym same) hollow_here
            | inr ne ↦ set_there hollow i j v ne ∙ f.hollow_is m j (earlier k m i j here e ne lt) e
          ]

          least_is : (m j : ℕ) → m < k + 1 → slice_get nodes m ≡ Some j
              → held_count (set least i n) j ≡ option_map capped (bytes_at ts cs j)
          least_is m j lt e = elim (same_or_not j i) [
            | inl same ↦ subst (λ (q : ℕ). held_count (set least i n) q ≡ option_map capped (bytes_at ts cs q))
                (sym same)
                least_here
            | inr ne ↦ ap flat (set_there least i j n ne) ∙ f.least_is m j (earlier k m i j here e ne lt) e
          ]

          right : (j x : ℕ) → held_count (set least i n) j ≡ Some x → option_map capped (bytes_at ts cs j) ≡ Some x
          right j x e = elim (same_or_not j i) [
            | inl same ↦ subst (λ (q : ℕ). option_map capped (bytes_at ts cs q) ≡ Some x) (sym same)
                (sym least_here ∙ subst (λ (q : ℕ). held_count (set least i n) q ≡ Some x) same e)
            | inr ne ↦ f.right j x (sym (ap flat (set_there least i j n ne)) ∙ e)
          ]

    -- all that end are measured
    pub all_measured : (k : ℕ) (hollow : List Bool) (least : List (Option ℕ)) → AreMeasured ts cs nodes k hollow least
        → length nodes ≤ k → length (type_ways ts ways.Held) ≡ length ts → AreEncodings ts cs hollow least
    all_measured k hollow least f le size = record {
      hollow_size = f.hollow_size;
      least_size = f.least_size;
      hollow_is = λ i end lt. let m = place_of_it i end lt in f.hollow_is m.0 i (before i m) m.1;
      least_is = λ i end lt.
          let m = place_of_it i end lt in
          let x = item_at least i (omega (arith, lt, f.least_size)) in
          let flat_is : held_count least i ≡ x.0 = ap flat x.1 in
          x.1 ∙ ap Some (sym flat_is ∙ f.least_is m.0 i (before i m) m.1);
      right = f.right;
    }
      where
        place_of_it : (i : ℕ) → TypeEnds ts i → i < length ts → (m : ℕ) × (slice_get nodes m ≡ Some i)
        place_of_it i end lt = elim (mark_at ended i (omega (arith, lt, o.size, size))) [
          | inl marked ↦ o.place i marked
          | inr idle ↦ absurd (unmarked_goes_on (type_ways ts ways.Held) nodes ended o i idle end)
        ]

        before : (i : ℕ) (m : (q : ℕ) × (slice_get nodes q ≡ Some i)) → m.0 < k
        before i m = omega (arith, slice_get_within nodes m.0 i m.1, le)
