-- The place of a key is taken away, and the last entry has none for now.
use Rattle.std.proofs.Common.{◌≡◌, ◌<◌, ◌≤◌, ◌+◌, ◌-◌, ℕ, Some, None, length, set, cond, false}
use Rattle.std.proofs.Common.{◌==◌, sym, ap, ◌∙◌, arith, inl, inr}
use Rattle.std.proofs.lemmas.Bool.{cases_eq}
use Rattle.std.proofs.lemmas.Bool.Decides.{nat_tests}
use Rattle.std.proofs.lemmas.List.{length-set, get_or-set_same, get_or-set_other}
use Rattle.rx_due.specs.declared.heap.Heap.{Heap}
use Rattle.rx_due.specs.Heap.{entry_at, key_at, place_of, rank_at, moment_in, IsSized, IsHeap}
use Rattle.rx_due.specs.Heap.{IsTiedBut, IsOpen, KeepsOthers, len_without}
use Rattle.rx_due.proofs.Orders.{opened}
use Rattle.rx_due.proofs.Writes.{moment_at, moment_none, place_cases}

-- a heap without the place of a key, and one entry fewer
abbrev pub without : Heap → ℕ → Heap
without h key = record h { places = set h.places key (0, 0); len = h.len - 1 }

-- a key has no moment in a new heap, and every other key has its own still
pub record Cleared (h new : Heap) (key : ℕ) : Type 0 where
  pub moment : moment_in new key ≡ None
  pub keeps : KeepsOthers (record h { len = len_without h key }) new key

module _ (h : Heap) (key hole : ℕ) (so : IsHeap h) (key_in : key < length h.places)
    (place_is : place_of h key ≡ hole + 1) where
  hole_in : hole < h.len
  hole_in = so.tied.leads_within key hole place_is

  place_gone : place_of (without h key) key ≡ 0
  place_gone = ap (λ (p : ℕ × ℕ). p.0) (get_or-set_same h.places key (0, 0) (0, 0) key_in)

  place_kept : (q : ℕ) → (q ≡ key → ⊥) → place_of (without h key) q ≡ place_of h q
  place_kept q isnt = ap (λ (p : ℕ × ℕ). p.0) (get_or-set_other h.places key q (0, 0) (0, 0) isnt)

  places_many : length (without h key).places ≡ length h.places
  places_many = length-set h.places key (0, 0)

  sized_without : IsSized (without h key)
  sized_without =
      record { room = omega (arith, so.sized.room); keys = places_many ∙ so.sized.keys; limit = so.sized.limit }

  other_cell : (i : ℕ) → i < h.len → (i ≡ hole → ⊥) → key_at h i ≡ key → ⊥
  other_cell i within isnt same = isnt (omega (arith, so.tied.stands i within, ap (place_of h) same, place_is))

  stands_without : (i : ℕ) → i < h.len → (i ≡ hole → ⊥) → place_of (without h key) (key_at h i) ≡ i + 1
  stands_without i within isnt = place_kept (key_at h i) (other_cell i within isnt) ∙ so.tied.stands i within

  -- where a place leads still
  record LeadsStill (q i : ℕ) : Type 0 where
    pub within : i < h.len
    pub past : i ≡ hole → ⊥
    pub at : key_at h i ≡ q

  leads_still : (q i : ℕ) → place_of (without h key) q ≡ i + 1 → LeadsStill q i
  leads_still q i is =
      let isnt : q ≡ key → ⊥ = λ same. omega (arith, is, place_gone, ap (place_of (without h key)) same) in
      let was : place_of h q ≡ i + 1 = sym (place_kept q isnt) ∙ is in
      let at = so.tied.leads q i was in
      record {
        within = so.tied.leads_within q i was;
        past = λ same. isnt (sym at ∙ ap (key_at h) same ∙ so.tied.leads key hole place_is);
        at = at;
      }

  inner_cell : (q i : ℕ) → h.len ≤ hole + 1 → LeadsStill q i → i < h.len - 1
  inner_cell q i last leads = let within = leads.within in let past = leads.past in omega (arith, hole_in)

  moment_without : moment_in (without h key) key ≡ None
  moment_without = moment_none (without h key) key place_gone

  others_without : (q : ℕ) → (q ≡ key → ⊥) → moment_in (without h key) q ≡ moment_in h q
  others_without q isnt =
      elim (cases_eq (place_of h q) 0) [
        | inl none ↦ moment_none (without h key) q (place_kept q isnt ∙ none) ∙ sym (moment_none h q none)
        | inr some ↦ (
            let found = place_cases h q some in
            moment_at (without h key) q found.0 (place_kept q isnt ∙ found.1) ∙ sym (moment_at h q found.0 found.1))
      ]

  -- the entry was the last: the others are a heap
  pub heap_without : h.len ≤ hole + 1 → IsHeap (without h key)
  heap_without last = record {
    sized = sized_without;
    tied = record {
      key_within = λ i within. omega (arith, places_many, so.tied.key_within i (omega (arith, within)));
      stands = λ i within. stands_without i (omega (arith, within)) (λ is. omega (arith, is, within, last));
      leads_within = λ q i is. inner_cell q i last (leads_still q i is);
      leads = λ q i is. (leads_still q i is).at;
    };
    ordered = record { order = λ i c under within. so.ordered.order i c under (omega (arith, within)) };
  }

  last_key : hole + 1 < h.len → key_at h (h.len - 1) ≡ key → ⊥
  last_key more = other_cell (h.len - 1) (omega (arith, more)) (λ is. omega (arith, is, more))

  last_at : hole + 1 < h.len → place_of h (key_at h (h.len - 1)) ≡ (h.len - 1) + 1
  last_at more = so.tied.stands (h.len - 1) (omega (arith, more))

  tied_without : hole + 1 < h.len → IsTiedBut (without h key) hole (key_at h (h.len - 1))
  tied_without more = record {
    key_within = λ i within _. omega (arith, places_many, so.tied.key_within i (omega (arith, within)));
    other_key =
        λ i within _ same. omega
        (arith, within, so.tied.stands i (omega (arith, within)), ap (place_of h) same, last_at more);
    stands = λ i within isnt. stands_without i (omega (arith, within)) isnt;
    leads_within = λ q i isnt is.
        let leads = leads_still q i is in
        let past : i ≡ h.len - 1 → ⊥ = λ same. isnt (sym leads.at ∙ ap (key_at h) same) in
        omega (arith, leads.within, past);
    leads_past = λ q i _ is. (leads_still q i is).past;
    leads = λ q i _ is. (leads_still q i is).at;
  }

  -- the entry wasn't the last: its cell is a hole for the last one
  pub open_without : hole + 1 < h.len → IsOpen (without h key) hole (key_at h (h.len - 1))
  open_without more = record {
    sized = sized_without;
    hole_within = omega (arith, more);
    key_there = omega (arith, places_many, so.tied.key_within (h.len - 1) (omega (arith, more)));
    tied = tied_without more;
    passes = opened (rank_at h) h.len (h.len - 1) hole (omega arith) so.ordered.order;
  }

  fewer : len_without h key ≡ h.len - 1
  fewer =
      let test : (place_of h key == 0) ≡ false = grind (arith, nat_tests, place_is) in
      ap (λ b. cond b h.len (h.len - 1)) test

  module _ (more : hole + 1 < h.len) (new : Heap)
      (moment : moment_in new (key_at h (h.len - 1)) ≡ Some (entry_at h (h.len - 1)).0)
      (keeps : KeepsOthers (without h key) new (key_at h (h.len - 1))) where
    others_refilled : (q : ℕ) → (q ≡ key → ⊥) → moment_in new q ≡ moment_in h q
    others_refilled q isnt =
        elim (cases_eq q (key_at h (h.len - 1))) [
          | inl is ↦ ap (moment_in new) is ∙ moment
              ∙ sym (moment_at h (key_at h (h.len - 1)) (h.len - 1) (last_at more)) ∙ sym (ap (moment_in h) is)
          | inr other ↦ keeps.others q other ∙ others_without q isnt
        ]

    -- the last entry went to the hole: the key has no moment, and every other key has its own still
    pub refilled : Cleared h new key
    refilled = record {
      moment = keeps.others key (λ same. last_key more (sym same)) ∙ moment_without;
      keeps = record {
        len = keeps.len ∙ sym fewer;
        cells = keeps.cells;
        places = keeps.places ∙ places_many;
        others = others_refilled;
      };
    }
