-- Keys and their places: as the hole of a heap moves, and when it is filled.
use Rattle.std.proofs.Common.{◌≡◌, ◌<◌, ◌+◌, ℕ, Some, length, refl, sym, ap, ◌∙◌, arith}
use Rattle.std.proofs.Common.{inl, inr}
use Rattle.std.proofs.lemmas.Bool.{cases_eq}
use Rattle.std.proofs.lemmas.List.{length-set}
use Rattle.rx_due.specs.declared.heap.Heap.{Heap}
use Rattle.rx_due.specs.Heap.{entry_at, key_at, place_of, moment_in, stood, IsSized, IsTied, IsTiedBut, KeepsOthers}
use Rattle.rx_due.proofs.Writes.{entry_same, entry_other, place_same, place_other, moment_at, moment_none, place_cases}

-- as many cells and places, whatever is written
pub sized_stood : (h : Heap) (place : ℕ) (e : ℕ × ℕ) → IsSized h → IsSized (stood h place e)
sized_stood h place e so =
    let cells = length-set h.entries place e in
    let places = length-set h.places e.1 (place + 1, 0) in
    record {
      room = omega (arith, cells, so.room);
      keys = omega (arith, cells, places, so.keys);
      limit = omega (arith, cells, so.limit);
    }

module _ (h : Heap) (hole from key : ℕ) (sized : IsSized h) (hole_in : hole < h.len) (from_in : from < h.len)
    (apart : from ≡ hole → ⊥) (was : IsTiedBut h hole key) where
  abbrev new : Heap
  new = stood h hole (entry_at h from)

  here : entry_at new hole ≡ entry_at h from
  here = entry_same h hole (entry_at h from) (omega (arith, hole_in, sized.room))

  there : place_of new (key_at h from) ≡ hole + 1
  there = place_same h hole (entry_at h from) (was.key_within from from_in apart)

  -- another cell's key isn't the one that moves
  other : (i : ℕ) → i < h.len → (i ≡ hole → ⊥) → (i ≡ from → ⊥) → key_at h i ≡ key_at h from → ⊥
  other i within not_hole not_from same =
      let one = was.stands i within not_hole in
      let two = was.stands from from_in apart in
      not_from (omega (arith, one, two, ap (place_of h) same))

  key_within' : (i : ℕ) → i < h.len → (i ≡ from → ⊥) → key_at new i < length new.places
  key_within' i within not_from =
      let places = length-set h.places (key_at h from) (hole + 1, 0) in
      elim (cases_eq i hole) [
        | inl is ↦ (
            let key_is : key_at new i ≡ key_at h from = ap (key_at new) is ∙ ap (λ (p : ℕ × ℕ). p.1) here in
            omega (arith, key_is, places, was.key_within from from_in apart))
        | inr isnt ↦ (
            let key_is = ap (λ (p : ℕ × ℕ). p.1) (entry_other h hole (entry_at h from) i isnt) in
            omega (arith, key_is, places, was.key_within i within isnt))
      ]

  other_key' : (i : ℕ) → i < h.len → (i ≡ from → ⊥) → key_at new i ≡ key → ⊥
  other_key' i within not_from same =
      elim (cases_eq i hole) [
        | inl is ↦ was.other_key from from_in apart (sym (ap (key_at new) is ∙ ap (λ (p : ℕ × ℕ). p.1) here) ∙ same)
        | inr isnt ↦ was.other_key i within isnt
            (sym (ap (λ (p : ℕ × ℕ). p.1) (entry_other h hole (entry_at h from) i isnt)) ∙ same)
      ]

  stands' : (i : ℕ) → i < h.len → (i ≡ from → ⊥) → place_of new (key_at new i) ≡ i + 1
  stands' i within not_from =
      elim (cases_eq i hole) [
        | inl is ↦ (
            let key_is : key_at new i ≡ key_at h from = ap (key_at new) is ∙ ap (λ (p : ℕ × ℕ). p.1) here in
            ap (place_of new) key_is ∙ there ∙ ap (λ n. n + 1) (sym is))
        | inr isnt ↦ (
            let key_is = ap (λ (p : ℕ × ℕ). p.1) (entry_other h hole (entry_at h from) i isnt) in
            ap (place_of new) key_is
            ∙ place_other h hole (entry_at h from) (key_at h i) (other i within isnt not_from)
            ∙ was.stands i within isnt)
      ]

  -- where a key's place leads now
  record Leads (q i : ℕ) : Type 0 where
    pub within : i < h.len
    pub past : i ≡ from → ⊥
    pub at : key_at new i ≡ q

  leads' : (q i : ℕ) → (q ≡ key → ⊥) → place_of new q ≡ i + 1 → Leads q i
  leads' q i not_key place_is =
      elim (cases_eq q (key_at h from)) [
        | inl is ↦ (
            let i_is : i ≡ hole = omega (arith, place_is, there, ap (place_of new) is) in
            record {
              within = omega (arith, i_is, hole_in);
              past = λ e. apart (sym e ∙ i_is);
              at = ap (key_at new) i_is ∙ ap (λ (p : ℕ × ℕ). p.1) here ∙ sym is;
            })
        | inr isnt ↦ (
            let place_was : place_of h q ≡ i + 1 = sym (place_other h hole (entry_at h from) q isnt) ∙ place_is in
            let key_is = was.leads q i not_key place_was in
            let not_hole = was.leads_past q i not_key place_was in
            record {
              within = was.leads_within q i not_key place_was;
              past = λ e. isnt (sym key_is ∙ ap (key_at h) e);
              at = ap (λ (p : ℕ × ℕ). p.1) (entry_other h hole (entry_at h from) i not_hole) ∙ key_is;
            })
      ]

  -- the hole moves to the cell whose entry is written into it
  pub tied_moved : IsTiedBut new from key
  tied_moved = record {
    key_within = key_within';
    other_key = other_key';
    stands = stands';
    leads_within = λ q i not_key is. (leads' q i not_key is).within;
    leads_past = λ q i not_key is. (leads' q i not_key is).past;
    leads = λ q i not_key is. (leads' q i not_key is).at;
  }

  others' : (q : ℕ) → (q ≡ key → ⊥) → moment_in new q ≡ moment_in h q
  others' q not_key =
      elim (cases_eq q (key_at h from)) [
        | inl is ↦ (
            let place_now = ap (place_of new) is ∙ there in
            let place_was = ap (place_of h) is ∙ was.stands from from_in apart in
            moment_at new q hole place_now ∙ ap (λ (p : ℕ × ℕ). Some p.0) here ∙ sym (moment_at h q from place_was))
        | inr isnt ↦ (
            let same = place_other h hole (entry_at h from) q isnt in
            elim (cases_eq (place_of h q) 0) [
              | inl none ↦ moment_none new q (same ∙ none) ∙ sym (moment_none h q none)
              | inr some ↦ (
                  let found = place_cases h q some in
                  let not_hole = was.leads_past q found.0 not_key found.1 in
                  moment_at new q found.0 (same ∙ found.1)
                  ∙ ap (λ (p : ℕ × ℕ). Some p.0) (entry_other h hole (entry_at h from) found.0 not_hole)
                  ∙ sym (moment_at h q found.0 found.1))
            ])
      ]

  -- every other key has its moment still
  pub others_moved : KeepsOthers h new key
  others_moved =
      record {
        len = refl;
        cells = length-set h.entries hole (entry_at h from);
        places = length-set h.places (key_at h from) (hole + 1, 0);
        others = others';
      }

module _ (h : Heap) (hole : ℕ) (e : ℕ × ℕ) (sized : IsSized h) (hole_in : hole < h.len)
    (key_in : e.1 < length h.places) (was : IsTiedBut h hole e.1) where
  abbrev full : Heap
  full = stood h hole e

  filled_here : entry_at full hole ≡ e
  filled_here = entry_same h hole e (omega (arith, hole_in, sized.room))

  filled_there : place_of full e.1 ≡ hole + 1
  filled_there = place_same h hole e key_in

  key_filled : (i : ℕ) → i ≡ hole → key_at full i ≡ e.1
  key_filled i is = ap (key_at full) is ∙ ap (λ (p : ℕ × ℕ). p.1) filled_here

  key_kept : (i : ℕ) → (i ≡ hole → ⊥) → key_at full i ≡ key_at h i
  key_kept i isnt = ap (λ (p : ℕ × ℕ). p.1) (entry_other h hole e i isnt)

  filled_within : (i : ℕ) → i < h.len → key_at full i < length full.places
  filled_within i within =
      let places = length-set h.places e.1 (hole + 1, 0) in
      elim (cases_eq i hole) [
        | inl is ↦ omega (arith, key_filled i is, places, key_in)
        | inr isnt ↦ omega (arith, key_kept i isnt, places, was.key_within i within isnt)
      ]

  filled_stands : (i : ℕ) → i < h.len → place_of full (key_at full i) ≡ i + 1
  filled_stands i within =
      elim (cases_eq i hole) [
        | inl is ↦ ap (place_of full) (key_filled i is) ∙ filled_there ∙ ap (λ n. n + 1) (sym is)
        | inr isnt ↦ ap (place_of full) (key_kept i isnt)
            ∙ place_other h hole e (key_at h i) (was.other_key i within isnt) ∙ was.stands i within isnt
      ]

  record FilledLeads (q i : ℕ) : Type 0 where
    pub within : i < h.len
    pub at : key_at full i ≡ q

  filled_leads : (q i : ℕ) → place_of full q ≡ i + 1 → FilledLeads q i
  filled_leads q i place_is =
      elim (cases_eq q e.1) [
        | inl is ↦ (
            let i_is : i ≡ hole = omega (arith, place_is, filled_there, ap (place_of full) is) in
            record { within = omega (arith, i_is, hole_in); at = key_filled i i_is ∙ sym is })
        | inr isnt ↦ (
            let place_was : place_of h q ≡ i + 1 = sym (place_other h hole e q isnt) ∙ place_is in
            record {
              within = was.leads_within q i isnt place_was;
              at = key_kept i (was.leads_past q i isnt place_was) ∙ was.leads q i isnt place_was;
            })
      ]

  -- the hole is filled with the entry of its key
  pub tied_filled : IsTied full
  tied_filled = record {
    key_within = filled_within;
    stands = filled_stands;
    leads_within = λ key i is. (filled_leads key i is).within;
    leads = λ key i is. (filled_leads key i is).at;
  }

  -- the key has the moment of its entry
  pub moment_filled : moment_in full e.1 ≡ Some e.0
  moment_filled = moment_at full e.1 hole filled_there ∙ ap (λ (p : ℕ × ℕ). Some p.0) filled_here

  filled_others : (q : ℕ) → (q ≡ e.1 → ⊥) → moment_in full q ≡ moment_in h q
  filled_others q isnt =
      let same = place_other h hole e q isnt in
      elim (cases_eq (place_of h q) 0) [
        | inl none ↦ moment_none full q (same ∙ none) ∙ sym (moment_none h q none)
        | inr some ↦ (
            let found = place_cases h q some in
            let not_hole = was.leads_past q found.0 isnt found.1 in
            moment_at full q found.0 (same ∙ found.1)
            ∙ ap (λ (p : ℕ × ℕ). Some p.0) (entry_other h hole e found.0 not_hole)
            ∙ sym (moment_at h q found.0 found.1))
      ]

  -- every other key has its moment still
  pub others_filled : KeepsOthers h full e.1
  others_filled =
      record {
        len = refl;
        cells = length-set h.entries hole e;
        places = length-set h.places e.1 (hole + 1, 0);
        others = filled_others;
      }
