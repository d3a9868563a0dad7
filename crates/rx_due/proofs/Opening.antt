-- A heap in order gets a hole: where the entry of a key stands, or behind all others.
use Rattle.std.proofs.Common.{◌≡◌, ◌<◌, ◌+◌, ℕ, length, sym, ap, ◌∙◌, arith}
use Rattle.rx_due.specs.declared.heap.Heap.{Heap}
use Rattle.rx_due.specs.Heap.{key_at, place_of, rank_at, IsHeap, IsTiedBut, IsOpen, Passes}
use Rattle.rx_due.proofs.Orders.{opened}

-- a cell whose key isn't one that stands elsewhere
apart_from : (h : Heap) (key hole i : ℕ) → IsHeap h → place_of h key ≡ hole + 1 → i < h.len → (i ≡ hole → ⊥)
    → key_at h i ≡ key → ⊥
apart_from h key hole i so place_is within isnt same =
    isnt (omega (arith, so.tied.stands i within, ap (place_of h) same, place_is))

tied_there : (h : Heap) (key hole : ℕ) → IsHeap h → place_of h key ≡ hole + 1 → IsTiedBut h hole key
tied_there h key hole so place_is = record {
  key_within = λ i within _. so.tied.key_within i within;
  other_key = λ i within isnt. apart_from h key hole i so place_is within isnt;
  stands = λ i within _. so.tied.stands i within;
  leads_within = λ q i _ is. so.tied.leads_within q i is;
  leads_past =
      λ q i isnt is i_is. isnt (sym (so.tied.leads q i is) ∙ ap (key_at h) i_is ∙ so.tied.leads key hole place_is);
  leads = λ q i _ is. so.tied.leads q i is;
}

-- the hole is where the entry of a key stands
pub open_there : (h : Heap) (key hole : ℕ) → IsHeap h → key < length h.places → place_of h key ≡ hole + 1
    → IsOpen h hole key
open_there h key hole so key_in place_is = record {
  sized = so.sized;
  hole_within = so.tied.leads_within key hole place_is;
  key_there = key_in;
  tied = tied_there h key hole so place_is;
  passes = opened (rank_at h) h.len h.len hole (omega arith) so.ordered.order;
}

tied_behind : (h : Heap) (key : ℕ) → IsHeap h → place_of h key ≡ 0 → IsTiedBut (record h { len = h.len + 1 }) h.len key
tied_behind h key so none =
    let before : (i : ℕ) → i < h.len + 1 → (i ≡ h.len → ⊥) → i < h.len = λ i within isnt. omega (arith, within, isnt) in
    record {
      key_within = λ i within isnt. so.tied.key_within i (before i within isnt);
      other_key =
          λ i within isnt same. omega (arith, so.tied.stands i (before i within isnt), ap (place_of h) same, none);
      stands = λ i within isnt. so.tied.stands i (before i within isnt);
      leads_within = λ q i _ is. omega (arith, so.tied.leads_within q i is);
      leads_past = λ q i _ is i_is. omega (arith, so.tied.leads_within q i is, i_is);
      leads = λ q i _ is. so.tied.leads q i is;
    }

passes_behind : (h : Heap) → IsHeap h → Passes (rank_at h) (h.len + 1) h.len
passes_behind h so = record {
  order = λ i c under within _ isnt. so.ordered.order i c under (omega (arith, within, isnt));
  past = λ i c _ down within. absurd (omega (arith, down.from, within));
}

-- the hole is behind all others
pub open_behind : (h : Heap) (key : ℕ) → IsHeap h → key < length h.places → place_of h key ≡ 0
    → h.len < length h.entries → IsOpen (record h { len = h.len + 1 }) h.len key
open_behind h key so key_in none room = record {
  sized = record { room = omega (arith, room); keys = so.sized.keys; limit = so.sized.limit };
  hole_within = omega arith;
  key_there = key_in;
  tied = tied_behind h key so none;
  passes = passes_behind h so;
}
