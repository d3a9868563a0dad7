-- A heap with a hole: as the hole moves up or down, and when it is filled.
use Rattle.std.proofs.Common.{◌≡◌, ◌<◌, ◌≤◌, ◌+◌, ℕ, Some, length, refl, sym, ap, subst, ◌∙◌, arith}
use Rattle.std.proofs.lemmas.List.{length-set}
use Rattle.rx_due.specs.declared.heap.Heap.{Heap}
use Rattle.rx_due.specs.declared.heap.Standing.{Standing}
use Rattle.rx_due.specs.Heap.{entry_at, rank, rank_at, moment_in, stood, IsBelow, IsOpen, IsHeap, IsOrdered}
use Rattle.rx_due.specs.Heap.{IsAboveNoGreater, IsBelowNoLess, IsGreaterAbove, IsLessBelow, KeepsOthers}
use Rattle.rx_due.proofs.Writes.{entry_same, entry_other}
use Rattle.rx_due.proofs.Orders.{Moved, lifted, sunk, filled}
use Rattle.rx_due.proofs.Ties.{sized_stood, tied_moved, others_moved, tied_filled, moment_filled, others_filled}

-- one heap after another
pub keeps_then : (a b c : Heap) (key : ℕ) → KeepsOthers a b key → KeepsOthers b c key → KeepsOthers a c key
keeps_then a b c key first second = record {
  len = second.len ∙ first.len;
  cells = second.cells ∙ first.cells;
  places = second.places ∙ first.places;
  others = λ q isnt. second.others q isnt ∙ first.others q isnt;
}

moved_ranks : (h : Heap) (hole from : ℕ) → hole < length h.entries
    → Moved (rank_at h) (rank_at (stood h hole (entry_at h from))) hole from
moved_ranks h hole from room = record {
  got = ap rank (entry_same h hole (entry_at h from) room);
  others = λ i isnt. ap rank (entry_other h hole (entry_at h from) i isnt);
}

-- what one move of a hole leaves
pub record Moves (h : Heap) (hole key : ℕ) (s : Standing) : Type 0 where
  pub open_still : IsOpen (stood h hole s.entry) s.place key
  pub keeps : KeepsOthers h (stood h hole s.entry) key

moves_from : (h : Heap) (hole key from : ℕ) → IsOpen h hole key → from < h.len → (from ≡ hole → ⊥)
    → IsOpen (stood h hole (entry_at h from)) from key → (s : Standing) → s.place ≡ from → s.entry ≡ entry_at h from
    → Moves h hole key s
moves_from h hole key from was within apart now s place_is entry_is =
    let keeps = others_moved h hole from key was.sized was.hole_within within apart was.tied in
    let opens : IsOpen (stood h hole s.entry) from key =
    subst (λ (e : ℕ × ℕ). IsOpen (stood h hole e) from key) (sym entry_is) now in
    record {
      open_still = subst (λ (p : ℕ). IsOpen (stood h hole s.entry) p key) (sym place_is) opens;
      keeps = subst (λ (e : ℕ × ℕ). KeepsOthers h (stood h hole e) key) (sym entry_is) keeps;
    }

-- the hole goes up, past a greater entry
pub goes_up : (h : Heap) (hole : ℕ) (e : ℕ × ℕ) (s : Standing) → IsOpen h hole e.1 → IsGreaterAbove h hole e s
    → Moves h hole e.1 s
goes_up h hole e s was step =
    let above = step.stands.above in
    let room : hole < length h.entries = omega (arith, was.hole_within, was.sized.room) in
    let within : s.place < h.len = omega (arith, above.from, was.hole_within) in
    let apart : s.place ≡ hole → ⊥ = λ is. omega (arith, is, above.from) in
    let places = length-set h.places (entry_at h s.place).1 (hole + 1, 0) in
    let now : IsOpen (stood h hole (entry_at h s.place)) s.place e.1 = record {
      sized = sized_stood h hole (entry_at h s.place) was.sized;
      hole_within = within;
      key_there = omega (arith, places, was.key_there);
      tied = tied_moved h hole s.place e.1 was.sized was.hole_within within apart was.tied;
      passes = lifted (rank_at h) (rank_at (stood h hole (entry_at h s.place))) h.len hole s.place was.hole_within
          above was.passes (moved_ranks h hole s.place room);
    } in
    moves_from h hole e.1 s.place was within apart now s refl step.stands.there

-- the hole goes down, past the least entry below it
pub goes_down : (h : Heap) (hole : ℕ) (e : ℕ × ℕ) (s : Standing) → IsOpen h hole e.1 → IsLessBelow h hole e s
    → Moves h hole e.1 s
goes_down h hole e s was step =
    let below = step.stands.below in
    let room : hole < length h.entries = omega (arith, was.hole_within, was.sized.room) in
    let within = step.stands.within in
    let apart : s.place ≡ hole → ⊥ = λ is. omega (arith, is, below.from) in
    let places = length-set h.places (entry_at h s.place).1 (hole + 1, 0) in
    let least : (c : ℕ) → IsBelow hole c → c < h.len → rank_at h s.place ≤ rank_at h c =
    λ c under c_in. omega (arith, step.stands.least c under c_in, ap rank step.stands.there) in
    let now : IsOpen (stood h hole (entry_at h s.place)) s.place e.1 = record {
      sized = sized_stood h hole (entry_at h s.place) was.sized;
      hole_within = within;
      key_there = omega (arith, places, was.key_there);
      tied = tied_moved h hole s.place e.1 was.sized was.hole_within within apart was.tied;
      passes = sunk (rank_at h) (rank_at (stood h hole (entry_at h s.place))) h.len hole s.place below within least
          was.passes (moved_ranks h hole s.place room);
    } in
    moves_from h hole e.1 s.place was within apart now s refl step.stands.there

-- what the hole left above it as it went down is less than the entry
pub less_above : (h : Heap) (hole : ℕ) (e : ℕ × ℕ) (s : Standing) → IsOpen h hole e.1 → IsLessBelow h hole e s
    → IsAboveNoGreater (stood h hole s.entry) s.place e
less_above h hole e s was step i up =
    let i_is : i ≡ hole = omega (arith, up.from, up.to, step.stands.below.from, step.stands.below.to) in
    let room : hole < length h.entries = omega (arith, was.hole_within, was.sized.room) in
    let here : rank_at (stood h hole s.entry) i ≡ rank s.entry =
    ap (rank_at (stood h hole s.entry)) i_is ∙ ap rank (entry_same h hole s.entry room) in
    omega (arith, here, step.less)

-- what a filled hole leaves
pub record Fills (h : Heap) (hole : ℕ) (e : ℕ × ℕ) : Type 0 where
  pub heap : IsHeap (stood h hole e)
  pub moment : moment_in (stood h hole e) e.1 ≡ Some e.0
  pub keeps : KeepsOthers h (stood h hole e) e.1

-- an entry fills a hole where it fits
pub fills : (h : Heap) (hole : ℕ) (e : ℕ × ℕ) → IsOpen h hole e.1 → IsAboveNoGreater h hole e → IsBelowNoLess h hole e
    → Fills h hole e
fills h hole e was above below =
    let room : hole < length h.entries = omega (arith, was.hole_within, was.sized.room) in
    let got : rank_at (stood h hole e) hole ≡ rank e = ap rank (entry_same h hole e room) in
    let others : (i : ℕ) → (i ≡ hole → ⊥) → rank_at (stood h hole e) i ≡ rank_at h i =
    λ i isnt. ap rank (entry_other h hole e i isnt) in
    let order =
    filled (rank_at h) (rank_at (stood h hole e)) h.len hole (rank e) got others was.passes above below in
    let ordered : IsOrdered (stood h hole e) = record { order = order } in
    record {
      heap = record {
        sized = sized_stood h hole e was.sized;
        tied = tied_filled h hole e was.sized was.hole_within was.key_there was.tied;
        ordered = ordered;
      };
      moment = moment_filled h hole e was.sized was.hole_within was.key_there was.tied;
      keeps = others_filled h hole e was.sized was.hole_within was.key_there was.tied;
    }
