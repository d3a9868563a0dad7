-- How the cells of a book stand. Private clauses and the book's invariant cite this module; no public clause does.
use Rattle.std.specs.Prelude.{◌≡◌, ◌≢◌, ◌<◌, ◌≤◌, ◌+◌, ◌-◌, ◌*◌, ◌^◌, ◌==◌, ℕ, List, Option, Some, None, length, map}
use Rattle.std.specs.Prelude.{is_some, count_by, slice_index_or, slice_set, if◌then◌else◌}
use Rattle.rx_due.specs.declared.heap.Heap.{Heap}
use Rattle.rx_due.specs.declared.heap.Standing.{Standing}

-- the pair of moment and key in a cell of the heap
abbrev pub entry_at : Heap → ℕ → ℕ × ℕ
entry_at h i = slice_index_or h.entries i (0, 0)

-- the key in a cell of the heap
abbrev pub key_at : Heap → ℕ → ℕ
key_at h i = (slice_index_or h.entries i (0, 0)).1

-- a pair of moment and key as one number, in the order of pairs where keys are below 2 ^ 32
abbrev pub rank : ℕ × ℕ → ℕ
rank entry = entry.0 * 2 ^ 32 + entry.1

-- the rank of what is in a cell of the heap
abbrev pub rank_at : Heap → ℕ → ℕ
rank_at h i = rank (slice_index_or h.entries i (0, 0))

-- where the entry of a key stands, counted from 1, or 0
abbrev pub place_of : Heap → ℕ → ℕ
place_of h key = (slice_index_or h.places key (0, 0)).0

-- the moment that a cell of the places leads to
abbrev pub moment_by : List (ℕ × ℕ) → ℕ × ℕ → Option ℕ
moment_by entries place = if place.0 == 0 then None else Some (slice_index_or entries (place.0 - 1) (0, 0)).0

-- the moment of a key
abbrev pub moment_in : Heap → ℕ → Option ℕ
moment_in h key = moment_by h.entries (slice_index_or h.places key (0, 0))

-- the moments of all keys
abbrev pub moments : Heap → List (Option ℕ)
moments h = map (moment_by h.entries) h.places

-- an entry is written into a cell, and its key's place
abbrev pub stood : Heap → ℕ → ℕ × ℕ → Heap
stood h place entry =
    record h { entries = slice_set h.entries place entry; places = slice_set h.places entry.1 (place + 1, 0) }

-- there are as many places as cells, enough of them, and not too many to be numbered
pub record IsSized (h : Heap) : Type 0 where
  pub room : h.len ≤ length h.entries
  pub keys : length h.places ≡ length h.entries
  pub limit : length h.entries < 2 ^ 32

-- each cell's key has its place there, and each place that is one leads to a cell with its key
pub record IsTied (h : Heap) : Type 0 where
  pub key_within : (i : ℕ) → i < h.len → key_at h i < length h.places
  pub stands : (i : ℕ) → i < h.len → place_of h (key_at h i) ≡ i + 1
  pub leads_within : (key i : ℕ) → place_of h key ≡ i + 1 → i < h.len
  pub leads : (key i : ℕ) → place_of h key ≡ i + 1 → key_at h i ≡ key

-- the same but for one cell, the hole, and one key, which is to stand there
pub record IsTiedBut (h : Heap) (hole key : ℕ) : Type 0 where
  pub key_within : (i : ℕ) → i < h.len → i ≢ hole → key_at h i < length h.places
  pub other_key : (i : ℕ) → i < h.len → i ≢ hole → key_at h i ≢ key
  pub stands : (i : ℕ) → i < h.len → i ≢ hole → place_of h (key_at h i) ≡ i + 1
  pub leads_within : (q i : ℕ) → q ≢ key → place_of h q ≡ i + 1 → i < h.len
  pub leads_past : (q i : ℕ) → q ≢ key → place_of h q ≡ i + 1 → i ≢ hole
  pub leads : (q i : ℕ) → q ≢ key → place_of h q ≡ i + 1 → key_at h i ≡ q

-- cell c is one of the two below cell i
pub record IsBelow (i c : ℕ) : Type 0 where
  pub from : 2 * i < c
  pub to : c ≤ 2 * i + 2

-- no entry is below a greater one
pub record IsOrdered (h : Heap) : Type 0 where
  pub order : (i c : ℕ) → IsBelow i c → c < h.len → rank_at h i ≤ rank_at h c

-- what the ranks of n cells keep while one of them, the hole, is passed over
pub record Passes (f : ℕ → ℕ) (n hole : ℕ) : Type 0 where
  pub order : (i c : ℕ) → IsBelow i c → c < n → i ≢ hole → c ≢ hole → f i ≤ f c
  pub past : (i c : ℕ) → IsBelow i hole → IsBelow hole c → c < n → f i ≤ f c

-- a heap with a hole, to which the entry of a key is to go
pub record IsOpen (h : Heap) (hole key : ℕ) : Type 0 where
  pub sized : IsSized h
  pub hole_within : hole < h.len
  pub key_there : key < length h.places
  pub tied : IsTiedBut h hole key
  pub passes : Passes (rank_at h) h.len hole

-- what is above the hole is no greater than an entry
abbrev pub IsAboveNoGreater : Heap → ℕ → ℕ × ℕ → Type 0
IsAboveNoGreater h hole entry = (i : ℕ) → IsBelow i hole → rank_at h i ≤ rank entry

-- what is below the hole is no less than an entry
abbrev pub IsBelowNoLess : Heap → ℕ → ℕ × ℕ → Type 0
IsBelowNoLess h hole entry = (c : ℕ) → IsBelow hole c → c < h.len → rank entry ≤ rank_at h c

-- a heap in order
pub record IsHeap (h : Heap) : Type 0 where
  pub sized : IsSized h
  pub tied : IsTied h
  pub ordered : IsOrdered h

-- every other key has its moment still, and there are as many cells and entries
pub record KeepsOthers (old new : Heap) (key : ℕ) : Type 0 where
  pub len : new.len ≡ old.len
  pub cells : length new.entries ≡ length old.entries
  pub places : length new.places ≡ length old.places
  pub others : (q : ℕ) → q ≢ key → moment_in new q ≡ moment_in old q

-- an entry stands above a place
pub record StandsAbove (h : Heap) (place : ℕ) (s : Standing) : Type 0 where
  pub above : IsBelow s.place place
  pub there : s.entry ≡ entry_at h s.place

-- an entry stands below a place, and the other there is no less
pub record IsLeastBelow (h : Heap) (place : ℕ) (s : Standing) : Type 0 where
  pub below : IsBelow place s.place
  pub within : s.place < h.len
  pub there : s.entry ≡ entry_at h s.place
  pub least : IsBelowNoLess h place s.entry

-- a step of a lift: what stands above the hole is greater than an entry
pub record IsGreaterAbove (h : Heap) (place : ℕ) (entry : ℕ × ℕ) (s : Standing) : Type 0 where
  pub stands : StandsAbove h place s
  pub greater : rank entry < rank s.entry

-- a step of a sink: the least below the hole is less than an entry
pub record IsLessBelow (h : Heap) (place : ℕ) (entry : ℕ × ℕ) (s : Standing) : Type 0 where
  pub stands : IsLeastBelow h place s
  pub less : rank s.entry < rank entry

-- how many entries there are once a key has one
abbrev pub len_with : Heap → ℕ → ℕ
len_with h key = if place_of h key == 0 then h.len + 1 else h.len

-- how many entries there are once a key has none
abbrev pub len_without : Heap → ℕ → ℕ
len_without h key = if place_of h key == 0 then h.len else h.len - 1

-- a heap in order, with as many entries as keys have moments
pub record IsBook (h : Heap) : Type 0 where
  pub heap : IsHeap h
  pub counted : count_by is_some (moments h) ≡ h.len
