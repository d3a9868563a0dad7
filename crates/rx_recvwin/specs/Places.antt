-- The places of a window, in the order of their seqs, and what lies in them. Public clauses cite this module.
use Rattle.std.specs.Prelude.{◌≡◌, ◌<◌, ◌≤◌, ◌+◌, ◌-◌, ◌^◌, is_some, nat_le, slice_index_or, if◌then◌else◌, ℕ, suc}
use Rattle.std.specs.Prelude.{Bool}
use Rattle.std.specs.Prelude.{true, false, List, [], ◌∷◌, length, take, Option, Some, None}
use Rattle.rx_model.specs.declared.wire.TheConstants.{PAYLOAD_BYTES}
use Rattle.rx_rules.specs.Received.{Piece}
use Rattle.rx_pool.specs.Pool.{Slots, bytes_at}
use Rattle.rx_recvwin.specs.declared.packet.KeptPacket.{KeptPacket}

-- what lies at a place; nothing past the end
abbrev pub place_at : {X : Type 0} → List (Option X) → ℕ → Option X
place_at xs i = slice_index_or xs i None

-- how many places from the first on are taken
abbrev pub leading : {X : Type 0} → List (Option X) → ℕ
leading [] = 0
leading (None ∷ xs) = 0
leading (Some x ∷ xs) = suc (leading xs)

-- how many places are taken
abbrev pub count_in : {X : Type 0} → List (Option X) → ℕ
count_in [] = 0
count_in (None ∷ xs) = count_in xs
count_in (Some x ∷ xs) = suc (count_in xs)

-- the slots that are held
abbrev pub slots_in : List (Option KeptPacket) → List ℕ
slots_in [] = []
slots_in (None ∷ ps) = slots_in ps
slots_in (Some p ∷ ps) = p.slot ∷ slots_in ps

-- the packet that lies in a place, given the pool
abbrev pub seen_at : Slots → Option KeptPacket → Option Piece
seen_at pool None = None
seen_at pool (Some p) = Some (record { payload = take p.size (bytes_at pool p.slot); last = p.last })

-- each packet at place i, whose seq is u + 1 + i, has a seq that a packet may have
abbrev pub HasSeqs : {X : Type 0} → ℕ → List (Option X) → Type 0
HasSeqs u xs = (u < 2 ^ 32 - 1) × ((i : ℕ) → is_some (place_at xs i) ≡ true → suc (u + i) < 2 ^ 32 - 1)

-- no packet has more bytes than a payload may have
abbrev pub HasSizes : List (Option KeptPacket) → Type 0
HasSizes ps = (i : ℕ) (p : KeptPacket) → place_at ps i ≡ Some p → p.size ≤ PAYLOAD_BYTES

-- a kept packet is done with, where so many of its bytes were read
abbrev pub is_packet_done : KeptPacket → ℕ → Bool → Bool
is_packet_done p offset ended = if p.last then ended else nat_le p.size offset

-- the same of a place
abbrev pub is_open_done : Option KeptPacket → ℕ → Bool → Bool
is_open_done None offset ended = false
is_open_done (Some p) offset ended = is_packet_done p offset ended

-- the same of what is seen there
abbrev pub is_place_done : Option Piece → ℕ → Bool → Bool
is_place_done None offset ended = false
is_place_done (Some p) offset ended = if p.last then ended else nat_le (length p.payload) offset
