-- The pieces that a window holds, in the order of their seqs, and what lies in their slots. Public clauses cite this
-- module.
use Rattle.std.specs.Prelude.{◌<◌, ◌≤◌, ◌^◌, map, slice_index_or, ℕ, List, [], ◌∷◌, take, Option, Some, None}
use Rattle.rx_model.specs.declared.wire.TheConstants.{PAYLOAD_BYTES}
use Rattle.rx_rules.specs.Sent as rules
use Rattle.rx_pool.specs.Pool.{Slots, bytes_at}
use Rattle.rx_sendwin.specs.declared.piece.HeldPiece.{HeldPiece}
use Rattle.rx_sendwin.specs.declared.piece.LastGiving.{LastGiving}

-- the slots that are held
abbrev pub slots_in : List HeldPiece → List ℕ
slots_in [] = []
slots_in (h ∷ hs) = h.slot ∷ slots_in hs

-- the bytes of a piece, given the pool
abbrev pub seen_at : Slots → HeldPiece → List ℕ
seen_at pool h = take h.size (bytes_at pool h.slot)

-- the bytes of the piece at a place; none past the end
abbrev pub payload_in : Slots → List HeldPiece → ℕ → List ℕ
payload_in pool hs i = slice_index_or (map (seen_at pool) hs) i []

-- a giving as the rules have it
abbrev pub as_giving : Option LastGiving → Option rules.LastGiving
as_giving None = None
as_giving (Some g) = Some (record { moment = g.moment; again = g.again; order = g.order })

-- the last giving of a piece
abbrev pub giving_at : HeldPiece → Option rules.LastGiving
giving_at h = as_giving h.given

-- the last giving of the piece at a place; none past the end
abbrev pub giving_in : List HeldPiece → ℕ → Option rules.LastGiving
giving_in hs i = slice_index_or (map giving_at hs) i None

-- no piece has more bytes than a payload may have
abbrev pub AllSized : List HeldPiece → Type 0
AllSized [] = Unit {0}
AllSized (h ∷ hs) = (h.size ≤ PAYLOAD_BYTES) × AllSized hs

-- a piece that was given was given at a moment that a clock may have
abbrev pub IsTimed : Option LastGiving → Type 0
IsTimed None = Unit {0}
IsTimed (Some g) = g.moment < 2 ^ 62

-- the same of each piece
abbrev pub AllTimed : List HeldPiece → Type 0
AllTimed [] = Unit {0}
AllTimed (h ∷ hs) = IsTimed h.given × AllTimed hs

-- how many bytes the last piece has
abbrev pub last_size : List HeldPiece → ℕ
last_size [] = 0
last_size (h ∷ []) = h.size
last_size (h ∷ g ∷ hs) = last_size (g ∷ hs)
