-- What a sending window is, and for what it stands. Public clauses cite this module.
use Rattle.std.specs.Prelude.{◌≡◌, ◌<◌, ◌≤◌, ◌+◌, ◌-◌, ◌*◌, slice_index_or, ℕ, suc, Bool, false, List, length}
use Rattle.rx_model.specs.declared.wire.TheConstants.{LAST_SEQ, MIN_WINDOW, MAX_WINDOW, PIECE_BYTES}
use Rattle.rx_rules.specs.Sent.{Sent, pieces_by, counting_by, payload_at, given_of, last_giving}
use Rattle.rx_rules.specs.Sent.{LAST_ORDER, orders_of}
use Rattle.rx_rules.specs.Sent as rules
use Rattle.rx_pool.specs.Pool.{Slots}
use Rattle.rx_sendwin.specs.declared.newly.Newly.{Newly}
use Rattle.rx_sendwin.specs.declared.piece.HeldPiece.{HeldPiece}
use Rattle.rx_sendwin.specs.Marks.{is_acked_by, flight_by, leading_marks}
use Rattle.rx_sendwin.specs.Pieces.{slots_in, payload_in, giving_in, last_size, AllSized, AllTimed}

-- the window's width; how many bytes were accepted; whether the stream is shut; how many pieces are hard acknowledged;
-- how many were given; the marks in force, from the piece behind the acknowledged ones on; the peer window; the pieces
-- held, from that same piece on; how many givings there were, and how many of them before the latest that was made as a
-- piece's time was up
pub record SendWindow : Type 0 where
  pub width : ℕ
  pub total : ℕ
  pub shut : Bool
  pub acked : ℕ
  pub given : ℕ
  pub soft : List Bool
  pub peer_window : ℕ
  pub pieces : List HeldPiece
  pub orders : ℕ
  pub since : ℕ

-- the slots that a window holds, in the order of their seqs
abbrev pub piece_slots : SendWindow → List ℕ
piece_slots w = slots_in w.pieces

-- what ties a window's numbers together, and bounds them
pub record IsTied (w : SendWindow) (low flight : ℕ) : Type 0 where
  pub least : MIN_WINDOW ≤ w.width
  pub most : w.width ≤ MAX_WINDOW
  pub held : w.acked + length w.pieces ≡ pieces_by w.total w.shut
  pub within : length w.pieces ≤ w.width
  pub filling : 0 < length w.pieces → last_size w.pieces + PIECE_BYTES * (w.acked + length w.pieces - 1) ≡ w.total
  pub fits : pieces_by w.total w.shut ≤ LAST_SEQ
  pub given_most : w.given ≤ counting_by w.total w.shut
  pub acked_most : w.acked ≤ w.given
  pub quiet : (i : ℕ) → w.given ≤ w.acked + i → slice_index_or w.soft i false ≡ false
  pub lowest : low ≡ leading_marks w.soft
  pub in_flight : flight ≡ flight_by (is_acked_by w.acked w.soft) w.given
  pub sized : AllSized w.pieces
  pub timed : AllTimed w.pieces
  pub marks : length w.soft ≤ MAX_WINDOW
  pub peer : w.peer_window ≤ MAX_WINDOW
  pub orders : w.orders ≤ LAST_ORDER
  pub since : w.since ≤ w.orders

-- with the bytes of its pool, a window stands for what was sent: it has that as far as it isn't hard acknowledged
pub record StandsSent (pool : Slots) (w : SendWindow) (s : Sent) : Type 0 where
  pub total : w.total ≡ length s.said
  pub shut : w.shut ≡ s.shut
  pub acked : w.acked ≡ s.acked
  pub given : w.given ≡ given_of s
  pub soft : (i : ℕ) → slice_index_or w.soft i false ≡ s.soft (suc (w.acked + i))
  pub peer : w.peer_window ≡ s.peer_window
  pub pieces : (i : ℕ) → payload_in pool w.pieces i ≡ payload_at s.said (suc (w.acked + i))
  pub givings : (i : ℕ) → giving_in w.pieces i ≡ last_giving s.givings (suc (w.acked + i))
  pub orders : w.orders ≡ orders_of s.givings
  pub since : w.since ≡ s.since

-- a piece may be sent: it is held and counts, and those before it were given
pub record CanBeSent (w : SendWindow) (seq : ℕ) : Type 0 where
  pub above : w.acked < seq
  pub held : seq ≤ w.acked + length w.pieces
  pub counts : seq ≤ counting_by w.total w.shut
  pub before : seq ≤ w.given + 1

-- bytes alone were accepted: what else the window has stays
pub record SameButBytes (old new : SendWindow) : Type 0 where
  pub width : new.width ≡ old.width
  pub shut : new.shut ≡ old.shut
  pub acked : new.acked ≡ old.acked
  pub given : new.given ≡ old.given

-- what an acknowledgement tells, as the rules have it
abbrev pub as_newly : Newly → rules.Newly
as_newly n = record { count = n.count; sample = n.sample }
