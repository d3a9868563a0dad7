-- The piece that is due, among the items that the rules know of a call. Public clauses cite this module.
use Rattle.std.specs.Prelude.{◌&&◌, not, nat_le, filter, ℕ, Option, Some, None, option_map, option_and_then}
use Rattle.rx_rules.specs.CallItems.{CallItem, Sending, piece_items, asks}
use Rattle.rx_rules.specs.CallItems as items
use Rattle.rx_rules.specs.Least.{least_by}
use Rattle.rx_rules.specs.Lost.{is_lost, halves}
use Rattle.rx_rules.specs.Rates.{Cwnd}
use Rattle.rx_rules.specs.Sent.{Sent, LastGiving, last_giving, lowest_of}
use Rattle.rx_sendwin.specs.declared.next.NextPiece.{NextPiece}

-- the DATA item of least rank of those due at a moment
abbrev pub next_piece_item : ℕ → ℕ → Cwnd → Sent → Option CallItem
next_piece_item now rto c s = least_by (λ i. i.rank) (filter (λ i. nat_le i.rank now) (piece_items rto c s))

-- the piece that an item is of, whether it asks for an acknowledgement, whether it is given as its time is up, and
-- whether giving it closes the window by half
abbrev pub piece_of : Cwnd → Sent → Sending → Option NextPiece
piece_of c s (items.Piece seq again) =
    Some (record {
      seq = seq;
      again = again;
      asks = asks c s seq again;
      up = again && not (is_lost c s seq);
      half = halves c s seq;
    })
piece_of c s (items.Ack reason serial) = None

-- the piece that is due at a moment
abbrev pub next_piece : ℕ → ℕ → Cwnd → Sent → Option NextPiece
next_piece now rto c s = option_and_then (λ i. piece_of c s i.sending) (next_piece_item now rto c s)

-- the rank of the DATA item of least rank
abbrev pub least_rank : ℕ → Cwnd → Sent → Option ℕ
least_rank rto c s = option_map (λ i. i.rank) (least_by (λ i. i.rank) (piece_items rto c s))

-- the last giving of the lowest piece that isn't acknowledged
abbrev pub again_of : Sent → Option LastGiving
again_of s = last_giving s.givings (lowest_of s)
