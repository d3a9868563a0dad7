-- What of a call comes first: its piece, or its acknowledgement. Public clauses of this crate alone cite this module.
use Rattle.std.specs.Prelude.{◌+◌, if◌then◌else◌, nat_le, filter, ℕ, Bool, true, false, Option, Some, None, option_map}
use Rattle.rx_model.specs.declared.wire.TheConstants.{ACK_PING, PING_MS}
use Rattle.rx_rules.specs.CallItems.{CallItem, Sending, piece_items}
use Rattle.rx_rules.specs.CallItems as items
use Rattle.rx_rules.specs.CallLooks.{CallLooks}
use Rattle.rx_rules.specs.Least.{least_by}
use Rattle.rx_rules.specs.Owing.{Owed}

-- the rank of the piece of least rank
abbrev pub least_piece : CallLooks → Option ℕ
least_piece k = option_map (λ i. i.rank) (least_by (λ i. i.rank) (piece_items k.rtt.rto k.cwnd k.sent))

-- the piece that is due at a moment
abbrev pub piece_sending : ℕ → CallLooks → Option Sending
piece_sending now k =
    option_map (λ i. i.sending)
    (least_by (λ i. i.rank) (filter (λ i. nat_le i.rank now) (piece_items k.rtt.rto k.cwnd k.sent)))

-- a ping, behind the last giving
abbrev pub ping_at : ℕ → Owed
ping_at spoke = record { reason = ACK_PING; serial = 0; rank = spoke + PING_MS }

-- the acknowledgement that is owed, or at a client the ping where that comes first
abbrev pub earlier : Owed → Option Owed → Owed
earlier ping None = ping
earlier ping (Some owed) = if nat_le owed.rank ping.rank then owed else ping

-- the acknowledgement that comes first
abbrev pub first_ack : Bool → ℕ → Option Owed → Option Owed
first_ack true spoke owed = Some (earlier (ping_at spoke) owed)
first_ack false spoke owed = owed

-- an acknowledgement, or else the piece
abbrev pub chosen_by : Option Owed → Option Sending → Option Sending
chosen_by None piece = piece
chosen_by (Some owed) piece = Some (items.Ack owed.reason owed.serial)
