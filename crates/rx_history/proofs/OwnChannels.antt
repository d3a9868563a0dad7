-- A channel of a connection that a node has: the names of its calls fit, and what holds of each channel holds of it.
use Rattle.rx_history.proofs.Conns.{FitsConnection}
use Rattle.std.proofs.Common.{◌≡◌, ◌<◌, ◌^◌, ℕ, zero, suc}
use Rattle.std.proofs.Common.{List, [], ◌∷◌}
use Rattle.std.proofs.Common.{Option, Some, None, refl, arith}
use Rattle.std.specs.Prelude.{slice_get}
use Rattle.std.specs.Prelude.{option_and_then, unwrap_or}
use Rattle.rx_model.specs.Names.{Channel, channels_of}
use Rattle.rx_rules.specs.Items.{all_channels}
use Rattle.rx_rules.specs.Looks.{ChannelLooks, ConnLooks, Looks, call_named, channel_at, conn_at, fresh_channel}
use Rattle.rx_rules.specs.Setup.{Setup, Kind, Server, Client}
use Rattle.rx_rules.proofs.EveryLaws.{Every, every-append}
use Rattle.rx_history.proofs.Data.{GoodName, OwnName}
use Rattle.rx_history.proofs.Fit.FitChannels.{FitsConn, OwnConn}

-- a channel of a connection that the node has
pub record OwnChannel (s : Setup) (ch : Channel) : Type 0 where
  pub name : FitsConnection ch.connection
  pub own : OwnConn s.kind ch.connection
  pub chan : ch.chan < 4

-- all of its channels
pub own_channels : (s : Setup) (rs : List ConnLooks) → Every (FitsConn s) rs → Every (OwnChannel s) (all_channels rs)
own_channels s [] all = tt
own_channels s (r ∷ rs) all =
    every-append (OwnChannel s) (channels_of r.connection) (all_channels rs)
    (one 0 (omega arith), (one 1 (omega arith), (one 2 (omega arith), (one 3 (omega arith), tt))))
    (own_channels s rs all.1)
  where
    one : (n : ℕ) → n < 4 → OwnChannel s (record { connection = r.connection; chan = n })
    one n low = record { name = all.0.name; own = all.0.own; chan = low }

own-name : (kind : Kind) (ch : Channel) (n : ℕ) → OwnConn kind ch.connection → OwnName kind (call_named ch n)
own-name (Client host epoch) ch n own = own
own-name (Server service nonces) ch n own = tt

-- the name of a call on it fits
pub good_name : (s : Setup) (ch : Channel) (n : ℕ) → OwnChannel s ch → n < 2 ^ 32 → GoodName s (call_named ch n)
good_name s ch n own low =
    let whole = own.name.1 in
    let top = own.name.2 in
    let chan = own.chan in
    record {
      epoch = own.name.0;
      whole = omega arith;
      split = omega arith;
      number = low;
      own = own-name s.kind ch n own.own;
    }

-- what holds of each channel of each connection, and of one that owes nothing
nth-has : (P : ChannelLooks → Type 0) (qs : List ChannelLooks) (n : ℕ) → P (fresh_channel 0) → Every P qs
    → P (unwrap_or (slice_get qs n) (fresh_channel 0))
nth-has P [] n none all = none
nth-has P (q ∷ qs) zero none all = all.0
nth-has P (q ∷ qs) (suc n) none all = nth-has P qs n none all.1

-- what holds of each channel of a connection, and of one that owes nothing, holds of the one that is looked for
pub channel_has : (P : ChannelLooks → Type 0) (l : Looks) (ch : Channel) → P (fresh_channel 0)
    → ((r : ConnLooks) → conn_at l ch.connection ≡ Some r → Every P r.channels) → P (channel_at l ch)
channel_has P l ch none each = of (conn_at l ch.connection) each
  where
    of : (o : Option ConnLooks) → ((r : ConnLooks) → o ≡ Some r → Every P r.channels)
        → P (unwrap_or (option_and_then (λ r. slice_get r.channels ch.chan) o) (fresh_channel 0))
    of None each = none
    of (Some r) each = nth-has P r.channels ch.chan none (each r refl)
