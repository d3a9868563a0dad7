-- How fast a call sends: round trips and the congestion window. Public clauses cite this module.
use Rattle.std.specs.Prelude.{◌==◌, ◌+◌, ◌-◌, ◌*◌, ◌/◌, if◌then◌else◌, min, max, nat_lt, ℕ, Bool, Option, Some, None}
use Rattle.rx_model.specs.declared.wire.TheConstants.{FIRST_RTO_MS, MIN_RTO_MS, MAX_RTO_MS, FIRST_CWND}
use Rattle.rx_model.specs.declared.wire.TheConstants.{MIN_SSTHRESH, MAX_ROUND_TRIP_MS}

-- ---- round trips

-- a smoothed round trip in eighths of a millisecond, and its variance in quarters
pub record Estimate : Type 0 where
  pub smoothed : ℕ
  pub variance : ℕ

-- the estimate, once a round trip was measured, and the milliseconds after which a piece is given again; whether the
-- node is prompt
pub record Rtt : Type 0 where
  pub estimate : Option Estimate
  pub rto : ℕ
  pub prompt : Bool

-- of a call that starts, at a node that is prompt or isn't
abbrev pub first_rtt : Bool → Rtt
first_rtt prompt = record { estimate = None; rto = FIRST_RTO_MS; prompt = prompt }

-- how far apart two numbers are
abbrev pub apart : ℕ → ℕ → ℕ
apart a b = (a - b) + (b - a)

-- the estimate moves by an eighth, and the variance by a quarter, of what a round trip differs from it
abbrev pub estimate_with : ℕ → Option Estimate → Estimate
estimate_with ms None = record { smoothed = 8 * ms; variance = 2 * ms }
estimate_with ms (Some e) =
    record {
      smoothed = (e.smoothed - e.smoothed / 8) + ms;
      variance = (e.variance - e.variance / 4) + apart ms (e.smoothed / 8);
    }

-- the least and the greatest RTO hold it in between; at a prompt node a least variance takes the place of the least RTO
-- (RFC 6298, section 2)
abbrev pub rto_of : Bool → Estimate → ℕ
rto_of prompt e =
    if prompt then min MAX_RTO_MS (e.smoothed / 8 + max 50 e.variance)
    else max MIN_RTO_MS (min MAX_RTO_MS (e.smoothed / 8 + e.variance))

-- a round trip as it counts: a longer one is cut
abbrev pub as_trip : ℕ → ℕ
as_trip ms = min ms MAX_ROUND_TRIP_MS

-- an estimate, and the RTO that it gives
abbrev pub rtt_of : Estimate → Rtt → Rtt
rtt_of e r = record r { estimate = Some e; rto = rto_of r.prompt e }

-- a round trip was measured
abbrev pub after_sample : ℕ → Rtt → Rtt
after_sample ms r = rtt_of (estimate_with (as_trip ms) r.estimate) r

-- a piece had to be given again
abbrev pub after_backoff : Rtt → Rtt
after_backoff r = record r { rto = min (2 * r.rto) MAX_RTO_MS }

-- ---- the congestion window

-- how many pieces may be in flight, up to which number slow start lasts, and the node's own window, which it never
-- passes; whether the node is prompt
pub record Cwnd : Type 0 where
  pub window : ℕ
  pub ssthresh : ℕ
  pub most : ℕ
  pub prompt : Bool

-- of a call that starts
abbrev pub first_cwnd : ℕ → Bool → Cwnd
first_cwnd most prompt = record { window = FIRST_CWND; ssthresh = most; most = most; prompt = prompt }

-- by how much n newly acknowledged pieces widen it
abbrev pub growth : ℕ → Cwnd → ℕ
growth n c = if n == 0 then 0 else if nat_lt c.window c.ssthresh then n else 1

-- n pieces were newly acknowledged
abbrev pub after_acked : ℕ → Cwnd → Cwnd
after_acked n c = record c { window = min (c.window + growth n c) c.most }

-- a piece was lost: the window closes by half
abbrev pub after_loss : Cwnd → Cwnd
after_loss c = record c { window = max MIN_SSTHRESH (c.window / 2); ssthresh = max MIN_SSTHRESH (c.window / 2) }

-- a piece's time was up: slow start begins anew
abbrev pub after_timeout : Cwnd → Cwnd
after_timeout c = record c { window = 1; ssthresh = max MIN_SSTHRESH (c.window / 2) }
