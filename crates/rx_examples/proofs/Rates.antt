-- Worked examples of round trips, of congestion windows, and of serials.
use Rattle.std.specs.Prelude.{◌≡◌, ◌-◌, ◌^◌, ℕ, suc, zero, Bool, true, false, List, [], ◌∷◌, map, Option, Some}
use Rattle.std.specs.Prelude.{option_map, refl}
use Rattle.rx_model.specs.Names.{connection_of, default_limits}
use Rattle.rx_model.specs.Body as bodies
use Rattle.rx_rules.specs.CallItems.{prompts}
use Rattle.rx_rules.specs.Classes.{null}
use Rattle.rx_rules.specs.Items.{message_on}
use Rattle.rx_rules.specs.Looks.{at_start}
use Rattle.rx_rules.specs.Rates.{Cwnd, Rtt, after_acked, after_backoff, after_sample, after_timeout, first_cwnd}
use Rattle.rx_rules.specs.Rates.{first_rtt}
use Rattle.rx_rules.specs.Records.{fresh_conn}
use Rattle.rx_rules.specs.Setup.{Setup, Server, unprompted}
use Rattle.rx_examples.proofs.Told.{at_client, call}

-- the RTO after each of several round trips
abbrev rtos : List ℕ → Rtt → List ℕ
rtos [] r = []
rtos (ms ∷ trips) r = (after_sample ms r).rto ∷ rtos trips (after_sample ms r)

-- three round trips
round_trips : rtos (100 ∷ 180 ∷ 900 ∷ []) (first_rtt false) ≡ 350 ∷ 350 ∷ 1171 ∷ []
round_trips = refl

-- what three round trips leave: in eighths 800, 880, 1,670; in quarters 200, 230, 963
abbrev estimates : List ℕ → Rtt → List (Option (ℕ × ℕ))
estimates [] r = []
estimates (ms ∷ trips) r =
    option_map (λ e. (e.smoothed, e.variance)) (after_sample ms r).estimate ∷ estimates trips (after_sample ms r)

smoothed_and_variance : estimates (100 ∷ 180 ∷ 900 ∷ []) (first_rtt false)
    ≡ Some (800, 200) ∷ Some (880, 230) ∷ Some (1670, 963) ∷ []
smoothed_and_variance = refl

-- a round trip of more than a minute counts as one
long_round_trip : after_sample 60001 (first_rtt false) ≡ after_sample 60000 (first_rtt false)
long_round_trip = refl

-- what congestion windows become with acknowledgements of so many pieces
abbrev windows : List ℕ → Cwnd → List ℕ
windows [] c = []
windows (n ∷ ns) c = (after_acked n c).window ∷ windows ns (after_acked n c)

-- from 2 on, acknowledgements of 2 and 4 pieces
slow_start : windows (2 ∷ 4 ∷ []) (first_cwnd 32 false) ≡ 4 ∷ 8 ∷ []
slow_start = refl

-- at 8 a timer resend: 1 with the threshold 4, and then acknowledgements of 1, 2 and 4
abbrev resent : Cwnd
resent = after_timeout (after_acked 4 (after_acked 2 (first_cwnd 32 false)))

resent_window : (resent.window ≡ 1) × (resent.ssthresh ≡ 4)
resent_window = (refl, refl)

after_a_resend : windows (1 ∷ 2 ∷ 4 ∷ []) resent ≡ 2 ∷ 4 ∷ 5 ∷ []
after_a_resend = refl

-- each timer resend doubles the RTO, up to 4,000
abbrev backed_off : ℕ → Rtt → Rtt
backed_off zero r = r
backed_off (suc n) r = after_backoff (backed_off n r)

backoffs : map (λ (n : ℕ). (backed_off n (first_rtt false)).rto) (1 ∷ 2 ∷ 3 ∷ []) ≡ 2000 ∷ 4000 ∷ 4000 ∷ []
backoffs = refl

-- ---- prompt nodes

-- which of the pieces 14, 15, 16 and 30 end half of a window of 32
abbrev asking : Bool → List Bool
asking prompt = map (λ (k : ℕ). prompts (first_cwnd 32 prompt) k) (14 ∷ 15 ∷ 16 ∷ 30 ∷ [])

prompt_asks : asking true ≡ false ∷ true ∷ false ∷ true ∷ []
prompt_asks = refl

unprompted_asks : asking false ≡ false ∷ false ∷ false ∷ false ∷ []
unprompted_asks = refl

-- ---- serials

abbrev served : Setup
served = unprompted (Server 1 0) default_limits null

-- the serial of a datagram on a connection on which so many were given
abbrev serial_behind : ℕ → ℕ
serial_behind given =
    (message_on served (record { rank = 0; name = call; seq = 0; flags = 0; body = bodies.AckAll })
    (record (fresh_conn (connection_of call) at_client 1 1 at_start) { given = given })).serial

-- 0 follows the greatest serial
serials : map serial_behind (0 ∷ (2 ^ 32 - 2) ∷ (2 ^ 32 - 1) ∷ (2 ^ 32) ∷ []) ≡ 1 ∷ (2 ^ 32 - 1) ∷ 0 ∷ 1 ∷ []
serials = refl
