-- The number of a channel behind changes of connections and channels.
use Rattle.std.proofs.Common.{◌≡◌, ◌≤◌, ◌<◌, ℕ, zero, suc, cond, if◌then◌else◌, Bool, true, false, List, [], ◌∷◌}
use Rattle.std.proofs.Common.{length, map}
use Rattle.std.proofs.Common.{Option, Some, None, option_map, refl, ◌∙◌, ap, arith}
use Rattle.std.specs.Prelude.{option_and_then, slice_get, unwrap_or}
use Rattle.std.specs.List.{find}
use Rattle.rx_rules.specs.Looks.{ChannelLooks, ConnLooks, Looks, changed_at, channel_at, conn_at, fresh_channel}
use Rattle.rx_rules.specs.Looks.{on_conn}
use Rattle.rx_model.specs.Names.{Connection, Channel, same_connection}

-- the number of the n-th channel, 0 where there is none
abbrev pub number_in : List ChannelLooks → ℕ → ℕ
number_in qs n = (unwrap_or (slice_get qs n) (fresh_channel 0)).number

-- the same of a connection, 0 where it isn't known
abbrev pub number_of : Option ConnLooks → ℕ → ℕ
number_of None n = 0
number_of (Some r) n = number_in r.channels n

-- it is the channel's
pub channel_number : (l : Looks) (ch : Channel) → (channel_at l ch).number ≡ number_of (conn_at l ch.connection) ch.chan
channel_number l ch = of_conn (conn_at l ch.connection)
  where
    of_conn : (o : Option ConnLooks)
        → (unwrap_or (option_and_then (λ r. slice_get r.channels ch.chan) o) (fresh_channel 0)).number
        ≡ number_of o ch.chan
    of_conn None = refl
    of_conn (Some r) = refl

-- a change of a channel that doesn't lower its number
abbrev pub Raises : (ChannelLooks → ChannelLooks) → List ChannelLooks → ℕ → Type 0
Raises change qs n = number_in qs n ≤ (change (unwrap_or (slice_get qs n) (fresh_channel 0))).number

-- lowers no number
pub number_in-changed : (qs : List ChannelLooks) (m n : ℕ) (change : ChannelLooks → ChannelLooks) → Raises change qs m
    → number_in qs n ≤ number_in (changed_at m change qs) n
number_in-changed [] m n change raises = omega arith
number_in-changed (q ∷ qs) zero zero change raises = raises
number_in-changed (q ∷ qs) zero (suc n) change raises = omega arith
number_in-changed (q ∷ qs) (suc m) zero change raises = omega arith
number_in-changed (q ∷ qs) (suc m) (suc n) change raises = number_in-changed qs m n change raises

-- the channel that changes, where it is there
pub number_in-here : (qs : List ChannelLooks) (n number : ℕ) → n < length qs
    → number_in (changed_at n (λ q. fresh_channel number) qs) n ≡ number
number_in-here [] n number there = absurd (omega arith)
number_in-here (q ∷ qs) zero number there = refl
number_in-here (q ∷ qs) (suc n) number there = number_in-here qs n number (omega arith)

-- as many channels as before
pub length-changed : (qs : List ChannelLooks) (m : ℕ) (change : ChannelLooks → ChannelLooks)
    → length (changed_at m change qs) ≡ length qs
length-changed [] m change = refl
length-changed (q ∷ qs) zero change = refl
length-changed (q ∷ qs) (suc m) change = ap (λ (n : ℕ). suc n) (length-changed qs m change)

-- ---- connections

-- a change that leaves each its name
abbrev pub KeepsConns : (ConnLooks → ConnLooks) → Type 0
KeepsConns change = (r : ConnLooks) → (change r).connection ≡ r.connection

option_map-cond : (change : ConnLooks → ConnLooks) (test : Bool) (r : ConnLooks) (rest : Option ConnLooks)
    → cond test (Some (change r)) (option_map change rest) ≡ option_map change (cond test (Some r) rest)
option_map-cond change true r rest = refl
option_map-cond change false r rest = refl

find-conns : (x : Connection) (change : ConnLooks → ConnLooks) → KeepsConns change → (rs : List ConnLooks)
    → find (λ r. same_connection r.connection x) (map change rs)
    ≡ option_map change (find (λ r. same_connection r.connection x) rs)
find-conns x change keeps [] = refl
find-conns x change keeps (r ∷ rs) =
    ap (λ y. cond (same_connection y x) (Some (change r)) (find (λ q. same_connection q.connection x) (map change rs)))
    (keeps r)
    ∙ rw (find-conns x change keeps rs)
    (option_map-cond change (same_connection r.connection x) r (find (λ q. same_connection q.connection x) rs))

-- a change of one connection, as it shows at any
abbrev pub conn_if : Connection → (ConnLooks → ConnLooks) → ConnLooks → ConnLooks
conn_if y change r = if same_connection r.connection y then change r else r

conn_if-name : (test : Bool) (change : ConnLooks → ConnLooks) (r : ConnLooks) → (change r).connection ≡ r.connection
    → (cond test (change r) r).connection ≡ r.connection
conn_if-name true change r keeps = keeps
conn_if-name false change r keeps = refl

-- the record of any connection behind a change of one
pub conn_at-on_conn : (x y : Connection) (change : ConnLooks → ConnLooks) (l : Looks) → KeepsConns change
    → conn_at (on_conn y change l) x ≡ option_map (conn_if y change) (conn_at l x)
conn_at-on_conn x y change l keeps =
    find-conns x (conn_if y change) (λ r. conn_if-name (same_connection r.connection y) change r (keeps r)) l.conns
