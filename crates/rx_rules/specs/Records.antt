-- The records of a node: connections that are entered, used and forgotten, and calls that start. Public clauses cite
-- this module.
use Rattle.std.specs.Prelude.{◌&&◌, ◌||◌, ◌-◌, not, if◌then◌else◌, nat_le, is_some, ℕ, suc, Bool}
use Rattle.std.specs.Prelude.{false, List, [], ◌∷◌, ◌++◌, length, map, filter, Option, Some, None}
use Rattle.std.specs.List.{list_any}
use Rattle.rx_model.specs.declared.names.CallName.{CallName}
use Rattle.rx_model.specs.declared.names.Host.{Host}
use Rattle.rx_model.specs.declared.wire.TheConstants.{IDLE_MS, SILENCE_MS}
use Rattle.rx_rules.specs.CallLooks.{fresh_call}
use Rattle.rx_rules.specs.Least.{least_by}
use Rattle.rx_rules.specs.Life.{Life, is_live, is_active, after_later, after_silence}
use Rattle.rx_rules.specs.Life as lives
use Rattle.rx_rules.specs.Looks.{CallRecord, ConnLooks, Looks, fresh_channel, conn_at, latest, is_call, on_calls}
use Rattle.rx_rules.specs.Looks.{on_conn, on_channel, on_life, latest_name}
use Rattle.rx_model.specs.Names.{Connection, channel_of, channels_of, same_connection, same_name}
use Rattle.rx_rules.specs.Setup.{Setup, Kind, Server, Client, pace_of}

-- ---- connections

-- a connection that is entered
abbrev pub fresh_conn : Connection → Host → ℕ → ℕ → Looks → ConnLooks
fresh_conn x peer service first l =
    record {
      connection = x;
      peer = peer;
      service = service;
      first = first;
      order = l.entered;
      given = 0;
      last_use = l.now;
      proved = false;
      channels = map (λ ch. fresh_channel 0) (channels_of x);
    }

-- whether a call of the connection lives
abbrev pub has_live : Looks → Connection → Bool
has_live l x = list_any (λ ch. is_call (λ k. is_live k.life) (latest l ch)) (channels_of x)

-- no call of it lives, and it wasn't used for long
abbrev pub is_idle : Looks → ConnLooks → Bool
is_idle l r = not (has_live l r.connection) && nat_le IDLE_MS (l.now - r.last_use)

-- the connection that may be forgotten: of the idle ones the first whose last use is the earliest
abbrev pub idle_conn : Looks → Option ConnLooks
idle_conn l = least_by (λ r. r.last_use) (filter (is_idle l) l.conns)

-- a new connection stands in the next free place, or in that of the one that is forgotten
abbrev pub placed : ConnLooks → Option ConnLooks → Looks → Looks
placed new None l = record l { conns = l.conns ++ new ∷ []; entered = suc l.entered }
placed new (Some old) l =
    record l {
      conns = map (λ r. if same_connection r.connection old.connection then new else r) l.conns;
      entered = suc l.entered;
      forgotten = old.connection ∷ l.forgotten;
    }

-- as many connections as may be are kept
abbrev pub is_full : Setup → Looks → Bool
is_full s l = nat_le s.limits.conns (length l.conns)

-- there is a place for a further connection
abbrev pub has_place : Setup → Looks → Bool
has_place s l = not (is_full s l) || is_some (idle_conn l)

-- a server enters a connection that it doesn't know
abbrev pub with_conn : Setup → Kind → Connection → Looks → Looks
with_conn s (Server service nonces) x l =
    placed (fresh_conn x x.host service 1 l) (if is_full s l then idle_conn l else None) l
with_conn s (Client host epoch) x l = l

-- unless it is known
abbrev pub entered : Setup → Connection → Looks → Looks
entered s x l = if is_some (conn_at l x) then l else with_conn s s.kind x l

-- its last use is now
abbrev pub used : Connection → Looks → Looks
used x l = on_conn x (λ r. record r { last_use = l.now }) l

-- ---- calls

-- the calls with a new one: it takes the place of an earlier life of that name
abbrev pub with_call : CallRecord → List CallRecord → List CallRecord
with_call new ks =
    if list_any (λ k. same_name k.name new.name) ks then map (λ k. if same_name k.name new.name then new else k) ks
    else ks ++ new ∷ []

-- a call starts: its channel has its number and owes nothing
abbrev pub started : Setup → Life → CallName → Looks → Looks
started s life c l =
    record (on_channel (channel_of c) (λ q. fresh_channel c.number) l) {
      calls =
          with_call (record { name = c; life = life; looks = fresh_call (pace_of s) l.now }) l.calls;
      firsts = filter (λ d. not (same_name d c)) l.firsts;
    }

-- a server's call starts in place of the channel's earlier one, which ends
abbrev pub started_later : Setup → CallName → Looks → Looks
started_later s c l = started s lives.Waiting c (on_life (latest_name l (channel_of c)) after_later l)

-- ---- silence

-- for how long nothing was heard of a call
abbrev pub silence_of : ℕ → CallRecord → ℕ
silence_of now k = now - k.looks.heard

-- nothing was heard for so long that the next poll ends the call
abbrev pub is_silent : ℕ → CallRecord → Bool
is_silent now k = is_active k.life && nat_le SILENCE_MS (silence_of now k)

-- a silent one ends
abbrev pub unless_silent : ℕ → CallRecord → CallRecord
unless_silent now k =
    if is_silent now k then record k { life = after_silence (silence_of now k) k.life } else k

-- silent calls end
abbrev pub silenced : Looks → Looks
silenced l = on_calls (unless_silent l.now) l
