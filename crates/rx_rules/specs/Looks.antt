-- What a history says of a node: its connections with their channels, and its calls. Public clauses cite this module.
use Rattle.std.specs.Prelude.{if◌then◌else◌, ℕ, ℤ, zero, suc, Bool, false, List, [], ◌∷◌}
use Rattle.std.specs.Prelude.{map, Option, Some, None, option_map, option_and_then, unwrap_or, slice_get}
use Rattle.std.specs.List.{find}
use Rattle.rx_model.specs.declared.names.CallName.{CallName}
use Rattle.rx_model.specs.declared.names.Host.{Host}
use Rattle.rx_model.specs.declared.stray.Stray.{Stray}
use Rattle.rx_rules.specs.CallLooks.{CallLooks}
use Rattle.rx_rules.specs.Life.{Life}
use Rattle.rx_model.specs.Names.{Connection, Channel, same_connection, same_name}

-- a call: its name, its life, and what passed at this end
pub record CallRecord : Type 0 where
  pub name : CallName
  pub life : Life
  pub looks : CallLooks

-- a channel: the number of its latest call, 0 where it had none, and what it owes: an ABORT's code, the number of a
-- BUSY, a CHALLENGE, a RESPONSE's bytes, an ACKALL
pub record ChannelLooks : Type 0 where
  pub number : ℕ
  pub owed_abort : Option ℤ
  pub owed_busy : Option ℕ
  pub owed_challenge : Bool
  pub owed_response : Option (List ℕ)
  pub owed_ackall : Bool

-- a connection: its name; the host and the service that its datagrams are for; the number of its first calls; which
-- record it is, from 0 on, of those that were entered; how many datagrams were given on it; the moment of its last use;
-- whether its client is proved; its four channels
pub record ConnLooks : Type 0 where
  pub connection : Connection
  pub peer : Host
  pub service : ℕ
  pub first : ℕ
  pub order : ℕ
  pub given : ℕ
  pub last_use : ℕ
  pub proved : Bool
  pub channels : List ChannelLooks

-- a node: its moment, in milliseconds; the connections in their places; how many were entered; those that were
-- forgotten; the calls in the order of their first start; the calls whose packet 1 was kept, in the order of its
-- keeping; the stray aborts that are owed, the oldest first
pub record Looks : Type 0 where
  pub now : ℕ
  pub conns : List ConnLooks
  pub entered : ℕ
  pub forgotten : List Connection
  pub calls : List CallRecord
  pub firsts : List CallName
  pub strays : List Stray

-- nothing happened yet
abbrev pub at_start : Looks
at_start = record { now = 0; conns = []; entered = 0; forgotten = []; calls = []; firsts = []; strays = [] }

-- ---- look-ups

-- a channel whose latest call has this number, and that owes nothing
abbrev pub fresh_channel : ℕ → ChannelLooks
fresh_channel number =
    record {
      number = number;
      owed_abort = None;
      owed_busy = None;
      owed_challenge = false;
      owed_response = None;
      owed_ackall = false;
    }

-- the record of a connection
abbrev pub conn_at : Looks → Connection → Option ConnLooks
conn_at l x = find (λ r. same_connection r.connection x) l.conns

-- what a channel owes; one of no record is fresh
abbrev pub channel_at : Looks → Channel → ChannelLooks
channel_at l ch =
    unwrap_or (option_and_then (λ r. slice_get r.channels ch.chan) (conn_at l ch.connection)) (fresh_channel 0)

-- the record of a call
abbrev pub call_at : Looks → CallName → Option CallRecord
call_at l c = find (λ k. same_name k.name c) l.calls

-- the name of a channel's call with a number
abbrev pub call_named : Channel → ℕ → CallName
call_named ch number =
    record {
      host = ch.connection.host;
      epoch = ch.connection.epoch;
      cid = ch.connection.cid;
      chan = ch.chan;
      number = number;
    }

-- the name of its latest call
abbrev pub latest_name : Looks → Channel → CallName
latest_name l ch = call_named ch (channel_at l ch).number

-- its record
abbrev pub latest : Looks → Channel → Option CallRecord
latest l ch = call_at l (latest_name l ch)

-- whether a call passes a test; one that never started doesn't
abbrev pub is_call : (CallRecord → Bool) → Option CallRecord → Bool
is_call test None = false
is_call test (Some k) = test k

-- whether the client of a connection is proved
abbrev pub is_proved : Looks → Connection → Bool
is_proved l x = unwrap_or (option_map (λ r. r.proved) (conn_at l x)) false

-- ---- changes of one call, one connection, one channel

-- every call changes
abbrev pub on_calls : (CallRecord → CallRecord) → Looks → Looks
on_calls change l = record l { calls = map change l.calls }

-- the call of this name
abbrev pub on_call : CallName → (CallRecord → CallRecord) → Looks → Looks
on_call c change l = on_calls (λ k. if same_name k.name c then change k else k) l

-- the connection of this name
abbrev pub on_conn : Connection → (ConnLooks → ConnLooks) → Looks → Looks
on_conn x change l = record l { conns = map (λ r. if same_connection r.connection x then change r else r) l.conns }

-- the n-th of a list
abbrev pub changed_at : ℕ → (ChannelLooks → ChannelLooks) → List ChannelLooks → List ChannelLooks
changed_at n change [] = []
changed_at zero change (x ∷ xs) = change x ∷ xs
changed_at (suc n) change (x ∷ xs) = x ∷ changed_at n change xs

-- one channel of a connection
abbrev pub on_channel : Channel → (ChannelLooks → ChannelLooks) → Looks → Looks
on_channel ch change l =
    on_conn ch.connection (λ r. record r { channels = changed_at ch.chan change r.channels }) l

-- the life of a call
abbrev pub on_life : CallName → (Life → Life) → Looks → Looks
on_life c change l = on_call c (λ k. record k { life = change k.life }) l

-- what passed at the end of a call
abbrev pub on_looks : CallName → (CallLooks → CallLooks) → Looks → Looks
on_looks c change l = on_call c (λ k. record k { looks = change k.looks }) l
