-- How a server takes a message for a call, behind the rows that look at no connection. Public clauses cite this module.
use Rattle.std.specs.Prelude.{◌≡◌, ◌⊎◌, ◌==◌, nat_lt, is_some, ℕ, Bool, true, false, List}
use Rattle.std.specs.Prelude.{if◌then◌else◌, not, ◌&&◌}
use Rattle.rx_model.specs.declared.answers.Took.{Took}
use Rattle.rx_model.specs.declared.answers.Took.TheVariants as tooks
use Rattle.rx_model.specs.declared.names.CallName.{CallName}
use Rattle.rx_model.specs.Body.{Body}
use Rattle.rx_model.specs.Message.{Message}
use Rattle.rx_model.specs.Names.{Channel, Connection, channel_of, connection_of}
use Rattle.rx_rules.specs.After.{prepared, taken_with}
use Rattle.rx_rules.specs.Classes.{Class}
use Rattle.rx_rules.specs.Judging.{Facts, facts_of, live_row, server_row, took_named}
use Rattle.rx_rules.specs.Looks.{CallRecord, Looks, call_at, call_named, channel_at, conn_at, is_call, latest_name}
use Rattle.rx_rules.specs.Life.{is_active}
use Rattle.rx_rules.specs.Records.{entered, has_place, used, with_conn}
use Rattle.rx_rules.specs.Setup.{Setup}
use Rattle.rx_history.proofs.Order.OrderlyOpens.{Opens}
use Rattle.rx_node.specs.Mirrors.{IsChannel}
use Rattle.rx_node.specs.Node.{setup_of}
use Rattle.rx_node.specs.Steps.{is_response}
use Rattle.rx_server.specs.Server.{ServerState, Serves}

-- the rows of a message with a higher number than its channel's
abbrev pub later_row : Facts → Took → Took
later_row f call =
    if not f.can_start then tooks.Strange
    else if f.is_handled then tooks.Busy
    else if not f.is_live && f.is_crowded then tooks.NoRoom
    else call

-- the first row that holds while no place for the connection was looked for
abbrev pub early_row : Setup → Looks → CallName → Message → Took → Took
early_row s l c m call = server_row (record (facts_of s l c m) { has_place = true }) call

-- it is this one, and not that of the message's call
abbrev pub RowIs : Setup → Looks → CallName → Message → Took → Type 0
RowIs s l c m row = (call : Took) → early_row s l c m call ≡ row

-- it is that of the message's call
abbrev pub Passes : Setup → Looks → CallName → Message → Type 0
Passes s l c m = (call : Took) → early_row s l c m call ≡ call

-- the answer is the rules', and the server then serves what the rules make of the look-ups
pub record Takes (class : List ℕ → Class) (old new : ServerState) (l : Looks) (c : CallName) (m : Message)
    (got : Took) : Type 0 where
  pub answered : got ≡ took_named (setup_of class old.node) l c m
  pub serves : Serves class new (taken_with (setup_of class old.node) got c m
      (prepared (setup_of class old.node) got (connection_of c) l))

-- a connection that wasn't known is entered
pub record Entered (class : List ℕ → Class) (old new : ServerState) (l : Looks) (x : Connection) : Type 0 where
  pub has : has_place (setup_of class old.node) l ≡ true
  pub serves : Serves class new (with_conn (setup_of class old.node) old.node.kind x l)

-- the connection of a call is known and used
pub record IsReady (class : List ℕ → Class) (old new : ServerState) (l : Looks) (c : CallName) (key : ℕ) : Type 0 where
  pub has : (is_some (conn_at l (connection_of c)) ≡ true) ⊎ (has_place (setup_of class old.node) l ≡ true)
  pub serves : Serves class new (used (connection_of c) (entered (setup_of class old.node) (connection_of c) l))
  pub channel : IsChannel (used (connection_of c) (entered (setup_of class old.node) (connection_of c) l))
      key (channel_of c)

-- it isn't known, and there is no place for it
pub record HasNoPlace (s : Setup) (l : Looks) (x : Connection) : Type 0 where
  pub unknown : is_some (conn_at l x) ≡ false
  pub full : has_place s l ≡ false

-- a call with this number may start on a channel
pub record Opening (s : Setup) (l : Looks) (ch : Channel) (number : ℕ) : Type 0 where
  pub opens : Opens s (call_named ch number) l
  pub above : nat_lt (channel_at l ch).number number ≡ true

-- a call is the latest of the channel with a key, and active
pub record IsOwnActive (l : Looks) (key : ℕ) (c : CallName) : Type 0 where
  pub channel : IsChannel l key (channel_of c)
  pub latest : latest_name l (channel_of c) ≡ c
  pub active : is_call (λ k. is_active k.life) (call_at l c) ≡ true

-- the answer is that of the call, and the server then serves what the rules make of the look-ups
pub record TakesLive (class : List ℕ → Class) (old new : ServerState) (l : Looks) (c : CallName)
    (k : CallRecord) (m : Message)
    (got : Took) : Type 0 where
  pub answered : got ≡ live_row (setup_of class old.node) l k m m.body
  pub serves : Serves class new (taken_with (setup_of class old.node) got c m l)

-- packet 1 was kept
abbrev pub keeps_first : Took → ℕ → Bool
keeps_first tooks.Kept seq = seq == 1
keeps_first _ seq = false

-- a client is proved: a RESPONSE is right
abbrev pub proves_client : Took → Body → Bool
proves_client tooks.Heard body = is_response body
proves_client _ body = false

-- a call with this number may start on the channel with a key
pub record OpensSome (class : List ℕ → Class) (sv : ServerState) (key number : ℕ) : Type 0 where
  pub looks : Looks
  pub channel : Channel
  pub serves : Serves class sv looks
  pub at : IsChannel looks key channel
  pub opening : Opening (setup_of class sv.node) looks channel number

-- a call is the latest of the channel with a key, and active
pub record OwnsSome (class : List ℕ → Class) (sv : ServerState) (key : ℕ) (c : CallName) : Type 0 where
  pub looks : Looks
  pub serves : Serves class sv looks
  pub own : IsOwnActive looks key c
