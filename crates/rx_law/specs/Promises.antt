-- What legal histories of several nodes promise: once, prefixes and ends. What one node promises by itself stands in
-- `Alone` of rx_history. Public clauses cite this module.
use Rattle.std.specs.Prelude.{◌≡◌, ◌≤◌, ◌⊎◌, ℕ, ℤ, pos, true, List, [], ◌∷◌, ◌++◌, Option, Some, Ok, slice_get}
use Rattle.std.specs.Prelude.{IfSome, IsSomeAnd}
use Rattle.rx_model.specs.declared.answers.End.{End}
use Rattle.rx_model.specs.declared.answers.End.TheVariants as ends
use Rattle.rx_model.specs.declared.event.Event.{Event}
use Rattle.rx_model.specs.declared.event.Event.TheVariants as events
use Rattle.rx_model.specs.declared.event.Noted.{Noted}
use Rattle.rx_model.specs.declared.names.CallName.{CallName}
use Rattle.rx_model.specs.declared.names.Host.{Host}
use Rattle.rx_model.specs.declared.wire.TheConstants.{SILENCE_MS}
use Rattle.rx_rules.specs.After.{looks}
use Rattle.rx_model.specs.Body as bodies
use Rattle.rx_history.specs.Counts.{Once, times_accepted, times_finished}
use Rattle.rx_rules.specs.Looks.{Looks, call_at}
use Rattle.rx_model.specs.Message.{Message}
use Rattle.rx_model.specs.Names.{Connection, connection_of, name_of}
use Rattle.rx_model.specs.Reading.{reading_of}
use Rattle.rx_rules.specs.Records.{silence_of}
use Rattle.rx_rules.specs.Setup.{Setup, Client}
use Rattle.rx_history.specs.Sides.{Node, side}
use Rattle.rx_history.specs.Streams.{Begins, said, read, is_shut, end_at}
use Rattle.rx_law.specs.Times.{Timely}
use Rattle.rx_history.specs.Alone.{ForgotNone}
use Rattle.rx_law.specs.Worlds.{Gave, TwoEnds, World}

-- ---- the two ends of a connection

-- what the side of the client says
abbrev pub at_client : TwoEnds → List Noted → Looks
at_client x h = looks x.client_setup (side x.client h)

-- what the side of the server says
abbrev pub at_server : TwoEnds → List Noted → Looks
at_server x h = looks x.server_setup (side x.server h)

-- what each end read begins what the other said
pub record Prefix (x : TwoEnds) (c : CallName) (h : List Noted) : Type 0 where
  pub request : Begins (read (at_server x h) c) (said (at_client x h) c)
  pub reply : Begins (read (at_client x h) c) (said (at_server x h) c)

-- ---- how a client's call ended

-- the whole request was said, and read
pub record RequestWhole (x : TwoEnds) (c : CallName) (h : List Noted) : Type 0 where
  pub shut : is_shut (at_client x h) c ≡ true
  pub read : read (at_server x h) c ≡ said (at_client x h) c

-- a handler entered once and ended once, with 0, when it had read the whole request; the whole reply was read
pub record EndsOk (x : TwoEnds) (c : CallName) (h : List Noted) : Type 0 where
  pub accepted : times_accepted (side x.server h) c ≡ 1
  pub finished : times_finished (side x.server h) c ≡ 1
  pub at_finish :
      (later before : List Noted) (code : ℤ)
      → h ≡ later ++ record { node = x.server; event = events.Finished c code (Ok tt) } ∷ before
      → (code ≡ pos 0) × RequestWhole x c before
  pub shut : is_shut (at_server x h) c ≡ true
  pub read : read (at_client x h) c ≡ said (at_server x h) c

-- the server gave an ABORT with this code, for the call or for its whole connection
pub record EndsByAbort (x : TwoEnds) (c : CallName) (code : ℤ) (h : List Noted) : Type 0 where
  pub bytes : List ℕ
  pub message : Message
  pub reads : reading_of bytes ≡ Ok message
  pub body : message.body ≡ bodies.Abort code
  pub name : (name_of c.host message ≡ c) ⊎ ((message.number ≡ 0)
      × (connection_of (name_of c.host message) ≡ connection_of c))
  pub gave : Gave x.connection.host bytes (side x.server h)

-- a cancel of the call with this code answered ok
abbrev pub Cancels : CallName → ℤ → Event → Type 0
Cancels c code (events.Cancelled d told (Ok done)) = (d ≡ c) × (told ≡ code)
Cancels c code _ = ⊥

-- one of the events does
abbrev pub EndsByCancel : CallName → ℤ → List Event → Type 0
EndsByCancel c code [] = ⊥
EndsByCancel c code (e ∷ h) = Cancels c code e ⊎ EndsByCancel c code h

-- a poll came when nothing had been heard of the call for so long
pub record EndsBySilence (s : Setup) (c : CallName) (silence : ℕ) (h : List Event) : Type 0 where
  pub later : List Event
  pub got : Option (Host × List ℕ)
  pub before : List Event
  pub is : h ≡ later ++ events.Polled got ∷ before
  pub long : SILENCE_MS ≤ silence
  pub heard : IsSomeAnd (call_at (looks s before) c) (λ k. silence ≡ silence_of (looks s before).now k)

-- what each end says
abbrev pub EndsAs : End → TwoEnds → CallName → List Noted → Type 0
EndsAs ends.Ok x c h = EndsOk x c h
EndsAs (ends.Abort code) x c h = EndsByAbort x c code h
EndsAs (ends.Dead silence) x c h = EndsBySilence x.client_setup c silence (side x.client h)
EndsAs (ends.Cancelled code) x c h = EndsByCancel c code (side x.client h)

-- ---- the laws

-- of one call, after a history
pub record LawOf (x : TwoEnds) (c : CallName) (h : List Noted) : Type 0 where
  pub once : times_accepted (side x.server h) c ≤ 1
  pub prefix : Prefix x c h
  pub ends : (end : End) → end_at (at_client x h) c ≡ Some end → EndsAs end x c h

-- of each call of a connection, at every moment
abbrev pub LawOn : TwoEnds → List Noted → Type 0
LawOn x h = (c : CallName) → connection_of c ≡ x.connection → (later now : List Noted) → h ≡ later ++ now
    → LawOf x c now

-- a client's connection in a world, with its ends
abbrev pub ends_in : Connection → ℕ → Node → Node → TwoEnds
ends_in x k client server =
    record {
      connection = x;
      client = k;
      client_setup = client.setup;
      server = 0;
      server_setup = server.setup;
      server_host = server.host;
    }

-- the server of a world forgot no record
abbrev pub ServerForgotNone : List Node → List Noted → Type 0
ServerForgotNone nodes h = IfSome (slice_get nodes 0) (λ n. ForgotNone n.setup (side 0 h))

-- of every connection of every client, and of the server's every call
pub record LawIn (nodes : List Node) (h : List Noted) : Type 0 where
  pub once : Once (side 0 h)
  pub connections :
      (x : Connection) (k : ℕ) (client server : Node)
      → slice_get nodes k ≡ Some client → client.setup.kind ≡ Client x.host x.epoch
      → slice_get nodes 0 ≡ Some server → LawOn (ends_in x k client server) h

-- in a world whose server forgot nothing or whose datagrams are never old
abbrev pub WorldLaw : Type 0
WorldLaw =
    (nodes : List Node) (h : List Noted) → World nodes h → (ServerForgotNone nodes h ⊎ Timely nodes h) → LawIn nodes h
