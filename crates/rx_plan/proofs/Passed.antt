-- What passed at one end of a call, and what leaves it.
use Rattle.std.proofs.Common.{◌≡◌, ◌&&◌, ◌-◌, if◌then◌else◌, nat_lt, ℕ, Bool, true, false}
use Rattle.std.proofs.Common.{List, [], Option, Some, None, Result, Ok, Err, refl}
use Rattle.rx_model.specs.declared.answers.BadMsg.{BadMsg}
use Rattle.rx_model.specs.declared.answers.Took.{Took}
use Rattle.rx_model.specs.declared.answers.Took.TheVariants as tooks
use Rattle.rx_model.specs.declared.event.Event.{Event}
use Rattle.rx_model.specs.declared.event.Event.TheVariants as events
use Rattle.rx_model.specs.declared.names.CallName.{CallName}
use Rattle.rx_model.specs.declared.names.Host.{Host}
use Rattle.rx_model.specs.Body.{Body}
use Rattle.rx_model.specs.Body as bodies
use Rattle.rx_model.specs.Message.{Message}
use Rattle.rx_model.specs.Names.{channel_of, connection_of, same_name}
use Rattle.rx_model.specs.Reading.{reading_of}
use Rattle.rx_rules.specs.After.{prepared}
use Rattle.rx_rules.specs.CallLooks.{CallLooks, NodeView, after_body, after_chunk}
use Rattle.rx_rules.specs.CallLooks.{after_taken, found}
use Rattle.rx_rules.specs.Judging.{outer_row}
use Rattle.rx_rules.specs.Looks.{CallRecord, Looks, call_at, channel_at}
use Rattle.rx_rules.specs.Sent.{Sent}
use Rattle.rx_rules.specs.Sent as streams
use Rattle.rx_rules.specs.Setup.{Setup, named}

-- ---- what passed at one end

-- the bytes said and read, and whether a read answered End
pub record Passed : Type 0 where
  pub said : List ℕ
  pub read : List ℕ
  pub ended : Bool

abbrev pub passed_in : CallLooks → Passed
passed_in k = record { said = k.sent.said; read = k.received.read; ended = k.received.ended }

-- nothing yet
abbrev pub none_passed : Passed
none_passed = record { said = []; read = []; ended = false }

-- the same of a call that is looked for
abbrev pub passed_of : Option CallRecord → Passed
passed_of None = none_passed
passed_of (Some k) = passed_in k.looks

-- ---- changes that leave it

ack-leaves : (first : ℕ) (marks : List Bool) (window : Option ℕ) (s : Sent)
    → (streams.after_ack first marks window s).said ≡ s.said
ack-leaves first marks window s = of (nat_lt (first - 1) s.acked)
  where
    of : (b : Bool) → (let t : Sent = (if b then s else record s {
      acked = first - 1;
      soft = streams.is_marked first marks;
      peer_window = streams.with_window window s.peer_window;
    }) in t.said ≡ s.said)
    of true = refl
    of false = refl

body-leaves : (now : ℕ) (m : Message) (body : Body) (k : CallLooks) → passed_in (after_body now m body k) ≡ passed_in k
body-leaves now m (bodies.Ack a) k =
    let e = ack-leaves a.first a.marks a.window k.sent in
    λ i. record { said = e i; read = k.received.read; ended = k.received.ended }
body-leaves now m bodies.AckAll k = refl
body-leaves now m _ k = refl

found-leaves : (client : Bool) (k : CallLooks) → passed_in (found client k) ≡ passed_in k
found-leaves true k = refl
found-leaves false k = refl

chunk-leaves : (v : NodeView) (got : Took) (m : Message) (body : Body) (k : CallLooks)
    → passed_in (after_chunk v got m body k) ≡ passed_in k
chunk-leaves v got m (bodies.Chunk payload) k = found-leaves v.client k
chunk-leaves v got m _ k = refl

pub taken-leaves : (v : NodeView) (got : Took) (m : Message) (k : CallLooks)
    → passed_in (after_taken v got m k) ≡ passed_in k
taken-leaves v tooks.Kept m k = chunk-leaves v tooks.Kept m m.body k
taken-leaves v tooks.Repeat m k = chunk-leaves v tooks.Repeat m m.body k
taken-leaves v tooks.Beyond m k = chunk-leaves v tooks.Beyond m m.body k
taken-leaves v tooks.Clash m k = chunk-leaves v tooks.Clash m m.body k
taken-leaves v tooks.NoSlot m k = chunk-leaves v tooks.NoSlot m m.body k
taken-leaves v tooks.Heard m k = body-leaves v.now m m.body k
taken-leaves v _ m k = refl

-- ---- the calls of look-ups

-- a message of the call starts it only where it has no record
abbrev pub StartsAnew : CallName → CallName → Looks → Type 0
StartsAnew c d l =
    same_name c d ≡ true → nat_lt (channel_at l (channel_of d)).number d.number ≡ true → call_at l c ≡ None

-- by the answer
abbrev pub StartsAnewBy : Took → CallName → CallName → Looks → Type 0
StartsAnewBy tooks.Kept c d l = StartsAnew c d l
StartsAnewBy tooks.NoSlot c d l = StartsAnew c d l
StartsAnewBy _ c d l = Unit {0}

-- by the row in front
abbrev pub StartsAnewOf : Setup → Looks → Host → Result Message BadMsg → Took → CallName → Type 0
StartsAnewOf s l from (Err bad) got c = Unit {0}
StartsAnewOf s l from (Ok m) got c =
    outer_row s s.kind l from m ≡ None
    → StartsAnewBy got c (named s from m) (prepared s got (connection_of (named s from m)) l)

-- an event neither reads nor writes the call
abbrev pub LeavesStreams : CallName → Event → Type 0
LeavesStreams c (events.Wrote d offered got bytes) = same_name c d ≡ false
LeavesStreams c (events.HasRead d max got bytes) = same_name c d ≡ false
LeavesStreams c _ = Unit {0}

-- an event starts the call only where it has no record
abbrev pub StartsAnewAt : Setup → Looks → CallName → Event → Type 0
StartsAnewAt s l c (events.Taken from bytes got) = StartsAnewOf s l from (reading_of bytes) got c
StartsAnewAt s l c _ = Unit {0}
