-- The calls, handlers, events and stages of three plans of two calls each, and what holds of histories of them: that
-- nothing ends a call at its client, that each node has room for both, and that the server has a place for each
-- message.
use Rattle.std.proofs.Common.{◌≡◌, ◌==◌, ◌++◌, ◌||◌, ◌∙◌, ℕ, zero, suc, Bool, true, false, List, [], ◌∷◌}
use Rattle.std.proofs.Common.{length, slice_get, refl, ap, sym, subst, Option, Ok, All, IfSome, arith}
use Rattle.std.specs.Prelude.{codes}
use Rattle.std.proofs.lemmas.List.Elements.{All-from_recursion}
use Rattle.xdr_value.specs.Data.{end}
use Rattle.rx_model.specs.declared.answers.End.{End}
use Rattle.rx_model.specs.declared.answers.ReadAns.{ReadAns}
use Rattle.rx_model.specs.declared.answers.ReadAns.TheVariants as answers
use Rattle.rx_model.specs.declared.answers.ReadGot.TheVariants as readers
use Rattle.rx_model.specs.declared.answers.Took.TheVariants as tooks
use Rattle.rx_model.specs.declared.answers.WroteGot.TheVariants as writers
use Rattle.rx_model.specs.declared.event.Event.TheVariants as events
use Rattle.rx_model.specs.declared.event.Noted.{Noted}
use Rattle.rx_model.specs.declared.names.CallName.{CallName}
use Rattle.rx_model.proofs.NameLaws.{same_number}
use Rattle.rx_rules.specs.After.{looks}
use Rattle.rx_rules.specs.Life.{is_live}
use Rattle.rx_rules.specs.Looks.{call_at, is_call}
use Rattle.rx_history.specs.Sides.{Node, side}
use Rattle.rx_script.specs.Saying.{Answering, wait}
use Rattle.rx_script.specs.Served.{bytes}
use Rattle.rx_asks.specs.declared.ask.Phase.TheVariants as phases
use Rattle.rx_jobs.specs.Handlers.{Handlers, served_for}
use Rattle.rx_wire.specs.Turns.{noted}
use Rattle.rx_plan.specs.Answering.{AnswersNoZero, AreServable, request_for}
use Rattle.rx_plan.specs.Stages.{InvokedState, Stage}
use Rattle.rx_plan.proofs.Replying.{served_invoke}
use Rattle.rx_rounds.proofs.Rounded.{caller_at}
use Rattle.rx_closing.specs.Living.{all_live}
use Rattle.rx_closing.specs.Silence.{CameAmong}
use Rattle.rx_closing.proofs.Left.LeftScene.{at_c, client, four, g, has_full, invoke, is_full, late, nodes, can_late}
use Rattle.rx_closing.proofs.Left.LeftScene.{full_among}
use Rattle.rx_closing.proofs.Left.LeftScene.{servable, server}
use Rattle.rx_closing.specs.Several.{HasRoomFor, HasRoomForAll}
use Rattle.rx_rounds.proofs.LeftOpen.{at_client}

-- ---- what serves them

-- on Late
-- wait 20
abbrev pub on_late : Answering
on_late = record { proc = codes "Late"; lines = wait 20 ∷ [] }

abbrev pub long : Handlers
long = record { types = []; procs = g.procs; script = on_late ∷ [] }

long_servable : AreServable long
long_servable =
    record {
      sound = servable.sound;
      opcodes = servable.opcodes;
      codes =
          All-from_recursion (λ (b : Answering). All AnswersNoZero b.lines) long.script
          (All-from_recursion AnswersNoZero on_late.lines (tt, tt), tt);
    }

pub long_serves : served_for long (request_for long (invoke late)) ≡ bytes []
long_serves = served_invoke long (invoke late) 1 long_servable refl can_late (record { up = refl; down = refl })

-- ---- the calls: beside the first of the first connection's first channel

-- the next of that channel
abbrev pub second : CallName
second = record { host = at_client; epoch = 1; cid = 4; chan = 0; number = 2 }

-- the first of the next channel
abbrev pub beside : CallName
beside = record { host = at_client; epoch = 1; cid = 4; chan = 1; number = 1 }

-- the first of the second connection
abbrev pub far : CallName
far = record { host = at_client; epoch = 1; cid = 8; chan = 0; number = 1 }

-- ---- events

-- a caller's read, with its answer
abbrev pub reads_of : CallName → ReadAns → Noted
reads_of c got = at_c (events.HasRead c 4096 (readers.Client got) [])

-- a caller's turn: it says its request and shuts it, and nothing came back
abbrev pub asked_of : CallName → ℕ → List Noted
asked_of c opcode =
    at_c (events.Wrote c 4 (writers.Client (Ok 4)) (four opcode)) ∷ at_c (events.Shut c (Ok tt))
    ∷ reads_of c answers.NotYet ∷ []

-- c1 call .. -> ..
abbrev pub calls : CallName → Noted
calls c = at_c (events.Called c.cid (Ok c))

-- a datagram of the call of the second connection: its seq, serial, type, flags and body
abbrev pub far_datagram : ℕ → ℕ → ℕ → ℕ → List ℕ → List ℕ
far_datagram seq serial kind flags body =
    four 1 ++ four 8 ++ four 1 ++ four seq ++ four serial ++ kind ∷ flags ∷ 0 ∷ 0 ∷ 0 ∷ 0 ∷ 0 ∷ 1 ∷ body

-- ---- a history in which nothing ends a call at its client

-- it lives there
abbrev pub lives_in : CallName → List Noted → Bool
lives_in c h = is_call (λ r. is_live r.life) (call_at (looks client.setup (side 1 h)) c)

-- no event of the client among these, the newest one first, ends it
abbrev pub EndsNone : CallName → List Noted → List Noted → Type 0
EndsNone c before [] = Unit {0}
EndsNone c before (e ∷ later) =
    (e.node ≡ 1 → lives_in c (later ++ before) ≡ true → lives_in c (e ∷ later ++ before) ≡ true)
    × EndsNone c before later

pub lives_on : (c : CallName) (before later : List Noted) → EndsNone c before later → lives_in c before ≡ true
    → lives_in c (later ++ before) ≡ true
lives_on c before [] none lives = lives
lives_on c before (e ∷ later) none lives = by (e.node == 1) refl (lives_on c before later none.1 lives)
  where
    by : (b : Bool) → (e.node == 1) ≡ b → lives_in c (later ++ before) ≡ true
        → lives_in c (e ∷ later ++ before) ≡ true
    by true is rest = none.0 (same_number e.node 1 is) rest
    by false is rest = rw is rest

-- ---- a server that has a place for each message of a call

pub never_full : (c : CallName) (es : List Noted) → has_full es ≡ false
    → CameAmong 0 server.setup (λ got. got ≡ tooks.Full) c es → ⊥
never_full c es none came =
    let with_ = came.comes in
    let full : is_full came.event ≡ true =
    ap is_full (with_.is ∙ ap (events.Taken with_.from with_.datagram) with_.such) in
    let there : has_full es ≡ true =
    ap has_full came.are ∙ full_among came.before (noted 0 came.event) came.later full in
    cc (there, none)

-- ---- room

-- both nodes have room for two calls
pub has_room : (s : Stage) → s.nodes ≡ nodes → length (all_live s) ≡ 2 → HasRoomForAll s
has_room s are two k =
    subst (λ (count : ℕ). IfSome (slice_get s.nodes k) (HasRoomFor count)) (sym two)
    (subst (λ (ns : List Node). IfSome (slice_get ns k) (HasRoomFor 2)) (sym are) (both k))
  where
    both : (j : ℕ) → IfSome (slice_get nodes j) (HasRoomFor 2)
    both zero = record { calls = omega arith; slots = omega arith }
    both (suc zero) = record { calls = omega arith; slots = omega arith }
    both (suc (suc j)) = tt

-- ---- callers

-- the caller of the client's K-th call, of the line at a place of the plan, that has so much of its request to say
abbrev pub caller_of : ℕ → ℕ → CallName → List ℕ → Bool → Option End → InvokedState
caller_of call line c offering shut ended =
    caller_at call line
    (record { call = c; offering = offering; shut = shut; reply = []; end = ended; phase = phases.Resting })
