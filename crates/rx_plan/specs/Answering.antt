-- What the answer lines of a driven plan say: what the script answers to each invoke. Public clauses cite this module.
use Rattle.std.specs.Prelude.{◌≡◌, ◌≢◌, ◌⊎◌, ◌<◌, ◌≤◌, ◌^◌, ◌∷◌, ◌++◌, Ok, is_some, if◌then◌else◌, ℕ, ℤ, pos, Bool}
use Rattle.std.specs.Prelude.{List, []}
use Rattle.std.specs.Prelude.{Option, Some, None, option_map, option_and_then, slice_get, string_bytes, All, IsTrue}
use Rattle.std.specs.Prelude.{IfSome, IsSomeAnd}
use Rattle.xdr_value.specs.Data.{Data, Procedure}
use Rattle.xdr_value.specs.Tests.{is_sound}
use Rattle.xdr_value.specs.View.{values_of}
use Rattle.rx_model.specs.declared.answers.End.{End}
use Rattle.rx_model.specs.declared.answers.End.TheVariants as ends
use Rattle.rx_model.specs.declared.event.Event.{Event}
use Rattle.rx_model.specs.declared.event.Event.TheVariants as events
use Rattle.rx_model.specs.declared.event.Noted.{Noted}
use Rattle.rx_model.specs.declared.names.CallName.{CallName}
use Rattle.rx_model.specs.declared.wire.TheConstants.{RX_CALL_DEAD, RX_INVALID_OPERATION, RX_PROTOCOL_ERROR}
use Rattle.rx_model.specs.Names.{connection_of}
use Rattle.rx_model.specs.Text.{end_text}
use Rattle.rx_rules.specs.After.{looks}
use Rattle.rx_asks.specs.declared.ask.TheConstants.{CC_UNMARSHAL}
use Rattle.rx_law.specs.Promises.{EndsAs, ends_in}
use Rattle.rx_history.specs.Sides.{Node, side}
use Rattle.rx_history.specs.Streams.{said}
use Rattle.rx_jobs.specs.Handlers.{Handlers, served_for, wait_of}
use Rattle.rx_reply.specs.Replies.{Returned, reply_line}
use Rattle.rx_reply.specs.Sent.{sent_spelling}
use Rattle.rx_script.specs.Answers.{Answer, answer_of, block_named}
use Rattle.rx_script.specs.Answers as answered
use Rattle.rx_script.specs.Procs.{proc_named}
use Rattle.rx_script.specs.Saying.{Answering, Saying, when, fail}
use Rattle.rx_script.specs.ScriptRows.{is_down, is_up}
use Rattle.rx_script.specs.Served.{block_has, bytes, refusal}
use Rattle.rx_script.specs.declared.limits.TheConstants.{MAX_WAIT}
use Rattle.rx_script.specs.declared.plan.Numbered.{Numbered}
use Rattle.rx_script.specs.declared.plan.PlanLine.{PlanLine}
use Rattle.rx_script.specs.declared.plan.PlanLine.TheVariants as lines
use Rattle.rx_wire.specs.Turns.{noted}
use Rattle.rx_plan.specs.Answers.{answer_line, line_for, ok_text}
use Rattle.rx_plan.specs.Causes.{HaveOtherKeys, IsSilenced, OneHasKey, key_at}
use Rattle.rx_plan.specs.Stages.{InvokedState, Stage}

-- ---- driven plans

-- a line that makes no call of a client or of a handler by hand, and invents nothing
abbrev pub IsDriven : PlanLine → Type 0
IsDriven (lines.Server host service limits key nonce) = Unit {0}
IsDriven (lines.Client host epoch limits key) = Unit {0}
IsDriven (lines.Connect client first) = Unit {0}
IsDriven (lines.Call client cid) = ⊥
IsDriven (lines.Write call offer) = ⊥
IsDriven (lines.Shut call) = ⊥
IsDriven (lines.Read call max) = ⊥
IsDriven (lines.Ask call) = Unit {0}
IsDriven (lines.Cancel call code) = Unit {0}
IsDriven lines.Accept = ⊥
IsDriven (lines.HandlerRead call max) = ⊥
IsDriven (lines.HandlerWrite call offer) = ⊥
IsDriven (lines.Finish call code) = ⊥
IsDriven (lines.Poll node) = Unit {0}
IsDriven (lines.Deliver packet) = Unit {0}
IsDriven (lines.Jumbo first last) = Unit {0}
IsDriven (lines.Forge node host given) = ⊥
IsDriven (lines.Clock which now) = Unit {0}
IsDriven (lines.Invoke client cid proc up down args) = Unit {0}
IsDriven (lines.Turn node) = Unit {0}
IsDriven (lines.Rounds n) = Unit {0}
IsDriven (lines.Lossy number n) = Unit {0}

-- all lines are driven
abbrev pub AreDriven : List Numbered → Type 0
AreDriven ls = All (λ l. IsDriven l.what) ls

-- ---- handlers

-- a line that answers no code 0, as the reader of scripts gives it
abbrev pub AnswersNoZero : Saying → Type 0
AnswersNoZero (when arg value code) = code ≢ pos 0
AnswersNoZero (fail code) = code ≢ pos 0
AnswersNoZero _ = Unit {0}

-- what readers of interfaces and scripts give: a sound interface, opcodes of four bytes, and no code 0
pub record AreServable (g : Handlers) : Type 0 where
  pub sound : IsTrue (is_sound g.types g.procs)
  pub opcodes : All (λ p. p.opcode < 2 ^ 32) g.procs
  pub codes : All (λ (b : Answering). All AnswersNoZero b.lines) g.script

-- no request waits longer than a script may say: else clocks might reach their end before it is answered
abbrev pub WaitsShort : Handlers → Type 0
WaitsShort g = (request : List ℕ) → wait_of g request ≤ MAX_WAIT

-- ---- invokes

-- what an invoke asks: its procedure, arguments and upload, and whether a download is asked for
pub record Invoked : Type 0 where
  pub proc : Procedure
  pub args : Data
  pub up : Option (List ℕ)
  pub down : Bool

-- that of a line
abbrev pub invoked_by : Handlers → PlanLine → Option Invoked
invoked_by g (lines.Invoke client cid proc up down args) =
    option_map (λ p. record { proc = p; args = values_of args.items; up = up; down = down })
    (proc_named (string_bytes proc) g.procs)
invoked_by g _ = None

-- that of the line at a place
abbrev pub invoked_at : Handlers → List Numbered → ℕ → Option Invoked
invoked_at g ls place = option_and_then (λ l. invoked_by g l.what) (slice_get ls place)

-- the bytes of its request, and behind it the counted stream that goes up
abbrev pub request_for : Handlers → Invoked → List ℕ
request_for g i = sent_spelling g.types i.proc i.args i.up

-- it brings an upload where the script reads one, and asks for a download where the script gives one
pub record AgreesOnStreams (g : Handlers) (i : Invoked) : Type 0 where
  pub up : is_some i.up ≡ block_has is_up (block_named i.proc.name g.script)
  pub down : i.down ≡ block_has is_down (block_named i.proc.name g.script)

-- ---- what comes back

-- the upload, without bytes where there is none
abbrev pub upload_of : Option (List ℕ) → List ℕ
upload_of None = []
upload_of (Some up) = up

-- what the script answers to an invoke
abbrev pub answer_for : Handlers → Invoked → Answer
answer_for g i = answer_of g.types g.script i.proc i.args (upload_of i.up)

-- the values of an answer, and its download where one is asked for; a code returns nothing
abbrev pub returned : Bool → Answer → Option Returned
returned down (answered.code c) = None
returned down (answered.reply vs sent) = Some (record { values = vs; download = (if down then sent else []) })

-- the caller's line says ok, with the values and the download that the script answers
pub record SaysAnswer (g : Handlers) (ls : List Numbered) (k : InvokedState) (i : Invoked) : Type 0 where
  pub says : Returned
  pub answers : returned i.down (answer_for g i) ≡ Some says
  pub line :
      answer_line g.types g.procs ls k
      ≡ line_for k.call (ok_text (Some (reply_line g.types i.proc i.down says)))

-- each caller is that of an invoke, and where it ended Ok its line says that invoke's answer
abbrev pub OkAsAnswered : Handlers → List Numbered → Stage → Type 0
OkAsAnswered g ls s =
    (place : ℕ) → IfSome (slice_get s.callers place) (λ k. IsSomeAnd (invoked_at g ls k.line)
    (λ i. AgreesOnStreams g i → k.caller.end ≡ Some ends.Ok → SaysAnswer g ls k i))

-- ---- how handlers end

-- this is what is served for a request: the code, or 0 behind all of the reply
abbrev pub EndsAsServed : Handlers → List ℕ → List ℕ → ℤ → Type 0
EndsAsServed g request reply code =
    (served_for g request ≡ refusal code) ⊎ ((code ≡ pos 0) × (served_for g request ≡ bytes reply))

-- each finish of the call that answered ok had what is served for the request: its code, behind what was said till then
abbrev pub FinishesAsServed : Handlers → List Node → List Noted → CallName → List ℕ → Type 0
FinishesAsServed g nodes h c request =
    (later before : List Noted) (with : ℤ) → h ≡ later ++ noted 0 (events.Finished c with (Ok tt)) ∷ before
    → IfSome (slice_get nodes 0) (λ n. EndsAsServed g request (said (looks n.setup (side 0 before)) c) with)

-- each caller is that of an invoke, and its call's handler ended so, if it ended
abbrev pub EndedAsServed : Handlers → List Numbered → List Node → List Noted → Stage → Type 0
EndedAsServed g ls nodes h s =
    (place : ℕ) → IfSome (slice_get s.callers place) (λ k. IsSomeAnd (invoked_at g ls k.line)
    (λ i. FinishesAsServed g nodes h k.caller.call (request_for g i)))

-- ---- how callers end

-- an end that its client tells of a call, as the law of its connection says
abbrev pub EndsByLaw : List Node → List Noted → ℕ → CallName → End → Type 0
EndsByLaw nodes h node c end =
    IsSomeAnd (slice_get nodes node) (λ client. IsSomeAnd (slice_get nodes 0)
    (λ server. EndsAs end (ends_in (connection_of c) node client server) c h))

-- each caller that ended gave its call up with its own code, or its call ended so
abbrev pub EndedByLaw : List Node → List Noted → Stage → Type 0
EndedByLaw nodes h s =
    (place : ℕ) → IfSome (slice_get s.callers place)
    (λ k. (end : End) → k.caller.end ≡ Some end
    → (end ≡ ends.Cancelled CC_UNMARSHAL) ⊎ EndsByLaw nodes h k.node k.caller.call end)

-- why a server told a client's call an ABORT with this code, where these are the keys of the client and the server: it
-- is what is served for the request; or nothing was heard of the call for too long; or they have different keys; or one
-- has a key and the other has none
abbrev pub AbortsAs :
    Handlers → Option (List ℕ) → Option (List ℕ) → Node → List Event → CallName → List ℕ → ℤ → Type 0
AbortsAs g own other server h c request code =
    (served_for g request ≡ refusal code)
    ⊎ (((code ≡ RX_CALL_DEAD) × IsSilenced server.setup h c)
    ⊎ (((code ≡ RX_PROTOCOL_ERROR) × HaveOtherKeys own other) ⊎ ((code ≡ RX_INVALID_OPERATION) × OneHasKey own other)))

-- the caller's line says abort with this code, and its call's server told it so
pub record SaysAbort (g : Handlers) (ls : List Numbered) (server : Node) (h : List Event) (k : InvokedState)
    (i : Invoked) (code : ℤ) : Type 0 where
  pub line : answer_line g.types g.procs ls k ≡ line_for k.call (end_text (ends.Abort code))
  pub cause : AbortsAs g (key_at ls k.node) (key_at ls 0) server h k.caller.call (request_for g i) code

-- each caller is that of an invoke, and where it ended with a code its line says the code, for one of these causes
abbrev pub AbortedAsServed : Handlers → List Numbered → List Node → List Noted → Stage → Type 0
AbortedAsServed g ls nodes h s =
    (place : ℕ) → IfSome (slice_get s.callers place) (λ k. IsSomeAnd (invoked_at g ls k.line)
    (λ i. (code : ℤ) → k.caller.end ≡ Some (ends.Abort code)
    → IsSomeAnd (slice_get nodes 0) (λ server. SaysAbort g ls server (side 0 h) k i code)))
