-- An invoke over a fair network comes to its end: what is served for its request. Public clauses cite this module.
use Rattle.std.specs.Prelude.{◌≡◌, ◌≢◌, ◌≤◌, ◌*◌, ◌+◌, if◌then◌else◌, nat_le, ℕ, Bool, List, [], ◌∷◌, length, map}
use Rattle.std.specs.Prelude.{Option, Some, None, option_map, IfSome, IsSomeAnd, slice_get, String, Vec}
use Rattle.std.specs.Global.{Global}
use Rattle.std.specs.List.{All}
use Rattle.rx_model.specs.declared.event.Noted.{Noted}
use Rattle.xdr_value.specs.declared.value.Value.{Value}
use Rattle.rx_model.specs.declared.answers.End.TheVariants as ends
use Rattle.rx_model.specs.declared.names.Host.{Host}
use Rattle.rx_model.specs.Text.{end_text}
use Rattle.rx_script.specs.declared.plan.Numbered.{Numbered}
use Rattle.rx_script.specs.declared.plan.PlanLine.TheVariants as lines
use Rattle.rx_script.specs.Served.{Served, refusal, bytes}
use Rattle.rx_asks.specs.declared.ask.TheConstants.{CC_UNMARSHAL, REPLY_BYTES}
use Rattle.rx_jobs.specs.Handlers.{Handlers, served_for, wait_of}
use Rattle.rx_reply.specs.Replies.{reply_line, reply_says}
use Rattle.rx_plan.specs.Answering.{AreServable, Invoked, WaitsShort, invoked_at, request_for}
use Rattle.rx_plan.specs.Answers.{answer_line, line_for, ok_text}
use Rattle.rx_plan.specs.Follows.{Went, Empty, Whole, RefusedAt, CutOff, EndlessIn, plan_goes}
use Rattle.rx_plan.specs.Lines.{IsWell}
use Rattle.rx_plan.specs.Stages.{InvokedState, Stage}
use Rattle.rx_rounds.specs.Bounds.{default_limits, both_pieces}

-- what a plan says that makes one invoke before rounds: both nodes have the default limits, and one key or none
pub record InvokesOnce (ls : List Numbered) (key : Option (List ℕ)) (n : ℕ) : Type 0 where
  pub at : Host
  pub service : ℕ
  pub nonce : ℕ
  pub from : Host
  pub epoch : ℕ
  pub first : ℕ
  pub cid : ℕ
  pub proc : String Global
  pub up : Option (List ℕ)
  pub down : Bool
  pub args : Vec Value Global
  pub says :
      map (λ l. l.what) ls
      ≡ lines.Server at service default_limits key nonce ∷ lines.Client from epoch default_limits key
      ∷ lines.Connect 1 first ∷ lines.Invoke 1 cid proc up down args ∷ lines.Rounds n ∷ []
  pub apart : at ≢ from

-- as many rounds end it: with a key two more messages pass
abbrev pub rounds_for : Handlers → Option (List ℕ) → List ℕ → ℕ
rounds_for g None request = 4 * both_pieces g request + wait_of g request + 16
rounds_for g (Some key) request = 4 * both_pieces g request + wait_of g request + 24

-- what becomes of an invoke by what is served for its request: ok with the reply, where the caller keeps so much, and
-- with what it says; or abort with the code
abbrev pub became : Handlers → Invoked → Served → List ℕ
became g i (refusal code) = end_text (ends.Abort code)
became g i (bytes reply) =
    if nat_le (length reply) REPLY_BYTES
    then ok_text (option_map (reply_line g.types i.proc i.down) (reply_says g.types i.proc i.down reply))
    else end_text (ends.Cancelled CC_UNMARSHAL)

-- the caller's line says so, where there were so many rounds
abbrev pub SaysServed : Handlers → List Numbered → Option (List ℕ) → ℕ → InvokedState → Invoked → Type 0
SaysServed g ls key n k i =
    rounds_for g key (request_for g i) ≤ n
    → answer_line g.types g.procs ls k ≡ line_for k.call (became g i (served_for g (request_for g i)))

-- the caller of an invoke that was given a call, if there is one
abbrev pub AllSayServed : Handlers → List Numbered → Option (List ℕ) → ℕ → Stage → Type 0
AllSayServed g ls key n s =
    (place : ℕ) → IfSome (slice_get s.callers place) (λ k. IsSomeAnd (invoked_at g ls k.line) (SaysServed g ls key n k))

-- by how the lines of the plan went: only want of memory or a fault of the sink stands in the way
abbrev pub CompletesBy : Handlers → List Numbered → Option (List ℕ) → ℕ → Went → Type 0
CompletesBy g ls key n Empty = ⊥
CompletesBy g ls key n (Whole s) = AllSayServed g ls key n s
CompletesBy g ls key n (RefusedAt line why) = ⊥
CompletesBy g ls key n CutOff = Unit {0}
CompletesBy g ls key n EndlessIn = Unit {0}

-- whatever such a plan makes
abbrev pub PlansComplete : Type 0
PlansComplete =
    (g : Handlers) (ls : List Numbered) (key : Option (List ℕ)) (es : List Noted) (went : Went) (n : ℕ)
    → AreServable g → WaitsShort g → All (λ l. IsWell g l.what) ls → InvokesOnce ls key n → plan_goes g ls es went
    → CompletesBy g ls key n went
