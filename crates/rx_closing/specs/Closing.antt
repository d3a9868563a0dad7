-- Fair rounds close the one call that lives as they begin, whatever was lost, repeated and reordered before them.
-- Public clauses cite this module.
use Rattle.std.specs.Prelude.{◌≡◌, ◌<◌, ◌≤◌, ◌*◌, ◌^◌, ◌⊎◌, ℕ, suc, true, false, List, [], ◌∷◌, length, IfSome, All}
use Rattle.std.specs.Prelude.{slice_get}
use Rattle.rx_model.specs.declared.event.Noted.{Noted}
use Rattle.rx_model.specs.declared.names.CallName.{CallName}
use Rattle.rx_rules.specs.Classes.{null}
use Rattle.rx_law.specs.Promises.{ServerForgotNone}
use Rattle.rx_history.specs.Sides.{Node, moment}
use Rattle.rx_law.specs.Times.{Timely}
use Rattle.rx_script.specs.declared.plan.Numbered.{Numbered}
use Rattle.rx_script.specs.Served.{Served, refusal, bytes}
use Rattle.rx_asks.specs.declared.ask.TheConstants.{REPLY_BYTES}
use Rattle.rx_jobs.specs.Handlers.{Handlers, served_for}
use Rattle.rx_plan.specs.Answering.{AreDriven, AreServable, WaitsShort, invoked_at, request_for}
use Rattle.rx_plan.specs.Follows.{Whole, plan_goes}
use Rattle.rx_plan.specs.Lines.{IsWell}
use Rattle.rx_plan.specs.Parts.{To}
use Rattle.rx_plan.specs.Promises.{AreDistinct, plan_nodes}
use Rattle.rx_plan.specs.Rounds.{rounds}
use Rattle.rx_plan.specs.Stages.{Stage}
use Rattle.rx_closing.specs.Work.{work_of}
use Rattle.rx_closing.specs.Living.{all_live, call_lives_at}

-- ---- premises

-- no moment is so late that a clock might stop
abbrev pub AreEarly : Stage → Type 0
AreEarly s = (k : ℕ) → moment k s.history < 2 ^ 61

-- no node challenges
abbrev pub AreOpen : List Node → Type 0
AreOpen nodes = (k : ℕ) → IfSome (slice_get nodes k) (λ n. n.setup.class ≡ null)

-- what is served isn't longer than a caller keeps
abbrev pub FitsCaller : Served → Type 0
FitsCaller (refusal code) = Unit {0}
FitsCaller (bytes reply) = length reply ≤ REPLY_BYTES

-- no caller will give up a reply
abbrev pub RepliesFit : Handlers → List Numbered → Stage → Type 0
RepliesFit g ls s =
    (place : ℕ) → IfSome (slice_get s.callers place) (λ k. IfSome (invoked_at g ls k.line)
    (λ i. FitsCaller (served_for g (request_for g i))))

-- fair rounds behind the lines of a driven plan, from one stage to another: nodes don't challenge, no two clients share
-- host and epoch, and the server forgot nothing or no datagram is old
pub record RoundsBehind (g : Handlers) (ls : List Numbered) (n : ℕ) (s t : Stage) : Type 0 where
  pub es : List Noted
  pub goes : plan_goes g ls es (Whole s)
  pub fs : List Noted
  pub rounds_are : rounds g n s fs (To t)
  pub well : All (λ l. IsWell g l.what) ls
  pub servable : AreServable g
  pub waits : WaitsShort g
  pub driven : AreDriven ls
  pub distinct : AreDistinct (plan_nodes ls)
  pub kept : ServerForgotNone (plan_nodes ls) t.history ⊎ Timely (plan_nodes ls) t.history
  pub open_ : AreOpen (plan_nodes ls)
  pub early : AreEarly s
  pub replies : RepliesFit g ls s

-- ---- the promises

-- a call that lived at a client lives there no more
abbrev pub HasClosed : Stage → Stage → CallName → Type 0
HasClosed s t c =
    (k : ℕ)
    → IfSome (slice_get s.nodes (suc k)) (λ n. call_lives_at s c (suc k) n ≡ true
    → call_lives_at t c (suc k) n ≡ false)

-- the one call that lives as rounds begin is closed once 2000 rounds were made for each piece of its work
abbrev pub ClosesOne : Type 0
ClosesOne =
    (g : Handlers) (ls : List Numbered) (n : ℕ) (s t : Stage) → RoundsBehind g ls n s t
    → (c : CallName) → all_live s ≡ c ∷ [] → 2000 * work_of g ls s c ≤ n → HasClosed s t c
