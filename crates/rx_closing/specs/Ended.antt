-- The rounds that a plan ends with close the one call that lives as they begin. Public clauses cite this module.
use Rattle.std.specs.Prelude.{◌≡◌, ◌≤◌, ◌*◌, ◌⊎◌, ℕ, List, [], ◌∷◌, ◌++◌, length, All}
use Rattle.rx_model.specs.declared.event.Noted.{Noted}
use Rattle.rx_model.specs.declared.names.CallName.{CallName}
use Rattle.rx_law.specs.Promises.{ServerForgotNone}
use Rattle.rx_law.specs.Times.{Timely}
use Rattle.rx_script.specs.declared.plan.Numbered.{Numbered}
use Rattle.rx_script.specs.declared.plan.PlanLine.TheVariants as lines
use Rattle.rx_jobs.specs.Handlers.{Handlers}
use Rattle.rx_plan.specs.Answering.{AreDriven, AreServable, WaitsShort}
use Rattle.rx_plan.specs.Follows.{Went, Whole, plan_goes}
use Rattle.rx_plan.specs.Lines.{IsWell}
use Rattle.rx_plan.specs.Parts.{To}
use Rattle.rx_plan.specs.Promises.{AreDistinct, plan_nodes}
use Rattle.rx_plan.specs.Rounds.{rounds}
use Rattle.rx_plan.specs.Stages.{Stage}
use Rattle.rx_closing.specs.Work.{work_of}
use Rattle.rx_closing.specs.Living.{all_live}
use Rattle.rx_closing.specs.Closing.{AreEarly, AreOpen, HasClosed, RepliesFit}
use Rattle.rx_closing.specs.Silence.{DeadInSilence}

-- what is asked of lines, of the stage that they came to and of a later one: the lines are driven; no two clients share
-- host and epoch, and nodes don't challenge; the server forgot nothing or no datagram is old; no clock of the first
-- stage is near its end, and what is served there fits its callers
pub record AreFair (g : Handlers) (ls : List Numbered) (s t : Stage) : Type 0 where
  pub driven : AreDriven ls
  pub distinct : AreDistinct (plan_nodes ls)
  pub open_ : AreOpen (plan_nodes ls)
  pub kept : ServerForgotNone (plan_nodes ls) t.history ⊎ Timely (plan_nodes ls) t.history
  pub early : AreEarly s
  pub replies : RepliesFit g ls s

-- what is said of a stage and of the one behind so many rounds: the one call that lives at the first is closed at the
-- second, where there were enough of them
abbrev pub ClosesFrom : Handlers → List Numbered → ℕ → Stage → Stage → Type 0
ClosesFrom g ls n s t =
    AreFair g ls s t → (c : CallName) → all_live s ≡ c ∷ [] → 2000 * work_of g ls s c ≤ n → HasClosed s t c

-- and however many there were, of their events: it was found dead only in silence
abbrev pub SilentFrom : Handlers → List Numbered → Stage → List Noted → Stage → Type 0
SilentFrom g ls s es t =
    AreFair g ls s t → (c : CallName) → length (all_live s) ≡ 1 → DeadInSilence (plan_nodes ls) s es t c

-- events of these lines and then of so many rounds, to a stage at which the one call is closed that lived as the rounds
-- began, where there were enough of them; and however many there were, it was found dead only in silence
pub record EndsInRounds (g : Handlers) (ls : List Numbered) (n : ℕ) (es : List Noted) (t : Stage) : Type 0 where
  pub begins : Stage
  pub front : List Noted
  pub rest : List Noted
  pub are : es ≡ front ++ rest
  pub goes : plan_goes g ls front (Whole begins)
  pub rounds_are : rounds g n begins rest (To t)
  pub closes : ClosesFrom g ls n begins t
  pub silent : SilentFrom g ls begins rest t

-- of a plan whose last line makes rounds, where all of it was made
abbrev pub ClosesBy : Handlers → List Numbered → List Noted → Went → Type 0
ClosesBy g ls es went =
    (before : List Numbered) (line n : ℕ) (t : Stage)
    → ls ≡ before ++ record { line = line; what = lines.Rounds n } ∷ [] → went ≡ Whole t → EndsInRounds g before n es t

-- whatever such a plan makes
abbrev pub PlansClose : Type 0
PlansClose =
    (g : Handlers) (ls : List Numbered) (es : List Noted) (went : Went) → AreServable g → WaitsShort g
    → All (λ l. IsWell g l.what) ls → plan_goes g ls es went → ClosesBy g ls es went
