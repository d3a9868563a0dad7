-- The rounds that a plan ends with close all calls that live as they begin, where there is room for them. Public
-- clauses cite this module.
use Rattle.std.specs.Prelude.{◌≡◌, ◌≤◌, ℕ, List, [], ◌∷◌, ◌++◌, All}
use Rattle.rx_model.specs.declared.event.Noted.{Noted}
use Rattle.rx_model.specs.declared.names.CallName.{CallName}
use Rattle.rx_script.specs.declared.plan.Numbered.{Numbered}
use Rattle.rx_script.specs.declared.plan.PlanLine.TheVariants as lines
use Rattle.rx_jobs.specs.Handlers.{Handlers}
use Rattle.rx_plan.specs.Answering.{AreServable, WaitsShort}
use Rattle.rx_plan.specs.Follows.{Went, Whole, plan_goes}
use Rattle.rx_plan.specs.Lines.{IsWell}
use Rattle.rx_plan.specs.Parts.{To}
use Rattle.rx_plan.specs.Promises.{plan_nodes}
use Rattle.rx_plan.specs.Rounds.{rounds}
use Rattle.rx_plan.specs.Stages.{Stage}
use Rattle.rx_closing.specs.Closing.{HasClosed}
use Rattle.rx_closing.specs.Silence.{DeadInSilence}
use Rattle.rx_closing.specs.Several.{HasRoomForAll, enough_for}
use Rattle.rx_closing.specs.Ended.{AreFair}

-- what is said of a stage and of the one behind so many rounds: each call that lives at the first is closed at the
-- second, where there is room for all of them and there were enough rounds
abbrev pub ClosesAllFrom : Handlers → List Numbered → ℕ → Stage → Stage → Type 0
ClosesAllFrom g ls n s t =
    AreFair g ls s t → HasRoomForAll s → enough_for g ls s ≤ n → (c : CallName) → HasClosed s t c

-- and however many there were, of their events: each was found dead only in silence
abbrev pub SilentAllFrom : Handlers → List Numbered → Stage → List Noted → Stage → Type 0
SilentAllFrom g ls s es t =
    AreFair g ls s t → HasRoomForAll s → (c : CallName) → DeadInSilence (plan_nodes ls) s es t c

-- events of these lines and then of so many rounds, to a stage at which each call is closed that lived as the rounds
-- began, where there was room for all and there were enough of them; and however many there were, each was found dead
-- only in silence
pub record AllEndInRounds (g : Handlers) (ls : List Numbered) (n : ℕ) (es : List Noted) (t : Stage) : Type 0 where
  pub begins : Stage
  pub front : List Noted
  pub rest : List Noted
  pub are : es ≡ front ++ rest
  pub goes : plan_goes g ls front (Whole begins)
  pub rounds_are : rounds g n begins rest (To t)
  pub closes : ClosesAllFrom g ls n begins t
  pub silent : SilentAllFrom g ls begins rest t

-- of a plan whose last line makes rounds, where all of it was made
abbrev pub ClosesAllBy : Handlers → List Numbered → List Noted → Went → Type 0
ClosesAllBy g ls es went =
    (before : List Numbered) (line n : ℕ) (t : Stage)
    → ls ≡ before ++ record { line = line; what = lines.Rounds n } ∷ [] → went ≡ Whole t
    → AllEndInRounds g before n es t

-- whatever such a plan makes
abbrev pub PlansCloseAll : Type 0
PlansCloseAll =
    (g : Handlers) (ls : List Numbered) (es : List Noted) (went : Went) → AreServable g → WaitsShort g
    → All (λ l. IsWell g l.what) ls → plan_goes g ls es went → ClosesAllBy g ls es went
