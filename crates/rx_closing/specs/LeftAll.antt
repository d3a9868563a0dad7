-- What isn't left behind the rounds that a plan ends with, of all the calls that lived as they began, where there was
-- room for all: one that lives still, or one that was heard in them and is dead. Public clauses cite this module.
use Rattle.std.specs.Prelude.{◌≤◌, ℕ, List}
use Rattle.rx_model.specs.declared.event.Noted.{Noted}
use Rattle.rx_model.specs.declared.names.CallName.{CallName}
use Rattle.rx_script.specs.declared.plan.Numbered.{Numbered}
use Rattle.rx_jobs.specs.Handlers.{Handlers}
use Rattle.rx_plan.specs.Promises.{plan_nodes}
use Rattle.rx_plan.specs.Stages.{Stage}
use Rattle.rx_closing.specs.Ended.{AreFair}
use Rattle.rx_closing.specs.Left.{DiesHeard, LivesOn}
use Rattle.rx_closing.specs.EndedAll.{ClosesAllFrom, SilentAllFrom}
use Rattle.rx_closing.specs.Several.{HasRoomForAll, enough_for}

-- by what is said of two stages alone, whatever was made between them: where there is room for all and there were
-- enough rounds, none of the calls lives on
abbrev pub NoneOfAllLivesOn : Type 0
NoneOfAllLivesOn =
    (g : Handlers) (ls : List Numbered) (n : ℕ) (s t : Stage) → ClosesAllFrom g ls n s t → AreFair g ls s t
    → HasRoomForAll s → enough_for g ls s ≤ n → (c : CallName) → LivesOn s t c → ⊥

-- and however many there were, none of them dies heard
abbrev pub NoneOfAllDiesHeard : Type 0
NoneOfAllDiesHeard =
    (g : Handlers) (ls : List Numbered) (s : Stage) (es : List Noted) (t : Stage) → SilentAllFrom g ls s es t
    → AreFair g ls s t → HasRoomForAll s → (c : CallName) → DiesHeard (plan_nodes ls) s es t c → ⊥
