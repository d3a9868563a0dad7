-- Fair rounds close all calls that live as they begin, where each node has room for all of them, whatever was lost,
-- repeated and reordered before; and these are found dead only in silence. Public clauses cite this module.
use Rattle.std.specs.Prelude.{◌+◌, ◌*◌, ◌≤◌, ℕ, List, [], ◌∷◌, length, IfSome, slice_get}
use Rattle.rx_model.specs.declared.names.CallName.{CallName}
use Rattle.rx_rules.specs.Setup.{shared_slots}
use Rattle.rx_history.specs.Sides.{Node}
use Rattle.rx_script.specs.declared.plan.Numbered.{Numbered}
use Rattle.rx_jobs.specs.Handlers.{Handlers}
use Rattle.rx_plan.specs.Promises.{plan_nodes}
use Rattle.rx_plan.specs.Stages.{Stage}
use Rattle.rx_closing.specs.Work.{work_of}
use Rattle.rx_closing.specs.Living.{all_live}
use Rattle.rx_closing.specs.Closing.{HasClosed, RoundsBehind}
use Rattle.rx_closing.specs.Silence.{DeadInSilence}

-- ---- room

-- a node may have so many calls, and beside a slot for each call it has two windows of slots for each of so many
pub record HasRoomFor (count : ℕ) (n : Node) : Type 0 where
  pub calls : count ≤ n.setup.limits.calls
  pub slots : 2 * n.setup.limits.window * count ≤ shared_slots n.setup

-- each node has room for all calls that live
abbrev pub HasRoomForAll : Stage → Type 0
HasRoomForAll s = (k : ℕ) → IfSome (slice_get s.nodes k) (HasRoomFor (length (all_live s)))

-- ---- work

-- the work of several calls
abbrev pub work_of_all : Handlers → List Numbered → Stage → List CallName → ℕ
work_of_all g ls s [] = 0
work_of_all g ls s (c ∷ cs) = work_of g ls s c + work_of_all g ls s cs

-- so many rounds are enough: a thousand for each piece of their work, one more times than there are calls
abbrev pub enough_for : Handlers → List Numbered → Stage → ℕ
enough_for g ls s = 1000 * (length (all_live s) + 1) * work_of_all g ls s (all_live s)

-- ---- the promises

-- where there is room for all calls that live as rounds begin, each is closed at its client once enough rounds were
-- made
abbrev pub ClosesAll : Type 0
ClosesAll =
    (g : Handlers) (ls : List Numbered) (n : ℕ) (s t : Stage) → RoundsBehind g ls n s t → HasRoomForAll s
    → enough_for g ls s ≤ n → (c : CallName) → HasClosed s t c

-- each of them is found dead only in silence, however many rounds there are
abbrev pub DeadAllInSilence : Type 0
DeadAllInSilence =
    (g : Handlers) (ls : List Numbered) (n : ℕ) (s t : Stage) → (r : RoundsBehind g ls n s t) → HasRoomForAll s
    → (c : CallName) → DeadInSilence (plan_nodes ls) s r.fs t c
