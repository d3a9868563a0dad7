-- What the answer line of an invoke says of its call by itself: that it ended. Public clauses cite this module.
use Rattle.std.specs.Prelude.{◌≤◌, ℕ, List, Option, Some, None, IfSome, slice_get}
use Rattle.rx_model.specs.declared.answers.End.{End}
use Rattle.rx_model.specs.declared.answers.End.TheVariants as ends
use Rattle.rx_script.specs.declared.plan.Numbered.{Numbered}
use Rattle.rx_jobs.specs.Handlers.{Handlers}
use Rattle.rx_plan.specs.Answering.{invoked_at, request_for}
use Rattle.rx_plan.specs.Follows.{Whole}
use Rattle.rx_plan.specs.Stages.{Stage}
use Rattle.rx_rounds.specs.Completing.{CompletesBy, rounds_for}

-- a node ended the call: it isn't open, and nobody was waited for in vain
abbrev pub HasEnded : Option End → Type 0
HasEnded None = ⊥
HasEnded (Some ends.Ok) = Unit {0}
HasEnded (Some (ends.Abort code)) = Unit {0}
HasEnded (Some (ends.Dead silence)) = ⊥
HasEnded (Some (ends.Cancelled code)) = Unit {0}

-- the calls of all invokes have, where there were so many rounds
abbrev pub AllEnded : Handlers → List Numbered → Option (List ℕ) → ℕ → Stage → Type 0
AllEnded g ls key n s =
    (place : ℕ) → IfSome (slice_get s.callers place) (λ k. IfSome (invoked_at g ls k.line)
    (λ i. rounds_for g key (request_for g i) ≤ n → HasEnded k.caller.end))

-- by what is said of a whole run alone, whatever was made in it
abbrev pub CallsEnd : Type 0
CallsEnd =
    (g : Handlers) (ls : List Numbered) (key : Option (List ℕ)) (n : ℕ) (s : Stage)
    → CompletesBy g ls key n (Whole s) → AllEnded g ls key n s
