-- How much there is to be done for the calls of a stage. Public clauses cite this module.
use Rattle.std.specs.Prelude.{◌+◌, ℕ, List, Option, unwrap_or, option_map, option_and_then}
use Rattle.std.specs.List.{find}
use Rattle.rx_model.specs.declared.names.CallName.{CallName}
use Rattle.rx_model.specs.Names.{same_name}
use Rattle.rx_script.specs.declared.plan.Numbered.{Numbered}
use Rattle.rx_jobs.specs.Handlers.{Handlers, wait_of}
use Rattle.rx_plan.specs.Answering.{Invoked, invoked_at, request_for}
use Rattle.rx_plan.specs.Stages.{InvokedState, Stage}
use Rattle.rx_rounds.specs.Bounds.{both_pieces}

-- the pieces of a request and of what is served for it, the turns that its handler waits, and eight more
abbrev pub work : Handlers → List ℕ → ℕ
work g request = both_pieces g request + wait_of g request + 8

-- the invoke of a call, where one was given it
abbrev pub invoked_as : Handlers → List Numbered → Stage → CallName → Option Invoked
invoked_as g ls s c =
    option_and_then (λ (k : InvokedState). invoked_at g ls k.line)
    (find (λ (k : InvokedState). same_name k.caller.call c) s.callers)

-- the work of a call that an invoke made
abbrev pub work_of : Handlers → List Numbered → Stage → CallName → ℕ
work_of g ls s c = unwrap_or (option_map (λ i. work g (request_for g i)) (invoked_as g ls s c)) 0
