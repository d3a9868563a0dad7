use Rattle.std.proofs.Common.{◌≡◌, drop, map}
use Rattle.rx_script.specs.Answers.{first_given}
use Rattle.rx_script.specs.Saying.{saying_of}
use Rattle.rx_jobs.specs.Handlers.{turns_of}
use Rattle.rx_dispatch.proofs.deciding.first_wait.Given as goal

abbrev pub invariant-loop-line : goal.invariant-loop-line
invariant-loop-line l =
    first_given turns_of (map saying_of (drop l.line-index l.lines)) ≡ first_given turns_of (map saying_of l.lines)
