use Rattle.std.proofs.Common.{◌≡◌, drop, map}
use Rattle.rx_script.specs.Answers.{first_given, fail_code}
use Rattle.rx_script.specs.Saying.{saying_of}
use Rattle.rx_script.proofs.answers.first_fail.Given as goal

abbrev pub invariant-loop-line : goal.invariant-loop-line
invariant-loop-line l =
    first_given fail_code (map saying_of (drop l.line-index l.lines)) ≡ first_given fail_code (map saying_of l.lines)
