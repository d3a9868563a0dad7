use Rattle.std.proofs.Common.{◌≡◌, drop, map}
use Rattle.xdr_value.specs.View.{param_of, values_of}
use Rattle.rx_script.specs.Answers.{first_given, held_code}
use Rattle.rx_script.specs.Saying.{saying_of}
use Rattle.rx_script.proofs.answers.first_held.Given as goal

abbrev pub invariant-loop-line : goal.invariant-loop-line
invariant-loop-line l =
    first_given (held_code (map param_of l.args) (values_of l.values)) (map saying_of (drop l.line-index l.lines))
    ≡ first_given (held_code (map param_of l.args) (values_of l.values)) (map saying_of l.lines)
