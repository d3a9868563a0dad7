use Rattle.std.proofs.Common.{◌≡◌, drop, map}
use Rattle.xdr_value.specs.View.{param_of, values_of}
use Rattle.rx_script.specs.Answers.{came}
use Rattle.rx_script.proofs.answers.came.Given as goal

-- it is what came for those that are left
abbrev pub invariant-loop-arg : goal.invariant-loop-arg
invariant-loop-arg l =
    came (map param_of (drop l.arg-index l.args)) (values_of l.left) l.name
    ≡ came (map param_of l.args) (values_of l.values) l.name
