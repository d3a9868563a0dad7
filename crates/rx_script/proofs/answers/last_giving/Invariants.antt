use Rattle.std.proofs.Common.{◌≡◌, drop, map}
use Rattle.std.specs.Option.{option_or}
use Rattle.rx_script.specs.Answers.{last_of, gives}
use Rattle.rx_script.specs.Answered.{maybe_saying}
use Rattle.rx_script.specs.Saying.{saying_of}
use Rattle.rx_script.proofs.answers.last_giving.Given as goal

-- the last one of those that are left, or else the last so far
abbrev pub invariant-loop-line : goal.invariant-loop-line
invariant-loop-line l =
    option_or (last_of (gives l.name) (map saying_of (drop l.line-index l.lines))) (maybe_saying l.last)
    ≡ last_of (gives l.name) (map saying_of l.lines)
