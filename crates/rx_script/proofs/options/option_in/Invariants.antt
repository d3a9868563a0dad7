use Rattle.std.proofs.Common.{◌≡◌, drop}
use Rattle.rx_script.specs.Options.{option_in}
use Rattle.rx_script.proofs.options.option_in.Given as goal

abbrev pub invariant-loop-name : goal.invariant-loop-name
invariant-loop-name l = option_in (drop l.name-index l.row) l.word ≡ option_in l.row l.word
