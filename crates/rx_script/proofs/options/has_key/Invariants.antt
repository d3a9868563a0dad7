use Rattle.std.proofs.Common.{◌≡◌, length}
use Rattle.rx_script.specs.Options.{has_key}
use Rattle.rx_script.proofs.options.has_key.Given as goal

-- the words that are left give a key if all of them do
abbrev pub invariant-loop-word : goal.invariant-loop-word
invariant-loop-word l = has_key l.left ≡ has_key l.words

abbrev pub decreases-loop-word : goal.decreases-loop-word
decreases-loop-word l = length l.left
