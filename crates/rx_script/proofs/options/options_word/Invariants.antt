use Rattle.std.proofs.Common.{◌≡◌, length}
use Rattle.rx_script.specs.Options.{options_from, options_word}
use Rattle.rx_script.proofs.options.options_word.Given as goal

-- the words that are left say what all of them say
abbrev pub invariant-loop-word : goal.invariant-loop-word
invariant-loop-word l = options_from l.row l.keyed l.given l.words ≡ options_word l.row l.fn.words

abbrev pub decreases-loop-word : goal.decreases-loop-word
decreases-loop-word l = length l.words
