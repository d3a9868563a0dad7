use Rattle.std.proofs.Common.{◌≡◌, length}
use Rattle.rx_words.specs.Rules.{texts_of}
use Rattle.rx_words.proofs.rules.next_text.Given as goal

-- the parts that are left have the texts of all of them
abbrev pub invariant-loop-part : goal.invariant-loop-part
invariant-loop-part l = texts_of l.wanted l.parts ≡ texts_of l.wanted l.fn.parts

abbrev pub decreases-loop-part : goal.decreases-loop-part
decreases-loop-part l = length l.parts
