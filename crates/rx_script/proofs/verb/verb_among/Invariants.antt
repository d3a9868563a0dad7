use Rattle.std.proofs.Common.{◌≡◌, drop}
use Rattle.rx_script.specs.Verbs.{verb_in}
use Rattle.rx_script.proofs.verb.verb_among.Given as goal

abbrev pub invariant-loop-verb : goal.invariant-loop-verb
invariant-loop-verb l = verb_in (drop l.verb-index l.verbs) l.word ≡ verb_in l.verbs l.word
