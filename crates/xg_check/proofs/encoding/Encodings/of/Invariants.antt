use Rattle.xg_check.specs.Held.{AreMeasured}
use Rattle.xg_check.proofs.encoding.Encodings.of.Given as goal

abbrev pub invariant-loop-place : goal.invariant-loop-place
invariant-loop-place l = AreMeasured l.types l.constants l.place-items l.place-index l.found.hollow.items
    l.found.least.items
