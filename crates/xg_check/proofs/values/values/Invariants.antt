use Rattle.xg_check.specs.Held.{AreFound, AreBelow}
use Rattle.xg_check.specs.Views.{constants_of}
use Rattle.xg_check.proofs.values.values.Given as goal

abbrev pub invariant-loop-at : goal.invariant-loop-at
invariant-loop-at l = record {
  found : AreFound (constants_of l.list) l.at-items l.at-index l.values.items;
  below : AreBelow l.at-index l.values.items;
}
