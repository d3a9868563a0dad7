use Rattle.std.proofs.Common.{◌≡◌, true, take}
use Rattle.xdr_value.specs.View.{types_of}
use Rattle.xdr_value.specs.Links.{all_linked}
use Rattle.xdr_value.proofs.links.start.Given as goal

abbrev pub invariant-loop-at : goal.invariant-loop-at
invariant-loop-at l = record
    { same : types_of l.types ≡ types_of l.fn.types; linked : all_linked (types_of l.types) (take l.at l.types) ≡ true }
