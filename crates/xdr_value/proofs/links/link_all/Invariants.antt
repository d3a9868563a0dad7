use Rattle.std.proofs.Common.{◌≡◌, true}
use Rattle.xdr_value.specs.View.{types_of}
use Rattle.xdr_value.specs.Links.{all_linked}
use Rattle.xdr_value.proofs.links.link_all.Given as goal

abbrev pub invariant-loop : goal.invariant-loop
invariant-loop l = record
    { same : types_of l.types ≡ types_of l.fn.types; linked : all_linked (types_of l.types) l.types ≡ true }
