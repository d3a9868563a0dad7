use Rattle.std.proofs.Common.{◌≡◌, drop}
use Rattle.xdr_value.specs.View.{types_of}
use Rattle.xdr_value.specs.Heads.{form_named}
use Rattle.xdr_value.proofs.links.searched.Given as goal

-- it is what the definitions that are left give
abbrev pub invariant-loop-at : goal.invariant-loop-at
invariant-loop-at l = form_named l.name (types_of (drop l.at l.types)) ≡ form_named l.name (types_of l.types)
