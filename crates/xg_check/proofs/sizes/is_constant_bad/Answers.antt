use Rattle.std.proofs.Common.{sym, arith}
use Rattle.std.proofs.lemmas.List.{length-map}
use Rattle.xg_check.specs.Constants.{ConstantDef, constant_names}
use Rattle.xg_check.proofs.RingLaws.{place_inside}
use Rattle.xg_check.proofs.sizes.is_constant_bad.Goals as goal

pub is_in_ring-requires : goal.is_in_ring-requires
is_in_ring-requires c =
    omega (
      arith,
      place_inside c.args.name.now (constant_names c.args.constants.now) c.in-Some.place (sym c.in-Some.ensures),
      length-map c.args.constants.now (λ (d : ConstantDef). d.name),
    )
