use Rattle.std.proofs.Common.{subst}
use Rattle.xdr_value.specs.Data.{Types}
use Rattle.xdr_value.specs.Facts.{TypeHolds}
use Rattle.xg_check.specs.Constants.{constants_in}
use Rattle.xg_check.specs.Typed.{types_in}
use Rattle.xg_check.proofs.EndlessLaws.{none_endless, only_types, types_are}
use Rattle.xg_check.proofs.laws.no_type_is_endless.Goals as goal

pub returns : goal.returns
returns c = λ tree h s holds.
    let cs = constants_in tree.items in
    none_endless cs (types_in tree.items) (only_types tree.items) h s
    (subst (λ (t : Types). TypeHolds t s s) (types_are cs tree.items) holds)
