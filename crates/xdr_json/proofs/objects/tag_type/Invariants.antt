use Rattle.std.proofs.Common.{◌≡◌, length}
use Rattle.xdr_value.specs.View.{kind_of, types_of}
use Rattle.xdr_json.specs.Judging.{tag_kind_within}
use Rattle.xdr_json.proofs.objects.tag_type.Given as goal

abbrev pub invariant-loop-hops : goal.invariant-loop-hops
invariant-loop-hops l =
    tag_kind_within l.hops (types_of l.iface.types.items) (kind_of l.ty)
    ≡ tag_kind_within (length (types_of l.iface.types.items)) (types_of l.iface.types.items) (kind_of l.fn.ty)

abbrev pub decreases-loop-hops : goal.decreases-loop-hops
decreases-loop-hops l = l.hops
