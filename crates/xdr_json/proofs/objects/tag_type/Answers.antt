use Rattle.std.proofs.Common.{◌≡◌, ℕ, suc, ◌-◌, sym, ap, ◌∙◌, arith}
use Rattle.xdr_value.specs.View.{kind_of, types_of}
use Rattle.xdr_json.specs.Judging.{tag_kind_within, tag_kind}
use Rattle.xdr_json.proofs.objects.tag_type.Goals as goal

pub returns-in-Tag : goal.returns-in-Tag
unfolding tag_kind
returns-in-Tag c =
    let one : c.loop-hops.hops ≡ suc (c.loop-hops.hops - 1) = omega (arith, c.loop-hops-test.true) in
    sym (c.in-Tag.ensures (c.loop-hops.hops - 1))
    ∙ ap (λ (n : ℕ). tag_kind_within n (types_of c.args.iface.now.types.items) (kind_of c.loop-hops.ty.now)) (sym one)
    ∙ c.loop-hops.invariant
