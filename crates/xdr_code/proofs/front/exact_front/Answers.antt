use Rattle.std.proofs.Common.{◌≡◌, ◌-◌, Ok, Err, length, ap, ◌∙◌, arith}
use Rattle.xdr_value.specs.View.{kind_of, types_of, value_of}
use Rattle.xdr_code.specs.declared.fault.Fault.TheVariants.{Bad}
use Rattle.xdr_code.specs.Reading.{value_at}
use Rattle.xdr_code.proofs.Places.{read_front, refused_within}
use Rattle.xdr_code.proofs.front.exact_front.Goals as goal

pub overflow_sub-result : goal.overflow_sub-result
overflow_sub-result c = (read_front (types_of c.args.iface.now.types.items) (kind_of c.args.ty.now) c.args.bytes.now
    (value_of c.in-Ok.value) c.in-Ok.rest.now (λ i. omega (arith, c.type_inv.bytes i)) c.in-Ok.ensures).within

pub overflow_sub-result-in-Bad : goal.overflow_sub-result-in-Bad
overflow_sub-result-in-Bad c =
    let e : value_at 64 (types_of c.args.iface.now.types.items) (kind_of c.args.ty.now) c.args.bytes.now ≡ Err
    c.in-Err-Fault.fault = rw c.in-Err-Fault.field-0-is at c.in-Err-Fault.ensures in
    (refused_within (types_of c.args.iface.now.types.items) (kind_of c.args.ty.now) c.args.bytes.now c.in-Bad.left
    c.in-Bad.why
    (λ i. omega (arith, c.type_inv.bytes i)) (e ∙ ap (λ f. Err f) c.in-Bad.is)).1

pub returns-in-Ok-clause-exact : goal.returns-in-Ok-clause-exact
returns-in-Ok-clause-exact c =
    let e : value_at 64 (types_of c.args.iface.now.types.items) (kind_of c.args.ty.now) c.args.bytes.now ≡ Ok
    (value_of c.in-Ok.value, c.in-Ok.rest.now) = c.in-Ok.ensures in
    let f = read_front (types_of c.args.iface.now.types.items) (kind_of c.args.ty.now) c.args.bytes.now
    (value_of c.in-Ok.value)
    c.in-Ok.rest.now (λ i. omega (arith, c.type_inv.bytes i)) e in
    (omega arith, rw f.left e)

pub returns-in-Bad-clause-exact : goal.returns-in-Bad-clause-exact
returns-in-Bad-clause-exact c =
    let e : value_at 64 (types_of c.args.iface.now.types.items) (kind_of c.args.ty.now) c.args.bytes.now ≡ Err
    c.in-Err-Fault.fault = rw c.in-Err-Fault.field-0-is at c.in-Err-Fault.ensures in
    let g : value_at 64 (types_of c.args.iface.now.types.items) (kind_of c.args.ty.now) c.args.bytes.now ≡ Err
    (Bad c.in-Bad.left c.in-Bad.why) = (e ∙ ap (λ f. Err f) c.in-Bad.is) in
    let w = refused_within (types_of c.args.iface.now.types.items) (kind_of c.args.ty.now) c.args.bytes.now
    c.in-Bad.left
    c.in-Bad.why (λ i. omega (arith, c.type_inv.bytes i)) g in
    let back : length c.args.bytes.now - (length c.args.bytes.now - c.in-Bad.left) ≡ c.in-Bad.left = omega arith in
    (omega arith, rw back g)
