use Rattle.std.proofs.Common.{◌≡◌, sym}
use Rattle.xdr_value.specs.Data.{more, end}
use Rattle.xdr_value.specs.View.{types_of, value_of, values_of}
use Rattle.xdr_value.specs.Zero.{name_zero}
use Rattle.xdr_value.proofs.Lists.{append, values_of-push, fields_zero-push}
use Rattle.xdr_value.proofs.zeros.+zero.Goals as goal

pub fields_zero-loop-field-preserved : goal.fields_zero-loop-field-preserved
fields_zero-loop-field-preserved t c =
    let pushed : values_of c.push.new.self.items ≡ append (values_of c.loop-field.items.items)
    (more (value_of c.in_ok-ty_zero.field-0) end) = rw c.in_ok-push.ensures.items
    (values_of-push c.loop-field.items.items c.in_ok-ty_zero.field-0) in
    rw (pushed, c.loop-field.invariant, c.in_ok-ty_zero.ensures)
    (sym (fields_zero-push (name_zero c.args.hops (types_of c.args.iface.now.types.items))
    c.deref-field-items.result.now
    c.loop-field.field-index c.field-item.result c.loop-field-test.true c.field-item.is))
