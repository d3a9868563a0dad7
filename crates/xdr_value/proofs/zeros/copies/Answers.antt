use Rattle.std.proofs.Common.{◌≡◌}
use Rattle.xdr_value.specs.Data.{more, end}
use Rattle.xdr_value.specs.View.{value_of, values_of}
use Rattle.xdr_value.proofs.Lists.{append, values_of-push, copies-push}
use Rattle.xdr_value.proofs.zeros.copies.Goals as goal

pub loop-preserved : goal.loop-preserved
loop-preserved c =
    let pushed : values_of c.push.new.self.items ≡ append (values_of c.loop.items.items)
    (more (value_of c.in_ok-copied.field-0) end) = rw c.in_ok-push.ensures.items
    (values_of-push c.loop.items.items c.in_ok-copied.field-0) in
    rw (pushed, c.loop.invariant, c.in_ok-copied.ensures) (copies-push c.loop.counter (value_of c.args.value.now))
