use Rattle.std.proofs.Common.{map, ap}
use Rattle.std.proofs.lemmas.List.{drop_all}
use Rattle.xdr_value.specs.View.{types_of, param_of}
use Rattle.stub_table.specs.Streams.{parts_with}
use Rattle.stub_table.proofs.Loops.{fit_done}
use Rattle.stub_table.proofs.stream.values_fit.Goals as goal

pub returns : goal.returns
returns c =
    let none = ap (λ xs. parts_with c.args.stream (map param_of xs))
    (drop_all c.loop-arg.arg-index c.deref-arg-items.result.now c.loop-arg-test.false) in
    let done = fit_done (types_of c.args.iface.now.types.items) c.loop-arg.left.now c.is_empty.result
    c.is_empty.ensures in
    let same = rw none at c.loop-arg.invariant.same in
    (λ h. same.0 (done.0 h), λ h. done.1 (same.1 h))
