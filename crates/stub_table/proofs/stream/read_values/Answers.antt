use Rattle.std.proofs.Common.{map, sym, ap, ◌∙◌}
use Rattle.std.proofs.lemmas.List.{drop_all}
use Rattle.std.proofs.lemmas.Result.{err_from_is_err_and}
use Rattle.xdr_value.specs.View.{types_of, values_of, param_of}
use Rattle.xdr_value.proofs.Lists.{in_left, values_of-push}
use Rattle.xdr_code.specs.Reading.{value_at}
use Rattle.stub_table.specs.Streams.{parts_with}
use Rattle.xdr_code.proofs.Loop.{parts_go_on, parts_end, parts_done}
use Rattle.stub_table.proofs.Loops.{part_for, left_go, left_stay}
use Rattle.stub_table.proofs.stream.read_values.Goals as goal
use Rattle.stub_table.proofs.stream.read_values.Goals.{then-goes_with+in_ok-value+in_ok-push, else-goes_with}

pub returns-in_err-value : goal.returns-in_err-value
returns-in_err-value c =
    let p = err_from_is_err_and c.from_residual.result c.from_residual.ensures.1 in
    let read = value_at 64 (types_of c.args.iface.now.types.items) in
    let left = in_left c.deref-arg-items.result.now c.loop-arg.arg-index c.arg-item.result c.loop-arg-test.true
    c.arg-item.is in
    let goes = left_go c.args.stream _ _ c.arg-item.result left (sym c.goes_with.ensures ∙ c.if-goes_with.true) in
    rw (p.1, p.2) (parts_end read c.in_err-value.field-0.0 (values_of c.loop-arg.values.items)
    (part_for (param_of c.arg-item.result)) _ _ c.loop-arg.rest.now _ goes
    c.in_err-value.ensures
    c.loop-arg.invariant)

pub loop-arg-preserved : goal.loop-arg-preserved
loop-arg-preserved c =
    let read = value_at 64 (types_of c.args.iface.now.types.items) in
    let left = in_left c.deref-arg-items.result.now c.loop-arg.arg-index c.arg-item.result c.loop-arg-test.true
    c.arg-item.is in
    elim c.if-goes_with.branch [
      | then-goes_with+in_ok-value+in_ok-push w ↦
          let goes = left_go c.args.stream _ _ c.arg-item.result left (sym c.goes_with.ensures ∙ w.if-goes_with.true) in
          let pushed = ap values_of w.in_ok-push.ensures.items ∙ values_of-push c.loop-arg.values.items
          w.in_ok-value.value in
          rw (w.values-is, w.rest-is, pushed) (parts_go_on read (values_of c.loop-arg.values.items)
          (part_for (param_of c.arg-item.result)) _ _ c.loop-arg.rest.now _ _ _ goes
          w.in_ok-value.ensures
          c.loop-arg.invariant)
      | else-goes_with w ↦
          let stays = left_stay c.args.stream _ _ c.arg-item.result left
          (sym c.goes_with.ensures ∙ w.if-goes_with.false) in
          rw (w.values-is, w.rest-is, ← stays) c.loop-arg.invariant
    ]

pub returns : goal.returns
returns c =
    let read = value_at 64 (types_of c.args.iface.now.types.items) in
    let none = ap (λ xs. parts_with c.args.stream (map param_of xs))
    (drop_all c.loop-arg.arg-index c.deref-arg-items.result.now c.loop-arg-test.false) in
    parts_done read (values_of c.loop-arg.values.items) _ c.loop-arg.rest.now _ none c.loop-arg.invariant
