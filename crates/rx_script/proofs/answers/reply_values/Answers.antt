use Rattle.std.proofs.Common.{map, sym, ap, ◌∙◌}
use Rattle.std.proofs.lemmas.List.{drop_all}
use Rattle.xdr_value.specs.Data.{Param, Datum}
use Rattle.xdr_value.specs.View.{types_of, param_of, value_of, values_of}
use Rattle.xdr_value.proofs.Lists.{values_of-push}
use Rattle.rx_script.specs.Answers.{reply_value}
use Rattle.rx_script.specs.Saying.{saying_of}
use Rattle.rx_script.proofs.LoopLemmas.{in_left, known_rest, values_done, values_go, values_stay}
use Rattle.rx_script.proofs.answers.reply_values.Goals as goal
use Rattle.rx_script.proofs.answers.reply_values.Goals.{then-returns+in_ok-reply_value+in_ok-push, else-returns}

pub loop-arg-preserved : goal.loop-arg-preserved
loop-arg-preserved c =
    let types = types_of c.args.iface.now.types.items in
    let request = c.args.request.now in
    let value : Param → Datum = reply_value types (map param_of request.args.now) (values_of request.values.now)
    request.upload.now (map saying_of c.args.lines.now) in
    let left = in_left request.args.now c.loop-arg.arg-index c.arg-item.result c.loop-arg-test.true c.arg-item.is in
    let known = known_rest types _ _ c.arg-item.result left c.loop-arg.invariant.known in
    elim c.if-returns.branch [
      | then-returns+in_ok-reply_value+in_ok-push w ↦
          let all = c.loop-arg.all.items in
          let more = w.in_ok-reply_value.field-0 in
          let goes = sym c.returns.ensures ∙ w.if-returns.true in
          let pushed = ap values_of w.in_ok-push.ensures.items ∙ values_of-push all more in
          let told = w.in_ok-reply_value.ensures in
          rw w.all-is record {
            known = known.1;
            told = rw pushed (values_go value (values_of all) _ _ c.arg-item.result (value_of more) _ left goes told
                c.loop-arg.invariant.told);
          }
      | else-returns w ↦
          let stays = values_stay value _ _ c.arg-item.result left (sym c.returns.ensures ∙ w.if-returns.false) in
          rw w.all-is record { known = known.1; told = rw (← stays) c.loop-arg.invariant.told }
    ]

pub returns : goal.returns
returns c =
    let types = types_of c.args.iface.now.types.items in
    let request = c.args.request.now in
    let value : Param → Datum = reply_value types (map param_of request.args.now) (values_of request.values.now)
    request.upload.now (map saying_of c.args.lines.now) in
    let none = drop_all c.loop-arg.arg-index request.args.now c.loop-arg-test.false in
    values_done value (values_of c.loop-arg.all.items) _ _ none c.loop-arg.invariant.told
