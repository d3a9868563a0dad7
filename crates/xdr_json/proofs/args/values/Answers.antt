use Rattle.std.proofs.Common.{◌≡◌, length, map, sym, ap, ◌∙◌}
use Rattle.std.proofs.lemmas.List.{drop_all}
use Rattle.xdr_value.specs.View.{kind_of, types_of, value_of, values_of, param_of}
use Rattle.serde_json.specs.View.{view}
use Rattle.xdr_value.proofs.Lists.{in_left, values_of-push}
use Rattle.xdr_json.specs.Judging.{judged}
use Rattle.xdr_json.specs.Args.{in_kinds}
use Rattle.xdr_json.proofs.ArgsLoop.{args_done, args_go_on, first_is, length-push, left_go, left_stay, less_deep}
use Rattle.xdr_json.proofs.args.values.Goals as goal
use Rattle.xdr_json.proofs.args.values.Goals.{then-comes_in+in-len1-up+in_ok-value-in-len1-up+in_ok-push-in-len1-up}
use Rattle.xdr_json.proofs.args.values.Goals.{else-comes_in}

pub loop-arg-preserved : goal.loop-arg-preserved
loop-arg-preserved c =
    let left = in_left c.args.args.now c.loop-arg.arg-index c.arg-item.result c.loop-arg-test.true c.arg-item.is in
    elim c.if-comes_in.branch [
      | then-comes_in+in-len1-up+in_ok-value-in-len1-up+in_ok-push-in-len1-up w ↦
          let types = types_of c.args.iface.now.types.items in
          let values = c.loop-arg.values.items in
          let json = w.json-item.result in
          let value = w.in_ok-value-in-len1-up.value in
          let goes = left_go _ _ c.arg-item.result left (sym c.comes_in.ensures ∙ w.if-comes_in.true) in
          let front = first_is c.loop-arg.left.now json w.in-len1-up.len_at_least w.json-item.is in
          let met = w.in_ok-value-in-len1-up.ensures (judged types (view json) (kind_of c.arg-item.result.ty))
          w.judge-judged.ensures in
          let counted : w.len.result ≡ length values = w.len.ensures ∙ c.loop-arg.values.ok.0 in
          let pushed = w.in_ok-push-in-len1-up.ensures.items in
          let more = ap values_of pushed ∙ values_of-push values value in
          let longer = length-push values w.push.new.self.items value pushed in
          rw (w.values-is, w.left-is) record {
            shallow = (less_deep json _ c.loop-arg.left.now 126 front c.loop-arg.invariant.shallow).1;
            told = rw (more, longer) (args_go_on types _ _ _ (values_of values) (length values) json c.loop-arg.left.now
                _ (value_of value) _ front goes (rw counted at met) c.loop-arg.invariant.told);
          }
      | else-comes_in w ↦
          let stays = left_stay _ _ c.arg-item.result left (sym c.comes_in.ensures ∙ w.if-comes_in.false) in
          rw (w.values-is, w.left-is) record {
            shallow = c.loop-arg.invariant.shallow;
            told = rw (← stays) c.loop-arg.invariant.told;
          }
    ]

pub returns : goal.returns
returns c =
    let none = ap (λ xs. in_kinds (map param_of xs))
    (drop_all c.loop-arg.arg-index c.args.args.now c.loop-arg-test.false) in
    args_done (types_of c.args.iface.now.types.items) (values_of c.loop-arg.values.items) _ _ c.loop-arg.left.now _ none
    c.loop-arg.invariant.told
