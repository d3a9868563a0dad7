use Rattle.std.proofs.Common.{◌≡◌, true, drop, map}
use Rattle.xdr_value.specs.View.{types_of, param_of, values_of}
use Rattle.xdr_value.specs.Tests.{params_known}
use Rattle.xdr_value.proofs.Lists.{append}
use Rattle.rx_script.specs.Answers.{reply_value, values_by}
use Rattle.rx_script.specs.Saying.{saying_of}
use Rattle.rx_script.proofs.answers.reply_values.Given as goal

abbrev pub invariant-loop-arg : goal.invariant-loop-arg
invariant-loop-arg l = record {
  known : params_known (types_of l.iface.types.items) (map param_of (drop l.arg-index l.request.args.now)) ≡ true;
  told : append (values_of l.all.items) (values_by (reply_value (types_of l.iface.types.items)
      (map param_of l.request.args.now) (values_of l.request.values.now) l.request.upload.now (map saying_of l.lines))
      (map param_of (drop l.arg-index l.request.args.now)))
      ≡ values_by (reply_value (types_of l.iface.types.items) (map param_of l.request.args.now)
      (values_of l.request.values.now) l.request.upload.now (map saying_of l.lines)) (map param_of l.request.args.now);
}
