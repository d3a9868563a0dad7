use Rattle.std.proofs.Common.{◌≡◌, ◌++◌, map, drop}
use Rattle.std.specs.String.{string_bytes}
use Rattle.serde_json.specs.Written.{items_text}
use Rattle.stub_table.specs.declared.stream.Stream.TheVariants as streams
use Rattle.stub_table.specs.Streams.{parts_with, PartsFitWithin}
use Rattle.xdr_value.specs.View.{types_of, values_of, param_of}
use Rattle.rx_reply.specs.Replies.{values_json, array_text}
use Rattle.rx_reply.proofs.values.array_text.Given as goal

abbrev pub invariant-loop-arg : goal.invariant-loop-arg
invariant-loop-arg l = record {
  fits : PartsFitWithin (types_of l.iface.types.items)
      (parts_with streams.Reply (map param_of (drop l.arg-index l.arg-items))) (values_of l.left);
  told : string_bytes l.text ++ items_text l.later (values_json (types_of l.iface.types.items)
      (parts_with streams.Reply (map param_of (drop l.arg-index l.arg-items))) (values_of l.left))
      ≡ array_text (types_of l.iface.types.items)
      (parts_with streams.Reply (map param_of l.args.items)) (values_of l.values);
}
