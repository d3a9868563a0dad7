use Rattle.std.proofs.Common.{◌≡◌, ℕ, List, refl, ap, ◌∙◌, arith}
use Rattle.std.specs.String.{string_bytes}
use Rattle.stub_table.specs.declared.stream.Stream.TheVariants as streams
use Rattle.stub_table.specs.Streams.{parts_with}
use Rattle.xdr_value.specs.declared.value.Value.{Value}
use Rattle.xdr_value.specs.View.{types_of, values_of, proc_of}
use Rattle.rx_reply.specs.Replies.{array_text}
use Rattle.rx_reply.proofs.Fronts.{front_spelled, front_empty}
use Rattle.rx_reply.proofs.replies.parts_behind.Goals as goal

pub returns-in-Err-Code : goal.returns-in-Err-Code
returns-in-Err-Code c =
    let told = rw c.in-Err-Code.field-0-is at c.in-Err-Code.ensures in
    rw (front_empty (types_of c.args.iface.now.types.items) (proc_of c.args.p.now) c.args.rest.now
    (λ i. omega (arith, c.type_inv.rest i)) told.1) refl

pub returns-in_ok-values-in-Ok : goal.returns-in_ok-values-in-Ok
returns-in_ok-values-in-Ok c =
    let types = types_of c.args.iface.now.types.items in
    let proc = proc_of c.args.p.now in
    let read = c.in-Ok.ensures in
    let text : List Value → List ℕ = λ vs. array_text types (parts_with streams.Reply proc.params) (values_of vs) in
    let values : string_bytes c.in_ok-values-in-Ok.values ≡ text c.in-Ok.values.items =
    c.in_ok-values-in-Ok.ensures ∙ ap text c.deref.ensures.value in
    rw (
      front_spelled types proc c.args.rest.now read.1 (values_of c.in-Ok.values.items) read.0 read.2,
      values,
      c.download_asked-download.ensures,
    ) refl
