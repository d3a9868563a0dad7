use Rattle.std.proofs.Common.{◌≡◌, drop, length, nat_lt, slice_index, false, Ok, ap, sym, ◌∙◌, arith}
use Rattle.std.proofs.lemmas.Bool.Decides.{nat_tests}
use Rattle.rx_model.specs.Message.{Message, IsBytes}
use Rattle.rx_model.specs.Reading.{body_reading, with_body}
use Rattle.rx_model.proofs.SpelledLaws.{spelled}
use Rattle.rx_packet.specs.Seen.{body_of, message_of}
use Rattle.rx_packet.proofs.read.read_msg.Goals as goal

pub returns-clause-exact : goal.returns-clause-exact
returns-clause-exact c =
    let bytes = c.args.bytes.now in
    let body = body_of c.in_ok-body.body in
    let long : nat_lt (length bytes) 28 ≡ false = grind (arith, nat_tests) in
    let read : body_reading (slice_index bytes 20) (slice_index bytes 21) (drop 28 bytes) ≡ Ok body =
    ap (body_reading (slice_index bytes 20) (slice_index bytes 21)) (sym c.split_at.ensures.back)
    ∙ sym c.in_ok-body.ensures.exact in
    let message = ap (λ (m : Message). Ok m) (sym (c.head_at.ensures body)) in
    sym (rw long (ap (with_body bytes) read ∙ message))

pub returns-clause-spells : goal.returns-clause-spells
returns-clause-spells c =
    let bytes = c.args.bytes.now in
    let fits : IsBytes bytes = λ i. omega (arith, c.type_inv.bytes i) in
    spelled bytes (message_of c.head_at.result c.in_ok-body.body) fits (sym (returns-clause-exact c))
