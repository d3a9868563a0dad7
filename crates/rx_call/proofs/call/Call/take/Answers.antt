use Rattle.std.proofs.Common.{◌∙◌, ap, sym, subst}
use Rattle.rx_model.specs.Body as bodies
use Rattle.rx_packet.specs.declared.body.Body.{Body}
use Rattle.rx_packet.specs.Seen.{message_of, ack_of}
use Rattle.rx_rules.specs.CallLooks.{CallLooks, after_taken}
use Rattle.rx_rules.specs.Sent.{is_strange_ack}
use Rattle.rx_call.specs.Standing.{StandsCall, view_of}
use Rattle.rx_call.proofs.Rows.{ack_taken}
use Rattle.rx_call.proofs.call.Call.take.Goals as goal

pub returns-in-Ack-clause-stands : goal.returns-in-Ack-clause-stands
returns-in-Ack-clause-stands c =
    let v = view_of c.args.self.now c.args.common c.args.now in
    let a = ack_of c.in-Ack.ack in
    λ k st.
    let strange = is_strange_ack a.first a.marks k.sent in
    subst (λ (l : CallLooks). StandsCall c.take_ack.new.pool c.take_ack.new.self l)
    (ack_taken v c.args.head.now a k strange c.take_ack.result (c.take_ack.ensures.answered k st)
    ∙ ap (λ (b : Body). after_taken v c.take_ack.result (message_of c.args.head.now b) k) (sym c.in-Ack.is))
    (c.take_ack.ensures.stands k (bodies.Ack a) st)
