use Rattle.std.proofs.Common.{◌≡◌, ◌==◌, ◌∙◌, Some, take, ap, sym, subst}
use Rattle.rx_model.specs.declared.wire.TheConstants.{ACK_PING}
use Rattle.rx_model.specs.Message.{Message}
use Rattle.rx_model.specs.Spelling.{made}
use Rattle.rx_rules.specs.CallItems.{ack_body, next_sending}
use Rattle.rx_rules.specs.Received.{Received}
use Rattle.rx_rules.specs.Setup.{Kind, side_flag}
use Rattle.rx_call.specs.declared.giving.Giving.{Giving}
use Rattle.rx_call_ends.specs.Ends.{view_at}
use Rattle.rx_node.specs.Kinds.{kind_of}
use Rattle.rx_node.specs.Mirrors.{IsActiveAt}
use Rattle.rx_node.specs.Node.{NodeState}
use Rattle.rx_node.proofs.Steps.SeatedSteps.{end_seated, end_set_up}
use Rattle.rx_node.proofs.GivenSending.{given_pieces, or_flag, or_flags, piece_whole, sent_ack}
use Rattle.rx_node.proofs.GivenSending.{sent_leaves, sent_piece, sent_some, sent_stands}
use Rattle.rx_node.proofs.SameChannels.{same_with_ends}
use Rattle.rx_node.proofs.node.Node.give_sending.Goals as goal
use Rattle.rx_node.proofs.node.Node.give_sending.Goals.{in-Some-Piece, in-Some-Ack, in-None}
use Rattle.rx_call_ends.proofs.Most.{received_same}

pub invariant_of-self : goal.invariant_of-self
invariant_of-self g c =
    let i = c.self.invariant in
    let active = subst (λ (n : NodeState). IsActiveAt n c.args.key c.args.end) (sym c.self.view_is)
    c.requires.active in (
      end_set_up g.C.Class.class_of _ c.args.key c.args.end active c.poll.new.self _ c.poll.ensures.given
          c.poll.ensures.live i.0,
      end_seated g.C.Class.class_of _ c.args.key c.args.end active c.poll.new.self _ c.poll.ensures.given
          c.poll.ensures.live i.1,
      i.2,
      i.3,
    )

pub returns-clause-gives : goal.returns-clause-gives
returns-clause-gives g c =
    let inv = c.self.invariant in
    let key = c.args.key in
    let end = c.args.end in
    let head = c.args.head.now in
    let kind : Kind = kind_of c.self.inside.kind in
    let active = subst (λ (n : NodeState). IsActiveAt n key end) (sym c.self.view_is) c.requires.active in
    let flagged : head.flags ≡ side_flag kind = c.requires.flags ∙ ap (λ (n : NodeState). side_flag n.kind)
    (sym c.self.view_is) in
    rw (← c.self.view_is)
    (λ l ch i m at sends due numbered seqless. (
    let looks = sends.call.looks in
    let now = c.self.inside.moment in
    let next = next_sending (view_at c.self.inside.ends now) looks in
    let stands = sent_stands g.C.Class.class_of _ l m key end ch at active i sends due inv.0.client in
    let answered = c.poll.ensures.answered looks stands in
    let after = c.poll.ensures.given.stands looks stands in
    record {
      written = elim c.match-poll.branch [
        | in-Some-Piece w ↦ (
            let piece = w.in-Some-Piece in
            (λ t. take (w.result-is t) (w.to-is t)) ∙ w.write_msg.ensures.written
            ∙ ap (λ (msg : Message). made msg)
            (sent_piece g.C.Class.class_of _ l m key end ch at active i sends due inv.0.client head
            piece.seq _ piece.asks
            piece.last _ (sym (piece.is ∙ ap (λ (x : Giving). Some x) piece.field-0-is) ∙ answered)
            (or_flags kind piece.asks piece.last head.flags w.flag_where.result
            w.flag_where-in-Some-Piece.result flagged
            w.flag_where.ensures w.flag_where-in-Some-Piece.ensures)
            (piece_whole looks piece.seq w.payload-payload.result.now w.min.result
            (w.payload-payload.ensures.payload _ after ∙ given_pieces now next looks piece.seq) w.min.ensures)
            numbered))
        | in-Some-Ack w ↦ (
            let ack = w.in-Some-Ack in
            let received = received_same now next looks in
            (λ t. take (w.result-is t) (w.to-is t)) ∙ w.write_msg-in-Some-Ack.ensures.written
            ∙ ap (λ (msg : Message). made msg)
            (sent_ack g.C.Class.class_of _ l m key end ch at active i sends due inv.0.client head
            ack.reason ack.serial _
            _ (sym (ack.is ∙ ap (λ (x : Giving). Some x) ack.field-0-is) ∙ answered)
            (or_flag kind (ack.reason == ACK_PING) head.flags w.flag_where-in-Some-Ack.result flagged
            w.flag_where-in-Some-Ack.ensures)
            (w.ack_of-ack.ensures.seen _ after
            ∙ ap (λ (r : Received). ack_body c.self.inside.limits.window ack.reason ack.serial r) received)
            numbered seqless))
        | in-None w ↦ absurd (sent_some g.C.Class.class_of _ l m key end ch at active i sends due inv.0.client
            (sym w.in-None.is ∙ answered))
      ];
      leaves = sent_leaves g.C.Class.class_of _ l m key end ch at active i sends due inv.0.client inv.1 c.poll.new.self
          c.poll.ensures.given;
    }))

pub returns-clause-others : goal.returns-clause-others
returns-clause-others g c =
    let a = subst (λ (n : NodeState). IsActiveAt n c.args.key c.args.end) (sym c.self.view_is) c.requires.active in
    rw (← c.self.view_is)
    (same_with_ends _ c.self.invariant.1 c.args.key c.args.end a.seat a.there a.live _ c.poll.ensures.given.keeps)
