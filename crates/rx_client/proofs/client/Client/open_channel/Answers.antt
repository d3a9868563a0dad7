use Rattle.std.proofs.Common.{◌≡◌, ◌<◌, ◌+◌, ◌*◌, ◌^◌, List, Some, ◌∙◌, ap, sym, subst, arith}
use Rattle.rx_model.specs.declared.answers.CallRefused.{CallRefused}
use Rattle.rx_model.specs.Names.{Channel, channels_of}
use Rattle.rx_table.specs.Records.{seat_at}
use Rattle.rx_node.specs.Node.{NodeState}
use Rattle.rx_client.specs.Calling.{HasNoneOpen}
use Rattle.rx_client.proofs.OpenChannels.{all_of, busy_next, first_open, worn_next}
use Rattle.rx_client.proofs.client.Client.open_channel.Goals as goal

pub loop-chan-preserved-then-is_some : goal.loop-chan-preserved-then-is_some
loop-chan-preserved-then-is_some g c =
    let place = c.args.place in
    let chan = c.loop-chan.chan in
    let seat = c.seat-seat.result.now in
    let seated : seat_at c.args.self.now.table (4 * place + chan) ≡ Some seat =
    ap (λ (n : NodeState). seat_at n.table (4 * place + chan)) (sym c.self.view_is) ∙ c.seat-seat.ensures in
    λ l x m there. busy_next g.C.Class.class_of c.args.self.now l m place x there chan c.loop-chan-test.true seat seated
    c.loop-chan.refused (c.loop-chan.invariant l x m there) (sym c.is_some.ensures ∙ c.if-is_some.true)

pub returns-then-seat-lt4294967295-clause-first : goal.returns-then-seat-lt4294967295-clause-first
returns-then-seat-lt4294967295-clause-first g c =
    let place = c.args.place in
    let chan = c.loop-chan.chan in
    let seat = c.seat-seat.result.now in
    let seated : seat_at c.args.self.now.table (4 * place + chan) ≡ Some seat =
    ap (λ (n : NodeState). seat_at n.table (4 * place + chan)) (sym c.self.view_is) ∙ c.seat-seat.ensures in
    λ l x m there. first_open g.C.Class.class_of c.args.self.now l m place x there chan
    c.loop-chan-test.true seat seated
    c.loop-chan.refused (c.loop-chan.invariant l x m there) (sym c.is_some.ensures ∙ c.if-is_some.false)
    c.if-seat-lt4294967295.true

pub loop-chan-preserved : goal.loop-chan-preserved
loop-chan-preserved g c =
    let place = c.args.place in
    let chan = c.loop-chan.chan in
    let seat = c.seat-seat.result.now in
    let fits : seat.number < 2 ^ 32 = omega arith in
    let seated : seat_at c.args.self.now.table (4 * place + chan) ≡ Some seat =
    ap (λ (n : NodeState). seat_at n.table (4 * place + chan)) (sym c.self.view_is) ∙ c.seat-seat.ensures in
    λ l x m there. worn_next g.C.Class.class_of c.args.self.now l m place x there chan c.loop-chan-test.true seat seated
    c.loop-chan.refused (c.loop-chan.invariant l x m there) (sym c.is_some.ensures ∙ c.if-is_some.false)
    c.if-seat-lt4294967295.false fits

pub returns-clause-refused : goal.returns-clause-refused
returns-clause-refused g c =
    λ l x refused m there is. (
    let same : c.loop-chan.refused ≡ refused = cc (is) in
    subst (λ (r : CallRefused). HasNoneOpen l (channels_of x.connection) r) same
    (subst (λ (chs : List Channel). HasNoneOpen l chs c.loop-chan.refused)
    (all_of x.connection c.loop-chan.chan c.loop-chan-test.false c.loop-chan.auto.chan-end)
    (c.loop-chan.invariant l x m there)))
