use Rattle.std.proofs.Common.{◌≡◌, Some, ap, sym, ◌∙◌}
use Rattle.rx_table.specs.Records.{seat_at}
use Rattle.rx_node.specs.Node.{NodeState}
use Rattle.rx_node.proofs.Steps.KeySteps.{dead_number, latest_by_number}
use Rattle.rx_node.proofs.OwnCalls.{own_missing, own_unseated}
use Rattle.rx_node.proofs.node.Node.own.Goals as goal

pub returns-then-seat-c-clause-none : goal.returns-then-seat-c-clause-none
returns-then-seat-c-clause-none g c =
    let key = c.in_ok-key.key in
    let there : seat_at c.args.self.now.table key ≡ Some c.seat.result.now =
    ap (λ (n : NodeState). seat_at n.table key) (sym c.self.view_is) ∙ c.seat.ensures in
    λ l m none. dead_number g.C.Class.class_of c.args.self.now l m c.args.c.now key c.seat.result.now
    (c.in_ok-key.ensures.channel l m c.in_ok-key.ensures.chan) there c.if-seat-c.true

pub returns-clause-latest : goal.returns-clause-latest
returns-clause-latest g c =
    let key = c.in_ok-key.key in
    let there : seat_at c.args.self.now.table key ≡ Some c.seat.result.now =
    ap (λ (n : NodeState). seat_at n.table key) (sym c.self.view_is) ∙ c.seat.ensures in
    λ l m. latest_by_number g.C.Class.class_of c.args.self.now l m c.args.c.now key c.seat.result.now
    (c.in_ok-key.ensures.channel l m c.in_ok-key.ensures.chan) there c.if-seat-c.false

pub returns-in_err-key-clause-missing : goal.returns-in_err-key-clause-missing
returns-in_err-key-clause-missing g c =
    λ l m none. own_missing g.C.Class.class_of c.args.self.now l m c.args.c.now
    (λ low. c.channel.ensures.none l m low c.in_err-key.was)

pub returns-then-seat-c-clause-missing : goal.returns-then-seat-c-clause-missing
returns-then-seat-c-clause-missing g c =
    let key = c.in_ok-key.key in
    let there : seat_at c.args.self.now.table key ≡ Some c.seat.result.now =
    ap (λ (n : NodeState). seat_at n.table key) (sym c.self.view_is) ∙ c.seat.ensures in
    λ l m none. own_unseated g.C.Class.class_of c.args.self.now l m c.args.c.now key c.seat.result.now
    (c.in_ok-key.ensures.channel l m c.in_ok-key.ensures.chan) there c.if-seat-c.true
