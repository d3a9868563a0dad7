use Rattle.rx_node.proofs.OwedItems.{owed_first}
use Rattle.std.proofs.Common.{◌≡◌, ◌∙◌, ◌/◌, ap, sym, subst}
use Rattle.std.specs.Prelude.{IsSomeAnd}
use Rattle.rx_table.specs.Records.{record_at, seat_at}
use Rattle.rx_node.specs.Node.{NodeState}
use Rattle.rx_node.proofs.Steps.MomentSteps.{owed_is}
use Rattle.rx_node.proofs.node.Node.owed_on.Goals as goal

pub returns-clause-first : goal.returns-clause-first
returns-clause-first g c =
    rw (← c.self.view_is, c.owed_at.ensures)
    (λ l ch m at. owed_first g.C.Class.class_of _ l m c.args.key ch at c.seat.result.now c.proved.result c.seat.ensures
    c.proved.ensures)

pub returns-clause-owed : goal.returns-clause-owed
returns-clause-owed g c =
    let n = c.args.self.now in
    let key = c.args.key in
    let proved = c.proved.result in
    c.owed_at.ensures
    ∙ owed_is n key c.seat.result.now proved
    (ap (λ (n : NodeState). seat_at n.table key) (sym c.self.view_is) ∙ c.seat.ensures)
    (subst (λ (n : NodeState). IsSomeAnd (record_at n.table (key / 4)) (λ r. proved ≡ r.proved)) c.self.view_is
    c.proved.ensures)
