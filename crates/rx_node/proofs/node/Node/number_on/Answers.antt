use Rattle.std.proofs.Common.{◌≡◌, Option, Some, subst, ℕ}
use Rattle.rx_table.specs.Records.{seat_at}
use Rattle.rx_node.specs.Steps.{IsChannelAt}
use Rattle.rx_node.proofs.node.Node.number_on.Goals as goal

pub returns-in-Some : goal.returns-in-Some
returns-in-Some g c = λ l ch m at.
    (let here = subst (λ (o : Option ℕ). IsChannelAt l o ch) c.in-Some.is at in
    let there : seat_at c.args.self.now.table c.in-Some.key ≡ Some c.seat.result.now =
    rw (← c.self.view_is) c.seat.ensures in
    (m.channels c.in-Some.key ch c.seat.result.now here there).owes.number)
