use Rattle.std.proofs.Common.{Bool, ap, not}
use Rattle.rx_node.proofs.node.Node.challenges.Goals as goal

pub returns-then-challenges : goal.returns-then-challenges
returns-then-challenges g c = λ l ch m at.
    (let proved = c.is_proved.ensures l ch m at in
    let challenges = c.if-challenges.ensures in
    rw (← c.self.view_is, c.in-Server.is, ← challenges) (ap (λ (b : Bool). not b) proved))
