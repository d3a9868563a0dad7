use Rattle.std.proofs.Common.{◌≡◌, ◌+◌, ◌∙◌, length, ap}
use Rattle.rx_rules.specs.Sent.{opened, pieces_by}
use Rattle.rx_sendwin.proofs.PieceLaws.{slots_count}
use Rattle.rx_sendwin.proofs.window.SendWin.room.Goals as goal

pub returns-clause-held : goal.returns-clause-held
returns-clause-held c =
    let unshut = (rw (← c.self.view_is) at c.requires.unshut) in
    let held : c.self.inside.acked + length c.self.inside.pieces.items ≡ opened c.self.inside.total = (
    c.self.invariant.1.held ∙ ap (pieces_by c.self.inside.total) unshut) in
    rw (← c.self.view_is) (ap (λ n. c.self.inside.acked + n) (slots_count c.self.inside.pieces.items) ∙ held)
