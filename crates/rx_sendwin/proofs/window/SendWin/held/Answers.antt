use Rattle.std.proofs.Common.{◌∙◌, length, sym, ap, arith}
use Rattle.rx_sendwin.specs.Window.{SendWindow, piece_slots}
use Rattle.rx_sendwin.proofs.PieceLaws.{slots_count}
use Rattle.rx_sendwin.proofs.window.SendWin.held.Goals as goal

pub returns-clause-count : goal.returns-clause-count
returns-clause-count c =
    c.len.ensures ∙ c.self.inside.pieces.ok.0 ∙ sym (slots_count c.self.inside.pieces.items)
    ∙ ap (λ (w : SendWindow). length (piece_slots w)) c.self.view_is

pub returns-clause-most : goal.returns-clause-most
returns-clause-most c =
    omega (arith, c.len.ensures, c.self.inside.pieces.ok.0, c.self.invariant.1.within, c.self.invariant.1.most)
