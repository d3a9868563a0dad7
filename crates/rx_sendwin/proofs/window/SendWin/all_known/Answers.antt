use Rattle.std.proofs.Common.{◌==◌, ◌&&◌, ◌∙◌, sym, subst}
use Rattle.rx_sendwin.specs.Window.{SendWindow, IsTied}
use Rattle.rx_sendwin.proofs.Standing.{flight_is}
use Rattle.rx_sendwin.proofs.window.SendWin.all_known.Goals as goal

pub returns-then-all_sent : goal.returns-then-all_sent
returns-then-all_sent c =
    let w = c.args.self.now in
    let low = c.self.inside.low in
    let flight = c.self.inside.flight in
    let tied = subst (λ (v : SendWindow). IsTied v low flight) c.self.view_is c.self.invariant.1 in
    record {
      answered = λ pool s st. (
          let given = sym c.if-all_sent.true ∙ c.all_sent.ensures.answered pool s st in
          λ i. given i && (flight_is pool w s low flight st tied i == 0));
    }
