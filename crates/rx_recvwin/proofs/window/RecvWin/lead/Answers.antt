use Rattle.std.proofs.Common.{◌+◌, ◌≡◌, ◌∙◌, nat_lt, sym, ap}
use Rattle.rx_recvwin.specs.Places.{leading}
use Rattle.rx_recvwin.specs.Window.{RecvWindow, window_of}
use Rattle.rx_recvwin.proofs.SlotLaws.{leading_seen}
use Rattle.rx_recvwin.proofs.Nearness.{lead_is}
use Rattle.rx_recvwin.proofs.window.RecvWin.lead.Goals as goal

pub returns : goal.returns
returns c =
    let w = c.args.self.now in
    let upto : nat_lt c.self.inside.used c.self.inside.front ≡ nat_lt w.used (w.used + leading w.places) = (
    ap (nat_lt c.self.inside.used) c.self.invariant.2.upto
    ∙ ap (λ (w : RecvWindow). nat_lt w.used (w.used + leading w.places)) c.self.view_is) in
    record {
      value = upto;
      answered = λ pool r s.
          upto ∙ ap (λ n. nat_lt w.used (w.used + n)) (sym (leading_seen pool w.places))
          ∙ lead_is (window_of pool w) r s;
    }
