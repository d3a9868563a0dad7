use Rattle.std.proofs.Common.{◌+◌, ◌≡◌, ◌∙◌, nat_lt, sym, ap}
use Rattle.rx_rules.specs.Received.{front_of}
use Rattle.rx_recvwin.specs.Places.{leading}
use Rattle.rx_recvwin.specs.Window.{RecvWindow, window_of}
use Rattle.rx_recvwin.proofs.SlotLaws.{leading_seen}
use Rattle.rx_recvwin.proofs.Nearness.{front_is}
use Rattle.rx_recvwin.proofs.window.RecvWin.has_hole.Goals as goal

pub returns : goal.returns
returns c =
    let w = c.args.self.now in
    let upto : c.self.inside.front ≡ w.used + leading w.places = (
    c.self.invariant.2.upto ∙ ap (λ (w : RecvWindow). w.used + leading w.places) c.self.view_is) in
    let most : c.self.inside.greatest ≡ w.greatest = ap (λ (w : RecvWindow). w.greatest) c.self.view_is in
    record {
      answered = λ pool r s.
          (let front : c.self.inside.front ≡ front_of r.kept = (
          upto ∙ ap (λ n. w.used + n) (sym (leading_seen pool w.places))
          ∙ sym (front_is (window_of pool w) r s.near)) in
          let greatest = most ∙ s.near.greatest in
          λ i. nat_lt (front i) (greatest i));
    }
