use Rattle.std.proofs.Common.{◌≡◌, ◌∙◌, sym, ap, arith}
use Rattle.rx_recvwin.specs.Places.{count_in}
use Rattle.rx_recvwin.specs.Window.{RecvWindow, window_of}
use Rattle.rx_recvwin.proofs.SlotLaws.{count_seen, slots_count}
use Rattle.rx_recvwin.proofs.PlaceLaws.{count_most}
use Rattle.rx_recvwin.proofs.Nearness.{held_is}
use Rattle.rx_recvwin.proofs.window.RecvWin.held.Goals as goal

pub returns-clause-count : goal.returns-clause-count
returns-clause-count c =
    let count : c.self.inside.held ≡ count_in c.args.self.now.places = (
    c.self.invariant.2.count ∙ ap (λ (w : RecvWindow). count_in w.places) c.self.view_is) in
    count ∙ sym (slots_count c.args.self.now.places)

pub returns-clause-answered : goal.returns-clause-answered
returns-clause-answered c =
    let count : c.self.inside.held ≡ count_in c.args.self.now.places = (
    c.self.invariant.2.count ∙ ap (λ (w : RecvWindow). count_in w.places) c.self.view_is) in
    λ pool r s. count ∙ sym (count_seen pool c.args.self.now.places) ∙ held_is (window_of pool c.args.self.now) r s

pub returns-clause-most : goal.returns-clause-most
returns-clause-most c =
    let fewer = count_most c.self.inside.places.items in
    omega (
      arith,
      fewer,
      c.self.invariant.0,
      c.self.inside.places.ok.0,
      c.self.invariant.2.count,
      c.self.invariant.2.most,
    )
