use Rattle.std.proofs.Common.{◌≡◌, ◌∙◌, subst, sym, arith, length, true, Some}
use Rattle.rx_pool.specs.Pool.{has}
use Rattle.rx_recvwin.specs.Places.{place_at}
use Rattle.rx_recvwin.specs.Window.{RecvWindow, packet_slots}
use Rattle.rx_recvwin.proofs.SlotLaws.{has_slots}
use Rattle.rx_recvwin.proofs.Marking.{item_is}
use Rattle.rx_recvwin.proofs.window.RecvWin.unread.Goals as goal

pub unread-requires-clause-of : goal.unread-requires-clause-of
unread-requires-clause-of c =
    let hs = c.self.inside.places.items in
    let len : length hs ≡ c.self.inside.width = sym c.self.inside.places.ok.0 ∙ c.self.invariant.0 in
    let at : place_at hs 0 ≡ Some c.in-Some.held = (
    item_is hs 0 c.index.result.now c.index.ensures (omega (arith, len, c.self.invariant.2.least))
    ∙ c.in-Some.is) in
    c.requires.of c.in-Some.held.slot (subst (λ (w : RecvWindow). has c.in-Some.held.slot (packet_slots w) ≡ true)
    c.self.view_is (has_slots hs 0 c.in-Some.held at))
