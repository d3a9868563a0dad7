use Rattle.std.proofs.Common.{◌+◌, ◌∙◌, subst, sym, ap, drop, Option}
use Rattle.rx_rules.specs.Received.{Piece, Received, payload_of}
use Rattle.rx_recvwin.specs.Window.{RecvWindow, Near, StandsFor, window_of}
use Rattle.rx_recvwin.proofs.SlotLaws.{place_seen}
use Rattle.rx_recvwin.proofs.Reading.{first_none, first_read}
use Rattle.rx_recvwin.proofs.window.RecvWin.read_first.Goals as goal

pub returns-clause-answered : goal.returns-clause-answered
returns-clause-answered c =
    let w = c.args.self.now in
    let pool = c.args.pool.now in
    let n = c.copy_front-n.result in
    let new = window_of c.settle.new.pool c.settle.new.self in
    let first = sym (place_seen pool w.places 0) in
    let is = c.unread.ensures.value ∙ ap (λ (o : Option Piece). drop w.offset (payload_of o)) first in
    let settled : (r : Received) → Near (record (window_of pool w) { offset = w.offset + n }) r → StandsFor new r = (
    subst (λ (v : RecvWindow). (r : Received) → Near (record (window_of pool v) { offset = v.offset + n }) r →
    StandsFor new r)
    c.self.view_is c.settle.ensures.settled) in
    λ r s. first_read (window_of pool w) new r n c.unread.result.now c.args.to.now c.copy_front-n.new.to c.requires.some
    c.copy_front-n.auto.to is c.copy_front-n.ensures.count c.copy_front-n.ensures.front settled s

pub returns-then-n-eq0-clause-answered : goal.returns-then-n-eq0-clause-answered
returns-then-n-eq0-clause-answered c =
    let w = c.args.self.now in
    let pool = c.args.pool.now in
    let first = sym (place_seen pool w.places 0) in
    let is = c.unread.ensures.value ∙ ap (λ (o : Option Piece). drop w.offset (payload_of o)) first in
    λ r s. first_none (window_of pool w) r c.unread.result.now c.args.to.now c.copy_front-n.new.to c.requires.some is
    (sym c.if-n-eq0.true ∙ c.copy_front-n.ensures.count) s
