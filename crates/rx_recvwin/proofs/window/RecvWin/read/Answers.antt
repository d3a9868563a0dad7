use Rattle.std.proofs.Common.{◌+◌, ◌∙◌, true, sym, ap, length, subst}
use Rattle.rx_rules.specs.Received.{Received, is_within}
use Rattle.rx_recvwin.specs.Window.{RecvWindow, Near, StandsFor, window_of}
use Rattle.rx_recvwin.proofs.SlotLaws.{leading_seen}
use Rattle.rx_recvwin.proofs.WholeReads.{read_got, read_end, read_not_yet}
use Rattle.rx_recvwin.proofs.window.RecvWin.read.Goals as goal

pub returns-then-n-gt0-clause-answered : goal.returns-then-n-gt0-clause-answered
returns-then-n-gt0-clause-answered c =
    λ r s. read_got (window_of c.copy_to-n.new.pool c.copy_to-n.new.self) r (length c.args.to.now) c.copy_to-n.result
    c.copy_to-n.new.to c.if-n-gt0.true (c.copy_to-n.ensures.answered r s)

pub returns-then-n-gt0-clause-stands : goal.returns-then-n-gt0-clause-stands
returns-then-n-gt0-clause-stands c = λ r s. (c.copy_to-n.ensures.answered r s).some.stands

pub returns-clause-answered : goal.returns-clause-answered
returns-clause-answered c =
    let w = c.copy_to-n.new.self in
    let pool = c.copy_to-n.new.pool in
    let front = ap (λ n. is_within w.last (w.used + n)) (leading_seen pool w.places) in
    let open_ = front ∙ sym c.is_complete.ensures ∙ c.if-is_complete.false in
    λ r s. (read_not_yet (window_of pool w) r (length c.args.to.now) c.copy_to-n.result c.copy_to-n.new.to
    c.requires.some
    c.if-n-gt0.false open_ (c.copy_to-n.ensures.answered r s)).0

pub returns-clause-stands : goal.returns-clause-stands
returns-clause-stands c =
    let w = c.copy_to-n.new.self in
    let pool = c.copy_to-n.new.pool in
    let front = ap (λ n. is_within w.last (w.used + n)) (leading_seen pool w.places) in
    let open_ = front ∙ sym c.is_complete.ensures ∙ c.if-is_complete.false in
    λ r s. (read_not_yet (window_of pool w) r (length c.args.to.now) c.copy_to-n.result c.copy_to-n.new.to
    c.requires.some
    c.if-n-gt0.false open_ (c.copy_to-n.ensures.answered r s)).1

pub returns-then-is_complete-clause-answered : goal.returns-then-is_complete-clause-answered
returns-then-is_complete-clause-answered c =
    let w = c.copy_to-n.new.self in
    let pool = c.copy_to-n.new.pool in
    let new = window_of c.settle.new.pool c.settle.new.self in
    let front = ap (λ n. is_within w.last (w.used + n)) (leading_seen pool w.places) in
    let whole = front ∙ sym c.is_complete.ensures ∙ c.if-is_complete.true in
    let settled : (e : Received) → Near (record (window_of pool w) { ended = true }) e → StandsFor new e = (
    subst (λ (v : RecvWindow). (e : Received) → Near (record (window_of pool v) { ended = true }) e → StandsFor new e)
    c.self.view_is c.settle.ensures.settled) in
    λ r s. (read_end (window_of pool w) new r (length c.args.to.now) c.copy_to-n.result c.copy_to-n.new.to
    c.requires.some
    c.if-n-gt0.false whole settled (c.copy_to-n.ensures.answered r s)).0

pub returns-then-is_complete-clause-stands : goal.returns-then-is_complete-clause-stands
returns-then-is_complete-clause-stands c =
    let w = c.copy_to-n.new.self in
    let pool = c.copy_to-n.new.pool in
    let new = window_of c.settle.new.pool c.settle.new.self in
    let front = ap (λ n. is_within w.last (w.used + n)) (leading_seen pool w.places) in
    let whole = front ∙ sym c.is_complete.ensures ∙ c.if-is_complete.true in
    let settled : (e : Received) → Near (record (window_of pool w) { ended = true }) e → StandsFor new e = (
    subst (λ (v : RecvWindow). (e : Received) → Near (record (window_of pool v) { ended = true }) e → StandsFor new e)
    c.self.view_is c.settle.ensures.settled) in
    λ r s. (read_end (window_of pool w) new r (length c.args.to.now) c.copy_to-n.result c.copy_to-n.new.to
    c.requires.some
    c.if-n-gt0.false whole settled (c.copy_to-n.ensures.answered r s)).1
