use Rattle.std.proofs.Common.{◌<◌, ◌∙◌, arith, length, length-append}
use Rattle.rx_pool.proofs.Holding.{keeps_then}
use Rattle.rx_recvwin.specs.Window.{window_of, packet_slots}
use Rattle.rx_recvwin.proofs.WholeReads.{some_next, some_end, some_all, rest_next}
use Rattle.rx_recvwin.proofs.window.RecvWin.copy_to.Goals as goal

pub returns-then-n-eq0-clause-answered : goal.returns-then-n-eq0-clause-answered
returns-then-n-eq0-clause-answered c =
    let split = c.split_at_mut-given.ensures in
    let given = c.split_at_mut-given.result.0.now in
    let at = c.loop-at.at in
    let so = c.loop-at.invariant.so_far in
    let more : at < length c.args.to.now = omega (arith, c.loop-at-test.true, c.loop-at.auto.to) in
    λ r s. some_end (window_of c.loop-at.pool c.loop-at.self)
    (window_of c.read_first-n.new.pool c.read_first-n.new.self) r
    (length c.args.to.now) at c.read_first-n.result c.loop-at.to given c.read_first-n.new.to more c.if-n-eq0.true
    split.front_len split.front (so r s) (c.read_first-n.ensures.answered _ (so r s).stands)

pub returns-clause-answered : goal.returns-clause-answered
returns-clause-answered c =
    let at = c.loop-at.at in
    let so = c.loop-at.invariant in
    let room = length c.args.to.now in
    λ r s. some_all (window_of c.loop-at.pool c.loop-at.self) r room at c.loop-at.to
    (omega (arith, c.loop-at-test.false, c.loop-at.auto.to)) (omega (arith, so.within, c.loop-at.auto.to))
    (so.so_far r s)

pub loop-at-preserved : goal.loop-at-preserved
loop-at-preserved c =
    let split = c.split_at_mut-given.ensures in
    let given = c.split_at_mut-given.result.0.now in
    let next = c.read_first-n in
    let at = c.loop-at.at in
    let so = c.loop-at.invariant in
    let size = length-append given next.new.to in
    record {
      within = omega (arith, split.front_len, split.back_len, next.ensures.within, so.within, size, next.auto.to);
      so_far =
          λ r s. some_next (window_of c.loop-at.pool c.loop-at.self) (window_of next.new.pool next.new.self) r at
          next.result
          c.loop-at.to given next.new.to split.front_len split.front (so.so_far r s)
          (next.ensures.answered _ (so.so_far r s).stands);
      keeps =
          keeps_then c.args.pool.now c.loop-at.pool next.new.pool (packet_slots c.args.self.now)
          (packet_slots c.loop-at.self) (packet_slots next.new.self) so.keeps next.ensures.keeps;
      width = next.ensures.width ∙ so.width;
      rest =
          rest_next c.args.to.now c.loop-at.to given c.split_at_mut-given.result.1.now next.new.to at next.result
          split.front_len split.back next.ensures.rest so.rest;
      none = λ e. absurd (omega (arith, e, c.if-n-eq0.false));
    }
