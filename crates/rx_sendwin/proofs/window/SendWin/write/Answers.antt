use Rattle.std.proofs.Common.{◌≡◌, ◌+◌, ◌∙◌, arith, length, refl, subst}
use Rattle.rx_rules.specs.Sent.{opened}
use Rattle.rx_pool.proofs.Holding.{keeps_same, keeps_then}
use Rattle.rx_sendwin.specs.Window.{piece_slots}
use Rattle.rx_sendwin.proofs.WriteLaws.{write_start, write_next, one_more}
use Rattle.rx_sendwin.proofs.window.SendWin.write.Goals as goal

pub loop-at-init : goal.loop-at-init
loop-at-init c = record {
  within = omega arith;
  total = omega arith;
  stands = λ s st. write_start c.args.pool.now c.args.self.now s c.args.bytes.now st;
  keeps = keeps_same c.args.pool.now (piece_slots c.args.self.now) c.requires.holds;
  held = c.room-room.ensures.held;
  same = record { width = refl; shut = refl; acked = refl; given = refl };
}

pub append-requires-clause-free : goal.append-requires-clause-free
append-requires-clause-free c =
    let so = c.loop-at.invariant in
    let start = c.args.self.now in
    let before = c.args.pool.now in
    let slots = length (piece_slots c.loop-at.self) in
    let reached = start.total + c.loop-at.at in
    let held : start.acked + slots ≡ opened reached = (
    subst (λ n. n + slots ≡ opened reached) so.same.acked
    (subst (λ n. c.loop-at.self.acked + slots ≡ opened n) so.total so.held)) in
    λ full. one_more start.total c.loop-at.at c.room-room.result c.args.more (length before.free)
    (length c.loop-at.pool.free) (length (piece_slots start)) slots start.acked c.min-count.result c.requires.more
    so.keeps.count c.room-room.ensures.held held c.room-room.ensures.opens c.loop-at-test.true
    (omega (arith, c.min-count.ensures)) (omega (arith, so.total, full))

pub loop-at-preserved : goal.loop-at-preserved
loop-at-preserved c =
    let so = c.loop-at.invariant in
    let chunk = c.split_at-in-loop-at.result.0.now in
    let n : length chunk ≡ c.min-n.result = c.split_at-in-loop-at.ensures.front_len in
    let same = c.append.ensures.same in
    record {
      within = omega (arith, so.within, c.min-n.ensures, c.loop-at-test.true);
      total = omega (arith, so.total, c.append.ensures.total, n);
      stands = λ s st. write_next c.append.new.pool c.append.new.self s c.args.bytes.now c.split_at.result.1.now chunk
          c.loop-at.at c.min-n.result c.split_at.ensures.back c.split_at-in-loop-at.ensures.front
          (c.append.ensures.stands _ (so.stands s st));
      keeps =
          keeps_then c.args.pool.now c.loop-at.pool c.append.new.pool (piece_slots c.args.self.now)
          (piece_slots c.loop-at.self) (piece_slots c.append.new.self) so.keeps c.append.ensures.keeps;
      held = c.append.ensures.held;
      same = record {
        width = same.width ∙ so.same.width;
        shut = same.shut ∙ so.same.shut;
        acked = same.acked ∙ so.same.acked;
        given = same.given ∙ so.same.given;
      };
    }
