use Rattle.std.proofs.Common.{◌<◌, ◌∙◌, sym, arith}
use Rattle.rx_sendwin.specs.Marks.{is_acked_by}
use Rattle.rx_sendwin.proofs.Counts.{highest_none, highest_down, highest_here, new_highest_cut}
use Rattle.rx_sendwin.proofs.marks.highest_newly.Goals as goal

pub loop-seq-init : goal.loop-seq-init
loop-seq-init c =
    let before = is_acked_by c.args.acked c.args.soft.now in
    let after = is_acked_by c.args.now_acked c.args.marks.now in
    let upto = c.last_known-seq.result in
    let ensured = c.last_known-seq.ensures in
    record {
      least = omega (arith, ensured.least, c.requires);
      most = ensured.most;
      so_far = new_highest_cut before after upto c.args.given ensured.most ensured.past;
    }

pub loop-seq-preserved : goal.loop-seq-preserved
loop-seq-preserved c =
    let so = c.loop-seq.invariant in
    let before = is_acked_by c.args.acked c.args.soft.now in
    let after = is_acked_by c.args.now_acked c.args.marks.now in
    let some : 0 < c.loop-seq.seq = omega (arith, c.loop-seq-test.true) in
    record {
      least = omega (arith, c.loop-seq-test.true);
      most = omega (arith, so.most);
      so_far =
          so.so_far
          ∙ highest_down before after c.loop-seq.seq c.is_acked-before.result c.is_acked-after.result some
          c.is_acked-before.ensures c.is_acked-after.ensures (sym c.is_new.ensures ∙ c.if-is_new.false);
    }

pub returns-then-is_new-clause-value : goal.returns-then-is_new-clause-value
returns-then-is_new-clause-value c =
    let so = c.loop-seq.invariant in
    let before = is_acked_by c.args.acked c.args.soft.now in
    let after = is_acked_by c.args.now_acked c.args.marks.now in
    let some : 0 < c.loop-seq.seq = omega (arith, c.loop-seq-test.true) in
    sym (so.so_far
    ∙ highest_here before after c.loop-seq.seq c.is_acked-before.result c.is_acked-after.result some
    c.is_acked-before.ensures c.is_acked-after.ensures (sym c.is_new.ensures ∙ c.if-is_new.true))

pub returns-clause-value : goal.returns-clause-value
returns-clause-value c =
    let so = c.loop-seq.invariant in
    let after = is_acked_by c.args.now_acked c.args.marks.now in
    sym (so.so_far
    ∙ highest_none after c.args.acked c.args.soft.now c.loop-seq.seq (omega (arith, c.loop-seq-test.false)))
