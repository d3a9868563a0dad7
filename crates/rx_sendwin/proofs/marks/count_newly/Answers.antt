use Rattle.std.proofs.Common.{◌≡◌, ◌+◌, ◌∙◌, sym, ap, arith}
use Rattle.rx_sendwin.specs.Marks.{is_acked_by, newly_by}
use Rattle.rx_sendwin.proofs.Counts.{newly_none, newly_cut}
use Rattle.rx_sendwin.proofs.marks.count_newly.Goals as goal

pub loop-i-init : goal.loop-i-init
loop-i-init c =
    let after = is_acked_by c.args.now_acked c.args.marks.now in
    record {
      most = omega arith;
      so_far = sym (newly_none after c.args.acked c.args.soft.now (c.args.acked + 0) (omega arith));
    }

pub returns : goal.returns
returns c =
    let before = is_acked_by c.args.acked c.args.soft.now in
    let after = is_acked_by c.args.now_acked c.args.marks.now in
    let upto = c.last_known-known.result in
    let ensured = c.last_known-known.ensures in
    let end : c.args.acked + c.loop-i.i ≡ upto = (
    omega (arith, c.loop-i-test.false, c.loop-i.auto.i-end, ensured.least, c.requires)) in
    c.loop-i.invariant.so_far ∙ ap (newly_by before after) end
    ∙ sym (newly_cut before after upto c.args.given ensured.most ensured.past)
