use Rattle.std.proofs.Common.{◌≡◌, false, replicate}
use Rattle.xg_check.proofs.RinglessLaws.{ended_ringless, begun_ringless}
use Rattle.xg_check.proofs.ringless.ringless.Goals as goal

pub returns-then-len : goal.returns-then-len
returns-then-len c =
    let fresh : c.in_ok-marks.marks.items ≡ replicate c.len.result false =
    c.in_ok-marks.ensures.items_if_clones_equal (λ y e. e) in
    ended_ringless c.args.graph.now c.args.order.now.nodes.items c.args.order.now.ended.items c.as_slice.result.now
    c.in_ok-marks.marks.items c.add_marks.new.marks.items c.len.result c.requires c.as_slice.ensures.value fresh
    c.len.ensures c.add_marks.ensures.size c.add_marks.ensures.marked

pub returns : goal.returns
returns c =
    let fresh : c.in_ok-marks.marks.items ≡ replicate c.len.result false =
    c.in_ok-marks.ensures.items_if_clones_equal (λ y e. e) in
    begun_ringless c.args.graph.now c.in_ok-reversed.field-0 c.in_ok-back.back.nodes.items
    c.in_ok-back.back.ended.items c.as_slice-2.result.now c.add_marks.new.marks.items c.add_marks-2.new.marks.items
    c.in_ok-reversed.ensures c.in_ok-back.ensures c.as_slice-2.ensures.value
    (ended_ringless c.args.graph.now c.args.order.now.nodes.items c.args.order.now.ended.items c.as_slice.result.now
    c.in_ok-marks.marks.items c.add_marks.new.marks.items c.len.result c.requires c.as_slice.ensures.value fresh
    c.len.ensures c.add_marks.ensures.size c.add_marks.ensures.marked)
    c.add_marks-2.ensures.size c.add_marks-2.ensures.marked
