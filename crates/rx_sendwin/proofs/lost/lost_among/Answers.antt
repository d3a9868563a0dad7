use Rattle.std.proofs.Common.{◌≡◌, ◌<◌, ◌≤◌, ◌+◌, ◌-◌, ◌∙◌, ap, sym, arith, refl, get_or, suc, false}
use Rattle.std.proofs.Common.{length, ℕ, cond, nat_lt, nat_le, Some}
use Rattle.rx_rules.specs.Lost.{order_by}
use Rattle.rx_sendwin.specs.Lost.{order_in, Counts}
use Rattle.rx_sendwin.proofs.GivenLaws.{giving_read}
use Rattle.rx_sendwin.proofs.Losing.{looks_none, looks_same, looks_marked, looks_unmarked, looks_all}
use Rattle.rx_sendwin.proofs.lost.lost_among.Goals as goal
use Rattle.rx_sendwin.proofs.lost.lost_among.Goals.{then-mark_at, else-mark_at}

pub loop-seq-init : goal.loop-seq-init
loop-seq-init c =
    looks_none c.args.acked c.args.given c.args.since c.args.soft.now (order_in c.args.pieces.now.items) _ _
    c.requires.acked c.none-lost.ensures refl refl refl

pub loop-seq-preserved : goal.loop-seq-preserved
loop-seq-preserved c =
    let acked = c.args.acked in
    let given = c.args.given in
    let since = c.args.since in
    let soft = c.args.soft.now in
    let hs = c.args.pieces.now.items in
    let k = c.loop-seq.seq in
    let place = k - acked - 1 in
    let so = c.loop-seq.invariant in
    let most = so.most in
    let held = c.requires.held in
    let here : place ≡ k - suc acked = omega arith in
    let less : place < length hs = omega (arith, c.loop-seq-test.true, most, held, c.args.pieces.now.ok.0) in
    let order : c.order-order.result ≡ order_in hs (k - suc acked) = (
    c.order-order.ensures ∙ sym (ap order_by (giving_read hs place c.index.result.now c.index.ensures less))
    ∙ ap (order_in hs) here) in
    let mark : c.mark_at.result ≡ get_or soft (k - suc acked) false = (
    c.mark_at.ensures ∙ ap (λ i. get_or soft i false) here) in
    elim c.if-mark_at.branch [
      | then-mark_at w ↦ (
          let above : (o n : ℕ) → Counts c.loop-seq.latest o n → o < order_in hs (k - suc acked) →
          Counts w.with-latest.result o (suc n) = (
          λ o n count lt. w.with-latest.ensures.above o n count (omega (arith, lt, order))) in
          let below : (o n : ℕ) → Counts c.loop-seq.latest o n → order_in hs (k - suc acked) ≤ o →
          Counts w.with-latest.result o n = (
          λ o n count le. w.with-latest.ensures.below o n count (omega (arith, le, order))) in
          looks_same acked given since soft (order_in hs) (k - 1) c.loop-seq.lost c.if-mark_at.lost w.with-latest.result
          c.if-mark_at.latest w.lost-is w.latest-is
          (looks_marked acked given since soft (order_in hs) k c.loop-seq.lost c.loop-seq.latest w.with-latest.result so
          c.loop-seq-test.true (sym mark ∙ w.if-mark_at.true) above below))
      | else-mark_at w ↦ (
          let before = c.loop-seq.lost in
          let third = c.loop-seq.latest.third in
          let told = w.with-lost.ensures in
          looks_same acked given since soft (order_in hs) (k - 1) w.with-lost.result c.if-mark_at.lost c.loop-seq.latest
          c.if-mark_at.latest w.lost-is w.latest-is
          (looks_unmarked acked given since soft (order_in hs) k before w.with-lost.result c.loop-seq.latest so
          c.loop-seq-test.true (sym mark ∙ w.if-mark_at.false)
          (told.overtaken ∙ ap (λ o. cond (nat_lt o third) (Some k) before.overtaken) order)
          (told.late ∙ ap (λ o. cond (nat_le o since) (Some k) before.late) order)
          (told.under_way ∙ ap (λ o. cond (nat_le o since) before.under_way (before.under_way + 1)) order)))
    ]

pub returns : goal.returns
returns c =
    looks_all c.args.acked c.args.given c.args.since c.args.soft.now (order_in c.args.pieces.now.items) c.loop-seq.seq
    c.loop-seq.lost c.loop-seq.latest c.loop-seq.invariant c.loop-seq-test.false
