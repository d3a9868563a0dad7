use Rattle.std.proofs.Common.{◌+◌, ◌<◌, ℕ, suc, sym, ◌≡◌, ◌∙◌, ◌-◌, ◌≤◌, ap, subst, arith, rules}
use Rattle.std.proofs.Common.{length, drop, min, List, Bool}
use Rattle.std.proofs.lemmas.Bool.Decides.{nat_tests}
use Rattle.std.proofs.lemmas.List.{length-drop, length-take-le}
use Rattle.rx_sendwin.specs.Lost.{AreLost, order_in}
use Rattle.rx_sendwin.specs.Marks.{leading_marks, is_acked_by, flight_by}
use Rattle.rx_sendwin.specs.Pieces.{slots_in}
use Rattle.rx_sendwin.specs.Window.{SendWindow, piece_slots}
use Rattle.rx_sendwin.proofs.Counts.{known_alike}
use Rattle.rx_sendwin.proofs.LostPlain.{all_later, order_dropped}
use Rattle.rx_sendwin.proofs.Acks.{leading_most, makes_sense}
use Rattle.rx_sendwin.proofs.PieceLaws.{slots_drop, last_drop}
use Rattle.rx_sendwin.proofs.Acknowledging.{stale_newly, fresh_newly, ack_stands, ack_tied, marks_alike}
use Rattle.rx_sendwin.proofs.window.SendWin.on_ack.Goals as goal
use Rattle.rx_sendwin.proofs.window.SendWin.on_ack.Goals.{then-plain, else-plain}

pub returns-then-first-self-clause-newly : goal.returns-then-first-self-clause-newly
returns-then-first-self-clause-newly c =
    rw (← c.self.view_is) (λ s st. stale_newly s c.args.now c.args.first c.args.marks.now
    (let acked = st.acked in omega (arith, acked, c.if-first-self.true)))

pub overflow_cast-self : goal.overflow_cast-self
overflow_cast-self c =
    let marks = c.args.marks.now in
    let soft = c.set_marks.new.soft.items in
    let few = ap length c.set_marks.ensures ∙ length-take-le (min (length marks) 255) marks (omega arith) in
    let most = leading_most soft in
    let is : c.leading.result ≡ leading_marks soft = c.leading.ensures ∙ ap leading_marks c.as_slice.ensures.value in
    omega (arith, most, is, few)

pub lost_behind-self-inside-requires-clause-flight : goal.lost_behind-self-inside-requires-clause-flight
lost_behind-self-inside-requires-clause-flight c =
    let valid = (rw (← c.self.view_is) at c.requires.valid) in
    let acked = c.args.first - 1 in
    let given = c.self.inside.given in
    let soft = c.set_marks.new.soft.items in
    let alike = (
    marks_alike _ c.self.inside.low c.self.inside.flight c.args.first c.args.marks.now soft c.self.invariant.1 valid
    c.if-first-self.false c.set_marks.ensures) in
    let flight : c.count_in_flight-self-inside.result ≡ flight_by (is_acked_by acked c.as_slice-2.result.now) given = (
    c.count_in_flight-self-inside.ensures.value
    ∙ ap (λ (known : ℕ → Bool). flight_by known given) (sym (known_alike acked soft c.args.marks.now alike))
    ∙ ap (λ (ms : List Bool). flight_by (is_acked_by acked ms) given) (sym c.as_slice-2.ensures.value)) in
    λ yes. elim c.if-plain.branch [
      | then-plain w ↦ (
          let all : c.count_in_flight-self-inside.result ≡ given - acked =
          grind (arith, nat_tests, sym w.lost_behind-is ∙ yes) in
          sym flight ∙ all)
      | else-plain w ↦ absurd (w.if-plain.false (grind (arith, nat_tests, sym w.lost_behind-is ∙ yes)))
    ]

pub lost_behind-self-inside-requires-clause-later : goal.lost_behind-self-inside-requires-clause-later
lost_behind-self-inside-requires-clause-later c =
    let w = c.self.inside in
    let hs = w.pieces.items in
    let acked = c.args.first - 1 in
    let n = acked - w.acked in
    λ yes k more upto. elim c.if-plain.branch [
      | then-plain t ↦ (
          let later : w.since < order_in hs (k - suc w.acked) = (
          all_later w.acked w.given w.since w.soft.items (order_in hs) w.lost c.self.invariant.1.acked_most
          c.self.invariant.2 t.if-plain.true k (omega (arith, more, c.if-first-self.false)) upto) in
          let at : n + (k - suc acked) ≡ k - suc w.acked = omega (arith, more, c.if-first-self.false) in
          let same : order_in c.free_front.new.pieces.items (k - suc acked) ≡ order_in hs (k - suc w.acked) = (
          ap (λ ps. order_in ps (k - suc acked)) c.free_front.ensures.rest ∙ order_dropped hs n (k - suc acked)
          ∙ ap (order_in hs) at) in
          omega (arith, later, same))
      | else-plain t ↦ absurd (t.if-plain.false (grind (arith, nat_tests, sym t.lost_behind-is ∙ yes)))
    ]

pub invariant_of-self : goal.invariant_of-self
invariant_of-self c =
    let valid = (rw (← c.self.view_is) at c.requires.valid) in
    let hs = c.self.inside.pieces.items in
    let n = c.args.first - 1 - c.self.inside.acked in
    let soft = c.set_marks.new.soft.items in
    let low : c.leading.result ≡ leading_marks soft = c.leading.ensures ∙ ap leading_marks c.as_slice.ensures.value in (
      search rules,
      ack_tied _ c.self.inside.low c.self.inside.flight c.args.first c.args.marks.now soft c.free_front.new.pieces.items
          c.leading.result c.count_in_flight-self-inside.result c.peer_window-self-inside.result c.self.invariant.1
          valid
          c.if-first-self.false c.free_front.ensures.rest c.set_marks.ensures low
          c.count_in_flight-self-inside.ensures.value c.peer_window-self-inside.ensures.most
          (λ lt. last_drop n hs (omega (arith, length-drop n hs, lt))),
      subst (λ (ms : List Bool). AreLost (c.args.first - 1) c.self.inside.given c.self.inside.since ms
          (order_in c.free_front.new.pieces.items) c.lost_behind-self-inside.result) c.as_slice-2.ensures.value
          c.lost_behind-self-inside.ensures,
    )

pub returns-clause-newly : goal.returns-clause-newly
returns-clause-newly c =
    let w = c.args.self.now in
    let n = c.newly-newly in
    let some = (makes_sense w.given c.args.first c.args.marks.now c.requires.valid).some in
    let le : w.acked ≤ c.args.first - 1 = (
    subst (λ (w : SendWindow). w.acked ≤ c.args.first - 1) c.self.view_is c.if-first-self.false) in
    λ s st. fresh_newly c.args.pool.now w s c.args.now c.args.first n.result.count c.args.marks.now n.result.sample st
    some
    le n.ensures.count (n.ensures.sample c.args.pool.now s st)

pub returns-clause-stands : goal.returns-clause-stands
returns-clause-stands c =
    let some = (makes_sense c.args.self.now.given c.args.first c.args.marks.now c.requires.valid).some in
    let valid = (rw (← c.self.view_is) at c.requires.valid) in
    let soft = c.set_marks.new.soft.items in
    let alike = (
    marks_alike _ c.self.inside.low c.self.inside.flight c.args.first c.args.marks.now soft c.self.invariant.1 valid
    c.if-first-self.false c.set_marks.ensures) in
    rw (← c.self.view_is) (λ s st. ack_stands c.args.pool.now c.free_front.new.pool _ s c.args.first
    c.peer_window-self-inside.result c.args.marks.now soft c.args.window c.free_front.new.pieces.items st some
    c.if-first-self.false c.free_front.ensures.bytes c.free_front.ensures.rest alike
    c.peer_window-self-inside.ensures.value)

pub returns-clause-slots : goal.returns-clause-slots
returns-clause-slots c =
    ap slots_in c.free_front.ensures.rest
    ∙ slots_drop (c.args.first - 1 - c.self.inside.acked) c.self.inside.pieces.items
    ∙ ap (λ (w : SendWindow). drop (c.args.first - 1 - w.acked) (piece_slots w)) c.self.view_is
