use Rattle.std.proofs.Common.{◌≡◌, ◌<◌, ◌+◌, ◌-◌, ◌∙◌, is_some, ap, subst, set, sym, arith, rules, length, suc, refl}
use Rattle.rx_sendwin.specs.declared.lost.Lost.{Lost}
use Rattle.rx_sendwin.specs.declared.piece.HeldPiece.{HeldPiece}
use Rattle.rx_sendwin.specs.Marks.{is_acked_by, flight_by}
use Rattle.rx_rules.specs.Sent.{count_to}
use Rattle.rx_sendwin.specs.Lost.{AreLost, order_in, is_under_way_by}
use Rattle.rx_sendwin.specs.Window.{piece_slots}
use Rattle.rx_sendwin.proofs.Counts.{flight_most, count_most}
use Rattle.rx_sendwin.proofs.LostGiven.{lost_next, order_other, order_own}
use Rattle.rx_sendwin.proofs.Acks.{flight_next}
use Rattle.rx_sendwin.proofs.PieceLaws.{same_at, slots_set}
use Rattle.rx_sendwin.proofs.Standing.{given_within}
use Rattle.rx_sendwin.proofs.GivenLaws.{given_now, sent_stands, sent_tied}
use Rattle.rx_sendwin.proofs.window.SendWin.sent.Goals as goal

pub overflow_add-self : goal.overflow_add-self
overflow_add-self c =
    let known = is_acked_by c.self.inside.acked c.self.inside.soft.items in
    let most = flight_most known c.self.inside.given in
    let is : c.self.inside.flight ≡ flight_by known c.self.inside.given = c.self.invariant.1.in_flight in
    let given = given_within _ c.self.inside.low c.self.inside.flight c.self.invariant.1 in
    omega (arith, most, is, given)

pub overflow_add-self-then-self-seq : goal.overflow_add-self-then-self-seq
overflow_add-self-then-self-seq c =
    let way = is_under_way_by c.self.inside.acked c.self.inside.soft.items (order_in c.self.inside.pieces.items)
    c.self.inside.since in
    let most = count_most way c.self.inside.given in
    let is : c.self.inside.lost.under_way ≡ count_to way c.self.inside.given = c.self.invariant.2.under_way in
    let given = given_within _ c.self.inside.low c.self.inside.flight c.self.invariant.1 in
    omega (arith, most, is, given)

pub invariant_of-self : goal.invariant_of-self
invariant_of-self c =
    let may = (rw (← c.self.view_is) at c.requires.piece) in
    let above = may.above in
    let held = may.held in
    let before = may.before in
    let place = c.args.seq - c.self.inside.acked - 1 in
    let less : place < length c.self.inside.pieces.items = omega (arith, above, held) in
    let h = c.index_mut.result.now in
    let g = given_now h c.args.now c.is_some-again.result (c.self.inside.orders + 1) in
    let tied = c.self.invariant.1 in
    let acked = c.self.inside.acked in
    let soft = c.self.inside.soft.items in
    let next : c.args.seq ≡ suc c.self.inside.given = omega (arith, before, c.if-self-seq.true) in
    let flight : c.self.inside.flight + 1 ≡ flight_by (is_acked_by acked soft) c.args.seq = (
    omega arith ∙ ap suc tied.in_flight ∙ sym (flight_next acked c.self.inside.given soft tied.acked_most
    tied.quiet)
    ∙ ap (flight_by (is_acked_by acked soft)) (sym next)) in
    let hs = c.self.inside.pieces.items in
    let least = tied.acked_most in
    let at : c.self.inside.given - acked ≡ place = omega (arith, next, least) in
    let own : order_in (set hs place g) (c.self.inside.given - acked) ≡ c.self.inside.orders + 1 = (
    ap (order_in (set hs place g)) at ∙ order_own hs place g less) in
    let lost = c.self.inside.lost in
    let more : Lost = record lost { under_way = lost.under_way + 1 } in
    let since = tied.since in (
      search rules,
      sent_tied _ c.self.inside.low c.self.inside.flight place c.args.seq (c.self.inside.flight + 1)
          c.min-self-inside.result h g tied c.index_mut.ensures.value less refl c.requires.now (omega (arith, next))
          may.counts flight c.min-self-inside.ensures,
      subst (λ n. AreLost acked n c.self.inside.since soft (order_in (set hs place g)) more) (sym next)
          (lost_next acked c.self.inside.given c.self.inside.since soft (order_in hs) (order_in (set hs place g))
          lost more least (tied.quiet (c.self.inside.given - acked) (omega (arith, least)))
          (λ i apart. order_other hs place g i (λ e. apart (e ∙ sym at))) (omega (arith, own, since))
          c.self.invariant.2 refl),
    )

pub invariant_of-self-else-self-seq : goal.invariant_of-self-else-self-seq
invariant_of-self-else-self-seq c =
    let may = (rw (← c.self.view_is) at c.requires.piece) in
    let above = may.above in
    let held = may.held in
    let place = c.args.seq - c.self.inside.acked - 1 in
    let less : place < length c.self.inside.pieces.items = omega (arith, above, held) in
    let h = c.index_mut.result.now in
    let g = given_now h c.args.now c.is_some-again.result (c.self.inside.orders + 1) in
    let tied = c.self.invariant.1 in (
      search rules,
      sent_tied _ c.self.inside.low c.self.inside.flight place c.self.inside.given c.self.inside.flight
          c.min-self-inside.result h g tied c.index_mut.ensures.value less refl c.requires.now (omega arith)
          tied.given_most tied.in_flight c.min-self-inside.ensures,
      subst (λ soft. AreLost c.self.inside.acked c.self.inside.given c.self.inside.since soft
          (order_in (set c.self.inside.pieces.items place g)) c.lost_among-self-inside.result) c.as_slice.ensures.value
          c.lost_among-self-inside.ensures,
    )

pub returns-then-self-seq-clause-stands : goal.returns-then-self-seq-clause-stands
returns-then-self-seq-clause-stands c =
    let hs = c.self.inside.pieces.items in
    let may = (rw (← c.self.view_is) at c.requires.piece) in
    let above = may.above in
    let held = may.held in
    let place = c.args.seq - c.self.inside.acked - 1 in
    let less : place < length hs = omega (arith, above, held) in
    let h = c.index_mut.result.now in
    let same = same_at hs place c.index.result.now h c.index.ensures c.index_mut.ensures.value less in
    let again : c.is_some-again.result ≡ is_some h.given = (
    c.is_some-again.ensures ∙ ap (λ (x : HeldPiece). is_some x.given) same) in
    rw (← c.self.view_is) (λ pool s st. sent_stands pool _ s c.args.seq c.args.now place c.args.seq
    c.is_some-again.result h st above refl less c.index_mut.ensures.value again (omega (arith, c.if-self-seq.true))
    c.min-self-inside.result c.min-self-inside.ensures)

pub returns-else-self-seq-clause-stands : goal.returns-else-self-seq-clause-stands
returns-else-self-seq-clause-stands c =
    let hs = c.self.inside.pieces.items in
    let may = (rw (← c.self.view_is) at c.requires.piece) in
    let above = may.above in
    let held = may.held in
    let place = c.args.seq - c.self.inside.acked - 1 in
    let less : place < length hs = omega (arith, above, held) in
    let h = c.index_mut.result.now in
    let same = same_at hs place c.index.result.now h c.index.ensures c.index_mut.ensures.value less in
    let again : c.is_some-again.result ≡ is_some h.given = (
    c.is_some-again.ensures ∙ ap (λ (x : HeldPiece). is_some x.given) same) in
    rw (← c.self.view_is) (λ pool s st. sent_stands pool _ s c.args.seq c.args.now place c.self.inside.given
    c.is_some-again.result h st above refl less c.index_mut.ensures.value again (omega (arith, c.if-self-seq.false))
    c.min-self-inside.result c.min-self-inside.ensures)

pub returns-then-self-seq-clause-slots : goal.returns-then-self-seq-clause-slots
returns-then-self-seq-clause-slots c =
    let hs = c.self.inside.pieces.items in
    let may = (rw (← c.self.view_is) at c.requires.piece) in
    let above = may.above in
    let held = may.held in
    let place = c.args.seq - c.self.inside.acked - 1 in
    let less : place < length hs = omega (arith, above, held) in
    let h = c.index_mut.result.now in
    let g = given_now h c.args.now c.is_some-again.result (c.self.inside.orders + 1) in
    slots_set hs place h g c.index_mut.ensures.value less refl ∙ ap piece_slots c.self.view_is

pub returns-else-self-seq-clause-slots : goal.returns-else-self-seq-clause-slots
returns-else-self-seq-clause-slots c =
    let hs = c.self.inside.pieces.items in
    let may = (rw (← c.self.view_is) at c.requires.piece) in
    let above = may.above in
    let held = may.held in
    let place = c.args.seq - c.self.inside.acked - 1 in
    let less : place < length hs = omega (arith, above, held) in
    let h = c.index_mut.result.now in
    let g = given_now h c.args.now c.is_some-again.result (c.self.inside.orders + 1) in
    slots_set hs place h g c.index_mut.ensures.value less refl ∙ ap piece_slots c.self.view_is
