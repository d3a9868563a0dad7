use Rattle.std.proofs.Common.{◌∙◌, ap, sym, subst, arith, suc}
use Rattle.rx_sendwin.specs.Pieces.{as_giving, IsTimed}
use Rattle.rx_sendwin.proofs.PieceLaws.{timed_at}
use Rattle.rx_sendwin.proofs.Standing.{given_within}
use Rattle.rx_sendwin.proofs.GivenLaws.{giving_read}
use Rattle.rx_sendwin.proofs.Lowest.{again_is, lowest_is, low_within, past_given, low_held}
use Rattle.rx_sendwin.proofs.window.SendWin.lowest.Goals as goal

pub overflow_add-before : goal.overflow_add-before
overflow_add-before c =
    let within = low_within _ c.self.inside.low c.self.inside.flight c.self.invariant.1 in
    let given = given_within _ c.self.inside.low c.self.inside.flight c.self.invariant.1 in
    omega (arith, within, given)

pub returns-then-before-self-clause-none : goal.returns-then-before-self-clause-none
returns-then-before-self-clause-none c =
    rw (← c.self.view_is) (λ pool s st e. past_given pool _ s c.self.inside.low c.self.inside.flight st
    c.self.invariant.1 c.if-before-self.true)

pub returns-in-Some-clause-timed : goal.returns-in-Some-clause-timed
returns-in-Some-clause-timed c =
    let hs = c.self.inside.pieces.items in
    let low = c.self.inside.low in
    let less = low_held _ low c.self.inside.flight c.self.invariant.1 c.if-before-self.false in
    subst IsTimed c.in-Some.is (timed_at hs low c.index.result.now c.index.ensures less c.self.invariant.1.timed)

pub returns-in-Some-clause-seq : goal.returns-in-Some-clause-seq
returns-in-Some-clause-seq c =
    let low = c.self.inside.low in
    let flight = c.self.inside.flight in
    rw (← c.self.view_is) (λ pool s st.
    omega arith ∙ ap (λ n. suc n) (sym (lowest_is pool _ s low flight st c.self.invariant.1)))

pub returns-in-Some-clause-some : goal.returns-in-Some-clause-some
returns-in-Some-clause-some c =
    let hs = c.self.inside.pieces.items in
    let low = c.self.inside.low in
    let flight = c.self.inside.flight in
    let less = low_held _ low flight c.self.invariant.1 c.if-before-self.false in
    let read = giving_read hs low c.index.result.now c.index.ensures less in
    rw (← c.self.view_is) (λ pool s st.
    sym (again_is pool _ s low flight st c.self.invariant.1) ∙ read ∙ ap as_giving c.in-Some.is)

pub returns-in-None-clause-none : goal.returns-in-None-clause-none
returns-in-None-clause-none c =
    let hs = c.self.inside.pieces.items in
    let low = c.self.inside.low in
    let flight = c.self.inside.flight in
    let less = low_held _ low flight c.self.invariant.1 c.if-before-self.false in
    let read = giving_read hs low c.index.result.now c.index.ensures less in
    rw (← c.self.view_is) (λ pool s st e.
    sym (again_is pool _ s low flight st c.self.invariant.1) ∙ read ∙ ap as_giving c.in-None.is)
