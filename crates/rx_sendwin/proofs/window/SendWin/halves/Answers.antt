use Rattle.std.proofs.Common.{◌==◌, ◌≡◌, ◌&&◌, ◌-◌, ◌∙◌, ap, sym, subst, arith, true, false}
use Rattle.std.proofs.lemmas.Bool.Decides.{nat_tests}
use Rattle.rx_rules.specs.Lost.{is_once}
use Rattle.rx_rules.specs.Sent.{last_giving, lowest_of}
use Rattle.rx_sendwin.specs.Lost.{AreLost, order_in}
use Rattle.rx_sendwin.specs.Window.{SendWindow, IsTied}
use Rattle.rx_sendwin.proofs.LostLaws.{halves_first, halves_late}
use Rattle.rx_sendwin.proofs.LostStanding.{overtaken_of_is}
use Rattle.rx_sendwin.proofs.Lowest.{lowest_is}
use Rattle.rx_sendwin.proofs.window.SendWin.halves.Goals as goal

pub returns-then-seq-self : goal.returns-then-seq-self
returns-then-seq-self c =
    let w = c.args.self.now in
    let seq = c.args.seq in
    let low = c.self.inside.low in
    let flight = c.self.inside.flight in
    let tied = subst (λ (v : SendWindow). IsTied v low flight) c.self.view_is c.self.invariant.1 in
    let are = (
    subst (λ (v : SendWindow). AreLost v.acked v.given v.since v.soft (order_in v.pieces) c.self.inside.lost)
    c.self.view_is c.self.invariant.2) in
    let acked = ap (λ (v : SendWindow). v.acked) c.self.view_is in
    let above = c.requires.above in
    λ pool s st is. (
    let reached = lowest_is pool w s low flight st tied in
    let at : seq ≡ lowest_of s = omega (arith, reached, above, acked, c.if-seq-self.true) in
    let test : (seq == lowest_of s) ≡ true = grind (arith, nat_tests, at) in
    c.is_once.ensures pool s st
    ∙ sym (halves_first c.args.cw.now s seq c.in-Some.field-0 is
    (overtaken_of_is pool w s c.self.inside.lost st are ∙ c.in-Some.is)
    ∙ ap (λ b. b && is_once (last_giving s.givings seq)) test))

pub returns-else-seq-self : goal.returns-else-seq-self
returns-else-seq-self c =
    let w = c.args.self.now in
    let seq = c.args.seq in
    let low = c.self.inside.low in
    let flight = c.self.inside.flight in
    let tied = subst (λ (v : SendWindow). IsTied v low flight) c.self.view_is c.self.invariant.1 in
    let are = (
    subst (λ (v : SendWindow). AreLost v.acked v.given v.since v.soft (order_in v.pieces) c.self.inside.lost)
    c.self.view_is c.self.invariant.2) in
    let acked = ap (λ (v : SendWindow). v.acked) c.self.view_is in
    let above = c.requires.above in
    λ pool s st is. (
    let reached = lowest_is pool w s low flight st tied in
    let no : ((seq - c.self.inside.acked - 1) == low) ≡ false = grind (arith, nat_tests, c.if-seq-self.false) in
    let apart : seq ≡ lowest_of s → ⊥ = (
    λ at. c.if-seq-self.false (omega (arith, reached, above, acked, at))) in
    let test : (seq == lowest_of s) ≡ false = grind (arith, nat_tests, apart) in
    no ∙ sym (halves_first c.args.cw.now s seq c.in-Some.field-0 is
    (overtaken_of_is pool w s c.self.inside.lost st are ∙ c.in-Some.is)
    ∙ ap (λ b. b && is_once (last_giving s.givings seq)) test))

pub returns-in-None : goal.returns-in-None
returns-in-None c =
    let w = c.args.self.now in
    let are = (
    subst (λ (v : SendWindow). AreLost v.acked v.given v.since v.soft (order_in v.pieces) c.self.inside.lost)
    c.self.view_is c.self.invariant.2) in
    λ pool s st is. sym (halves_late c.args.cw.now s c.args.seq
    (overtaken_of_is pool w s c.self.inside.lost st are ∙ c.in-None.is))
