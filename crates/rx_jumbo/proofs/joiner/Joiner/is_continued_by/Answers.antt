use Rattle.std.proofs.Common.{◌-◌, ◌∙◌, ap, sym, arith, take, List, ℕ}
use Rattle.std.proofs.lemmas.Bool.{le-ltb}
use Rattle.rx_jumbo.specs.JoinerState.{JoinerState, continues, last_datagram}
use Rattle.rx_jumbo.specs.Text.{goes_on}
use Rattle.rx_jumbo.proofs.KeptLaws.{held_continued, none_continues}
use Rattle.rx_jumbo.proofs.joiner.Joiner.is_continued_by.Goals as goal

pub goes_on-requires : goal.goes_on-requires
goes_on-requires c = omega (arith, c.self.invariant.few, c.self.invariant.counted)

pub returns-then-self-gt0 : goal.returns-then-self-gt0
returns-then-self-gt0 c =
    let j = c.self.inside in
    let d : List ℕ = c.args.bytes.now in
    let text = ap (λ (xs : List ℕ). goes_on (take j.len xs) (j.count - 1) d) c.deref.ensures.value in
    let held = ap (λ (h : JoinerState). continues (last_datagram h.datagrams) d) c.self.view_is in
    c.goes_on.ensures ∙ text ∙ held_continued d c.self.invariant c.if-self-gt0.true ∙ held

pub returns-else-self-gt0 : goal.returns-else-self-gt0
returns-else-self-gt0 c =
    let j = c.self.inside in
    let d : List ℕ = c.args.bytes.now in
    let none = none_continues j.count (take j.len j.bytes.items) d (omega (arith, c.if-self-gt0.false)) in
    let held = ap (λ (h : JoinerState). continues (last_datagram h.datagrams) d) c.self.view_is in
    le-ltb 0 j.count c.if-self-gt0.false ∙ sym none ∙ held
