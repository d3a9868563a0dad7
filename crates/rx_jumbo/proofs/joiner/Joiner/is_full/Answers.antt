use Rattle.std.proofs.Common.{◌==◌, ◌+◌, ◌∙◌, ap, sym, arith, take, ℕ}
use Rattle.std.proofs.lemmas.Bool.{le-ltb}
use Rattle.rx_jumbo.specs.JoinerState.{JoinerState, has_full_piece, last_datagram}
use Rattle.rx_jumbo.proofs.KeptLaws.{held_full, none_full}
use Rattle.rx_jumbo.proofs.joiner.Joiner.is_full.Goals as goal

pub returns-then-self-gt0 : goal.returns-then-self-gt0
returns-then-self-gt0 c =
    let j = c.self.inside in
    let place = ap (λ (p : ℕ). j.len == p + 1412) c.part_place.ensures in
    let held = ap (λ (h : JoinerState). has_full_piece (last_datagram h.datagrams)) c.self.view_is in
    place ∙ held_full c.self.invariant c.if-self-gt0.true ∙ held

pub returns-else-self-gt0 : goal.returns-else-self-gt0
returns-else-self-gt0 c =
    let j = c.self.inside in
    let none = none_full j.count (take j.len j.bytes.items) (omega (arith, c.if-self-gt0.false)) in
    let held = ap (λ (h : JoinerState). has_full_piece (last_datagram h.datagrams)) c.self.view_is in
    le-ltb 0 j.count c.if-self-gt0.false ∙ sym none ∙ held
