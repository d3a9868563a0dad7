use Rattle.std.proofs.Common.{◌==◌, ◌∙◌, sym, ap, length, ℕ}
use Rattle.rx_jumbo.specs.JoinerState.{JoinerState}
use Rattle.rx_jumbo.proofs.KeptLaws.{count_held}
use Rattle.rx_jumbo.proofs.joiner.Joiner.is_empty.Goals as goal

pub returns : goal.returns
returns c =
    let held = ap (λ (h : JoinerState). length h.datagrams) c.self.view_is in
    ap (λ (n : ℕ). n == 0) (sym (count_held c.self.invariant) ∙ held)
