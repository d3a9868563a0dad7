use Rattle.std.proofs.Common.{nat_lt, ◌∙◌, sym, ap, length}
use Rattle.rx_jumbo.specs.JoinerState.{JoinerState}
use Rattle.rx_jumbo.proofs.KeptLaws.{count_held}
use Rattle.rx_jumbo.proofs.joiner.Joiner.has_room.Goals as goal

pub returns : goal.returns
returns c =
    let held = sym (count_held c.self.invariant) ∙ ap (λ (h : JoinerState). length h.datagrams) c.self.view_is in
    λ i. nat_lt (held i) (c.self.view_is i).most
