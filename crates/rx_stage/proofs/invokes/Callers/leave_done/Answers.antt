use Rattle.std.proofs.Common.{not, rules}
use Rattle.std.proofs.lemmas.Fn.{filter_same}
use Rattle.rx_stage.specs.Done.{is_done_at}
use Rattle.rx_stage.proofs.Done.{left_filter}
use Rattle.rx_stage.proofs.invokes.Callers.leave_done.Goals as goal

pub invariant_of-self : goal.invariant_of-self
invariant_of-self c =
    left_filter c.self.inside.all.items c.as_slice-all.result.now c.self.inside.at_work.items c.retain.new.self.items
    c.as_slice-all.ensures.value
    (filter_same _ (λ p. not (is_done_at c.as_slice-all.result.now p)) _ (λ x b f t. search rules) _ _
    c.retain.ensures.filtered)
    c.self.invariant
