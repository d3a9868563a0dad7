use Rattle.std.proofs.Common.{◌≡◌, ◌+◌, ◌-◌, ℕ, arith, ap, sym, ◌∙◌}
use Rattle.rx_due.specs.Heap.{place_of}
use Rattle.rx_due.proofs.heap.Heap.place_of.Goals as goal

pub overflow_cast-result : goal.overflow_cast-result
overflow_cast-result g c =
    let is : place_of c.args.self.now c.args.key ≡ (c.at-place.result.0 - 1) + 1 =
    sym (ap (λ (p : ℕ × ℕ). p.0) c.at-place.ensures.entry) ∙ omega (arith, c.if-place.false) in
    omega (
      arith,
      c.requires.heap.tied.leads_within c.args.key (c.at-place.result.0 - 1) is,
      c.requires.heap.sized.room,
      c.requires.heap.sized.limit,
    )
