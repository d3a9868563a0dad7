use Rattle.std.proofs.Common.{◌∙◌, ◌≡◌, ap, rules, replicate, None, deque_len}
use Rattle.rx_recvwin.proofs.EmptyLaws.{tied_empty, empty_stands, slots_none}
use Rattle.rx_recvwin.specs.Places.{slots_in}
use Rattle.rx_recvwin.proofs.window.RecvWin.drop_all.Goals as goal

pub invariant_of-self : goal.invariant_of-self
invariant_of-self c =
    let width = c.self.inside.width in
    let items : c.free_all.new.places.items ≡ replicate width None = (
    c.free_all.ensures.freed ∙ ap (λ n. replicate n None) c.self.invariant.0) in (
      c.free_all.ensures.len ∙ c.self.invariant.0,
      search rules,
      tied_empty width c.free_all.new.places.items items
          c.self.invariant.2.least c.self.invariant.2.most,
    )

pub returns-clause-empty : goal.returns-clause-empty
returns-clause-empty c =
    let width = c.self.inside.width in
    let items : c.free_all.new.places.items ≡ replicate width None = (
    c.free_all.ensures.freed ∙ ap (λ n. replicate n None) c.self.invariant.0) in
    λ pool. empty_stands pool width c.free_all.new.places.items items c.self.invariant.2.least

pub returns-clause-slots : goal.returns-clause-slots
returns-clause-slots c = ap slots_in c.free_all.ensures.freed ∙ slots_none (deque_len c.self.inside.places)
