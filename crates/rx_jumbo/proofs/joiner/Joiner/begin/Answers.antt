use Rattle.std.proofs.Common.{◌≡◌, ◌∙◌, arith, length, List, ℕ}
use Rattle.std.proofs.lemmas.List.{with_items_is}
use Rattle.rx_model.specs.Message.{IsBytes}
use Rattle.rx_jumbo.proofs.KeptLaws.{begun}
use Rattle.rx_jumbo.proofs.joiner.Joiner.begin.Goals as goal

pub invariant_of-self : goal.invariant_of-self
invariant_of-self c =
    let j = c.self.inside in
    let put = c.put-self-inside.ensures in
    let new : List ℕ = c.put-self-inside.new.to in
    let d : List ℕ = c.args.bytes.now in
    let fits : IsBytes d = λ i. omega (arith, c.type_inv.bytes i) in
    let same : length new ≡ j.bytes.len = c.put-self-inside.auto.to ∙ c.deref_mut.ensures.len in
    let size : length new ≡ 22712 = omega (arith, same, j.bytes.ok.0, c.self.invariant.size) in
    rw (with_items_is j.bytes new same)
    (begun j.most c.put-self-inside.result new d put.puts.front put.bytes size c.self.invariant.some
    c.self.invariant.few
    (omega (arith, put.puts.size, c.requires.size)) fits c.requires.single c.requires.size)
