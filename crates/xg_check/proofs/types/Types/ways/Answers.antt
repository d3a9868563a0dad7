use Rattle.std.proofs.Common.{◌≡◌, ◌++◌, ℕ, List, Vec, map, take, ap, ◌∙◌, arith}
use Rattle.std.specs.declared.alloc.Global.{Global}
use Rattle.std.proofs.lemmas.List.{take_all, length-map}
use Rattle.xg_check.specs.Typed.{part_places}
use Rattle.xg_check.proofs.ListLaws.{image-more}
use Rattle.xg_check.proofs.WayLaws.{graph_made}
use Rattle.xg_check.proofs.types.Types.ways.Goals as goal

pub of-requires : goal.of-requires
of-requires c =
    let items = c.deref-part-items.result.now in
    let all : take c.loop-part.part-index (map (λ p. p.now) items) ≡ map (λ p. p.now) items =
    take_all c.loop-part.part-index (map (λ p. p.now) items)
    (omega (arith, c.loop-part-test.false, length-map items (λ p. p.now))) in
    let is : map (λ p. p.now) items ≡ c.args.self.now =
    ap (map (λ p. p.now)) c.deref-part-items.ensures.value ∙ c.self.view_is in
    graph_made c.args.self.now c.args.ways _
    (c.loop-part.invariant ∙ ap (map (part_places c.args.self.now c.args.ways)) (all ∙ is))

pub loop-part-preserved : goal.loop-part-preserved
loop-part-preserved c =
    let items : Vec ℕ Global → List ℕ = λ v. v.items in
    let one : c.add_part.new.next.items ≡ part_places c.args.self.now c.args.ways c.part-item.result.now =
    c.in_ok-add_part.ensures
    ∙ ap (λ (xs : List ℕ). xs ++ part_places c.args.self.now c.args.ways c.part-item.result.now)
    c.new-one.ensures.items in
    image-more items (part_places c.args.self.now c.args.ways) (λ p. p.now) c.loop-part.next.items c.push.new.self.items
    c.deref-part-items.result.now c.loop-part.part-index c.add_part.new.next c.part-item.result c.loop-part.invariant
    c.in_ok-push.ensures.items c.loop-part-test.true c.part-item.is one
