use Rattle.std.proofs.Common.{◌≡◌, ℕ, ℤ, List, Option, None, length, replicate, get_or, ap, sym, subst, ◌∙◌, arith}
use Rattle.std.proofs.lemmas.List.{length-map}
use Rattle.xg_check.specs.declared.constants.Constant.{Constant as CodeConstant}
use Rattle.xg_check.specs.Constants.{given_value}
use Rattle.xg_check.specs.Views.{given_of, constant_of, constants_of}
use Rattle.xg_check.specs.Held.{held_value, AreFound, AreBelow, AreBounded}
use Rattle.xg_check.proofs.FuelLaws.{none_found, all_found}
use Rattle.xg_check.proofs.ConstLaws.{none_large, large_more, bounded, along, node_small, found_next, constant_at}
use Rattle.xg_check.proofs.values.values.Goals as goal

pub loop-at-init : goal.loop-at-init
loop-at-init c =
    let cs = constants_of c.args.list.now in
    let is : c.in_ok-values.values.items ≡ replicate (length cs) None =
    c.in_ok-values.ensures ∙ ap (λ (n : ℕ). replicate n None) (sym (length-map c.args.list.now constant_of)) in
    record {
      found = subst (λ (vs : List (Option ℤ)). AreFound cs c.deref-at-items.result.now 0 vs) (sym is)
          (none_found cs c.deref-at-items.result.now);
      below = subst (λ (vs : List (Option ℤ)). AreBelow 0 vs) (sym is) (none_large 0 (length cs));
    }

pub offset_bounds-list-at : goal.offset_bounds-list-at
offset_bounds-list-at c =
    let cs = constants_of c.args.list.now in
    let lt = node_small cs c.args.order.now.nodes.items c.deref-at-items.result.now c.args.order.now.ended.items
    c.requires.order c.deref-at-items.ensures.value c.loop-at.at-index c.loop-at-test.true in
    omega (arith, lt, length-map c.args.list.now constant_of)

pub bounds-list-at : goal.bounds-list-at
bounds-list-at c =
    let cs = constants_of c.args.list.now in
    let lt = node_small cs c.args.order.now.nodes.items c.deref-at-items.result.now c.args.order.now.ended.items
    c.requires.order c.deref-at-items.ensures.value c.loop-at.at-index c.loop-at-test.true in
    omega (arith, lt, length-map c.args.list.now constant_of)

pub bounds-list-at-in-loop-at : goal.bounds-list-at-in-loop-at
bounds-list-at-in-loop-at c =
    let cs = constants_of c.args.list.now in
    let lt = node_small cs c.args.order.now.nodes.items c.deref-at-items.result.now c.args.order.now.ended.items
    c.requires.order c.deref-at-items.ensures.value c.loop-at.at-index c.loop-at-test.true in
    omega (arith, lt, length-map c.args.list.now constant_of)

pub value-value-requires : goal.value-value-requires
value-value-requires c =
    subst (λ (vs : List (Option ℤ)). AreBounded vs) (sym c.as_slice.ensures.value)
    (bounded c.loop-at.at-index c.loop-at.values.items (omega arith) c.loop-at.invariant.below)

pub index_mut-requires : goal.index_mut-requires
index_mut-requires c =
    let cs = constants_of c.args.list.now in
    let lt = node_small cs c.args.order.now.nodes.items c.deref-at-items.result.now c.args.order.now.ended.items
    c.requires.order c.deref-at-items.ensures.value c.loop-at.at-index c.loop-at-test.true in
    omega (arith, lt, c.loop-at.invariant.found.size, c.loop-at.values.ok.0)

pub loop-at-preserved : goal.loop-at-preserved
loop-at-preserved c =
    let cs = constants_of c.args.list.now in
    let items = c.deref-at-items.result.now in
    let k = c.loop-at.at-index in
    let d = c.index-list-at.result in
    let lt = node_small cs c.args.order.now.nodes.items items c.args.order.now.ended.items c.requires.order
    c.deref-at-items.ensures.value k c.loop-at-test.true in
    let at = constant_at c.args.list.now (get_or items k 0) d
    (omega (arith, lt, length-map c.args.list.now constant_of)) c.index-list-at.is in
    let vs = c.loop-at.values.items in
    record {
      found = found_next cs c.args.order.now.nodes.items items c.args.order.now.ended.items c.requires.order
          c.deref-at-items.ensures.value k (constant_of d) vs c.value-value.result c.loop-at-test.true at
          c.loop-at.invariant.found
          (rw c.as_slice.ensures.value at (c.value-value.ensures.value cs c.requires.names)
          ∙ ap (λ (x : CodeConstant). given_value (held_value vs) cs (get_or items k 0) (given_of x.given))
          (sym c.index-list-at.is));
      below = large_more k (get_or items k 0) vs c.value-value.result c.loop-at.invariant.below
          (omega (arith, lt, c.loop-at.invariant.found.size))
          (c.value-value.ensures.bound k
          (subst (λ (us : List (Option ℤ)). AreBelow k us) (sym c.as_slice.ensures.value) c.loop-at.invariant.below));
    }

pub returns-clause-values : goal.returns-clause-values
returns-clause-values c =
    let cs = constants_of c.args.list.now in
    let items = c.deref-at-items.result.now in
    all_found cs items c.args.order.now.ended.items c.loop-at.at-index c.loop-at.values.items
    (along cs c.args.order.now.nodes.items items c.args.order.now.ended.items c.requires.order
    c.deref-at-items.ensures.value) c.loop-at.invariant.found c.loop-at-test.false

pub returns-clause-bounded : goal.returns-clause-bounded
returns-clause-bounded c =
    bounded c.loop-at.at-index c.loop-at.values.items (omega arith) c.loop-at.invariant.below
