use Rattle.std.proofs.Common.{◌+◌, ℕ, List, Vec, take, ap, sym, ◌∙◌, arith}
use Rattle.std.specs.declared.alloc.Global.{Global}
use Rattle.std.proofs.lemmas.List.{take_all, length-map}
use Rattle.xg_check.specs.declared.constants.Constant.{Constant as CodeConstant}
use Rattle.xg_check.specs.Constants.{one_or_none, given_source, ways_from}
use Rattle.xg_check.specs.Views.{given_of, constant_of, constants_of}
use Rattle.xg_check.proofs.ListLaws.{push_step}
use Rattle.xg_check.proofs.ConstLaws.{ways_at, graph_made, constant_at}
use Rattle.xg_check.proofs.values.ways.Goals as goal

pub loop-at-preserved : goal.loop-at-preserved
loop-at-preserved c =
    let items : Vec ℕ Global → List ℕ = λ v. v.items in
    let cs = constants_of c.args.list.now in
    let i = c.loop-at.at in
    let d = c.index-list-at.result in
    let at = constant_at c.args.list.now i d (omega arith) c.index-list-at.is in
    push_step items c.push.new.self.items c.loop-at.next.items c.in_ok-one.one (ways_from cs 0 (take i cs))
    (ways_from cs 0 (take (i + 1) cs)) (one_or_none (given_source cs i (given_of d.given)))
    c.in_ok-push.ensures.items c.loop-at.invariant (ways_at cs cs i (constant_of d) at)
    (c.in_ok-one.ensures ∙ ap one_or_none (c.source.ensures cs c.requires)
    ∙ ap (λ (x : CodeConstant). one_or_none (given_source cs i (given_of x.given))) (sym c.index-list-at.is))

pub of-requires : goal.of-requires
of-requires c =
    let cs = constants_of c.args.list.now in
    graph_made cs _ (c.loop-at.invariant ∙ ap (ways_from cs 0)
    (take_all c.loop-at.at cs (omega (arith, c.loop-at-test.false, length-map c.args.list.now constant_of))))

pub returns : goal.returns
returns c =
    let cs = constants_of c.args.list.now in
    c.of.ensures ∙ c.loop-at.invariant ∙ ap (ways_from cs 0)
    (take_all c.loop-at.at cs (omega (arith, c.loop-at-test.false, length-map c.args.list.now constant_of)))
