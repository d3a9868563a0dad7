use Rattle.std.proofs.Common.{ℕ, List, [], sym, ap, ◌∙◌, slice_get}
use Rattle.xg_parse.specs.declared.tree.Item.{Item}
use Rattle.xg_check.proofs.CountLaws.{proc_names, names_of_opcodes, name_none, name_later, name_here, name_nowhere}
use Rattle.xg_check.proofs.procs.proc_name.Goals as goal
use Rattle.xg_check.proofs.procs.proc_name.Goals.{in-None, in-Some+else-left-eq0}

pub loop-item-preserved : goal.loop-item-preserved
loop-item-preserved c =
    let items = c.as_slice-item-items.result.now in
    let i = c.loop-item.item-index in
    let d = c.item-item.result in
    elim c.match-part_name.branch [
      | in-None w ↦
          rw w.left-is (name_none items i d c.loop-item.left c.loop-item-test.true c.item-item.is w.in-None.ensures
          ∙ c.loop-item.invariant)
      | in-Some+else-left-eq0 w ↦
          rw w.left-is (name_later items i d w.in-Some.name.now c.loop-item.left c.loop-item-test.true c.item-item.is
          w.in-Some.ensures w.if-left-eq0.false ∙ c.loop-item.invariant)
    ]

pub returns-then-left-eq0 : goal.returns-then-left-eq0
returns-then-left-eq0 c = λ cs.
    name_here c.as_slice-item-items.result.now c.loop-item.item-index c.item-item.result c.in-Some.name.now
    c.loop-item.left c.loop-item-test.true c.item-item.is c.in-Some.ensures c.if-left-eq0.true
    ∙ c.loop-item.invariant
    ∙ ap (λ (items : List Item). slice_get (proc_names items) c.args.number) c.as_slice-item-items.ensures
    ∙ ap (λ (ns : List (List ℕ)). slice_get ns c.args.number) (sym (names_of_opcodes cs [] c.args.tree.now.items))

pub returns : goal.returns
returns c = λ cs.
    name_nowhere c.as_slice-item-items.result.now c.loop-item.item-index c.loop-item.left c.loop-item-test.false
    ∙ c.loop-item.invariant
    ∙ ap (λ (items : List Item). slice_get (proc_names items) c.args.number) c.as_slice-item-items.ensures
    ∙ ap (λ (ns : List (List ℕ)). slice_get ns c.args.number) (sym (names_of_opcodes cs [] c.args.tree.now.items))
