use Rattle.std.proofs.Common.{ℕ, List, Vec, map, length, slice_set, Some, option_map, refl, sym, ap, ◌∙◌}
use Rattle.std.specs.declared.alloc.Global.{Global}
use Rattle.std.proofs.lemmas.List.{map-set}
use Rattle.std.proofs.lemmas.Option.{slice_get_read, slice_get-map}
use Rattle.xg_check.proofs.order.take_list.Goals as goal

pub returns-clause-taken : goal.returns-clause-taken
returns-clause-taken c =
    let vs = c.args.lists.now.items in
    let items : Vec ℕ Global → List ℕ = λ v. v.items in
    let read = slice_get_read vs (length vs) c.args.node c.index_mut.result.now refl c.requires
    c.index_mut.ensures.value in
    slice_get-map items vs c.args.node ∙ ap (option_map items) read
    ∙ ap (λ (v : Vec ℕ Global). Some v.items) (sym c.replace.ensures.value)

pub returns-clause-left : goal.returns-clause-left
returns-clause-left c =
    let vs = c.args.lists.now.items in
    let items : Vec ℕ Global → List ℕ = λ v. v.items in
    map-set items vs c.args.node c.replace.new.dest
    ∙ ap (slice_set (map items vs) c.args.node) (ap items c.replace.ensures.after ∙ c.new.ensures.items)
