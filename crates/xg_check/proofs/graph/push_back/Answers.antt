use Rattle.std.proofs.Common.{◌≡◌, ◌++◌, ◌∷◌, [], ℕ, List, Vec, map, length, slice_get, slice_set, Some, option_map}
use Rattle.std.proofs.Common.{refl, ap, ◌∙◌}
use Rattle.std.specs.declared.alloc.Global.{Global}
use Rattle.std.proofs.lemmas.List.{map-set}
use Rattle.std.proofs.lemmas.Option.{slice_get_read, slice_get-map}
use Rattle.xg_check.proofs.graph.push_back.Goals as goal
use Rattle.xg_check.proofs.OrderLaws.{the_same}

pub returns : goal.returns
returns c = λ ws h.
    let vs = c.args.back.now.items in
    let items : Vec ℕ Global → List ℕ = λ v. v.items in
    let read = slice_get_read vs (length vs) c.args.other c.index_mut.result.now refl c.requires
    c.index_mut.ensures.value in
    let at : slice_get (map items vs) c.args.other ≡ Some c.index_mut.result.now.items =
    slice_get-map items vs c.args.other ∙ ap (option_map items) read in
    let same : c.index_mut.result.now.items ≡ ws =
    the_same (slice_get (map items vs) c.args.other) c.index_mut.result.now.items ws at h in
    let new : c.push.new.self.items ≡ ws ++ c.args.node ∷ [] =
    c.in_ok-push.ensures.items ∙ ap (λ (xs : List ℕ). xs ++ c.args.node ∷ []) same in
    map-set items vs c.args.other c.push.new.self ∙ ap (slice_set (map items vs) c.args.other) new
