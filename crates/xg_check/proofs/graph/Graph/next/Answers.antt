use Rattle.std.proofs.Common.{◌≡◌, ◌<◌, ℕ, List, Vec, map, length, slice_get, Some, option_map, refl, ap, ◌∙◌, arith}
use Rattle.std.specs.declared.alloc.Global.{Global}
use Rattle.std.proofs.lemmas.List.{length-map}
use Rattle.std.proofs.lemmas.Option.{slice_get_read, slice_get-map}
use Rattle.xg_check.proofs.GraphLaws.{next_nodes}
use Rattle.xg_check.proofs.graph.Graph.next.Goals as goal

pub returns-clause-nodes : goal.returns-clause-nodes
returns-clause-nodes c =
    let vs = c.self.inside.next.items in
    let items : Vec ℕ Global → List ℕ = λ v. v.items in
    let view : map items vs ≡ c.args.self.now = cc in
    let lt : c.args.node < length vs = omega (arith, ap length view, length-map vs items) in
    let read = slice_get_read vs (length vs) c.args.node c.index.result.now refl lt c.index.ensures in
    let at : slice_get (map items vs) c.args.node ≡ Some c.index.result.now.items =
    slice_get-map items vs c.args.node ∙ ap (option_map items) read in
    rw c.as_slice.ensures.value
    (next_nodes (map items vs) c.args.self.now c.args.node c.index.result.now.items c.self.invariant view at)
