-- Nodes read one by one along an order.
use Rattle.std.proofs.Common.{◌≡◌, ℕ, ◌<◌, Bool, true, List, length, get_or, sym, subst, arith}
use Rattle.std.proofs.lemmas.Option.{slice_get-get_or, slice_get_within}
use Rattle.xg_parse.specs.declared.tree.Part.{Part}
use Rattle.xg_check.specs.declared.types.Ways.TheVariants as ways
use Rattle.xg_check.specs.Typed.{type_ways}
use Rattle.xg_check.specs.Graphs.{AreOrdered}
use Rattle.xg_check.proofs.HeldLaws.{same_size}

pub along : (g : List (List ℕ)) (nodes items : List ℕ) (ended : List Bool) → AreOrdered g nodes ended → items ≡ nodes
    → AreOrdered g items ended
along g nodes items ended o is = subst (λ (ns : List ℕ). AreOrdered g ns ended) (sym is) o

pub type_at : (ts : List Part) (items : List ℕ) (ended : List Bool) → AreOrdered (type_ways ts ways.Held) items ended
    → (k : ℕ) → k < length items → get_or items k 0 < length ts
type_at ts items ended o k lt =
    let here = o.there k (get_or items k 0) (slice_get-get_or items k 0 lt) in
    omega (arith, slice_get_within ended (get_or items k 0) true here, o.size, same_size ts)
