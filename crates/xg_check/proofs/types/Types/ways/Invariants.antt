use Rattle.std.proofs.Common.{◌≡◌, ℕ, map, take, Vec}
use Rattle.std.specs.declared.alloc.Global.{Global}
use Rattle.xg_check.specs.Typed.{part_places}
use Rattle.xg_check.proofs.types.Types.ways.Given as goal

abbrev pub invariant-loop-part : goal.invariant-loop-part
invariant-loop-part l = map (λ (v : Vec ℕ Global). v.items) l.next.items
    ≡ map (part_places l.self l.ways) (take l.part-index (map (λ p. p.now) l.part-items))
