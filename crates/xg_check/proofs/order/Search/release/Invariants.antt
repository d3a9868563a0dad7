use Rattle.std.proofs.Common.{◌+◌, ℕ, map, drop, Vec}
use Rattle.std.specs.declared.alloc.Global.{Global}
use Rattle.xg_check.specs.Ordering.{AllButSome}
use Rattle.xg_check.proofs.order.Search.release.Given as goal

abbrev pub invariant-loop-other : goal.invariant-loop-other
invariant-loop-other l = AllButSome l.graph (l.at + 1) (drop l.other-index l.other-items) l.self.ended.items
    l.self.nodes.items
    (map (λ (v : Vec ℕ Global). v.items) l.self.waiting.items) l.self.looked.items
