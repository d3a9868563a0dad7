use Rattle.std.proofs.Common.{ℕ, map, Vec}
use Rattle.std.specs.declared.alloc.Global.{Global}
use Rattle.xg_check.specs.Ordering.{AllWait}
use Rattle.xg_check.proofs.order.Search.release_all.Given as goal

abbrev pub invariant-loop-at : goal.invariant-loop-at
invariant-loop-at l = AllWait l.graph l.at l.self.ended.items l.self.nodes.items
    (map (λ (v : Vec ℕ Global). v.items) l.self.waiting.items) l.self.looked.items
