use Rattle.std.proofs.Common.{ℕ, map, Vec}
use Rattle.std.specs.declared.alloc.Global.{Global}
use Rattle.xg_check.specs.Ordering.{AllLooked}
use Rattle.xg_check.proofs.order.Search.look_at_all.Given as goal

abbrev pub invariant-loop-node : goal.invariant-loop-node
invariant-loop-node l = AllLooked l.graph l.node l.self.ended.items l.self.nodes.items
    (map (λ (v : Vec ℕ Global). v.items) l.self.waiting.items) l.self.looked.items
