use Rattle.std.proofs.Common.{ℕ, map, take, Vec}
use Rattle.std.specs.declared.alloc.Global.{Global}
use Rattle.xg_check.specs.Searching.{AreBack}
use Rattle.xg_check.proofs.graph.add_back.Given as goal

abbrev pub invariant-loop-other : goal.invariant-loop-other
invariant-loop-other l = AreBack (map (λ (v : Vec ℕ Global). v.items) l.fn.back.items)
    (map (λ (v : Vec ℕ Global). v.items) l.back.items) l.node
    (take l.other-index l.next)
