use Rattle.std.proofs.Common.{ℕ, map, Vec}
use Rattle.std.specs.declared.alloc.Global.{Global}
use Rattle.xg_check.specs.Searching.{AreTurned}
use Rattle.xg_check.proofs.graph.reversed.Given as goal

abbrev pub invariant-loop-node : goal.invariant-loop-node
invariant-loop-node l = AreTurned l.graph (map (λ (v : Vec ℕ Global). v.items) l.back.items) l.node
