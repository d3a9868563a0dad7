use Rattle.std.proofs.Common.{◌≡◌, ℕ, [], map, replicate, Vec}
use Rattle.std.specs.declared.alloc.Global.{Global}
use Rattle.xg_check.proofs.graph.empty_lists.Given as goal

abbrev pub invariant-loop : goal.invariant-loop
invariant-loop l = map (λ (v : Vec ℕ Global). v.items) l.lists.items ≡ replicate l.counter []
