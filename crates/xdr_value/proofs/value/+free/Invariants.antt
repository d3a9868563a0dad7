use Rattle.xdr_value.proofs.value.+free.Given as goal

abbrev pub invariant-free_all-loop-item : goal.invariant-free_all-loop-item
invariant-free_all-loop-item l = goal.no_deeper-free_all-loop-item l

abbrev pub decreases-free_all-loop-item : goal.decreases-free_all-loop-item
decreases-free_all-loop-item l = goal.left-free_all-loop-item l
