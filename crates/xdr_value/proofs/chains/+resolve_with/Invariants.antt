use Rattle.xdr_value.proofs.chains.+resolve_with.Given as goal

abbrev pub decreases-resolve_with : goal.decreases-resolve_with
decreases-resolve_with l = l.hops
