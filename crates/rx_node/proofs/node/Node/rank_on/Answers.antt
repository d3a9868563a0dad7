use Rattle.std.proofs.Common.{subst}
use Rattle.std.specs.Prelude.{IsSomeAnd}
use Rattle.rx_call.specs.Kept.{call_under}
use Rattle.rx_call_ends.specs.Ends.{IsDueOf}
use Rattle.rx_node.specs.Node.{NodeState}
use Rattle.rx_node.proofs.Steps.MomentSteps.{rank_none, rank_owed, rank_sent}
use Rattle.rx_node.proofs.node.Node.rank_on.Goals as goal

pub returns-in-Some-clause-rank : goal.returns-in-Some-clause-rank
returns-in-Some-clause-rank g c = rank_owed c.args.self.now c.args.key c.in-Some._item c.in-Some.ensures.owed

pub returns-in_err-end-clause-rank : goal.returns-in_err-end-clause-rank
returns-in_err-end-clause-rank g c =
    rw c.from_residual.ensures
    (rank_none c.args.self.now c.args.key c.in_default.ensures.owed c.in_err-end.ensures.call)

pub returns-clause-rank : goal.returns-clause-rank
returns-clause-rank g c =
    rank_sent c.args.self.now c.args.key _ c.due.result c.in_default.ensures.owed c.in_ok-end.ensures.call
    (subst (λ (n : NodeState). IsSomeAnd (call_under n.ends.calls c.in_ok-end.end)
    (λ e. IsDueOf e c.due.result)) c.self.view_is c.due.ensures.rank)
