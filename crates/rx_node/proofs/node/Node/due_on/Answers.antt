use Rattle.std.proofs.Common.{Some, None, ◌∙◌, ap}
use Rattle.rx_rules.specs.Setup.{is_client}
use Rattle.rx_node.specs.Node.{NodeState}
use Rattle.rx_node.proofs.DueItems.{due_owed, due_sending}
use Rattle.rx_node.proofs.Steps.MomentSteps.{rank_none, rank_owed, rank_sent}
use Rattle.std.proofs.Common.{subst}
use Rattle.std.specs.Prelude.{IsSomeAnd}
use Rattle.rx_call.specs.Kept.{call_under}
use Rattle.rx_call_ends.specs.Ends.{IsDueOf}
use Rattle.rx_node.proofs.node.Node.due_on.Goals as goal

pub returns-in-Some-clause-least : goal.returns-in-Some-clause-least
returns-in-Some-clause-least g c =
    λ l ch m at. due_owed _ l c.args.key ch at c.in-Some.item (c.in-Some.ensures.first l ch m at)

pub returns-in_err-rank-clause-least : goal.returns-in_err-rank-clause-least
returns-in_err-rank-clause-least g c =
    rw c.from_residual-in_err-rank.ensures
    (λ l ch m at. due_sending g.C.Class.class_of c.args.self.now l m c.args.key ch at c.in_ok-end.end
    c.in_ok-end.ensures.some
    c.self.inside.ends (ap (λ (n : NodeState). n.ends) c.self.view_is)
    (c.self.invariant.0.client ∙ ap (λ (n : NodeState). is_client n.kind) c.self.view_is)
    None c.in_err-rank.ensures.answered (c.in_default.ensures.first l ch m at))

pub returns-clause-least : goal.returns-clause-least
returns-clause-least g c =
    λ l ch m at. due_sending g.C.Class.class_of c.args.self.now l m c.args.key ch at c.in_ok-end.end
    c.in_ok-end.ensures.some
    c.self.inside.ends (ap (λ (n : NodeState). n.ends) c.self.view_is)
    (c.self.invariant.0.client ∙ ap (λ (n : NodeState). is_client n.kind) c.self.view_is)
    (Some c.in_ok-rank.rank) c.in_ok-rank.ensures.answered (c.in_default.ensures.first l ch m at)

pub returns-in-Some-clause-rank : goal.returns-in-Some-clause-rank
returns-in-Some-clause-rank g c =
    rank_owed c.args.self.now c.args.key c.in-Some.item c.in-Some.ensures.owed

pub returns-in_err-end-clause-rank : goal.returns-in_err-end-clause-rank
returns-in_err-end-clause-rank g c =
    rw c.from_residual.ensures
    (rank_none c.args.self.now c.args.key c.in_default.ensures.owed c.in_err-end.ensures.call)

pub returns-in_err-rank-clause-rank : goal.returns-in_err-rank-clause-rank
returns-in_err-rank-clause-rank g c =
    rw c.from_residual-in_err-rank.ensures
    (rank_sent c.args.self.now c.args.key _ None c.in_default.ensures.owed c.in_ok-end.ensures.call
    (subst (λ (n : NodeState). IsSomeAnd (call_under n.ends.calls c.in_ok-end.end)
    (λ e. IsDueOf e None)) c.self.view_is c.in_err-rank.ensures.rank))

pub returns-clause-rank : goal.returns-clause-rank
returns-clause-rank g c =
    rank_sent c.args.self.now c.args.key _ (Some c.in_ok-rank.rank) c.in_default.ensures.owed c.in_ok-end.ensures.call
    (subst (λ (n : NodeState). IsSomeAnd (call_under n.ends.calls c.in_ok-end.end)
    (λ e. IsDueOf e (Some c.in_ok-rank.rank))) c.self.view_is c.in_ok-rank.ensures.rank)
