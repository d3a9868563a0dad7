use Rattle.std.proofs.Common.{◌≤◌, ◌*◌, sym, subst, length}
use Rattle.rx_node.specs.Steps.{given_from}
use Rattle.rx_model.specs.declared.names.Limits.{Limits}
use Rattle.rx_server.proofs.PollServes.{poll_answers, poll_serving}
use Rattle.rx_server.proofs.server.Server.poll.Goals as goal

pub invariant_of-self : goal.invariant_of-self
invariant_of-self g c = (
  poll_serving g.C.Class.class_of _ c.poll.new.self c.poll.ensures.same c.poll.ensures.dimmed c.self.invariant.0,
  subst (λ (limits : Limits). 4 * limits.conns ≤ length c.self.inside.firsts.ready) (sym c.poll.ensures.same.limits)
      c.self.invariant.1,
)

pub returns-clause-answered : goal.returns-clause-answered
returns-clause-answered g c =
    rw (← c.self.view_is)
    (poll_answers g.C.Class.class_of _ c.poll.new.self c.poll.ensures.same (given_from c.poll.result c.poll.new.to)
    c.poll.ensures.answered)
