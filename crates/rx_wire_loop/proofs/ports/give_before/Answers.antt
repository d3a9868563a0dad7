use Rattle.std.proofs.Common.{◌∙◌}
use Rattle.rx_wire_loop.proofs.Giving.{keeps_behind, passes_behind, passes_failed, takes_first}
use Rattle.rx_wire_loop.proofs.Running.{stopped}
use Rattle.rx_wire_loop.proofs.ports.give_before.Goals as goal

pub returns-in_err-give_held-clause-passes : goal.returns-in_err-give_held-clause-passes
returns-in_err-give_held-clause-passes g c =
    rw (stopped c.from_residual.result c.in_err-give_held.field-0.0 c.from_residual.ensures.1)
    (passes_failed c.args.joiner.now c.give_held.new.joiner (c.args.to, c.args.datagram.now) _ _
    c.in_err-give_held.field-0.0 c.in_err-give_held.ensures.empties)

pub returns-in_err-give_held-clause-kept : goal.returns-in_err-give_held-clause-kept
returns-in_err-give_held-clause-kept g c = c.in_err-give_held.ensures.kept

pub returns-clause-passes : goal.returns-clause-passes
returns-clause-passes g c =
    passes_behind c.args.joiner.now c.give_held.new.joiner c.push.new.self c.args.to c.args.datagram.now _ _
    c.requires.apart c.in_ok-give_held.ensures.empties c.in_ok-give_held.ensures.kept
    (c.push.ensures.taken (c.push.ensures.takes ∙ takes_first c.give_held.new.joiner c.args.to c.args.datagram.now
    c.in_ok-give_held.ensures.empties.rest.1))

pub returns-clause-kept : goal.returns-clause-kept
returns-clause-kept g c =
    keeps_behind c.args.joiner.now c.give_held.new.joiner c.push.new.self c.args.to c.args.datagram.now
    c.in_ok-give_held.ensures.kept c.in_ok-give_held.ensures.empties.rest.1
    (c.push.ensures.taken (c.push.ensures.takes ∙ takes_first c.give_held.new.joiner c.args.to c.args.datagram.now
    c.in_ok-give_held.ensures.empties.rest.1))
