use Rattle.std.proofs.Common.{◌∙◌, sym}
use Rattle.rx_wire_loop.proofs.Giving.{keeps_held, passes_held}
use Rattle.rx_wire_loop.proofs.ports.offer.Goals as goal

pub returns-then-push-clause-passes : goal.returns-then-push-clause-passes
returns-then-push-clause-passes g c =
    passes_held c.args.joiner.now c.push.new.self c.args.to c.args.datagram.now _
    (sym c.push.ensures.takes ∙ c.if-push.true) (c.push.ensures.taken c.if-push.true)

pub returns-then-push-clause-kept : goal.returns-then-push-clause-kept
returns-then-push-clause-kept g c =
    keeps_held c.args.joiner.now c.push.new.self c.args.to c.args.datagram.now (sym c.push.ensures.takes
    ∙ c.if-push.true) (c.push.ensures.taken c.if-push.true) c.requires.within
