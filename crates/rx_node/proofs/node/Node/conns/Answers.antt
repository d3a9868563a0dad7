use Rattle.std.proofs.Common.{arith}
use Rattle.rx_node.proofs.node.Node.conns.Goals as goal

pub returns-clause-few : goal.returns-clause-few
returns-clause-few g c =
    let i = c.self.invariant in
    omega (arith, i.0.few, i.0.links, i.0.fits.limits.few_conns)
