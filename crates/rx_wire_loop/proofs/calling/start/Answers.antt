use Rattle.rx_node.specs.Node.{setup_of}
use Rattle.rx_wire_loop.proofs.Fresh.{started_ok}
use Rattle.rx_wire_loop.proofs.calling.start.Goals as goal

pub unreachable-requires : goal.unreachable-requires
unreachable-requires g c =
    started_ok (setup_of g.C.Class.class_of c.args.client.now) c.requires.fits.limits c.requires.linked.0 c.args.to
    c.args.service c.args.cid c.in-Err.field-0 (c.in-Err.ensures.answered _ c.requires.linked.1).0
