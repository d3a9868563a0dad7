use Rattle.std.proofs.Common.{arith}
use Rattle.rx_wire.proofs.LogLemmas.{length-logged_of}
use Rattle.rx_wire.proofs.wire_log.WireLog.len.Goals as goal

pub returns : goal.returns
returns c =
    let kept = c.self.inside.kept in
    rw (← c.self.view_is)
    (omega (arith, c.len.ensures, kept.ok.0, length-logged_of kept.items c.self.inside.bytes.items))
