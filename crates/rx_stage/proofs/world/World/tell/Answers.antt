-- The event was told by its driver.
use Rattle.std.proofs.Common.{ap, arith, get_or, sym}
use Rattle.rx_drive.specs.Ran.{stop_of as drive_stop_of}
use Rattle.rx_drive.specs.Tells.{Ways}
use Rattle.rx_wire.specs.Turns.{noted}
use Rattle.rx_stage.specs.Ran.{stop_of}
use Rattle.rx_stage.proofs.Plain.{event_plain}
use Rattle.rx_stage.proofs.Polling.{told_seen}
use Rattle.rx_stage.proofs.world.World.tell.Goals as goal

pub returns-clause-told : goal.returns-clause-told
returns-clause-told g c =
    let book = c.book-1.given.1 (sym (ap (λ (w : Ways). get_or w.names 2 0) c.tell.ensures.ways)) in
    let out = c.out-1.given.1 (sym (ap (λ (w : Ways). get_or w.names 1 0) c.tell.ensures.ways)) in
    event_plain (noted c.args.node c.args.event.now) (drive_stop_of c.tell.result) (stop_of c.plan_end.result) _ _ _
    c.plan_end.ensures (told_seen g.J.Journal.told g.O.Sink.told g.O.Sink.faults _ _ _ _ book out)
    (record { node = omega (arith, c.ranges.node); event = c.fits.ensures }, c.tell.ensures.told)
