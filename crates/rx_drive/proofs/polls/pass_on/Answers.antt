use Rattle.rx_drive.specs.Carried.{passes}
use Rattle.rx_drive.proofs.PollLaws.{passes_lost, passes_not}
use Rattle.rx_drive.proofs.polls.pass_on.Goals as goal

pub returns-in_err-tell_polled-clause-passes : goal.returns-in_err-tell_polled-clause-passes
returns-in_err-tell_polled-clause-passes g c =
    passes_not _ c.args.number _ (c.args.to, c.args.datagram.now) c.args.carrier.now c.args.carrier.now _ _
    c.in_err-tell_polled.field-0.0 c.from_residual.result (c.polled_fits.ensures, c.in_err-tell_polled.ensures.told)
    c.from_residual.ensures

pub returns-in_err-carry-clause-passes : goal.returns-in_err-carry-clause-passes
returns-in_err-carry-clause-passes g c =
    passes_lost _ c.args.number _ (c.args.to, c.args.datagram.now) c.args.carrier.now c.carry.new.self _ _
    c.in_err-carry.field-0.0 _ c.from_residual-in_err-carry.result
    (c.polled_fits.ensures, c.in_ok-tell_polled.ensures.told)
    c.in_err-carry.ensures.carries c.from_residual-in_err-carry.ensures

pub returns-clause-passes : goal.returns-clause-passes
returns-clause-passes g c =
    passes _ (c.polled_fits.ensures, c.in_ok-tell_polled.ensures.told)
    c.in_ok-carry.ensures.carries
