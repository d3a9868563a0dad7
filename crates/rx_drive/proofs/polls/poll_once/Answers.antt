use Rattle.rx_drive.specs.Carried.{gave_some}
use Rattle.rx_drive.proofs.PollLaws.{none_once}
use Rattle.rx_drive.proofs.polls.poll_once.Goals as goal

pub returns-in-Some-clause-polls : goal.returns-in-Some-clause-polls
returns-in-Some-clause-polls g c =
    gave_some (c.in-Some.to, c.front.result.now) c.pass_on.result (rw c.front.ensures c.in-Some.ensures.answered)
    c.pass_on.ensures.passes

pub returns-in-None-clause-polls : goal.returns-in-None-clause-polls
returns-in-None-clause-polls g c =
    none_once _ _ _ _ c.args.number _ c.args.carrier.now _ _ c.tell_none.result c.in-None.ensures.answered
    c.tell_none.ensures.told c.tell_none.ensures.none
