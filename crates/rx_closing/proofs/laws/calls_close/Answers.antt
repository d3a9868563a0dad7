use Rattle.rx_closing.proofs.laws.calls_close.Goals as goal
use Rattle.rx_closing.proofs.PlansClose.{plans_close}
use Rattle.rx_closing.proofs.Silence.HearsSoon.{dead_one_in_silence}
use Rattle.rx_closing.proofs.Sums.Closes.{all_closed}
use Rattle.rx_closing.proofs.Sums.ClosesAll.{closes_one}

pub returns-clause-one : goal.returns-clause-one
returns-clause-one c = closes_one all_closed

pub returns-clause-plans : goal.returns-clause-plans
returns-clause-plans c = plans_close (closes_one all_closed) dead_one_in_silence
