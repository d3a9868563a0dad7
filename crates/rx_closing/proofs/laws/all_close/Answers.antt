use Rattle.rx_closing.proofs.laws.all_close.Goals as goal
use Rattle.rx_closing.proofs.PlansClose.{plans_close_all}
use Rattle.rx_closing.proofs.Silence.HearsSoon.{dead_all_in_silence}
use Rattle.rx_closing.proofs.Sums.Closes.{all_closed}
use Rattle.rx_closing.proofs.Sums.ClosesAll.{closes_all}

pub returns-clause-all : goal.returns-clause-all
returns-clause-all c = closes_all all_closed

pub returns-clause-plans : goal.returns-clause-plans
returns-clause-plans c = plans_close_all (closes_all all_closed) dead_all_in_silence
