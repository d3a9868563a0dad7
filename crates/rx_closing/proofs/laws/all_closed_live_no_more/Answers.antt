use Rattle.rx_closing.proofs.Left.NoneLeft.{none_of_all_dies_heard, none_of_all_lives_on}
use Rattle.rx_closing.proofs.laws.all_closed_live_no_more.Goals as goal

pub returns-clause-lives : goal.returns-clause-lives
returns-clause-lives c = none_of_all_lives_on

pub returns-clause-dies : goal.returns-clause-dies
returns-clause-dies c = none_of_all_dies_heard
