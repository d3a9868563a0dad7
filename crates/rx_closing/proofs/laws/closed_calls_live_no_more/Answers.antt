use Rattle.rx_closing.proofs.laws.closed_calls_live_no_more.Goals as goal
use Rattle.rx_closing.proofs.Left.NoMore.{none_dies_heard, none_lives_on}

pub returns-clause-lives : goal.returns-clause-lives
returns-clause-lives c = none_lives_on

pub returns-clause-dies : goal.returns-clause-dies
returns-clause-dies c = none_dies_heard
