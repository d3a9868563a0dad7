use Rattle.rx_jumbo.proofs.SplitLaws.{parts_alone, parts_split}
use Rattle.rx_jumbo.proofs.laws.splits_where_it_can.Goals as goal

pub returns-clause-split : goal.returns-clause-split
returns-clause-split c = parts_split

pub returns-clause-alone : goal.returns-clause-alone
returns-clause-alone c = parts_alone
