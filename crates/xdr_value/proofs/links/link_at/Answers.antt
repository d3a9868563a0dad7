use Rattle.xdr_value.proofs.ChainLaws.{link_right, link_within}
use Rattle.xdr_value.proofs.links.link_at.Goals as goal

pub returns-clause-within : goal.returns-clause-within
returns-clause-within c = link_within c.args.types.now c.args.at c.index-types-at.result c.requires.linked c.requires.at

pub returns-clause-right : goal.returns-clause-right
returns-clause-right c = link_right c.args.types.now c.args.at c.index-types-at.result c.requires.linked c.requires.at
