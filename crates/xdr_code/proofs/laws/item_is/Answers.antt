use Rattle.xdr_code.proofs.ItemLaws.{item_law}
use Rattle.xdr_code.proofs.laws.item_is.Goals as goal

pub returns : goal.returns
returns c = item_law
