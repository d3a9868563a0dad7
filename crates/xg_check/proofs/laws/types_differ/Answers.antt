use Rattle.xg_check.specs.Constants.{constants_in}
use Rattle.xg_check.proofs.ApartLaws.{types_differ}
use Rattle.xg_check.proofs.laws.types_differ.Goals as goal

pub returns : goal.returns
returns c = λ tree h. types_differ (constants_in tree.items) tree.items h
