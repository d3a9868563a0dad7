-- Both datagrams are looked for, and then those between them are joined.
use Rattle.rx_stage.specs.Ran.{stop_of}
use Rattle.rx_stage.proofs.Joining.{first_lacks, joins_behind, second_lacks}
use Rattle.rx_stage.proofs.world.World.jumbo_line.Goals as goal

pub returns-in_err-from-clause-plays : goal.returns-in_err-from-clause-plays
returns-in_err-from-clause-plays g c =
    first_lacks c.args.first c.args.last _ _ c.from_residual.result c.in_err-from.field-0.0 _ c.from_residual.ensures
    c.in_err-from.ensures.found

pub returns-in_err-to-clause-plays : goal.returns-in_err-to-clause-plays
returns-in_err-to-clause-plays g c =
    second_lacks c.args.first c.args.last c.in_ok-from.from _ _ c.from_residual-in_err-to.result c.in_err-to.field-0.0 _
    c.from_residual-in_err-to.ensures c.in_ok-from.ensures.is c.in_ok-from.ensures.within c.in_err-to.ensures.found

pub returns-clause-plays : goal.returns-clause-plays
returns-clause-plays g c =
    joins_behind c.args.first c.args.last c.in_ok-from.from c.in_ok-to.to _ _ (stop_of c.join_line.result) _ _
    c.in_ok-from.ensures.is c.in_ok-to.ensures.is c.in_ok-from.ensures.within c.in_ok-to.ensures.within
    c.join_line.ensures.plays
