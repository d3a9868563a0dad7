use Rattle.std.proofs.Common.{◌+◌, ◌∙◌, ap}
use Rattle.rx_joint.specs.Nodes.{moment_of}
use Rattle.rx_stage.specs.Shown.{WorldState}
use Rattle.rx_stage.specs.contracts.world.World.{the_view}
use Rattle.rx_stage.proofs.RoundsMade.{move_plays}
use Rattle.rx_stage.proofs.world.World.move_on.Goals as goal

pub returns-clause-plays : goal.returns-clause-plays
returns-clause-plays g c =
    move_plays (the_view c.self.inside) c.args.self.now c.clock.new.self c.args.node c.args.time
    (c.moment.result + c.args.time) _ _ _ c.self.view_is c.requires.there
    (ap (λ m. m + c.args.time) (c.moment.ensures.value ∙ ap (λ (w : WorldState). moment_of w.nodes c.args.node)
    c.self.view_is))
    c.clock.ensures.plays
