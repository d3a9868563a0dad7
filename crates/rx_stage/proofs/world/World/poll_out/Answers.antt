use Rattle.std.proofs.Common.{◌∙◌, ap}
use Rattle.rx_joint.specs.Nodes.{host_of}
use Rattle.rx_stage.specs.Shown.{WorldState}
use Rattle.rx_stage.proofs.Polling.{out_plays}
use Rattle.rx_stage.proofs.world.World.poll_out.Goals as goal

pub returns-clause-plays : goal.returns-clause-plays
returns-clause-plays g c =
    out_plays c.args.self.now c.poll_from.new.self c.args.node c.host-from.result c.args.given.now.items
    c.poll_from.new.given.items _ _ _ c.requires
    (c.host-from.ensures ∙ ap (λ (w : WorldState). host_of w.nodes c.args.node) c.self.view_is)
    c.poll_from.ensures.plays c.poll_from.ensures.rest
