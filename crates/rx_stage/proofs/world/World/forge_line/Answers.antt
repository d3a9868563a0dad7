-- The node is looked for, the bytes are spelled out, and then it takes the parts.
use Rattle.std.proofs.Common.{◌∙◌}
use Rattle.rx_events.specs.Events.{IsTaken}
use Rattle.rx_jumbo.specs.Parts.{parts_of}
use Rattle.rx_script.specs.declared.outcome.PlanWhy.TheVariants as causes
use Rattle.rx_plan.specs.Finds.{node_at}
use Rattle.rx_plan.specs.Lines.{forges}
use Rattle.rx_plan.specs.Stages.{event}
use Rattle.rx_stage.specs.Ran.{stop_of}
use Rattle.rx_stage.proofs.Making.{bytes_are, each_cut, event_cut, found_goes, names_none, names_wants}
use Rattle.rx_stage.proofs.world.World.forge_line.Goals as goal

pub returns-in_err-node-clause-plays : goal.returns-in_err-node-clause-plays
returns-in_err-node-clause-plays g c =
    names_none causes.NoNode (forges c.args.from c.args.bytes.now) (node_at c.args.node) _ _ c.from_residual.result
    c.in_err-node.field-0.0 _ c.from_residual.ensures c.in_err-node.ensures.found

pub returns-in_err-sent-clause-plays : goal.returns-in_err-sent-clause-plays
returns-in_err-sent-clause-plays g c =
    names_wants causes.NoNode (forges c.args.from c.args.bytes.now) (node_at c.args.node) c.in_ok-node.node _ _
    c.from_residual-in_err-sent.result _ c.from_residual-in_err-sent.ensures c.in_ok-node.ensures.found
    (each_cut (λ b. event c.in_ok-node.node (IsTaken c.args.from b))
    (λ b s. event_cut c.in_ok-node.node (IsTaken c.args.from b) s) (parts_of c.args.bytes.now))

pub returns-clause-plays : goal.returns-clause-plays
returns-clause-plays g c =
    found_goes causes.NoNode (forges c.args.from c.args.bytes.now) (node_at c.args.node) c.in_ok-node.node _ _
    (stop_of c.forge.result) _ _ c.in_ok-node.ensures.found
    (bytes_are (λ bs. forges c.args.from bs c.in_ok-node.node) c.as_slice.result.now c.args.bytes.now _ _ _ _ _
    (c.as_slice.ensures.value ∙ c.in_ok-sent.ensures) c.forge.ensures.plays)
