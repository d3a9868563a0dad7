-- The parts were taken by its driver.
use Rattle.std.proofs.Common.{◌≤◌, ap, arith, get_or, refl, sym, subst}
use Rattle.rx_drive.specs.Tells.{Ways}
use Rattle.rx_events.specs.Events.{IsTaken}
use Rattle.rx_joint.specs.Nodes.{IsNodeThere, with_client, with_server}
use Rattle.rx_jumbo.specs.Parts.{parts_of}
use Rattle.rx_plan.specs.Lines.{forges}
use Rattle.rx_plan.specs.Stages.{event}
use Rattle.rx_stage.specs.Ran.{stop_of}
use Rattle.rx_stage.specs.Shown.{WorldState}
use Rattle.rx_stage.specs.declared.stop.Stop.TheVariants as stops
use Rattle.rx_stage.proofs.Delivering.{nodes_play}
use Rattle.rx_stage.proofs.Lending.{client_lent, server_lent}
use Rattle.rx_stage.proofs.Making.{cut_as, each_cut, event_cut}
use Rattle.rx_stage.proofs.Polling.{told_seen}
use Rattle.rx_stage.proofs.Taking.{nodes_seen, takes_driven}
use Rattle.rx_stage.proofs.world.World.forge.Goals as goal

pub returns-in_err-single-clause-plays : goal.returns-in_err-single-clause-plays
returns-in_err-single-clause-plays g c =
    cut_as (forges c.args.from c.args.bytes.now c.args.node) _ _ c.from_residual.result stops.OutOfMemory _
    c.from_residual.ensures refl
    (λ s. each_cut (λ b. event c.args.node (IsTaken c.args.from b)) (λ b t. event_cut c.args.node (IsTaken
    c.args.from b) t)
    (parts_of c.args.bytes.now) s)

pub returns-then-node-eq-SERVER-clause-plays : goal.returns-then-node-eq-SERVER-clause-plays
returns-then-node-eq-SERVER-clause-plays g c =
    let book = c.book-1.given.1 (sym (ap (λ (w : Ways). get_or w.names 2 0) c.take_parts.ensures.ways)) in
    let out = c.out-1.given.1 (sym (ap (λ (w : Ways). get_or w.names 1 0) c.take_parts.ensures.ways)) in
    nodes_play (forges c.args.from c.args.bytes.now c.args.node) _ _ _
    (with_server c.self.inside.nodes c.take_parts.new.node) (stop_of c.plan_end.result) _ _ c.self.view_is refl
    (nodes_seen (forges c.args.from c.args.bytes.now c.args.node) c.self.inside.nodes _ (stop_of c.plan_end.result) _ _
    _ (told_seen g.J.Journal.told g.O.Sink.told g.O.Sink.faults _ _ _ _ book out)
    (takes_driven c.args.from (parts_of c.args.bytes.now) c.self.inside.nodes _ c.args.node _ _ _ _
    (stop_of c.plan_end.result) _ _ c.plan_end.ensures
    (server_lent c.self.inside.nodes c.args.node c.server_mut-server.result.now c.take_parts.new.node
    c.if-node-eq-SERVER.true c.server_mut-server.ensures.value c.take_parts.ensures.setup) c.take_parts.ensures.takes))

pub returns-clause-plays : goal.returns-clause-plays
returns-clause-plays g c =
    let there : IsNodeThere c.self.inside.nodes c.args.node =
    subst (λ (w : WorldState). IsNodeThere w.nodes c.args.node) (sym c.self.view_is) c.requires in
    let one : 1 ≤ c.args.node = omega (arith, c.if-node-eq-SERVER.false) in
    let book = c.book-2-1.given.1 (sym (ap (λ (w : Ways). get_or w.names 2 0) c.take_parts-2.ensures.ways)) in
    let out = c.out-2-1.given.1 (sym (ap (λ (w : Ways). get_or w.names 1 0) c.take_parts-2.ensures.ways)) in
    nodes_play (forges c.args.from c.args.bytes.now c.args.node) _ _ _
    (with_client c.self.inside.nodes c.args.node c.take_parts-2.new.node) (stop_of c.plan_end-2.result) _ _
    c.self.view_is refl
    (nodes_seen (forges c.args.from c.args.bytes.now c.args.node) c.self.inside.nodes _ (stop_of c.plan_end-2.result) _
    _ _ (told_seen g.J.Journal.told g.O.Sink.told g.O.Sink.faults _ _ _ _ book out)
    (takes_driven c.args.from (parts_of c.args.bytes.now) c.self.inside.nodes _ c.args.node _ _ _ _
    (stop_of c.plan_end-2.result) _ _ c.plan_end-2.ensures
    (client_lent c.self.inside.nodes c.args.node c.client_mut-client.result.now c.take_parts-2.new.node (one, there)
    c.client_mut-client.ensures.value c.take_parts-2.ensures.setup) c.take_parts-2.ensures.takes))
