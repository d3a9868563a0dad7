-- The turn was driven on the client.
use Rattle.std.proofs.Common.{ap, get_or}
use Rattle.rx_asks.specs.Asks.{begun, calling}
use Rattle.rx_asks.specs.declared.ask.TheConstants.{REPLY_BYTES}
use Rattle.rx_caller.specs.Turn.{CallerWants}
use Rattle.rx_drive.specs.Tells.{Ways}
use Rattle.rx_stage.specs.Ran.{stop_of}
use Rattle.rx_stage.proofs.Driving.{turn_driven}
use Rattle.rx_stage.proofs.Lending.{client_lent}
use Rattle.rx_stage.proofs.invokes.call_on.Goals as goal

pub returns-clause-plays : goal.returns-clause-plays
returns-clause-plays g c =
    turn_driven (calling REPLY_BYTES) (CallerWants REPLY_BYTES) c.args.nodes.now _ c.args.node _ _ _
    (begun c.args.caller.now) c.call_turn.new.caller _ (stop_of c.plan_end.result) _ _ c.plan_end.ensures
    (client_lent c.args.nodes.now c.args.node c.client_mut-client.result.now c.call_turn.new.client c.requires
    c.client_mut-client.ensures.value c.call_turn.ensures.setup) c.call_turn.ensures.turned

pub returns-clause-sink : goal.returns-clause-sink
returns-clause-sink g c = ap (λ (w : Ways). get_or w.names 1 0) c.call_turn.ensures.ways

pub returns-clause-book : goal.returns-clause-book
returns-clause-book g c = ap (λ (w : Ways). get_or w.names 2 0) c.call_turn.ensures.ways
