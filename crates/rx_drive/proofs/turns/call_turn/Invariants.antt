use Rattle.std.proofs.Common.{◌≡◌, List, true}
use Rattle.rx_asks.specs.Asks.{begun, calling, is_done}
use Rattle.rx_asks.specs.declared.ask.TheConstants.{REPLY_BYTES}
use Rattle.rx_caller.specs.Turn.{CallerWants}
use Rattle.rx_model.specs.declared.event.Event.{Event as OneEvent}
use Rattle.rx_node.specs.Node.{setup_of}
use Rattle.rx_node.specs.Steps.{StandsNode}
use Rattle.rx_drive.proofs.TurnLaws.{Gone}
use Rattle.rx_drive.proofs.turns.call_turn.Given as goal

-- so many calls lead from the beginning of the turn to here
abbrev pub invariant-calls : goal.invariant-calls
invariant-calls g l = record {
  gone : (h : List OneEvent) → StandsNode g.C.Class.class_of l.fn.client h
      → Gone (calling REPLY_BYTES) (CallerWants REPLY_BYTES) l.number (setup_of g.C.Class.class_of l.fn.client) l.made
      (g.X.Outside.ways l.fn.outside).line h (begun l.fn.caller) l.caller (StandsNode g.C.Class.class_of l.client)
      (g.X.Outside.told l.fn.outside) (g.X.Outside.told l.outside);
  done : is_done l.fn.caller ≡ true → is_done l.caller ≡ true;
  setup : setup_of g.C.Class.class_of l.client ≡ setup_of g.C.Class.class_of l.fn.client;
  ways : g.X.Outside.ways l.outside ≡ g.X.Outside.ways l.fn.outside;
}
