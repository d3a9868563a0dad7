use Rattle.std.proofs.Common.{◌≡◌, List, None, take}
use Rattle.rx_jumbo.specs.Parts.{parts_of}
use Rattle.rx_model.specs.declared.event.Event.{Event as OneEvent}
use Rattle.rx_drive.specs.Events.{takes_all}
use Rattle.rx_drive.specs.Nodes.{node_stages}
use Rattle.rx_drive.specs.Ran.{Ran}
use Rattle.rx_drive.proofs.events.take_parts.Given as goal

-- the node took the first of the parts
abbrev pub invariant-loop-k : goal.invariant-loop-k
invariant-loop-k g l = record {
  takes : (h : List OneEvent) → g.N.Endpoint.stands l.fn.node h → Ran (g.X.Outside.ways l.fn.outside).line
      (takes_all (node_stages (g.N.Endpoint.setup l.fn.node)) l.number l.from (take l.k (parts_of l.came)) h)
      (g.N.Endpoint.stands l.node) None (g.X.Outside.told l.fn.outside) (g.X.Outside.told l.outside);
  setup : g.N.Endpoint.setup l.node ≡ g.N.Endpoint.setup l.fn.node;
  ways : g.X.Outside.ways l.outside ≡ g.X.Outside.ways l.fn.outside;
}
