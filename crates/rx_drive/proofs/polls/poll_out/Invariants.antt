use Rattle.std.proofs.Common.{◌≡◌, List}
use Rattle.rx_model.specs.declared.event.Event.{Event as OneEvent}
use Rattle.rx_drive.specs.Carried.{CanCarry}
use Rattle.rx_drive.proofs.PollLaws.{SoFar}
use Rattle.rx_drive.proofs.polls.poll_out.Given as goal

-- so many polls were made
abbrev pub invariant-polls : goal.invariant-polls
invariant-polls g l = record {
  going : (h : List OneEvent) → g.N.Endpoint.stands l.fn.node h → SoFar (g.N.Endpoint.setup l.fn.node)
      (record { carried = g.K.Carrier.carried; some = g.K.Carrier.some; lost = g.K.Carrier.lost }) l.number l.made
      (g.X.Outside.ways l.fn.outside).line h l.fn.carrier l.carrier (g.N.Endpoint.stands l.node)
      (g.X.Outside.told l.fn.outside) (g.X.Outside.told l.outside);
  can : CanCarry (g.N.Endpoint.setup l.node) (g.N.Endpoint.stands l.node) g.K.Carrier.can;
  names : g.K.Carrier.names l.carrier ≡ g.K.Carrier.names l.fn.carrier;
  setup : g.N.Endpoint.setup l.node ≡ g.N.Endpoint.setup l.fn.node;
  ways : g.X.Outside.ways l.outside ≡ g.X.Outside.ways l.fn.outside;
}
