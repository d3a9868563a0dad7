use Rattle.std.proofs.Common.{◌≡◌, List}
use Rattle.rx_dispatch.specs.Making.{Remembers}
use Rattle.rx_dispatch.specs.Rounds.{turning_of}
use Rattle.rx_dispatch.specs.States.{state_of}
use Rattle.rx_dispatch.specs.Wanting.{IsWanting}
use Rattle.rx_jobs.specs.Dispatching.{accepts, dispatching}
use Rattle.rx_jobs.specs.Handlers.{handlers_of}
use Rattle.rx_model.specs.declared.event.Event.{Event as OneEvent}
use Rattle.rx_node.specs.Node.{setup_of}
use Rattle.rx_server.specs.Server.{Stands}
use Rattle.rx_drive.proofs.TurnLaws.{Gone}
use Rattle.rx_drive.proofs.turns.dispatch.Given as goal

-- so many calls lead from the beginning of the turn to here
abbrev pub invariant-calls : goal.invariant-calls
invariant-calls g l = record {
  gone : (h : List OneEvent) → Stands g.C.Class.class_of l.fn.server h
      → Gone (dispatching (handlers_of l.iface (state_of l.fn.dispatcher).script))
      (IsWanting (handlers_of l.iface (state_of l.fn.dispatcher).script)) l.number
      (setup_of g.C.Class.class_of l.fn.server.node) l.made (g.X.Outside.ways l.fn.outside).line h
      (accepts (state_of l.fn.dispatcher).round.jobs)
      (turning_of (handlers_of l.iface (state_of l.fn.dispatcher).script) (state_of l.dispatcher).round)
      (Stands g.C.Class.class_of l.server) (g.X.Outside.told l.fn.outside) (g.X.Outside.told l.outside);
  remembered : Remembers (handlers_of l.iface (state_of l.dispatcher).script) (state_of l.dispatcher).round;
  script : (state_of l.dispatcher).script ≡ (state_of l.fn.dispatcher).script;
  setup : setup_of g.C.Class.class_of l.server.node ≡ setup_of g.C.Class.class_of l.fn.server.node;
  ways : g.X.Outside.ways l.outside ≡ g.X.Outside.ways l.fn.outside;
}
