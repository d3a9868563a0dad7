use Rattle.std.proofs.Common.{List, Option, take}
use Rattle.rx_model.specs.declared.event.Noted.{Noted}
use Rattle.xdr_value.specs.View.{procs_of, types_of}
use Rattle.rx_plan.specs.Answers.{answer_lines}
use Rattle.rx_stage.specs.Runs.{PutsAll}
use Rattle.rx_stage.specs.Tells.{told}
use Rattle.rx_stage.proofs.world.World.answers.Given as goal

abbrev pub invariant-loop-invoked : goal.invariant-loop-invoked
invariant-loop-invoked g l =
    (noted : Option (List Noted)) → PutsAll (told noted (g.O.Sink.told l.fn.out) (g.O.Sink.faults l.fn.out))
    (told noted (g.O.Sink.told l.out) (g.O.Sink.faults l.out))
    (answer_lines (types_of l.iface.types.items) (procs_of l.iface.procs.items) l.plan
    (take l.invoked-index l.self.callers))
