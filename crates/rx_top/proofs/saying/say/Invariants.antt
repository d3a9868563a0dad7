use Rattle.std.proofs.Common.{◌≡◌, take}
use Rattle.std.specs.List.{flat_map}
use Rattle.rx_base.specs.Sink.{Gained}
use Rattle.rx_top.proofs.saying.say.Given as goal

-- the parts so far were put, and no fault was counted
abbrev pub invariant-loop-part : goal.invariant-loop-part
invariant-loop-part g l = record {
  told : Gained (g.E.Sink.told l.initial.err) (g.E.Sink.told l.err)
      (flat_map (λ part. part.now) (take l.part-index l.parts));
  faults : g.E.Sink.faults l.err ≡ g.E.Sink.faults l.initial.err;
}
