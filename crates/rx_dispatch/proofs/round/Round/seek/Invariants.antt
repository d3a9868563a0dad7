use Rattle.std.proofs.Common.{◌≡◌, ◌-◌, length}
use Rattle.rx_dispatch.specs.Rounds.{turning_of}
use Rattle.rx_dispatch.specs.Desks.{handlers_at}
use Rattle.rx_dispatch.specs.Making.{Remembers}
use Rattle.rx_dispatch.specs.States.{round_of}
use Rattle.rx_dispatch.specs.declared.round.Stage.TheVariants as stages
use Rattle.rx_dispatch.proofs.round.Round.seek.Given as goal

-- what is seen of the turn stays
abbrev pub invariant-jobs : goal.invariant-jobs
invariant-jobs l = record {
  same : turning_of (handlers_at l.desk) (round_of l.self) ≡ turning_of (handlers_at l.desk) (round_of l.initial.self);
  serving : l.self.stage ≡ stages.Serving;
  remembered : Remembers (handlers_at l.desk) (round_of l.self);
}

abbrev pub decreases-jobs : goal.decreases-jobs
decreases-jobs l = length l.self.jobs.items - l.self.place
