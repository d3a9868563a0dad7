use Rattle.std.proofs.Common.{Bool, None, refl, subst}
use Rattle.rx_dispatch.specs.Rounds.{Passes, RoundState}
use Rattle.rx_dispatch.specs.States.{round_of}
use Rattle.rx_dispatch.specs.declared.job.Next.TheVariants as nexts
use Rattle.rx_dispatch.proofs.RoundLaws.{passes_on}
use Rattle.rx_dispatch.proofs.round.Round.pass.Goals as goal

pub returns-clause-same : goal.returns-clause-same
returns-clause-same c =
    let old : RoundState = round_of c.args.self.now in
    let new : RoundState = record {
      jobs = c.pass-self.new.jobs.items;
      stage = old.stage;
      place = c.pass-self.result;
      next = nexts.Begin;
      found = None;
    } in
    λ g. passes_on g old new c.args.phase c.requires.none c.requires.serving c.requires.serving refl
    (subst (λ (b : Bool). Passes old.jobs new.jobs old.place new.place b) c.stays.ensures c.pass-self.ensures)
