use Rattle.std.proofs.Common.{◌∙◌}
use Rattle.rx_dispatch.specs.Desks.{handlers_at}
use Rattle.rx_dispatch.proofs.round.Round.seek.Goals as goal

pub jobs-preserved : goal.jobs-preserved
jobs-preserved c = record {
  same = c.pass.ensures.same (handlers_at c.args.desk.now) ∙ c.resolve.ensures.same ∙ c.jobs.invariant.same;
  serving = c.pass.ensures.serving;
  remembered = c.pass.ensures.remembered (handlers_at c.args.desk.now);
}
