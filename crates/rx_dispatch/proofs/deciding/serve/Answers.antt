use Rattle.rx_jobs.specs.Handlers.{served_for}
use Rattle.rx_dispatch.proofs.deciding.serve.Goals as goal

pub returns : goal.returns
unfolding served_for
returns c = c.serve.ensures.exact
