use Rattle.rx_jobs.specs.Handlers.{answer_to}
use Rattle.rx_dispatch.proofs.deciding.read.Goals as goal

pub returns : goal.returns
unfolding answer_to
returns c = c.read_request.ensures
