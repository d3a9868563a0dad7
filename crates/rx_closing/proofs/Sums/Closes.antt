-- No stretch of rounds is without a step for long, so fair rounds close all calls that live as they begin, where each
-- node is spacious for them.
use Rattle.std.proofs.Common.{List}
use Rattle.rx_history.specs.Sides.{Node}
use Rattle.rx_script.specs.declared.plan.Numbered.{Numbered}
use Rattle.rx_jobs.specs.Handlers.{Handlers}
use Rattle.rx_plan.specs.Answering.{AreServable}
use Rattle.rx_closing.proofs.Late.NeverLate.{never_long}
use Rattle.rx_closing.proofs.Owing.StillIn.{all_bare}
use Rattle.rx_closing.proofs.Rounds.Clocks.{chain_early}
use Rattle.rx_closing.proofs.Sums.ClosesSpacious.{ClosesSpacious, EarlyOn, NeverLong, closes_spacious}
use Rattle.rx_closing.proofs.Together.JobsAre.{jobs_go}

-- no stretch has 200 rounds for each of its calls and one more
never : (g : Handlers) (ls : List Numbered) (server : Node) → AreServable g → NeverLong g ls server
never g ls server servable ms s u stretch =
    never_long g ls server servable (jobs_go g ls server servable)
    (λ those n v w z. all_bare g ls servable server (jobs_go g ls server servable) those n v w z) ms s u stretch

early_on : EarlyOn
early_on c k client server g m n s u t front rest one living later early j =
    chain_early c k client server g m n s u t front rest one living later early j

-- all calls that live as rounds begin are closed, where each node is spacious for them
pub all_closed : ClosesSpacious
all_closed = closes_spacious early_on jobs_go never
