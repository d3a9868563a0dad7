use Rattle.rx_plan.proofs.Givings.Answered.{plan_aborts, plan_answers, plan_causes, plan_ends}
use Rattle.rx_plan.proofs.laws.plans_answer_as_served.Goals as goal

pub returns : goal.returns
returns c =
    record {
      ok = λ g ls es s servable well driven distinct goes premise.
          plan_answers g ls es s well driven distinct goes premise servable;
      ended = plan_ends;
      caused = plan_causes;
      aborted = plan_aborts;
    }
