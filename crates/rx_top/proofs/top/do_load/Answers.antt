use Rattle.std.proofs.Common.{inr}
use Rattle.rx_stage.specs.Tells.{Told}
use Rattle.rx_top.specs.Inputs.{Reads}
use Rattle.rx_top.specs.LoadLines.{LoadPuts, load_said}
use Rattle.rx_top.proofs.OutsideLemmas.{plan_said, says_behind}
use Rattle.rx_top.proofs.top.do_load.Goals as goal

pub returns-clause-load : goal.returns-clause-load
returns-clause-load g c =
    let told = g.X.Surroundings.told in
    let was = c.load_calls-outcome.ensures in (
      c.load_calls-outcome.result,
      c.status.ensures,
      inr (plan_said (λ (r : Reads) (a b : Told). LoadPuts c.args.number c.args.calls c.load_calls-outcome.result a b)
          (told c.args.x.now) (told c.load_calls-outcome.new.x) (told c.say_loaded.new.x) c.say_loaded.ensures.only
          was.load),
      says_behind (told c.args.x.now) (told c.load_calls-outcome.new.x) (told c.say_loaded.new.x)
          (load_said c.load_calls-outcome.result) was.silent c.say_loaded.ensures.said,
    )
