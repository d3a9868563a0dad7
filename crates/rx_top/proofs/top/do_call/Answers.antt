use Rattle.std.proofs.Common.{inr}
use Rattle.rx_wire_loop.specs.Tells.{Told}
use Rattle.rx_top.specs.Calls.{CallsAtXg}
use Rattle.rx_top.specs.Inputs.{Reads}
use Rattle.rx_top.specs.Wires.{wire_said as said_of}
use Rattle.rx_top.proofs.OutsideLemmas.{says_behind, wire_said}
use Rattle.rx_top.proofs.top.do_call.Goals as goal

pub returns-clause-call : goal.returns-clause-call
returns-clause-call g c =
    let told = g.X.Surroundings.told in
    let was = c.call_files-outcome.ensures in (
      c.call_files-outcome.result,
      c.status.ensures,
      inr (wire_said (λ (r : Reads) (a b : Told). CallsAtXg c.args.asked.now c.args.calling.now
          c.call_files-outcome.result r a b) (told c.args.x.now) (told c.call_files-outcome.new.x)
          (told c.say_ended.new.x) c.say_ended.ensures.only was.call),
      was.unnoted,
      says_behind (told c.args.x.now) (told c.call_files-outcome.new.x) (told c.say_ended.new.x)
          (said_of c.call_files-outcome.result) was.silent c.say_ended.ensures.said,
    )
