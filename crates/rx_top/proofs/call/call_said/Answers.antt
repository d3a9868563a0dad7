use Rattle.std.proofs.Common.{inr}
use Rattle.rx_wire_loop.specs.Tells.{Told}
use Rattle.rx_top.specs.Asked.{asked_by}
use Rattle.rx_top.specs.Calls.{CallsAtKey}
use Rattle.rx_top.specs.Inputs.{Reads}
use Rattle.rx_top.proofs.OutsideLemmas.{counts_then, wire_goes_on}
use Rattle.rx_top.proofs.call.call_said.Goals as goal

pub returns-in-Ok-clause-call : goal.returns-in-Ok-clause-call
returns-in-Ok-clause-call g c =
    let told = g.X.Surroundings.told in
    let was = c.in-Ok.ensures in
    inr (
      c.in-Ok.sent.items,
      was.ok,
      wire_goes_on (λ (r : Reads) (a b : Told). CallsAtKey (asked_by c.args.what.now) c.args.asked.now
          c.args.calling.now c.in-Ok.sent.items c.call_sent.result r a b) c.args.asked.now.up (told c.args.x.now)
          (told c.sent_with.new.x) (told c.call_sent.new.x) was.counts was.only was.reads c.call_sent.ensures.call,
    )

pub returns-in-Ok-clause-counts : goal.returns-in-Ok-clause-counts
returns-in-Ok-clause-counts g c = counts_then _ _ _ _ c.in-Ok.ensures.counts c.call_sent.ensures.counts
