use Rattle.std.proofs.Common.{Some, inr}
use Rattle.rx_wire_loop.specs.Tells.{Told}
use Rattle.xg_check.specs.Meaning.{interface_of}
use Rattle.rx_top.specs.Calls.{CallsAtProc}
use Rattle.rx_top.specs.Inputs.{Reads}
use Rattle.rx_top.proofs.OutsideLemmas.{counts_then, wire_goes_on}
use Rattle.rx_top.proofs.call.call_files.Goals as goal

pub returns-in-Ok-clause-call : goal.returns-in-Ok-clause-call
returns-in-Ok-clause-call g c =
    let told = g.X.Surroundings.told in
    let was = c.in-Ok.ensures in
    inr (
      interface_of c.in-Ok.iface,
      rw c.as_str.ensures at was.ok,
      wire_goes_on (λ (r : Reads) (a b : Told). CallsAtProc (interface_of c.in-Ok.iface) c.args.asked.now
          c.args.calling.now c.call_over.result r a b) (Some c.args.asked.now.xg) (told c.args.x.now)
          (told c.read_interface.new.x) (told c.call_over.new.x) was.counts was.only was.reads
          c.call_over.ensures.call,
    )

pub returns-in-Ok-clause-counts : goal.returns-in-Ok-clause-counts
returns-in-Ok-clause-counts g c = counts_then _ _ _ _ c.in-Ok.ensures.counts c.call_over.ensures.counts
