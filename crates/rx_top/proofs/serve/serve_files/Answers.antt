use Rattle.std.proofs.Common.{Some, inr}
use Rattle.rx_wire_loop.specs.Tells.{Told}
use Rattle.xg_check.specs.Meaning.{interface_of}
use Rattle.rx_top.specs.Inputs.{Reads}
use Rattle.rx_top.specs.Serves.{ServesAtScript}
use Rattle.rx_top.proofs.OutsideLemmas.{counts_then, wire_goes_on}
use Rattle.rx_top.proofs.serve.serve_files.Goals as goal

pub returns-in-Ok-clause-serve : goal.returns-in-Ok-clause-serve
returns-in-Ok-clause-serve g c =
    let told = g.X.Surroundings.told in
    let was = c.in-Ok.ensures in
    inr (
      interface_of c.in-Ok.iface,
      rw c.as_str.ensures at was.ok,
      wire_goes_on (λ (r : Reads) (a b : Told). ServesAtScript (interface_of c.in-Ok.iface) c.args.names.now
          c.args.serving.now c.serve_over.result r a b) (Some c.args.names.now.xg) (told c.args.x.now)
          (told c.read_interface.new.x) (told c.serve_over.new.x) was.counts was.only was.reads
          c.serve_over.ensures.serve,
    )

pub returns-in-Ok-clause-counts : goal.returns-in-Ok-clause-counts
returns-in-Ok-clause-counts g c = counts_then _ _ _ _ c.in-Ok.ensures.counts c.serve_over.ensures.counts
