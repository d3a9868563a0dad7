use Rattle.std.proofs.Common.{Some, inr}
use Rattle.rx_script.specs.Saying.{blocks_of}
use Rattle.rx_wire_loop.specs.Tells.{Told}
use Rattle.xg_check.specs.Meaning.{interface_of}
use Rattle.rx_top.specs.Inputs.{Reads}
use Rattle.rx_top.specs.Serves.{ServesAtKey}
use Rattle.rx_top.proofs.OutsideLemmas.{counts_then, wire_goes_on}
use Rattle.rx_top.proofs.serve.serve_over.Goals as goal

pub returns-in-Ok-clause-serve : goal.returns-in-Ok-clause-serve
returns-in-Ok-clause-serve g c =
    let told = g.X.Surroundings.told in
    let was = c.in-Ok.ensures in
    inr (
      blocks_of c.in-Ok.script.blocks.items,
      rw c.as_str.ensures at was.ok,
      wire_goes_on (λ (r : Reads) (a b : Told). ServesAtKey (interface_of c.args.iface.now)
          (blocks_of c.in-Ok.script.blocks.items) c.args.names.now c.args.serving.now c.serve_script.result r a b)
          (Some c.args.names.now.script) (told c.args.x.now) (told c.script_file.new.x) (told c.serve_script.new.x)
          was.counts was.only was.reads c.serve_script.ensures.serve,
    )

pub returns-in-Ok-clause-counts : goal.returns-in-Ok-clause-counts
returns-in-Ok-clause-counts g c = counts_then _ _ _ _ c.in-Ok.ensures.counts c.serve_script.ensures.counts
