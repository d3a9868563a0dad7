use Rattle.std.proofs.Common.{inr}
use Rattle.rx_wire_loop.specs.Tells.{Told}
use Rattle.rx_top.specs.Inputs.{Reads}
use Rattle.rx_top.specs.Serves.{ServesAtXg}
use Rattle.rx_top.specs.Wires.{wire_said as said_of}
use Rattle.rx_top.proofs.OutsideLemmas.{says_behind, wire_said}
use Rattle.rx_top.proofs.top.do_serve.Goals as goal

pub returns-clause-serve : goal.returns-clause-serve
returns-clause-serve g c =
    let told = g.X.Surroundings.told in
    let was = c.serve_files-outcome.ensures in (
      c.serve_files-outcome.result,
      c.status.ensures,
      inr (wire_said (λ (r : Reads) (a b : Told). ServesAtXg c.args.names.now c.args.serving.now
          c.serve_files-outcome.result r a b) (told c.args.x.now) (told c.serve_files-outcome.new.x)
          (told c.say_ended.new.x) c.say_ended.ensures.only was.serve),
      was.unnoted,
      says_behind (told c.args.x.now) (told c.serve_files-outcome.new.x) (told c.say_ended.new.x)
          (said_of c.serve_files-outcome.result) was.silent c.say_ended.ensures.said,
    )
