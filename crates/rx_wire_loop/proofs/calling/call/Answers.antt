use Rattle.std.proofs.Common.{inr, refl}
use Rattle.rx_wire_loop.specs.Tells.{told}
use Rattle.rx_wire_loop.proofs.calling.call.Goals as goal

pub returns-in-Ok-clause-calls : goal.returns-in-Ok-clause-calls
returns-in-Ok-clause-calls g c =
    λ sink. inr (
      c.in-Ok.host,
      told _ sink _,
      refl,
      refl,
      c.in-Ok.ensures.ok,
      c.in-Ok.ensures.same,
      c.in-Ok.ensures.same_moment,
      c.call_from.ensures.calls sink,
    )
