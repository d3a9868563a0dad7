use Rattle.std.proofs.Common.{ap, subst}
use Rattle.rx_base.specs.Sink.{Gained, GainedSome}
use Rattle.rx_wire_loop.specs.Tells.{SinkTells}
use Rattle.rx_top.proofs.LoadLemmas.{text_put}
use Rattle.rx_top.proofs.load.load_calls.Goals as goal

pub returns-in_default-clause-load : goal.returns-in_default-clause-load
returns-in_default-clause-load g c = (
  (c.load.result, record { load = c.load.ensures.load; promises = c.load.ensures.promises }),
  ap (λ (s : SinkTells). s.put) c.load.ensures.out,
)

pub returns-in-Ok-put-clause-load : goal.returns-in-Ok-put-clause-load
returns-in-Ok-put-clause-load g c =
    let told = g.X.Surroundings.told in
    let made = c.in-Ran.ensures in (
      c.as_bytes.result.now,
      text_put c.args.number c.args.calls c.in-Ran.summary (told c.args.x.now) (told c.load.new.self)
          (told c.put.new.self) c.as_bytes.result.now made.load made.promises c.put.ensures.only
          (rw c.as_bytes.ensures.value c.in-Ok.ensures),
      subst (λ (s : SinkTells). Gained s.put (told c.put.new.self).out.put c.as_bytes.result.now) made.out
          c.in-Ok-put.ensures.puts.0,
    )

pub returns-clause-load : goal.returns-clause-load
returns-clause-load g c =
    let told = g.X.Surroundings.told in
    let made = c.in-Ran.ensures in (
      c.as_bytes.result.now,
      text_put c.args.number c.args.calls c.in-Ran.summary (told c.args.x.now) (told c.load.new.self)
          (told c.put.new.self) c.as_bytes.result.now made.load made.promises c.put.ensures.only
          (rw c.as_bytes.ensures.value c.in-Ok.ensures),
      subst (λ (s : SinkTells). GainedSome s.put (told c.put.new.self).out.put c.as_bytes.result.now) made.out
          c.in-Err.ensures.puts.0,
    )
