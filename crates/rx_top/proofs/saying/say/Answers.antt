use Rattle.std.proofs.Common.{◌≡◌, ◌∙◌, false, true, is_err, refl, sym}
use Rattle.rx_base.proofs.SinkLemmas.{gained_none}
use Rattle.rx_top.proofs.TopLemmas.{all_put, gained_part, not_err, on_err, some_put}
use Rattle.rx_top.proofs.saying.say.Goals as goal

pub loop-part-init : goal.loop-part-init
loop-part-init g c = record { told = gained_none (g.E.Sink.told c.args.err.now); faults = refl }

pub loop-part-preserved : goal.loop-part-preserved
loop-part-preserved g c =
    let was : is_err c.put.result ≡ false = sym c.is_err.ensures.value ∙ c.if-is_err.false in
    record {
      told = gained_part (λ part. part.now) c.args.parts.now _ _ _ c.loop-part.part-index _ c.as_bytes.result.now
          c.loop-part-test.true c.loop-part.invariant.told c.as_bytes.ensures.value
          (not_err c.put.result _ was c.put.ensures.ok);
      faults = not_err c.put.result _ was c.put.ensures.same ∙ c.loop-part.invariant.faults;
    }

pub returns-then-is_err : goal.returns-then-is_err
returns-then-is_err g c =
    let was : is_err c.put.result ≡ true = sym c.is_err.ensures.value ∙ c.if-is_err.true in
    some_put (λ part. part.now) c.args.parts.now _ _ _ _ _ _ c.loop-part.part-index _ c.as_bytes.result.now
    c.loop-part-test.true c.loop-part.invariant.told c.loop-part.invariant.faults c.as_bytes.ensures.value
    (on_err c.put.result _ was c.put.ensures.err) (on_err c.put.result _ was c.put.ensures.counted)

pub returns : goal.returns
returns g c =
    all_put (λ part. part.now) c.args.parts.now _ _ _ _ c.loop-part.part-index
    c.loop-part-test.false c.loop-part.invariant.told c.loop-part.invariant.faults
