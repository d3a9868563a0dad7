use Rattle.std.proofs.Common.{◌∙◌, arith, sym}
use Rattle.rx_load.specs.Loads.{has_ended}
use Rattle.rx_loader.proofs.Clients.{all_fail, all_more}
use Rattle.rx_loader.proofs.loading.Loading.all_ended.Goals as goal

pub returns-then-not-has_ended : goal.returns-then-not-has_ended
returns-then-not-has_ended c =
    λ l shown.
    sym (c.loop-client.invariant.rest l shown
    ∙ all_fail (has_ended c.args.calls l) c.loop-client.client c.loop-client.invariant.from_one (omega arith)
    (sym (c.if-not-has_ended.ensures l shown)))

pub loop-client-preserved : goal.loop-client-preserved
loop-client-preserved c =
    record {
      from_one = omega arith;
      rest =
          λ l shown.
          c.loop-client.invariant.rest l shown
          ∙ all_more (has_ended c.args.calls l) c.loop-client.client c.loop-client.invariant.from_one (omega arith)
          (sym (c.if-not-has_ended.ensures l shown));
    }
