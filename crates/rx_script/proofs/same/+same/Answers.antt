use Rattle.std.proofs.Common.{◌≡◌, ◌≢◌, length, sym, ◌∙◌}
use Rattle.xdr_value.specs.Fits.{count}
use Rattle.xdr_value.specs.View.{values_of}
use Rattle.rx_script.proofs.LoopLemmas.{counts_differ}
use Rattle.rx_script.proofs.same.+same.Goals as goal
use Rattle.xdr_value.proofs.Lists.{count-values}

pub same_values-returns-then-len : goal.same_values-returns-then-len
same_values-returns-then-len t c =
    let one = c.args.items.now.items in
    let other = c.args.others.now.items in
    let ones : c.len.result ≡ length one = c.len.ensures ∙ c.args.items.now.ok.0 in
    let others : c.len-2.result ≡ length other = c.len-2.ensures ∙ c.args.others.now.ok.0 in
    let differ : count (values_of one) ≢ count (values_of other) =
    λ e. c.if-len.true (ones ∙ (sym (count-values one) ∙ (e ∙ (count-values other ∙ sym others)))) in
    sym (counts_differ (values_of one) (values_of other) differ)
