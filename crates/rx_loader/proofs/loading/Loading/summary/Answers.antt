use Rattle.rx_loader.proofs.Summed.{summary_is}
use Rattle.rx_loader.proofs.loading.Loading.summary.Goals as goal

pub returns : goal.returns
returns c =
    λ l shown.
    summary_is _ c.args.self.now l c.args.calls _ _ _ c.self.view_is shown c.as_slice.ensures c.as_slice-2.ensures.value
    c.sum_up.ensures
