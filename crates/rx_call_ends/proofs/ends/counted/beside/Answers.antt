use Rattle.std.proofs.Common.{◌∙◌, sym, arith}
use Rattle.rx_call.proofs.Leads.{lead_some}
use Rattle.rx_call_ends.proofs.ends.counted.beside.Goals as goal

pub overflow_sub-result : goal.overflow_sub-result
overflow_sub-result c =
    let some = lead_some c.args.call.now (sym c.lead.ensures.value ∙ c.if-lead.true) in
    omega (arith, some, c.held-held.ensures.count)
