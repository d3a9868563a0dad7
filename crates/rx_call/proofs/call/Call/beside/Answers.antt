use Rattle.std.proofs.Common.{◌≡◌, ◌∙◌, ap, cond, sym, arith}
use Rattle.rx_call.specs.Standing.{leadless}
use Rattle.rx_call.proofs.Leads.{lead_some}
use Rattle.rx_call.proofs.call.Call.beside.Goals as goal

pub overflow_sub-result : goal.overflow_sub-result
overflow_sub-result c =
    let some = lead_some c.args.self.now (sym c.lead.ensures.value ∙ c.if-lead.true) in
    omega (arith, some, c.held-held.ensures.count)

pub returns-then-lead-clause-count : goal.returns-then-lead-clause-count
returns-then-lead-clause-count c =
    let lead = sym c.lead.ensures.value ∙ c.if-lead.true in
    let some = lead_some c.args.self.now lead in
    let none : leadless c.args.self.now ≡ 0 = ap (λ b. cond b 0 1) lead in
    omega (arith, some, c.held-held.ensures.count, none)
