use Rattle.std.proofs.Common.{◌∙◌, ◌&&◌, ◌||◌, sym}
use Rattle.rx_rules.specs.Sent.{is_all_known}
use Rattle.rx_call.proofs.call.Call.is_delivered.Goals as goal

pub returns-then-recovers : goal.returns-then-recovers
returns-then-recovers c =
    record {
      answered = λ pool k st.
          (let here = (rw (← c.self.view_is) at st) in
          let acked = sym (c.all_acked.ensures.answered pool k.sent here.sent) ∙ c.if-all_acked.false in
          let prompt = sym (c.recovers.ensures ∙ (λ i. (here.cwnd i).prompt)) ∙ c.if-recovers.true in
          c.all_known.ensures.answered pool k.sent here.sent
          ∙ (λ i. sym acked i || (sym prompt i && is_all_known k.sent)));
    }
