use Rattle.std.proofs.Common.{◌∙◌, refl, ap}
use Rattle.rx_rules.specs.Rates.{first_rtt, first_cwnd}
use Rattle.rx_call.specs.Standing.{EndOfCall}
use Rattle.rx_call.proofs.call.Call.start.Goals as goal

pub returns-clause-stands : goal.returns-clause-stands
returns-clause-stands c =
    let idle = (rw (← c.self.view_is) at c.requires.idle) in
    λ pool. record {
      received = idle.received pool;
      sent = idle.sent pool;
      rtt = c.new-self-inside.ensures ∙ ap (λ (e : EndOfCall). first_rtt e.pace.prompt) c.self.view_is;
      cwnd = c.new-self-inside-2.ensures
          ∙ ap (λ (e : EndOfCall). first_cwnd e.pace.window e.pace.prompt) c.self.view_is;
      owed = refl;
      heard = refl;
      spoke = refl;
    }
