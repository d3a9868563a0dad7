-- Both directions of a call are at rest; and an end that stands, and stands on, stands throughout.
use Rattle.std.proofs.Common.{refl, ◌∙◌}
use Rattle.rx_rules.specs.CallLooks.{CallLooks}
use Rattle.rx_closing.proofs.Ends.BothEnds.{Ends, RestsOn, Stood}

-- ---- rounds on end

pub stood_same : (k : CallLooks) → Stood k k
stood_same k =
    record { pieces = refl; given = refl; acked = refl; shut = refl; front = refl; used = refl; ended = refl }

pub stood_then : (a b c : CallLooks) → Stood a b → Stood b c → Stood a c
stood_then a b c p q =
    record {
      pieces = q.pieces ∙ p.pieces;
      given = q.given ∙ p.given;
      acked = q.acked ∙ p.acked;
      shut = q.shut ∙ p.shut;
      front = q.front ∙ p.front;
      used = q.used ∙ p.used;
      ended = q.ended ∙ p.ended;
    }

-- ---- each end comes to know all that the other is done with

-- both directions are at rest
pub record Rest (e : Ends) : Type 0 where
  pub request : RestsOn e.client.sent e.server.received
  pub reply : RestsOn e.server.sent e.client.received
