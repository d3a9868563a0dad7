-- Which of the channels that are listed are ready, where a call starts on another one.
use Rattle.std.proofs.Common.{◌≡◌, ◌<◌, ◌||◌, ◌==◌, ◌/◌, ◌∙◌, ℕ, not, is_some, Bool, false, List, Option, ap, sym}
use Rattle.std.specs.Prelude.{slice_get, unwrap_or}
use Rattle.rx_model.specs.declared.names.CallName.{CallName}
use Rattle.rx_model.specs.Names.{channel_of}
use Rattle.rx_rules.specs.Life as lives
use Rattle.rx_rules.specs.Looks.{Looks, channel_at, fresh_channel}
use Rattle.rx_rules.specs.Records.{started}
use Rattle.rx_rules.specs.Setup.{Setup}
use Rattle.rx_rules.proofs.EveryLaws.{Every}
use Rattle.rx_history.proofs.Order.Orderly.{Orderly}
use Rattle.rx_queue.specs.Queue.{QueueState}
use Rattle.rx_node.specs.Mirrors.{IsChannel}
use Rattle.rx_books.proofs.ProvedClients.{proofs_channel}
use Rattle.rx_server.specs.Server.{ReadyStand}
use Rattle.rx_server.proofs.FirstsLaws.{at_alike}
use Rattle.rx_server.proofs.ReadyLaws.{FallsAt, every_map, ready_alike}

-- they stay ready
pub ready_started : (s : Setup) (c : CallName) (key : ℕ) (l : Looks) → IsChannel l key (channel_of c) → Orderly s l
    → (channel_at l (channel_of c)).number < c.number → (b : Bool) (q : QueueState)
    → Every (λ k. (k == key) ≡ false) q.order → ReadyStand b q l → ReadyStand b q (started s lives.Waiting c l)
ready_started s c key l at o above b q others =
    ready_alike b q l (started s lives.Waiting c l)
    (every_map (λ k. (k == key) ≡ false) (FallsAt b l (started s lives.Waiting c l)) q.order
    (λ k other waiting admitted. (
      ap (λ (w : Option CallName). is_some w) (sym (at_alike s c key l at o above k other).0) ∙ waiting,
      ap (λ (ps : List Bool). not b || unwrap_or (slice_get ps (k / 4)) false)
          (sym (proofs_channel (channel_of c) (λ q. fresh_channel c.number) l)) ∙ admitted,
    )) others)
