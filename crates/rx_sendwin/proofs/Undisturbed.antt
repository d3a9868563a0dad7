-- A window whose slots keep their bytes stands for what it stood for: what others do of the same pool.
use Rattle.std.proofs.Common.{◌≡◌, ◌∙◌, ap, get_or, [], List, true, ℕ}
use Rattle.rx_rules.specs.Sent.{Sent}
use Rattle.rx_pool.specs.Pool.{Slots, has, bytes_at}
use Rattle.rx_sendwin.specs.Window.{SendWindow, StandsSent, piece_slots}
use Rattle.rx_sendwin.proofs.PieceLaws.{seen_same}

pub stands_undisturbed : (old new : Slots) (w : SendWindow) (s : Sent) → StandsSent old w s →
    ((t : ℕ) → has t (piece_slots w) ≡ true → bytes_at new t ≡ bytes_at old t) → StandsSent new w s
stands_undisturbed old new w s st same =
    record {
      total = st.total;
      shut = st.shut;
      acked = st.acked;
      given = st.given;
      soft = st.soft;
      peer = st.peer;
      pieces = λ i. ap (λ (ps : List (List ℕ)). get_or ps i []) (seen_same old new w.pieces same) ∙ st.pieces i;
      givings = st.givings;
      orders = st.orders;
      since = st.since;
    }
