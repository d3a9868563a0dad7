-- A call whose slots keep their bytes stands for what it stood for; an idle one holds none.
use Rattle.std.proofs.Common.{◌≡◌, ◌++◌, true, ℕ, [], sym, ap, ◌∙◌, subst}
use Rattle.rx_rules.specs.CallLooks.{CallLooks}
use Rattle.rx_pool.specs.Pool.{Slots, has, bytes_at}
use Rattle.rx_pool.proofs.Beside.{has_left, has_right}
use Rattle.rx_recvwin.specs.Window.{Window, StandsFor, packet_slots}
use Rattle.rx_recvwin.proofs.Undisturbed.{seen_undisturbed}
use Rattle.rx_sendwin.specs.Window.{piece_slots}
use Rattle.rx_sendwin.proofs.Undisturbed.{stands_undisturbed}
use Rattle.rx_call.specs.Standing.{EndOfCall, StandsCall, IsIdle, slots_of}

pub call_undisturbed : (old new : Slots) (c : EndOfCall) (k : CallLooks) → StandsCall old c k →
    ((s : ℕ) → has s (slots_of c) ≡ true → bytes_at new s ≡ bytes_at old s) → StandsCall new c k
call_undisturbed old new c k st same =
    let received =
    seen_undisturbed old new c.received
    (λ s h. same s (has_left s (packet_slots c.received) (piece_slots c.sent) h)) in
    record {
      received = subst (λ (v : Window). StandsFor v k.received) (sym received) st.received;
      sent =
          stands_undisturbed old new c.sent k.sent st.sent
          (λ s h. same s (has_right s (packet_slots c.received) (piece_slots c.sent) h));
      rtt = st.rtt;
      cwnd = st.cwnd;
      owed = st.owed;
      heard = st.heard;
      spoke = st.spoke;
    }

pub idle_slots : (c : EndOfCall) → IsIdle c → slots_of c ≡ []
idle_slots c idle = ap (λ ss. ss ++ piece_slots c.sent) idle.packets ∙ idle.pieces
