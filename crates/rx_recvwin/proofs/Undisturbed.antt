-- A window whose slots keep their bytes is seen as before: what others do of the same pool.
use Rattle.std.proofs.Common.{◌≡◌, true, ℕ}
use Rattle.rx_pool.specs.Pool.{Slots, has, bytes_at}
use Rattle.rx_recvwin.specs.Window.{RecvWindow, window_of, packet_slots}
use Rattle.rx_recvwin.proofs.SlotLaws.{seen_same}

pub seen_undisturbed : (old new : Slots) (w : RecvWindow) →
    ((s : ℕ) → has s (packet_slots w) ≡ true → bytes_at new s ≡ bytes_at old s) → window_of new w ≡ window_of old w
seen_undisturbed old new w same =
    λ i. record {
      width = w.width;
      used = w.used;
      offset = w.offset;
      ahead = seen_same old new w.places same i;
      last = w.last;
      greatest = w.greatest;
      ended = w.ended;
      previous = w.previous;
    }
