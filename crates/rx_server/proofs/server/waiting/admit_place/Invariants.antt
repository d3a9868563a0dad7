use Rattle.std.proofs.Common.{◌≡◌, ◌<◌, ◌+◌, ◌*◌, ◌/◌, ℕ, true, length}
use Rattle.rx_queue.specs.Queue.{is_listed, is_ready}
use Rattle.rx_server.proofs.server.waiting.admit_place.Given as goal

-- the channels before are ready, those of them that came
abbrev pub invariant-loop-chan : goal.invariant-loop-chan
invariant-loop-chan l =
    record {
      order : l.firsts.order ≡ l.fn.firsts.order;
      room : length l.firsts.ready ≡ length l.fn.firsts.ready;
      keeps : (q : ℕ) → is_ready l.fn.firsts q ≡ true → is_ready l.firsts q ≡ true;
      each : (q : ℕ) → q / 4 ≡ l.place → q < 4 * l.place + l.chan → is_listed l.fn.firsts q ≡ true
          → is_ready l.firsts q ≡ true;
    }
