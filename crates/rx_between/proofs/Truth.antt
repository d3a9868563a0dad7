-- What a client takes for acknowledged its server has: every step of either end leaves that so, late ACKs too.
use Rattle.std.proofs.Common.{◌≡◌, ℕ, ◌+◌, ◌-◌, true, false, cond}
use Rattle.std.proofs.Common.{Some, arith, nat_lt}
use Rattle.rx_rules.specs.Received.{Received, used_of, marks_of}
use Rattle.rx_rules.specs.Sent.{Sent, after_ack, is_marked}
use Rattle.rx_rules.specs.Sent as streams
use Rattle.rx_between.specs.Acknowledged.{AreTrue}
use Rattle.rx_between.specs.Told.{Grows}
use Rattle.rx_between.proofs.Marks.{told_soft}

-- ---- the ends stay true to each other

-- as the server receives more
pub true_grown : (c : Sent) (before after_it : Received) → Grows before after_it → AreTrue c before → AreTrue c after_it
true_grown c before after_it grows truth =
    record { hard = omega (arith, truth.hard, grows.used); soft = λ k low marks. grows.kept k (truth.soft k low marks) }

-- as an ACK comes that the server gave then, however late: a stale one changes nothing
pub true_told : (c : Sent) (then_ now_ : Received) (w : ℕ) → Grows then_ now_ → AreTrue c now_
    → AreTrue (after_ack (used_of then_ + 1) (marks_of then_) (Some w) c) now_
true_told c then_ now_ w grows truth =
    let less : used_of then_ + 1 - 1 ≡ used_of then_ = omega arith in
    rw less
    ((elim (nat_lt (used_of then_) c.acked)
    as (λ b. AreTrue (cond b c (record c {
      acked = used_of then_;
      soft = is_marked (used_of then_ + 1)
          (marks_of then_);
      peer_window = streams.with_window (Some w) c.peer_window;
    })) now_) [
      | true ↦ truth
      | false ↦ record { hard = grows.used; soft = λ k low marks. grows.kept k (told_soft then_ k marks) }
    ]))
