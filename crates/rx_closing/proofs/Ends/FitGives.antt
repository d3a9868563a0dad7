-- What an end of a call that isn't prompt has by itself is left by what it gives.
use Rattle.std.proofs.Common.{◌≡◌, ◌<◌, ◌≤◌, ◌⊎◌, is_some, max, nat_lt, ℕ, suc, Bool, true, false, List, ◌∷◌, Option}
use Rattle.std.proofs.Common.{Some, None, refl, ap, sym, ◌∙◌, inl, inr, ⊎_elim, arith}
use Rattle.std.proofs.lemmas.Bool.{and_parts, cases_eq, cases_lt, eq-eqb, ltb-true, ne_eqb}
use Rattle.rx_model.specs.declared.wire.TheConstants.{ACK_PING}
use Rattle.rx_model.specs.Message.{Message}
use Rattle.rx_rules.specs.CallItems.{Sending, Piece, Ack, after_sending, sending_seq}
use Rattle.rx_rules.specs.CallLooks.{CallLooks, NodeView, is_timed_out, slowed}
use Rattle.rx_rules.specs.Lost.{halves}
use Rattle.rx_rules.specs.Owing.{Owed}
use Rattle.rx_rules.specs.Sent.{Giving, counting_of, given_of, greatest_given, last_giving, lowest_of, orders_of}
use Rattle.rx_rules.specs.Sent as streams
use Rattle.rx_rules.specs.Setup.{Setup}
use Rattle.rx_rules.proofs.SentLaws.{given-within}
use Rattle.rx_closing.proofs.Ends.BothEnds.{GivenBy, IsFit}
use Rattle.rx_closing.proofs.Ends.FrozenPolls.{acked_none, plain_sending}
use Rattle.rx_closing.proofs.Ends.NextGiven.{NextOf, is_again, is_fresh, is_owed, is_ping, is_view_at, next_is, view_at}
use Rattle.rx_closing.proofs.Steps.{GivesOut, gives_none, gives_one}

-- ---- a giving

-- the last giving of each piece is known with one more, of the next piece or of one that was given
known-more : (now seq : ℕ) (gs : List Giving) → seq ≤ suc (greatest_given gs)
    → ((j : ℕ) → 1 ≤ j → j ≤ greatest_given gs → GivenBy now gs j)
    → (j : ℕ) → 1 ≤ j → j ≤ max seq (greatest_given gs) → GivenBy now (record { seq = seq; moment = now } ∷ gs) j
known-more now seq gs next known j low high =
    elim (cases_eq seq j) as (λ c. GivenBy now (record { seq = seq; moment = now } ∷ gs) j) [
      | inl same ↦ record {
        last = record { moment = now; again = is_some (last_giving gs j); order = suc (orders_of gs) };
        is = rw (eq-eqb seq j same) refl;
        by = omega arith;
      }
      | inr other ↦ (let before = known j low (within other) in record {
        last = before.last;
        is = rw (ne_eqb seq j other) before.is;
        by = before.by;
      })
    ]
  where
    within : (seq ≡ j → ⊥) → j ≤ greatest_given gs
    within other =
        elim (cases_lt (greatest_given gs) j) as (λ c. j ≤ greatest_given gs) [
          | inl above ↦ absurd (other (omega arith))
          | inr below ↦ below
        ]

fit-piece : (now seq : ℕ) (again : Bool) (k : CallLooks) → IsFit now k
    → (seq ≤ given_of k.sent) ⊎ ((seq ≡ suc (given_of k.sent)) × (given_of k.sent < counting_of k.sent))
    → IsFit now (after_sending now (Piece seq again) k)
fit-piece now seq again k fit may = of (is_timed_out k seq) (halves k.cwnd k.sent seq)
  where
    next : seq ≤ suc (given_of k.sent)
    next =
        ⊎_elim (λ (old : seq ≤ given_of k.sent). omega (arith, old))
        (λ (new : (seq ≡ suc (given_of k.sent)) × (given_of k.sent < counting_of k.sent)).
        (let is = new.0 in omega (arith, is))) may

    counts : max seq (given_of k.sent) ≤ counting_of k.sent
    counts =
        ⊎_elim (λ (old : seq ≤ given_of k.sent). (let before = fit.counts in omega (arith, old, before)))
        (λ (new : (seq ≡ suc (given_of k.sent)) × (given_of k.sent < counting_of k.sent)).
        (let is = new.0 in let low = new.1 in omega (arith, is, low))) may

    of : (up half : Bool)
        → IsFit now (record (slowed up half k) {
          sent = streams.after_giving now seq (streams.after_time up k.sent);
          spoke = now;
        })
    of true half =
        record {
          steady = fit.steady;
          most = fit.most;
          open_ = omega arith;
          lets = fit.lets;
          even = fit.even;
          soon = omega arith;
          slow = (let before = fit.slow in omega (arith, before));
          known = known-more now seq k.sent.givings next fit.known;
          spoke = omega arith;
          heard = fit.heard;
          low = fit.low;
          plain = fit.plain;
          acked = (let low = fit.acked in omega (arith, low));
          counts = counts;
        }
    of false true =
        record {
          steady = fit.steady;
          most = fit.most;
          open_ = omega arith;
          lets = fit.lets;
          even = fit.even;
          soon = fit.soon;
          slow = fit.slow;
          known = known-more now seq k.sent.givings next fit.known;
          spoke = omega arith;
          heard = fit.heard;
          low = fit.low;
          plain = fit.plain;
          acked = (let low = fit.acked in omega (arith, low));
          counts = counts;
        }
    of false false =
        record {
          steady = fit.steady;
          most = fit.most;
          open_ = fit.open_;
          lets = fit.lets;
          even = fit.even;
          soon = fit.soon;
          slow = fit.slow;
          known = known-more now seq k.sent.givings next fit.known;
          spoke = omega arith;
          heard = fit.heard;
          low = fit.low;
          plain = fit.plain;
          acked = (let low = fit.acked in omega (arith, low));
          counts = counts;
        }

fit-ack : (now reason serial : ℕ) (k : CallLooks) → IsFit now k → IsFit now (after_sending now (Ack reason serial) k)
fit-ack now reason serial k fit =
    record {
      steady = fit.steady;
      most = fit.most;
      open_ = fit.open_;
      lets = fit.lets;
      even = fit.even;
      soon = fit.soon;
      slow = fit.slow;
      known = fit.known;
      spoke = omega arith;
      heard = fit.heard;
      low = λ o is. absurd (let both : ◌≡◌ {A = Option Owed} None (Some o) =
          sym (acked_none now reason serial k fit.steady) ∙ is in cc (both));
      plain = plain_sending now (Ack reason serial) k fit.steady fit.plain;
      acked = fit.acked;
      counts = fit.counts;
    }

-- what it gives next
pub fit_sending : (v : NodeView) (now : ℕ) (x : Sending) (k : CallLooks) → IsFit now k → NextOf v k x
    → IsFit now (after_sending now x k)
fit_sending v now (Ack reason serial) k fit next = fit-ack now reason serial k fit
fit_sending v now (Piece seq again) k fit (is_fresh can is) =
    (let parts = and_parts (nat_lt (given_of k.sent) (counting_of k.sent)) _ can in
    fit-piece now seq again k fit
    (inr (ap sending_seq is, ltb-true (given_of k.sent) (counting_of k.sent) parts.0)))
fit_sending v now (Piece seq again) k fit (is_again g last due is) =
    (let same : seq ≡ lowest_of k.sent = ap sending_seq is in
    let low = given-within k.sent.givings (lowest_of k.sent) g last in
    fit-piece now seq again k fit (inl (omega (arith, same, low))))
fit_sending v now (Piece seq again) k fit (is_owed o owed due is) = absurd (piece_no is)
  where
    piece_no : Piece seq again ≡ Ack o.reason o.serial → ⊥
    piece_no same = cc
fit_sending v now (Piece seq again) k fit (is_ping client due is) = absurd (piece_no is)
  where
    piece_no : Piece seq again ≡ Ack ACK_PING 0 → ⊥
    piece_no same = cc

pub polls_fit : (s : Setup) (now : ℕ) (j : CallLooks) (xs : List Sending) (ms : List Message) (f : CallLooks)
    → GivesOut s now j xs ms f → IsFit now j → IsFit now f
polls_fit s now j xs ms f (gives_none i idle) fit = fit
polls_fit s now j xs ms f (gives_one i g x m ys ns next given rest) fit =
    polls_fit s now (after_sending now x i) ys ns g rest
    (fit_sending (view_at s now) now x i fit
    (next_is (view_at s now) i fit.steady x (next (view_at s now) (is_view_at s now))))
