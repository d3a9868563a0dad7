-- An ACK that marks all pieces, as the end that gave them hears it.
use Rattle.std.proofs.Common.{◌≡◌, ◌≤◌, ◌==◌, ℕ, Bool, true}
use Rattle.std.proofs.Common.{false, List, refl, ap, ◌∙◌, Some, replicate}
use Rattle.std.proofs.Common.{◌||◌, arith, cond, nat_lt}
use Rattle.std.proofs.lemmas.Bool.{le-ltb, lt-leb}
use Rattle.rx_model.specs.declared.answers.Took.TheVariants as tooks
use Rattle.rx_model.specs.declared.wire.TheConstants.{ACK_PING}
use Rattle.rx_model.specs.Body.{AckBody}
use Rattle.rx_rules.specs.CallLooks.{CallLooks, after_taken, sampled}
use Rattle.rx_rules.specs.Rates.{after_acked}
use Rattle.rx_rules.specs.Sent.{held_pieces, is_marked, marks_past, newly_of}
use Rattle.rx_rounds.proofs.Keys.KeyMarks.{marked_to, marks_given}
use Rattle.rx_rounds.proofs.One.OneCall.{Ends, client_place}
use Rattle.rx_rounds.proofs.One.OneSteps.{ack_of}
use Rattle.rx_rounds.proofs.One.OneWay.{Sends}
use Rattle.rx_rounds.proofs.Pair.{row_of, view_of}
use Rattle.rx_rounds.proofs.Takes.TakingAck.{even_sampled, slow_sampled}

-- ---- an ACK with marks

-- what it tells where n packets are kept and none is done with
abbrev pub all_marks : ℕ → ℕ → ℕ → AckBody
all_marks n reason serial =
    record {
      first = 1;
      previous = n;
      serial = serial;
      reason = reason;
      marks = replicate n true;
      window = Some 32;
    }

-- an end that heard it
abbrev pub heard_marks : ℕ → CallLooks → CallLooks
heard_marks n k =
    record k {
      sent = record k.sent { acked = 0; soft = is_marked 1 (replicate n true); peer_window = 32 };
      rtt = sampled (newly_of 0 1 (replicate n true) k.sent).sample k.rtt;
      cwnd = after_acked (newly_of 0 1 (replicate n true) k.sent).count k.cwnd;
      heard = 0;
    }

module _ (whole : List ℕ) (n : ℕ) (k : CallLooks) (h : Sends whole 0 0 n k) where
  pub sends_marked : Sends whole 0 0 n (heard_marks n k)
  sends_marked =
      record {
        acked = refl;
        given = h.given;
        marked = λ j past. marked_to n j (omega arith) ∙ lt-leb j n past;
        peer = refl;
        known = h.known;
        near = h.near;
        counted = h.counted;
        rest = h.rest;
        said = h.said;
        shut = h.shut;
        held = (let few : held_pieces k.sent ≤ 32 = h.held in omega (arith, h.acked));
        rates = record {
          wide = (let wide : 1 ≤ k.cwnd.window = h.rates.wide in omega (arith, h.rates.most));
          most = h.rates.most;
          steady = h.rates.steady;
          even = even_sampled (newly_of 0 1 (replicate n true) k.sent).sample k.rtt h.rates.even;
          slow = slow_sampled (newly_of 0 1 (replicate n true) k.sent).sample k.rtt h.rates.even h.rates.slow;
        };
        recent = h.recent;
      }

  -- it is no strange one
  pub marks_row : (x : Ends) (serial reason caused : ℕ)
      → row_of (client_place x 0) (ack_of x serial (all_marks n reason caused)) k ≡ tooks.Heard
  marks_row x serial reason caused =
      ap (λ (i : ℕ). cond (nat_lt i 0 || marks_past (replicate n true) 1 i) tooks.Strange tooks.Heard) h.given
      ∙ ap (λ (b : Bool). cond (b || marks_past (replicate n true) 1 n) tooks.Strange tooks.Heard)
      (le-ltb n 0 (omega arith))
      ∙ ap (λ (b : Bool). cond b tooks.Strange tooks.Heard) (marks_given n 1 n (omega arith))

  pub marks_heard : (x : Ends) (serial reason caused : ℕ) → (reason == ACK_PING) ≡ false
      → after_taken (view_of (client_place x 0) k) tooks.Heard (ack_of x serial (all_marks n reason caused)) k
      ≡ heard_marks n k
  marks_heard x serial reason caused kind = rw (le-ltb 0 k.sent.acked (omega (arith, h.acked)), kind) refl
