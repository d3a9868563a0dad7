-- One end of a call by itself takes an ACK of what it gave in order, and a ping.
use Rattle.std.proofs.Common.{◌≡◌, ◌<◌, ◌≤◌, ◌+◌, ◌-◌, ◌^◌, ◌==◌, ◌++◌, not, ℕ, Bool}
use Rattle.std.proofs.Common.{true, false, List, [], refl, ap, sym, subst, ◌∙◌, arith, Option, Some, None}
use Rattle.std.proofs.Common.{length, nat_le}
use Rattle.std.proofs.lemmas.Bool.{ne_eqb, le-ltb, and_right}
use Rattle.rx_model.specs.declared.answers.Took.TheVariants as tooks
use Rattle.rx_model.specs.declared.wire.TheConstants.{ACK_PING}
use Rattle.rx_model.specs.Message.{Message}
use Rattle.rx_rules.specs.CallLooks.{CallLooks, after_taken}
use Rattle.rx_rules.specs.CallLooks.{sampled}
use Rattle.rx_rules.specs.Owing.{owed_for_ack}
use Rattle.rx_rules.specs.Rates.{Rtt, after_acked}
use Rattle.rx_rules.specs.Sent.{given_of, held_pieces, is_marked, newly_of}
use Rattle.rx_rounds.proofs.Exchange.{Acks, AreGiven, ack_with, an_ack, no_ack}
use Rattle.rx_rounds.proofs.Polls.PolledEnd.{ArePings}
use Rattle.rx_rounds.proofs.One.OneWay.{Sends}
use Rattle.rx_rounds.proofs.Pair.{row_of, view_of}
use Rattle.rx_rounds.proofs.Takes.Taking.{place_at, Takes, hears}

-- ---- an ACK comes

-- an end that heard of u packets
abbrev pub heard_ack : ℕ → ℕ → ℕ → ℕ → CallLooks → CallLooks
heard_ack now u reason serial k =
    record k {
      sent = record k.sent { acked = u; soft = is_marked (u + 1) []; peer_window = 32 };
      rtt = sampled (newly_of now (u + 1) [] k.sent).sample k.rtt;
      cwnd = after_acked (newly_of now (u + 1) [] k.sent).count k.cwnd;
      owed_ack = owed_for_ack reason serial k.owed_ack;
      heard = now;
    }

pub slow_sampled : (o : Option ℕ) (r : Rtt) → r.prompt ≡ false → 350 ≤ r.rto → 350 ≤ (sampled o r).rto
slow_sampled None r plain slow = slow
slow_sampled (Some ms) r plain slow = rw plain (omega arith)

pub even_sampled : (o : Option ℕ) (r : Rtt) → r.prompt ≡ false → (sampled o r).prompt ≡ false
even_sampled None r plain = plain
even_sampled (Some ms) r plain = plain

pub data TookAck (client : Bool) (now : ℕ) (header : Message) (u : ℕ) (k : CallLooks) (ms : List Message) : Type 0 where
  no_ack_came : ms ≡ [] → TookAck client now header u k ms
  ack_came : (reason serial : ℕ) → serial < 2 ^ 32 → (client ≡ true → (reason == ACK_PING) ≡ false)
      → ((more : List Message) (l : CallLooks)
      → Takes (place_at client now header) (heard_ack now u reason serial k) more l
      → Takes (place_at client now header) k (ms ++ more) l)
      → 1 ≤ length ms → TookAck client now header u k ms

-- the same of a ping
pub data TookPing (client : Bool) (now : ℕ) (header : Message) (u : ℕ) (k : CallLooks) (ms : List Message) : Type 0
  where
    no_ping_came : ms ≡ [] → TookPing client now header u k ms
    ping_came : (serial : ℕ) → serial < 2 ^ 32
        → ((more : List Message) (l : CallLooks)
        → Takes (place_at client now header) (heard_ack now u 6 serial k) more l
        → Takes (place_at client now header) k (ms ++ more) l)
        → TookPing client now header u k ms

module _ (whole : List ℕ) (since a n : ℕ) (k : CallLooks) (h : Sends whole since a n k) (u : ℕ) (low : a ≤ u)
    (high : u ≤ n) where
  pub takes_ack : (client : Bool) (now : ℕ) (header : Message) (ms : List Message) → n < 2 ^ 32 - 1
      → Acks header (not client) u ms → TookAck client now header u k ms
  takes_ack client now header ms small no_ack = no_ack_came refl
  takes_ack client now header ms small (an_ack serial previous caused reason fits fits2 fits3 least most kind) =
      let first : u + 1 - 1 ≡ u = omega arith in
      let row : row_of (place_at client now header) (ack_with header (not client) u serial previous caused reason) k
      ≡ tooks.Heard =
      rw (ne_eqb (u + 1) 0 (λ (e : u + 1 ≡ 0). omega arith), first)
      (rw (le-ltb (given_of k.sent) u (omega (arith, h.given))) refl) in
      let is : after_taken (view_of (place_at client now header) k) tooks.Heard
      (ack_with header (not client) u serial previous caused reason) k ≡ heard_ack now u reason serial k =
      rw first (rw (le-ltb u k.sent.acked (omega (arith, h.acked))) refl) in
      ack_came reason serial fits (λ yes. kind (ap not yes))
      (λ more l next. hears k l u serial previous caused reason more (omega arith) fits fits2 fits3 least most
      (λ yes. kind (ap not yes)) row
      (subst (λ (j : CallLooks). Takes (place_at client now header) j more l) (sym is) next)) (omega arith)

  -- a ping
  pub takes_ping : (client : Bool) (now : ℕ) (header : Message) (ms : List Message) → n < 2 ^ 32 - 1
      → Acks header (not client) u ms → ArePings ms → TookPing client now header u k ms
  takes_ping client now header ms small no_ack pings = no_ping_came refl
  takes_ping client now header ms small (an_ack serial previous caused reason fits fits2 fits3 least most kind) pings =
      let first : u + 1 - 1 ≡ u = omega arith in
      let row : row_of (place_at client now header) (ack_with header (not client) u serial previous caused reason) k
      ≡ tooks.Heard =
      rw (ne_eqb (u + 1) 0 (λ (e : u + 1 ≡ 0). omega arith), first)
      (rw (le-ltb (given_of k.sent) u (omega (arith, h.given))) refl) in
      let is : after_taken (view_of (place_at client now header) k) tooks.Heard
      (ack_with header (not client) u serial previous caused reason) k ≡ heard_ack now u reason serial k =
      rw first (rw (le-ltb u k.sent.acked (omega (arith, h.acked))) refl) in
      ping_came serial fits
      (λ more l next. hears k l u serial previous caused reason more (omega arith) fits fits2 fits3 least most
      (λ side. kind (ap not side)) row
      (subst (λ (j : CallLooks). Takes (place_at client now header) j more l)
      (sym (is ∙ ap (λ (r : ℕ). heard_ack now u r serial k) pings)) next))

  pub sends_heard : (s now reason serial : ℕ) → AreGiven s u n k → Sends whole s u n (heard_ack now u reason serial k)
  sends_heard s now reason serial given =
      record {
        acked = refl;
        given = h.given;
        marked = λ j past. and_right (nat_le (u + 1) j) false refl;
        peer = refl;
        known = high;
        near = (let near : n ≤ a + 32 = h.near in omega arith);
        counted = h.counted;
        rest = h.rest;
        said = h.said;
        shut = h.shut;
        held = (let few : held_pieces k.sent ≤ 32 = h.held in omega (arith, h.acked));
        rates = record {
          wide = (let wide : 1 ≤ k.cwnd.window = h.rates.wide in omega (arith, h.rates.most));
          most = h.rates.most;
          steady = h.rates.steady;
          even = even_sampled (newly_of now (u + 1) [] k.sent).sample k.rtt h.rates.even;
          slow = slow_sampled (newly_of now (u + 1) [] k.sent).sample k.rtt h.rates.even h.rates.slow;
        };
        recent = given;
      }
