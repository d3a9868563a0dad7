-- A server that gives its reply hears what the client tells of it.
use Rattle.std.proofs.Common.{◌≡◌, ◌<◌, ◌≤◌, ◌+◌, ◌-◌, ◌^◌, ◌==◌, ◌++◌, ℕ, Bool, true, false, List}
use Rattle.std.proofs.Common.{[], ◌∷◌, refl, ap, sym, ◌∙◌, arith, append-nil, length}
use Rattle.std.proofs.lemmas.Bool.{le-ltb, ne_eqb}
use Rattle.rx_model.specs.declared.answers.Took.TheVariants as tooks
use Rattle.rx_model.specs.declared.wire.TheConstants.{ACK_PING}
use Rattle.rx_model.specs.Message.{Message}
use Rattle.rx_rules.specs.CallLooks.{CallLooks, after_taken, is_delivered}
use Rattle.rx_rules.specs.Life.{Life, after_acks, is_active}
use Rattle.rx_rules.specs.Life as lives
use Rattle.rx_rules.specs.Looks.{Looks}
use Rattle.rx_rules.specs.Sent.{given_of, pieces_by}
use Rattle.rx_jobs.specs.Jobs.{JobState}
use Rattle.rx_plan.specs.Network.{delivers}
use Rattle.rx_plan.specs.Parts.{each}
use Rattle.rx_plan.specs.Stages.{InvokedState, Stage}
use Rattle.rx_rounds.proofs.Between.{server_at}
use Rattle.rx_rounds.proofs.Exchange.{Acks, ack_with, an_ack, no_ack}
use Rattle.rx_rounds.proofs.Flow.{total}
use Rattle.rx_rounds.proofs.Making.{ends_to, then_to}
use Rattle.rx_rounds.proofs.One.OneCall.{Ends, header_of, server_place}
use Rattle.rx_rounds.proofs.One.OneFields.{FitsEnds}
use Rattle.rx_rounds.proofs.One.OneNode.{datagrams}
use Rattle.rx_rounds.proofs.One.OneTaken.{server_takes_ack}
use Rattle.rx_rounds.proofs.One.OneWay.{Sends}
use Rattle.rx_rounds.proofs.Pair.{row_of, view_of}
use Rattle.rx_rounds.proofs.Replies.ReplyTells.{reason_in}
use Rattle.rx_rounds.proofs.Rounded.{Made}
use Rattle.rx_rounds.proofs.Takes.TakingAck.{heard_ack}
use Rattle.rx_rounds.proofs.Two.{AreApart, Two, sent, two_as}
use Rattle.rx_model.specs.Spelling.{made}

-- before all is acknowledged a call lives on
lives_on : (life : Life) → after_acks false life ≡ life
lives_on lives.Calling = refl
lives_on (lives.Ended end) = refl
lives_on lives.Waiting = refl
lives_on lives.Accepted = refl
lives_on lives.Finished = refl
lives_on (lives.Broken code) = refl
lives_on (lives.Over code) = refl

-- what a list of acknowledgements tells of pings
abbrev pub HasNoPing : List Message → Type 0
HasNoPing [] = Unit {0}
HasNoPing (m ∷ ms) = (reason_in m.body == ACK_PING) ≡ false

module _ (x : Ends) (fits : FitsEnds x) (apart : AreApart x) (now : ℕ) (cs : List InvokedState) (js : List JobState)
    (lc : Looks) (life : Life) (reply : List ℕ) (since a last n : ℕ) (k : CallLooks) (h : Sends reply since a last k)
    (low : a ≤ n) (high : n ≤ last) (short : n < total reply) (few : total reply < 2 ^ 32 - 1) where
  -- not all is acknowledged
  not_all : (reason serial : ℕ) → is_delivered (heard_ack now n reason serial k) ≡ false
  not_all reason serial = by k.sent.shut refl
    where
      -- where it is shut it said all
      pieces : k.sent.shut ≡ true → pieces_by (length k.sent.said) true ≡ total reply
      pieces is =
          let none : h.rest ≡ [] = h.shut is in
          let same : k.sent.said ≡ reply = sym (h.said ∙ ap (λ (r : List ℕ). k.sent.said ++ r) none
          ∙ append-nil k.sent.said) in
          ap (λ (ys : List ℕ). pieces_by (length ys) true) same

      by : (b : Bool) → k.sent.shut ≡ b → is_delivered (heard_ack now n reason serial k) ≡ false
      by true is =
          let part : (n == total reply) ≡ false = ne_eqb n (total reply) (λ (e : n ≡ total reply). omega arith) in
          rw (h.rates.steady, is) (rw (pieces is) (rw part refl))
      by false is = rw (h.rates.steady, is) refl

  -- what it heard: nothing, or an ACK of n packets
  pub data Hears (acks : List Message) (given : ℕ) (t : Stage) : Type 0 where
    hears_none : acks ≡ [] → (used : ℕ) → Two x (server_at x given used now life k) lc cs js t → Hears acks given t
    hears_one : (m : Message) → acks ≡ m ∷ [] → (reason serial : ℕ) → (reason == ACK_PING) ≡ false
        → Two x (server_at x given now now life (heard_ack now n reason serial k)) lc cs js t → Hears acks given t

  pub server_hears : (acks : List Message) → Acks (header_of x) true n acks → HasNoPing acks → is_active life ≡ true
      → (given used : ℕ) (s t : Stage) → Two x (server_at x given used now life k) lc cs js s
      → Made (each delivers (datagrams x.client x.server acks)) s t → Hears acks given t
  server_hears acks no_ack pingless active given used s t two made_ =
      hears_none refl used
      (two_as x (server_at x given used now life k) lc (server_at x given used now life k) lc cs js s t refl refl
      (sym (ends_to s t made_.0 made_.1)) two)
  server_hears acks (an_ack serial previous caused reason f1 f2 f3 least most kind) pingless active given used s t two
      made_ =
      let m : Message = ack_with (header_of x) true n serial previous caused reason in
      let first : n + 1 - 1 ≡ n = omega arith in
      let row : row_of (server_place x now) m k ≡ tooks.Heard =
      rw (ne_eqb (n + 1) 0 (λ (e : n + 1 ≡ 0). omega arith), first)
      (rw (le-ltb (given_of k.sent) n (omega (arith, h.given))) refl) in
      let is : after_taken (view_of (server_place x now) k) tooks.Heard m k ≡ heard_ack now n reason serial k =
      rw first (rw (le-ltb n k.sent.acked (omega (arith, h.acked))) refl) in
      let stays : after_acks (is_delivered (after_taken (view_of (server_place x now) k) tooks.Heard m k)) life ≡ life =
      ap (λ (l : CallLooks). after_acks (is_delivered l) life) is
      ∙ ap (λ (b : Bool). after_acks b life) (not_all reason serial) ∙ lives_on life in
      let b = then_to (delivers (sent x.client x.server (made m)) s) (each delivers []) made_.0 t made_.1 in
      let d = server_takes_ack x fits apart now cs js lc life k n serial previous caused reason active (omega arith) f1
      f2
      f3 least most row stays given used s b.between two (b.front, b.made) in
      hears_one m refl reason serial pingless
      (two_as x (server_at x given now now life (after_taken (view_of (server_place x now) k) tooks.Heard m k)) lc
      (server_at x given now now life (heard_ack now n reason serial k)) lc cs js b.between t
      (ap (server_at x given now now life) is) refl (sym (ends_to b.between t b.rest b.goes)) d)
