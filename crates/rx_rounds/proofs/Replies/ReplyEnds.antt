-- The client's end in a round in which its reply comes: pieces, and an ACK that tells that all of the request came.
use Rattle.std.proofs.Common.{◌≡◌, ◌<◌, ◌≤◌, ◌+◌, ◌-◌, ◌^◌, ◌++◌, ◌⊎◌, ℕ, true, false, List, []}
use Rattle.std.proofs.Common.{refl, ap, sym, subst, ◌∙◌, inl, inr, Option, arith, append-nil}
use Rattle.std.proofs.lemmas.Bool.{eq-eqb, le-ltb}
use Rattle.std.specs.Prelude.{IfSome, IsSomeAnd}
use Rattle.rx_model.specs.Message.{Message}
use Rattle.rx_rules.specs.CallItems.{can_give}
use Rattle.rx_rules.specs.CallLooks.{CallLooks}
use Rattle.rx_rules.specs.Owing.{Owed, owed_for_ack}
use Rattle.rx_rules.specs.Received.{unread_of, used_of}
use Rattle.rx_rules.specs.Sent.{Sent, counting_of, given_of, is_all_given, pieces_of}
use Rattle.rx_rounds.proofs.Exchange.{Acks, Burst}
use Rattle.rx_rounds.proofs.Serving.SendsLaws.{counts_within}
use Rattle.rx_rounds.proofs.Flow.{total}
use Rattle.rx_rounds.proofs.Keeper.{drained, part_read}
use Rattle.rx_rounds.proofs.One.OneWay.{IsOwedBy, IsPlainOwed, Sends}
use Rattle.rx_rounds.proofs.Serving.SaidMore.{steady}
use Rattle.rx_rounds.proofs.Takes.Taking.{Takes, TookPieces, came_behind, none_came}
use Rattle.rx_rounds.proofs.Takes.TakingAck.{TookAck, ack_came, heard_ack, no_ack_came}
use Rattle.rx_rounds.proofs.Takes.Taking.{place_at, some_came, takes_burst, takes_none}
use Rattle.rx_rounds.proofs.Takes.TakingAck.{sends_heard, takes_ack}

-- an end that gave all of a shut stream
pub record GaveAll (whole : List ℕ) (k : CallLooks) : Type 0 where
  pub since : ℕ
  pub acked : ℕ
  pub sends : Sends whole since acked (total whole) k
  pub shut : k.sent.shut ≡ true

module _ (whole : List ℕ) (k : CallLooks) (h : GaveAll whole k) where
  -- it has no more to give
  pub gives_none : can_give k.cwnd k.sent ≡ false
  gives_none =
      let most : counting_of k.sent ≤ total whole =
      counts_within whole h.since h.acked (total whole) k h.sends in
      rw (le-ltb (given_of k.sent) (counting_of k.sent) (omega (arith, h.sends.given))) refl

  pub pieces_all : pieces_of k.sent ≡ total whole
  pieces_all =
      let none : h.sends.rest ≡ [] = h.sends.shut h.shut in
      let same : k.sent.said ≡ whole = sym (h.sends.said ∙ ap (λ (r : List ℕ). k.sent.said ++ r) none
      ∙ append-nil k.sent.said) in
      rw (h.shut, same) refl

  pub given_all : is_all_given k.sent ≡ true
  given_all = rw (h.sends.given, pieces_all, h.shut) (eq-eqb (total whole) (total whole) refl)

  -- reply data acknowledges all of it
  pub found_all : (l : CallLooks) → l.sent ≡ record k.sent { acked = pieces_of k.sent } → l.rtt ≡ k.rtt
      → l.cwnd ≡ k.cwnd
      → GaveAll whole l
  found_all l sent rtt cwnd =
      record {
        since = 0;
        acked = total whole;
        sends = record {
          acked = ap (λ (s : Sent). s.acked) sent ∙ pieces_all;
          given = ap (λ (s : Sent). given_of s) sent ∙ h.sends.given;
          marked = λ j past. ap (λ (s : Sent). s.soft j) sent ∙ h.sends.marked j past;
          peer = ap (λ (s : Sent). s.peer_window) sent ∙ h.sends.peer;
          known = omega arith;
          near = omega arith;
          counted = subst (λ (s : Sent). total whole ≤ counting_of s) (sym sent) h.sends.counted;
          rest = h.sends.rest;
          said = h.sends.said ∙ ap (λ (ys : List ℕ). ys ++ h.sends.rest) (sym (ap (λ (s : Sent). s.said) sent));
          shut = λ is. h.sends.shut h.shut;
          held = subst (λ (s : Sent). pieces_of s - s.acked ≤ 32) (sym sent) (omega arith);
          rates = steady k l rtt cwnd h.sends.rates;
          recent = λ j low high. absurd (omega arith);
        };
        shut = ap (λ (s : Sent). s.shut) sent ∙ h.shut;
      }

-- what a round's messages made of the client's end, of which so much of the reply was read
pub record Got (reply request read : List ℕ) (now n last : ℕ) (k l : CallLooks) : Type 0 where
  pub previous : ℕ
  pub received : l.received ≡ part_read reply read previous last
  pub low : previous < 2 ^ 32
  pub plain : IfSome l.owed_ack IsPlainOwed
  pub late : IfSome l.owed_ack (λ o. o.rank ≤ now + 100)
  pub owes : n < last → IsOwedBy (now + 100) l
  pub owes_on : (r : ℕ) → IsOwedBy r k → IsOwedBy r l
  pub heard : (l.heard ≡ now) ⊎ ((l.heard ≡ k.heard) × (n ≡ last))
  pub spoke : l.spoke ≡ k.spoke
  pub all : GaveAll request l
  pub known : n < last → all.acked ≡ total request
  pub known_on : k.sent.acked ≡ total request → all.acked ≡ total request

module _ (reply request read : List ℕ) (now n last : ℕ) (header : Message) (k : CallLooks) where
  -- an ACK that tells of all of the request
  ack_got : (few : total request < 2 ^ 32 - 1) (j : CallLooks) (acks : List Message)
      → Acks header false (total request) acks → Got reply request read now n last k j
      → (l : CallLooks) × Takes (place_at true now header) j acks l × Got reply request read now n last k l
  ack_got few j acks tells h =
      let s = h.all in
      by (takes_ack request s.since s.acked (total request) j s.sends (total request) s.sends.known (omega arith) true
      now
      header acks few tells)
    where
      by : TookAck true now header (total request) j acks
          → (l : CallLooks) × Takes (place_at true now header) j acks l × Got reply request read now n last k l
      by (no_ack_came none) = (
        j,
        subst (λ (ms : List Message). Takes (place_at true now header) j ms j) (sym none) (takes_none j),
        h,
      )
      by (ack_came reason serial small kind takes some) =
          let l : CallLooks = heard_ack now (total request) reason serial j in
          let same : owed_for_ack reason serial j.owed_ack ≡ j.owed_ack = rw (kind refl) refl in (
            l,
            subst (λ (ms : List Message). Takes (place_at true now header) j ms l) (append-nil acks)
                (takes [] l (takes_none l)),
            record {
              previous = h.previous;
              received = h.received;
              low = h.low;
              plain = subst (λ (o : Option Owed). IfSome o IsPlainOwed) (sym same) h.plain;
              late = subst (λ (o : Option Owed). IfSome o (λ q. q.rank ≤ now + 100)) (sym same) h.late;
              owes = λ more. subst (λ (o : Option Owed). IsSomeAnd o (λ q. q.rank ≤ now + 100)) (sym same)
                  (h.owes more);
              owes_on = λ r was. subst (λ (o : Option Owed). IsSomeAnd o (λ q. q.rank ≤ r)) (sym same)
                  (h.owes_on r was);
              heard = inl refl;
              spoke = h.spoke;
              all = record {
                since = 0;
                acked = total request;
                sends = sends_heard request h.all.since h.all.acked (total request) j h.all.sends (total request)
                    h.all.sends.known (omega arith) 0 now reason serial (λ i low high. absurd (omega arith));
                shut = h.all.shut;
              };
              known = λ more. refl;
              known_on = λ is. refl;
            },
          )

  -- pieces, and then such an ACK
  pub client_got : (p : ℕ) (pieces acks : List Message) → total request < 2 ^ 32 - 1 → total reply < 2 ^ 32 - 1
      → GaveAll request k → k.received ≡ part_read reply read p n → p < 2 ^ 32 → n < total reply
      → unread_of (part_read reply read p n) ≡ [] → k.cwnd.prompt ≡ false
      → IfSome k.owed_ack IsPlainOwed → IfSome k.owed_ack (λ o. o.rank ≤ now + 100)
      → n ≤ last → last ≤ n + 32 → last ≤ total reply
      → Burst header false reply n last pieces → Acks header false (total request) acks
      → (l : CallLooks) × Takes (place_at true now header) k (pieces ++ acks) l × Got reply request read now n last k l
  unfolding found_all
  client_got p pieces acks few1 few2 all is low short none plain_ owes late more near within burst tells =
      let used : used_of (part_read reply read p n) ≡ n = drained reply read p n short none in
      by (takes_burst true now header reply read p n last n k pieces burst is (omega (arith, used)) near within few2
      all.sends.held plain_ (λ yes. given_all request k all) owes late)
    where
      by : TookPieces true now header reply read n last k pieces
          → (l : CallLooks) × Takes (place_at true now header) k (pieces ++ acks) l
          × Got reply request read now n last k l
      by (none_came same empty) =
          let g : Got reply request read now n last k k = record {
            previous = p;
            received = is ∙ ap (λ (i : ℕ). part_read reply read p i) same;
            low = low;
            plain = owes;
            late = late;
            owes = λ less. absurd (omega arith);
            owes_on = λ r was. was;
            heard = inr (refl, same);
            spoke = refl;
            all = all;
            known = λ less. absurd (omega arith);
            known_on = λ known_. sym all.sends.acked ∙ known_;
          } in
          let a = ack_got few1 k acks tells g in (
            a.0,
            subst (λ (ms : List Message). Takes (place_at true now header) k (ms ++ acks) a.0) (sym empty) a.1,
            a.2,
          )
      by (some_came less owed plain2 soon sooner zero_ takes) =
          let j : CallLooks = came_behind true now reply read last owed k in
          let g : Got reply request read now n last k j = record {
            previous = last;
            received = refl;
            low = omega arith;
            plain = plain2;
            late = soon;
            owes = λ yes. soon;
            owes_on = λ r was. sooner r was;
            heard = inl refl;
            spoke = refl;
            all = found_all request k all j refl refl refl;
            known = λ yes. refl;
            known_on = λ known_. refl;
          } in
          let a = ack_got few1 j acks tells g in (a.0, takes acks a.0 a.1, a.2)
