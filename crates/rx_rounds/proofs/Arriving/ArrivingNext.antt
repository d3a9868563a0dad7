-- What a round makes of an invoke whose request comes: more of it came, or is known to have come, or the ACK that is
-- owed is due; or its handler waits, replies or refuses.
use Rattle.std.proofs.Common.{◌≡◌, ◌≢◌, ◌<◌, ◌≤◌, ◌⊎◌, inl, inr, ⊎_elim, ◌+◌, ◌-◌, ◌*◌, ◌^◌, ◌++◌, ◌==◌, ℕ, ℤ, pos}
use Rattle.std.proofs.Common.{max, Bool, true, false, List, [], ◌∷◌, refl, ap, sym, subst, ◌∙◌, Option, Some, None}
use Rattle.std.proofs.Common.{length}
use Rattle.std.proofs.Common.{arith, append-nil, nat_le}
use Rattle.std.proofs.lemmas.Bool.{both_ways, cases_lt, lt-leb, ne_eqb, eq-eqb}
use Rattle.std.specs.Prelude.{IfSome, IsSomeAnd}
use Rattle.rx_model.specs.declared.wire.TheConstants.{PING_MS, SILENCE_MS}
use Rattle.rx_model.specs.Message.{IsBytes, Message}
use Rattle.rx_rules.specs.CallItems.{can_give}
use Rattle.rx_rules.specs.CallLooks.{CallLooks}
use Rattle.rx_rules.specs.Life as lives
use Rattle.rx_rules.specs.Looks.{Looks}
use Rattle.rx_rules.specs.Owing.{Owed}
use Rattle.rx_rules.specs.Received.{Received, front_of, is_complete, is_within, nothing_received, unread_of}
use Rattle.rx_rules.specs.Sent.{Sent, counting_by, counting_of, held_pieces, nothing_sent}
use Rattle.rx_script.specs.Served.{refusal}
use Rattle.rx_asks.specs.declared.ask.Phase.TheVariants as phases
use Rattle.rx_jobs.specs.Handlers.{Handlers, served_for, wait_of}
use Rattle.rx_jobs.specs.Jobs.{JobState, begun}
use Rattle.rx_jobs.specs.Keeping.{kept_of}
use Rattle.rx_plan.specs.Stages.{InvokedState, Stage}
use Rattle.rx_rounds.proofs.Arriving.ArrivingRound.{ClientBehind, Exchanged, client_behind, exchanged}
use Rattle.rx_rounds.proofs.Arriving.ArrivingRound.{nothing_gives, nothing_sends, tells_none, tells_read, used_read}
use Rattle.rx_rounds.proofs.Between.{Arriving, InTouch, Refusing, Replying, Waiting, at_work, caller_with, client_at}
use Rattle.rx_rounds.proofs.Between.{server_at}
use Rattle.rx_between.proofs.Each.EachItem.{In}
use Rattle.rx_rounds.proofs.Polls.PolledEnd.{PolledOut, polled_out}
use Rattle.rx_rounds.proofs.Exchange.{burst_some}
use Rattle.rx_rounds.proofs.Serving.SendsLaws.{counts_within, must_go}
use Rattle.rx_rounds.proofs.Flow.{total}
use Rattle.rx_rounds.proofs.Keeper.{kept_to, last_kept, part_read}
use Rattle.rx_rounds.proofs.One.OneCall.{Ends, client_place, header_of, server_place, the_call}
use Rattle.rx_rounds.proofs.One.OneFields.{FitsEnds}
use Rattle.rx_rounds.proofs.One.OneNode.{length_both}
use Rattle.rx_rounds.proofs.One.OneWay.{IsOwedBy, IsPlainOwed, IsSteady, Reads, Sends}
use Rattle.rx_rounds.proofs.Pair.{CallEnd}
use Rattle.rx_rounds.proofs.Reading.ReadOn.{begins_read}
use Rattle.rx_rounds.proofs.Reading.ReadsNext.{Came, TurnsNext, reads_more, refuses_next, replies_next, turns_next}
use Rattle.rx_rounds.proofs.Reading.ReadsNext.{waits_next}
use Rattle.rx_rounds.proofs.Replies.ReplyMoments.{MomentOf, in_ack, moment_of, of_ack, of_death, of_piece, of_ping}
use Rattle.rx_rounds.proofs.RoundParts.{turn_still}
use Rattle.rx_rounds.proofs.Rounded.{RoundMade, caller_at, settles_not}
use Rattle.rx_rounds.proofs.Serving.SaysOn.{arriving_at, says_still}
use Rattle.rx_rounds.proofs.Settle.{InEither, Settled, client_moments, end_moments, in_ping, server_moments}
use Rattle.rx_rounds.proofs.Settle.{settles_two}
use Rattle.rx_rounds.proofs.Serving.ServeTurns.{turn_reads}
use Rattle.rx_rounds.proofs.Takes.Taking.{TookPieces, Takes, came_behind, none_came, some_came, takes_burst, takes_none}
use Rattle.rx_rounds.proofs.Two.{AreApart, Two}

-- ---- what a round comes to

pub data ArrivingNext (x : Ends) (g : Handlers) (request : List ℕ) (call line now a n q : ℕ) (t : Stage) : Type 0 where
  comes_on : (now2 a2 n2 q2 : ℕ) → now ≤ now2 → now2 ≤ now + 2000
      → 2 * (a + n) + q2 + 1 ≤ 2 * (a2 + n2) + q
      → Arriving x g request call line now2 a2 n2 q2 t → ArrivingNext x g request call line now a n q t
  waits_now : Waiting x g request call line now (wait_of g request) t → ArrivingNext x g request call line now a n q t
  replies_now : (reply : List ℕ) → Replying x g request reply call line now 0 0 3 t
      → ArrivingNext x g request call line now a n q t
  refuses_now : (code : ℤ) → Refusing x g request call line now code t → ArrivingNext x g request call line now a n q t

module _ (x : Ends) (g : Handlers) (fits : FitsEnds x) (apart : AreApart x) (request : List ℕ) (call line : ℕ)
    (small : total request ≤ 1000000) (are_bytes : IsBytes request)
    (coded : (code : ℤ) → served_for g request ≡ refusal code → code ≢ pos 0) where
  module _ (now a n q : ℕ) (s t : Stage) (h : Arriving x g request call line now a n q s) (given_server used_server : ℕ)
      (known : 1 ≤ n)
      (two : Two x (server_at x given_server used_server now lives.Accepted h.ks)
      (client_at x h.given h.used [] now h.kc)
      (caller_at call line (caller_with x h.offering h.shut [] h.phase) ∷ [])
      (record (begun (the_call x)) { request = kept_of g h.ks.received.read } ∷ []) s)
      (m : RoundMade g s t) (early : now + 2000 < 2 ^ 62) where
    abbrev e : CallEnd
    e = record { looks = h.kc; given = h.given }

    abbrev d : CallEnd
    d = record { looks = h.ks; given = given_server }

    abbrev cs : List InvokedState
    cs = caller_at call line (caller_with x h.offering h.shut [] h.phase) ∷ []

    abbrev js : List JobState
    js = record (begun (the_call x)) { request = kept_of g h.ks.received.read } ∷ []

    abbrev p : PolledOut (client_place x now) request h.since a n 0 e
    p = polled_out (client_place x now) request h.since a n 0 e refl (λ less. h.time.soon) h.up
        (tells_none h.kc h.quiet h.owes_none)

    abbrev o : PolledOut (server_place x now) [] now 0 0 n d
    o = polled_out (server_place x now) [] now 0 0 n d refl (λ less. absurd (omega arith))
        (nothing_sends now h.ks h.says_none h.fresh) (tells_read request n h.ks h.reads)

    -- numbers
    past : h.since ≤ now
    past = h.time.past

    soon : now ≤ h.since + 100
    soon = h.time.soon

    touch : InTouch 3000 h.since h.kc h.ks
    touch = h.time.touch

    short : n < total request
    short = h.reads.short

    known_a : a ≤ n
    known_a = h.up.known

    awake : nat_le SILENCE_MS (now - h.kc.heard) ≡ false
    awake = let near : h.since ≤ h.kc.heard + 3000 = touch.client in lt-leb SILENCE_MS (now - h.kc.heard) (omega arith)

    awake2 : nat_le SILENCE_MS (now - h.ks.heard) ≡ false
    awake2 = let near : h.since ≤ h.ks.heard + 1000 = touch.server in lt-leb SILENCE_MS (now - h.ks.heard) (omega arith)

    -- the client says nothing but pieces
    no_acks : p.acks ≡ []
    no_acks = p.quiet h.owes_none (λ is. (let near : h.since ≤ h.kc.spoke + 1000 = touch.spoke in omega arith))

    last_within : p.pieces.last ≤ total request
    last_within =
        let s1 = p.pieces.sends 0 (omega arith) (λ less. omega arith) in
        let counts : p.pieces.last ≤ counting_of p.pieces.behind.looks.sent = s1.counted in
        let all = counts_within request 0 a p.pieces.last p.pieces.behind.looks s1 in
        omega arith

    abbrev pass : Exchanged x g fits apart request now h.since a n e d p o cs js m.polled.given m.delivered
    pass = exchanged x g fits apart request now h.since a n e d p o (omega (arith, last_within)) (omega arith) known
        h.says_none awake awake2 cs js h.used used_server s t m two

    abbrev c : ClientBehind x g fits apart request now h.since a n e d p o
    c = client_behind x g fits apart request now h.since a n e d p o past (omega arith) (omega (arith, last_within))
        h.says_none h.up

    -- ---- the server behind the polls

    nothing : (o.pieces.last ≡ 0) × (o.pieces.messages ≡ []) × (o.pieces.givings ≡ h.ks.sent.givings)
        × (o.pieces.spoke ≡ h.ks.spoke)
    nothing = o.pieces.none (nothing_gives h.ks h.says_none)

    abbrev ks1 : CallLooks
    ks1 = o.behind.looks

    new1 : ks1.sent ≡ nothing_sent
    new1 = ap (λ (k : CallLooks). k.sent) o.is ∙ ap (λ gs. record h.ks.sent { givings = gs }) nothing.2 ∙ h.says_none

    received1 : ks1.received ≡ part_read request h.reads.read h.reads.previous n
    received1 = ap (λ (k : CallLooks). k.received) o.is ∙ h.reads.kept

    owed1 : ks1.owed_ack ≡ o.owed
    owed1 = ap (λ (k : CallLooks). k.owed_ack) o.is

    heard1 : ks1.heard ≡ h.ks.heard
    heard1 = ap (λ (k : CallLooks). k.heard) o.is

    steady1 : IsSteady ks1
    steady1 = subst IsSteady (sym o.is) (record {
      wide = h.fresh.wide;
      most = h.fresh.most;
      steady = h.fresh.steady;
      even = h.fresh.even;
      slow = h.fresh.slow;
    })

    -- what it owes then
    owed_case : (P : Option Owed → Type 0) → P None → P h.ks.owed_ack → P ks1.owed_ack
    owed_case P none same = subst P (sym owed1) (⊎_elim
        (λ (w : (o.owed ≡ None) × (o.spoke ≡ now) × (1 ≤ length o.acks)). subst P (sym w.0) none)
        (λ (w : (o.acks ≡ []) × (o.owed ≡ h.ks.owed_ack) × (o.spoke ≡ o.pieces.spoke)
        × ((z : Owed) → o.owed ≡ Some z → now < z.rank) × (false ≡ true → now < o.spoke + 2000)).
        subst P (sym w.1) same) o.told)

    plain1 : IfSome ks1.owed_ack IsPlainOwed
    plain1 = owed_case (λ w. IfSome w IsPlainOwed) tt h.reads.plain

    late1 : IfSome ks1.owed_ack (λ w. w.rank ≤ now + 100)
    late1 = owed_case (λ w. IfSome w (λ z. z.rank ≤ now + 100)) tt h.late

    -- where no ACK was given it owes what it owed
    owes1 : o.acks ≡ [] → (r : ℕ) → IsOwedBy r h.ks → IsOwedBy r ks1
    owes1 quiet r owes = subst (λ (w : Option Owed). IsSomeAnd w (λ z. z.rank ≤ r)) (sym owed1) (⊎_elim
        (λ (w : (o.owed ≡ None) × (o.spoke ≡ now) × (1 ≤ length o.acks)).
        absurd (let none : length o.acks ≡ 0 = ap (λ (xs : List Message). length xs) quiet in
        let some : 1 ≤ length o.acks = w.2 in omega arith))
        (λ (w : (o.acks ≡ []) × (o.owed ≡ h.ks.owed_ack) × (o.spoke ≡ o.pieces.spoke)
        × ((z : Owed) → o.owed ≡ Some z → now < z.rank) × (false ≡ true → now < o.spoke + 2000)).
        subst (λ (z : Option Owed). IsSomeAnd z (λ y. y.rank ≤ r)) (sym w.1) owes) o.told)

    -- and it isn't due
    not_due : o.acks ≡ [] → IsOwedBy now h.ks → ⊥
    not_due quiet owes = ⊎_elim
        (λ (w : (o.owed ≡ None) × (o.spoke ≡ now) × (1 ≤ length o.acks)).
        (let none : length o.acks ≡ 0 = ap (λ (xs : List Message). length xs) quiet in
        let some : 1 ≤ length o.acks = w.2 in absurd (omega arith)))
        (λ (w : (o.acks ≡ []) × (o.owed ≡ h.ks.owed_ack) × (o.spoke ≡ o.pieces.spoke)
        × ((z : Owed) → o.owed ≡ Some z → now < z.rank) × (false ≡ true → now < o.spoke + 2000)).
        of h.ks.owed_ack owes (λ z is. w.3 z (w.1 ∙ is))) o.told
      where
        of : (w : Option Owed) → IsSomeAnd w (λ z. z.rank ≤ now) → ((z : Owed) → w ≡ Some z → now < z.rank) → ⊥
        of None some later = absurd some
        of (Some z) some later = (let high : now < z.rank = later z refl in absurd (omega arith))

    -- ---- the client behind them

    spoke_of : (p.spoke ≡ now) ⊎ ((p.spoke ≡ h.kc.spoke) × (p.pieces.last ≡ n))
    spoke_of = ⊎_elim
        (λ (w : (p.owed ≡ None) × (p.spoke ≡ now) × (1 ≤ length p.acks)). inl w.1)
        (λ (w : (p.acks ≡ []) × (p.owed ≡ h.kc.owed_ack) × (p.spoke ≡ p.pieces.spoke)
        × ((z : Owed) → p.owed ≡ Some z → now < z.rank) × (true ≡ true → now < p.spoke + 2000)).
        ⊎_elim (λ (z : p.pieces.spoke ≡ now). inl (w.2 ∙ z))
        (λ (z : (p.pieces.spoke ≡ h.kc.spoke) × (p.pieces.last ≡ n)). inr (w.2 ∙ z.0, z.1)) p.pieces.spoke_is) p.told

    owed_none : p.owed ≡ None
    owed_none = ⊎_elim
        (λ (w : (p.owed ≡ None) × (p.spoke ≡ now) × (1 ≤ length p.acks)). w.0)
        (λ (w : (p.acks ≡ []) × (p.owed ≡ h.kc.owed_ack) × (p.spoke ≡ p.pieces.spoke)
        × ((z : Owed) → p.owed ≡ Some z → now < z.rank) × (true ≡ true → now < p.spoke + 2000)).
        w.1 ∙ h.owes_none) p.told

    abbrev kc2 : CallLooks
    kc2 = c.kc2

    quiet2 : kc2.received ≡ nothing_received
    quiet2 = c.quiet ∙ h.quiet

    none2 : kc2.owed_ack ≡ None
    none2 = c.owed ∙ owed_none

    offers2 : request ≡ kc2.sent.said ++ h.offering
    offers2 = h.offers ∙ ap (λ (ys : List ℕ). ys ++ h.offering) (sym c.said)

    closed2 : kc2.sent.shut ≡ h.shut
    closed2 = c.shut ∙ h.closed

    done2 : h.shut ≡ true → h.offering ≡ []
    done2 closed = ⊎_elim (λ (w : (h.offering ≡ []) × (h.shut ≡ true)). w.0)
        (λ (w : (h.shut ≡ false) × (0 < length h.offering) × (length h.kc.sent.said ≡ 1412 * (a + 32))).
        absurd (both_ways h.shut w.0 closed)) h.out

    spoken2 : kc2.spoke ≤ now
    spoken2 =
        let old : h.kc.spoke ≤ now = h.spoken in
        let is : kc2.spoke ≡ p.spoke = c.spoke in
        ⊎_elim (λ (w : p.spoke ≡ now). omega arith)
        (λ (w : (p.spoke ≡ h.kc.spoke) × (p.pieces.last ≡ n)). (let same : p.spoke ≡ h.kc.spoke = w.0 in omega arith))
        spoke_of

    -- once pieces came it spoke now
    spoke_now : n < p.pieces.last → kc2.spoke ≡ now
    spoke_now less =
        c.spoke ∙ ⊎_elim (λ (w : p.spoke ≡ now). w)
        (λ (w : (p.spoke ≡ h.kc.spoke) × (p.pieces.last ≡ n)). absurd
        (let same : p.pieces.last ≡ n = w.1 in omega arith))
        spoke_of

    -- how many were given
    given_long : length m.polled.given ≡ (length p.pieces.messages + length p.acks)
        + (length o.pieces.messages + length o.acks)
    given_long = length_both x m.polled.given p.pieces.messages p.acks o.pieces.messages o.acks pass.given_is

    -- where something is given no clock moves
    loud : 1 ≤ length p.pieces.messages + length o.acks → t ≡ m.called
    loud some =
        settles_not m.called t (length m.polled.given == 0)
        (ne_eqb (length m.polled.given) 0 (λ (z : length m.polled.given ≡ 0).
        (let all : length m.polled.given ≡ (length p.pieces.messages + length p.acks)
        + (length o.pieces.messages + length o.acks) = given_long in omega arith))) m.settles_are

    -- ---- no piece came

    module _ (all : p.pieces.last ≡ n) (none : p.pieces.messages ≡ []) where
      -- then some are in flight
      flying : a < n
      flying =
          elim (cases_lt a n) as (λ w. a < n) [
            | inl less ↦ less
            | inr rests ↦ absurd (let go : n < p.pieces.last = p.pieces.some
                (must_go request h.since a n h.kc h.up (omega arith) (more (omega arith))) in omega arith)
          ]
        where
          more : a ≡ n → n < counting_of h.kc.sent
          more same = counts_on h.shut refl
            where
              counts_on : (b : Bool) → h.shut ≡ b → n < counting_of h.kc.sent
              counts_on true is =
                  let said : length request ≡ length h.kc.sent.said = ap (λ (ys : List ℕ). length ys) (h.offers
                  ∙ ap (λ (ys : List ℕ). h.kc.sent.said ++ ys) (done2 is) ∙ append-nil h.kc.sent.said) in
                  subst (λ (b : Bool). n < counting_by (length h.kc.sent.said) b) (sym (h.closed ∙ is))
                  (omega (arith, said, short))
              counts_on false is =
                  subst (λ (b : Bool). n < counting_by (length h.kc.sent.said) b) (sym (h.closed ∙ is))
                  (⊎_elim (λ (w : (h.offering ≡ []) × (h.shut ≡ true)). absurd (both_ways h.shut is w.1))
                  (λ (w : (h.shut ≡ false) × (0 < length h.offering)
                  × (length h.kc.sent.said ≡ 1412 * (a + 32))).
                  (let full : length h.kc.sent.said ≡ 1412 * (a + 32) = w.2
                  in omega arith)) h.out)

      abbrev takes1 : Takes (server_place x now) ks1 (p.pieces.messages ++ p.acks) ks1
      takes1 = subst (λ (ms : List Message). Takes (server_place x now) ks1 ms ks1)
          (sym (ap (λ (ms : List Message). ms ++ p.acks) none ∙ no_acks)) (takes_none ks1)

      reads1 : Reads request n ks1
      reads1 =
          record {
            read = h.reads.read;
            previous = h.reads.previous;
            kept = received1;
            low = h.reads.low;
            short = short;
            exact = h.reads.exact;
            out = ap (λ (k : CallLooks). unread_of k.received) o.is ∙ h.reads.out;
            plain = plain1;
          }

      part1 : is_complete ks1.received ≡ false
      part1 = ap (λ (r : Received). is_complete r) received1
          ∙ ap (λ (w : Option ℕ). is_within w (front_of (kept_to request n))) (last_kept request n short)

      abbrev gs : ℕ
      gs = (pass.two ks1 kc2 takes1 c.takes).0

      abbrev gc : ℕ
      gc = (pass.two ks1 kc2 takes1 c.takes).1.0

      -- behind the dispatcher's turn
      two2 : Two x (server_at x o.behind.given gs now lives.Accepted ks1)
          (client_at x p.behind.given gc [] now kc2) cs
          (record (begun (the_call x)) { request = kept_of g ks1.received.read } ∷ []) m.served
      two2 =
          subst (λ (r : Received). Two x (server_at x o.behind.given gs now lives.Accepted ks1)
          (client_at x p.behind.given gc [] now kc2) cs
          (record (begun (the_call x)) { request = kept_of g r.read } ∷ []) m.served)
          (sym (ap (λ (k : CallLooks). k.received) o.is))
          (turn_still x g (client_at x p.behind.given gc [] now kc2) cs now o.behind.given gs ks1
          (kept_of g h.ks.received.read) m.delivered m.served reads1.out part1
          (pass.two ks1 kc2 takes1 c.takes).1.1 m.serves_are)

      -- an ACK passed
      told_more : 1 ≤ length o.acks → c.a2 ≡ n → kc2.heard ≡ now → c.since2 ≡ now
          → ArrivingNext x g request call line now a n q t
      told_more some is_a heard is_since =
          let up : Sends request now n n kc2 =
          subst (λ (i : ℕ). Sends request now n i kc2) all
          (subst (λ (i : ℕ). Sends request i n p.pieces.last kc2) is_since
          (subst (λ (i : ℕ). Sends request c.since2 i p.pieces.last kc2) is_a c.up)) in
          let server_heard : h.since ≤ h.ks.heard = h.time.came flying in
          let client_spoke : h.since ≤ h.kc.spoke = h.gave flying in
          let spoke : now ≤ kc2.spoke + 1000 =
          (let is : kc2.spoke ≡ p.spoke = c.spoke in
          ⊎_elim (λ (w : p.spoke ≡ now). omega arith)
          (λ (w : (p.spoke ≡ h.kc.spoke) × (p.pieces.last ≡ n)). (let same : p.spoke ≡ h.kc.spoke = w.0 in omega arith))
          spoke_of) in
          let same_heard : ks1.heard ≡ h.ks.heard = heard1 in
          comes_on now n n 1 (omega arith) (omega arith) (let f : a < n = flying in omega arith)
          (subst (Arriving x g request call line now n n 1) (sym (loud (omega arith)))
          (arriving_at x request call line g now now n n p.behind.given gc o.behind.given gs kc2 ks1 h.offering h.shut
          h.phase m.served m.called known up quiet2 none2 offers2 closed2 done2 reads1 new1 steady1
          (record {
            touch = record { client = omega arith; server = omega arith; spoke = spoke };
            past = omega arith;
            soon = omega arith;
            rests = λ rest. refl;
            owes = λ less. absurd (omega arith);
            came = λ less. absurd (omega arith);
          }) (λ less. absurd (omega arith)) spoken2 late1 (omega arith) two2 m.calls_are))

      -- nothing passed
      module _ (quiet : o.acks ≡ []) (is_a : c.a2 ≡ a) (is_kc : c.kc2 ≡ p.behind.looks) (is_since : c.since2 ≡ h.since)
        where
          up3 : Sends request h.since a n kc2
          up3 =
              subst (λ (i : ℕ). Sends request h.since a i kc2) all
              (subst (λ (i : ℕ). Sends request i a p.pieces.last kc2) is_since
              (subst (λ (i : ℕ). Sends request c.since2 i p.pieces.last kc2) is_a c.up))

          can_none : can_give kc2.cwnd kc2.sent ≡ false
          can_none =
              ap (λ (k : CallLooks). can_give k.cwnd k.sent) is_kc
              ∙ ap (λ (k : CallLooks). can_give k.cwnd k.sent) p.is
              ∙ sym (ap (λ (k : CallLooks). can_give k.cwnd k.sent) p.pieces.is) ∙ p.pieces.over

          abbrev ls1 : Looks
          ls1 = server_at x o.behind.given gs now lives.Accepted ks1

          abbrev js1 : List JobState
          js1 = record (begun (the_call x)) { request = kept_of g ks1.received.read } ∷ []

          out2 : ((h.offering ≡ []) × (h.shut ≡ true))
              ⊎ ((h.shut ≡ false) × (0 < length h.offering) × (length kc2.sent.said ≡ 1412 * (a + 32)))
          out2 = ⊎_elim (λ (w : (h.offering ≡ []) × (h.shut ≡ true)). inl w)
              (λ (w : (h.shut ≡ false) × (0 < length h.offering) × (length h.kc.sent.said ≡ 1412 * (a + 32))).
              inr (w.0, w.1, ap (λ (ys : List ℕ). length ys) c.said ∙ w.2)) h.out

          -- the caller says no more
          two3 : Two x ls1 (client_at x p.behind.given gc [] now kc2)
              (caller_at call line (caller_with x h.offering h.shut [] phases.Resting) ∷ []) js1 m.called
          two3 = says_still x request call line None h.shut now p.behind.given gc h.since a n ls1 js1 kc2 h.offering
              h.phase
              m.served m.called up3 quiet2 closed2 (omega (arith, known_a, short)) out2 two2 m.calls_are

          is_quiet : (length m.polled.given == 0) ≡ true
          is_quiet = eq-eqb (length m.polled.given) 0
              (let one : length p.pieces.messages ≡ 0 = ap (λ (ms : List Message). length ms) none in
              let two_ : length p.acks ≡ 0 = ap (λ (ms : List Message). length ms) no_acks in
              let three : length o.pieces.messages ≡ 0 = ap (λ (ms : List Message). length ms) nothing.1 in
              let four : length o.acks ≡ 0 = ap (λ (ms : List Message). length ms) quiet in
              let sum : length m.polled.given ≡ (length p.pieces.messages + length p.acks)
              + (length o.pieces.messages + length o.acks) = given_long in omega arith)

          heard2 : kc2.heard ≡ h.kc.heard
          heard2 = ap (λ (k : CallLooks). k.heard) is_kc ∙ ap (λ (k : CallLooks). k.heard) p.is

          awake3 : nat_le SILENCE_MS (now - kc2.heard) ≡ false
          awake3 = ap (λ (i : ℕ). nat_le SILENCE_MS (now - i)) heard2 ∙ awake

          awake4 : nat_le SILENCE_MS (now - ks1.heard) ≡ false
          awake4 = ap (λ (i : ℕ). nat_le SILENCE_MS (now - i)) heard1 ∙ awake2

          abbrev settled : Settled x ls1 (client_at x p.behind.given gc [] now kc2)
              (caller_at call line (caller_with x h.offering h.shut [] phases.Resting) ∷ []) js1 now
              (end_moments false ks1) (end_moments true kc2) (length m.polled.given == 0) t
          settled = settles_two x ls1 (client_at x p.behind.given gc [] now kc2)
              (caller_at call line (caller_with x h.offering h.shut [] phases.Resting) ∷ []) js1 now
              (end_moments false ks1) (end_moments true kc2) refl refl
              (server_moments x (the_call x ∷ []) now gs o.behind.given lives.Accepted ks1 refl refl awake4)
              (client_moments x [] now gc p.behind.given kc2 awake3) (kc2.spoke + PING_MS) (in_ping kc2)
              (let old : kc2.spoke ≤ now = spoken2 in omega arith) early (length m.polled.given == 0) m.called t two3
              m.settles_are

          -- an ACK is owed soon
          module _ (w : Owed) (owes : ks1.owed_ack ≡ Some w) (low : w.rank ≤ h.since + 100) where
            now2_low : settled.then_now ≤ h.since + 100
            now2_low =
                let near : settled.then_now ≤ max now w.rank = settled.near w.rank
                (inl (in_ack false ks1 w owes)) in
                omega (arith, soon)

            now2_far : settled.then_now ≤ now + 2000
            now2_far =
                let near : settled.then_now ≤ max now (kc2.spoke + 2000) = settled.near (kc2.spoke + PING_MS)
                (inr (in_ping kc2)) in
                omega (arith, spoken2)

            -- nothing of the client is due
            client_later : (mm : ℕ) → In mm (end_moments true kc2) → settled.then_now < mm
            client_later mm there = by (moment_of true request h.since a n kc2 up3 can_none mm there)
              where
                client_spoke : h.since ≤ kc2.spoke
                client_spoke = (let older : h.since ≤ h.kc.spoke = h.gave flying in
                    let is_ : kc2.spoke ≡ p.spoke = c.spoke in
                    ⊎_elim (λ (u : p.spoke ≡ now). omega (arith, past))
                    (λ (u : (p.spoke ≡ h.kc.spoke) × (p.pieces.last ≡ n)). (let same : p.spoke ≡ h.kc.spoke = u.0 in
                    omega arith)) spoke_of)

                by : MomentOf true request h.since a n kc2 up3 can_none mm → settled.then_now < mm
                by (of_piece some late) = omega (arith, now2_low)
                by (of_ack z is same) = absurd (let never : ◌≡◌ {A = Option Owed} (Some z) None = sym is ∙ none2 in cc)
                by (of_ping side same) = omega (arith, now2_low, client_spoke)
                by (of_death same) =
                    (let near : h.since ≤ h.kc.heard + 3000 = touch.client in omega (arith, now2_low, heard2))

            -- so the ACK is
            due_now : IsOwedBy settled.then_now ks1
            due_now =
                let r = settled.reached is_quiet in by r.0 r.1 r.2
              where
                by : (mm : ℕ) → InEither mm (end_moments false ks1) (end_moments true kc2) → mm ≤ settled.then_now
                    → IsOwedBy settled.then_now ks1
                by mm (inr second) within = absurd
                    (let later : settled.then_now < mm = client_later mm second in omega arith)
                by mm (inl first) within =
                    of (moment_of false [] now 0 0 ks1 (nothing_sends now ks1 new1 steady1) (nothing_gives ks1 new1) mm
                    first)
                  where
                    of : MomentOf false [] now 0 0 ks1 (nothing_sends now ks1 new1 steady1) (nothing_gives ks1 new1) mm
                        → IsOwedBy settled.then_now ks1
                    of (of_piece some late) = absurd (omega arith)
                    of (of_ack z is same) =
                        subst (λ (v : Option Owed). IsSomeAnd v (λ y. y.rank ≤ settled.then_now)) (sym is) (omega arith)
                    of (of_ping side same) = absurd cc
                    of (of_death same) = absurd (let near : h.since ≤ h.ks.heard + 1000 = touch.server in
                        omega (arith, now2_low, heard1))

            waits_for_ack : 1 ≤ q → ArrivingNext x g request call line now a n q t
            waits_for_ack some =
                let from : now ≤ settled.then_now = settled.from in
                comes_on settled.then_now a n 0 from now2_far (omega arith)
                (record {
                  kc = kc2;
                  ks = ks1;
                  given = p.behind.given;
                  used = gc;
                  server = server_at x o.behind.given gs settled.then_now lives.Accepted ks1;
                  jobs = js1;
                  offering = h.offering;
                  shut = h.shut;
                  phase = phases.Resting;
                  two = settled.two;
                  serving = at_work o.behind.given gs known;
                  since = h.since;
                  up = up3;
                  offers = offers2;
                  closed = closed2;
                  out = out2;
                  quiet = quiet2;
                  owes_none = none2;
                  reads = reads1;
                  says_none = new1;
                  fresh = steady1;
                  time = record {
                    touch = record {
                      client = omega (arith, touch.client, heard2);
                      server = omega (arith, touch.server, heard1);
                      spoke = spoke_near;
                    };
                    past = omega (arith, past);
                    soon = now2_low;
                    rests = λ same. absurd (omega (arith, flying));
                    owes = λ less. subst (λ (z : Option Owed). IsSomeAnd z (λ v. v.rank ≤ h.since + 100)) (sym owes)
                        low;
                    came = λ less. omega (arith, h.time.came flying, heard1);
                  };
                  gave = λ less. client_gave;
                  spoken = omega (arith, spoken2);
                  late = subst (λ (z : Option Owed). IfSome z (λ v. v.rank ≤ settled.then_now + 100)) (sym owes)
                      (omega (arith, past));
                  due = λ is. (flying, due_now);
                  ready = omega arith;
                })
              where
                client_gave : h.since ≤ kc2.spoke
                client_gave = (let older : h.since ≤ h.kc.spoke = h.gave flying in
                    let is_ : kc2.spoke ≡ p.spoke = c.spoke in
                    ⊎_elim (λ (u : p.spoke ≡ now). omega (arith, past))
                    (λ (u : (p.spoke ≡ h.kc.spoke) × (p.pieces.last ≡ n)). (let same : p.spoke ≡ h.kc.spoke = u.0 in
                    omega arith)) spoke_of)

                spoke_near : h.since ≤ kc2.spoke + 1000
                spoke_near = (let near : h.since ≤ kc2.spoke = client_gave in omega arith)

          quiet_next : ArrivingNext x g request call line now a n q t
          quiet_next = of ks1.owed_ack refl (owes1 quiet (h.since + 100) (h.time.owes flying))
            where
              some : 1 ≤ q
              some = elim (cases_lt 0 q) as (λ z. 1 ≤ q) [
                | inl more ↦ more
                | inr none_ ↦ absurd (not_due quiet (h.due (omega arith)).1)
              ]

              of : (z : Option Owed) → ks1.owed_ack ≡ z → IsSomeAnd z (λ v. v.rank ≤ h.since + 100)
                  → ArrivingNext x g request call line now a n q t
              of None is some_ = absurd some_
              of (Some w) is some_ = waits_for_ack w is some_ some

      no_piece_next : ArrivingNext x g request call line now a n q t
      no_piece_next = ⊎_elim
          (λ (w : (o.acks ≡ []) × (c.a2 ≡ a) × (c.kc2 ≡ p.behind.looks) × (a < n → c.since2 ≡ h.since)
          × (n ≤ a → c.since2 ≡ now)). quiet_next w.0 w.1 w.2 (w.3 flying))
          (λ (w : (1 ≤ length o.acks) × (c.a2 ≡ n) × (c.kc2.heard ≡ now) × (c.since2 ≡ now)).
          told_more w.0 w.1 w.2 w.3) c.told

    -- ---- pieces came

    module _ (less : n < p.pieces.last) (owed : Owed) (plain : IsPlainOwed owed) (late_owed : owed.rank ≤ now + 100)
        (sooner : (r : ℕ) → IsOwedBy r ks1 → owed.rank ≤ r) (zero_end : p.pieces.last ≡ total request → owed.rank ≡ 0)
        (takes : (more : List Message) (l : CallLooks)
        → Takes (server_place x now) (came_behind false now request h.reads.read p.pieces.last owed ks1) more l
        → Takes (server_place x now) ks1 (p.pieces.messages ++ more) l) where
      abbrev ks2 : CallLooks
      ks2 = came_behind false now request h.reads.read p.pieces.last owed ks1

      abbrev takes2 : Takes (server_place x now) ks1 (p.pieces.messages ++ p.acks) ks2
      takes2 = takes p.acks ks2 (subst (λ (ms : List Message). Takes (server_place x now) ks2 ms ks2) (sym no_acks)
          (takes_none ks2))

      abbrev us2 : ℕ
      us2 = (pass.two ks2 kc2 takes2 c.takes).0

      abbrev uc2 : ℕ
      uc2 = (pass.two ks2 kc2 takes2 c.takes).1.0

      two4 : Two x (server_at x o.behind.given us2 now lives.Accepted ks2) (client_at x p.behind.given uc2 [] now kc2)
          cs
          (record (begun (the_call x)) { request = kept_of g h.reads.read } ∷ []) m.delivered
      two4 = subst (λ (ys : List ℕ). Two x (server_at x o.behind.given us2 now lives.Accepted ks2)
          (client_at x p.behind.given uc2 [] now kc2) cs
          (record (begun (the_call x)) { request = kept_of g ys } ∷ []) m.delivered)
          (ap (λ (r : Received). r.read) h.reads.kept) (pass.two ks2 kc2 takes2 c.takes).1.1

      -- what is known of the moments
      record Moments : Type 0 where
        fewer : c.a2 < p.pieces.last
        rises : a ≤ c.a2
        soon_owed : owed.rank ≤ c.since2 + 100
        past2 : c.since2 ≤ now
        soon2 : now ≤ c.since2 + 100
        touch2 : c.since2 ≤ kc2.heard + 3000

      moments_are : Moments
      moments_are = ⊎_elim
          (λ (w : (o.acks ≡ []) × (c.a2 ≡ a) × (c.kc2 ≡ p.behind.looks) × (a < n → c.since2 ≡ h.since)
          × (n ≤ a → c.since2 ≡ now)).
          (let heard_same : kc2.heard ≡ h.kc.heard = ap (λ (k : CallLooks). k.heard) w.2
          ∙ ap (λ (k : CallLooks). k.heard) p.is in
          let near : h.since ≤ h.kc.heard + 3000 = touch.client in
          let same_a : c.a2 ≡ a = w.1 in
          elim (cases_lt a n) as (λ z. Moments) [
            | inl fewer_ ↦ (
                let is : c.since2 ≡ h.since = w.3 fewer_ in
                let first : owed.rank ≤ h.since + 100 = sooner (h.since + 100) (owes1 w.0 (h.since + 100)
                (h.time.owes fewer_)) in
                record {
                  fewer = omega (arith, known_a);
                  rises = omega arith;
                  soon_owed = omega arith;
                  past2 = omega (arith, past);
                  soon2 = omega (arith, soon);
                  touch2 = omega arith;
                })
            | inr rests ↦ (
                let is : c.since2 ≡ now = w.4 rests in
                let same : h.since ≡ now = h.time.rests (omega (arith, known_a)) in
                record {
                  fewer = omega (arith, known_a);
                  rises = omega arith;
                  soon_owed = omega arith;
                  past2 = omega arith;
                  soon2 = omega arith;
                  touch2 = omega arith;
                })
          ]))
          (λ (w : (1 ≤ length o.acks) × (c.a2 ≡ n) × (c.kc2.heard ≡ now) × (c.since2 ≡ now)).
          (let same_a : c.a2 ≡ n = w.1 in
          let heard_now : kc2.heard ≡ now = w.2 in
          let is : c.since2 ≡ now = w.3 in
          record {
            fewer = omega arith;
            rises = omega (arith, known_a);
            soon_owed = omega arith;
            past2 = omega arith;
            soon2 = omega arith;
            touch2 = omega arith;
          })) c.told

      pieces_came : Came x request now c.a2 p.pieces.last c.since2 kc2 ks2 h.offering h.shut
      pieces_came =
          record {
            known = omega arith;
            within = last_within;
            less = moments_are.fewer;
            up = c.up;
            quiet = quiet2;
            none = none2;
            offers = offers2;
            closed = closed2;
            done = done2;
            new = new1;
            steady = record {
              wide = steady1.wide;
              most = steady1.most;
              steady = steady1.steady;
              even = steady1.even;
              slow = steady1.slow;
            };
            plain = plain;
            late = late_owed;
            owes = inl moments_are.soon_owed;
            heard = refl;
            past = moments_are.past2;
            soon = moments_are.soon2;
            spoke = spoke_now less;
            touch = moments_are.touch2;
          }

      turns : TurnsNext x g request call line now c.a2 p.pieces.last m.called
      turns =
          turns_next x g request call line small now c.a2 p.pieces.last c.since2 p.behind.given uc2 o.behind.given us2
          kc2
          ks2 h.offering h.shut h.phase pieces_came m.served m.called m.calls_are
          (turn_reads x g request (client_at x p.behind.given uc2 [] now kc2) cs now o.behind.given us2 p.pieces.last
          p.pieces.last ks2 h.reads.read m.delivered m.served are_bytes coded new1 last_within
          (begins_read request now p.pieces.last p.pieces.last ks2 h.reads.read n refl (omega arith) h.reads.exact
          steady1.steady)
          two4 m.serves_are)

      pieces_next : ArrivingNext x g request call line now a n q t
      pieces_next =
          subst (ArrivingNext x g request call line now a n q)
          (sym (loud (let some : 1 ≤ length p.pieces.messages = burst_some (header_of x) true request n p.pieces.last
          p.pieces.messages less p.pieces.burst in omega arith))) (of turns)
        where
          of : TurnsNext x g request call line now c.a2 p.pieces.last m.called
              → ArrivingNext x g request call line now a n q m.called
          of (reads_more next) =
              comes_on now c.a2 p.pieces.last 1 (omega arith) (omega arith) (omega (arith, moments_are.rises)) next
          of (waits_next next) = waits_now next
          of (replies_next reply next) = replies_now reply next
          of (refuses_next code next) = refuses_now code next

    pub arriving_next : ArrivingNext x g request call line now a n q t
    arriving_next =
        by (takes_burst false now (header_of x) request h.reads.read h.reads.previous n p.pieces.last n ks1
        p.pieces.messages p.pieces.burst received1 (omega (arith, used_read request n h.ks h.reads))
        near last_within (omega (arith, last_within))
        (subst (λ (z : Sent). held_pieces z ≤ 32) (sym new1) (omega arith)) steady1.steady (λ client. absurd cc) plain1
        late1)
      where
        near : p.pieces.last ≤ n + 32
        near =
            let s1 = p.pieces.sends 0 (omega arith) (λ less. omega arith) in
            let near_ : p.pieces.last ≤ a + 32 = s1.near in omega (arith, known_a)

        by : TookPieces false now (header_of x) request h.reads.read n p.pieces.last ks1 p.pieces.messages
            → ArrivingNext x g request call line now a n q t
        by (none_came same none) = no_piece_next (sym same) none
        by (some_came less owed plain late_owed sooner zero_end takes) =
            pieces_next less owed plain late_owed sooner zero_end takes
