-- A round of an invoke whose handler waits: it waits a turn less, or replies or refuses; the client pings and is
-- answered.
use Rattle.std.proofs.Common.{◌≡◌, ◌≢◌, ◌<◌, ◌≤◌, ◌⊎◌, inl, inr, ⊎_elim, ◌+◌, ◌-◌, ◌^◌, ◌++◌, ◌==◌, ℕ, ℤ, pos}
use Rattle.std.proofs.Common.{max, min, Bool, true, false, List, [], ◌∷◌, refl, ap, sym, subst, ◌∙◌, Option, Some, None}
use Rattle.std.proofs.Common.{length}
use Rattle.std.proofs.Common.{arith, append-nil, nat_le, nat_lt}
use Rattle.std.proofs.lemmas.Bool.{and_left, and_right, cases_lt, le-ltb, lt-leb, ne_eqb, eq-eqb}
use Rattle.std.specs.Prelude.{IfSome, IsSomeAnd}
use Rattle.rx_model.specs.declared.wire.TheConstants.{PING_MS, SILENCE_MS}
use Rattle.rx_model.specs.Message.{Message}
use Rattle.rx_model.proofs.NameLaws.{number_itself}
use Rattle.rx_rules.specs.CallItems.{can_give}
use Rattle.rx_rules.specs.CallLooks.{CallLooks}
use Rattle.rx_rules.specs.Items.{moments}
use Rattle.rx_rules.specs.Life as lives
use Rattle.rx_rules.specs.Looks.{Looks}
use Rattle.rx_rules.specs.Life.{is_active, is_live}
use Rattle.rx_rules.specs.Owing.{Owed}
use Rattle.rx_rules.specs.Received.{Received, marks_of, nothing_received, used_of}
use Rattle.rx_rules.specs.Sent.{Sent, counting_of, given_of, is_marked, nothing_sent}
use Rattle.rx_script.specs.Served.{refusal}
use Rattle.rx_asks.specs.declared.ask.Phase.TheVariants as phases
use Rattle.rx_jobs.specs.Handlers.{Handlers, served_for, wait_of}
use Rattle.rx_jobs.specs.Jobs.{JobState, begun}
use Rattle.rx_jobs.specs.Keeping.{kept_of}
use Rattle.rx_plan.specs.Stages.{InvokedState, Stage}
use Rattle.rx_rounds.proofs.Arriving.ArrivingRound.{ClientBehind, Exchanged, client_behind, exchanged, nothing_gives}
use Rattle.rx_rounds.proofs.Arriving.ArrivingRound.{nothing_sends}
use Rattle.rx_rounds.proofs.Arriving.ArrivingRound.{tells_none}
use Rattle.rx_rounds.proofs.Between.{HasAll, InTouch, Refusing, Replying, Waiting, Waits, answers, answers_later}
use Rattle.rx_rounds.proofs.Between.{caller_with}
use Rattle.rx_rounds.proofs.Between.{client_at, pings, rests, server_at}
use Rattle.rx_rounds.proofs.CallsOut.{waits_turn}
use Rattle.rx_rounds.proofs.Polls.PolledEnd.{PolledOut, polled_out}
use Rattle.rx_rounds.proofs.Serving.SendsLaws.{counts_within, must_go, sends_sooner}
use Rattle.rx_rounds.proofs.Flow.{total}
use Rattle.rx_rounds.proofs.One.OneCall.{Ends, client_place, header_of, server_place, server_setup, the_call}
use Rattle.rx_rounds.proofs.One.OneFields.{FitsEnds}
use Rattle.rx_rounds.proofs.One.OneNode.{length_both}
use Rattle.rx_rounds.proofs.One.OneWay.{IsOwedBy, IsPlainOwed, IsSteady, Sends}
use Rattle.rx_rounds.proofs.Pair.{CallEnd}
use Rattle.rx_rounds.proofs.Replies.ReplyBegins.{replying_at}
use Rattle.rx_rounds.proofs.Replies.ReplyMoments.{MomentOf, in_ack, in_piece, moment_of, of_ack, of_death, of_piece}
use Rattle.rx_rounds.proofs.Replies.ReplyMoments.{of_ping}
use Rattle.rx_rounds.proofs.Replies.ReplyParts.{answering_lives}
use Rattle.rx_rounds.proofs.Rounded.{RoundMade, caller_at, settles_not}
use Rattle.rx_rounds.proofs.Serving.ServeDecides.{refused_at}
use Rattle.rx_rounds.proofs.Serving.ServeTurns.{ServedOn, refused, replies_now, turn_waits, waits_longer}
use Rattle.rx_rounds.proofs.Settle.{InEither, Settled, client_moments, end_moments, in_ping, server_moments}
use Rattle.rx_rounds.proofs.Settle.{settles_two}
use Rattle.rx_rounds.proofs.Settle.{stays_still}
use Rattle.rx_rounds.proofs.Takes.TakingAck.{TookPing, heard_ack, no_ping_came, ping_came, sends_heard, takes_ping}
use Rattle.rx_rounds.proofs.Takes.Taking.{Takes, takes_none}
use Rattle.rx_rounds.proofs.Two.{AreApart, Two}

-- what a round comes to
pub data WaitingNext (x : Ends) (g : Handlers) (request : List ℕ) (call line now left : ℕ) (t : Stage) : Type 0 where
  waits_less : (now2 left2 : ℕ) → now ≤ now2 → now2 ≤ now + 2000 → left2 + 1 ≤ left
      → Waiting x g request call line now2 left2 t → WaitingNext x g request call line now left t
  then_replies : (reply : List ℕ) → Replying x g request reply call line now 0 0 3 t
      → WaitingNext x g request call line now left t
  then_refuses : (code : ℤ) → Refusing x g request call line now code t
      → WaitingNext x g request call line now left t

-- a server that owes an ABORT has it due
pub refused_moments : (x : Ends) (code : ℤ) (given used now : ℕ) (k : CallLooks)
    → moments (server_setup x) (refused_at x code given used now k) ≡ 0 ∷ []
refused_moments x code given used now k =
    rw (number_itself x.client.addr, number_itself x.client.port, number_itself x.epoch, number_itself x.first) refl

module _ (x : Ends) (g : Handlers) (fits : FitsEnds x) (apart : AreApart x) (request : List ℕ) (call line : ℕ)
    (small : total request ≤ 1000000)
    (coded : (code : ℤ) → served_for g request ≡ refusal code → code ≢ pos 0) where
  module _ (now left : ℕ) (s t : Stage) (h : Waiting x g request call line now left s) (m : RoundMade g s t)
      (early : now + 2000 < 2 ^ 62) where
    abbrev n : ℕ
    n = total request

    abbrev e : CallEnd
    e = record { looks = h.kc; given = h.given_client }

    abbrev d : CallEnd
    d = record { looks = h.ks; given = h.given_server }

    abbrev cs : List InvokedState
    cs = caller_at call line (caller_with x [] true [] h.phase) ∷ []

    abbrev js : List JobState
    js = record (begun (the_call x)) { request = kept_of g request; ended = true; steps = h.steps } ∷ []

    near_since : h.has.a < n → now ≤ h.has.since + 100
    near_since less = ⊎_elim (λ (w : h.has.a ≡ n). absurd (omega arith))
        (λ (w : IsOwedBy (h.has.since + 100) h.ks × (now ≤ h.has.since + 100)). w.1) h.acks

    abbrev p : PolledOut (client_place x now) request h.has.since h.has.a n 0 e
    p = polled_out (client_place x now) request h.has.since h.has.a n 0 e refl near_since h.has.all
        (tells_none h.kc h.quiet h.owes_none)

    abbrev o : PolledOut (server_place x now) [] now 0 0 n d
    o = polled_out (server_place x now) [] now 0 0 n d refl (λ less. absurd (omega arith))
        (nothing_sends now h.ks h.says_none h.fresh) h.has.tells

    -- no piece is left
    none_left : can_give h.kc.cwnd h.kc.sent ≡ false
    none_left =
        let counts = counts_within request h.has.since h.has.a n h.kc h.has.all in
        and_left (nat_lt (given_of h.kc.sent) (counting_of h.kc.sent)) _
        (le-ltb (given_of h.kc.sent) (counting_of h.kc.sent) (omega (arith, h.has.all.given)))

    no_pieces : (p.pieces.last ≡ n) × (p.pieces.messages ≡ []) × (p.pieces.givings ≡ h.kc.sent.givings)
        × (p.pieces.spoke ≡ h.kc.spoke)
    no_pieces = p.pieces.none none_left

    nothing : (o.pieces.last ≡ 0) × (o.pieces.messages ≡ []) × (o.pieces.givings ≡ h.ks.sent.givings)
        × (o.pieces.spoke ≡ h.ks.spoke)
    nothing = o.pieces.none (nothing_gives h.ks h.says_none)

    -- both were heard not long ago
    record Heard : Type 0 where
      client : now ≤ h.kc.heard + 6000
      server : now ≤ h.ks.heard + 3200

    heard : Heard
    heard = by h.waits
      where
        by : Waits now h.kc h.ks → Heard
        by (rests none touch) = record { client = omega (arith, touch.client); server = omega (arith, touch.server) }
        by (answers owes touch) = record { client = touch.client; server = omega (arith, touch.server) }
        by (answers_later owes near same_heard same_spoke) = record { client = omega arith; server = omega arith }
        by (pings none late near near2) = record { client = omega arith; server = near2 }

    awake : nat_le SILENCE_MS (now - h.kc.heard) ≡ false
    awake = lt-leb SILENCE_MS (now - h.kc.heard) (omega (arith, heard.client))

    awake2 : nat_le SILENCE_MS (now - h.ks.heard) ≡ false
    awake2 = lt-leb SILENCE_MS (now - h.ks.heard) (omega (arith, heard.server))

    abbrev pass : Exchanged x g fits apart request now h.has.since h.has.a n e d p o cs js m.polled.given m.delivered
    pass = exchanged x g fits apart request now h.has.since h.has.a n e d p o (omega (arith, no_pieces.0)) (omega arith)
        (omega arith) h.says_none awake awake2 cs js h.used_client h.used_server s t m h.two

    -- what was given when doesn't count where all is acknowledged
    abbrev since1 : ℕ
    since1 = min h.has.since now

    up1 : Sends request since1 h.has.a n h.kc
    up1 = sends_sooner request h.has.since h.has.a n h.kc h.has.all since1 (λ less. omega arith)

    -- ---- the server behind the polls

    abbrev ks1 : CallLooks
    ks1 = o.behind.looks

    new1 : ks1.sent ≡ nothing_sent
    new1 = ap (λ (k : CallLooks). k.sent) o.is ∙ ap (λ gs. record h.ks.sent { givings = gs }) nothing.2 ∙ h.says_none

    owed1 : ks1.owed_ack ≡ o.owed
    owed1 = ap (λ (k : CallLooks). k.owed_ack) o.is

    heard1 : ks1.heard ≡ h.ks.heard
    heard1 = ap (λ (k : CallLooks). k.heard) o.is

    received1 : ks1.received ≡ h.ks.received
    received1 = ap (λ (k : CallLooks). k.received) o.is

    steady1 : IsSteady ks1
    steady1 = subst IsSteady (sym o.is) (record {
      wide = h.fresh.wide;
      most = h.fresh.most;
      steady = h.fresh.steady;
      even = h.fresh.even;
      slow = h.fresh.slow;
    })

    -- how many were given
    given_long : length m.polled.given ≡ (length p.pieces.messages + length p.acks)
        + (length o.pieces.messages + length o.acks)
    given_long = length_both x m.polled.given p.pieces.messages p.acks o.pieces.messages o.acks pass.given_is

    loud : 1 ≤ length p.acks + length o.acks → t ≡ m.called
    loud some =
        settles_not m.called t (length m.polled.given == 0)
        (ne_eqb (length m.polled.given) 0 (λ (z : length m.polled.given ≡ 0).
        (let all : length m.polled.given ≡ (length p.pieces.messages + length p.acks)
        + (length o.pieces.messages + length o.acks) = given_long in omega arith))) m.settles_are

    -- ---- the turns

    -- how both ends stand before them
    record Stand (kc ks : CallLooks) (gc uc gs us : ℕ) : Type 0 where
      two : Two x (server_at x gs us now lives.Accepted ks) (client_at x gc uc [] now kc) cs js m.delivered
      a : ℕ
      since : ℕ
      up : Sends request since a n kc
      shut : kc.sent.shut ≡ true
      quiet : kc.received ≡ nothing_received
      none : kc.owed_ack ≡ None
      received : ks.received ≡ h.ks.received
      plain : IfSome ks.owed_ack IsPlainOwed
      new : ks.sent ≡ nothing_sent
      steady : IsSteady ks
      spoken : kc.spoke ≤ now
      touch : InTouch 4000 now kc ks
      acks : (a ≡ n) ⊎ (IsOwedBy (since + 100) ks × (now ≤ since + 100))
      past : since ≤ now

    module _ (kc ks : CallLooks) (gc uc gs us : ℕ) (b : Stand kc ks gc uc gs us) where
      soon_where : b.a < n → now ≤ b.since + 100
      soon_where less = ⊎_elim (λ (w : b.a ≡ n). absurd (omega arith))
          (λ (w : IsOwedBy (b.since + 100) ks × (now ≤ b.since + 100)). w.1) b.acks

      abbrev has : HasAll request kc ks
      has =
          record {
            tells = record {
              used = ap used_of b.received ∙ h.has.tells.used;
              marks = ap marks_of b.received ∙ h.has.tells.marks;
              previous = subst (λ (r : Received). r.previous < 2 ^ 32) (sym b.received) h.has.tells.previous;
              plain = b.plain;
            };
            ended = ap (λ (r : Received). r.ended) b.received ∙ h.has.ended;
            a = b.a;
            since = b.since;
            all = b.up;
            shut = b.shut;
          }

      -- what they come to
      data Turned_ : Type 0 where
        still_waits : h.steps + 1 < wait_of g request
            → Two x (server_at x gs us now lives.Accepted ks) (client_at x gc uc [] now kc)
            (caller_at call line (caller_with x [] true [] phases.Resting) ∷ [])
            (record (begun (the_call x)) { request = kept_of g request; ended = true; steps = h.steps + 1 } ∷ [])
            m.called
            → Turned_
        then_writes : (reply : List ℕ) → Replying x g request reply call line now 0 0 3 m.called → Turned_
        then_codes : (code : ℤ) → (r : Refusing x g request call line now code m.called) → r.kc.spoke ≤ now → Turned_

      turned : Turned_
      turned = by (turn_waits x g request (client_at x gc uc [] now kc) cs now gs us h.steps ks m.delivered m.served
          coded
          has.ended b.new has.tells.marks b.two m.serves_are)
        where
          by : ServedOn x g request (client_at x gc uc [] now kc) cs now gs us (h.steps + 1) ks m.served → Turned_
          by (waits_longer less uncoded two) =
              still_waits less (waits_turn x None (server_at x gs us now lives.Accepted ks)
              (record (begun (the_call x)) { request = kept_of g request; ended = true; steps = h.steps + 1 } ∷ []) now
              gc uc
              call line kc h.phase m.served m.called b.quiet two m.calls_are)
          by (replies_now reply served w) =
              then_writes reply (replying_at x g request call line now reply kc ks gc uc gs us
              (client_at x gc uc [] now kc) cs h.phase m.served m.called
              (record {
                has = has;
                new = b.new;
                steady = b.steady;
                quiet = b.quiet;
                none = b.none;
                touch = b.touch;
                spoken = b.spoken;
                acks = ⊎_elim (λ (z : b.a ≡ n). inl z)
                    (λ (z : IsOwedBy (b.since + 100) ks × (now ≤ b.since + 100)). inr z.1) b.acks;
              }) served w m.calls_are)
          by (refused code served some fits_ two) =
              then_codes code (record {
                kc = kc;
                ks = ks;
                given_client = gc;
                used_client = uc;
                given_server = gs;
                used_server = us;
                offering = [];
                shut = true;
                phase = phases.Resting;
                two = waits_turn x None (refused_at x code gs us now ks) [] now gc uc call line kc h.phase m.served
                    m.called
                    b.quiet two m.calls_are;
                served = served;
                some = some;
                fits = fits_;
                awake = omega (arith, b.touch.client);
                quiet = b.quiet;
                owes_none = b.none;
                a = b.a;
                n = n;
                since = b.since;
                up = b.up;
                soon = soon_where;
              }) b.spoken

      -- the stage of one that waits on
      waiting_at : (now2 : ℕ) → now ≤ now2 → now2 ≤ now + 2000 → (b.a < n → now2 ≤ b.since + 100)
          → h.steps + 1 < wait_of g request → Waits now2 kc ks
          → Two x (server_at x gs us now2 lives.Accepted ks) (client_at x gc uc [] now2 kc)
          (caller_at call line (caller_with x [] true [] phases.Resting) ∷ [])
          (record (begun (the_call x)) { request = kept_of g request; ended = true; steps = h.steps + 1 } ∷ []) t
          → WaitingNext x g request call line now left t
      waiting_at now2 from far soon less waits two =
          waits_less now2 (wait_of g request - (h.steps + 1)) from far (omega (arith, h.turns))
          (record {
            kc = kc;
            ks = ks;
            given_client = gc;
            used_client = uc;
            given_server = gs;
            used_server = us;
            phase = phases.Resting;
            steps = h.steps + 1;
            two = two;
            turns = omega arith;
            some = omega arith;
            uncoded = h.uncoded;
            has = has;
            acks = elim (cases_lt b.a n) as (λ z. (b.a ≡ n) ⊎ (IsOwedBy (b.since + 100) ks × (now2 ≤ b.since + 100))) [
              | inl flying ↦ inr (
                ⊎_elim (λ (z : b.a ≡ n). absurd (omega arith))
                    (λ (z : IsOwedBy (b.since + 100) ks × (now ≤ b.since + 100)). z.0) b.acks,
                soon flying,
              )
              | inr all ↦ inl (let known : b.a ≤ n = b.up.known in omega arith)
            ];
            past = omega (arith, b.past);
            quiet = b.quiet;
            owes_none = b.none;
            says_none = b.new;
            fresh = b.steady;
            spoken = omega (arith, b.spoken);
            waits = waits;
          })

      -- where something was given
      loud_next : t ≡ m.called → Waits now kc ks → WaitingNext x g request call line now left t
      loud_next same waits = by turned
        where
          by : Turned_ → WaitingNext x g request call line now left t
          by (still_waits less two) = waiting_at now (omega arith) (omega arith) soon_where less waits
              (subst (λ (u : Stage). Two x (server_at x gs us now lives.Accepted ks) (client_at x gc uc [] now kc)
              (caller_at call line (caller_with x [] true [] phases.Resting) ∷ [])
              (record (begun (the_call x)) { request = kept_of g request; ended = true; steps = h.steps + 1 } ∷ []) u)
              (sym same) two)
          by (then_writes reply next) = then_replies reply
              (subst (Replying x g request reply call line now 0 0 3) (sym same) next)
          by (then_codes code next spoken) = then_refuses code
              (subst (Refusing x g request call line now code) (sym same) next)

    -- ---- the client behind polls and deliveries

    abbrev c : ClientBehind x g fits apart request now h.has.since h.has.a n e d p o
    c = client_behind x g fits apart request now h.has.since h.has.a n e d p o h.past (omega arith)
        (omega (arith, no_pieces.0)) h.says_none h.has.all

    owed_none : p.owed ≡ None
    owed_none = ⊎_elim
        (λ (w : (p.owed ≡ None) × (p.spoke ≡ now) × (1 ≤ length p.acks)). w.0)
        (λ (w : (p.acks ≡ []) × (p.owed ≡ h.kc.owed_ack) × (p.spoke ≡ p.pieces.spoke)
        × ((z : Owed) → p.owed ≡ Some z → now < z.rank) × (true ≡ true → now < p.spoke + 2000)).
        w.1 ∙ h.owes_none) p.told

    spoke_of : (p.spoke ≡ now) ⊎ (p.spoke ≡ h.kc.spoke)
    spoke_of = ⊎_elim
        (λ (w : (p.owed ≡ None) × (p.spoke ≡ now) × (1 ≤ length p.acks)). inl w.1)
        (λ (w : (p.acks ≡ []) × (p.owed ≡ h.kc.owed_ack) × (p.spoke ≡ p.pieces.spoke)
        × ((z : Owed) → p.owed ≡ Some z → now < z.rank) × (true ≡ true → now < p.spoke + 2000)).
        inr (w.2 ∙ no_pieces.3)) p.told

    spoken2 : c.kc2.spoke ≤ now
    spoken2 = (let old : h.kc.spoke ≤ now = h.spoken in
        let is : c.kc2.spoke ≡ p.spoke = c.spoke in
        ⊎_elim (λ (w : p.spoke ≡ now). omega arith) (λ (w : p.spoke ≡ h.kc.spoke). omega arith) spoke_of)

    spoke_near : (far : ℕ) → now ≤ h.kc.spoke + far → now ≤ c.kc2.spoke + far
    spoke_near far near = (let is : c.kc2.spoke ≡ p.spoke = c.spoke in
        ⊎_elim (λ (w : p.spoke ≡ now). omega arith) (λ (w : p.spoke ≡ h.kc.spoke). omega arith) spoke_of)

    -- both stand so, where the server has these looks then
    abbrev stand : (ks : CallLooks) (takes : Takes (server_place x now) ks1 (p.pieces.messages ++ p.acks) ks)
        → ks.received ≡ ks1.received → IfSome ks.owed_ack IsPlainOwed → ks.sent ≡ nothing_sent → IsSteady ks
        → InTouch 4000 now c.kc2 ks → (c.a2 ≡ n) ⊎ (IsOwedBy (c.since2 + 100) ks × (now ≤ c.since2 + 100))
        → c.since2 ≤ now
        → Stand c.kc2 ks p.behind.given (pass.two ks c.kc2 takes c.takes).1.0 o.behind.given
        (pass.two ks c.kc2 takes c.takes).0
    stand ks takes same plain new steady touch acks past =
        record {
          two = (pass.two ks c.kc2 takes c.takes).1.1;
          a = c.a2;
          since = c.since2;
          up = subst (λ (i : ℕ). Sends request c.since2 c.a2 i c.kc2) no_pieces.0 c.up;
          shut = c.shut ∙ h.has.shut;
          quiet = c.quiet ∙ h.quiet;
          none = c.owed ∙ owed_none;
          received = same ∙ received1;
          plain = plain;
          new = new;
          steady = steady;
          spoken = spoken2;
          touch = touch;
          acks = acks;
          past = past;
        }

    -- it takes no ping
    takes_nothing : p.acks ≡ [] → Takes (server_place x now) ks1 (p.pieces.messages ++ p.acks) ks1
    takes_nothing none = subst (λ (ms : List Message). Takes (server_place x now) ks1 ms ks1)
        (sym (ap (λ (ms : List Message). ms ++ p.acks) no_pieces.1 ∙ none)) (takes_none ks1)

    plain_none : (ks : CallLooks) → ks.owed_ack ≡ None → IfSome ks.owed_ack IsPlainOwed
    plain_none ks none = subst (λ (w : Option Owed). IfSome w IsPlainOwed) (sym none) tt

    -- the server gave an ACK
    acked_next : InTouch 6000 now h.kc h.ks → o.owed ≡ None → 1 ≤ length o.acks
        → WaitingNext x g request call line now left t
    acked_next touch owed_now some =
        ⊎_elim
        (λ (z : (o.acks ≡ []) × (c.a2 ≡ h.has.a) × (c.kc2 ≡ p.behind.looks) × (h.has.a < n → c.since2 ≡ h.has.since)
        × (n ≤ h.has.a → c.since2 ≡ now)).
        absurd (let none : length o.acks ≡ 0 = ap (λ (xs : List Message). length xs) z.0 in omega arith))
        (λ (z : (1 ≤ length o.acks) × (c.a2 ≡ n) × (c.kc2.heard ≡ now) × (c.since2 ≡ now)).
        (let none : ks1.owed_ack ≡ None = owed1 ∙ owed_now in
        let quiet : p.acks ≡ [] = p.quiet h.owes_none (λ is. (let near : now ≤ h.kc.spoke + 1000 = touch.spoke in
        omega arith)) in
        let heard_now : c.kc2.heard ≡ now = z.2 in
        let since_now : c.since2 ≡ now = z.3 in
        let near : InTouch 4000 now c.kc2 ks1 = record {
          client = omega arith;
          server = omega (arith, touch.server, heard1);
          spoke = spoke_near 1000 touch.spoke;
        } in
        let b = stand ks1 (takes_nothing quiet) refl (plain_none ks1 none) new1 steady1 near (inl z.1) (omega arith) in
        loud_next c.kc2 ks1 p.behind.given (pass.two ks1 c.kc2 (takes_nothing quiet) c.takes).1.0 o.behind.given
        (pass.two ks1 c.kc2 (takes_nothing quiet) c.takes).0 b (loud (omega (arith, z.0)))
        (rests none (record {
          client = omega arith;
          server = omega (arith, touch.server, heard1);
          spoke = spoke_near 1000 touch.spoke;
        })))) c.told

    -- it owes one that is due: it gives it
    answers_next : IsOwedBy now h.ks → InTouch 6000 now h.kc h.ks → WaitingNext x g request call line now left t
    answers_next owes touch =
        ⊎_elim
        (λ (w : (o.owed ≡ None) × (o.spoke ≡ now) × (1 ≤ length o.acks)). acked_next touch w.0 w.2)
        (λ (w : (o.acks ≡ []) × (o.owed ≡ h.ks.owed_ack) × (o.spoke ≡ o.pieces.spoke)
        × ((z : Owed) → o.owed ≡ Some z → now < z.rank) × (false ≡ true → now < o.spoke + 2000)).
        absurd (later h.ks.owed_ack owes (λ z is. w.3 z (w.1 ∙ is)))) o.told
      where
        later : (w : Option Owed) → IsSomeAnd w (λ z. z.rank ≤ now) → ((z : Owed) → w ≡ Some z → now < z.rank) → ⊥
        later None some high = absurd some
        later (Some z) some high = (let above : now < z.rank = high z refl in absurd (omega arith))

    -- all is acknowledged where nothing is owed
    all_known : h.ks.owed_ack ≡ None → h.has.a ≡ n
    all_known none = ⊎_elim (λ (w : h.has.a ≡ n). w)
        (λ (w : IsOwedBy (h.has.since + 100) h.ks × (now ≤ h.has.since + 100)).
        absurd (subst (λ (z : Option Owed). IsSomeAnd z (λ v. v.rank ≤ h.has.since + 100)) none w.0)) h.acks

    server_quiet : h.ks.owed_ack ≡ None → o.acks ≡ []
    server_quiet none = o.quiet none (λ is. absurd cc)

    -- then the client wasn't told, and stands as behind its polls
    untold : h.ks.owed_ack ≡ None → (c.a2 ≡ n) × (c.kc2 ≡ p.behind.looks) × (c.since2 ≡ now)
    untold none = ⊎_elim
        (λ (z : (o.acks ≡ []) × (c.a2 ≡ h.has.a) × (c.kc2 ≡ p.behind.looks) × (h.has.a < n → c.since2 ≡ h.has.since)
        × (n ≤ h.has.a → c.since2 ≡ now)).
        (z.1 ∙ all_known none, z.2, z.4 (omega (arith, all_known none))))
        (λ (z : (1 ≤ length o.acks) × (c.a2 ≡ n) × (c.kc2.heard ≡ now) × (c.since2 ≡ now)).
        absurd (let empty : length o.acks ≡ 0 = ap (λ (xs : List Message). length xs) (server_quiet none) in
        let some : 1 ≤ length o.acks = z.0 in omega arith)) c.told

    -- a ping is due: the client gives it
    pings_next : h.ks.owed_ack ≡ None → h.kc.spoke + 2000 ≤ now → now ≤ h.kc.heard + 3200 → now ≤ h.ks.heard + 3200
        → WaitingNext x g request call line now left t
    pings_next none late near near2 =
        ⊎_elim
        (λ (w : (p.owed ≡ None) × (p.spoke ≡ now) × (1 ≤ length p.acks)). by w.1 w.2
        (takes_ping [] now 0 0 ks1 (nothing_sends now ks1 new1 steady1) 0 (omega arith) (omega arith) false now
        (header_of x) p.acks (omega arith) p.tells (p.pings h.owes_none)))
        (λ (w : (p.acks ≡ []) × (p.owed ≡ h.kc.owed_ack) × (p.spoke ≡ p.pieces.spoke)
        × ((z : Owed) → p.owed ≡ Some z → now < z.rank) × (true ≡ true → now < p.spoke + 2000)).
        absurd (let soon : now < p.spoke + 2000 = w.4 refl in let same : p.spoke ≡ h.kc.spoke = w.2 ∙ no_pieces.3 in
        omega arith)) p.told
      where
        by : p.spoke ≡ now → 1 ≤ length p.acks → TookPing false now (header_of x) 0 ks1 p.acks
            → WaitingNext x g request call line now left t
        by spoke_now some (no_ping_came empty) =
            absurd (let zero_ : length p.acks ≡ 0 = ap (λ (xs : List Message). length xs) empty in omega arith)
        by spoke_now some (ping_came serial fits_ takes) =
            let ks2 : CallLooks = heard_ack now 0 6 serial ks1 in
            let u = untold none in
            let takes2 : Takes (server_place x now) ks1 (p.pieces.messages ++ p.acks) ks2 =
            subst (λ (ms : List Message). Takes (server_place x now) ks1 ms ks2)
            (append-nil p.acks ∙ ap (λ (ms : List Message). ms ++ p.acks) (sym no_pieces.1))
            (takes [] ks2 (takes_none ks2)) in
            let new2 : ks2.sent ≡ nothing_sent =
            ap (λ (z : Sent). record z { acked = 0; soft = is_marked 1 []; peer_window = 32 }) new1
            ∙ ap (λ (f : ℕ → Bool). record nothing_sent { soft = f }) (λ i k. and_right (nat_le 1 k) false refl i) in
            let steady2 : IsSteady ks2 =
            (sends_heard [] now 0 0 ks1 (nothing_sends now ks1 new1 steady1) 0 (omega arith)
            (omega arith) now now 6 serial (λ j low high. absurd (omega arith))).rates in
            let heard_is : c.kc2.heard ≡ h.kc.heard = ap (λ (k : CallLooks). k.heard) u.1
            ∙ ap (λ (k : CallLooks). k.heard) p.is in
            let touch : InTouch 4000 now c.kc2 ks2 = record {
              client = omega arith;
              server = omega arith;
              spoke = omega (arith, c.spoke);
            } in
            let is_since : c.since2 ≡ now = u.2 in
            let b = stand ks2 takes2 refl
            (record { reason_low = omega arith; reason_high = omega arith; serial = fits_; no_ping = refl }) new2
            steady2
            touch (inl u.0) (omega arith) in
            loud_next c.kc2 ks2 p.behind.given (pass.two ks2 c.kc2 takes2 c.takes).1.0 o.behind.given
            (pass.two ks2 c.kc2 takes2 c.takes).0 b (loud (omega arith))
            (answers (omega arith) (record {
              client = omega arith;
              server = omega arith;
              spoke = omega (arith, c.spoke);
            }))

    -- ---- nothing is given

    module _ (calm : o.acks ≡ []) (lasts : IfSome h.ks.owed_ack (λ z. z.rank ≤ now + 100))
        (touch : InTouch 3200 now h.kc h.ks) (near_none : h.ks.owed_ack ≡ None → now ≤ h.kc.heard + 1000)
        (near_some : (z : Owed) → h.ks.owed_ack ≡ Some z → (now ≤ h.ks.heard + 900) × (now ≤ h.kc.spoke + 900)) where
      owed_still : ks1.owed_ack ≡ h.ks.owed_ack
      owed_still = owed1 ∙ ⊎_elim
          (λ (w : (o.owed ≡ None) × (o.spoke ≡ now) × (1 ≤ length o.acks)).
          absurd (let empty : length o.acks ≡ 0 = ap (λ (ms : List Message). length ms) calm in
          let some : 1 ≤ length o.acks = w.2 in omega arith))
          (λ (w : (o.acks ≡ []) × (o.owed ≡ h.ks.owed_ack) × (o.spoke ≡ o.pieces.spoke)
          × ((z : Owed) → o.owed ≡ Some z → now < z.rank) × (false ≡ true → now < o.spoke + 2000)).
          w.1) o.told

      -- the client wasn't told
      record Untold : Type 0 where
        same_a : c.a2 ≡ h.has.a
        same_kc : c.kc2 ≡ p.behind.looks
        when_less : h.has.a < n → c.since2 ≡ h.has.since
        when_all : n ≤ h.has.a → c.since2 ≡ now

      not_told : Untold
      not_told = ⊎_elim
          (λ (z : (o.acks ≡ []) × (c.a2 ≡ h.has.a) × (c.kc2 ≡ p.behind.looks) × (h.has.a < n → c.since2 ≡ h.has.since)
          × (n ≤ h.has.a → c.since2 ≡ now)).
          record { same_a = z.1; same_kc = z.2; when_less = z.3; when_all = z.4 })
          (λ (z : (1 ≤ length o.acks) × (c.a2 ≡ n) × (c.kc2.heard ≡ now) × (c.since2 ≡ now)).
          absurd (let empty : length o.acks ≡ 0 = ap (λ (ms : List Message). length ms) calm in
          let some : 1 ≤ length o.acks = z.0 in omega arith)) c.told

      past2 : c.since2 ≤ now
      past2 = elim (cases_lt h.has.a n) as (λ z. c.since2 ≤ now) [
        | inl less ↦ omega (arith, not_told.when_less less, h.past)
        | inr all ↦ omega (arith, not_told.when_all all)
      ]

      -- where it knows of less the server owes an ACK soon
      owes_on : h.has.a < n → IsOwedBy (c.since2 + 100) ks1 × (now ≤ c.since2 + 100)
      owes_on less = ⊎_elim
          (λ (z : h.has.a ≡ n). absurd (omega arith))
          (λ (z : IsOwedBy (h.has.since + 100) h.ks × (now ≤ h.has.since + 100)). (
            subst (λ (i : ℕ). IsOwedBy (i + 100) ks1) (sym (not_told.when_less less))
                (subst (λ (v : Option Owed). IsSomeAnd v (λ y. y.rank ≤ h.has.since + 100)) (sym owed_still) z.0),
            omega (arith, not_told.when_less less, z.1),
          )) h.acks

      no_ping : p.acks ≡ []
      no_ping = p.quiet h.owes_none (λ is. (let near : now ≤ h.kc.spoke + 1000 = touch.spoke in omega arith))

      abbrev quiet_takes : Takes (server_place x now) ks1 (p.pieces.messages ++ p.acks) ks1
      quiet_takes = takes_nothing no_ping

      abbrev gc : ℕ
      gc = (pass.two ks1 c.kc2 quiet_takes c.takes).1.0

      abbrev gs : ℕ
      gs = (pass.two ks1 c.kc2 quiet_takes c.takes).0

      heard_is : c.kc2.heard ≡ h.kc.heard
      heard_is = ap (λ (k : CallLooks). k.heard) not_told.same_kc ∙ ap (λ (k : CallLooks). k.heard) p.is

      abbrev stands : Stand c.kc2 ks1 p.behind.given gc o.behind.given gs
      stands = stand ks1 quiet_takes refl
          (subst (λ (w : Option Owed). IfSome w IsPlainOwed) (sym owed_still) h.has.tells.plain) new1 steady1
          (record {
            client = omega (arith, touch.client, heard_is);
            server = omega (arith, touch.server, heard1);
            spoke = spoke_near 1000 touch.spoke;
          })
          (elim (cases_lt h.has.a n) as (λ z. (c.a2 ≡ n) ⊎ (IsOwedBy (c.since2 + 100) ks1 × (now ≤ c.since2 + 100))) [
            | inl less ↦ inr (owes_on less)
            | inr all ↦ inl (let known : h.has.a ≤ n = h.has.all.known in omega (arith, not_told.same_a))
          ]) past2

      is_quiet : (length m.polled.given == 0) ≡ true
      is_quiet = eq-eqb (length m.polled.given) 0
          (let one : length p.pieces.messages ≡ 0 = ap (λ (ms : List Message). length ms) no_pieces.1 in
          let two_ : length p.acks ≡ 0 = ap (λ (ms : List Message). length ms) no_ping in
          let three : length o.pieces.messages ≡ 0 = ap (λ (ms : List Message). length ms) nothing.1 in
          let four : length o.acks ≡ 0 = ap (λ (ms : List Message). length ms) calm in
          let sum : length m.polled.given ≡ (length p.pieces.messages + length p.acks)
          + (length o.pieces.messages + length o.acks) = given_long in omega arith)

      awake3 : nat_le SILENCE_MS (now - c.kc2.heard) ≡ false
      awake3 = ap (λ (i : ℕ). nat_le SILENCE_MS (now - i)) heard_is ∙ awake

      awake4 : nat_le SILENCE_MS (now - ks1.heard) ≡ false
      awake4 = ap (λ (i : ℕ). nat_le SILENCE_MS (now - i)) heard1 ∙ awake2

      abbrev lc2 : Looks
      lc2 = client_at x p.behind.given gc [] now c.kc2

      ping_soon : c.kc2.spoke + PING_MS ≤ now + 2000
      ping_soon = omega (arith, spoken2)

      -- it waits on: both clocks move until the ACK that is owed is due, or a ping
      still : h.steps + 1 < wait_of g request
          → Two x (server_at x o.behind.given gs now lives.Accepted ks1) lc2
          (caller_at call line (caller_with x [] true [] phases.Resting) ∷ [])
          (record (begun (the_call x)) { request = kept_of g request; ended = true; steps = h.steps + 1 } ∷ []) m.called
          → WaitingNext x g request call line now left t
      still less two =
          let js2 : List JobState = record (begun (the_call x))
          { request = kept_of g request; ended = true; steps = h.steps + 1 } ∷ [] in
          let cs2 : List InvokedState = caller_at call line (caller_with x [] true [] phases.Resting) ∷ [] in
          let ls2 : Looks = server_at x o.behind.given gs now lives.Accepted ks1 in
          let z : Settled x ls2 lc2 cs2 js2 now (end_moments false ks1) (end_moments true c.kc2)
          (length m.polled.given == 0) t =
          settles_two x ls2 lc2 cs2 js2 now (end_moments false ks1) (end_moments true c.kc2) refl refl
          (server_moments x (the_call x ∷ []) now gs o.behind.given lives.Accepted ks1 refl refl awake4)
          (client_moments x [] now gc p.behind.given c.kc2 awake3) (c.kc2.spoke + PING_MS) (in_ping c.kc2)
          ping_soon early (length m.polled.given == 0) m.called t two m.settles_are in
          let from : now ≤ z.then_now = z.from in
          let near : z.then_now ≤ max now (c.kc2.spoke + 2000) = z.near (c.kc2.spoke + PING_MS) (inr (in_ping c.kc2)) in
          let far : z.then_now ≤ now + 2000 = omega (arith, spoken2) in
          let low : (w : Owed) → ks1.owed_ack ≡ Some w → z.then_now ≤ max now w.rank =
          λ w is. z.near w.rank (inl (in_ack false ks1 w is)) in
          let r = z.reached is_quiet in
          waiting_at c.kc2 ks1 p.behind.given gc o.behind.given gs stands z.then_now from far (soon_on z.then_now low)
          less
          (by z.then_now from far low r.0 r.1 r.2) z.two
        where
          up3 : Sends request c.since2 h.has.a n c.kc2
          up3 = subst (λ (i : ℕ). Sends request c.since2 i n c.kc2) not_told.same_a
              (subst (λ (i : ℕ). Sends request c.since2 c.a2 i c.kc2) no_pieces.0 c.up)

          can_none : can_give c.kc2.cwnd c.kc2.sent ≡ false
          can_none = ap (λ (k : CallLooks). can_give k.cwnd k.sent) not_told.same_kc
              ∙ ap (λ (k : CallLooks). can_give k.cwnd k.sent) p.is
              ∙ sym (ap (λ (k : CallLooks). can_give k.cwnd k.sent) p.pieces.is) ∙ p.pieces.over

          -- the clocks don't pass the moment of the ACK
          soon_at : (then_now : ℕ) → ((w : Owed) → ks1.owed_ack ≡ Some w → then_now ≤ max now w.rank) → h.has.a < n
              → then_now ≤ c.since2 + 100
          soon_at then_now low less = of ks1.owed_ack refl (owes_on less).0
            where
              of : (v : Option Owed) → ks1.owed_ack ≡ v → IsSomeAnd v (λ y. y.rank ≤ c.since2 + 100)
                  → then_now ≤ c.since2 + 100
              of None is some = absurd some
              of (Some w) is some = (let near : then_now ≤ max now w.rank = low w is in
                  let soon : now ≤ c.since2 + 100 = (owes_on less).1 in omega arith)

          soon_on : (then_now : ℕ) → ((w : Owed) → ks1.owed_ack ≡ Some w → then_now ≤ max now w.rank) → c.a2 < n
              → then_now ≤ c.since2 + 100
          soon_on then_now low less = soon_at then_now low (omega (arith, not_told.same_a))

          by : (then_now : ℕ) → now ≤ then_now → then_now ≤ now + 2000
              → ((w : Owed) → ks1.owed_ack ≡ Some w → then_now ≤ max now w.rank) → (mm : ℕ)
              → InEither mm (end_moments false ks1) (end_moments true c.kc2) → mm ≤ then_now → Waits then_now c.kc2 ks1
          by then_now from far low mm (inl first) within =
              of (moment_of false [] now 0 0 ks1 (nothing_sends now ks1 new1 steady1) (nothing_gives ks1 new1) mm first)
            where
              answer : (w : Owed) → ks1.owed_ack ≡ Some w → w.rank ≤ then_now
                  → IfSome ks1.owed_ack (λ y. y.rank ≤ now + 100) → Waits then_now c.kc2 ks1
              answer w is due late =
                  (let near : then_now ≤ max now w.rank = low w is in
                  let soon : w.rank ≤ now + 100 = subst (λ (v : Option Owed). IfSome v (λ y. y.rank ≤ now + 100)) is
                  late in
                  let lately = near_some w (sym owed_still ∙ is) in
                  answers (subst (λ (v : Option Owed). IsSomeAnd v (λ y. y.rank ≤ then_now)) (sym is) due)
                  (record {
                    client = omega (arith, touch.client, heard_is);
                    server = omega (arith, lately.0, heard1);
                    spoke = omega (arith, spoke_near 900 lately.1);
                  }))

              of : MomentOf false [] now 0 0 ks1 (nothing_sends now ks1 new1 steady1) (nothing_gives ks1 new1) mm
                  → Waits then_now c.kc2 ks1
              of (of_piece some late) = absurd (omega arith)
              of (of_ack w is same) =
                  answer w is (omega arith)
                  (subst (λ (v : Option Owed). IfSome v (λ y. y.rank ≤ now + 100)) (sym owed_still) lasts)
              of (of_ping side same) = absurd cc
              of (of_death same) = absurd (omega (arith, touch.server, heard1))
          by then_now from far low mm (inr second) within =
              of (moment_of true request c.since2 h.has.a n c.kc2 up3 can_none mm second)
            where
              ping : (v : Option Owed) → ks1.owed_ack ≡ v → IfSome v (λ y. y.rank ≤ now + 100)
                  → c.kc2.spoke + 2000 ≤ then_now → Waits then_now c.kc2 ks1
              ping None is late due =
                  (let near : now ≤ h.kc.heard + 1000 = near_none (sym owed_still ∙ is) in
                  pings is due (omega (arith, heard_is)) (omega (arith, touch.server, heard1)))
              ping (Some w) is late due =
                  absurd (let near : then_now ≤ max now w.rank = low w is in
                  let spoke : now ≤ c.kc2.spoke + 1000 = spoke_near 1000 touch.spoke in omega arith)

              of : MomentOf true request c.since2 h.has.a n c.kc2 up3 can_none mm → Waits then_now c.kc2 ks1
              of (of_piece less late) =
                  absurd (let soon : then_now ≤ c.since2 + 100 = soon_at then_now low less in omega arith)
              of (of_ack w is same) =
                  absurd (let never : ◌≡◌ {A = Option Owed} (Some w) None = sym is ∙ c.owed ∙ owed_none in cc)
              of (of_ping side same) =
                  ping ks1.owed_ack refl
                  (subst (λ (v : Option Owed). IfSome v (λ y. y.rank ≤ now + 100)) (sym owed_still) lasts) (omega arith)
              of (of_death same) = absurd (omega (arith, touch.client, heard_is))

      -- it replies or refuses: something is due at once, and no clock moves
      rests_next : WaitingNext x g request call line now left t
      rests_next = by (turned c.kc2 ks1 p.behind.given gc o.behind.given gs stands)
        where
          by : Turned_ c.kc2 ks1 p.behind.given gc o.behind.given gs stands
              → WaitingNext x g request call line now left t
          by (still_waits less two) = still less two
          by (then_writes reply r) =
              then_replies reply (subst (Replying x g request reply call line now 0 0 3)
              (sym (stays_still x (server_at x r.given_server r.used_server now r.life r.ks)
              (client_at x r.given_client r.used_client r.firsts now r.kc)
              (caller_at call line (caller_with x [] true r.kc.received.read r.phase) ∷ []) r.jobs now
              (end_moments false r.ks) (end_moments true r.kc) refl refl
              (server_moments x (the_call x ∷ []) now r.used_server r.given_server r.life r.ks lives_.0 lives_.1
              awake_s)
              (client_moments x r.firsts now r.used_client r.given_client r.kc awake_c) (r.kc.spoke + PING_MS)
              (in_ping r.kc) (omega (arith, r.spoken)) early (length m.polled.given == 0) m.called t r.two 0
              (inl (in_piece false r.ks (must_go reply r.since 0 0 r.ks r.down refl (r.more refl)))) (omega arith)
              m.settles_are)) r)
            where
              lives_ : (is_active r.life ≡ true) × (is_live r.life ≡ true)
              lives_ = answering_lives x g request r.ks.sent.said r.ks.sent.shut r.rest r.life r.jobs r.job

              is_now : r.since ≡ now
              is_now = r.time.rests refl

              awake_c : nat_le SILENCE_MS (now - r.kc.heard) ≡ false
              awake_c = (let near : r.since ≤ r.kc.heard + 4000 = r.time.touch.client in
                  lt-leb SILENCE_MS (now - r.kc.heard) (omega (arith, is_now)))

              awake_s : nat_le SILENCE_MS (now - r.ks.heard) ≡ false
              awake_s = (let near : r.since ≤ r.ks.heard + 1000 = r.time.touch.server in
                  lt-leb SILENCE_MS (now - r.ks.heard) (omega (arith, is_now)))
          by (then_codes code r spoken) =
              then_refuses code (subst (Refusing x g request call line now code)
              (sym (stays_still x (refused_at x code r.given_server r.used_server now r.ks)
              (client_at x r.given_client r.used_client [] now r.kc)
              (caller_at call line (caller_with x r.offering r.shut [] r.phase) ∷ []) [] now
              (0 ∷ []) (end_moments true r.kc) refl refl
              (refused_moments x code r.given_server r.used_server now r.ks)
              (client_moments x [] now r.used_client r.given_client r.kc
              (lt-leb SILENCE_MS (now - r.kc.heard) (omega (arith, r.awake)))) (r.kc.spoke + PING_MS)
              (in_ping r.kc) (omega arith) early (length m.polled.given == 0) m.called t r.two 0
              (inl (inl refl)) (omega arith) m.settles_are)) r)

    pub waiting_next : WaitingNext x g request call line now left t
    waiting_next = by h.waits
      where
        if_some : (v : Option Owed) → IsSomeAnd v (λ y. y.rank ≤ now + 100) → IfSome v (λ y. y.rank ≤ now + 100)
        if_some None some = absurd some
        if_some (Some y) some = some

        by : Waits now h.kc h.ks → WaitingNext x g request call line now left t
        by (rests none touch) =
            rests_next (server_quiet none)
            (subst (λ (v : Option Owed). IfSome v (λ y. y.rank ≤ now + 100)) (sym none) tt)
            (record { client = omega (arith, touch.client); server = touch.server; spoke = touch.spoke })
            (λ is. touch.client)
            (λ z is. absurd (let never : ◌≡◌ {A = Option Owed} (Some z) None = sym is ∙ none in cc))
        by (answers owes touch) = answers_next owes touch
        by (answers_later owes near same_heard same_spoke) =
            ⊎_elim
            (λ (w : (o.owed ≡ None) × (o.spoke ≡ now) × (1 ≤ length o.acks)).
            acked_next (record { client = omega arith; server = omega arith; spoke = omega arith }) w.0 w.2)
            (λ (w : (o.acks ≡ []) × (o.owed ≡ h.ks.owed_ack) × (o.spoke ≡ o.pieces.spoke)
            × ((z : Owed) → o.owed ≡ Some z → now < z.rank) × (false ≡ true → now < o.spoke + 2000)).
            rests_next w.0 (if_some h.ks.owed_ack owes)
            (record { client = near; server = omega arith; spoke = omega arith })
            (λ none. absurd (subst (λ (v : Option Owed). IsSomeAnd v (λ y. y.rank ≤ now + 100)) none owes))
            (λ z is. (omega arith, omega arith))) o.told
        by (pings none late near near2) = pings_next none late near near2
