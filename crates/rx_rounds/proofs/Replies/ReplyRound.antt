-- A round in which a reply comes: more pieces of it came, or an ACK of those that had come; or nothing was given, and
-- then the ACK that is owed is due; or the caller has all of it.
use Rattle.std.proofs.Common.{◌≡◌, ◌<◌, ◌≤◌, inl, inr, ⊎_elim, ◌+◌, ◌-◌, ◌*◌, ◌^◌, ◌++◌, ◌==◌, ℕ}
use Rattle.std.proofs.Common.{Bool, true, false, List, [], ◌∷◌, refl, ap, sym, subst, ◌∙◌, Option, Some, None}
use Rattle.std.proofs.Common.{max, length, arith, append-nil, nat_le}
use Rattle.std.proofs.lemmas.Bool.{both_ways, cases_lt, eq-eqb, lt-leb}
use Rattle.std.proofs.lemmas.List.{length-append}
use Rattle.std.specs.Prelude.{IfSome, IsSomeAnd}
use Rattle.rx_model.specs.declared.wire.TheConstants.{PING_MS, SILENCE_MS}
use Rattle.rx_model.specs.Message.{Message}
use Rattle.rx_rules.specs.CallItems.{can_give}
use Rattle.rx_rules.specs.CallLooks.{CallLooks}
use Rattle.rx_rules.specs.Life.{is_active, is_live}
use Rattle.rx_rules.specs.Looks.{Looks}
use Rattle.rx_rules.specs.Owing.{Owed}
use Rattle.rx_rules.specs.Received.{is_complete, unread_of}
use Rattle.rx_script.specs.Served.{Served}
use Rattle.rx_asks.specs.declared.ask.Phase.TheVariants as phases
use Rattle.rx_jobs.specs.Handlers.{Handlers}
use Rattle.rx_plan.specs.Stages.{InvokedState, Stage}
use Rattle.rx_rounds.proofs.Between.{EndsWith, OnTime, Owing, Replying, caller_with, client_at, owes_any, owes_none}
use Rattle.rx_rounds.proofs.Between.{owes_now}
use Rattle.rx_rounds.proofs.Flow.{total}
use Rattle.rx_rounds.proofs.One.OneCall.{Ends, the_call}
use Rattle.rx_rounds.proofs.One.OneFields.{FitsEnds}
use Rattle.rx_rounds.proofs.One.OneWay.{IsOwedBy, Sends}
use Rattle.rx_rounds.proofs.Reading.ReadOn.{IsRead}
use Rattle.rx_rounds.proofs.Refusals.RefuseRound.{ended_settled}
use Rattle.rx_rounds.proofs.Replies.ReplyEnds.{gives_none}
use Rattle.rx_rounds.proofs.Replies.ReplyMoments.{MomentOf, in_ack, moment_of, of_ack, of_death, of_piece, of_ping}
use Rattle.rx_rounds.proofs.Replies.ReplyReads.{ReplyRead, caller_ended, waits_for_more}
use Rattle.rx_rounds.proofs.Rounded.{RoundMade, caller_at}
use Rattle.rx_rounds.proofs.Serving.SaidMore.{said_more, sends_same}
use Rattle.rx_rounds.proofs.Settle.{InEither, Settled, client_moments, end_moments, in_ping, server_moments}
use Rattle.rx_rounds.proofs.Settle.{settles_two}
use Rattle.rx_rounds.proofs.Two.{AreApart, Two}
use Rattle.rx_rounds.proofs.Replies.ReplyParts.{answering_ends, answering_lives, answering_shut, burst_none, burst_some}
use Rattle.rx_rounds.proofs.Replies.ReplyTurn.{p, o, touch, past, soon}
use Rattle.rx_rounds.proofs.Replies.ReplyTurn.{came, k1, last, last_more, job1}
use Rattle.rx_rounds.proofs.Replies.ReplyTurn.{loud, none_due, owes2}
use Rattle.rx_rounds.proofs.Replies.ReplyTurn.{wrote, k2, ls2, turned, can_go}
use Rattle.rx_rounds.proofs.Replies.ReplyTurn.{spoke_p, quiet_owes, acked_all, ends2, keeps2, down2}
use Rattle.rx_rounds.proofs.Replies.ReplyTurn.{given_long}
use Rattle.rx_rounds.proofs.Replies.ReplyOn.{ReplyNext, comes_on, has_come, heard3}
use Rattle.rx_rounds.proofs.Replies.ReplyOn.{spoke3, spoken3, owes3, stage_on, late3, loud_on, told_on}

module _ (x : Ends) (g : Handlers) (fits : FitsEnds x) (apart : AreApart x) (request reply : List ℕ) (call line : ℕ)
    (few1 : total request < 2 ^ 32 - 1) (now a n q : ℕ) (s t : Stage)
    (r : Replying x g request reply call line now a n q s) (m : RoundMade g s t) (early : now + 2000 < 2 ^ 62) where
  module _ (k3 : CallLooks) (read : List ℕ)
      (h : IsRead reply now (came x g fits apart request reply call line few1 now a n q s t r m early).got.previous
      (last x g fits apart request reply call line few1 now a n q s t r m early)
      (came x g fits apart request reply call line few1 now a n q s t r m early).l read k3)
      (none3 : unread_of k3.received ≡ []) (part3 : is_complete k3.received ≡ false) where
    -- ---- no ACK (came x g fits apart request reply call line few1 now a n q s t r m early)

    module _ (two : Two x (ls2 x g fits apart request reply call line few1 now a n q s t r m early)
        (client_at x (p x g fits apart request reply call line few1 now a n q s t r m early).behind.given
        (came x g fits apart request reply call line few1 now a n q s t r m early).used_client
        (came x g fits apart request reply call line few1 now a n q s t r m early).names now k3)
        (caller_at call line (caller_with x [] true read phases.Resting) ∷ [])
        (wrote x g fits apart request reply call line few1 now a n q s t r m early).jobs m.called)
        (quiet : (p x g fits apart request reply call line few1 now a n q s t r m early).acks ≡ [])
        (is_a : (came x g fits apart request reply call line few1 now a n q s t r m early).a1 ≡ a)
        (is_k : (k1 x g fits apart request reply call line few1 now a n q s t r m early) ≡
        (o x g fits apart request reply call line few1 now a n q s t r m early).behind.looks) (since_same :
        (came x g fits apart request reply call line few1 now a n q s t r m early).since1 ≡ r.since) where
      heard_k : (k2 x g fits apart request reply call line few1 now a n q s t r m early).heard ≡ r.ks.heard
      heard_k = ap (λ (i : CallLooks). i.heard) is_k
          ∙ ap (λ (i : CallLooks). i.heard) (o x g fits apart request reply call line few1 now a n q s t r m early).is

      client_near : (came x g fits apart request reply call line few1 now a n q s t r m early).since1 ≤ k3.heard + 4000
      client_near = (let old : r.since ≤ r.kc.heard + 4000 =
          (touch x g fits apart request reply call line few1 now a n q s t r m early).client in
          ⊎_elim (λ (w : k3.heard ≡ now). omega
          (arith, (past x g fits apart request reply call line few1 now a n q s t r m early)))
          (λ (w : (k3.heard ≡ r.kc.heard)
          × (n ≡ (last x g fits apart request reply call line few1 now a n q s t r m early))).
          (let same : k3.heard ≡ r.kc.heard = w.0 in omega arith))
          (heard3 x g fits apart request reply call line few1 now a n q s t r m early k3 read h none3 part3))

      server_near : (came x g fits apart request reply call line few1 now a n q s t r m early).since1 ≤
          (k2 x g fits apart request reply call line few1 now a n q s t r m early).heard + 1000
      server_near = (let old : r.since ≤ r.ks.heard + 1000 =
          (touch x g fits apart request reply call line few1 now a n q s t r m early).server in omega (arith, heard_k))

      spoke_near : (came x g fits apart request reply call line few1 now a n q s t r m early).since1 ≤ k3.spoke + 1000
      spoke_near = (let old : r.since ≤ r.kc.spoke + 1000 =
          (touch x g fits apart request reply call line few1 now a n q s t r m early).spoke in
          ⊎_elim (λ (w : (p x g fits apart request reply call line few1 now a n q s t r m early).behind.looks.spoke ≡
          now). omega (
            arith,
            (past x g fits apart request reply call line few1 now a n q s t r m early),
            (spoke3 x g fits apart request reply call line few1 now a n q s t r m early k3 read h none3 part3),
          ))
          (λ (w : ((p x g fits apart request reply call line few1 now a n q s t r m early).behind.looks.spoke ≡
          r.kc.spoke) × ((p x g fits apart request reply call line few1 now a n q s t r m early).acks ≡ [])).
          (let same : (p x g fits apart request reply call line few1 now a n q s t r m early).behind.looks.spoke ≡
          r.kc.spoke = w.0 in omega (
            arith,
            (spoke3 x g fits apart request reply call line few1 now a n q s t r m early k3 read h none3
                part3),
          ))) (spoke_p x g fits apart request reply call line few1 now a n q s t r m early))

      known_a : a ≤ n
      known_a = r.down.known

      owes_on : a < n → IsOwedBy
          ((came x g fits apart request reply call line few1 now a n q s t r m early).since1 + 100) k3
      owes_on less = subst (λ (b : ℕ). IsOwedBy (b + 100) k3) (sym since_same)
          ((owes3 x g fits apart request reply call line few1 now a n q s t r m early k3 read h none3 part3)
          (r.since + 100) ((came x g fits apart request reply call line few1 now a n q s t r m early).got.owes_on
          (r.since + 100)
          (subst (λ (w : Option Owed). IsSomeAnd w (λ z. z.rank ≤ r.since + 100))
          (sym ((quiet_owes x g fits apart request reply call line few1 now a n q s t r m early) quiet).0)
          (r.time.owes less))))

      -- pieces passed
      pieces_on : n < (last x g fits apart request reply call line few1 now a n q s t r m early)
          → ReplyNext x g request reply call line now a n q t
      pieces_on less =
          (loud_on x g fits apart request reply call line few1 now a n q s t r m early k3 read h none3 part3) two
          (omega (
            arith,
            burst_some _ false reply n
                (last x g fits apart request reply call line few1 now a n q s t r m early)
                (o x g fits apart request reply call line few1 now a n q s t r m early).pieces.messages
                (o x g fits apart request reply call line few1 now a n q s t r m early).pieces.burst less,
          ))
          (omega (arith, (past x g fits apart request reply call line few1 now a n q s t r m early)))
          (omega (arith, (soon x g fits apart request reply call line few1 now a n q s t r m early))) client_near
          server_near spoke_near
          (λ same. absurd (omega arith)) owes_ came_ (omega arith)
        where
          owes_ : (came x g fits apart request reply call line few1 now a n q s t r m early).a1 <
              (last x g fits apart request reply call line few1 now a n q s t r m early)
              → IsOwedBy ((came x g fits apart request reply call line few1 now a n q s t r m early).since1 + 100) k3
          owes_ more_ = elim (cases_lt a n) as (λ w. IsOwedBy
              ((came x g fits apart request reply call line few1 now a n q s t r m early).since1 + 100) k3) [
                | inl flying ↦ owes_on flying
                | inr rests ↦ (let same : r.since ≡ now = r.time.rests (omega arith) in
                    (owes3 x g fits apart request reply call line few1 now a n q s t r m early k3 read h none3 part3)
                    ((came x g fits apart request reply call line few1 now a n q s t r m early).since1 + 100)
                    (subst (λ (b : ℕ). IsOwedBy (b + 100) (came x g fits apart request reply call line few1 now a n q s
                    t r m early).l) (sym (since_same ∙ same))
                    ((came x g fits apart request reply call line few1 now a n q s t r m early).got.owes less)))
              ]

          came_ : (came x g fits apart request reply call line few1 now a n q s t r m early).a1 <
              (last x g fits apart request reply call line few1 now a n q s t r m early)
              → (came x g fits apart request reply call line few1 now a n q s t r m early).since1 ≤ k3.heard
          came_ more_ = ⊎_elim (λ (w : k3.heard ≡ now). omega
              (arith, (past x g fits apart request reply call line few1 now a n q s t r m early)))
              (λ (w : (k3.heard ≡ r.kc.heard)
              × (n ≡ (last x g fits apart request reply call line few1 now a n q s t r m early))). absurd
              (let same : n ≡ (last x g fits apart request reply call line few1 now a n q s t r m early) = w.1 in
              omega arith)) (heard3 x g fits apart request reply call line few1 now a n q s t r m early k3 read h
              none3 part3)

      -- nothing passed
      module _ (same_n : n ≡ (last x g fits apart request reply call line few1 now a n q s t r m early)) where
        flying : a < n
        flying = elim (cases_lt a n) as (λ w. a < n) [
          | inl less ↦ less
          | inr rests ↦ absurd
              (let go : n < (last x g fits apart request reply call line few1 now a n q s t r m early) = (can_go x g
              fits apart request reply call line few1 now a n q s t r m early) (omega (arith, known_a)) in omega arith)
        ]

        -- the writer (wrote x g fits apart request reply call line few1 now a n q s t r m early) no more
        no_more : length (wrote x g fits apart request reply call line few1 now a n q s t r m early).more ≡ 0
        no_more = ⊎_elim
            (λ (w : r.ks.sent.shut ≡ true).
            (let none : r.rest ≡ [] = answering_ends x g request r.ks.sent.said r.ks.sent.shut r.rest r.life r.jobs
            r.job w in
            let parts : length r.rest ≡ length (wrote x g fits apart request reply call line few1 now a n q s t r m
            early).more + length (wrote x g fits apart request reply call line few1 now a n q s t r m early).rest =
            ap (λ (ys : List ℕ). length ys)
            (wrote x g fits apart request reply call line few1 now a n q s t r m early).split
            ∙ length-append (wrote x g fits apart request reply call line few1 now a n q s t r m early).more
            (wrote x g fits apart request reply call line few1 now a n q s t r m early).rest in
            let zero_ : length r.rest ≡ 0 = ap (λ (ys : List ℕ). length ys) none in omega arith))
            (λ (w : (r.ks.sent.shut ≡ false) × (length r.ks.sent.said ≡ 1412 * (a + 32))).
            (let full : length r.ks.sent.said ≡ 1412 * (a + 32) = w.1 in
            let same : length (k1 x g fits apart request reply call line few1 now a n q s t r m early).sent.said ≡
            length r.ks.sent.said = ap (λ (ys : List ℕ). length ys)
            (came x g fits apart request reply call line few1 now a n q s t r m early).said in
            let parts : length ((k1 x g fits apart request reply call line few1 now a n q s t r m early).sent.said
            ++ (wrote x g fits apart request reply call line few1 now a n q s t r m early).more) ≡ length
            (k1 x g fits apart request reply call line few1 now a n q s t r m early).sent.said + length
            (wrote x g fits apart request reply call line few1 now a n q s t r m early).more =
            length-append (k1 x g fits apart request reply call line few1 now a n q s t r m early).sent.said
            (wrote x g fits apart request reply call line few1 now a n q s t r m early).more in
            let within : length ((k1 x g fits apart request reply call line few1 now a n q s t r m early).sent.said
            ++ (wrote x g fits apart request reply call line few1 now a n q s t r m early).more) ≤ 1412 *
            ((came x g fits apart request reply call line few1 now a n q s t r m early).a1 + 32) =
            (wrote x g fits apart request reply call line few1 now a n q s t r m early).within in
            omega arith)) r.out

        more_is : (wrote x g fits apart request reply call line few1 now a n q s t r m early).more ≡ []
        more_is = of (wrote x g fits apart request reply call line few1 now a n q s t r m early).more no_more
          where
            of : (ys : List ℕ) → length ys ≡ 0 → ys ≡ []
            of [] none = refl
            of (y ∷ ys) none = absurd (omega arith)

        same_shut : (wrote x g fits apart request reply call line few1 now a n q s t r m early).shut ≡
            (k1 x g fits apart request reply call line few1 now a n q s t r m early).sent.shut
        same_shut = by (wrote x g fits apart request reply call line few1 now a n q s t r m early).shut
            (k1 x g fits apart request reply call line few1 now a n q s t r m early).sent.shut refl refl
          where
            by : (b c : Bool) → (wrote x g fits apart request reply call line few1 now a n q s t r m early).shut ≡ b
                → (k1 x g fits apart request reply call line few1 now a n q s t r m early).sent.shut ≡ c
                → (wrote x g fits apart request reply call line few1 now a n q s t r m early).shut ≡
                (k1 x g fits apart request reply call line few1 now a n q s t r m early).sent.shut
            by true true is was = is ∙ sym was
            by false false is was = is ∙ sym was
            by false true is was = absurd (both_ways (wrote x g fits apart request reply call line few1 now a n q s t r
                m early).shut is ((keeps2 x g fits apart request reply call line few1 now a n q s t r m early) was))
            by true false is was = absurd (let none : (wrote x g fits apart request reply call line few1 now a n q s t r
                m early).rest ≡ [] = (ends2 x g fits apart request reply call line few1 now a n q s t r m early) is in
                let zero_ : length (wrote x g fits apart request reply call line few1 now a n q s t r m early).rest ≡
                0 = ap (λ (ys : List ℕ). length ys) none in
                let parts : length r.rest ≡ length
                (wrote x g fits apart request reply call line few1 now a n q s t r m early).more + length
                (wrote x g fits apart request reply call line few1 now a n q s t r m early).rest =
                ap (λ (ys : List ℕ). length ys)
                (wrote x g fits apart request reply call line few1 now a n q s t r m early).split
                ∙ length-append (wrote x g fits apart request reply call line few1 now a n q s t r m early).more
                (wrote x g fits apart request reply call line few1 now a n q s t r m early).rest in
                both_ways (k1 x g fits apart request reply call line few1 now a n q s t r m early).sent.shut was
                (answering_shut x g request
                (k1 x g fits apart request reply call line few1 now a n q s t r m early).sent.said
                (k1 x g fits apart request reply call line few1 now a n q s t r m early).sent.shut r.rest r.life
                r.jobs (job1 x g fits apart request reply call line few1 now a n q s t r m early)
                (omega (arith, no_more))))

        same_k : (k2 x g fits apart request reply call line few1 now a n q s t r m early) ≡
            (o x g fits apart request reply call line few1 now a n q s t r m early).behind.looks
        same_k =
            ap (λ (ys : List ℕ). said_more ys (wrote x g fits apart request reply call line few1 now a n q s t r m
            early).shut (k1 x g fits apart request reply call line few1 now a n q s t r m early)) more_is
            ∙ ap (λ (b : Bool). said_more [] b (k1 x g fits apart request reply call line few1 now a n q s t r m early))
            same_shut
            ∙ ap (λ (ys : List ℕ). record (k1 x g fits apart request reply call line few1 now a n q s t r m early) {
              sent = record (k1 x g fits apart request reply call line few1 now a n q s t r m early).sent {
                said =
                    ys;
              };
            }) (append-nil (k1 x g fits apart request reply call line few1 now a n q s t r m early).sent.said)
            ∙ is_k

        can_none2 : can_give (k2 x g fits apart request reply call line few1 now a n q s t r m early).cwnd
            (k2 x g fits apart request reply call line few1 now a n q s t r m early).sent ≡ false
        can_none2 =
            ap (λ (i : CallLooks). can_give i.cwnd i.sent) same_k
            ∙ ap (λ (i : CallLooks). can_give i.cwnd i.sent)
            (o x g fits apart request reply call line few1 now a n q s t r m early).is
            ∙ sym (ap (λ (i : CallLooks). can_give i.cwnd i.sent)
            (o x g fits apart request reply call line few1 now a n q s t r m early).pieces.is)
            ∙ (o x g fits apart request reply call line few1 now a n q s t r m early).pieces.over

        down3 : Sends reply r.since a (last x g fits apart request reply call line few1 now a n q s t r m early)
            (k2 x g fits apart request reply call line few1 now a n q s t r m early)
        down3 = subst (λ (i : ℕ). Sends reply i a (last x g fits apart request reply call line few1 now a n q s t r m
            early) (k2 x g fits apart request reply call line few1 now a n q s t r m early)) since_same
            (subst (λ (i : ℕ). Sends reply
            (came x g fits apart request reply call line few1 now a n q s t r m early).since1 i
            (last x g fits apart request reply call line few1 now a n q s t r m early)
            (k2 x g fits apart request reply call line few1 now a n q s t r m early)) is_a
            (down2 x g fits apart request reply call line few1 now a n q s t r m early))

        all3 : Sends request (came x g fits apart request reply call line few1 now a n q s t r m early).got.all.since
            (total request) (total request) k3
        all3 = subst (λ (i : ℕ). Sends request
            (came x g fits apart request reply call line few1 now a n q s t r m early).got.all.since i (total request)
            k3) (acked_all x g fits apart request reply call line few1 now a n q s t r m early)
            (sends_same request (came x g fits apart request reply call line few1 now a n q s t r m early).got.all.since
            (came x g fits apart request reply call line few1 now a n q s t r m early).got.all.acked (total request)
            (came x g fits apart request reply call line few1 now a n q s t r m early).l k3
            (ap (λ (i : CallLooks). i.sent) h.is) (ap (λ (i : CallLooks). i.rtt) h.is)
            (ap (λ (i : CallLooks). i.cwnd) h.is)
            (came x g fits apart request reply call line few1 now a n q s t r m early).got.all.sends)

        can_none3 : can_give k3.cwnd k3.sent ≡ false
        can_none3 = gives_none request k3 (record {
          since = (came x g fits apart request reply call line few1 now a n q s t r m early).got.all.since;
          acked = total request;
          sends = all3;
          shut = ap (λ (i : CallLooks). i.sent.shut) h.is
              ∙ (came x g fits apart request reply call line few1 now a n q s t r m early).got.all.shut;
        })

        -- the client's ACK isn't due, so that there are rounds left
        not_due : IsOwedBy now r.kc → ⊥
        not_due owes = by r.kc.owed_ack owes
            ((quiet_owes x g fits apart request reply call line few1 now a n q s t r m early) quiet).1
          where
            by : (z : Option Owed) → IsSomeAnd z (λ v. v.rank ≤ now) → ((y : Owed) → z ≡ Some y → now < y.rank) → ⊥
            by None some later = absurd some
            by (Some y) some later = (let high : now < y.rank = later y refl in absurd (omega arith))

        some_left : r.owing < q
        some_left = elim (cases_lt r.owing q) as (λ z. r.owing < q) [
          | inl more ↦ more
          | inr none_ ↦ absurd (not_due (r.due none_).1)
        ]

        owes_soon : IsOwedBy (r.since + 100) k3
        owes_soon = subst (λ (b : ℕ). IsOwedBy (b + 100) k3) since_same (owes_on flying)

        time_on : (now2 : ℕ) → now ≤ now2 → now2 ≤ r.since + 100
            → OnTime 4000 (came x g fits apart request reply call line few1 now a n q s t r m early).since1 now2
            (came x g fits apart request reply call line few1 now a n q s t r m early).a1
            (last x g fits apart request reply call line few1 now a n q s t r m early) k3
            (k2 x g fits apart request reply call line few1 now a n q s t r m early) k3
        time_on now2 from low =
            record {
              touch = record { client = client_near; server = server_near; spoke = spoke_near };
              past = omega (
                arith,
                (past x g fits apart request reply call line few1 now a n q s t r m early),
                since_same,
              );
              soon = omega (arith, since_same);
              rests = λ same. absurd (omega (arith, flying));
              owes = λ less. owes_on flying;
              came = λ less. (let old : r.since ≤ r.kc.heard = r.time.came flying in
                  ⊎_elim (λ (v : k3.heard ≡ now). omega
                  (arith, (past x g fits apart request reply call line few1 now a n q s t r m early), since_same))
                  (λ (v : (k3.heard ≡ r.kc.heard) × (n ≡ (last x g fits apart request reply call line few1 now a n q s t
                  r m early))). (let same : k3.heard ≡ r.kc.heard = v.0 in
                  omega (arith, since_same))) (heard3 x g fits apart request reply call line few1 now a n q s t r m
                  early k3 read h none3 part3));
            }

        -- the server's ACK was given, and nothing else
        told_alone : (k2 x g fits apart request reply call line few1 now a n q s t r m early).owed_ack ≡ None
            → 1 ≤ length (o x g fits apart request reply call line few1 now a n q s t r m early).acks
            → ReplyNext x g request reply call line now a n q t
        told_alone none some = by r.passes
          where
            on : 1 ≤ r.owing → ReplyNext x g request reply call line now a n q t
            on some_owed =
                comes_on now (came x g fits apart request reply call line few1 now a n q s t r m early).a1
                (last x g fits apart request reply call line few1 now a n q s t r m early) 1 (omega arith)
                (omega arith) (omega (arith, some_left))
                ((stage_on x g fits apart request reply call line few1 now a n q s t r m early k3 read h none3 part3)
                now 1 0
                (subst (λ (u : Stage). Two x (ls2 x g fits apart request reply call line few1 now a n q s t r m early)
                (client_at x (p x g fits apart request reply call line few1 now a n q s t r m early).behind.given
                (came x g fits apart request reply call line few1 now a n q s t r m early).used_client
                (came x g fits apart request reply call line few1 now a n q s t r m early).names now k3)
                (caller_at call line (caller_with x [] true read phases.Resting) ∷ [])
                (wrote x g fits apart request reply call line few1 now a n q s t r m early).jobs u) (sym
                ((loud x g fits apart request reply call line few1 now a n q s t r m early) (omega arith))) two)
                (time_on now (omega arith)
                (omega (arith, (soon x g fits apart request reply call line few1 now a n q s t r m early))))
                (spoken3 x g fits apart request reply call line few1 now a n q s t r m early k3 read h none3 part3)
                ((late3 x g fits apart request reply call line few1 now a n q s t r m early k3 read h none3 part3)
                now (omega arith)) (owes_none none) (omega arith)
                (λ is. absurd (omega arith)))

            by : Owing now r.ks.owed_ack r.owing → ReplyNext x g request reply call line now a n q t
            by (owes_none was) =
                absurd (let empty : length (o x g fits apart request reply call line few1 now a n q s t r m early).acks
                ≡ 0 = ap (λ (ms : List Message). length ms)
                ((o x g fits apart request reply call line few1 now a n q s t r m early).quiet was (λ is. absurd cc)) in
                omega arith)
            by (owes_now some_owed low) = on some_owed
            by (owes_any some_owed) = on (omega arith)

        -- no datagram was given
        module _ (silent : (o x g fits apart request reply call line few1 now a n q s t r m early).acks ≡ [])
            (still : (k2 x g fits apart request reply call line few1 now a n q s t r m early).owed_ack ≡ r.ks.owed_ack)
            (later : (z : Owed) → r.ks.owed_ack ≡ Some z → now < z.rank) where
          is_quiet : (length m.polled.given == 0) ≡ true
          is_quiet = eq-eqb (length m.polled.given) 0
              (let one : length (p x g fits apart request reply call line few1 now a n q s t r m early).pieces.messages
              ≡ 0 = ap (λ (ms : List Message). length ms)
              ((p x g fits apart request reply call line few1 now a n q s t r m early).pieces.none
              (gives_none request r.kc (record {
                since = r.has.since;
                acked = r.has.a;
                sends = r.has.all;
                shut = r.has.shut;
              }))).1 in
              let two_ : length (p x g fits apart request reply call line few1 now a n q s t r m early).acks ≡ 0 = ap
              (λ (ms : List Message). length ms) quiet in
              let three : length (o x g fits apart request reply call line few1 now a n q s t r m early).pieces.messages
              ≡ 0 = burst_none _ false reply n
              (last x g fits apart request reply call line few1 now a n q s t r m early)
              (o x g fits apart request reply call line few1 now a n q s t r m early).pieces.messages
              (o x g fits apart request reply call line few1 now a n q s t r m early).pieces.burst
              (omega arith) in
              let four : length (o x g fits apart request reply call line few1 now a n q s t r m early).acks ≡ 0 = ap
              (λ (ms : List Message). length ms) silent in
              let sum : length m.polled.given ≡
              (length (p x g fits apart request reply call line few1 now a n q s t r m early).pieces.messages +
              length (p x g fits apart request reply call line few1 now a n q s t r m early).acks)
              + (length (o x g fits apart request reply call line few1 now a n q s t r m early).pieces.messages + length
              (o x g fits apart request reply call line few1 now a n q s t r m early).acks) =
              (given_long x g fits apart request reply call line few1 now a n q s t r m early) in omega arith)

          lives2 : (is_active (wrote x g fits apart request reply call line few1 now a n q s t r m early).life ≡ true)
              × (is_live (wrote x g fits apart request reply call line few1 now a n q s t r m early).life ≡ true)
          lives2 = answering_lives x g request
              ((k1 x g fits apart request reply call line few1 now a n q s t r m early).sent.said
              ++ (wrote x g fits apart request reply call line few1 now a n q s t r m early).more)
              (wrote x g fits apart request reply call line few1 now a n q s t r m early).shut
              (wrote x g fits apart request reply call line few1 now a n q s t r m early).rest
              (wrote x g fits apart request reply call line few1 now a n q s t r m early).life
              (wrote x g fits apart request reply call line few1 now a n q s t r m early).jobs
              (wrote x g fits apart request reply call line few1 now a n q s t r m early).job

          awake_k3 : nat_le SILENCE_MS (now - k3.heard) ≡ false
          awake_k3 = lt-leb SILENCE_MS (now - k3.heard)
              (omega (arith, client_near, (soon x g fits apart request reply call line few1 now a n q s t r m early)))

          awake_k2 : nat_le SILENCE_MS
              (now - (k2 x g fits apart request reply call line few1 now a n q s t r m early).heard) ≡ false
          awake_k2 = lt-leb SILENCE_MS
              (now - (k2 x g fits apart request reply call line few1 now a n q s t r m early).heard)
              (omega (arith, server_near, (soon x g fits apart request reply call line few1 now a n q s t r m early)))

          abbrev lc3 : Looks
          lc3 = client_at x (p x g fits apart request reply call line few1 now a n q s t r m early).behind.given
              (came x g fits apart request reply call line few1 now a n q s t r m early).used_client
              (came x g fits apart request reply call line few1 now a n q s t r m early).names now k3

          abbrev cs3 : List InvokedState
          cs3 = caller_at call line (caller_with x [] true read phases.Resting) ∷ []

          abbrev ended : Settled x (ls2 x g fits apart request reply call line few1 now a n q s t r m early) lc3 cs3
              (wrote x g fits apart request reply call line few1 now a n q s t r m early).jobs now (end_moments false
              (k2 x g fits apart request reply call line few1 now a n q s t r m early)) (end_moments true k3)
              (length m.polled.given == 0) t
          ended = settles_two x (ls2 x g fits apart request reply call line few1 now a n q s t r m early) lc3 cs3
              (wrote x g fits apart request reply call line few1 now a n q s t r m early).jobs now (end_moments false
              (k2 x g fits apart request reply call line few1 now a n q s t r m early)) (end_moments true k3) refl refl
              (server_moments x (the_call x ∷ []) now
              (came x g fits apart request reply call line few1 now a n q s t r m early).used_server
              (o x g fits apart request reply call line few1 now a n q s t r m early).behind.given
              (wrote x g fits apart request reply call line few1 now a n q s t r m early).life
              (k2 x g fits apart request reply call line few1 now a n q s t r m early) lives2.0 lives2.1
              awake_k2)
              (client_moments x (came x g fits apart request reply call line few1 now a n q s t r m early).names now
              (came x g fits apart request reply call line few1 now a n q s t r m early).used_client
              (p x g fits apart request reply call line few1 now a n q s t r m early).behind.given k3 awake_k3)
              (k3.spoke + PING_MS) (in_ping k3)
              (omega (
                arith,
                (spoken3 x g fits apart request reply call line few1 now a n q s t r m early k3 read h
                    none3 part3),
              )) early (length m.polled.given == 0) m.called t two m.settles_are

          low2 : ended.then_now ≤ r.since + 100
          low2 = by k3.owed_ack refl owes_soon
            where
              by : (z : Option Owed) → k3.owed_ack ≡ z → IsSomeAnd z (λ v. v.rank ≤ r.since + 100)
                  → ended.then_now ≤ r.since + 100
              by None is some = absurd some
              by (Some w) is some =
                  (let near : ended.then_now ≤ max now w.rank = ended.near w.rank (inr (in_ack true k3 w is)) in
                  omega (arith, (soon x g fits apart request reply call line few1 now a n q s t r m early)))

          -- an ACK that is owed is due then: the client's, or the server's
          data DueThen : Type 0 where
            client_due : IsOwedBy ended.then_now k3 → DueThen
            server_due : (z : Owed) → (k2 x g fits apart request reply call line few1 now a n q s t r m early).owed_ack
                ≡ Some z → z.rank ≤ ended.then_now → DueThen

          due_then : DueThen
          due_then = (let v = ended.reached is_quiet in by v.0 v.1 v.2)
            where
              by : (mm : ℕ) → InEither mm (end_moments false (k2 x g fits apart request reply call line few1 now a n q s
                  t r m early)) (end_moments true k3) → mm ≤ ended.then_now → DueThen
              by mm (inl first) within = of
                  (moment_of false reply r.since a
                  (last x g fits apart request reply call line few1 now a n q s t r m early)
                  (k2 x g fits apart request reply call line few1 now a n q s t r m early) down3 can_none2 mm first)
                where
                  of : MomentOf false reply r.since a
                      (last x g fits apart request reply call line few1 now a n q s t r m early) (k2 x g fits apart
                      request reply call line few1 now a n q s t r m early) down3 can_none2 mm → DueThen
                  of (of_piece some late) = absurd (omega (arith, low2))
                  of (of_ack z is same) = server_due z is (omega arith)
                  of (of_ping side same) = absurd cc
                  of (of_death same) = absurd (omega (arith, low2, server_near, since_same))
              by mm (inr second) within = of (moment_of true request (came x g fits apart request reply call line few1
                  now a n q s t r m early).got.all.since (total request) (total request) k3 all3
                  can_none3 mm second)
                where
                  of : MomentOf true request (came x g fits apart request reply call line few1 now a n q s t r m
                      early).got.all.since (total request) (total request) k3 all3 can_none3 mm → DueThen
                  of (of_piece some late) = absurd (omega arith)
                  of (of_ack z is same) =
                      client_due (subst (λ (v : Option Owed). IsSomeAnd v (λ y. y.rank ≤ ended.then_now)) (sym is)
                      (omega arith))
                  of (of_ping side same) = absurd (omega (arith, low2, spoke_near, since_same))
                  of (of_death same) = absurd (omega (arith, low2, client_near, since_same))

          waits_with : (q2 more : ℕ) → q2 < q → more ≤ q2 → Owing ended.then_now
              (k2 x g fits apart request reply call line few1 now a n q s t r m early).owed_ack more
              → (q2 ≤ more → IsOwedBy ended.then_now k3) → ReplyNext x g request reply call line now a n q t
          waits_with q2 more less within passes due =
              let from : now ≤ ended.then_now = ended.from in
              comes_on ended.then_now (came x g fits apart request reply call line few1 now a n q s t r m early).a1
              (last x g fits apart request reply call line few1 now a n q s t r m early) q2 from (omega (
                arith,
                low2,
                (past x g fits apart request reply call line few1 now a n q s t r m early),
              )) (omega arith)
              ((stage_on x g fits apart request reply call line few1 now a n q s t r m early k3 read h none3 part3)
              ended.then_now q2 more ended.two (time_on ended.then_now from low2)
              (omega (
                arith,
                (spoken3 x g fits apart request reply call line few1 now a n q s t r m early k3 read h
                    none3 part3),
              )) ((late3 x g fits apart request reply call line few1 now a n q s t r m early k3 read h
              none3 part3) ended.then_now from) passes within
              (λ is. (omega (arith, flying), due is)))

          waits_for_ack : ReplyNext x g request reply call line now a n q t
          waits_for_ack = by r.passes due_then
            where
              none_owed : (k2 x g fits apart request reply call line few1 now a n q s t r m early).owed_ack ≡ None
                  → DueThen → ReplyNext x g request reply call line now a n q t
              none_owed none (client_due owes) =
                  waits_with 0 0 (omega (arith, some_left)) (omega arith) (owes_none none) (λ is. owes)
              none_owed none (server_due z is low) =
                  absurd (let never : ◌≡◌ {A = Option Owed} (Some z) None = sym is ∙ none in cc)

              by : Owing now r.ks.owed_ack r.owing → DueThen → ReplyNext x g request reply call line now a n q t
              by (owes_none none) due = none_owed (still ∙ none) due
              by (owes_now some low) due = none_owed (still ∙ none_due x g fits apart request reply call line few1 now a
                  n q s t r m early r.ks.owed_ack low later) due
              by (owes_any some) (client_due owes) =
                  waits_with 2 2 (omega (arith, some_left)) (omega arith) (owes_any (omega arith)) (λ is. owes)
              by (owes_any some) (server_due z is low) =
                  waits_with 2 1 (omega (arith, some_left)) (omega arith)
                  (owes_now (omega arith)
                  (subst (λ (v : Option Owed). IfSome v (λ y. y.rank ≤ ended.then_now)) (sym is) low))
                  (λ no. absurd (omega arith))

        quiet_on : ReplyNext x g request reply call line now a n q t
        quiet_on = ⊎_elim
            (λ (w : ((k2 x g fits apart request reply call line few1 now a n q s t r m early).owed_ack ≡ None)
            × (1 ≤ length (o x g fits apart request reply call line few1 now a n q s t r m early).acks)). told_alone
            w.0 w.1)
            (λ (w : ((k2 x g fits apart request reply call line few1 now a n q s t r m early).owed_ack ≡ r.ks.owed_ack)
            × ((o x g fits apart request reply call line few1 now a n q s t r m early).acks ≡ [])
            × ((z : Owed) → r.ks.owed_ack ≡ Some z → now < z.rank)). waits_for_ack w.1 w.0 w.2)
            (owes2 x g fits apart request reply call line few1 now a n q s t r m early)

      silent_on : ReplyNext x g request reply call line now a n q t
      silent_on = elim (cases_lt n (last x g fits apart request reply call line few1 now a n q s t r m early)) as
          (λ w. ReplyNext x g request reply call line now a n q t) [
            | inl less ↦ pieces_on less
            | inr all ↦ quiet_on
                (omega (arith, (last_more x g fits apart request reply call line few1 now a n q s t r m early)))
          ]

    reads_next : Two x (ls2 x g fits apart request reply call line few1 now a n q s t r m early)
        (client_at x (p x g fits apart request reply call line few1 now a n q s t r m early).behind.given
        (came x g fits apart request reply call line few1 now a n q s t r m early).used_client
        (came x g fits apart request reply call line few1 now a n q s t r m early).names now k3)
        (caller_at call line (caller_with x [] true read phases.Resting) ∷ [])
        (wrote x g fits apart request reply call line few1 now a n q s t r m early).jobs m.called
        → ReplyNext x g request reply call line now a n q t
    reads_next two = ⊎_elim
        (λ (w : ((p x g fits apart request reply call line few1 now a n q s t r m early).acks ≡ [])
        × ((came x g fits apart request reply call line few1 now a n q s t r m early).a1 ≡ a)
        × ((k1 x g fits apart request reply call line few1 now a n q s t r m early) ≡
        (o x g fits apart request reply call line few1 now a n q s t r m early).behind.looks)
        × (a < n → (came x g fits apart request reply call line few1 now a n q s t r m early).since1 ≡ r.since)
        × (n ≤ a → (came x g fits apart request reply call line few1 now a n q s t r m early).since1 ≡ now)). silent_on
        two w.0 w.1 w.2 (since_is w.3 w.4))
        (λ (w : (1 ≤ length (p x g fits apart request reply call line few1 now a n q s t r m early).acks)
        × ((came x g fits apart request reply call line few1 now a n q s t r m early).a1 ≡ n)
        × ((k1 x g fits apart request reply call line few1 now a n q s t r m early).heard ≡ now)
        × ((came x g fits apart request reply call line few1 now a n q s t r m early).since1 ≡ now)).
        (told_on x g fits apart request reply call line few1 now a n q s t r m early k3 read h none3 part3) two w.0 w.1
        w.2 w.3) (came x g fits apart request reply call line few1 now a n q s t r m early).told
      where
        since_is : (a < n → (came x g fits apart request reply call line few1 now a n q s t r m early).since1 ≡ r.since)
            → (n ≤ a → (came x g fits apart request reply call line few1 now a n q s t r m early).since1 ≡ now)
            → (came x g fits apart request reply call line few1 now a n q s t r m early).since1 ≡ r.since
        since_is some all = elim (cases_lt a n) as
            (λ w. (came x g fits apart request reply call line few1 now a n q s t r m early).since1 ≡ r.since) [
              | inl less ↦ some less
              | inr rests ↦ all rests ∙ sym (r.time.rests (let known : a ≤ n = r.down.known in omega arith))
            ]

  -- a round
  pub reply_next : ReplyNext x g request reply call line now a n q t
  reply_next = by (turned x g fits apart request reply call line few1 now a n q s t r m early)
    where
      by : ReplyRead x reply (ls2 x g fits apart request reply call line few1 now a n q s t r m early)
          (wrote x g fits apart request reply call line few1 now a n q s t r m early).jobs call line
          (p x g fits apart request reply call line few1 now a n q s t r m early).behind.given
          (came x g fits apart request reply call line few1 now a n q s t r m early).used_client now
          (came x g fits apart request reply call line few1 now a n q s t r m early).got.previous
          (last x g fits apart request reply call line few1 now a n q s t r m early)
          (came x g fits apart request reply call line few1 now a n q s t r m early).names
          (came x g fits apart request reply call line few1 now a n q s t r m early).l r.fits m.called
          → ReplyNext x g request reply call line now a n q t
      by (caller_ended v ended ends_) =
          has_come (record {
            caller = v;
            ended = ended_settled call line v m.called t (length m.polled.given == 0) m.settles_are ended;
            with = subst (λ (w : Served). EndsWith x w v) (sym r.served) ends_;
          })
      by (waits_for_more k3 read h none part two) = reads_next k3 read h none part two
