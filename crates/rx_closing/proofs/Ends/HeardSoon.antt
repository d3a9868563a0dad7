-- A client at whose server the call is at work too hears of it within 2,200 ms, once it heard anything in a round: each
-- piece and each ping that it gives is answered within 100 ms, and it pings where it gave nothing for 2,000.
use Rattle.std.proofs.Common.{◌≡◌, ◌<◌, ◌≤◌, ◌⊎◌, ◌+◌, ℕ, zero, suc, Bool, true, false, List, [], ◌∷◌, Option, Some}
use Rattle.std.proofs.Common.{None, is_some, refl, ap, sym, subst, ◌∙◌, inl, inr, ⊎_elim, arith}
use Rattle.rx_model.specs.declared.wire.TheConstants.{ACK_DELAY_MS, PING_MS}
use Rattle.rx_rules.specs.CallItems.{Sending}
use Rattle.rx_rules.specs.CallLooks.{CallLooks}
use Rattle.rx_rules.specs.Owing.{Owed}
use Rattle.rx_rules.specs.Received.{Packet, Received, front_of, is_done, used_of}
use Rattle.rx_rules.specs.Setup.{Setup, is_client}
use Rattle.rx_progress.specs.Moving.{IsDrained}
use Rattle.rx_closing.proofs.Ends.BothEnds.{Ends, IsFit}
use Rattle.rx_closing.proofs.Ends.EndFacts.{takes_fit, turns_fit}
use Rattle.rx_closing.proofs.Ends.FitGives.{polls_fit}
use Rattle.rx_closing.proofs.Ends.FrozenPolls.{has_ack, has_piece, has_ping, polls_end, polls_owed, polls_owes}
use Rattle.rx_closing.proofs.Ends.FrozenPolls.{polls_quiet, polls_spoke, polls_told}
use Rattle.rx_closing.proofs.Ends.FrozenRound.{SameTurn, turn_same}
use Rattle.rx_closing.proofs.Ends.FrozenSteps.{none_given}
use Rattle.rx_closing.proofs.Ends.NextGiven.{none_pinged, view_at}
use Rattle.rx_closing.proofs.Ends.Speaks.{DueBy, Hears, SameHeard, TurnHears, none_said, polls_leave, polls_speak}
use Rattle.rx_closing.proofs.Ends.Speaks.{takes_hear, took_none, turn_hears}
use Rattle.rx_closing.proofs.Steps.{Passes}
use Rattle.rx_rules.proofs.ReachLaws.{reach_within}

-- ---- a round

-- one of which nothing stands but that the client is drained and that the clocks go by nothing that is due
pub record LiveRound (cs ss : Setup) (e f : Ends) : Type 0 where
  pub time : ℕ
  pub passes : Passes cs ss e.client_now e.server_now e.client e.server f.client f.server time
  pub client_now : f.client_now ≡ e.client_now + time
  pub server_now : f.server_now ≡ e.server_now + time
  pub client_fit : IsFit e.client_now e.client
  pub server_fit : IsFit e.server_now e.server
  pub drained : IsDrained e.client.received
  pub pinged : 0 < time → e.client_now + time ≤ f.client.spoke + PING_MS
  pub client_owed : 0 < time → (o : Owed) → f.client.owed_ack ≡ Some o → e.client_now + time ≤ o.rank
  pub server_owed : 0 < time → (o : Owed) → f.server.owed_ack ≡ Some o → e.server_now + time ≤ o.rank

-- its server owes an answer, which comes within 2,200 ms of a moment
pub record AnswersBy (h : ℕ) (e : Ends) : Type 0 where
  pub owed : Owed
  pub is : e.server.owed_ack ≡ Some owed
  pub soon : e.client_now + owed.rank ≤ e.server_now + h + 2200

-- at a client to which that comes
pub record OwesBy (h : ℕ) (e : Ends) : Type 0 where
  pub answers : AnswersBy h e
  pub within : e.client_now ≤ h + 2200

-- a client that gave nothing since a moment not long ago that isn't answered soon
pub record LivelySince (h : ℕ) (e : Ends) : Type 0 where
  pub near : e.client_now ≤ e.client.spoke + PING_MS
  pub owed :
      (o : Owed) → e.client.owed_ack ≡ Some o → (o.rank ≤ h + ACK_DELAY_MS) × (e.client_now ≤ h + ACK_DELAY_MS)
  pub answered : (e.client.spoke ≤ h + ACK_DELAY_MS) ⊎ AnswersBy h e
  pub within : e.client_now ≤ h + 2200

-- a client that heard something not long ago, and gave nothing since that isn't answered soon
abbrev pub Lively : Ends → Type 0
Lively e = LivelySince e.client.heard e

module _ (cs ss : Setup) (client : is_client cs.kind ≡ true) (e f : Ends) (r : LiveRound cs ss e f) where
  -- the client
  polled-fit : IsFit e.client_now r.passes.kc1
  polled-fit =
      polls_fit cs e.client_now e.client r.passes.out_c r.passes.gave_c r.passes.kc1 r.passes.gives_c r.client_fit

  client-hears : Hears e.client_now r.passes.out_s r.passes.kc1 r.passes.kc2
  client-hears =
      takes_hear cs e.client_now r.passes.kc1 r.passes.out_s r.passes.gave_s r.passes.kc2 r.passes.takes_c
      (polls_speak ss e.server_now e.server r.passes.out_s r.passes.gave_s r.passes.ks1 r.passes.gives_s) polled-fit

  client-turn : TurnHears r.passes.kc2 f.client
  client-turn = turn_hears e.client_now r.passes.kc2 f.client r.passes.turn_c

  client-same : SameTurn r.passes.kc2 f.client
  client-same = turn_same e.client_now r.passes.kc2 f.client r.passes.turn_c

  client-fit : IsFit e.client_now f.client
  client-fit =
      turns_fit e.client_now r.passes.kc2 f.client r.passes.turn_c
      (takes_fit cs e.client_now r.passes.kc1 r.passes.gave_s r.passes.kc2 r.passes.takes_c polled-fit)

  spoke-is : f.client.spoke ≡ r.passes.kc1.spoke
  spoke-is = client-same.spoke ∙ client-hears.spoke

  -- it gave something less than two seconds ago
  near-now : f.client_now ≤ f.client.spoke + PING_MS
  near-now = of r.time refl
    where
      of : (t : ℕ) → r.time ≡ t → f.client_now ≤ f.client.spoke + PING_MS
      of zero is =
          (let soon = none_pinged (view_at cs e.client_now) r.passes.kc1
          (polls_end cs e.client_now e.client r.passes.out_c r.passes.gave_c r.passes.kc1 r.passes.gives_c) client in
          let now = r.client_now in
          let spoke = spoke-is in
          omega (arith, soon, now, is, spoke))
      of (suc t) is =
          (let ahead = r.pinged (omega (arith, is)) in let now = r.client_now in omega (arith, ahead, now))

  -- the server
  server-hears : Hears e.server_now r.passes.out_c r.passes.ks1 r.passes.ks2
  server-hears =
      takes_hear ss e.server_now r.passes.ks1 r.passes.out_c r.passes.gave_c r.passes.ks2 r.passes.takes_s
      (polls_speak cs e.client_now e.client r.passes.out_c r.passes.gave_c r.passes.kc1 r.passes.gives_c)
      (polls_fit ss e.server_now e.server r.passes.out_s r.passes.gave_s r.passes.ks1 r.passes.gives_s r.server_fit)

  server-due : (time : ℕ) → DueBy time r.passes.ks2.owed_ack → DueBy time f.server.owed_ack
  server-due = (turn_hears e.server_now r.passes.ks2 f.server r.passes.turn_s).due

  -- what it owes is due no earlier than now
  due-later : (o : Owed) → f.server.owed_ack ≡ Some o → (r.time ≡ 0) ⊎ (e.server_now + r.time ≤ o.rank)
  due-later o is = of r.time refl
    where
      of : (t : ℕ) → r.time ≡ t → (r.time ≡ 0) ⊎ (e.server_now + r.time ≤ o.rank)
      of zero none = inl none
      of (suc t) some = inr (r.server_owed (omega (arith, some)) o is)

  -- ---- where the server gave something

  -- the client heard it
  pub live_begins : (r.passes.out_s ≡ [] → ⊥) → Lively f
  live_begins some =
      let heard : f.client.heard ≡ e.client_now = client-turn.heard ∙ client-hears.heard some in
      let still : f.client_now ≡ e.client_now = stays-put r.time refl in
      let fit = client-fit in
      record {
        near = near-now;
        owed = λ o is. (let low = fit.low o is in (omega (arith, low, heard), omega (arith, still, heard)));
        answered = inl (let spoke = fit.spoke in omega (arith, spoke, heard));
        within = omega (arith, still, heard);
      }
    where
      stays-put : (t : ℕ) → r.time ≡ t → f.client_now ≡ e.client_now
      stays-put zero is = (let now = r.client_now in omega (arith, now, is))
      stays-put (suc t) is = absurd (some (r.passes.moves (omega (arith, is))).1)

  -- ---- where it gave nothing

  module _ (none : r.passes.out_s ≡ []) where
    -- the client took nothing
    took : r.passes.kc2 ≡ r.passes.kc1
    took =
        took_none cs e.client_now r.passes.kc1 r.passes.gave_s r.passes.kc2 r.passes.takes_c
        (none_said r.passes.out_s r.passes.gave_s
        (polls_speak ss e.server_now e.server r.passes.out_s r.passes.gave_s r.passes.ks1 r.passes.gives_s) none)

    left : SameHeard e.client r.passes.kc1
    left = polls_leave cs e.client_now e.client r.passes.out_c r.passes.gave_c r.passes.kc1 r.passes.gives_c

    heard-is : f.client.heard ≡ e.client.heard
    heard-is = client-turn.heard ∙ (ap (λ (k : CallLooks). k.heard) took ∙ left.heard)

    owed-is : f.client.owed_ack ≡ r.passes.kc1.owed_ack
    owed-is =
        client-same.owed (let top = reach_within (is_done f.client.received) (front_of f.client.received.kept) in
        let turn : front_of f.client.received.kept ≡ front_of r.passes.kc2.received.kept =
        ap (λ (ps : List Packet). front_of ps) client-same.kept in
        let received : r.passes.kc2.received ≡ e.client.received =
        ap (λ (k : CallLooks). k.received) took ∙ left.received in
        let front : front_of r.passes.kc2.received.kept ≡ front_of e.client.received.kept =
        ap (λ (x : Received). front_of x.kept) received in
        let used : used_of r.passes.kc2.received ≡ used_of e.client.received =
        ap (λ (x : Received). used_of x) received in
        let drained = r.drained in
        omega (arith, top, turn, front, used, drained))
        ∙ ap (λ (k : CallLooks). k.owed_ack) took

    -- what it owes it owed before
    owed-before : (o : Owed) → f.client.owed_ack ≡ Some o → e.client.owed_ack ≡ Some o
    owed-before o is = of (has_ack r.passes.out_c) refl
      where
        none-some : ◌≡◌ {A = Option Owed} None (Some o) → ⊥
        none-some same = cc

        of : (b : Bool) → has_ack r.passes.out_c ≡ b → e.client.owed_ack ≡ Some o
        of true acks =
            absurd (none-some (sym (polls_told cs e.client_now e.client r.passes.out_c r.passes.gave_c r.passes.kc1
            r.passes.gives_c r.client_fit.steady acks) ∙ (sym owed-is ∙ is)))
        of false acks =
            sym (polls_owed cs e.client_now e.client r.passes.out_c r.passes.gave_c r.passes.kc1 r.passes.gives_c acks)
            ∙ (sym owed-is ∙ is)

    -- the server gave nothing
    server-quiet : r.passes.ks1 ≡ e.server
    server-quiet =
        polls_quiet ss e.server_now e.server r.passes.out_s r.passes.gave_s r.passes.ks1 r.passes.gives_s none

    module _ (h : ℕ) where
      -- an answer that it owes it owes still
      answers-from : (time : ℕ) → DueBy time f.server.owed_ack → e.client_now + time ≤ e.server_now + h + 2200
          → AnswersBy h f
      answers-from time due soon =
          record {
            owed = due.owed;
            is = due.is;
            soon = (let by = due.by in
                let a = r.client_now in
                let b = r.server_now in
                omega (arith, by, a, b, soon));
          }

      answers-on : AnswersBy h e → AnswersBy h f
      answers-on a =
          answers-from a.owed.rank
          (server-due a.owed.rank
          (server-hears.due a.owed.rank (record {
            owed = a.owed;
            is = ap (λ (k : CallLooks). k.owed_ack) server-quiet ∙ a.is;
            by = omega arith;
          }))) a.soon

      -- a piece or a ping of the client is answered soon
      answers-new : LivelySince h e → e.client.spoke ≤ h + ACK_DELAY_MS
          → DueBy (e.server_now + ACK_DELAY_MS) r.passes.ks2.owed_ack → AnswersBy h f
      answers-new lively spoke due =
          answers-from (e.server_now + ACK_DELAY_MS) (server-due (e.server_now + ACK_DELAY_MS) due)
          (let near = lively.near in omega (arith, near, spoke))

      answered : LivelySince h e → (f.client.spoke ≤ h + ACK_DELAY_MS) ⊎ AnswersBy h f
      answered lively =
          ⊎_elim (λ (spoke : e.client.spoke ≤ h + ACK_DELAY_MS).
          of spoke (has_piece r.passes.out_c) (has_ping r.passes.out_c) (has_ack r.passes.out_c) refl refl refl)
          (λ (a : AnswersBy h e). inr (answers-on a)) lively.answered
        where
          of : e.client.spoke ≤ h + ACK_DELAY_MS → (a b c : Bool) → has_piece r.passes.out_c ≡ a
              → has_ping r.passes.out_c ≡ b → has_ack r.passes.out_c ≡ c
              → (f.client.spoke ≤ h + ACK_DELAY_MS) ⊎ AnswersBy h f
          of spoke true b c piece ping ack = inr (answers-new lively spoke (server-hears.piece piece))
          of spoke false true c piece ping ack = inr (answers-new lively spoke (server-hears.ping ping))
          of spoke false false true piece ping ack =
              (let owes = polls_owes cs e.client_now e.client r.passes.out_c r.passes.gave_c r.passes.kc1
              r.passes.gives_c r.client_fit.steady ack ping in
              let early = lately e.client.owed_ack refl owes in
              let now = spoke-is ∙ polls_spoke cs e.client_now e.client r.passes.out_c r.passes.gave_c r.passes.kc1
              r.passes.gives_c ack in
              inl (omega (arith, early, now)))
            where
              lately : (q : Option Owed) → e.client.owed_ack ≡ q → is_some q ≡ true → e.client_now ≤ h + ACK_DELAY_MS
              lately None is some = absurd cc
              lately (Some o) is some = (lively.owed o is).1
          of spoke false false false piece ping ack =
              (let quiet = ap (λ (k : CallLooks). k.spoke)
              (polls_quiet cs e.client_now e.client r.passes.out_c r.passes.gave_c r.passes.kc1 r.passes.gives_c
              (none_given r.passes.out_c piece ack)) in
              let same = spoke-is in
              inl (omega (arith, quiet, same, spoke)))

      owed-on : LivelySince h e → (o : Owed) → f.client.owed_ack ≡ Some o
          → (o.rank ≤ h + ACK_DELAY_MS) × (f.client_now ≤ h + ACK_DELAY_MS)
      owed-on lively o is =
          (let before = lively.owed o (owed-before o is) in
          let rank = before.0 in
          let early = before.1 in
          (rank, of r.time refl rank early))
        where
          of : (t : ℕ) → r.time ≡ t → o.rank ≤ h + ACK_DELAY_MS → e.client_now ≤ h + ACK_DELAY_MS
              → f.client_now ≤ h + ACK_DELAY_MS
          of zero same rank early = (let now = r.client_now in omega (arith, now, same, early))
          of (suc t) same rank early =
              (let now = r.client_now in
              let ahead = r.client_owed (omega (arith, same)) o is in
              omega (arith, now, ahead, rank))

      answered-by : e.client_now ≤ h + 2200 → AnswersBy h f → f.client_now ≤ h + 2200
      answered-by before a =
          (let now = r.client_now in
          let there = r.server_now in
          let soon = a.soon in
          ⊎_elim (λ (still : r.time ≡ 0). omega (arith, now, still, before))
          (λ (ahead : e.server_now + r.time ≤ a.owed.rank). omega (arith, now, there, soon, ahead))
          (due-later a.owed a.is))

      -- it stays so
      since_on : LivelySince h e → LivelySince h f
      since_on lively =
          let answers = answered lively in
          record {
            near = near-now;
            owed = owed-on lively;
            answered = answers;
            within = ⊎_elim (λ (spoke : f.client.spoke ≤ h + ACK_DELAY_MS).
                (let near = near-now in omega (arith, near, spoke)))
                (λ (a : AnswersBy h f). answered-by lively.within a) answers;
          }

      owes_on : OwesBy h e → OwesBy h f
      owes_on o =
          let answers = answers-on o.answers in
          record { answers = answers; within = answered-by o.within answers }

  -- of a lively client
  pub live_step : Lively e → Lively f
  live_step lively = of r.passes.out_s refl
    where
      of : (xs : List Sending) → r.passes.out_s ≡ xs → Lively f
      of [] none = subst (λ (n : ℕ). LivelySince n f) (sym (heard-is none)) (since_on none e.client.heard lively)
      of (x ∷ xs) some = live_begins (λ none. some-none (sym some ∙ none))
        where
          some-none : ◌≡◌ {A = List Sending} (x ∷ xs) [] → ⊥
          some-none is = cc

  -- of one whose server owes an answer
  pub owes_step : (h : ℕ) → OwesBy h e → OwesBy h f ⊎ Lively f
  owes_step h o = of r.passes.out_s refl
    where
      of : (xs : List Sending) → r.passes.out_s ≡ xs → OwesBy h f ⊎ Lively f
      of [] none = inl (owes_on none h o)
      of (x ∷ xs) some = inr (live_begins (λ none. some-none (sym some ∙ none)))
        where
          some-none : ◌≡◌ {A = List Sending} (x ∷ xs) [] → ⊥
          some-none is = cc
