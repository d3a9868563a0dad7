-- Where a client heard of its call not long ago, or its server will let it hear soon, it is so behind a round too,
-- unless the server is done with the call or had no place for it.
use Rattle.std.proofs.Common.{◌≡◌, ◌⊎◌, ◌≤◌, ◌+◌, ℕ, zero, suc, true, false, List, [], ◌∷◌, Option, Some, None, refl}
use Rattle.std.proofs.Common.{ap, sym, subst, ◌∙◌, inl, inr, ⊎_elim, arith, option_map}
use Rattle.rx_model.specs.declared.names.CallName.{CallName}
use Rattle.rx_model.specs.Message.{Message}
use Rattle.rx_rules.specs.Judging.{is_data}
use Rattle.rx_rules.specs.CallLooks.{CallLooks}
use Rattle.rx_rules.specs.Life.{is_active}
use Rattle.rx_rules.specs.Looks.{CallRecord}
use Rattle.rx_rules.specs.Records.{unless_silent}
use Rattle.rx_rules.proofs.EveryLaws.{Every}
use Rattle.rx_history.specs.Sides.{Node, moment, side}
use Rattle.rx_law.specs.Worlds.{Datagram}
use Rattle.rx_script.specs.declared.plan.Numbered.{Numbered}
use Rattle.rx_jobs.specs.Handlers.{Handlers}
use Rattle.rx_plan.specs.Answering.{AreServable}
use Rattle.rx_plan.specs.Stages.{Stage}
use Rattle.rx_between.proofs.Each.EachItem.{In}
use Rattle.rx_rounds.proofs.Rounded.{RoundMade}
use Rattle.rx_closing.specs.Living.{call_lives_at}
use Rattle.rx_closing.proofs.Ends.HeardSoon.{Lively, OwesBy}
use Rattle.rx_closing.proofs.Ends.SaysPieces.{no_piece}
use Rattle.rx_closing.proofs.Ends.Speaks.{polls_speak, turn_hears}
use Rattle.rx_closing.proofs.Far.AtWork.{AtWork, at_work_of, ends_of, one_record}
use Rattle.rx_closing.proofs.Far.FarGrows.{FurtherOf}
use Rattle.rx_closing.proofs.Far.FarStands.{served_further}
use Rattle.rx_closing.proofs.Frame.{asked_in, served_in}
use Rattle.rx_closing.proofs.Living.BegunIn.{begun_round}
use Rattle.rx_closing.proofs.Living.RoundOnes.{AddsOver, adds_over}
use Rattle.rx_closing.proofs.Messages.FullCame.{CameFull, came_since, came_till}
use Rattle.rx_closing.proofs.Messages.TakesAll.{IsNotFor}
use Rattle.rx_closing.proofs.Polls.PolledEnds.{end_rested}
use Rattle.rx_closing.proofs.Rounds.Chains.{RoundAdds, round_adds}
use Rattle.rx_closing.proofs.Telling.BusyComes.{busy_comes}
use Rattle.rx_closing.proofs.Telling.ToldStays.{told_round}
use Rattle.rx_closing.proofs.Unknown.BegunAmong.{BegunAmong, IsTold, begins, unknown}
use Rattle.rx_closing.proofs.Unknown.BegunOwes.{begun_owes, none_over}
use Rattle.rx_closing.proofs.Unknown.UnservedMeet.{IsAsked}
use Rattle.rx_closing.proofs.Unknown.WaitsOn.{Waits, waits_begin, waits_on}
use Rattle.rx_closing.proofs.Working.ClientRound.{at, client_later, drained, gave, heard_over, hushed, lively_begins}
use Rattle.rx_closing.proofs.Working.ClientRound.{turn}
use Rattle.rx_closing.proofs.Working.EndRounds.{RoundFor, seen_polls, serves}
use Rattle.rx_closing.proofs.Working.PassesOf.{sifted_none}
use Rattle.rx_closing.proofs.Working.SinceRounds.{IsSince, since_round}
use Rattle.rx_closing.proofs.Working.WorkMeet.{ServesFor}

-- a call that is known stays so
pub known_then : (y : CallRecord) (o : Option CallRecord) → FurtherOf (Some y) o → (f : CallRecord) × (o ≡ Some f)
known_then y None further = absurd further
known_then y (Some f) further = (f, refl)

-- the server isn't done with it
abbrev pub IsOpen : CallName → Node → Stage → Type 0
IsOpen c server v = (y : CallRecord) → served_in c server v ≡ Some y → is_active y.life ≡ true

-- both are at work, and the client heard of it or the server answers soon
pub record Knows (c : CallName) (k : ℕ) (client server : Node) (v : Stage) (x : CallLooks) : Type 0 where
  pub h : ℕ
  pub is : IsSince c k client server h v
  pub low : h ≤ x.heard + 1900

-- at a stage at which a call lives at its client: the server doesn't know it, and the client gave no piece of it since
-- it heard, or the server owes it a BUSY; or the server knows it
pub data Soon (c : CallName) (k : ℕ) (client server : Node) (v : Stage) (x : CallLooks) : Type 0 where
  soon_waits : (since : ℕ) → Waits since (moment (suc k) v.history) x → served_in c server v ≡ None
      → Soon c k client server v x
  soon_told : served_in c server v ≡ None → IsTold c server v → moment (suc k) v.history ≤ x.heard + 4000
      → Soon c k client server v x
  soon_known : Knows c k client server v x → Soon c k client server v x

-- so it heard not long ago
pub knows_low : (c : CallName) (k : ℕ) (client server : Node) (v : Stage) (a : IsAsked c k client v)
    → Knows c k client server v a.call.looks → moment (suc k) v.history ≤ a.call.looks.heard + 5999
knows_low c k client server v a q =
    ⊎_elim
    (λ (owes : OwesBy q.h (ends_of c k client server v q.is.work)).
    (let within = owes.within in let low = q.low in omega (arith, low, within)))
    (λ (lively : Lively (ends_of c k client server v q.is.work)).
    (let within = lively.within in
    let same = ap (λ (x : CallRecord). x.looks.heard)
    (one_record q.is.work.asked a.call (asked_in c k client v) q.is.work.asked_is a.there) in
    omega (arith, within, same))) q.is.lively

pub soon_low : (c : CallName) (k : ℕ) (client server : Node) (v : Stage) (a : IsAsked c k client v)
    → Soon c k client server v a.call.looks → moment (suc k) v.history ≤ a.call.looks.heard + 5999
soon_low c k client server v a (soon_waits since w none) =
    (let near = w.near in let heard = w.heard in omega (arith, near, heard))
soon_low c k client server v a (soon_told none told near) = omega (arith, near)
soon_low c k client server v a (soon_known q) = knows_low c k client server v a q

module _ (g : Handlers) (ls : List Numbered) (servable : AreServable g) (cs : List CallName) (c : CallName) (k : ℕ)
    (client server : Node) (s t : Stage) (r : RoundMade g s t)
    (i : RoundFor g ls cs c k client server s t r) (inside : In c cs) (a : IsAsked c k client s)
    (b : IsAsked c k client t) (lived : call_lives_at s c (suc k) client ≡ true)
    (lives_ : call_lives_at t c (suc k) client ≡ true) (open_ : IsOpen c server t) where
  abbrev now_s : ℕ
  now_s = moment (suc k) s.history

  adds : RoundAdds g s t r
  adds = round_adds g s t r

  over : AddsOver g s t r
  over = adds_over g s t r

  -- where the server knows it behind the round, both are at work
  abbrev work_at : (y : CallRecord) → served_in c server t ≡ Some y → AtWork c k client server t
  work_at y is = at_work_of c k client server t i.over b (record { call = y; there = is; works = open_ y is })

  -- where it heard something in the round
  pub knows_begins : (y : CallRecord) → served_in c server t ≡ Some y → now_s ≤ b.call.looks.heard
      → Knows c k client server t b.call.looks
  knows_begins y is heard =
      record {
        h = 0;
        is = record {
          work = work_at y is;
          drained = drained g ls servable cs c k client server s t r i a b;
          lively = inr (lively_begins g ls servable cs c k client server s t r i a b lived lives_ (work_at y is) refl
              heard);
        };
        low = omega arith;
      }

  pub soon_begins : now_s ≤ b.call.looks.heard → Soon c k client server t b.call.looks
  soon_begins heard = of (served_in c server t) refl
    where
      of : (o : Option CallRecord) → served_in c server t ≡ o → Soon c k client server t b.call.looks
      of None none =
          soon_waits now_s (waits_begin g ls servable cs c k client server s t r i a b heard) none
      of (Some y) is = soon_known (knows_begins y is heard)

  -- what the round makes of it
  abbrev pub Then : Type 0
  Then = CameFull server.setup c s.history t.history ⊎ Soon c k client server t b.call.looks

  -- where the server knew it
  pub knows_then : Knows c k client server s a.call.looks → Knows c k client server t b.call.looks
  knows_then q =
      (let f = known_then q.is.work.served (served_in c server t)
      (subst (λ (o : Option CallRecord). FurtherOf o (served_in c server t)) q.is.work.served_is
      (served_further c k client server t i.over s over.begins.more over.begins.is)) in
      ⊎_elim (λ (now : b.call.looks.heard ≡ now_s). knows_begins f.0 f.1 (omega (arith, now)))
      (λ (quiet : ((at g ls servable cs c k client server s t r i a b).delivered.call.looks
      ≡ (gave g ls servable cs c k client server s t r i a b).worked.end)
      × (b.call.looks.heard ≡ a.call.looks.heard)).
      (let low = q.low in let heard = quiet.1 in
      record {
        h = q.h;
        is = since_round g ls servable cs c k client server s t r i q.h q.is (work_at f.0 f.1);
        low = omega (arith, low, heard);
      }))
      (heard_over g ls servable cs c k client server s t r i a b))

  -- ---- where it heard nothing

  module _ (quiet : (at g ls servable cs c k client server s t r i a b).delivered.call.looks
      ≡ (gave g ls servable cs c k client server s t r i a b).worked.end)
      (heard : b.call.looks.heard ≡ a.call.looks.heard) where
    module _ (since : ℕ) (w : Waits since now_s a.call.looks) (none : served_in c server s ≡ None) where
      abbrev for_it : ServesFor server
      for_it = serves g ls servable cs c k client server s t r i

      -- the polls make it known to no server
      none_polled : served_in c server r.polled.stage ≡ None
      none_polled =
          (let q = seen_polls g ls servable cs c k client server s t r i in
          let rests = end_rested server.setup c c.host q.its (moment 0 s.history) server.host (side 0 s.history)
          (side 0 r.polled.stage.history) q.by_server q.answers
          (λ y is active. absurd (let no : ◌≡◌ {A = Option CallRecord} None (Some y) = sym none ∙ is in cc (no)))
          q.server_end in
          rests.1.calls ∙ ap (λ (o : Option CallRecord). option_map (unless_silent (moment 0 s.history)) o) none)

      abbrev asks : List Message
      asks = (seen_polls g ls servable cs c k client server s t r i).asks

      comes : BegunAmong c server r.delivered r.polled.stage asks
      comes =
          begun_round cs c k client server g s t r i.crowd i.over inside a.call b.call a.there b.there a.calling
          b.calling for_it.service for_it.nonces for_it.is (IsNotFor server c) (λ d is. is) asks
          ((seen_polls g ls servable cs c k client server s t r i).asked
          (hushed g ls servable cs c k client server s t r i a b)) none_polled

      -- no piece of it was given
      still_waits : served_in c server r.delivered ≡ None → Every (λ (m : Message). is_data m.body ≡ false) asks → Then
      still_waits gone others =
          (let gives = (gave g ls servable cs c k client server s t r i a b).worked in
          inr (soon_waits since
          (waits_on g ls servable cs c k client server s t r i a b since w none
          (no_piece gives.sendings asks
          (polls_speak client.setup now_s a.call.looks gives.sendings asks gives.end gives.gives) others) quiet)
          (none_over g ls servable cs c k client server s t r i gone)))

      -- the server owes a BUSY
      is_told : served_in c server r.delivered ≡ None → IsTold c server r.delivered → Then
      is_told gone told = of r.polled.given refl
        where
          of : (ds : List Datagram) → r.polled.given ≡ ds → Then
          of [] nothing =
              still_waits gone
              (subst (λ (ms : List Message). Every (λ (m : Message). is_data m.body ≡ false) ms)
              (sym (sifted_none _ _ _ _ r.polled.given asks
              ((seen_polls g ls servable cs c k client server s t r i).asked
              (hushed g ls servable cs c k client server s t r i a b)) nothing)) tt)
          of (d ∷ ds) given =
              (let still : i.settles.time ≡ 0 = stays i.settles.time refl in
              let own = client_later g ls servable cs c k client server s t r i a b in
              let near = w.near in let low = w.heard in
              inr (soon_told (none_over g ls servable cs c k client server s t r i gone)
              (told_round c server g s t r told) (omega (arith, still, own, near, low, heard))))
            where
              stays : (n : ℕ) → i.settles.time ≡ n → n ≡ 0
              stays zero is = refl
              stays (suc n) is =
                  absurd (let nothing : r.polled.given ≡ [] = i.settles.moves (omega (arith, is)) in
                  let no : d ∷ ds ≡ [] = sym given ∙ nothing in cc (no))

      waits_then : Then
      waits_then = of comes
        where
          of : BegunAmong c server r.delivered r.polled.stage asks → Then
          of (begins front back piece are data_ x there takes) =
              (let f = known_then x (served_in c server t)
              (subst (λ (o : Option CallRecord). FurtherOf o (served_in c server t)) there
              (served_further c k client server t i.over r.delivered over.delivered.more over.delivered.is)) in
              let work = work_at f.0 f.1 in
              let low = w.heard in
              inr (soon_known (record {
                h = since + 1900;
                is = record {
                  work = work;
                  drained = drained g ls servable cs c k client server s t r i a b;
                  lively = inl (begun_owes g ls servable cs c k client server s t r i a b since w front back piece are
                      data_ x there (λ active. (takes active).1) work);
                };
                low = omega (arith, low, heard);
              })))
          of (unknown gone (inl (inl others))) = still_waits gone others
          of (unknown gone (inl (inr full))) =
              inl (came_since server.setup c s.history r.polled.stage.history t.history adds.polled.more adds.polled.is
              (came_till server.setup c r.polled.stage.history r.delivered.history t.history over.delivered.more
              over.delivered.is full))
          of (unknown gone (inr told)) = is_told gone told

  -- ---- all of it

  pub soon_then : Soon c k client server s a.call.looks → Then
  soon_then (soon_told none told near) =
      (let came = busy_comes c k client server g s t r i.over i.linked a.call
      (at g ls servable cs c k client server s t r i a b).delivered.call a.there
      (at g ls servable cs c k client server s t r i a b).delivered.there a.calling
      (at g ls servable cs c k client server s t r i a b).delivered.calling told in
      let on = (turn_hears now_s (at g ls servable cs c k client server s t r i a b).delivered.call.looks b.call.looks
      (turn g ls servable cs c k client server s t r i a b)).heard in
      inr (soon_begins (omega (arith, came, on))))
  soon_then (soon_waits since w none) =
      ⊎_elim (λ (now : b.call.looks.heard ≡ now_s). inr (soon_begins (omega (arith, now))))
      (λ (q : ((at g ls servable cs c k client server s t r i a b).delivered.call.looks
      ≡ (gave g ls servable cs c k client server s t r i a b).worked.end)
      × (b.call.looks.heard ≡ a.call.looks.heard)). waits_then q.0 q.1 since w none)
      (heard_over g ls servable cs c k client server s t r i a b)
  soon_then (soon_known q) = inr (soon_known (knows_then q))
