-- The stages of the rounds up to the last one at which a call lives that is found dead, and the round in which it was
-- heard.
use Rattle.std.proofs.Common.{◌≡◌, ◌≤◌, ◌++◌, ◌+◌, ℕ, suc, true, List, ◌∷◌, Option, Some, ap, sym, subst, ◌∙◌, ⊎_elim}
use Rattle.std.proofs.Common.{arith}
use Rattle.std.specs.Prelude.{slice_get}
use Rattle.rx_model.specs.declared.event.Event.{Event}
use Rattle.rx_model.specs.declared.event.Noted.{Noted}
use Rattle.rx_model.specs.declared.names.CallName.{CallName}
use Rattle.rx_rules.specs.After.{looks}
use Rattle.rx_rules.specs.Looks.{CallRecord, call_at}
use Rattle.rx_rules.specs.Rules.{Legal}
use Rattle.rx_rules.specs.Setup.{FitsSetup}
use Rattle.rx_history.proofs.Moments.{now-side}
use Rattle.rx_history.specs.Sides.{Node, moment, side}
use Rattle.rx_law.proofs.World.{if-some}
use Rattle.rx_script.specs.declared.plan.Numbered.{Numbered}
use Rattle.rx_jobs.specs.Handlers.{Handlers}
use Rattle.rx_wire.specs.Turns.{noted}
use Rattle.rx_plan.specs.Stages.{Stage}
use Rattle.rx_rounds.proofs.Rounded.{RoundMade}
use Rattle.rx_closing.specs.Living.{call_lives_at}
use Rattle.rx_closing.specs.Closing.{RoundsBehind}
use Rattle.rx_closing.proofs.Frame.{IsKept, OneOf, asked_in}
use Rattle.rx_closing.proofs.Living.Before.{one_before}
use Rattle.rx_closing.proofs.Messages.HearsCalls.{HearsNow}
use Rattle.rx_closing.proofs.Rounds.Chains.{Adds, Chain, chain_adds, chain_more, chain_nodes, chain_none}
use Rattle.rx_closing.proofs.Rounds.Clocks.{lives_within}
use Rattle.rx_closing.proofs.Rounds.HeardCuts.{no_more, two_cuts}
use Rattle.rx_closing.proofs.Rounds.RoundsOf.{RoundsOf}
use Rattle.rx_closing.proofs.Rounds.SpokeHolds.{heard_rises}
use Rattle.rx_closing.proofs.Rounds.StageAt.{one_longer}
use Rattle.rx_closing.proofs.Silence.DeadHeard.{DeadHeard}
use Rattle.rx_closing.proofs.Silence.DeadTimes.{fits, last_asked, last_nodes, last_one, last_silent, server}
use Rattle.rx_closing.proofs.Silence.DeadTimes.{server_there}
use Rattle.rx_closing.proofs.Silence.HeardBefore.{heard_before, hears, now_later, side_there}
use Rattle.rx_closing.proofs.Together.AllRounds.{all_here_on, kept_front}
use Rattle.rx_closing.proofs.Together.Members.{AllHere, names_of}
use Rattle.rx_closing.proofs.Together.MembersHere.{AllMembers, AreSpacious, members}
use Rattle.rx_closing.proofs.Unknown.UnservedMeet.{IsAsked, scene_asked}
use Rattle.rx_history.proofs.Laws.EnteredLaw.{legal-before}
use Rattle.rx_law.proofs.Law.{side-split}

module _ (g : Handlers) (ls : List Numbered) (n : ℕ) (s t : Stage) (b : RoundsBehind g ls n s t)
    (spacious : AreSpacious s) (c : CallName) (k : ℕ) (client : Node) (d : DeadHeard g ls n s t b c k client) where
  abbrev pub its : Node
  its = server g ls n s t b

  -- the last stage
  abbrev pub z : Stage
  z = d.o.last

  -- what was heard
  abbrev pub E : Noted
  E = noted (suc k) d.e

  -- those that live as the rounds begin
  pub those : AllMembers g ls its s
  those = members g ls n s t b spacious its (server_there g ls n s t b)

  pub ends : OneOf c k client its z
  ends = last_one g ls n s t b c k client d.there d.living d.o

  pub kept_z : IsKept s.nodes z
  kept_z =
      subst (λ (ns : List Node). IsKept ns z) (last_nodes g ls n s t b c k client d.there d.living d.o) ends.kept

  abbrev pub asked_z : IsAsked c k client z
  asked_z = last_asked g ls n s t b c k client d.there d.living d.o

  pub silent_z : asked_z.call.looks.heard + 12000 ≤ moment (suc k) z.history
  silent_z = last_silent g ls n s t b c k client d.there d.living d.o d.silence d.dead

  pub located : (part : List Noted) × (z.history ≡ part ++ (E ∷ d.before))
  located =
      heard_before g ls n s t b c k client d.there d.living d.o d.silence d.dead d.e d.came d.later d.before d.are

  heard_it : HearsNow client.setup (side (suc k) d.before) d.e c
  heard_it =
      hears g ls n s t b c k client d.there d.living d.o d.silence d.dead d.e d.came d.later d.before d.are

  fit : FitsSetup client.setup
  fit = fits g ls n s t b c k client d.there d.living

  legal_at : (v : Stage) → OneOf c k client its v → Legal client.setup (side (suc k) v.history)
  legal_at v one =
      if-some (slice_get v.nodes (suc k)) client (λ m. Legal m.setup (side (suc k) v.history)) one.client_there
      (one.world.sides.legal (suc k))

  -- a stage of whose history the event is was heard at no earlier than any before it
  pub heard_from : (u v : Stage) → OneOf c k client its v → (part : List Noted) → v.history ≡ part ++ (E ∷ d.before)
      → Adds u.history d.before → (x : CallRecord) → asked_in c k client v ≡ Some x
      → moment (suc k) u.history ≤ x.looks.heard
  heard_from u v at part cut since x is =
      (let own = side_there (suc k) d.e v.history part d.before cut in
      let legal = subst (Legal client.setup) own (legal_at v at) in
      let on = heard_rises client.setup (side (suc k) part) (d.e ∷ side (suc k) d.before) c heard_it.behind fit legal
      heard_it.after_it in
      let one : on.call ≡ x =
      (let both : ◌≡◌ {A = Option CallRecord} (Some on.call) (Some x) =
      sym on.there ∙ ap (λ (h : List Event). call_at (looks client.setup h) c) (sym own) ∙ is in cc (both)) in
      let high = on.heard in
      let now = heard_it.heard in
      let same = ap (λ (q : CallRecord). q.looks.heard) one in
      let grew : side (suc k) d.before ≡ side (suc k) since.more ++ side (suc k) u.history =
      ap (side (suc k)) since.is ∙ side-split (suc k) since.more u.history in
      let up = now_later client.setup (side (suc k) since.more) (side (suc k) u.history)
      (subst (Legal client.setup) grew
      (legal-before client.setup (side (suc k) part) (d.e ∷ side (suc k) d.before) legal).1) in
      let then_ = ap (λ (h : List Event). (looks client.setup h).now) grew in
      let first = now-side client.setup (suc k) u.history in
      omega (arith, high, now, same, up, then_, first))

  -- ---- a stage of the rounds

  pub record Stop (v : Stage) : Type 0 where
    pub m : ℕ
    pub i : ℕ
    pub front : Chain g m s v
    pub rest : Chain g i v z

  pub one_at : (v : Stage) → Stop v → OneOf c k client its v
  one_at v o =
      one_before c k client its z ends v (sym (chain_nodes g o.i v z o.rest)) (chain_adds g o.i v z o.rest)

  pub kept_at : (v : Stage) → Stop v → IsKept s.nodes v
  kept_at v o = kept_front (names_of those.those) s those.here.crowd g o.m o.i v z o.front o.rest kept_z

  pub here_at : (v : Stage) → Stop v → AllHere g ls its those.those v
  here_at v o = all_here_on g ls its those.those o.m s v o.front those.here (kept_at v o)

  pub lives_at : (v : Stage) → Stop v → call_lives_at v c (suc k) client ≡ true
  lives_at v o =
      lives_within c k client its s v z ends (chain_adds g o.m s v o.front) (chain_adds g o.i v z o.rest) d.living
      d.o.lives

  -- the rounds from there to the last one
  pub rounds_to : (v : Stage) → (o : Stop v) → RoundsOf g ls (names_of those.those) c k client its o.i v z
  rounds_to v o =
      record {
        chain = o.rest;
        over = ends;
        crowd = (here_at v o).crowd;
        held = (here_at v o).held;
        linked = (here_at v o).linked;
        living = lives_at v o;
        later = d.o.lives;
      }

  pub asked_at : (v : Stage) → Stop v → IsAsked c k client v
  asked_at v o = scene_asked c k client its v (one_at v o) (lives_at v o)

  -- the client heard no later there than at the last one
  pub heard_low : (v : Stage) → (o : Stop v) → (asked_at v o).call.looks.heard ≤ asked_z.call.looks.heard
  heard_low v o =
      (let a = chain_adds g o.i v z o.rest in
      let own = ap (side (suc k)) a.is ∙ side-split (suc k) a.more v.history in
      let on = heard_rises client.setup (side (suc k) a.more) (side (suc k) v.history) c (asked_at v o).call fit
      (subst (Legal client.setup) own (legal_at z ends)) (asked_at v o).there in
      let one : on.call ≡ asked_z.call =
      (let both : ◌≡◌ {A = Option CallRecord} (Some on.call) (Some asked_z.call) =
      sym on.there ∙ ap (λ (h : List Event). call_at (looks client.setup h) c) (sym own)
      ∙ asked_z.there in cc (both)) in
      let high = on.heard in
      let same = ap (λ (q : CallRecord). q.looks.heard) one in
      omega (arith, high, same))

  -- ---- the round in which it was heard

  -- of the rounds up to a stage
  pub record FoundIn (v : Stage) : Type 0 where
    pub from : Stage
    pub to : Stage
    pub round : RoundMade g from to
    pub part : List Noted
    pub cut : to.history ≡ part ++ (E ∷ d.before)
    pub since : Adds from.history d.before
    pub m : ℕ
    pub front : Chain g m s from
    pub left : ℕ
    pub rest : Chain g left to v

  found_in : (m i : ℕ) (u v : Stage) → Chain g m s u → Chain g i u v → Adds u.history d.before → (part : List Noted)
      → v.history ≡ part ++ (E ∷ d.before) → FoundIn v
  found_in m i u v front (chain_none w) since part is = absurd (no_more w.history part d.before E is since)
  found_in m i u v front (chain_more j w x y r rest) since part is =
      (let a = chain_adds g j x y rest in
      ⊎_elim
      (λ (q : (piece : List Noted) × (x.history ≡ piece ++ (E ∷ d.before))). record {
        from = w;
        to = x;
        round = r;
        part = q.0;
        cut = q.1;
        since = since;
        m = m;
        front = front;
        left = j;
        rest = rest;
      })
      (λ (later : Adds x.history d.before).
      found_in (m + 1) j x y (one_longer g m s w x front r) rest later part is)
      (two_cuts a.more x.history part d.before E (sym a.is ∙ is)))

  pub found_at : (v : Stage) → Stop v → (part : List Noted) → v.history ≡ part ++ (E ∷ d.before) → FoundIn v
  found_at v o part cut = found_in 0 o.m s v (chain_none s) o.front d.since part cut
