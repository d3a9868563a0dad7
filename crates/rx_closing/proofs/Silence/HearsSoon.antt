-- In rounds behind a plan a call of several is found dead only in silence: from the round on in which it was heard its
-- client hears of it again soon, while its server isn't done with it, or its server had no place for it.
use Rattle.std.proofs.Common.{◌≡◌, ◌⊎◌, ◌≤◌, ◌+◌, ℕ, suc, true, List, Option, Some, None, ap, sym, subst, inl, inr}
use Rattle.std.proofs.Common.{arith, refl}
use Rattle.rx_model.specs.declared.names.CallName.{CallName}
use Rattle.rx_rules.specs.Life.{is_live}
use Rattle.rx_rules.specs.Looks.{CallRecord, call_at, is_call}
use Rattle.rx_history.specs.Sides.{Node, moment}
use Rattle.rx_script.specs.declared.plan.Numbered.{Numbered}
use Rattle.rx_jobs.specs.Handlers.{Handlers}
use Rattle.rx_plan.specs.Stages.{Stage}
use Rattle.rx_between.proofs.Each.EachItem.{In}
use Rattle.rx_rounds.proofs.Rounded.{RoundMade}
use Rattle.rx_closing.specs.Living.{all_live, call_lives_at, looks_of}
use Rattle.rx_closing.specs.Closing.{RoundsBehind}
use Rattle.rx_closing.specs.Silence.{DeadOneInSilence}
use Rattle.rx_closing.specs.Several.{DeadAllInSilence}
use Rattle.rx_closing.proofs.Far.AtWork.{one_record}
use Rattle.rx_closing.proofs.Frame.{asked_in, served_in}
use Rattle.rx_closing.proofs.Messages.FullCame.{CameFull}
use Rattle.rx_closing.proofs.Rounds.Begins.{live_among, live_named}
use Rattle.rx_closing.proofs.Rounds.Chains.{Chain, adds_both, chain_adds, chain_both, chain_more, chain_none}
use Rattle.rx_closing.proofs.Rounds.Clocks.{round_settles}
use Rattle.rx_closing.proofs.Rounds.StageAt.{one_longer}
use Rattle.rx_closing.proofs.Silence.DeadHeard.{DeadHeard, GotFull}
use Rattle.rx_closing.proofs.Silence.DeadSoon.{HearsSoon, IfKnown, IfUnknown, dead_all, dead_one}
use Rattle.rx_closing.proofs.Silence.DeadStep.{Knows, Soon, knows_begins, knows_low, knows_then, soon_begins, soon_low}
use Rattle.rx_closing.proofs.Silence.DeadStep.{soon_then}
use Rattle.rx_closing.proofs.Silence.DeadStops.{FoundIn, Stop, asked_at, heard_from, here_at, its, lives_at, one_at}
use Rattle.rx_closing.proofs.Silence.DeadStops.{those}
use Rattle.rx_closing.proofs.Silence.DeadTimes.{last_adds}
use Rattle.rx_closing.proofs.Telling.DoneServed.{IsOpen, open_before}
use Rattle.rx_closing.proofs.Together.Members.{names_of}
use Rattle.rx_closing.proofs.Together.MembersHere.{AreSpacious}
use Rattle.rx_closing.proofs.Unknown.FullAmong.{full_among}
use Rattle.rx_closing.proofs.Unknown.UnservedMeet.{IsAsked}
use Rattle.rx_closing.proofs.Working.EndRounds.{RoundFor}

module _ (g : Handlers) (ls : List Numbered) (n : ℕ) (s t : Stage) (b : RoundsBehind g ls n s t)
    (spacious : AreSpacious s) (c : CallName) (k : ℕ) (client : Node) (d : DeadHeard g ls n s t b c k client) where
  abbrev server : Node
  server = its g ls n s t b spacious c k client d

  abbrev last : Stage
  last = d.o.last

  abbrev Stops : Stage → Type 0
  Stops v = Stop g ls n s t b spacious c k client d v

  abbrev Full : Type 0
  Full = GotFull g ls n s t b c k client d

  abbrev cs : List CallName
  cs = names_of (those g ls n s t b spacious c k client d).those

  abbrev asks : (v : Stage) → Stops v → IsAsked c k client v
  asks v o = asked_at g ls n s t b spacious c k client d v o

  abbrev lives : (v : Stage) → Stops v → call_lives_at v c (suc k) client ≡ true
  lives v o = lives_at g ls n s t b spacious c k client d v o

  abbrev Opens : Stage → Type 0
  Opens v = IsOpen c server v

  -- the call is one of those that lived
  inside : In c cs
  inside =
      subst (λ (xs : List CallName). In c xs) (sym (those g ls n s t b spacious c k client d).names)
      (of (call_at (looks_of s (suc k) client) c) refl d.living)
    where
      of : (q : Option CallRecord) → call_at (looks_of s (suc k) client) c ≡ q
          → is_call (λ r. is_live r.life) q ≡ true → In c (all_live s)
      of None found living = absurd cc
      of (Some x) found living = live_among s (suc k) client c d.there (live_named s (suc k) client c x found living)

  -- ---- a round

  round_for : (v w : Stage) (o : Stops v) (p : Stops w) (r : RoundMade g v w)
      → RoundFor g ls cs c k client server v w r
  round_for v w o p r =
      (let here = here_at g ls n s t b spacious c k client d v o in
      record {
        over = one_at g ls n s t b spacious c k client d w p;
        crowd = here.crowd;
        held = here.held;
        links = here.links;
        linked = here.linked;
        settles = round_settles c k client server g v w r (one_at g ls n s t b spacious c k client d w p) (lives v o)
            (lives w p);
      })

  -- the answer is among the events
  full_of : (v w : Stage) (o : Stops v) (p : Stops w) → CameFull server.setup c v.history w.history → Full
  full_of v w o p came =
      full_among server.setup c g n b.fs s t v w b.rounds_are (chain_adds g o.m s v o.front)
      (adds_both w.history last.history t.history (chain_adds g p.i w last p.rest)
      (last_adds g ls n s t b c k client d.there d.living d.o)) came

  -- ---- rounds

  stop_next : (j : ℕ) (u x v : Stage) → Stops u → Stops v → RoundMade g u x → Chain g j x v → Stops x
  stop_next j u x v p o r rest =
      record {
        m = p.m + 1;
        i = j + o.i;
        front = one_longer g p.m s u x p.front r;
        rest = chain_both g j o.i x v last rest o.rest;
      }

  opens_at : (j : ℕ) (x v : Stage) → Chain g j x v → Stops v → Opens v → Opens x
  opens_at j x v rest o open_ =
      open_before c k client server x v (one_at g ls n s t b spacious c k client d v o) (chain_adds g j x v rest) open_

  -- the client's record at a stage
  heard_same : (v : Stage) (o p : Stops v) → (asks v p).call.looks.heard ≡ (asks v o).call.looks.heard
  heard_same v o p =
      ap (λ (x : CallRecord). x.looks.heard)
      (one_record (asks v p).call (asks v o).call (asked_in c k client v) (asks v p).there (asks v o).there)

  knows_along : (j : ℕ) (u v : Stage) → Chain g j u v → (p : Stops u) (o : Stops v) → Opens v
      → Knows c k client server u (asks u p).call.looks
      → moment (suc k) v.history ≤ (asks v o).call.looks.heard + 5999
  knows_along j u v (chain_none w) p o open_ q =
      (let low = knows_low c k client server w (asks w p) q in
      let same = heard_same w o p in
      omega (arith, low, same))
  knows_along j u v (chain_more i w x y r rest) p o open_ q =
      (let next = stop_next i w x y p o r rest in
      knows_along i x y rest next o open_
      (knows_then g ls b.servable cs c k client server w x r (round_for w x p next r) inside (asks w p) (asks x next)
      (lives w p) (lives x next) (opens_at i x y rest o open_) q))

  soon_along : (j : ℕ) (u v : Stage) → Chain g j u v → (p : Stops u) (o : Stops v) → Opens v
      → Soon c k client server u (asks u p).call.looks
      → Full ⊎ (moment (suc k) v.history ≤ (asks v o).call.looks.heard + 5999)
  soon_along j u v (chain_none w) p o open_ q =
      (let low = soon_low c k client server w (asks w p) q in
      let same = heard_same w o p in
      inr (omega (arith, low, same)))
  soon_along j u v (chain_more i w x y r rest) p o open_ q =
      (let next = stop_next i w x y p o r rest in
      of next (soon_then g ls b.servable cs c k client server w x r (round_for w x p next r) inside (asks w p)
      (asks x next) (lives w p) (lives x next) (opens_at i x y rest o open_) q)
      (λ more. soon_along i x y rest next o open_ more))
    where
      of : (next : Stops x) → CameFull server.setup c w.history x.history
          ⊎ Soon c k client server x (asks x next).call.looks
          → (Soon c k client server x (asks x next).call.looks
          → Full ⊎ (moment (suc k) y.history ≤ (asks y o).call.looks.heard + 5999))
          → Full ⊎ (moment (suc k) y.history ≤ (asks y o).call.looks.heard + 5999)
      of next (inl came) onward = inl (full_of w x p next came)
      of next (inr more) onward = onward more

  -- ---- from the round in which it was heard

  module _ (v : Stage) (o : Stops v) (open_ : Opens v) (f : FoundIn g ls n s t b spacious c k client d v) where
    stop_from : Stops f.from
    stop_from =
        record {
          m = f.m;
          i = suc f.left + o.i;
          front = f.front;
          rest = chain_both g (suc f.left) o.i f.from v last (chain_more f.left f.from f.to v f.round f.rest) o.rest;
        }

    stop_to : Stops f.to
    stop_to = stop_next f.left f.from f.to v stop_from o f.round f.rest

    heard : moment (suc k) f.from.history ≤ (asks f.to stop_to).call.looks.heard
    heard =
        heard_from g ls n s t b spacious c k client d f.from f.to
        (one_at g ls n s t b spacious c k client d f.to stop_to) f.part f.cut f.since (asks f.to stop_to).call
        (asks f.to stop_to).there

    pub unknown_low : Full ⊎ (moment (suc k) v.history ≤ (asks v o).call.looks.heard + 5999)
    unknown_low =
        soon_along f.left f.to v f.rest stop_to o open_
        (soon_begins g ls b.servable cs c k client server f.from f.to f.round
        (round_for f.from f.to stop_from stop_to f.round) inside (asks f.from stop_from) (asks f.to stop_to)
        (lives f.from stop_from) (lives f.to stop_to) (opens_at f.left f.to v f.rest o open_) heard)

    pub known_low : (y : CallRecord) → served_in c server f.to ≡ Some y
        → moment (suc k) v.history ≤ (asks v o).call.looks.heard + 5999
    known_low y is =
        knows_along f.left f.to v f.rest stop_to o open_
        (knows_begins g ls b.servable cs c k client server f.from f.to f.round
        (round_for f.from f.to stop_from stop_to f.round) inside (asks f.from stop_from) (asks f.to stop_to)
        (lives f.from stop_from) (lives f.to stop_to) (opens_at f.left f.to v f.rest o open_) y is heard)

  pub if_unknown : IfUnknown g ls n s t b spacious c k client d
  if_unknown v o open_ f none = unknown_low v o open_ f

  pub if_known : IfKnown g ls n s t b spacious c k client d
  if_known v o open_ f y is = known_low v o open_ f y is

pub hears_soon : HearsSoon
hears_soon = record { unknown = if_unknown; known = if_known }

-- the promises: of all calls that live as the rounds begin, where there is room for them, and of one call
pub dead_all_in_silence : DeadAllInSilence
dead_all_in_silence = dead_all hears_soon

pub dead_one_in_silence : DeadOneInSilence
dead_one_in_silence = dead_one hears_soon
