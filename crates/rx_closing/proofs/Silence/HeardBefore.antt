-- A message that was heard of a call that is found dead came before the last stage at which it lives.
use Rattle.std.specs.Prelude.{slice_get}
use Rattle.std.proofs.Common.{◌≡◌, ◌++◌, ℕ, suc, true, List, ◌∷◌, Option, Some, None, refl, ap, sym, subst, ◌∙◌, ⊎_elim}
use Rattle.std.proofs.Common.{arith, ◌≤◌, []}
use Rattle.rx_model.specs.declared.answers.End.{End}
use Rattle.rx_model.specs.declared.answers.End.TheVariants as ends
use Rattle.rx_model.specs.declared.event.Event.{Event}
use Rattle.rx_model.specs.declared.event.Noted.{Noted}
use Rattle.rx_model.specs.declared.names.CallName.{CallName}
use Rattle.rx_model.specs.declared.event.Event.TheVariants as events
use Rattle.rx_model.specs.declared.names.Host.{Host}
use Rattle.rx_rules.specs.After.{looks}
use Rattle.rx_rules.specs.Life.{Life, is_active}
use Rattle.rx_rules.specs.Life as lives
use Rattle.rx_rules.specs.Rules.{Legal}
use Rattle.rx_rules.specs.Setup.{Client, FitsSetup, Setup}
use Rattle.rx_history.specs.Sides.{Node, side}
use Rattle.rx_history.specs.Streams.{end_at, end_by, end_of_life}
use Rattle.rx_history.proofs.Moments.{now-side}
use Rattle.rx_wire.specs.Turns.{noted}
use Rattle.rx_asks.specs.History.{IsCalled}
use Rattle.rx_script.specs.declared.plan.Numbered.{Numbered}
use Rattle.rx_jobs.specs.Handlers.{Handlers}
use Rattle.rx_plan.specs.Stages.{Stage}
use Rattle.rx_plan.proofs.ClientEnds.{IsCalledOr, calls_called}
use Rattle.rx_plan.proofs.Callers.{side_own}
use Rattle.rx_closing.specs.Living.{call_lives_at, looks_of}
use Rattle.rx_closing.specs.Closing.{RoundsBehind}
use Rattle.rx_closing.specs.Silence.{CameWith, is_hearing}
use Rattle.rx_closing.proofs.Messages.HearsCalls.{HearsNow, hears_now, own_hearing}
use Rattle.rx_closing.proofs.Rounds.Chains.{Adds}
use Rattle.rx_closing.proofs.Rounds.HeardCuts.{two_cuts}
use Rattle.rx_closing.proofs.Rounds.LastLife.{LastLife}
use Rattle.rx_closing.proofs.Rounds.RoundMoments.{moments_stay}
use Rattle.rx_closing.proofs.Rounds.SpokeHolds.{now_rises}
use Rattle.rx_closing.proofs.Silence.DeadTimes.{begins, called_dead, called_legal, ended_on, fits, from_called, legal_t}
use Rattle.rx_closing.proofs.Silence.DeadTimes.{to_called}
use Rattle.rx_closing.proofs.Silence.DiesSilent.{dies_silent}
use Rattle.rx_history.proofs.Laws.EnteredLaw.{legal-before}
use Rattle.rx_law.proofs.Law.{side-split}

-- clocks don't go back
pub now_later : (s : Setup) (later h : List Event) → Legal s (later ++ h) → (looks s h).now ≤ (looks s (later ++ h)).now
now_later s [] h legal = omega arith
now_later s (e ∷ later) h legal =
    (let first = now_later s later h legal.1 in
    let second = now_rises s (looks s (later ++ h)) e legal.0 in
    omega (arith, first, second))

-- an event that a client's side has behind which others came
pub side_there : (j : ℕ) (e : Event) (h part before : List Noted) → h ≡ part ++ (noted j e ∷ before)
    → side j h ≡ side j part ++ (e ∷ side j before)
side_there j e h part before is =
    ap (side j) is ∙ side-split j part (noted j e ∷ before)
    ∙ ap (λ (es : List Event). side j part ++ es) (side_own j e before)

-- what a client heard by it
pub hears_at : (s : Setup) (host : Host) (epoch : ℕ) → s.kind ≡ Client host epoch → (c : CallName) (e : Event)
    → CameWith s (λ got. is_hearing got ≡ true) c e → (later h : List Event) → Legal s (later ++ (e ∷ h))
    → HearsNow s h e c
hears_at s host epoch kind c e came later h legal =
    (let own : Legal s (e ∷ h) = legal-before s later (e ∷ h) legal in
    let taken : Legal s (events.Taken came.from came.datagram came.got ∷ h) =
    subst (λ (x : Event). Legal s (x ∷ h)) came.is own in
    subst (λ (x : Event). HearsNow s h x c) (sym came.is)
    (subst (λ (d : CallName). HearsNow s h (events.Taken came.from came.datagram came.got) d) came.of
    (hears_now s host epoch kind h came.from came.datagram came.got taken came.message came.reads
    (own_hearing came.got came.such))))

active_calls : (x : Life) → IsCalled x → is_active x ≡ true → x ≡ lives.Calling
active_calls lives.Calling called works = refl
active_calls (lives.Ended end) called works = absurd cc
active_calls _ called works = absurd called

module _ (g : Handlers) (ls : List Numbered) (n : ℕ) (s t : Stage) (b : RoundsBehind g ls n s t) (c : CallName) (k : ℕ)
    (client : Node) (there : slice_get s.nodes (suc k) ≡ Some client)
    (living : call_lives_at s c (suc k) client ≡ true) (o : LastLife g c (suc k) client s t) (silence : ℕ)
    (dead : end_at (looks_of t (suc k) client) c ≡ Some (ends.Dead silence)) (e : Event)
    (came : CameWith client.setup (λ got. is_hearing got ≡ true) c e) (later before : List Noted)
    (are : t.history ≡ later ++ (noted (suc k) e ∷ before)) where
  kind : client.setup.kind ≡ Client c.host c.epoch
  kind = (begins g ls n s t b c k client there living).client_is

  fit : FitsSetup client.setup
  fit = fits g ls n s t b c k client there living

  legal_all : Legal client.setup (side (suc k) later ++ (e ∷ side (suc k) before))
  legal_all =
      subst (Legal client.setup) (side_there (suc k) e t.history later before are)
      (legal_t g ls n s t b c k client there living)

  pub hears : HearsNow client.setup (side (suc k) before) e c
  hears = hears_at client.setup c.host c.epoch kind c e came (side (suc k) later) (side (suc k) before) legal_all

  pub hears_calling : hears.call.life ≡ lives.Calling
  hears_calling =
      active_calls hears.call.life
      (subst IsCalledOr hears.there
      (calls_called client.setup c.host c.epoch kind fit (side (suc k) before) c
      (legal-before client.setup (side (suc k) later) (e ∷ side (suc k) before) legal_all).1)) hears.active

  called_to : Adds o.ends.called.history t.history
  called_to = from_called g ls n s t b c k client there living o

  last_to : Adds o.last.history o.ends.called.history
  last_to = to_called g ls n s t b c k client there living o

  dead_called : end_at (looks_of o.ends.called (suc k) client) c ≡ Some (ends.Dead silence)
  dead_called = called_dead g ls n s t b c k client there living o silence dead

  -- not behind the turns of the round in which it ended
  not_later : Adds o.ends.called.history before → ⊥
  not_later a =
      (let own : side (suc k) before ≡ side (suc k) a.more ++ side (suc k) o.ends.called.history =
      ap (side (suc k)) a.is ∙ side-split (suc k) a.more o.ends.called.history in
      let ended = ended_on client.setup c.host c.epoch kind fit (side (suc k) a.more)
      (side (suc k) o.ends.called.history) c (ends.Dead silence)
      (subst (Legal client.setup) own
      (legal-before client.setup (side (suc k) later) (e ∷ side (suc k) before) legal_all).1) dead_called in
      let no : ◌≡◌ {A = Option End} None (Some (ends.Dead silence)) =
      sym (ap end_by hears.there ∙ ap end_of_life hears_calling)
      ∙ ap (λ (h : List Event). end_at (looks client.setup h) c) own ∙ ended in
      cc (no))

  -- and not in that round
  not_between : (part : List Noted) → o.ends.called.history ≡ part ++ (noted (suc k) e ∷ before)
      → Adds o.last.history before → ⊥
  not_between part is a =
      (let own = side_there (suc k) e o.ends.called.history part before is in
      let legal = subst (Legal client.setup) own (called_legal g ls n s t b c k client there living o) in
      let long = dies_silent client.setup c.host c.epoch kind fit (side (suc k) part) (e ∷ side (suc k) before) c
      hears.behind silence legal hears.after_it (hears.calls hears_calling)
      (ap (λ (h : List Event). end_at (looks client.setup h) c) (sym own) ∙ dead_called) in
      let now = ap (λ (h : List Event). (looks client.setup h).now) (sym own)
      ∙ now-side client.setup (suc k) o.ends.called.history
      ∙ (moments_stay g o.last o.behind o.ends).called (suc k) in
      let heard = hears.heard in
      let since : side (suc k) before ≡ side (suc k) a.more ++ side (suc k) o.last.history =
      ap (side (suc k)) a.is ∙ side-split (suc k) a.more o.last.history in
      let up = now_later client.setup (side (suc k) a.more) (side (suc k) o.last.history)
      (subst (Legal client.setup) since
      (legal-before client.setup (side (suc k) later) (e ∷ side (suc k) before) legal_all).1) in
      let first = now-side client.setup (suc k) o.last.history in
      let then_ = ap (λ (h : List Event). (looks client.setup h).now) since in
      omega (arith, long, now, heard, up, first, then_))

  -- so it is in the history of that stage
  pub heard_before : (part : List Noted) × (o.last.history ≡ part ++ (noted (suc k) e ∷ before))
  heard_before =
      ⊎_elim
      (λ (x : (part : List Noted) × (o.ends.called.history ≡ part ++ (noted (suc k) e ∷ before))).
      ⊎_elim (λ (y : (part : List Noted) × (o.last.history ≡ part ++ (noted (suc k) e ∷ before))). y)
      (λ (a : Adds o.last.history before). absurd (not_between x.0 x.1 a))
      (two_cuts last_to.more o.last.history x.0 before (noted (suc k) e) (sym last_to.is ∙ x.1)))
      (λ (a : Adds o.ends.called.history before). absurd (not_later a))
      (two_cuts called_to.more o.ends.called.history later before (noted (suc k) e) (sym called_to.is ∙ are))
