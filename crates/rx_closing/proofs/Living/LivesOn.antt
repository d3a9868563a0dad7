-- A call that is active behind the deliveries of a round has the life that it had before them.
use Rattle.std.proofs.Common.{◌≡◌, ◌++◌, ℕ, ℤ, Bool, true, false, List, [], ◌∷◌, Option, Some, None, refl, inl, inr}
use Rattle.std.proofs.Common.{◌∙◌, ap, sym, subst}
use Rattle.std.specs.Prelude.{slice_get}
use Rattle.rx_model.specs.declared.answers.Took.{Took}
use Rattle.rx_model.specs.declared.event.Event.{Event}
use Rattle.rx_model.specs.declared.event.Event.TheVariants as events
use Rattle.rx_model.specs.declared.names.CallName.{CallName}
use Rattle.rx_model.specs.declared.names.Host.{Host}
use Rattle.rx_model.specs.Names.{same_host}
use Rattle.rx_rules.specs.After.{looks}
use Rattle.rx_rules.specs.CallLooks.{CallLooks}
use Rattle.rx_rules.specs.Judging.{took_of}
use Rattle.rx_rules.specs.Life.{Life, after_acks, after_code, after_later, is_active}
use Rattle.rx_rules.specs.Life as lives
use Rattle.rx_rules.specs.Looks.{CallRecord, Looks, call_at}
use Rattle.rx_rules.specs.Rules.{Legal}
use Rattle.rx_rules.specs.Setup.{FitsSetup, Setup}
use Rattle.rx_history.specs.Sides.{Node, side}
use Rattle.rx_law.specs.Worlds.{Datagram}
use Rattle.rx_between.specs.Told.{StartsNoneAnew}
use Rattle.rx_between.proofs.Each.EachEvent.{each_step}
use Rattle.rx_between.proofs.Each.EachStep.{CallStep, LifeStep, accepted, cancelled, finished, gone, is_acked, is_busy}
use Rattle.rx_between.proofs.Each.EachStep.{is_followed, is_silent, is_stopped, lives_on, read_out}
use Rattle.rx_between.proofs.Onward.{NoneAnew}
use Rattle.rx_plan.specs.Network.{delivers}
use Rattle.rx_plan.specs.Parts.{each}
use Rattle.rx_plan.specs.Stages.{Stage}
use Rattle.rx_rounds.proofs.Rounded.{Made}
use Rattle.rx_closing.proofs.Far.AtWork.{one_record}
use Rattle.rx_closing.proofs.Far.FarGrows.{FurtherOf, further_on, none_anew}
use Rattle.rx_closing.proofs.Living.LifeBetween.{anew_before}
use Rattle.rx_closing.proofs.Messages.Delivered.{DeliveredBy, FirstOf, GrewBy, delivers_first, delivers_grow}
use Rattle.rx_closing.proofs.Messages.Delivered.{delivers_none, takes_from}
use Rattle.rx_history.proofs.Laws.EnteredLaw.{legal-before}
use Rattle.rx_law.proofs.Law.{side-split}

-- ---- one datagram

-- what stops, follows or acknowledges a call leaves it active only as it was
code_active : (code : ℤ) (x : Life) → is_active (after_code code x) ≡ true → after_code code x ≡ x
code_active code (lives.Ended end) is = refl
code_active code (lives.Broken before) is = refl
code_active code (lives.Over before) is = refl
code_active code _ is = absurd cc

later_active : (x : Life) → is_active (after_later x) ≡ true → after_later x ≡ x
later_active lives.Waiting is = absurd cc
later_active lives.Finished is = absurd cc
later_active _ is = refl

acks_active : (all : Bool) (x : Life) → is_active (after_acks all x) ≡ true → after_acks all x ≡ x
acks_active true lives.Finished is = absurd cc
acks_active false lives.Finished is = refl
acks_active all _ is = refl

taken_life : (s : Setup) (l : Looks) (from : Host) (bytes : List ℕ) (took : Took) (c : CallName) (b : CallLooks)
    (x y : Life) → LifeStep s l (events.Taken from bytes took) c b x y → is_active y ≡ true → y ≡ x
taken_life s l from bytes took c b x y (lives_on is) works = is
taken_life s l from bytes took c b x y (is_stopped code stops is) works =
    is ∙ code_active code x (sym (ap is_active is) ∙ works)
taken_life s l from bytes took c b x y (is_busy busy is) works =
    is ∙ code_active _ x (sym (ap is_active is) ∙ works)
taken_life s l from bytes took c b x y (is_followed follows is) works =
    is ∙ later_active x (sym (ap is_active is) ∙ works)
taken_life s l from bytes took c b x y (is_acked m judges is) works =
    is ∙ acks_active _ x (sym (ap is_active is) ∙ works)
taken_life s l from bytes took c b x y (is_silent got silence at is) works = absurd cc
taken_life s l from bytes took c b x y (accepted at is) works = absurd cc
taken_life s l from bytes took c b x y (finished code at is) works = absurd cc
taken_life s l from bytes took c b x y (gone code told at is) works = absurd cc
taken_life s l from bytes took c b x y (read_out most got block at is) works = absurd cc
taken_life s l from bytes took c b x y (cancelled code at is) works = absurd cc

call_life : (s : Setup) (l : Looks) (from : Host) (bytes : List ℕ) (took : Took) (c : CallName) (a b : CallRecord)
    → NoneAnew s l (events.Taken from bytes took) c (Some a)
    → CallStep s l (events.Taken from bytes took) c (Some a) (Some b) → is_active b.life ≡ true → b.life ≡ a.life
call_life s l from bytes took c a b anew (inl goes) works =
    taken_life s l from bytes took c b.looks a.life b.life goes.life works
call_life s l from bytes took c a b anew (inr starts) works =
    absurd (let no : ◌≡◌ {A = Option CallRecord} (Some a) None = anew b starts in cc (no))

-- ---- all of them

module _ (n : Node) (j : ℕ) (c : CallName) (fits : FitsSetup n.setup) where
  abbrev at_stage : Stage → Looks
  at_stage u = looks n.setup (side j u.history)

  -- one that is delivered
  one_life : (d : Datagram) (s t : Stage) → slice_get s.nodes j ≡ Some n → DeliveredBy d s t
      → Legal n.setup (side j t.history) → StartsNoneAnew n.setup (side j t.history) c → (a b : CallRecord)
      → call_at (at_stage s) c ≡ Some a → call_at (at_stage t) c ≡ Some b → is_active b.life ≡ true
      → b.life ≡ a.life
  one_life d s t there f legal anew a b at behind works = by (same_host d.to n.host) refl
    where
      e : Event
      e = takes_from n.setup d (at_stage s)

      by : (q : Bool) → same_host d.to n.host ≡ q → b.life ≡ a.life
      by true is =
          (let own : side j t.history ≡ e ∷ side j s.history = ((f.comes j n there).takes is).own in
          let legal_ : Legal n.setup (e ∷ side j s.history) = subst (Legal n.setup) own legal in
          let anew_ : StartsNoneAnew n.setup (e ∷ side j s.history) c =
          subst (λ (es : List Event). StartsNoneAnew n.setup es c) own anew in
          let none : NoneAnew n.setup (at_stage s) e c (Some a) =
          subst (NoneAnew n.setup (at_stage s) e c) at (none_anew n.setup e (side j s.history) c fits legal_ anew_) in
          let step : CallStep n.setup (at_stage s) e c (Some a) (Some b) =
          subst (λ (o : Option CallRecord). CallStep n.setup (at_stage s) e c o (Some b)) at
          (subst (λ (o : Option CallRecord). CallStep n.setup (at_stage s) e c (call_at (at_stage s) c) o)
          (ap (λ (es : List Event). call_at (looks n.setup es) c) (sym own) ∙ behind)
          (each_step n.setup (side j s.history) e c fits legal_)) in
          call_life n.setup (at_stage s) d.from d.bytes (took_of n.setup (at_stage s) d.from d.bytes) c a b none step
          works)
      by false is =
          (let same : at_stage t ≡ at_stage s = ap (looks n.setup) ((f.comes j n there).passes is) in
          ap (λ (r : CallRecord). r.life)
          (one_record b a (call_at (at_stage t) c) behind (ap (λ (l : Looks). call_at l c) same ∙ at)))

  -- the first of them, where the rest leaves the life
  first_then : (d : Datagram) (ds : List Datagram) (s t : Stage) → slice_get s.nodes j ≡ Some n
      → (f : FirstOf d ds s t) → Legal n.setup (side j t.history)
      → StartsNoneAnew n.setup (side j t.history) c → (a b : CallRecord) → call_at (at_stage s) c ≡ Some a
      → call_at (at_stage t) c ≡ Some b → is_active b.life ≡ true
      → ((m : CallRecord) → call_at (at_stage f.between) c ≡ Some m → b.life ≡ m.life) → b.life ≡ a.life
  first_then d ds s t there f legal anew a b at behind works later =
      first (call_at (at_stage f.between) c) refl
      (subst (λ (o : Option CallRecord). FurtherOf o (call_at (at_stage f.between) c)) at
      (subst (λ (es : List Event). FurtherOf (call_at (at_stage s) c) (call_at (looks n.setup es) c)) (sym into)
      (further_on n.setup (side j f.first.more) (side j s.history) c fits
      (subst (Legal n.setup) into legal_) (subst (λ (es : List Event). StartsNoneAnew n.setup es c) into anew_))))
    where
      grew : GrewBy f.between t
      grew = delivers_grow ds f.between t f.others

      into : side j f.between.history ≡ side j f.first.more ++ side j s.history
      into = ap (side j) f.first.grown ∙ side-split j f.first.more s.history

      rest : side j t.history ≡ side j grew.more ++ side j f.between.history
      rest = ap (side j) grew.is ∙ side-split j grew.more f.between.history

      legal_ : Legal n.setup (side j f.between.history)
      legal_ = legal-before n.setup (side j grew.more) (side j f.between.history) (subst (Legal n.setup) rest legal)

      anew_ : StartsNoneAnew n.setup (side j f.between.history) c
      anew_ =
          anew_before n.setup (side j grew.more) (side j f.between.history) c
          (subst (λ (es : List Event). StartsNoneAnew n.setup es c) rest anew)

      first : (o : Option CallRecord) → call_at (at_stage f.between) c ≡ o → FurtherOf (Some a) o → b.life ≡ a.life
      first None is one = absurd one
      first (Some m) is one =
          later m is
          ∙ one_life d s f.between there f.first legal_ anew_ a m at is
          (sym (ap is_active (later m is)) ∙ works)

  -- all of them
  pub delivered_life : (ds : List Datagram) (s t : Stage) → slice_get s.nodes j ≡ Some n
      → Made (each delivers ds) s t → Legal n.setup (side j t.history)
      → StartsNoneAnew n.setup (side j t.history) c → (a b : CallRecord) → call_at (at_stage s) c ≡ Some a
      → call_at (at_stage t) c ≡ Some b → is_active b.life ≡ true → b.life ≡ a.life
  delivered_life [] s t there made legal anew a b at behind works =
      ap (λ (r : CallRecord). r.life)
      (one_record b a (call_at (at_stage t) c) behind
      (ap (λ (u : Stage). call_at (at_stage u) c) (delivers_none s t made) ∙ at))
  delivered_life (d ∷ ds) s t there made legal anew a b at behind works =
      (let f : FirstOf d ds s t = delivers_first d ds s t made in
      first_then d ds s t there f legal anew a b at behind works
      (λ m is. delivered_life ds f.between t (ap (λ (u : Stage). slice_get u.nodes j) f.first.rest ∙ there) f.others
      legal anew m b is behind works))
