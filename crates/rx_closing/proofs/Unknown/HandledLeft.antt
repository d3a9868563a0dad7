-- What datagrams that are delivered to a server leave of a call at work there, and of one that a handler has; and a
-- BUSY that the channel of such a one owes is owed still.
use Rattle.std.proofs.Common.{◌≡◌, ◌⊎◌, ℕ, ℤ, Bool, true, false, List, [], ◌∷◌, Option, Some, None, Ok, refl, inl, inr}
use Rattle.std.proofs.Common.{◌∙◌, ap, sym, subst, is_some}
use Rattle.std.specs.Prelude.{slice_get}
use Rattle.rx_model.specs.declared.answers.Took.{Took}
use Rattle.rx_model.specs.declared.answers.Took.TheVariants as tooks
use Rattle.rx_model.specs.declared.event.Event.{Event}
use Rattle.rx_model.specs.declared.event.Event.TheVariants as events
use Rattle.rx_model.specs.declared.names.CallName.{CallName}
use Rattle.rx_model.specs.declared.names.Host.{Host}
use Rattle.rx_model.specs.declared.wire.TheConstants.{RX_CALL_DEAD}
use Rattle.rx_model.specs.Message.{Message}
use Rattle.rx_model.specs.Names.{Channel, channel_of, same_host}
use Rattle.rx_model.specs.Reading.{reading_of}
use Rattle.rx_model.proofs.NameLaws.{host_is, both}
use Rattle.rx_rules.specs.After.{looks}
use Rattle.rx_rules.specs.CallLooks.{CallLooks, is_delivered}
use Rattle.rx_rules.specs.Judging.{facts_of, is_data, opened, outer_row, own_row, took_of}
use Rattle.rx_rules.specs.Life.{Life, after_acks, after_code, after_later, is_active, is_handled}
use Rattle.rx_rules.specs.Life as lives
use Rattle.rx_rules.specs.Looks.{CallRecord, Looks, call_at, channel_at}
use Rattle.rx_rules.specs.Rules.{Legal}
use Rattle.rx_rules.specs.Setup.{FitsSetup, IsServer, Setup, named}
use Rattle.rx_rules.proofs.EveryLaws.{Every}
use Rattle.rx_history.specs.Sides.{Node, side}
use Rattle.rx_history.specs.Starts.{StartsOnce}
use Rattle.rx_law.specs.Worlds.{Datagram}
use Rattle.rx_between.proofs.Each.EachEvent.{each_step}
use Rattle.rx_between.proofs.Each.EachStep.{CallStep, LifeStep}
use Rattle.rx_between.proofs.Each.EachStep as steps
use Rattle.rx_between.proofs.Onward.{NoneAnew, row_named}
use Rattle.rx_plan.specs.Network.{delivers}
use Rattle.rx_plan.specs.Parts.{each}
use Rattle.rx_plan.specs.Stages.{Stage}
use Rattle.rx_rounds.proofs.Rounded.{Made}
use Rattle.rx_closing.proofs.Far.FarGrows.{none_anew}
use Rattle.rx_closing.proofs.Messages.CrowdedRows.{is_busy, row_calm, side_crowds}
use Rattle.rx_closing.proofs.Messages.Delivered.{DeliveredBy, delivers_first, delivers_none, takes_from}
use Rattle.rx_closing.proofs.Messages.Lasts.{live_last, some_number}
use Rattle.rx_closing.proofs.Messages.OwingStays.{HoldsOwed, OwesBusy, busy_stays, holds_same, holds_then}
use Rattle.rx_closing.proofs.Messages.OwingTaken.{holds_taken}
use Rattle.rx_closing.proofs.Messages.TellsOver.{idle_left, legal_then, once_then}
use Rattle.rx_closing.proofs.Owing.TooMuch.{handled_live}
use Rattle.rx_closing.proofs.Telling.BusyOwed.{code_keeps}

-- ---- lives

code_work : (code : ℤ) (x : Life) → (after_code code x ≡ x) ⊎ (is_active (after_code code x) ≡ false)
code_work code (lives.Ended end) = inl refl
code_work code (lives.Broken before) = inl refl
code_work code (lives.Over before) = inl refl
code_work code _ = inr refl

later_work : (x : Life) → (after_later x ≡ x) ⊎ (is_active (after_later x) ≡ false)
later_work lives.Waiting = inr refl
later_work lives.Finished = inr refl
later_work _ = inl refl

acks_work : (all : Bool) (x : Life) → (after_acks all x ≡ x) ⊎ (is_active (after_acks all x) ≡ false)
acks_work true lives.Finished = inr refl
acks_work false lives.Finished = inl refl
acks_work all _ = inl refl

behind_step : (f : Life → Life) (x y : Life) → y ≡ f x → (f x ≡ x) ⊎ (is_active (f x) ≡ false)
    → (y ≡ x) ⊎ (is_active y ≡ false)
behind_step f x y is (inl same) = inl (is ∙ same)
behind_step f x y is (inr idle) = inr (ap is_active is ∙ idle)

-- a datagram leaves a life, or it isn't at work behind it
life_work : (s : Setup) (l : Looks) (from : Host) (bytes : List ℕ) (took : Took) (c : CallName) (b : CallLooks)
    (x y : Life) → LifeStep s l (events.Taken from bytes took) c b x y → (y ≡ x) ⊎ (is_active y ≡ false)
life_work s l from bytes took c b x y (steps.lives_on is) = inl is
life_work s l from bytes took c b x y (steps.is_stopped code stops is) =
    behind_step (after_code code) x y is (code_work code x)
life_work s l from bytes took c b x y (steps.is_busy busy is) =
    behind_step (after_code RX_CALL_DEAD) x y is (code_work RX_CALL_DEAD x)
life_work s l from bytes took c b x y (steps.is_followed later is) = behind_step after_later x y is (later_work x)
life_work s l from bytes took c b x y (steps.is_acked m judges is) =
    behind_step (after_acks (is_delivered b)) x y is (acks_work (is_delivered b) x)
life_work s l from bytes took c b x y (steps.is_silent got silence event is) = absurd (cc (event))
life_work s l from bytes took c b x y (steps.accepted event is) = absurd (cc (event))
life_work s l from bytes took c b x y (steps.finished code event is) = absurd (cc (event))
life_work s l from bytes took c b x y (steps.gone code told event is) = absurd (cc (event))
life_work s l from bytes took c b x y (steps.read_out most got bytes_ event is) = absurd (cc (event))
life_work s l from bytes took c b x y (steps.cancelled code event is) = absurd (cc (event))

later_handled : (x : Life) → is_handled x ≡ true → is_handled (after_later x) ≡ true
later_handled lives.Accepted is = refl
later_handled (lives.Broken before) is = refl
later_handled _ is = absurd (cc (is))

acks_handled : (all : Bool) (x : Life) → is_handled x ≡ true → is_handled (after_acks all x) ≡ true
acks_handled all lives.Accepted is = refl
acks_handled all (lives.Broken before) is = refl
acks_handled all _ is = absurd (cc (is))

-- a handler has a call still behind a datagram
life_handled : (s : Setup) (l : Looks) (from : Host) (bytes : List ℕ) (took : Took) (c : CallName) (b : CallLooks)
    (x y : Life) → LifeStep s l (events.Taken from bytes took) c b x y → is_handled x ≡ true → is_handled y ≡ true
life_handled s l from bytes took c b x y (steps.lives_on is) has = ap is_handled is ∙ has
life_handled s l from bytes took c b x y (steps.is_stopped code stops is) has =
    ap is_handled is ∙ code_keeps code x has
life_handled s l from bytes took c b x y (steps.is_busy busy is) has =
    ap is_handled is ∙ code_keeps RX_CALL_DEAD x has
life_handled s l from bytes took c b x y (steps.is_followed later is) has = ap is_handled is ∙ later_handled x has
life_handled s l from bytes took c b x y (steps.is_acked m judges is) has =
    ap is_handled is ∙ acks_handled (is_delivered b) x has
life_handled s l from bytes took c b x y (steps.is_silent got silence event is) has = absurd (cc (event))
life_handled s l from bytes took c b x y (steps.accepted event is) has = absurd (cc (event))
life_handled s l from bytes took c b x y (steps.finished code event is) has = absurd (cc (event))
life_handled s l from bytes took c b x y (steps.gone code told event is) has = absurd (cc (event))
life_handled s l from bytes took c b x y (steps.read_out most got bytes_ event is) has = absurd (cc (event))
life_handled s l from bytes took c b x y (steps.cancelled code event is) has = absurd (cc (event))

-- ---- datagrams that are delivered to a server

-- a call that is there with a life of this kind
pub record LivesSo (Such : Life → Type 0) (o : Option CallRecord) : Type 0 where
  pub call : CallRecord
  pub there : o ≡ Some call
  pub such : Such call.life

call_goes : (s : Setup) (l : Looks) (from : Host) (bytes : List ℕ) (took : Took) (c : CallName) (a : CallRecord)
    (o : Option CallRecord) (Such : Life → Type 0)
    → ((b : CallRecord) → LifeStep s l (events.Taken from bytes took) c b.looks a.life b.life → Such b.life)
    → NoneAnew s l (events.Taken from bytes took) c (Some a)
    → CallStep s l (events.Taken from bytes took) c (Some a) o → LivesSo Such o
call_goes s l from bytes took c a None Such of anew step = absurd step
call_goes s l from bytes took c a (Some b) Such of anew (inl goes) =
    record { call = b; there = refl; such = of b goes.life }
call_goes s l from bytes took c a (Some b) Such of anew (inr starts) =
    absurd (let no : ◌≡◌ {A = Option CallRecord} (Some a) None = anew b starts in cc (no))

-- data that such a node takes as of this call's channel is the call's
abbrev pub IsCalm : Node → CallName → Datagram → Type 0
IsCalm n c d =
    (l : Looks) (m : Message) → d.to ≡ n.host → reading_of d.bytes ≡ Ok m
    → outer_row n.setup n.setup.kind l d.from m ≡ None → channel_of (named n.setup d.from m) ≡ channel_of c
    → is_data m.body ≡ true → named n.setup d.from m ≡ c

module _ (n : Node) (c : CallName) (fits : FitsSetup n.setup) (serves : IsServer n.setup.kind) where
  abbrev at_stage : Stage → Looks
  at_stage u = looks n.setup (side 0 u.history)

  -- what comes of one of them for a call that is there
  one_goes : (d : Datagram) (s t : Stage) → slice_get s.nodes 0 ≡ Some n → DeliveredBy d s t
      → Legal n.setup (side 0 t.history) → StartsOnce n.setup (side 0 t.history) c → (a : CallRecord)
      → call_at (at_stage s) c ≡ Some a → (Such : Life → Type 0) → Such a.life
      → ((b : CallRecord) → LifeStep n.setup (at_stage s) (takes_from n.setup d (at_stage s)) c b.looks a.life b.life
      → Such b.life) → LivesSo Such (call_at (at_stage t) c)
  one_goes d s t there f legal once a at Such here of = by (same_host d.to n.host) refl
    where
      e : Event
      e = takes_from n.setup d (at_stage s)

      taken : side 0 t.history ≡ e ∷ side 0 s.history → LivesSo Such (call_at (at_stage t) c)
      taken own =
          (let legal_ : Legal n.setup (e ∷ side 0 s.history) = subst (Legal n.setup) own legal in
          let once_ : StartsOnce n.setup (e ∷ side 0 s.history) c =
          subst (λ (es : List Event). StartsOnce n.setup es c) own once in
          let none : NoneAnew n.setup (at_stage s) e c (Some a) =
          subst (NoneAnew n.setup (at_stage s) e c) at
          (none_anew n.setup e (side 0 s.history) c fits legal_ (inr (serves, once_))) in
          let step : CallStep n.setup (at_stage s) e c (Some a) (call_at (looks n.setup (e ∷ side 0 s.history)) c) =
          subst (λ (o : Option CallRecord). CallStep n.setup (at_stage s) e c o
          (call_at (looks n.setup (e ∷ side 0 s.history)) c)) at (each_step n.setup (side 0 s.history) e c fits legal_)
          in
          subst (λ (es : List Event). LivesSo Such (call_at (looks n.setup es) c)) (sym own)
          (call_goes n.setup (at_stage s) d.from d.bytes (took_of n.setup (at_stage s) d.from d.bytes) c a
          (call_at (looks n.setup (e ∷ side 0 s.history)) c) Such of none step))

      by : (b : Bool) → same_host d.to n.host ≡ b → LivesSo Such (call_at (at_stage t) c)
      by true is = taken ((f.comes 0 n there).takes is).own
      by false is =
          record {
            call = a;
            there =
                ap (λ (es : List Event). call_at (looks n.setup es) c) ((f.comes 0 n there).passes is) ∙ at;
            such = here;
          }

  -- a call at work keeps its life, or isn't at work behind them
  abbrev pub Works : Life → Life → Type 0
  Works x y = (y ≡ x) ⊎ (is_active y ≡ false)

  pub work_left : (ds : List Datagram) (s t : Stage) → slice_get s.nodes 0 ≡ Some n → Made (each delivers ds) s t
      → Legal n.setup (side 0 t.history) → StartsOnce n.setup (side 0 t.history) c → (a : CallRecord)
      → call_at (at_stage s) c ≡ Some a → LivesSo (Works a.life) (call_at (at_stage t) c)
  work_left [] s t there made legal once a at =
      record {
        call = a;
        there = ap (λ (u : Stage). call_at (at_stage u) c) (delivers_none s t made) ∙ at;
        such = inl refl;
      }
  work_left (d ∷ ds) s t there made legal once a at =
      (let f = delivers_first d ds s t made in
      let o = one_goes d s f.between there f.first (legal_then n c fits serves f.between t ds f.others legal)
      (once_then n c fits serves f.between t ds f.others once) a at (Works a.life) (inl refl)
      (λ b step. life_work n.setup (at_stage s) d.from d.bytes (took_of n.setup (at_stage s) d.from d.bytes) c b.looks
      a.life b.life step) in
      by f.between o (ap (λ (u : Stage). slice_get u.nodes 0) f.first.rest ∙ there) f.others
      (λ there_. work_left ds f.between t there_ f.others legal once o.call o.there))
    where
      by : (u : Stage) (o : LivesSo (Works a.life) (call_at (at_stage u) c)) → slice_get u.nodes 0 ≡ Some n
          → Made (each delivers ds) u t
          → (slice_get u.nodes 0 ≡ Some n → LivesSo (Works o.call.life) (call_at (at_stage t) c))
          → LivesSo (Works a.life) (call_at (at_stage t) c)
      by u o there_ others onward = of o.such
        where
          of : Works a.life o.call.life → LivesSo (Works a.life) (call_at (at_stage t) c)
          of (inl same) =
              (let r = onward there_ in
              record {
                call = r.call;
                there = r.there;
                such = subst (λ (x : Life). Works x r.call.life) same r.such;
              })
          of (inr idle) =
              (let r = idle_left n c fits serves ds u t there_ others legal once o.call o.there idle in
              record {
                call = r.lives_as.call;
                there = r.lives_as.there;
                such = inr (ap is_active r.lives_as.life_is ∙ idle);
              })

-- ---- a channel whose call a handler has

module _ (n : Node) (c : CallName) (fits : FitsSetup n.setup) (serves : IsServer n.setup.kind) (d : CallName)
    (on : channel_of d ≡ channel_of c) where
  abbrev looks_at : Stage → Looks
  looks_at u = looks n.setup (side 0 u.history)

  abbrev Handled : Life → Type 0
  Handled x = is_handled x ≡ true

  pub record HandledLeft (s t : Stage) : Type 0 where
    pub handled : LivesSo Handled (call_at (looks_at t) d)
    pub holds : HoldsOwed (OwesBusy c.number) d (looks_at s) (looks_at t)

  -- a message that owes its channel a BUSY is data
  busy_data : (l : Looks) (from : Host) (bytes : List ℕ) (m : Message) → reading_of bytes ≡ Ok m
      → outer_row n.setup n.setup.kind l from m ≡ None → is_busy (took_of n.setup l from bytes) ≡ true
      → is_data m.body ≡ true
  busy_data l from bytes m reads front busy =
      (let e : CallName = named n.setup from m in
      let row = row_named n.setup l from bytes (took_of n.setup l from bytes) m refl reads front in
      let crowds = side_crowds n.setup.kind (facts_of n.setup l e m) (own_row n.setup (opened n.setup e l) e m)
      (row_calm n.setup (opened n.setup e l) (call_at (opened n.setup e l) e) m) (ap is_busy row ∙ busy) in
      (both (is_data m.body) _ crowds.starts).0)

  busy_of : (got : Took) → (got ≡ tooks.Busy) ⊎ (got ≡ tooks.NoRoom) → is_busy got ≡ true
  busy_of got (inl is) = ap is_busy is
  busy_of got (inr is) = ap is_busy is

  one_left : (x : Datagram) (s t : Stage) → slice_get s.nodes 0 ≡ Some n → DeliveredBy x s t → IsCalm n c x
      → Legal n.setup (side 0 t.history) → StartsOnce n.setup (side 0 t.history) d
      → LivesSo Handled (call_at (looks_at s) d) → HandledLeft s t
  one_left x s t there f calm legal once a =
      record {
        handled =
            one_goes n d fits serves x s t there f legal once a.call a.there Handled a.such
            (λ b step. life_handled n.setup (looks_at s) x.from x.bytes (took_of n.setup (looks_at s) x.from x.bytes) d
            b.looks a.call.life b.life step a.such);
        holds = by (same_host x.to n.host) refl;
      }
    where
      e : Event
      e = takes_from n.setup x (looks_at s)

      taken : same_host x.to n.host ≡ true → side 0 t.history ≡ e ∷ side 0 s.history
          → HoldsOwed (OwesBusy c.number) d (looks_at s) (looks_at t)
      taken comes own =
          (let legal_ : Legal n.setup (e ∷ side 0 s.history) = subst (Legal n.setup) own legal in
          let once_ : StartsOnce n.setup (e ∷ side 0 s.history) d =
          subst (λ (es : List Event). StartsOnce n.setup es d) own once in
          subst (λ (es : List Event). HoldsOwed (OwesBusy c.number) d (looks_at s) (looks n.setup es)) (sym own)
          (holds_taken (OwesBusy c.number) (busy_stays c.number) d
          (some_number n.setup (side 0 s.history) d a.call fits legal_.1 a.there) n.setup (looks_at s) x.from x.bytes
          (took_of n.setup (looks_at s) x.from x.bytes) (ap (λ (o : Option CallRecord). is_some o) a.there) once_.0
          (λ m reads front own_channel why q is.
          ap (λ (k : CallName). Some k.number)
          (calm (looks_at s) m (host_is x.to n.host comes) reads front (own_channel ∙ on)
          (busy_data (looks_at s) x.from x.bytes m reads front
          (busy_of (took_of n.setup (looks_at s) x.from x.bytes) why))))))

      by : (b : Bool) → same_host x.to n.host ≡ b → HoldsOwed (OwesBusy c.number) d (looks_at s) (looks_at t)
      by true is = taken is ((f.comes 0 n there).takes is).own
      by false is =
          (let same : looks_at t ≡ looks_at s = ap (looks n.setup) ((f.comes 0 n there).passes is) in
          holds_same (OwesBusy c.number) d (looks_at s) (looks_at t)
          (ap (λ (l : Looks). channel_at l (channel_of d)) same))

  all_left : (ds : List Datagram) (s t : Stage) → slice_get s.nodes 0 ≡ Some n → Made (each delivers ds) s t
      → Every (IsCalm n c) ds → Legal n.setup (side 0 t.history) → StartsOnce n.setup (side 0 t.history) d
      → LivesSo Handled (call_at (looks_at s) d) → HandledLeft s t
  all_left [] s t there made calm legal once a =
      (let same : looks_at t ≡ looks_at s = ap looks_at (delivers_none s t made) in
      record {
        handled = record {
          call = a.call;
          there = ap (λ (l : Looks). call_at l d) same ∙ a.there;
          such = a.such;
        };
        holds =
            holds_same (OwesBusy c.number) d (looks_at s) (looks_at t)
            (ap (λ (l : Looks). channel_at l (channel_of d)) same);
      })
  all_left (x ∷ ds) s t there made calm legal once a =
      (let f = delivers_first x ds s t made in
      let o = one_left x s f.between there f.first calm.0 (legal_then n d fits serves f.between t ds f.others legal)
      (once_then n d fits serves f.between t ds f.others once) a in
      let r = all_left ds f.between t (ap (λ (u : Stage). slice_get u.nodes 0) f.first.rest ∙ there) f.others calm.1
      legal once o.handled in
      record {
        handled = r.handled;
        holds = holds_then (OwesBusy c.number) d (looks_at s) (looks_at f.between) (looks_at t) o.holds r.holds;
      })

  -- a BUSY of this call that its channel owes is owed behind them
  pub busy_left : (ds : List Datagram) (s t : Stage) → slice_get s.nodes 0 ≡ Some n → Made (each delivers ds) s t
      → Every (IsCalm n c) ds → Legal n.setup (side 0 t.history) → StartsOnce n.setup (side 0 t.history) d
      → LivesSo Handled (call_at (looks_at s) d)
      → (channel_at (looks_at s) (channel_of c)).owed_busy ≡ Some c.number
      → (channel_at (looks_at t) (channel_of c)).owed_busy ≡ Some c.number
  busy_left ds s t there made calm legal once a owes =
      (let r = all_left ds s t there made calm legal once a in
      let last = live_last n.setup (side 0 t.history) d r.handled.call fits legal r.handled.there
      (handled_live r.handled.call.life r.handled.such) in
      ap (λ (ch : Channel). (channel_at (looks_at t) ch).owed_busy) (sym on)
      ∙ r.holds.owes last.number (ap (λ (ch : Channel). (channel_at (looks_at s) ch).owed_busy) on ∙ owes))
