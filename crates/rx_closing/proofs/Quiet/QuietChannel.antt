-- The channel of a call that is active owes nothing of it: a BUSY alone, of a later number. So the node owes nothing of
-- the call but of its stream.
use Rattle.std.proofs.Common.{◌≡◌, ◌⊎◌, cond, ℕ, Bool, true, List, [], ◌∷◌, Option, Some, None, refl, inl, inr, ap, sym}
use Rattle.std.proofs.Common.{subst, ◌∙◌}
use Rattle.rx_model.specs.declared.answers.Took.{Took}
use Rattle.rx_model.specs.declared.answers.Took.TheVariants as tooks
use Rattle.rx_model.specs.declared.event.Event.{Event}
use Rattle.rx_model.specs.declared.names.CallName.{CallName}
use Rattle.rx_model.specs.Names.{channel_of, connection_of, same_connection}
use Rattle.rx_rules.specs.After.{after, looks, prepared, taken_with}
use Rattle.rx_rules.specs.Judging.{opened}
use Rattle.rx_rules.specs.Life.{is_active}
use Rattle.rx_rules.specs.Looks.{CallRecord, ConnLooks, Looks, call_at, channel_at}
use Rattle.rx_rules.specs.Records.{started_later}
use Rattle.rx_rules.specs.Rules.{Legal}
use Rattle.rx_rules.specs.Setup.{FitsSetup, Setup}
use Rattle.rx_rules.proofs.EveryLaws.{Every}
use Rattle.rx_history.proofs.Differ.{every_found}
use Rattle.rx_history.proofs.OwnChannels.{channel_has}
use Rattle.rx_between.proofs.Each.EachStep.{Starts, is_start}
use Rattle.rx_plan.proofs.ChannelsHold.{channel_here}
use Rattle.rx_closing.proofs.Messages.Judged.{taken_by}
use Rattle.rx_closing.proofs.Messages.Lasts.{some_number}
use Rattle.rx_closing.proofs.Owing.ChannelsStay.{IsMute}
use Rattle.rx_closing.proofs.Owing.OutOwesNone.{IsUnasked, never_asked}
use Rattle.rx_closing.proofs.Owing.OwesNone.{OwesNone, none_owed}
use Rattle.rx_closing.proofs.Polls.Polled.{IsHushed, QuietBut}
use Rattle.rx_closing.proofs.Quiet.ActiveSteps.{active_or_starts}
use Rattle.rx_closing.proofs.Quiet.QuietEvents.{event_leaves}
use Rattle.rx_closing.proofs.Quiet.QuietSteps.{Hold, Hushes, HushesAt, hold_after, hold_data, hushes_fresh}
use Rattle.rx_closing.proofs.Quiet.QuietSteps.{started_holds}

-- ---- a call that starts

start_holds : (s : Setup) (l : Looks) (e : Event) (c : CallName) (r : CallRecord) → Starts s l e c r
    → Hold c (after s e l).conns
start_holds s l e c r (name, inl o) = by o.takes.got refl o.starts
  where
    ready : Looks
    ready = prepared s o.takes.got (connection_of c) l

    opens : Hold c (opened s c ready).conns
    opens =
        subst (λ (b : Bool). Hold c (cond b (started_later s c ready) ready).conns) (sym o.above)
        (started_holds c c.number ready.conns)

    behind : after s e l ≡ taken_with s o.takes.got c o.takes.message ready
    behind =
        ap (λ (f : Event). after s f l) o.takes.judges.is
        ∙ taken_by s l c o.takes.judges.from o.takes.judges.bytes o.takes.message o.takes.got o.takes.judges.reads
        o.takes.judges.front o.takes.judges.name

    by : (g : Took) → o.takes.got ≡ g → is_start o.takes.got ≡ true → Hold c (after s e l).conns
    by g same starts =
        subst (λ (n : Looks). Hold c n.conns)
        (sym (behind ∙ ap (λ (t : Took). taken_with s t c o.takes.message ready) same))
        (of g (sym (ap is_start same) ∙ starts))
      where
        of : (t : Took) → is_start t ≡ true → Hold c (taken_with s t c o.takes.message ready).conns
        of tooks.Kept is = hold_data c s tooks.Kept c o.takes.message (opened s c ready) opens
        of tooks.NoSlot is = hold_data c s tooks.NoSlot c o.takes.message (opened s c ready) opens
        of _ is = absurd cc
start_holds s l e c r (name, inr m) =
    subst (λ (f : Event). Hold c (after s f l).conns) (sym m.event) (started_holds c c.number l.conns)

-- ---- any history

quiet_holds : (s : Setup) (h : List Event) (c : CallName) (r : CallRecord) → FitsSetup s → IsMute s.class → Legal s h
    → call_at (looks s h) c ≡ Some r → is_active r.life ≡ true → Hold c (looks s h).conns
quiet_holds s [] c r fits mute legal there active = absurd cc
quiet_holds s (e ∷ h) c r fits mute legal there active =
    of (active_or_starts s h e c r fits legal there active)
    (λ q at works. quiet_holds s h c q fits mute legal.1 at works)
  where
    of : ((q : CallRecord) × (call_at (looks s h) c ≡ Some q) × (is_active q.life ≡ true)) ⊎ Starts s (looks s h) e c r
        → ((q : CallRecord) → call_at (looks s h) c ≡ Some q → is_active q.life ≡ true → Hold c (looks s h).conns)
        → Hold c (after s e (looks s h)).conns
    of (inl q) before =
        hold_after c s (looks s h) e (event_leaves s mute fits c h legal.1 q.0 q.1 q.2 e r legal.0 there active)
        (before q.0 q.1 q.2)
    of (inr starts) before = start_holds s (looks s h) e c r starts

-- the channel of an active call owes nothing of it
pub quiet_channel : (s : Setup) (h : List Event) (c : CallName) (r : CallRecord) → FitsSetup s → IsMute s.class
    → Legal s h → call_at (looks s h) c ≡ Some r → is_active r.life ≡ true
    → QuietBut c (channel_at (looks s h) (channel_of c))
quiet_channel s h c r fits mute legal there active =
    let here : Hushes c (channel_at (looks s h) (channel_of c)) =
    (channel_here (HushesAt c) (looks s h) (channel_of c) (λ order same. hushes_fresh c 0)
    (quiet_holds s h c r fits mute legal there active)).1 refl in
    let asks : IsUnasked (channel_at (looks s h) (channel_of c)) =
    channel_has IsUnasked (looks s h) (channel_of c) (record { challenge = refl; response = refl })
    (λ q found. every_found (λ (p : ConnLooks). Every IsUnasked p.channels)
    (λ (p : ConnLooks). same_connection p.connection (connection_of c)) (looks s h).conns q (never_asked s mute h)
    found) in
    record {
      abort = here.abort;
      ackall = here.ackall;
      challenge = asks.challenge;
      response = asks.response;
      busy = here.busy;
    }

-- so its node owes nothing of it but of its stream
pub hushed_call : (s : Setup) (h : List Event) (c : CallName) (r : CallRecord) → FitsSetup s → IsMute s.class
    → Legal s h → call_at (looks s h) c ≡ Some r → is_active r.life ≡ true → IsHushed c (looks s h)
hushed_call s h c r fits mute legal there active =
    record {
      strays = inr (some_number s h c r fits legal there);
      channel = quiet_channel s h c r fits mute legal there active;
    }

-- one that owes nothing at all owes nothing of any call
pub hushed_none : (c : CallName) (l : Looks) → OwesNone l → IsHushed c l
hushed_none c l o =
    (let q = none_owed l (channel_of c) o in
    record {
      strays = inl o.strays;
      channel = record {
        abort = q.abort;
        ackall = q.ackall;
        challenge = q.challenge;
        response = q.response;
        busy = λ n is. absurd (let no : ◌≡◌ {A = Option ℕ} None (Some n) = sym q.busy ∙ is in cc (no));
      };
    })
