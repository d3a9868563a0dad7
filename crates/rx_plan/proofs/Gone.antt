-- A handler that was told that its call broke can't finish it well.
use Rattle.std.proofs.Common.{◌≡◌, ◌||◌, cond, not, ℕ, ℤ, Bool, true, false, List, [], ◌∷◌, min, Option}
use Rattle.std.proofs.Common.{Some, None, Result, Ok, Err, refl, ap, sym, subst}
use Rattle.rx_model.specs.declared.answers.CallRead.{CallRead}
use Rattle.rx_model.specs.declared.answers.CallRead.TheVariants as callreads
use Rattle.rx_model.specs.declared.answers.ReadGot.TheVariants as readers
use Rattle.rx_model.specs.declared.answers.ServeRead.{ServeRead}
use Rattle.rx_model.specs.declared.answers.ServeRead.TheVariants as reads
use Rattle.rx_model.specs.declared.answers.ServeRefused.{ServeRefused}
use Rattle.rx_model.specs.declared.answers.ServeRefused.TheVariants as refusals
use Rattle.rx_model.specs.declared.answers.WroteGot.TheVariants as writers
use Rattle.rx_model.specs.declared.event.Event.{Event}
use Rattle.rx_model.specs.declared.event.Event.TheVariants as events
use Rattle.rx_model.specs.declared.names.CallName.{CallName}
use Rattle.rx_model.proofs.NameLaws.{name_is}
use Rattle.rx_rules.specs.After.{acknowledged, after, is_end, is_zero, looks}
use Rattle.rx_rules.specs.CallLooks.{CallLooks, after_read, after_write}
use Rattle.rx_rules.specs.Life.{Life, after_end, is_active}
use Rattle.rx_rules.specs.Life as lives
use Rattle.rx_rules.specs.Looks.{CallRecord, Looks, call_at, on_looks}
use Rattle.rx_rules.specs.Received.{read_of}
use Rattle.rx_rules.specs.Rules.{AllowedServer, Legal, served_by, served_finish, served_read, served_read_by}
use Rattle.rx_rules.specs.Rules.{served_read_got, served_write}
use Rattle.rx_rules.specs.Setup.{Setup, IsServer}
use Rattle.rx_rules.specs.Slots.{room}
use Rattle.rx_history.specs.Starts.{StartsNew, StartsOnce}
use Rattle.rx_history.proofs.Laws.OnceLaw.{served}
use Rattle.rx_jobs.specs.History.{gives, handles, life_of}
use Rattle.rx_jobs.specs.Lives.{has_gone, tells_gone}
use Rattle.rx_history.proofs.LifeFalls.{Falls, end_falls}
use Rattle.rx_plan.proofs.Passed.{none_passed, passed_in}
use Rattle.rx_plan.proofs.Holding.{holds-on_call, holds-on_life, holds_after}
use Rattle.rx_plan.proofs.Passing.{starts_anew}

-- ---- a call that is no more active

-- a call that broke or is over
abbrev pub IsPast : Option CallRecord → Type 0
IsPast None = ⊥
IsPast (Some k) = is_active k.life ≡ false

on_streams : (k : CallRecord) (new : CallLooks) → passed_in new ≡ passed_in k.looks → IsPast (Some k)
    → IsPast (Some (record k { looks = new }))
on_streams k new same past = past

fell : (old new : Bool) → (new ≡ true → old ≡ true) → old ≡ false → new ≡ false
fell old true falls past = cc (falls refl, past)
fell old false falls past = refl

on_lives : (k : CallRecord) (life : Life) → Falls k.life life → IsPast (Some k)
    → IsPast (Some (record k { life = life }))
on_lives k life falls past = fell (is_active k.life) (is_active life) falls.active past

on_start : (k : CallRecord) → passed_in k.looks ≡ none_passed → IsPast None → IsPast (Some k)
on_start k fresh past = absurd past

-- no event makes it active again
past_after : (s : Setup) (l : Looks) (c : CallName) (e : Event) → AllowedServer s l e → StartsNew s l e c
    → IsPast (call_at l c) → IsPast (call_at (after s e l) c)
past_after s l c (events.HasRead d max got bytes) allowed new past =
    let end : Bool = is_end got in
    let ready : Looks = acknowledged end d l in
    holds-on_life IsPast on_streams on_lives on_start c d (after_end end)
    (on_looks d (after_read l.now end bytes) ready) (end_falls end)
    (holds-on_call IsPast on_streams on_lives on_start c d
    (λ k. record k { looks = after_read l.now end bytes k.looks }) ready (λ k. refl) (λ k here. here) past)
past_after s l c (events.Wrote d offered got bytes) allowed new past =
    holds-on_call IsPast on_streams on_lives on_start c d (λ k. record k { looks = after_write bytes k.looks }) l
    (λ k. refl) (λ k here. here) past
past_after s l c (events.Taken from bytes got) allowed new past =
    holds_after IsPast on_streams on_lives on_start s l c (events.Taken from bytes got) allowed tt
    (starts_anew s l c (events.Taken from bytes got) new) past
past_after s l c (events.Accepted got) allowed new past =
    holds_after IsPast on_streams on_lives on_start s l c (events.Accepted got) allowed tt tt past
past_after s l c (events.Finished d code got) allowed new past =
    holds_after IsPast on_streams on_lives on_start s l c (events.Finished d code got) allowed tt tt past
past_after s l c (events.Polled got) allowed new past =
    holds_after IsPast on_streams on_lives on_start s l c (events.Polled got) allowed tt tt past
past_after s l c (events.Clocked now) allowed new past =
    holds_after IsPast on_streams on_lives on_start s l c (events.Clocked now) allowed tt tt past
past_after s l c (events.Linked to service first got) allowed new past = absurd allowed
past_after s l c (events.Called cid got) allowed new past = absurd allowed
past_after s l c (events.Shut d got) allowed new past = absurd allowed
past_after s l c (events.Ended d got) allowed new past = absurd allowed
past_after s l c (events.Cancelled d code got) allowed new past = absurd allowed

-- ---- who is told Gone

got_gone : (got : CallRead) (code : ℤ) → reads.Gone code ≡ served_read_got got → ⊥
got_gone (callreads.Got n) code is = absurd cc
got_gone callreads.End code is = absurd cc
got_gone callreads.NotYet code is = absurd cc

read_gone : (o : Option CallRecord) (max : ℕ) (code : ℤ) (came : List ℕ)
    → ◌≡◌ {A = ServeRead × List ℕ} (reads.Gone code, came) (served_read o max) → IsPast o
read_gone None max code came is =
    absurd (let no : reads.Gone code ≡ reads.NotOpen = ap (λ (x : ServeRead × List ℕ). x.0) is in cc)
read_gone (Some k) max code came is = of k.life (ap (λ (x : ServeRead × List ℕ). x.0) is)
  where
    of : (life : Life) → reads.Gone code ≡ (served_read_by life (read_of k.looks.received max)).0
        → is_active life ≡ false
    of lives.Accepted is = absurd (got_gone (read_of k.looks.received max).0 code is)
    of (lives.Broken told) is = refl
    of lives.Calling is = absurd cc
    of (lives.Ended end) is = refl
    of lives.Waiting is = absurd cc
    of lives.Finished is = absurd cc
    of (lives.Over told) is = refl

wrote_gone : (s : Setup) (l : Looks) (o : Option CallRecord) (offered : ℕ) (code : ℤ)
    → ◌≡◌ {A = Result ℕ ServeRefused} (Err (refusals.Gone code)) (served_write s l o offered) → IsPast o
wrote_gone s l None offered code is = absurd cc
wrote_gone s l (Some k) offered code is = of k.life k.looks.received.ended is
  where
    of : (life : Life) (ended : Bool)
        → ◌≡◌ {A = Result ℕ ServeRefused} (Err (refusals.Gone code))
        (served_by life ended (min offered (room s l k.looks)))
        → is_active life ≡ false
    of lives.Accepted true is = absurd cc
    of lives.Accepted false is = absurd cc
    of (lives.Broken told) ended is = refl
    of lives.Calling ended is = absurd cc
    of (lives.Ended end) ended is = refl
    of lives.Waiting ended is = absurd cc
    of lives.Finished ended is = absurd cc
    of (lives.Over told) ended is = refl

-- the call of which an event tells so is past
told_past : (s : Setup) (l : Looks) (c : CallName) (e : Event) → AllowedServer s l e → handles c e ≡ true
    → tells_gone e ≡ true → IsPast (call_at l c)
told_past s l c (events.HasRead d max (readers.Server (reads.Gone code)) came) allowed on tells =
    subst (λ (n : CallName). IsPast (call_at l n)) (sym (name_is c d on))
    (read_gone (call_at l d) max code came allowed.1)
told_past s l c (events.Wrote d offered (writers.Server (Err (refusals.Gone code))) came) allowed on tells =
    subst (λ (n : CallName). IsPast (call_at l n)) (sym (name_is c d on))
    (wrote_gone s l (call_at l d) offered code allowed.0)
told_past s l c _ allowed on tells = absurd cc

-- a call whose handler was told so stays past
pub gone_past : (s : Setup) (h : List Event) (c : CallName) → IsServer s.kind → Legal s h → StartsOnce s h c
    → has_gone (life_of c h) ≡ true → IsPast (call_at (looks s h) c)
gone_past s [] c server legal once gone = absurd cc
gone_past s (e ∷ h) c server legal once gone =
    by (gives c e) (handles c e) refl refl gone (gone_past s h c server legal.1 once.1)
  where
    allowed : AllowedServer s (looks s h) e
    allowed = served s.kind s (looks s h) e server legal.0

    told : (b : Bool) → tells_gone e ≡ b → handles c e ≡ true → (b || has_gone (life_of c h)) ≡ true
        → (has_gone (life_of c h) ≡ true → IsPast (call_at (looks s h) c)) → IsPast (call_at (looks s h) c)
    told true is on gone before = told_past s (looks s h) c e allowed on is
    told false is on gone before = before gone

    by : (given on : Bool) → gives c e ≡ given → handles c e ≡ on
        → has_gone (cond given [] (cond on (e ∷ life_of c h) (life_of c h))) ≡ true
        → (has_gone (life_of c h) ≡ true → IsPast (call_at (looks s h) c))
        → IsPast (call_at (looks s (e ∷ h)) c)
    by true on is_given is_on gone before = absurd cc
    by false true is_given is_on gone before =
        past_after s (looks s h) c e allowed once.0 (told (tells_gone e) refl is_on gone before)
    by false false is_given is_on gone before = past_after s (looks s h) c e allowed once.0 (before gone)

-- and isn't finished well
pub past_unfinished : (o : Option CallRecord) (code : ℤ) → IsPast o
    → ◌≡◌ {A = Result (Unit {0}) ServeRefused} (Ok tt) (served_finish o code) → ⊥
past_unfinished None code past is = past
past_unfinished (Some k) code past is = of k.life (k.looks.received.ended || not (is_zero code)) past is
  where
    of : (life : Life) (ended : Bool) → is_active life ≡ false
        → ◌≡◌ {A = Result (Unit {0}) ServeRefused} (Ok tt) (served_by life ended tt) → ⊥
    of lives.Accepted ended past is = absurd cc
    of (lives.Broken told) ended past is = absurd cc
    of lives.Calling ended past is = absurd cc
    of (lives.Ended end) ended past is = absurd cc
    of lives.Waiting ended past is = absurd cc
    of lives.Finished ended past is = absurd cc
    of (lives.Over told) ended past is = absurd cc
