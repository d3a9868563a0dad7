-- What the look-ups say of the bytes said and read of a server's call is what its life's events tell.
use Rattle.std.proofs.Common.{◌≡◌, ◌++◌, ◌||◌, cond, nat_lt, ℕ, Bool, true, false, List, [], ◌∷◌}
use Rattle.std.proofs.Common.{Option, Some, None, option_map, Result, Ok, Err, refl, ◌∙◌, ap, sym, subst}
use Rattle.std.proofs.Common.{append-nil}
use Rattle.std.specs.List.{find}
use Rattle.rx_model.specs.declared.answers.BadMsg.{BadMsg}
use Rattle.rx_model.specs.declared.answers.ReadGot.TheVariants as readers
use Rattle.rx_model.specs.declared.answers.ServeRead.{ServeRead}
use Rattle.rx_model.specs.declared.answers.ServeRead.TheVariants as reads
use Rattle.rx_model.specs.declared.answers.ServeRefused.{ServeRefused}
use Rattle.rx_model.specs.declared.answers.Took.{Took}
use Rattle.rx_model.specs.declared.answers.Took.TheVariants as tooks
use Rattle.rx_model.specs.declared.answers.WroteGot.TheVariants as writers
use Rattle.rx_model.specs.declared.event.Event.{Event}
use Rattle.rx_model.specs.declared.event.Event.TheVariants as events
use Rattle.rx_model.specs.declared.names.CallName.{CallName}
use Rattle.rx_model.specs.declared.names.Host.{Host}
use Rattle.rx_model.specs.Message.{Message}
use Rattle.rx_model.specs.Names.{channel_of, connection_of, same_name}
use Rattle.rx_model.specs.Reading.{reading_of}
use Rattle.rx_model.proofs.NameLaws.{name_is, name_itself}
use Rattle.rx_rules.specs.After.{acknowledged, after, is_end, looks, prepared}
use Rattle.rx_rules.specs.CallLooks.{after_read, after_write}
use Rattle.rx_rules.specs.Judging.{outer_row}
use Rattle.rx_rules.specs.Life.{Life, after_end}
use Rattle.rx_rules.specs.Life as lives
use Rattle.rx_rules.specs.Looks.{CallRecord, Looks, call_at, channel_at, on_call, on_looks}
use Rattle.rx_rules.specs.Received.{read_from, read_of}
use Rattle.rx_rules.specs.Rules.{AllowedServer, HasBytes, Legal, served_read, served_read_by}
use Rattle.rx_rules.specs.Rules.{served_read_got, served_write}
use Rattle.rx_rules.specs.Setup.{Setup, IsServer, named}
use Rattle.rx_rules.proofs.CallsLaws.{KeepsNames}
use Rattle.rx_history.specs.Starts.{StartsBy, StartsNew, StartsOnce}
use Rattle.rx_history.proofs.Calls.{call-changed}
use Rattle.rx_history.proofs.Laws.OnceLaw.{served}
use Rattle.rx_jobs.specs.History.{gives, handles, life_of}
use Rattle.rx_jobs.specs.Lives.{bytes_read, bytes_written, has_end, read_by, tells_end, written_by}
use Rattle.rx_plan.proofs.Passed.{LeavesStreams, Passed, StartsAnew, StartsAnewAt, StartsAnewBy, StartsAnewOf}
use Rattle.rx_plan.proofs.Passed.{passed_of}
use Rattle.rx_plan.proofs.Holding.{holds_after}
use Rattle.rx_history.proofs.Events.{calls-prepared}

-- ---- a call starts only where it has no record

module _ (s : Setup) (l : Looks) (c : CallName) where
  anew-by : (from : Host) (bytes : List ℕ) (got : Took) (m : Message) → StartsBy s l from bytes c got
      → reading_of bytes ≡ Ok m → outer_row s s.kind l from m ≡ None
      → StartsAnew c (named s from m) (prepared s got (connection_of (named s from m)) l)
  anew-by from bytes got m new reads front same above =
      let is : c ≡ named s from m = name_is c (named s from m) same in
      let mine : nat_lt (channel_at (prepared s got (connection_of c) l) (channel_of c)).number c.number ≡ true =
      subst (λ (n : CallName). nat_lt (channel_at (prepared s got (connection_of n) l) (channel_of n)).number n.number
      ≡ true) (sym is) above in
      ap (λ (ks : List CallRecord). find (λ k. same_name k.name c) ks)
      (calls-prepared s got (connection_of (named s from m)) l) ∙ new m reads front (sym is) mine

  anew-taken : (from : Host) (bytes : List ℕ) (got : Took) (m : Message) → StartsNew s l (events.Taken from bytes got) c
      → reading_of bytes ≡ Ok m → outer_row s s.kind l from m ≡ None
      → StartsAnewBy got c (named s from m) (prepared s got (connection_of (named s from m)) l)
  anew-taken from bytes tooks.Kept m new reads front = anew-by from bytes tooks.Kept m new reads front
  anew-taken from bytes tooks.NoSlot m new reads front = anew-by from bytes tooks.NoSlot m new reads front
  anew-taken from bytes _ m new reads front = tt

  anew-read : (from : Host) (bytes : List ℕ) (got : Took) (reading : Result Message BadMsg)
      → StartsNew s l (events.Taken from bytes got) c → reading_of bytes ≡ reading
      → StartsAnewOf s l from reading got c
  anew-read from bytes got (Err bad) new reads = tt
  anew-read from bytes got (Ok m) new reads = anew-taken from bytes got m new reads

  pub starts_anew : (e : Event) → StartsNew s l e c → StartsAnewAt s l c e
  starts_anew (events.Taken from bytes got) new = anew-read from bytes got (reading_of bytes) new refl
  starts_anew _ new = tt

-- ---- what a read or a write brings

-- the bytes of a read that was answered Got
abbrev got_bytes : ServeRead → List ℕ → List ℕ
got_bytes (reads.Got n) came = came
got_bytes _ came = []

read_is : (c : CallName) (max : ℕ) (got : ServeRead) (came : List ℕ)
    → read_by (events.HasRead c max (readers.Server got) came) ≡ got_bytes got came
read_is c max (reads.Got n) came = refl
read_is c max reads.End came = refl
read_is c max reads.NotYet came = refl
read_is c max (reads.Gone code) came = refl
read_is c max reads.NotOpen came = refl

-- another answer comes without bytes
from_got : (max : ℕ) (left : List ℕ) (whole : Bool)
    → got_bytes (served_read_got (read_from max left whole).0) (read_from max left whole).1
    ≡ (read_from max left whole).1
from_got max [] true = refl
from_got max [] false = refl
from_got max (x ∷ xs) whole = refl

served_got : (o : Option CallRecord) (max : ℕ)
    → got_bytes (served_read o max).0 (served_read o max).1 ≡ (served_read o max).1
served_got None max = refl
served_got (Some k) max = of k.life
  where
    of : (life : Life) → (let x = served_read_by life (read_of k.looks.received max) in got_bytes x.0 x.1 ≡ x.1)
    of lives.Accepted = from_got max _ _
    of lives.Calling = refl
    of (lives.Ended end) = refl
    of lives.Waiting = refl
    of lives.Finished = refl
    of (lives.Broken code) = refl
    of (lives.Over code) = refl

read_all : (c : CallName) (max : ℕ) (got : ServeRead) (came : List ℕ) (o : Option CallRecord)
    → ◌≡◌ {A = ServeRead × List ℕ} (got, came) (served_read o max)
    → read_by (events.HasRead c max (readers.Server got) came) ≡ came
read_all c max got came o is =
    read_is c max got came
    ∙ subst (λ (x : ServeRead × List ℕ). got_bytes x.0 x.1 ≡ x.1) (sym is) (served_got o max)

written_all : (c : CallName) (offered : ℕ) (got : Result ℕ ServeRefused) (came : List ℕ) → HasBytes got came
    → written_by (events.Wrote c offered (writers.Server got) came) ≡ came
written_all c offered (Ok n) came has = refl
written_all c offered (Err refused) came has = sym has

-- a call without a record reads and writes nothing
read_none : (got : ServeRead) (came : List ℕ) (max : ℕ)
    → ◌≡◌ {A = ServeRead × List ℕ} (got, came) (served_read None max) → came ≡ []
read_none got came max is = ap (λ (x : ServeRead × List ℕ). x.1) is

unended_none : (got : ServeRead) (came : List ℕ) (max : ℕ)
    → ◌≡◌ {A = ServeRead × List ℕ} (got, came) (served_read None max) → (is_end (readers.Server got) || false) ≡ false
unended_none got came max is = ap (λ (x : ServeRead × List ℕ). is_end (readers.Server x.0) || false) is

-- the end that a read tells
ends_told : (c : CallName) (max : ℕ) (got : ServeRead) (came : List ℕ)
    → is_end (readers.Server got) ≡ tells_end (events.HasRead c max (readers.Server got) came)
ends_told c max (reads.Got n) came = refl
ends_told c max reads.End came = refl
ends_told c max reads.NotYet came = refl
ends_told c max (reads.Gone code) came = refl
ends_told c max reads.NotOpen came = refl

-- ---- one call, exactly

-- the call itself, behind a change of it
pub own_changed : (c : CallName) (change : CallRecord → CallRecord) (l : Looks) → KeepsNames change
    → call_at (on_call c change l) c ≡ option_map change (call_at l c)
own_changed c change l names =
    call-changed c c change l names
    ∙ ap (λ (b : Bool). cond b (option_map change (call_at l c)) (call_at l c)) (name_itself c)

abbrev ended_by : Bool → CallRecord → CallRecord
ended_by end k = record k { life = after_end end k.life }

abbrev read_with : ℕ → Bool → List ℕ → CallRecord → CallRecord
read_with now end bytes k = record k { looks = after_read now end bytes k.looks }

abbrev wrote_with : List ℕ → CallRecord → CallRecord
wrote_with bytes k = record k { looks = after_write bytes k.looks }

-- behind the bytes that an event tells
abbrev more : Passed → Event → Passed
more x e =
    record { said = x.said ++ written_by e; read = x.read ++ read_by e; ended = tells_end e || x.ended }

read_passes : (o : Option CallRecord) (now : ℕ) (end : Bool) (came : List ℕ) → (o ≡ None → came ≡ [])
    → (o ≡ None → (end || false) ≡ false)
    → passed_of (option_map (ended_by end) (option_map (read_with now end came) o))
    ≡ record { said = (passed_of o).said; read = (passed_of o).read ++ came; ended = end || (passed_of o).ended }
read_passes None now end came none unread =
    λ i. record { said = []; read = sym (none refl) i; ended = sym (unread refl) i }
read_passes (Some k) now end came none unread = refl

wrote_passes : (o : Option CallRecord) (came : List ℕ) → (o ≡ None → came ≡ [])
    → passed_of (option_map (wrote_with came) o)
    ≡ record { said = (passed_of o).said ++ came; read = (passed_of o).read; ended = (passed_of o).ended }
wrote_passes None came none = ap (λ (xs : List ℕ). record { said = xs; read = []; ended = false }) (sym (none refl))
wrote_passes (Some k) came none = refl

read_step : (s : Setup) (l : Looks) (c : CallName) (max : ℕ) (got : ServeRead) (came : List ℕ)
    → AllowedServer s l (events.HasRead c max (readers.Server got) came)
    → passed_of (call_at (after s (events.HasRead c max (readers.Server got) came) l) c)
    ≡ more (passed_of (call_at l c)) (events.HasRead c max (readers.Server got) came)
read_step s l c max got came allowed =
    let end : Bool = is_end (readers.Server got) in
    let ready : Looks = acknowledged end c l in
    let told = read_all c max got came (call_at l c) allowed.1 in
    ap passed_of
    (own_changed c (ended_by end) (on_looks c (after_read l.now end came) ready) (λ k. refl)
    ∙ ap (option_map (ended_by end)) (own_changed c (read_with l.now end came) ready (λ k. refl)))
    ∙ read_passes (call_at l c) l.now end came
    (λ none. read_none got came max (allowed.1 ∙ ap (λ (o : Option CallRecord). served_read o max) none))
    (λ none. unended_none got came max (allowed.1 ∙ ap (λ (o : Option CallRecord). served_read o max) none))
    ∙ (λ i. record {
      said = sym (append-nil (passed_of (call_at l c)).said) i;
      read = (passed_of (call_at l c)).read ++ sym told i;
      ended = ends_told c max got came i || (passed_of (call_at l c)).ended;
    })

wrote_step : (s : Setup) (l : Looks) (c : CallName) (offered : ℕ) (got : Result ℕ ServeRefused) (came : List ℕ)
    → AllowedServer s l (events.Wrote c offered (writers.Server got) came)
    → passed_of (call_at (after s (events.Wrote c offered (writers.Server got) came) l) c)
    ≡ more (passed_of (call_at l c)) (events.Wrote c offered (writers.Server got) came)
wrote_step s l c offered got came allowed =
    let told = written_all c offered got came allowed.2 in
    ap passed_of (own_changed c (wrote_with came) l (λ k. refl))
    ∙ wrote_passes (call_at l c) came
    (λ none. subst (λ (r : Result ℕ ServeRefused). HasBytes r came)
    (allowed.0 ∙ ap (λ (o : Option CallRecord). served_write s l o offered) none) allowed.2)
    ∙ (λ i. record {
      said = (passed_of (call_at l c)).said ++ sym told i;
      read = sym (append-nil (passed_of (call_at l c)).read) i;
      ended = (passed_of (call_at l c)).ended;
    })

-- ---- each event

-- one that is none of the call's
step_off : (s : Setup) (l : Looks) (c : CallName) (e : Event) → AllowedServer s l e → StartsNew s l e c
    → LeavesStreams c e → passed_of (call_at (after s e l) c) ≡ passed_of (call_at l c)
step_off s l c e allowed new leaves =
    holds_after (λ (o : Option CallRecord). passed_of o ≡ passed_of (call_at l c))
    (λ k new same held. same ∙ held) (λ k life falls held. held) (λ k fresh held. fresh ∙ held) s l c e allowed leaves
    (starts_anew s l c e new) refl

leaves_by : (c : CallName) (e : Event) → handles c e ≡ false → LeavesStreams c e
leaves_by c (events.Wrote d offered got bytes) off = off
leaves_by c (events.HasRead d max got bytes) off = off
leaves_by c _ off = tt

-- one that is
step_on : (s : Setup) (l : Looks) (c : CallName) (e : Event) → AllowedServer s l e → StartsNew s l e c
    → handles c e ≡ true → passed_of (call_at (after s e l) c) ≡ more (passed_of (call_at l c)) e
step_on s l c (events.HasRead d max (readers.Server got) came) allowed new on =
    subst (λ (n : CallName). passed_of (call_at (after s (events.HasRead n max (readers.Server got) came) l) c)
    ≡ more (passed_of (call_at l c)) (events.HasRead n max (readers.Server got) came)) (name_is c d on)
    (read_step s l c max got came
    (subst (λ (n : CallName). AllowedServer s l (events.HasRead n max (readers.Server got) came))
    (sym (name_is c d on)) allowed))
step_on s l c (events.HasRead d max (readers.Client got) came) allowed new on = absurd allowed
step_on s l c (events.Wrote d offered (writers.Server got) came) allowed new on =
    subst (λ (n : CallName). passed_of (call_at (after s (events.Wrote n offered (writers.Server got) came) l) c)
    ≡ more (passed_of (call_at l c)) (events.Wrote n offered (writers.Server got) came)) (name_is c d on)
    (wrote_step s l c offered got came
    (subst (λ (n : CallName). AllowedServer s l (events.Wrote n offered (writers.Server got) came))
    (sym (name_is c d on)) allowed))
step_on s l c (events.Wrote d offered (writers.Client got) came) allowed new on = absurd allowed
step_on s l c (events.Finished d code got) allowed new on =
    step_off s l c (events.Finished d code got) allowed new tt
    ∙ (λ i. record {
      said = sym (append-nil (passed_of (call_at l c)).said) i;
      read = sym (append-nil (passed_of (call_at l c)).read) i;
      ended = (passed_of (call_at l c)).ended;
    })
step_on s l c _ allowed new on = absurd cc

-- ---- along a history

-- what a life's events tell
abbrev pub told_of : List Event → Passed
told_of h = record { said = bytes_written h; read = bytes_read h; ended = has_end h }

-- before each accept of the call nothing of it was read, written or finished
abbrev pub AcceptsFresh : CallName → List Event → Type 0
AcceptsFresh c [] = Unit {0}
AcceptsFresh c (e ∷ h) = (gives c e ≡ true → life_of c h ≡ []) × AcceptsFresh c h

given_off : (c : CallName) (e : Event) → gives c e ≡ true → handles c e ≡ false
given_off c (events.Accepted got) given = refl
given_off c _ given = absurd cc

-- the look-ups say what the life's events tell
pub passes_told : (s : Setup) (h : List Event) (c : CallName) → IsServer s.kind → Legal s h → StartsOnce s h c
    → AcceptsFresh c h → passed_of (call_at (looks s h) c) ≡ told_of (life_of c h)
passes_told s [] c server legal once fresh = refl
passes_told s (e ∷ h) c server legal once fresh =
    by (gives c e) (handles c e) refl refl (passes_told s h c server legal.1 once.1 fresh.1)
  where
    allowed : AllowedServer s (looks s h) e
    allowed = served s.kind s (looks s h) e server legal.0

    by : (given on : Bool) → gives c e ≡ given → handles c e ≡ on
        → passed_of (call_at (looks s h) c) ≡ told_of (life_of c h)
        → passed_of (call_at (looks s (e ∷ h)) c)
        ≡ told_of (cond given [] (cond on (e ∷ life_of c h) (life_of c h)))
    by true on is_given is_on before =
        step_off s (looks s h) c e allowed once.0 (leaves_by c e (given_off c e is_given))
        ∙ before ∙ ap told_of (fresh.0 is_given)
    by false true is_given is_on before =
        step_on s (looks s h) c e allowed once.0 is_on ∙ ap (λ (x : Passed). more x e) before
    by false false is_given is_on before =
        step_off s (looks s h) c e allowed once.0 (leaves_by c e is_on) ∙ before
