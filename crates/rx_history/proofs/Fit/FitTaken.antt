-- A datagram that is taken leaves each number of each call within its field.
use Rattle.std.proofs.Common.{◌≡◌, ◌==◌, ℕ, ℤ, cond, Bool, true, false, List, Option, Some, None}
use Rattle.std.proofs.Common.{Result, Ok, Err, refl, ◌∙◌, ap, sym, subst, arith}
use Rattle.std.specs.List.{find}
use Rattle.rx_model.specs.declared.answers.BadMsg.{BadMsg}
use Rattle.rx_model.specs.declared.answers.Took.{Took}
use Rattle.rx_model.specs.declared.answers.Took.TheVariants as tooks
use Rattle.rx_model.specs.declared.names.CallName.{CallName}
use Rattle.rx_model.specs.declared.names.Host.{Host}
use Rattle.rx_model.specs.declared.wire.TheConstants.{RX_CALL_DEAD, RX_PROTOCOL_ERROR}
use Rattle.rx_model.specs.Body.{Body}
use Rattle.rx_model.specs.Body as bodies
use Rattle.rx_model.specs.Message.{IsBytes, Message}
use Rattle.rx_model.specs.Names.{Connection, channel_of, connection_of, same_connection, same_name}
use Rattle.rx_model.specs.Reading.{reading_of}
use Rattle.rx_model.specs.Spelling.{IsCode}
use Rattle.rx_model.specs.Spells.{FitsHeader, SpellsBody}
use Rattle.rx_rules.specs.After.{challenged, prepared, settled, stopped_all, taken_at, taken_behind, taken_data}
use Rattle.rx_rules.specs.After.{taken_heard, taken_message}
use Rattle.rx_rules.specs.After.{taken_over, taken_stopped, taken_with, turned_away}
use Rattle.rx_rules.specs.CallLooks.{after_taken, is_delivered}
use Rattle.rx_rules.specs.Judging.{else_row, facts_of, opened, outer_row, own_row, took_named, took_reading}
use Rattle.rx_rules.specs.Life.{after_acks, after_code}
use Rattle.rx_rules.specs.Looks.{CallRecord, Looks, call_at, latest_name, on_call, on_life}
use Rattle.rx_rules.specs.Setup.{Setup, FitsSetup, named, receiving_window}
use Rattle.rx_rules.specs.Slots.{node_view}
use Rattle.rx_model.proofs.SpelledLaws.{spelled}
use Rattle.rx_history.proofs.Calls.{coded_on}
use Rattle.rx_history.proofs.Events.{calls-prepared, calls-turned}
use Rattle.rx_history.proofs.Fit.FitCall.{CallsFit, FitsCall, life_fits, taken_fits}
use Rattle.rx_history.proofs.Fit.FitCalls.{fit_call, fit_calls, fit_life, fit_looks, fit_opened}
use Rattle.rx_history.proofs.Fit.FitValues.{Lies, acks_life, code_life}
use Rattle.rx_history.proofs.Openings.{calls_ready}
use Rattle.rx_history.proofs.Room.RoomTaken.{challenged-calls, data-calls}
use Rattle.rx_history.proofs.Rows.RowsInFront.{side_own}
use Rattle.rx_history.proofs.Rows.RowsKept.{KeptBy, row_kept}

-- ---- what comes

-- a code that is told fits
abbrev pub CodeFits : Body → Type 0
CodeFits (bodies.Abort code) = IsCode code
CodeFits _ = Unit {0}

-- each number of a message that was read fits its field
pub record Came (m : Message) : Type 0 where
  pub header : FitsHeader m
  pub code : CodeFits m.body

-- so it is of bytes that are read
pub read_came : (bytes : List ℕ) (m : Message) → IsBytes bytes → reading_of bytes ≡ Ok m → Came m
read_came bytes m is reads =
    let spells = spelled bytes m is reads in
    record { header = spells.fits; code = of m.body spells.rest spells.body }
  where
    of : (body : Body) (rest : List ℕ) → SpellsBody body m.flags rest → CodeFits body
    of (bodies.Abort code) rest spells = spells.fits
    of _ rest spells = tt

-- ---- by the answer

-- as the calls are
pub fit_by : (l m : Looks) → m.calls ≡ l.calls → CallsFit l.calls → CallsFit m.calls
fit_by l m same all = subst CallsFit (sym same) all

-- a data packet that isn't kept
fit-at : (s : Setup) (got : Took) (c : CallName) (m : Message) (l : Looks) → (got ≡ tooks.Kept → ⊥) → FitsHeader m
    → CallsFit l.calls
    → CallsFit (taken_at s got c m l).calls
fit-at s got c m l other head all =
    fit_looks c (after_taken (node_view s l) got m) l
    (λ k there f. taken_fits (node_view s l) got m 0 k head (omega arith) (λ is. absurd (other is)) f) all

fit-data : (s : Setup) (got : Took) (c : CallName) (m : Message) (l : Looks) → (got ≡ tooks.Kept → ⊥) → FitsHeader m
    → CallsFit l.calls
    → CallsFit (taken_data s got c m l).calls
fit-data s got c m l other head all =
    fit_by (taken_at s got c m l) (taken_data s got c m l) (data-calls s got c m l) (fit-at s got c m l other head all)

lies-by : (s : Setup) (o : Looks) (m : Message) (k : CallRecord) → KeptBy (node_view s o) m m.body k.looks
    → Lies m.seq (receiving_window s) k.looks.received
lies-by s o m k kept =
    record {
      numbered = kept.keepable.numbered;
      above = kept.keepable.slotted.above;
      away = kept.keepable.slotted.away;
      within = kept.keepable.within;
    }

-- one that is kept: its row is judged before the record of its connection is entered
fit-kept : (s : Setup) (c : CallName) (m : Message) (l : Looks) → FitsSetup s → took_named s l c m ≡ tooks.Kept
    → FitsHeader m → CallsFit l.calls
    → CallsFit (taken_data s tooks.Kept c m (opened s c (prepared s tooks.Kept (connection_of c) l))).calls
fit-kept s c m l fits is head all =
    let o : Looks = opened s c l in
    let ready : Looks = opened s c (prepared s tooks.Kept (connection_of c) l) in
    let calls : ready.calls ≡ o.calls = calls_ready s tooks.Kept c l in
    let own = side_own s.kind (facts_of s l c m) (own_row s o c m) tooks.Kept refl is in
    fit_by (taken_at s tooks.Kept c m ready) (taken_data s tooks.Kept c m ready) (data-calls s tooks.Kept c m ready)
    (fit_looks c (after_taken (node_view s ready) tooks.Kept m) ready
    (λ k there f. taken_fits (node_view s ready) tooks.Kept m (receiving_window s) k head fits.limits.narrow
    (λ same. lies-by s o m k (row_kept s o (call_at o c) m k (sym (at ready o calls) ∙ there) own.row)) f)
    (fit_by o ready calls (fit_opened s c l all)))
  where
    at : (a b : Looks) → a.calls ≡ b.calls → call_at a c ≡ call_at b c
    at a b same = ap (λ (ks : List CallRecord). find (λ k. same_name k.name c) ks) same

fit-settled : (c : CallName) (l : Looks) → CallsFit l.calls → CallsFit (on_call c settled l).calls
fit-settled c l all =
    fit_call c settled l (λ k. refl)
    (λ k there f. life_fits k (after_acks (is_delivered k.looks) k.life)
    (acks_life (is_delivered k.looks) k.life f.life) f) all

fit-heard : (s : Setup) (c : CallName) (body : Body) (l : Looks) → CallsFit l.calls
    → CallsFit (taken_heard s c body l).calls
fit-heard s c (bodies.Ack a) l all = fit_by (on_call c settled l) (challenged s c (on_call c settled l))
    (challenged-calls s c (on_call c settled l)) (fit-settled c l all)
fit-heard s c bodies.AckAll l all = fit-settled c l all
fit-heard s c _ l all = all

fit-all-stopped : (x : Connection) (code : ℤ) (l : Looks) → IsCode code → CallsFit l.calls
    → CallsFit (stopped_all x code l).calls
fit-all-stopped x code l is all =
    fit_calls (coded_on x code) l (λ k. name (same_connection (connection_of k.name) x) k)
    (λ k f. of (same_connection (connection_of k.name) x) k f) all
  where
    name : (b : Bool) (k : CallRecord) → (cond b (record k { life = after_code code k.life }) k).name ≡ k.name
    name true k = refl
    name false k = refl

    of : (b : Bool) (k : CallRecord) → FitsCall k → FitsCall (cond b (record k { life = after_code code k.life }) k)
    of true k f = life_fits k (after_code code k.life) (code_life code k.life is f.life) f
    of false k f = f

fit-coded : (c : CallName) (code : ℤ) (l : Looks) → IsCode code → CallsFit l.calls
    → CallsFit (on_life c (after_code code) l).calls
fit-coded c code l is all = fit_life c (after_code code) l (λ x f. code_life code x is f) all

fit-stopped : (c : CallName) (body : Body) (l : Looks) → CodeFits body → CallsFit l.calls
    → CallsFit (taken_stopped c body l).calls
fit-stopped c (bodies.Abort code) l is all =
    (elim (c.number == 0) as
    (λ b. CallsFit (cond b (stopped_all (connection_of c) code l) (on_life c (after_code code) l)).calls) [
      | true ↦ fit-all-stopped (connection_of c) code l is all
      | false ↦ fit-coded c code l is all
    ])
fit-stopped c (bodies.Response bytes) l is all = fit-coded c RX_PROTOCOL_ERROR l (omega arith) all
fit-stopped c _ l is all = all

fit-over : (c : CallName) (body : Body) (o : Option CallRecord) (l : Looks) → CallsFit l.calls
    → CallsFit (taken_over c body o l).calls
fit-over c body None l all = all
fit-over c body (Some k) l all = all

fit-with : (s : Setup) (got : Took) (c : CallName) (m : Message) (l : Looks) → (got ≡ tooks.Kept → ⊥) → Came m
    → CallsFit l.calls
    → CallsFit (taken_with s got c m l).calls
fit-with s tooks.Kept c m l other came all = absurd (other refl)
fit-with s tooks.NoSlot c m l other came all = fit-data s tooks.NoSlot c m (opened s c l) other came.header
    (fit_opened s c l all)
fit-with s tooks.Repeat c m l other came all = fit-data s tooks.Repeat c m l other came.header all
fit-with s tooks.Beyond c m l other came all = fit-data s tooks.Beyond c m l other came.header all
fit-with s tooks.Clash c m l other came all = fit-data s tooks.Clash c m l other came.header all
fit-with s tooks.Heard c m l other came all = fit-heard s c m.body (taken_at s tooks.Heard c m l)
    (fit-at s tooks.Heard c m l other came.header all)
fit-with s tooks.Stopped c m l other came all = fit-stopped c m.body l came.code all
fit-with s tooks.Busy c m l other came all = fit-coded (latest_name l (channel_of c)) RX_CALL_DEAD l (omega arith) all
fit-with s tooks.Over c m l other came all = fit-over c m.body (call_at l c) l all
fit-with s _ c m l other came all = all

fit-behind : (s : Setup) (row : Option Took) (from : Host) (c : CallName) (m : Message) (got : Took) (l : Looks)
    → FitsSetup s
    → (row ≡ None → took_named s l c m ≡ got) → Came m → CallsFit l.calls
    → CallsFit (taken_behind s row from c m got l).calls
fit-behind s (Some row) from c m got l fits is came all = fit_by l (turned_away row from m l)
    (calls-turned row from m l) all
fit-behind s None from c m tooks.Kept l fits is came all = fit-kept s c m l fits (is refl) came.header all
fit-behind s None from c m got l fits is came all =
    fit-with s got c m (prepared s got (connection_of c) l) (λ same. absurd (cc (same))) came
    (fit_by l (prepared s got (connection_of c) l) (calls-prepared s got (connection_of c) l) all)

-- a datagram is taken, with the rules' answer
pub fit_message : (s : Setup) (from : Host) (reading : Result Message BadMsg) (got : Took) (l : Looks) → FitsSetup s
    → got ≡ took_reading s l from reading → ((m : Message) → reading ≡ Ok m → Came m) → CallsFit l.calls
    → CallsFit (taken_message s from reading got l).calls
fit_message s from (Err bad) got l fits is came all = all
fit_message s from (Ok m) got l fits is came all =
    fit-behind s (outer_row s s.kind l from m) from (named s from m) m got l fits
    (λ none. sym (is ∙ ap (λ (o : Option Took). else_row o (took_named s l (named s from m) m)) none)) (came m refl) all
