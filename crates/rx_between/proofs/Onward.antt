-- A call that starts only where it has no record: what an event makes of it is a step of its end, from a fresh one on.
use Rattle.std.proofs.Common.{◌≡◌, ℕ, true, false, List, ◌∷◌, Option, Some, None, refl, ap, sym, subst, ◌∙◌, inl, inr}
use Rattle.std.proofs.Common.{Ok, nat_lt, arith, ◌<◌}
use Rattle.rx_model.specs.declared.answers.Took.{Took}
use Rattle.rx_model.specs.declared.answers.Took.TheVariants as tooks
use Rattle.rx_model.specs.declared.event.Event.{Event}
use Rattle.rx_model.specs.declared.event.Event.TheVariants as events
use Rattle.rx_model.specs.declared.names.CallName.{CallName}
use Rattle.rx_model.specs.declared.names.Host.{Host}
use Rattle.rx_model.specs.Names.{connection_of, channel_of}
use Rattle.rx_rules.specs.After.{looks, prepared}
use Rattle.rx_rules.specs.CallLooks.{CallLooks, fresh_call}
use Rattle.rx_model.specs.Message.{Message}
use Rattle.rx_model.specs.Reading.{reading_of}
use Rattle.rx_rules.specs.Judging.{else_row, facts_of, opened, outer_row, own_row, side_row, took_named, took_of}
use Rattle.rx_rules.specs.Judging.{took_reading}
use Rattle.rx_rules.specs.Looks.{CallRecord, Looks, call_at, channel_at, conn_at}
use Rattle.rx_rules.specs.Rules.{AllowedClient, AllowedServer, Legal}
use Rattle.rx_rules.specs.Setup.{Client, FitsSetup, IsServer, Setup, is_client, named, pace_of}
use Rattle.rx_rules.proofs.ConnsLaws.{number_of}
use Rattle.rx_history.proofs.Client.{fresh-call}
use Rattle.rx_history.proofs.ClientHistory.{Called, clients}
use Rattle.rx_history.proofs.Laws.OnceLaw.{served}
use Rattle.rx_history.proofs.Openings.{channel_prepared}
use Rattle.rx_history.proofs.Rows.RowsInFront.{above_served, may_start}
use Rattle.rx_history.proofs.Laws.SoundLaws.{Below}
use Rattle.rx_history.specs.Starts.{StartsBy, StartsNew}
use Rattle.rx_between.specs.Acknowledged.{received_by, sent_by}
use Rattle.rx_between.proofs.Each.EachStep.{CallStep, EndStep, Judges, Opens, Starts, is_start, stays, takes}

-- what passed at its end; nothing, where it has no record
abbrev pub end_by : Setup → ℕ → Option CallRecord → CallLooks
end_by s now None = fresh_call (pace_of s) now
end_by s now (Some k) = k.looks

-- what it said and received is that of its end
pub sent_is : (s : Setup) (now : ℕ) (o : Option CallRecord) → (end_by s now o).sent ≡ sent_by o
sent_is s now None = refl
sent_is s now (Some k) = refl

pub received_is : (s : Setup) (now : ℕ) (o : Option CallRecord) → (end_by s now o).received ≡ received_by o
received_is s now None = refl
received_is s now (Some k) = refl

-- it doesn't start anew
abbrev pub NoneAnew : Setup → Looks → Event → CallName → Option CallRecord → Type 0
NoneAnew s l e c a = (b : CallRecord) → Starts s l e c b → a ≡ None

none-some : (k : CallRecord) → ◌≡◌ {A = Option CallRecord} (Some k) None → ⊥
none-some k is = absurd cc

-- so an event makes a step of its end
pub onward : (s : Setup) (l : Looks) (e : Event) (c : CallName) (a b : Option CallRecord) → CallStep s l e c a b
    → NoneAnew s l e c a → EndStep s l e c (end_by s l.now a) (end_by s l.now b)
onward s l e c None None step anew = stays refl
onward s l e c None (Some b) (name, inl opens) anew = takes opens.takes
onward s l e c None (Some b) (name, inr made) anew = stays made.looks
onward s l e c (Some a) None step anew = absurd step
onward s l e c (Some a) (Some b) (inl goes) anew = goes.end
onward s l e c (Some a) (Some b) (inr starts) anew = absurd (none-some a (anew b starts))

-- ---- the row of a message

-- the rules' answer of a message that no row in front answers
pub row_named : (s : Setup) (l : Looks) (from : Host) (bytes : List ℕ) (got : Took) (m : Message)
    → got ≡ took_of s l from bytes → reading_of bytes ≡ Ok m → outer_row s s.kind l from m ≡ None
    → side_row s.kind (facts_of s l (named s from m) m)
    (own_row s (opened s (named s from m) l) (named s from m) m) ≡ got
row_named s l from bytes got m is reads front =
    sym (is ∙ ap (took_reading s l from) reads
    ∙ ap (λ (o : Option Took). else_row o (took_named s l (named s from m) m)) front)

-- ---- at a client

no-record : (o : Option CallRecord) (number top : ℕ) → Below o number top → top < number → o ≡ None
no-record None number top below above = refl
no-record (Some k) number top below above = absurd (omega arith)

-- no message starts a call there
pub no-opening : (s : Setup) (host : Host) (epoch : ℕ) (e : Event) (h : List Event) (c : CallName) (b : CallRecord)
    → s.kind ≡ Client host epoch → Legal s (e ∷ h) → Opens s (looks s h) e c b → ⊥
no-opening s host epoch e h c b kind legal opens =
    let t = opens.takes in
    let l : Looks = looks s h in
    let d : CallName = named s t.judges.from t.message in
    let allowed : AllowedClient s host epoch l (events.Taken t.judges.from t.judges.bytes t.got) =
    subst (λ (x : Event). AllowedClient s host epoch l x) t.judges.is (clients s.kind s host epoch l e kind legal.0) in
    let row = row_named s l t.judges.from t.judges.bytes t.got t.message allowed.1 t.judges.reads t.judges.front in
    let number : t.message.number ≡ c.number = ap (λ (n : CallName). n.number) t.judges.name in
    let above : nat_lt (channel_at l (channel_of c)).number c.number ≡ true =
    ap (λ (n : ℕ). nat_lt n c.number) (sym (channel_prepared s t.got c l)) ∙ opens.above in
    let above_d : nat_lt (channel_at l (channel_of d)).number t.message.number ≡ true =
    subst (λ (n : CallName). nat_lt (channel_at l (channel_of n)).number n.number ≡ true) (sym t.judges.name) above in
    let server : is_client s.kind ≡ false =
    above_served s.kind (facts_of s l d t.message) (own_row s (opened s d l) d t.message) t.got
    (starts-too t.got opens.starts) row above_d in
    absurd (let client : is_client s.kind ≡ true = ap is_client kind in cc (client, server))
  where
    starts-too : (got : Took) → is_start got ≡ true → may_start got ≡ true
    starts-too tooks.Kept is = refl
    starts-too tooks.NoSlot is = refl
    starts-too _ is = absurd cc

-- and a call that is made has no record
pub client_anew : (s : Setup) (host : Host) (epoch : ℕ) (e : Event) (h : List Event) (c : CallName)
    → s.kind ≡ Client host epoch → FitsSetup s → Legal s (e ∷ h) → Called s h
    → NoneAnew s (looks s h) e c (call_at (looks s h) c)
client_anew s host epoch e h c kind fits legal old b (name, inl opens) =
    absurd (no-opening s host epoch e h c b kind legal opens)
client_anew s host epoch e h c kind fits legal old b (name, inr made) =
    let allowed : AllowedClient s host epoch (looks s h) (events.Called made.cid (Ok c)) =
    subst (λ (x : Event). AllowedClient s host epoch (looks s h) x) made.event
    (clients s.kind s host epoch (looks s h) e kind legal.0) in
    let f = fresh-call s host epoch made.cid (looks s h) c kind fits old.standing.conns allowed in
    no-record (call_at (looks s h) c) c.number (number_of (conn_at (looks s h) (connection_of c)) c.chan)
    (old.sound c).below f.above

-- ---- at a server

-- no call is made there, and a message starts a call only where it has no record
pub server_anew : (s : Setup) (e : Event) (h : List Event) (c : CallName) → IsServer s.kind → Legal s (e ∷ h)
    → StartsNew s (looks s h) e c → NoneAnew s (looks s h) e c (call_at (looks s h) c)
server_anew s e h c server legal new b (name, inr made) =
    absurd (subst (λ (x : Event). AllowedServer s (looks s h) x) made.event
    (served s.kind s (looks s h) e server legal.0))
server_anew s e h c server legal new b (name, inl opens) =
    let t = opens.takes in
    of t.got opens.starts t.judges opens.above
  where
    by : (got : Took) → (j : Judges s (looks s h) e c opens.takes.message got)
        → StartsBy s (looks s h) j.from j.bytes c got
        → nat_lt (channel_at (prepared s got (connection_of c) (looks s h)) (channel_of c)).number c.number ≡ true
        → call_at (looks s h) c ≡ None
    by got j starts above = starts opens.takes.message j.reads j.front j.name above

    of : (got : Took) → is_start got ≡ true → (j : Judges s (looks s h) e c opens.takes.message got)
        → nat_lt (channel_at (prepared s got (connection_of c) (looks s h)) (channel_of c)).number c.number ≡ true
        → call_at (looks s h) c ≡ None
    of tooks.Kept starts j above =
        by tooks.Kept j (subst (λ (x : Event). StartsNew s (looks s h) x c) j.is new) above
    of tooks.NoSlot starts j above =
        by tooks.NoSlot j (subst (λ (x : Event). StartsNew s (looks s h) x c) j.is new) above
    of _ starts j above = absurd cc
