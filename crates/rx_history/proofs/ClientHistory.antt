-- What stands of each call of a client after a legal history.
use Rattle.std.proofs.Common.{◌≡◌, ◌<◌, ◌≤◌, ◌+◌, ◌*◌, ◌%◌, ◌^◌, ℕ, ℤ, cond, if◌then◌else◌, nat_le}
use Rattle.std.proofs.Common.{is_some, Bool, true, false, List, [], ◌∷◌, length}
use Rattle.std.proofs.Common.{Option, Some, None, Result, Ok, Err, refl, ◌∙◌, ap, sym, subst, arith}
use Rattle.std.proofs.lemmas.Bool.Decides.{nat_tests}
use Rattle.rx_model.specs.declared.answers.BadMsg.{BadMsg}
use Rattle.rx_model.specs.declared.answers.ConnFull.{ConnFull}
use Rattle.rx_model.specs.declared.answers.Took.{Took}
use Rattle.rx_model.specs.declared.event.Event.{Event}
use Rattle.rx_model.specs.declared.event.Event.TheVariants as events
use Rattle.rx_model.specs.declared.names.CallName.{CallName}
use Rattle.rx_model.specs.declared.names.Host.{Host}
use Rattle.rx_rules.specs.After.{after, cancelled, enters, is_end, linked, looks, owing_abort, prepared, taken_behind}
use Rattle.rx_rules.specs.After.{taken_message}
use Rattle.rx_rules.specs.CallLooks.{after_shut, after_write, fresh_call}
use Rattle.rx_rules.specs.Judging.{outer_row}
use Rattle.rx_rules.specs.Life.{Life, after_cancel, is_waiting}
use Rattle.rx_rules.specs.Life as lives
use Rattle.rx_rules.specs.Looks.{CallRecord, ConnLooks, Looks, call_at, conn_at, on_life, on_looks}
use Rattle.rx_model.specs.Message.{Message}
use Rattle.rx_model.specs.Names.{Connection, channel_of, connection_of, same_name}
use Rattle.rx_model.specs.Reading.{reading_of}
use Rattle.rx_rules.specs.Records.{entered, fresh_conn, placed, silenced, started, with_conn}
use Rattle.rx_rules.specs.Rules.{AllowedAt, AllowedClient, Legal, connect_answer}
use Rattle.rx_rules.specs.Setup.{Client, FitsSetup, Kind, Server, Setup, named, pace_of}
use Rattle.rx_rules.proofs.ConnsLaws.{number_of}
use Rattle.rx_history.proofs.Laws.ForgotLaws.{with-forgotten}
use Rattle.rx_rules.proofs.KeepsLaws.{keeps-on_channel, keeps-on_life, keeps-on_looks, keeps-trans}
use Rattle.rx_model.proofs.NameLaws.{name_is}
use Rattle.rx_history.proofs.Laws.SoundLaws.{Below, Counted, Sound, sound-keeps}
use Rattle.rx_model.proofs.SpelledLaws.{spelled}
use Rattle.rx_rules.proofs.StartLaws.{call_at-new, fours-start, keeps-started, number-started}
use Rattle.rx_history.proofs.Laws.ForgotAfter.{forgot-polled, forgot-turned}
use Rattle.rx_history.proofs.Given.GivenLaws.{keeps-polled, keeps-read, keeps-silenced}
use Rattle.rx_history.proofs.Client.{CauseBy, Fresh, client-turn, fresh-call}
use Rattle.rx_history.proofs.Conns.{Conns, good-cancelled, good-given, good-linked, good-message, good-read}
use Rattle.rx_history.proofs.Conns.{good-started}
use Rattle.rx_history.proofs.Data.{GoodName}
use Rattle.rx_history.proofs.Numbers.{sound-message}
use Rattle.rx_history.proofs.Places.{Spared, keeps-placed, spared-as}
use Rattle.rx_history.proofs.Server.{Arrives, Standing, good-turn, none-yet}
use Rattle.rx_history.proofs.Turns.{Fine, Turn}

-- ---- a client forgets nothing

entered-client : (s : Setup) (host : Host) (epoch : ℕ) (x : Connection) (l : Looks) → s.kind ≡ Client host epoch
    → (entered s x l).forgotten ≡ l.forgotten
entered-client s host epoch x l kind =
    (elim (is_some (conn_at l x)) as (λ b. (cond b l (with_conn s s.kind x l)).forgotten ≡ l.forgotten) [
      | true ↦ refl
      | false ↦ ap (λ (k : Kind). (with_conn s k x l).forgotten) kind
    ])

prepared-client : (s : Setup) (host : Host) (epoch : ℕ) (got : Took) (x : Connection) (l : Looks) → s.kind
    ≡ Client host epoch
    → (prepared s got x l).forgotten ≡ l.forgotten
prepared-client s host epoch got x l kind = of (enters got)
  where
    of : (b : Bool) → (if b then entered s x l else l).forgotten ≡ l.forgotten
    of true = entered-client s host epoch x l kind
    of false = refl

message-client : (s : Setup) (host : Host) (epoch : ℕ) (from : Host) (reading : Result Message BadMsg) (got : Took)
    (l : Looks)
    → s.kind ≡ Client host epoch → (taken_message s from reading got l).forgotten ≡ l.forgotten
message-client s host epoch from (Err bad) got l kind = refl
message-client s host epoch from (Ok m) got l kind = of (outer_row s s.kind l from m)
  where
    d : CallName
    d = named s from m

    of : (row : Option Took) → (taken_behind s row from d m got l).forgotten ≡ l.forgotten
    of (Some row) = forgot-turned row from m l
    of None = with-forgotten s got d m (prepared s got (connection_of d) l)
        ∙ prepared-client s host epoch got (connection_of d) l kind

linked-client : (kind : Kind) (to : Host) (service first cid : ℕ) (l : Looks)
    → (linked kind to service first cid l).forgotten ≡ l.forgotten
linked-client (Client host epoch) to service first cid l = refl
linked-client (Server service nonces) to other first cid l = refl

forgot-client : (s : Setup) (host : Host) (epoch : ℕ) (l : Looks) (e : Event) → s.kind ≡ Client host epoch
    → AllowedClient s host epoch l e
    → (after s e l).forgotten ≡ l.forgotten
forgot-client s host epoch l (events.Linked to service first
    (Ok cid)) kind allowed = linked-client s.kind to service first cid l
forgot-client s host epoch l (events.Linked to service first (Err full)) kind allowed = refl
forgot-client s host epoch l (events.Called cid (Ok d)) kind allowed = refl
forgot-client s host epoch l (events.Called cid (Err refused)) kind allowed = refl
forgot-client s host epoch l (events.Wrote d offered got bytes) kind allowed = refl
forgot-client s host epoch l (events.Shut d (Ok done)) kind allowed = refl
forgot-client s host epoch l (events.Shut d (Err closed)) kind allowed = refl
forgot-client s host epoch l (events.HasRead d max got bytes) kind allowed = refl
forgot-client s host epoch l (events.Ended d got) kind allowed = refl
forgot-client s host epoch l (events.Cancelled d code (Ok done)) kind allowed = refl
forgot-client s host epoch l (events.Cancelled d code (Err closed)) kind allowed = refl
forgot-client s host epoch l (events.Taken from bytes got) kind allowed = message-client s host epoch from
    (reading_of bytes) got l kind
forgot-client s host epoch l (events.Polled got) kind allowed = forgot-polled s got l
forgot-client s host epoch l (events.Clocked now) kind allowed = refl
forgot-client s host epoch l (events.Accepted got) kind allowed = absurd allowed
forgot-client s host epoch l (events.Finished d code got) kind allowed = absurd allowed

-- ---- its connections

pub cid-fits : (s : Setup) (l : Looks) (cid : ℕ) → FitsSetup s
    → ◌≡◌ {A = Result ℕ ConnFull} (Ok cid) (connect_answer s l)
    → (cid % 4 ≡ 0) × (cid + 4 ≤ 2 ^ 32)
cid-fits s l cid fits is = of (nat_le s.limits.conns (length l.conns)) refl is
  where
    same : (a b : ℕ) → ◌≡◌ {A = Result ℕ ConnFull} (Ok a) (Ok b) → a ≡ b
    same a b is = cc

    of : (full : Bool) → nat_le s.limits.conns (length l.conns) ≡ full
        → ◌≡◌ {A = Result ℕ ConnFull} (Ok cid) (if full then Err (record {}) else Ok (4 * length l.conns + 4))
        → (cid % 4 ≡ 0) × (cid + 4 ≤ 2 ^ 32)
    of true test is = absurd cc
    of false test is =
        let cid_is = same cid (4 * length l.conns + 4) is in
        let few = fits.limits.few_conns in
        let below : length l.conns < s.limits.conns = grind (arith, nat_tests) in
        (omega arith, omega arith)

client-conns : (s : Setup) (host : Host) (epoch : ℕ) (l : Looks) (e : Event) → s.kind ≡ Client host epoch → FitsSetup s
    → AllowedClient s host epoch l e → Conns s l → Conns s (after s e l)
client-conns s host epoch l (events.Linked to service first (Ok cid)) kind fits allowed conns =
    let c = cid-fits s l cid fits allowed.3 in
    subst (λ (k : Kind). Conns s (linked k to service first cid l)) (sym kind)
    (good-linked s host epoch to service first cid l kind allowed.2 allowed.0 allowed.1 c.0 c.1 conns)
client-conns s host epoch l (events.Linked to service first (Err full)) kind fits allowed conns = conns
client-conns s host epoch l (events.Called cid (Ok d)) kind fits allowed conns =
    good-started s lives.Calling d l (fresh-call s host epoch cid l d kind fits conns allowed).good.number conns
client-conns s host epoch l (events.Called cid (Err refused)) kind fits allowed conns = conns
client-conns s host epoch l (events.Wrote d offered got bytes) kind fits allowed conns = conns
client-conns s host epoch l (events.Shut d (Ok done)) kind fits allowed conns = conns
client-conns s host epoch l (events.Shut d (Err closed)) kind fits allowed conns = conns
client-conns s host epoch l (events.HasRead d max got bytes) kind fits allowed conns = good-read s d
    (is_end got) bytes l conns
client-conns s host epoch l (events.Ended d got) kind fits allowed conns = conns
client-conns s host epoch l
    (events.Cancelled d code (Ok done)) kind fits allowed conns = good-cancelled s d code l conns
client-conns s host epoch l (events.Cancelled d code (Err closed)) kind fits allowed conns = conns
client-conns s host epoch l (events.Taken from bytes got) kind fits allowed conns =
    good-message s from (reading_of bytes) got l fits
    (λ m reads. (let f = (spelled bytes m allowed.0 reads).fits in (f.number, f.epoch, f.cid))) conns
client-conns s host epoch l (events.Polled got) kind fits allowed conns = good-given s got (silenced l) conns
client-conns s host epoch l (events.Clocked now) kind fits allowed conns = conns
client-conns s host epoch l (events.Accepted got) kind fits allowed conns = absurd allowed
client-conns s host epoch l (events.Finished d code got) kind fits allowed conns = absurd allowed

-- ---- its numbers

sound-new : (s : Setup) (c : CallName) (l : Looks) → Fresh s l c → Sound l c 0 → Sound (started s lives.Calling c l) c 0
sound-new s c l f sound =
    let new : CallRecord =
    record { name = c; life = lives.Calling; looks = fresh_call (pace_of s) l.now } in
    let none = no-record (call_at l c) sound.below f.above in
    let is : call_at (started s lives.Calling c l) c ≡ Some new = call_at-new c new l refl none in
    let top = number-started s lives.Calling c l f.conn f.there f.chan sound.fours in
    record {
      counted = subst (λ (o : Option CallRecord). Counted o 0) (sym is) ((λ waits. refl), (omega arith));
      below =
          subst (λ (o : Option CallRecord). Below o c.number
          (number_of (conn_at (started s lives.Calling c l) (connection_of c)) c.chan))
          (sym is) (omega arith);
      fours = fours-start s lives.Calling c l (connection_of c) sound.fours;
    }
  where
    no-record : (o : Option CallRecord) → Below o c.number (number_of (conn_at l (connection_of c)) c.chan)
        → number_of (conn_at l (connection_of c)) c.chan < c.number → o ≡ None
    no-record None below above = refl
    no-record (Some k) below above = absurd (omega arith)

sound-called : (s : Setup) (c d : CallName) (l : Looks) → Fresh s l d → Sound l c 0
    → Sound (started s lives.Calling d l) c 0
sound-called s c d l f sound =
    (elim (same_name c d) as (λ b. same_name c d ≡ b → Sound (started s lives.Calling d l) c 0) [
      | true ↦ λ same.
          subst (λ (e : CallName). Fresh s l e → Sound (started s lives.Calling e l) c 0) (name_is c d same)
          (λ own. sound-new s c l own sound) f
      | false ↦ λ other.
          sound-keeps c l (started s lives.Calling d l) 0
          (keeps-started s lives.Calling c d l other (let low = f.above in omega arith)) sound
    ]) refl

sound-linked : (kind : Kind) (to : Host) (service first cid : ℕ) (c : CallName) (l : Looks) → Sound l c 0
    → Sound (linked kind to service first cid l) c 0
sound-linked (Server service nonces) to other first cid c l sound = sound
sound-linked (Client host epoch) to service first cid c l sound =
    let x : Connection = record { host = host; epoch = epoch; cid = cid } in
    let new : ConnLooks = fresh_conn x to service first l in
    sound-keeps c l (placed new None l) 0 (keeps-placed c x new None l refl (λ y. absurd cc) refl tt) sound

sound-client : (s : Setup) (host : Host) (epoch : ℕ) (l : Looks) (e : Event) (c : CallName) → s.kind
    ≡ Client host epoch → FitsSetup s
    → AllowedClient s host epoch l e → Conns s l → Spared (connection_of c) (after s e l) → Sound l c 0
    → Sound (after s e l) c 0
sound-client s host epoch l (events.Linked to service first (Ok cid)) c kind fits allowed conns spared sound =
    sound-linked s.kind to service first cid c l sound
sound-client s host epoch l (events.Linked to service first (Err full)) c kind fits allowed conns spared sound = sound
sound-client s host epoch l (events.Called cid (Ok d)) c kind fits allowed conns spared sound =
    sound-called s c d l (fresh-call s host epoch cid l d kind fits conns allowed) sound
sound-client s host epoch l (events.Called cid (Err refused)) c kind fits allowed conns spared sound = sound
sound-client s host epoch l (events.Wrote d offered got bytes) c kind fits allowed conns spared sound =
    sound-keeps c l (on_looks d (after_write bytes) l) 0 (keeps-on_looks c d (after_write bytes) l) sound
sound-client s host epoch l (events.Shut d (Ok done)) c kind fits allowed conns spared sound =
    sound-keeps c l (on_looks d after_shut l) 0 (keeps-on_looks c d after_shut l) sound
sound-client s host epoch l (events.Shut d (Err closed)) c kind fits allowed conns spared sound = sound
sound-client s host epoch l (events.HasRead d max got bytes) c kind fits allowed conns spared sound =
    sound-keeps c l (after s (events.HasRead d max got bytes) l) 0 (keeps-read c d (is_end got) bytes l) sound
sound-client s host epoch l (events.Ended d got) c kind fits allowed conns spared sound = sound
sound-client s host epoch l (events.Cancelled d code (Ok done)) c kind fits allowed conns spared sound =
    let ended : Looks = on_life d (after_cancel code) l in
    sound-keeps c l (cancelled d code l) 0
    (keeps-trans c l ended (cancelled d code l) (keeps-on_life c d (after_cancel code) l (cancel-waits code))
    (keeps-on_channel c (channel_of d) (owing_abort (Some code)) ended (λ q. refl))) sound
  where
    cancel-waits : (code : ℤ) (x : Life) → is_waiting (after_cancel code x) ≡ true → is_waiting x ≡ true
    cancel-waits code lives.Calling is = absurd cc
    cancel-waits code (lives.Ended end) is = is
    cancel-waits code lives.Waiting is = is
    cancel-waits code lives.Accepted is = is
    cancel-waits code lives.Finished is = is
    cancel-waits code (lives.Broken before) is = is
    cancel-waits code (lives.Over before) is = is
sound-client s host epoch l (events.Cancelled d code (Err closed)) c kind fits allowed conns spared sound = sound
sound-client s host epoch l (events.Taken from bytes got) c kind fits allowed conns spared sound =
    sound-message s from (reading_of bytes) c got l spared sound
sound-client s host epoch l (events.Polled got) c kind fits allowed conns spared sound =
    sound-keeps c l (after s (events.Polled got) l) 0
    (keeps-trans c l (silenced l) _ (keeps-silenced c l) (keeps-polled s got c (silenced l))) sound
sound-client s host epoch l (events.Clocked now) c kind fits allowed conns spared sound =
    record { counted = sound.counted; below = sound.below; fours = sound.fours }
sound-client s host epoch l (events.Accepted got) c kind fits allowed conns spared sound = absurd allowed
sound-client s host epoch l (events.Finished d code got) c kind fits allowed conns spared sound = absurd allowed

-- ---- a history

pub record Called (s : Setup) (h : List Event) : Type 0 where
  pub standing : Standing s (looks s h)
  pub sound : (c : CallName) → Sound (looks s h) c 0
  pub fine : (c : CallName) → Fine (call_at (looks s h) c)
  pub spared : (x : Connection) → Spared x (looks s h)

pub clients : (kind : Kind) (s : Setup) (host : Host) (epoch : ℕ) (l : Looks) (e : Event) → kind ≡ Client host epoch
    → AllowedAt kind s l e
    → AllowedClient s host epoch l e
clients kind s host epoch l e is allowed = subst (λ (k : Kind). AllowedAt k s l e) is allowed

pub called-turn : (s : Setup) (host : Host) (epoch : ℕ) (e : Event) (h : List Event) (c : CallName) → s.kind
    ≡ Client host epoch → FitsSetup s
    → Legal s (e ∷ h) → Called s h
    → Turn (Unit {0}) ⊥ (GoodName s c) (CauseBy s (looks s h) e c) (Arrives s (looks s h) e c) (call_at (looks s h) c)
    (call_at (looks s (e ∷ h)) c)
called-turn s host epoch e h c kind fits legal old =
    let allowed = clients s.kind s host epoch (looks s h) e kind legal.0 in
    client-turn c s host epoch kind fits (looks s h) old.standing e allowed (old.sound c) (old.fine c)
    (spared-as (connection_of c) (after s e (looks s h)) (looks s h)
    (sym (forgot-client s host epoch (looks s h) e kind allowed)) (old.spared (connection_of c)))

pub client-calls : (s : Setup) (host : Host) (epoch : ℕ) (h : List Event) → s.kind ≡ Client host epoch → FitsSetup s
    → Legal s h → Called s h
client-calls s host epoch [] kind fits legal =
    record {
      standing = none-yet s;
      sound = λ c. record { counted = refl; below = tt; fours = tt };
      fine = λ c is. absurd cc;
      spared = λ x. refl;
    }
client-calls s host epoch (e ∷ h) kind fits legal =
    let allowed = clients s.kind s host epoch (looks s h) e kind legal.0 in
    let old = client-calls s host epoch h kind fits legal.1 in
    let spared : (x : Connection) → Spared x (after s e (looks s h)) =
    λ x. spared-as x (after s e (looks s h)) (looks s h) (sym (forgot-client s host epoch (looks s h) e kind allowed))
    (old.spared x) in
    record {
      standing =
          record {
            conns = client-conns s host epoch (looks s h) e kind fits allowed old.standing.conns;
            calls = λ c.
                good-turn (Unit {0}) ⊥ (CauseBy s (looks s h) e c) (Arrives s (looks s h) e c) s (looks s h)
                (after s e (looks s h)) c
                (called-turn s host epoch e h c kind fits legal old) (old.standing.calls c);
          };
      sound = λ c. sound-client s host epoch (looks s h) e c kind fits allowed old.standing.conns
          (spared (connection_of c)) (old.sound c);
      fine = λ c. (called-turn s host epoch e h c kind fits legal old).fine tt (old.fine c);
      spared = spared;
    }
