-- A call that has a record has a number of its channel's past, as long as no record of its connection is forgotten.
use Rattle.std.proofs.Common.{◌≡◌, ◌⊎◌, ◌==◌, ◌<◌, ◌≤◌, ◌+◌, ◌-◌, ◌^◌, ℕ, cond, if◌then◌else◌, not}
use Rattle.std.proofs.Common.{nat_le, is_some, Bool, true, false, List, [], ◌∷◌, filter}
use Rattle.std.proofs.Common.{Option, Some, None, Result, Ok, Err, refl, ◌∙◌, ap, sym, subst, inl, inr, arith}
use Rattle.std.proofs.lemmas.Bool.Decides.{nat_tests}
use Rattle.rx_model.specs.declared.answers.BadMsg.{BadMsg}
use Rattle.rx_model.specs.declared.answers.CallRefused.{CallRefused}
use Rattle.rx_model.specs.declared.answers.CallRefused.TheVariants as crowds
use Rattle.rx_model.specs.declared.wire.TheConstants.{CLIENT_INITIATED}
use Rattle.rx_model.specs.declared.answers.Took.{Took}
use Rattle.rx_model.specs.declared.answers.Took.TheVariants as tooks
use Rattle.rx_model.specs.declared.event.Event.{Event}
use Rattle.rx_model.specs.declared.event.Event.TheVariants as events
use Rattle.rx_model.specs.declared.names.CallName.{CallName}
use Rattle.rx_model.specs.declared.names.Host.{Host}
use Rattle.rx_rules.specs.After.{after, enters, is_end, prepared, taken_behind, taken_message}
use Rattle.rx_rules.specs.After.{taken_with, turned_away}
use Rattle.rx_rules.specs.CallLooks.{after_write}
use Rattle.rx_rules.specs.Judging.{outer_row, client_outer, is_peer}
use Rattle.rx_rules.specs.Life.{after_accept}
use Rattle.rx_rules.specs.Looks.{ConnLooks, Looks, call_named, channel_at, conn_at}
use Rattle.rx_rules.specs.Looks.{on_life, on_looks}
use Rattle.rx_model.specs.Message.{Message, has_flag}
use Rattle.rx_model.specs.Names.{Connection, Channel, channel_of, channels_of, connection_of, same_connection}
use Rattle.rx_model.specs.Reading.{reading_of}
use Rattle.rx_rules.specs.Records.{entered, silenced}
use Rattle.rx_rules.specs.Rules.{AllowedServer, call_among, call_answer, call_of_conn, call_on, is_free, is_worn}
use Rattle.rx_rules.specs.Rules.{next_number}
use Rattle.rx_rules.specs.Setup.{Setup, Kind, Server, Client, IsServer, named}
use Rattle.rx_rules.specs.Slots.{live}
use Rattle.rx_rules.proofs.EnterLaws.{keeps-used}
use Rattle.rx_rules.proofs.EveryLaws.{Every, every-filter, filter-passes}
use Rattle.rx_rules.proofs.FindLaws.{find_passes}
use Rattle.rx_history.proofs.Laws.ForgotLaws.{with-forgotten}
use Rattle.rx_rules.proofs.KeepsLaws.{Keeps, keeps-on_life, keeps-on_looks, keeps-refl, keeps-trans}
use Rattle.rx_rules.proofs.LifeLaws.{accept_waits}
use Rattle.rx_model.proofs.NameLaws.{connection_is, not_true}
use Rattle.rx_history.proofs.Laws.SoundLaws.{Sound, sound-keeps}
use Rattle.rx_history.proofs.Laws.TakenLaws.{sound-with}
use Rattle.rx_history.proofs.Given.GivenLaws.{keeps-finish, keeps-polled, keeps-read, keeps-silenced}
use Rattle.rx_history.proofs.MessageTaken.{turned-keeps, there-used}
use Rattle.rx_history.proofs.Laws.ForgotAfter.{forgot-finish, forgot-polled, forgot-turned}
use Rattle.rx_history.proofs.Places.{Spared, spared-as, keeps-entered, spared-entered, there-entered}

-- ---- a taking

keeps-prepared : (s : Setup) (got : Took) (c : CallName) (x : Connection) (l : Looks)
    → Spared (connection_of c) (prepared s got x l) → Keeps c l (prepared s got x l)
keeps-prepared s got c x l spared =
    keeps-trans c l (if enters got then entered s x l else l) (prepared s got x l) (of (enters got) spared)
    (keeps-used c x (if enters got then entered s x l else l))
  where
    of : (b : Bool) → Spared (connection_of c) (if b then entered s x l else l)
        → Keeps c l (if b then entered s x l else l)
    of true spared = keeps-entered c s x l spared
    of false spared = keeps-refl c l

spared-prepared : (y : Connection) (s : Setup) (got : Took) (x : Connection) (l : Looks)
    → Spared y (prepared s got x l) → Spared y l
spared-prepared y s got x l spared = of (enters got) spared
  where
    of : (b : Bool) → Spared y (if b then entered s x l else l) → Spared y l
    of true spared = spared-entered y s x l spared
    of false spared = spared

-- what is entered, or known, is there
pub there-prepared : (s : Setup) (got : Took) (x : Connection) (l : Looks)
    → IsServer s.kind ⊎ (is_some (conn_at l x) ≡ true)
    → enters got ≡ true → is_some (conn_at (prepared s got x l) x) ≡ true
there-prepared s got x l known is = there-used x (if enters got then entered s x l else l) (of known (enters got) is)
  where
    known-entered : is_some (conn_at l x) ≡ true → is_some (conn_at (entered s x l) x) ≡ true
    known-entered there = rw there there

    of : IsServer s.kind ⊎ (is_some (conn_at l x) ≡ true) → (b : Bool) → b ≡ true
        → is_some (conn_at (if b then entered s x l else l) x) ≡ true
    of (inl server) true is = there-entered s x l server
    of (inr there) true is = known-entered there
    of k false is = absurd cc

-- what stands of a call where its message is judged
pub sound-ready : (s : Setup) (got : Took) (c : CallName) (x : Connection) (l : Looks)
    → Spared (connection_of c) (prepared s got x l)
    → Sound l c 0 → Sound (prepared s got x l) c 0
sound-ready s got c x l spared sound = sound-keeps c l (prepared s got x l) 0 (keeps-prepared s got c x l spared) sound

sound-behind : (s : Setup) (row : Option Took) (from : Host) (c : CallName) (m : Message) (got : Took) (l : Looks)
    → (row ≡ None → IsServer s.kind ⊎ (is_some (conn_at l (connection_of (named s from m))) ≡ true))
    → Spared (connection_of c) (taken_behind s row from (named s from m) m got l)
    → Sound l c 0 → Sound (taken_behind s row from (named s from m) m got l) c 0
sound-behind s (Some row) from c m got l known spared sound =
    sound-keeps c l (turned_away row from m l) 0 (turned-keeps row from m c l) sound
sound-behind s None from c m got l known spared sound =
    let d : CallName = named s from m in
    let ready : Looks = prepared s got (connection_of d) l in
    let still : Spared (connection_of c) ready = spared-as (connection_of c) ready (taken_with s got d m ready)
    (with-forgotten s got d m ready) spared in
    sound-with s got c d m ready 0 (there-prepared s got (connection_of d) l (known refl)) (omega arith)
    (sound-ready s got c (connection_of d) l still sound)

spared-behind : (y : Connection) (s : Setup) (row : Option Took) (from : Host) (d : CallName) (m : Message)
    (got : Took) (l : Looks)
    → Spared y (taken_behind s row from d m got l) → Spared y l
spared-behind y s (Some row) from d m got l spared =
    spared-as y l (turned_away row from m l) (forgot-turned row from m l) spared
spared-behind y s None from d m got l spared =
    let ready : Looks = prepared s got (connection_of d) l in
    spared-prepared y s got (connection_of d) l
    (spared-as y ready (taken_with s got d m ready) (with-forgotten s got d m ready) spared)

-- where it was ready
pub spared-ready : (y : Connection) (s : Setup) (from : Host) (d : CallName) (m : Message) (got : Took) (l : Looks)
    → Spared y (taken_behind s None from d m got l) → Spared y (prepared s got (connection_of d) l)
spared-ready y s from d m got l spared =
    let ready : Looks = prepared s got (connection_of d) l in
    spared-as y ready (taken_with s got d m ready) (with-forgotten s got d m ready) spared

spared-message : (y : Connection) (s : Setup) (from : Host) (reading : Result Message BadMsg) (got : Took) (l : Looks)
    → Spared y (taken_message s from reading got l) → Spared y l
spared-message y s from (Err bad) got l spared = spared
spared-message y s from (Ok m) got l spared = spared-behind y s (outer_row s s.kind l from m) from
    (named s from m) m got l spared

peer-known : (from : Host) (o : Option ConnLooks) → is_peer from o ≡ true → is_some o ≡ true
peer-known from None is = absurd cc
peer-known from (Some r) is = refl

-- a client judges what comes of a connection that it has
pub client-known : (s : Setup) (l : Looks) (from : Host) (m : Message) → client_outer s l from m ≡ None
    → is_peer from (conn_at l (connection_of (named s from m))) ≡ true
client-known s l from m none = of (has_flag CLIENT_INITIATED m.flags)
    (is_peer from (conn_at l (connection_of (named s from m)))) _ refl none
  where
    of : (flagged peer : Bool) (rest : Option Took) → is_peer from (conn_at l (connection_of (named s from m))) ≡ peer
        → (if flagged then Some tooks.Foreign else if not peer then Some tooks.Strange else rest) ≡ None
        → is_peer from (conn_at l (connection_of (named s from m))) ≡ true
    of true peer rest is none = absurd cc
    of false true rest is none = is
    of false false rest is none = absurd cc

pub front-known : (s : Setup) (kind : Kind) (l : Looks) (from : Host) (m : Message) → outer_row s kind l from m ≡ None
    → IsServer kind ⊎ (is_some (conn_at l (connection_of (named s from m))) ≡ true)
front-known s (Server service nonces) l from m none = inl tt
front-known s (Client host epoch) l from m none = inr (peer-known from _ (client-known s l from m none))

pub sound-message : (s : Setup) (from : Host) (reading : Result Message BadMsg) (c : CallName) (got : Took) (l : Looks)
    → Spared (connection_of c) (taken_message s from reading got l) → Sound l c 0
    → Sound (taken_message s from reading got l) c 0
sound-message s from (Err bad) c got l spared sound = sound
sound-message s from (Ok m) c got l spared sound =
    sound-behind s (outer_row s s.kind l from m) from c m got l (front-known s s.kind l from m) spared sound

-- ---- a call of a client

abbrev pub IsOf : Connection → Channel → Type 0
IsOf x ch = (ch.connection ≡ x) × (ch.chan < 4)

are-of : (x : Connection) → Every (IsOf x) (channels_of x)
are-of x = ((refl, omega arith), ((refl, omega arith), ((refl, omega arith), ((refl, omega arith), tt))))

-- a call that a client starts
pub record NewCall (l : Looks) (x : Connection) (c : CallName) : Type 0 where
  pub conn : ConnLooks
  pub there : conn_at l x ≡ Some conn
  pub on : connection_of c ≡ x
  pub chan : c.chan < 4
  pub number : c.number ≡ next_number conn.first (channel_at l (channel_of c)).number
  pub fresh : ((channel_at l (channel_of c)).number == 2 ^ 32 - 1) ≡ false

abbrev ok_call : CallName → Result CallName CallRefused
ok_call c = Ok c

some_ok : (a b : CallName) → ok_call a ≡ ok_call b → a ≡ b
some_ok a b is = cc

call-here : (l : Looks) (x : Connection) (r : ConnLooks) (ch : Channel) (c : CallName) → conn_at l x ≡ Some r
    → IsOf x ch
    → not (is_worn l ch) ≡ true → c ≡ call_named ch (next_number r.first (channel_at l ch).number) → NewCall l x c
call-here l x r ch c there of fresh is =
    let at : channel_of c ≡ ch = ap channel_of is in
    record {
      conn = r;
      there = there;
      on = ap (λ (d : Channel). d.connection) at ∙ of.0;
      chan = (let same : c.chan ≡ ch.chan = ap (λ (d : Channel). d.chan) at in let low = of.1 in omega arith);
      number = ap (λ (d : CallName). d.number) is ∙ ap (λ (d : Channel). next_number r.first (channel_at l d).number)
          (sym at);
      fresh = subst (λ (d : Channel). is_worn l d ≡ false) (sym at) (not_true (is_worn l ch) fresh);
    }

call-among : (s : Setup) (l : Looks) (x : Connection) (r : ConnLooks) (chs : List Channel) (c : CallName) → conn_at l x
    ≡ Some r
    → Every (IsOf x) chs → Ok c ≡ call_among s l r chs → NewCall l x c
call-among s l x r [] c there all is = absurd cc
call-among s l x r (ch ∷ chs) c there all is =
    on (filter (λ d. not (is_worn l d)) (ch ∷ chs)) (every-filter (IsOf x) (λ d. not (is_worn l d)) (ch ∷ chs) all)
    (filter-passes (λ d. not (is_worn l d)) (ch ∷ chs)) is
  where
    one : (ch : Channel) (b : Bool) → IsOf x ch → not (is_worn l ch) ≡ true
        → Ok c ≡ cond b (Err crowds.NoRoom) (Ok (call_named ch (next_number r.first (channel_at l ch).number)))
        → NewCall l x c
    one ch true of fresh is = absurd cc
    one ch false of fresh is = call-here l x r ch c there of fresh (some_ok c _ is)

    on : (chs : List Channel) → Every (IsOf x) chs → Every (λ d. not (is_worn l d) ≡ true) chs → Ok c
        ≡ call_on s l r chs → NewCall l x c
    on [] all fresh is = absurd cc
    on (ch ∷ chs) all fresh is = one ch (nat_le s.limits.calls (live l)) all.0 fresh.0 is

-- what the rules say of it
pub new-call : (s : Setup) (host : Host) (epoch cid : ℕ) (l : Looks) (c : CallName) → Ok c
    ≡ call_answer s host epoch l cid
    → NewCall l (record { host = host; epoch = epoch; cid = cid }) c
new-call s host epoch cid l c is = of (conn_at l x) refl is
  where
    x : Connection
    x = record { host = host; epoch = epoch; cid = cid }

    of : (o : Option ConnLooks) → conn_at l x ≡ o → Ok c ≡ call_of_conn s l o → NewCall l x c
    of None there is = absurd cc
    of (Some r) there is =
        let own : r.connection ≡ x = connection_is r.connection x
        (find_passes (λ q. same_connection q.connection x) l.conns r there) in
        call-among s l x r (filter (is_free l) (channels_of r.connection)) c there
        (every-filter (IsOf x) (is_free l) (channels_of r.connection)
        (subst (λ (y : Connection). Every (IsOf x) (channels_of y)) (sym own) (are-of x))) is

pub next-above : (first number : ℕ) → 1 ≤ first → number < next_number first number
next-above first number low =
    (elim (number == 0) as (λ b. (number == 0) ≡ b → number < (if b then first else number + 1)) [
      | true ↦ λ zero. (let is : number ≡ 0 = grind (arith, nat_tests) in omega arith)
      | false ↦ λ more. omega arith
    ]) refl

-- ---- each event

pub spared-server : (y : Connection) (s : Setup) (l : Looks) (e : Event) → AllowedServer s l e → Spared y (after s e l)
    → Spared y l
spared-server y s l (events.Accepted (Some d)) allowed spared = spared
spared-server y s l (events.Accepted None) allowed spared = spared
spared-server y s l (events.Wrote d offered got bytes) allowed spared = spared
spared-server y s l (events.HasRead d max got bytes) allowed spared = spared
spared-server y s l (events.Finished d code got) allowed spared =
    spared-as y l (after s (events.Finished d code got) l) (forgot-finish d code got l) spared
spared-server y s l (events.Taken from bytes got) allowed spared = spared-message y s from
    (reading_of bytes) got l spared
spared-server y s l (events.Polled got) allowed spared =
    spared-as y l (after s (events.Polled got) l) (forgot-polled s got l) spared
spared-server y s l (events.Clocked now) allowed spared = spared
spared-server y s l (events.Linked to service first got) allowed spared = absurd allowed
spared-server y s l (events.Called cid got) allowed spared = absurd allowed
spared-server y s l (events.Shut d got) allowed spared = absurd allowed
spared-server y s l (events.Ended d got) allowed spared = absurd allowed
spared-server y s l (events.Cancelled d code got) allowed spared = absurd allowed

pub sound-server : (s : Setup) (l : Looks) (e : Event) (c : CallName) → AllowedServer s l e
    → Spared (connection_of c) (after s e l) → Sound l c 0 → Sound (after s e l) c 0
sound-server s l (events.Accepted (Some d)) c allowed spared sound =
    sound-keeps c l (on_life d after_accept l) 0 (keeps-on_life c d after_accept l accept_waits) sound
sound-server s l (events.Accepted None) c allowed spared sound = sound
sound-server s l (events.Wrote d offered got bytes) c allowed spared sound =
    sound-keeps c l (on_looks d (after_write bytes) l) 0 (keeps-on_looks c d (after_write bytes) l) sound
sound-server s l (events.HasRead d max got bytes) c allowed spared sound =
    sound-keeps c l (after s (events.HasRead d max got bytes) l) 0 (keeps-read c d (is_end got) bytes l) sound
sound-server s l (events.Finished d code got) c allowed spared sound =
    sound-keeps c l (after s (events.Finished d code got) l) 0 (keeps-finish c d code got l) sound
sound-server s l (events.Taken from bytes got) c allowed spared sound = sound-message s from
    (reading_of bytes) c got l spared sound
sound-server s l (events.Polled got) c allowed spared sound =
    sound-keeps c l (after s (events.Polled got) l) 0
    (keeps-trans c l (silenced l) _ (keeps-silenced c l) (keeps-polled s got c (silenced l))) sound
sound-server s l (events.Clocked now) c allowed spared sound =
    record { counted = sound.counted; below = sound.below; fours = sound.fours }
sound-server s l (events.Linked to service first got) c allowed spared sound = absurd allowed
sound-server s l (events.Called cid got) c allowed spared sound = absurd allowed
sound-server s l (events.Shut d got) c allowed spared sound = absurd allowed
sound-server s l (events.Ended d got) c allowed spared sound = absurd allowed
sound-server s l (events.Cancelled d code got) c allowed spared sound = absurd allowed
