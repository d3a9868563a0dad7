-- The records of connections are good at every moment.
use Rattle.std.proofs.Common.{◌≡◌, ◌&&◌, ◌==◌, ◌<◌, ◌≤◌, ◌+◌, ◌%◌, ◌^◌, ℕ, ℤ, suc, zero, cond, if◌then◌else◌, not}
use Rattle.std.proofs.Common.{nat_lt, is_some, Bool, true, false, List, [], ◌∷◌, ◌++◌, map, drop}
use Rattle.std.proofs.Common.{Option, Some, None, Result, Ok, Err, refl, sym, subst, arith}
use Rattle.std.specs.List.{find}
use Rattle.rx_model.specs.declared.answers.BadMsg.{BadMsg}
use Rattle.rx_model.specs.declared.answers.ServeRefused.{ServeRefused}
use Rattle.rx_model.specs.declared.answers.ServeRefused.TheVariants as refusals
use Rattle.rx_model.specs.declared.answers.Took.{Took}
use Rattle.rx_model.specs.declared.answers.Took.TheVariants as tooks
use Rattle.rx_model.specs.declared.names.CallName.{CallName}
use Rattle.rx_model.specs.declared.names.Host.{Host}
use Rattle.rx_model.specs.declared.wire.TheConstants.{RX_CALL_DEAD, RX_PROTOCOL_ERROR}
use Rattle.rx_rules.specs.After.{cancelled, challenged, counted, enters, finish_done, given_body, given_by}
use Rattle.rx_rules.specs.After.{given_message, is_ok_end, is_zero, linked, owing_abort, owing_ackall, owing_again}
use Rattle.rx_rules.specs.After.{owing_busy, prepared}
use Rattle.rx_rules.specs.After.{read_done, served_code, stopped_all, taken_at, taken_behind, taken_data, taken_heard}
use Rattle.rx_rules.specs.After.{taken_message}
use Rattle.rx_rules.specs.After.{taken_over, taken_stopped, taken_unserved, taken_with, told_code, turned_away}
use Rattle.rx_rules.specs.After.{with_first, settled}
use Rattle.rx_model.specs.Body.{Body}
use Rattle.rx_model.specs.Body as bodies
use Rattle.rx_rules.specs.CallLooks.{after_shut}
use Rattle.rx_rules.specs.Judging.{opened, outer_row}
use Rattle.rx_rules.specs.Life.{Life, after_code, after_later, is_calling}
use Rattle.rx_rules.specs.Life as lives
use Rattle.rx_rules.specs.Looks.{CallRecord, ChannelLooks, ConnLooks, Looks, call_at, channel_at, changed_at, conn_at}
use Rattle.rx_rules.specs.Looks.{fresh_channel, is_call}
use Rattle.rx_rules.specs.Looks.{is_proved, latest_name, on_call, on_channel, on_conn, on_life, on_looks}
use Rattle.rx_model.specs.Message.{Message}
use Rattle.rx_model.specs.Names.{Connection, Channel, channel_of, channels_of, connection_of, same_connection}
use Rattle.rx_model.specs.Reading.{reading_of}
use Rattle.rx_rules.specs.Records.{entered, fresh_conn, idle_conn, is_full, placed, started, started_later, used}
use Rattle.rx_rules.specs.Records.{with_conn}
use Rattle.rx_rules.specs.Setup.{Setup, Kind, Server, Client, FitsSetup, FitsKind, is_client, named}
use Rattle.rx_model.specs.Strays.{is_stray}
use Rattle.rx_rules.proofs.EveryLaws.{Every}

-- its numbers fit the fields of a header, and its cid has its two low bits 0
abbrev pub FitsConnection : Connection → Type 0
FitsConnection x = (x.epoch < 2 ^ 32) × (x.cid % 4 ≡ 0) × (x.cid + 4 ≤ 2 ^ 32)

-- of a server's: its peer is its client's host, and its name fits; of a client's: its cid
abbrev pub OfKind : Kind → ConnLooks → Type 0
OfKind (Server service nonces) r = (r.peer ≡ r.connection.host) × FitsConnection r.connection
OfKind (Client host epoch) r = (r.connection.cid % 4 ≡ 0) × (r.connection.cid + 4 ≤ 2 ^ 32)
    × (r.connection.epoch ≡ epoch)

pub record GoodConn (s : Setup) (r : ConnLooks) : Type 0 where
  pub service : r.service < 2 ^ 16
  pub first : 1 ≤ r.first
  pub first_fits : r.first < 2 ^ 32
  pub numbers : Every (λ q. q.number < 2 ^ 32) r.channels
  pub kind : OfKind s.kind r

abbrev pub Conns : Setup → Looks → Type 0
Conns s l = Every (GoodConn s) l.conns

-- the record that is found is good
pub found-good : (s : Setup) (p : ConnLooks → Bool) (rs : List ConnLooks) (r : ConnLooks) → Every (GoodConn s) rs
    → find p rs ≡ Some r
    → GoodConn s r
found-good s p [] r all is = absurd cc
found-good s p (q ∷ qs) r all is =
    (elim (p q) as (λ b. cond b (Some q) (find p qs) ≡ Some r → GoodConn s r) [
      | true ↦ λ e. (let same : q ≡ r = cc (e) in subst (λ (x : ConnLooks). GoodConn s x) same all.0)
      | false ↦ λ e. found-good s p qs r all.1 e
    ]) is

every-map : (s : Setup) (f : ConnLooks → ConnLooks) (rs : List ConnLooks)
    → ((r : ConnLooks) → GoodConn s r → GoodConn s (f r))
    → Every (GoodConn s) rs → Every (GoodConn s) (map f rs)
every-map s f [] good all = tt
every-map s f (r ∷ rs) good all = (good r all.0, every-map s f rs good all.1)

every-last : (s : Setup) (rs : List ConnLooks) (r : ConnLooks) → Every (GoodConn s) rs → GoodConn s r
    → Every (GoodConn s) (rs ++ r ∷ [])
every-last s [] r all good = (good, tt)
every-last s (q ∷ qs) r all good = (all.0, every-last s qs r all.1 good)

good-if : (s : Setup) (b : Bool) (f : ConnLooks → ConnLooks) (r : ConnLooks) → (GoodConn s r → GoodConn s (f r))
    → GoodConn s r
    → GoodConn s (cond b (f r) r)
good-if s true f r keeps good = keeps good
good-if s false f r keeps good = good

pub good-on_conn : (s : Setup) (x : Connection) (f : ConnLooks → ConnLooks) (l : Looks)
    → ((r : ConnLooks) → GoodConn s r → GoodConn s (f r)) → Conns s l → Conns s (on_conn x f l)
good-on_conn s x f l keeps all =
    every-map s (λ r. if same_connection r.connection x then f r else r) l.conns
    (λ r good. good-if s (same_connection r.connection x) f r (keeps r) good) all

numbers-changed : (n : ℕ) (f : ChannelLooks → ChannelLooks) (qs : List ChannelLooks)
    → ((q : ChannelLooks) → q.number < 2 ^ 32 → (f q).number < 2 ^ 32)
    → Every (λ q. q.number < 2 ^ 32) qs → Every (λ q. q.number < 2 ^ 32) (changed_at n f qs)
numbers-changed n f [] keeps all = tt
numbers-changed zero f (q ∷ qs) keeps all = (keeps q all.0, all.1)
numbers-changed (suc n) f (q ∷ qs) keeps all = (all.0, numbers-changed n f qs keeps all.1)

of-kind : (kind : Kind) (r : ConnLooks) (qs : List ChannelLooks) → OfKind kind r
    → OfKind kind (record r { channels = qs })
of-kind (Server service nonces) r qs is = is
of-kind (Client host epoch) r qs is = is

pub good-on_channel : (s : Setup) (ch : Channel) (f : ChannelLooks → ChannelLooks) (l : Looks)
    → ((q : ChannelLooks) → q.number < 2 ^ 32 → (f q).number < 2 ^ 32) → Conns s l → Conns s (on_channel ch f l)
good-on_channel s ch f l keeps all =
    good-on_conn s ch.connection (λ r. record r { channels = changed_at ch.chan f r.channels }) l
    (λ r good. record {
      service = good.service;
      first = good.first;
      first_fits = good.first_fits;
      numbers = numbers-changed ch.chan f r.channels keeps good.numbers;
      kind = of-kind s.kind r (changed_at ch.chan f r.channels) good.kind;
    }) all

if-good : (s : Setup) (b : Bool) (m l : Looks) → Conns s m → Conns s l → Conns s (if b then m else l)
if-good s true m l here there = here
if-good s false m l here there = there

-- ---- changes

kind-used : (kind : Kind) (r : ConnLooks) (n : ℕ) → OfKind kind r → OfKind kind (record r { last_use = n })
kind-used (Server service nonces) r n is = is
kind-used (Client host epoch) r n is = is

good-used : (s : Setup) (x : Connection) (l : Looks) → Conns s l → Conns s (used x l)
good-used s x l all =
    good-on_conn s x (λ r. record r { last_use = l.now }) l
    (λ r good. record {
      service = good.service;
      first = good.first;
      first_fits = good.first_fits;
      numbers = good.numbers;
      kind = kind-used s.kind r l.now good.kind;
    }) all

kind-counted : (kind : Kind) (r : ConnLooks) (n : ℕ) → OfKind kind r
    → OfKind kind (record r { given = suc r.given; last_use = n })
kind-counted (Server service nonces) r n is = is
kind-counted (Client host epoch) r n is = is

good-counted : (s : Setup) (x : Connection) (l : Looks) → Conns s l → Conns s (counted x l)
good-counted s x l all =
    good-on_conn s x (λ r. record r { given = suc r.given; last_use = l.now }) l
    (λ r good. record {
      service = good.service;
      first = good.first;
      first_fits = good.first_fits;
      numbers = good.numbers;
      kind = kind-counted s.kind r l.now good.kind;
    }) all

kind-proved : (kind : Kind) (r : ConnLooks) → OfKind kind r → OfKind kind (record r { proved = true })
kind-proved (Server service nonces) r is = is
kind-proved (Client host epoch) r is = is

good-proved : (s : Setup) (x : Connection) (l : Looks) → Conns s l
    → Conns s (on_conn x (λ r. record r { proved = true }) l)
good-proved s x l all =
    good-on_conn s x (λ r. record r { proved = true }) l
    (λ r good. record {
      service = good.service;
      first = good.first;
      first_fits = good.first_fits;
      numbers = good.numbers;
      kind = kind-proved s.kind r good.kind;
    }) all

good-challenged : (s : Setup) (d : CallName) (l : Looks) → Conns s l → Conns s (challenged s d l)
good-challenged s d l all =
    if-good s (not (is_client s.kind) && (s.class.challenges && not (is_proved l (connection_of d))))
    (on_channel (channel_of d) (λ q. record q { owed_challenge = true }) l) l
    (good-on_channel s (channel_of d) (λ q. record q { owed_challenge = true }) l (λ q low. low) all) all

pub good-started : (s : Setup) (life : Life) (d : CallName) (l : Looks) → d.number < 2 ^ 32 → Conns s l
    → Conns s (started s life d l)
good-started s life d l fits all = good-on_channel s (channel_of d) (λ q. fresh_channel d.number) l (λ q low. fits) all

good-opened : (s : Setup) (d : CallName) (l : Looks) → d.number < 2 ^ 32 → Conns s l → Conns s (opened s d l)
good-opened s d l fits all =
    if-good s (nat_lt (channel_at l (channel_of d)).number d.number) (started_later s d l) l
    (good-started s lives.Waiting d (on_life (latest_name l (channel_of d)) after_later l) fits all) all

good-data : (s : Setup) (got : Took) (d : CallName) (m : Message) (l : Looks) → Conns s l
    → Conns s (taken_data s got d m l)
good-data s got d m l all = good-challenged s d
    (record (taken_at s got d m l) { firsts = with_first got d m.seq l.firsts }) all

good-heard : (s : Setup) (d : CallName) (body : Body) (l : Looks) → Conns s l → Conns s (taken_heard s d body l)
good-heard s d (bodies.Ack a) l all = good-challenged s d (on_call d settled l) all
good-heard s d bodies.AckAll l all = all
good-heard s d (bodies.Response bytes) l all = good-proved s (connection_of d) l all
good-heard s d (bodies.Challenge bytes) l all =
    good-on_channel s (channel_of d) (λ q. record q { owed_response = s.class.respond d bytes }) l (λ q low. low) all
good-heard s d _ l all = all

good-stopped : (s : Setup) (d : CallName) (body : Body) (l : Looks) → Conns s l → Conns s (taken_stopped d body l)
good-stopped s d (bodies.Abort code) l all =
    if-good s (d.number == 0) (stopped_all (connection_of d) code l) (on_life d (after_code code) l) all all
good-stopped s d (bodies.Response bytes) l all =
    good-on_channel s (channel_of d) (owing_abort (Some RX_PROTOCOL_ERROR))
    (on_life d (after_code RX_PROTOCOL_ERROR) l) (λ q low. low) all
good-stopped s d _ l all = all

ackall-low : (owes : Bool) (q : ChannelLooks) → q.number < 2 ^ 32 → (owing_ackall owes q).number < 2 ^ 32
ackall-low true q low = low
ackall-low false q low = low

abort-low : (code : Option ℤ) (q : ChannelLooks) → q.number < 2 ^ 32 → (owing_abort code q).number < 2 ^ 32
abort-low None q low = low
abort-low (Some code) q low = low

again-low : (body : Body) (life : Life) (q : ChannelLooks) → q.number < 2 ^ 32
    → (owing_again body life q).number < 2 ^ 32
again-low (bodies.Chunk payload) life q low = ackall-low (is_ok_end life) (owing_abort (told_code life) q)
    (abort-low (told_code life) q low)
again-low (bodies.Ack a) life q low = abort-low (served_code life) q low
again-low _ life q low = low

good-over : (s : Setup) (d : CallName) (body : Body) (o : Option CallRecord) (l : Looks) → Conns s l
    → Conns s (taken_over d body o l)
good-over s d body None l all = all
good-over s d body (Some k) l all = good-on_channel s (channel_of d) (owing_again body k.life) l
    (again-low body k.life) all

good-busy : (s : Setup) (d : CallName) (l : Looks) → Conns s l
    → Conns s (on_channel (channel_of d) (owing_busy d.number) l)
good-busy s d l all = good-on_channel s (channel_of d) (owing_busy d.number) l (λ q low. low) all

good-with : (s : Setup) (got : Took) (d : CallName) (m : Message) (l : Looks) → d.number < 2 ^ 32 → Conns s l
    → Conns s (taken_with s got d m l)
good-with s tooks.Kept d m l fits all = good-data s tooks.Kept d m (opened s d l) (good-opened s d l fits all)
good-with s tooks.NoSlot d m l fits all = good-data s tooks.NoSlot d m (opened s d l) (good-opened s d l fits all)
good-with s tooks.Repeat d m l fits all = good-data s tooks.Repeat d m l all
good-with s tooks.Beyond d m l fits all = good-data s tooks.Beyond d m l all
good-with s tooks.Clash d m l fits all = good-data s tooks.Clash d m l all
good-with s tooks.Heard d m l fits all = good-heard s d m.body (taken_at s tooks.Heard d m l) all
good-with s tooks.Stopped d m l fits all = good-stopped s d m.body l all
good-with s tooks.Busy d m l fits all = good-busy s d (on_life (latest_name l (channel_of d))
    (after_code RX_CALL_DEAD) l) all
good-with s tooks.NoRoom d m l fits all = good-busy s d l all
good-with s tooks.Over d m l fits all = good-over s d m.body (call_at l d) l all
good-with s _ d m l fits all = all

-- ---- entering

fresh-low : (x : Connection) → Every (λ q. q.number < 2 ^ 32) (map (λ ch. fresh_channel 0) (channels_of x))
fresh-low x = (omega arith, (omega arith, (omega arith, (omega arith, tt))))

pub good-placed : (s : Setup) (new : ConnLooks) (o : Option ConnLooks) (l : Looks) → GoodConn s new → Conns s l
    → Conns s (placed new o l)
good-placed s new None l good all = every-last s l.conns new all good
good-placed s new (Some old) l good all =
    every-map s (λ r. if same_connection r.connection old.connection then new else r) l.conns
    (λ r own. good-if s (same_connection r.connection old.connection) (λ q. new) r (λ y. good) own) all

good-with_conn : (s : Setup) (kind : Kind) (x : Connection) (l : Looks) → s.kind ≡ kind → FitsKind kind
    → FitsConnection x → Conns s l
    → Conns s (with_conn s kind x l)
good-with_conn s (Client host epoch) x l is fits low all = all
good-with_conn s (Server service nonces) x l is fits low all =
    good-placed s (fresh_conn x x.host service 1 l) (if is_full s l then idle_conn l else None) l
    (record {
      service = fits.0;
      first = omega arith;
      first_fits = omega arith;
      numbers = fresh-low x;
      kind = subst (λ (k : Kind). OfKind k (fresh_conn x x.host service 1 l)) (sym is) (refl, low);
    }) all

pub good-prepared : (s : Setup) (got : Took) (x : Connection) (l : Looks) → FitsSetup s → FitsConnection x → Conns s l
    → Conns s (prepared s got x l)
good-prepared s got x l fits low all =
    good-used s x (if enters got then entered s x l else l)
    (if-good s (enters got) (entered s x l) l
    (if-good s (is_some (conn_at l x)) l (with_conn s s.kind x l) all
    (good-with_conn s s.kind x l refl fits.kind low all)) all)

good-turned : (s : Setup) (row : Took) (from : Host) (m : Message) (l : Looks) → Conns s l
    → Conns s (turned_away row from m l)
good-turned s tooks.Unserved from m l all = of m.body
  where
    of : (body : Body) → Conns s (taken_unserved from m body l)
    of (bodies.Chunk payload) = all
    of _ = all
good-turned s _ from m l all = all

good-behind : (s : Setup) (row : Option Took) (from : Host) (d : CallName) (m : Message) (got : Took) (l : Looks)
    → FitsSetup s
    → d.number < 2 ^ 32 → FitsConnection (connection_of d) → Conns s l → Conns s (taken_behind s row from d m got l)
good-behind s (Some row) from d m got l fits low named all = good-turned s row from m l all
good-behind s None from d m got l fits low named all =
    good-with s got d m (prepared s got (connection_of d) l) low
    (good-prepared s got (connection_of d) l fits named all)

pub good-message : (s : Setup) (from : Host) (reading : Result Message BadMsg) (got : Took) (l : Looks) → FitsSetup s
    → ((m : Message) → reading ≡ Ok m → (m.number < 2 ^ 32) × (m.epoch < 2 ^ 32) × (m.cid < 2 ^ 32)) → Conns s l
    → Conns s (taken_message s from reading got l)
good-message s from (Err bad) got l fits low all = all
good-message s from (Ok m) got l fits low all =
    let f = low m refl in
    let top = f.2 in
    good-behind s (outer_row s s.kind l from m) from (named s from m) m got l fits f.0
    (f.1, (omega arith), (omega arith)) all

-- ---- givings and the application's calls

good-body : (s : Setup) (d : CallName) (m : Message) (body : Body) (l : Looks) → Conns s l
    → Conns s (given_body d m body l)
good-body s d m (bodies.Chunk payload) l all = all
good-body s d m (bodies.Ack a) l all = all
good-body s d m (bodies.Abort code) l all = good-on_channel s (channel_of d) (λ q. record q { owed_abort = None }) l
    (λ q low. low) all
good-body s d m bodies.Busy l all = good-on_channel s (channel_of d) (λ q. record q { owed_busy = None }) l
    (λ q low. low) all
good-body s d m (bodies.Challenge bytes) l all =
    good-on_channel s (channel_of d) (λ q. record q { owed_challenge = false }) l (λ q low. low) all
good-body s d m (bodies.Response bytes) l all =
    good-on_channel s (channel_of d) (λ q. record q { owed_response = None }) l (λ q low. low) all
good-body s d m bodies.AckAll l all = good-on_channel s (channel_of d) (λ q. record q { owed_ackall = false }) l
    (λ q low. low) all

pub good-given : (s : Setup) (got : Option (Host × List ℕ)) (l : Looks) → Conns s l → Conns s (given_by s got l)
good-given s None l all = all
good-given s (Some (to, bytes)) l all = of (reading_of bytes)
  where
    of : (reading : Result Message BadMsg) → Conns s (given_message s to reading l)
    of (Err bad) = all
    of (Ok m) =
        if-good s (is_stray m m.body) (record l { strays = drop 1 l.strays })
        (given_body (named s to m) m m.body (counted (connection_of (named s to m)) l)) all
        (good-body s (named s to m) m m.body (counted (connection_of (named s to m)) l)
        (good-counted s (connection_of (named s to m)) l all))

pub good-read : (s : Setup) (d : CallName) (end : Bool) (bytes : List ℕ) (l : Looks) → Conns s l
    → Conns s (read_done d end bytes l)
good-read s d end bytes l all =
    good-on_channel s (channel_of d) (owing_ackall (end && is_call (λ k. is_calling k.life) (call_at l d))) l
    (ackall-low (end && is_call (λ k. is_calling k.life) (call_at l d))) all

pub good-finish : (s : Setup) (d : CallName) (code : ℤ) (got : Result (Unit {0}) ServeRefused) (l : Looks) → Conns s l
    → Conns s (finish_done d code got l)
good-finish s d code (Ok done) l all =
    if-good s (is_zero code) (on_looks d after_shut l) (on_channel (channel_of d) (owing_abort (Some code)) l) all
    (good-on_channel s (channel_of d) (owing_abort (Some code)) l (λ q low. low) all)
good-finish s d code (Err (refusals.Gone told)) l all = all
good-finish s d code (Err refusals.NotOpen) l all = all
good-finish s d code (Err refusals.Unread) l all = all

pub good-cancelled : (s : Setup) (d : CallName) (code : ℤ) (l : Looks) → Conns s l → Conns s (cancelled d code l)
good-cancelled s d code l all = good-on_channel s (channel_of d) (owing_abort (Some code)) l (λ q low. low) all

module _ (s : Setup) (host : Host) (epoch : ℕ) (to : Host) (service first cid : ℕ) (l : Looks) where
  pub good-linked : s.kind ≡ Client host epoch → service < 2 ^ 16 → 1 ≤ first → first < 2 ^ 32 → cid % 4 ≡ 0
      → cid + 4 ≤ 2 ^ 32 → Conns s l → Conns s (linked (Client host epoch) to service first cid l)
  good-linked is low some fits whole top all =
      let new : ConnLooks = fresh_conn (record { host = host; epoch = epoch; cid = cid }) to service first l in
      good-placed s new None l
      (record {
        service = low;
        first = some;
        first_fits = fits;
        numbers = fresh-low new.connection;
        kind = subst (λ (k : Kind). OfKind k new) (sym is) (whole, top, refl);
      }) all
