-- Of each channel of a server whose latest call has a number, that call has a record.
use Rattle.std.proofs.Common.{◌≡◌, ◌⊎◌, ◌≤◌, cond, if◌then◌else◌, is_some, map, nat_lt, ℕ, zero, suc, Bool, true, false}
use Rattle.std.proofs.Common.{List, [], ◌∷◌, Option, Some, None, option_map, Result, Ok, Err, refl, ◌∙◌, ap, sym}
use Rattle.std.proofs.Common.{subst, inl, inr, arith}
use Rattle.rx_model.specs.declared.answers.BadMsg.{BadMsg}
use Rattle.rx_model.specs.declared.answers.Took.{Took}
use Rattle.rx_model.specs.declared.answers.Took.TheVariants as tooks
use Rattle.rx_model.specs.declared.event.Event.{Event}
use Rattle.rx_model.specs.declared.event.Event.TheVariants as events
use Rattle.rx_model.specs.declared.names.CallName.{CallName}
use Rattle.rx_model.specs.declared.names.Host.{Host}
use Rattle.rx_model.specs.Message.{Message}
use Rattle.rx_model.specs.Names.{Channel, Connection, channel_of, connection_of, same_connection}
use Rattle.rx_model.specs.Reading.{reading_of}
use Rattle.rx_model.proofs.NameLaws.{connection_is, name_itself}
use Rattle.rx_rules.specs.After.{after, enters, is_end, looks, prepared, taken_at, taken_behind, taken_data}
use Rattle.rx_rules.specs.After.{taken_message}
use Rattle.rx_rules.specs.After.{taken_with, turned_away, with_first}
use Rattle.rx_rules.specs.CallLooks.{after_taken, after_write, fresh_call}
use Rattle.rx_rules.specs.Judging.{opened, outer_row}
use Rattle.rx_rules.specs.Life.{after_accept, after_later}
use Rattle.rx_rules.specs.Life as lives
use Rattle.rx_rules.specs.Looks.{CallRecord, ChannelLooks, ConnLooks, Looks, call_at, call_named, changed_at}
use Rattle.rx_rules.specs.Looks.{channel_at}
use Rattle.rx_rules.specs.Looks.{conn_at, fresh_channel, latest_name, on_life}
use Rattle.rx_rules.specs.Records.{entered, fresh_conn, idle_conn, is_full, placed, started_later, with_conn}
use Rattle.rx_rules.specs.Rules.{AllowedServer, Legal}
use Rattle.rx_rules.specs.Setup.{Client, FitsSetup, IsServer, Kind, Server, Setup, named, pace_of}
use Rattle.rx_rules.specs.Slots.{node_view}
use Rattle.rx_rules.proofs.ConnsLaws.{channel_number, number_in, number_of}
use Rattle.rx_rules.proofs.EveryLaws.{Every, every-append}
use Rattle.rx_rules.proofs.FindLaws.{find_passes}
use Rattle.rx_history.proofs.Calls.{call-changed}
use Rattle.rx_history.proofs.Differ.{every_found}
use Rattle.rx_history.proofs.Dimensions.Dims.{Dims, Same, dims_life, dims_looks}
use Rattle.rx_history.proofs.Dimensions.DimsEvents.{finish_dims, polled_dims, read_dims}
use Rattle.rx_history.proofs.Dimensions.DimsTaken.{data_dims, turned_dims, used_dims, with_dims}
use Rattle.rx_history.proofs.Events.{call-by}
use Rattle.rx_history.proofs.LifeFalls.{accept_falls}
use Rattle.rx_history.proofs.Laws.OnceLaw.{served}
use Rattle.rx_history.proofs.Pairwise.{pairs_every}
use Rattle.rx_history.proofs.Places.{fresh-number}
use Rattle.rx_history.proofs.Room.RoomTaken.{challenged-calls}
use Rattle.rx_history.proofs.Takes.{call_at-any}
use Rattle.rx_between.proofs.Followed.{some_stays}
use Rattle.rx_history.proofs.Laws.ShownLaws.{given_way}

-- the latest call of each channel of a connection has a record, where it has a number
abbrev pub HasLatest : Looks → ConnLooks → Type 0
HasLatest m r =
    (n : ℕ) → 1 ≤ number_in r.channels n
    → is_some (call_at m (call_named (record { connection = r.connection; chan = n }) (number_in r.channels n))) ≡ true

-- of each connection of look-ups, in others
abbrev pub HaveLatest : Looks → Looks → Type 0
HaveLatest m l = Every (HasLatest m) l.conns

-- the calls of look-ups have records in others
abbrev Knows : Looks → Looks → Type 0
Knows m l = (c : CallName) → is_some (call_at l c) ≡ true → is_some (call_at m c) ≡ true

more : (m l : Looks) (rs : List ConnLooks) → Knows m l → Every (HasLatest l) rs → Every (HasLatest m) rs
more m l [] knows all = tt
more m l (r ∷ rs) knows all = ((λ n some. knows _ (all.0 n some)), more m l rs knows all.1)

-- where only what leaves the numbers changes
by_dims : (m l k : Looks) → Dims l k → HaveLatest m l → HaveLatest m k
by_dims m l k dims all =
    pairs_every Same (HasLatest m) (HasLatest m) l.conns k.conns (λ a b same has n some. one a b same has n some)
    dims.conns
    all
  where
    one : (a b : ConnLooks) → Same a b → HasLatest m a → HasLatest m b
    one a b same has n some =
        (let there = has n (subst (λ (i : ℕ). 1 ≤ i) (same.numbers n) some) in
        let name : call_named (record { connection = a.connection; chan = n }) (number_in a.channels n)
        ≡ call_named (record { connection = b.connection; chan = n }) (number_in b.channels n) =
        λ i. call_named (record { connection = sym same.alike.connection i; chan = n }) (sym (same.numbers n) i) in
        subst (λ (c : CallName). is_some (call_at m c) ≡ true) name there)

-- by the same look-ups
own_dims : (l k : Looks) → Dims l k → HaveLatest k l → HaveLatest k k
own_dims l k dims all = by_dims k l k dims all

-- ---- a connection is entered

new_latest : (m : Looks) (x : Connection) (service : ℕ) (l : Looks) → HasLatest m (fresh_conn x x.host service 1 l)
new_latest m x service l n some = absurd (let none = fresh-number x n in omega arith)

instead_latest : (m : Looks) (new old : ConnLooks) (rs : List ConnLooks) → HasLatest m new → Every (HasLatest m) rs
    → Every (HasLatest m) (map (given_way new old) rs)
instead_latest m new old [] fresh all = tt
instead_latest m new old (r ∷ rs) fresh all =
    (one (same_connection r.connection old.connection), instead_latest m new old rs fresh all.1)
  where
    one : (b : Bool) → HasLatest m (cond b new r)
    one true = fresh
    one false = all.0

placed_latest : (m : Looks) (new : ConnLooks) (o : Option ConnLooks) (l : Looks) → HasLatest m new → HaveLatest m l
    → HaveLatest m (placed new o l)
placed_latest m new None l fresh all = every-append (HasLatest m) l.conns (new ∷ []) all (fresh, tt)
placed_latest m new (Some old) l fresh all = instead_latest m new old l.conns fresh all

with_conn_latest : (m : Looks) (s : Setup) (kind : Kind) (x : Connection) (l : Looks) → HaveLatest m l
    → HaveLatest m (with_conn s kind x l)
with_conn_latest m s (Server service nonces) x l all =
    placed_latest m (fresh_conn x x.host service 1 l) (if is_full s l then idle_conn l else None) l
    (new_latest m x service l) all
with_conn_latest m s (Client host epoch) x l all = all

prepared_latest : (m : Looks) (s : Setup) (got : Took) (x : Connection) (l : Looks) → HaveLatest m l
    → HaveLatest m (prepared s got x l)
prepared_latest m s got x l all =
    by_dims m (if enters got then entered s x l else l) (prepared s got x l)
    (used_dims x (if enters got then entered s x l else l)) (of (enters got))
  where
    entering : (b : Bool) → HaveLatest m (if b then l else with_conn s s.kind x l)
    entering true = all
    entering false = with_conn_latest m s s.kind x l all

    of : (b : Bool) → HaveLatest m (if b then entered s x l else l)
    of true = entering (is_some (conn_at l x))
    of false = all

-- ---- a call starts

-- one channel's number changes
number_changed : (qs : List ChannelLooks) (i n number : ℕ)
    → (number_in (changed_at i (λ q. fresh_channel number) qs) n ≡ number_in qs n)
    ⊎ ((n ≡ i) × (number_in (changed_at i (λ q. fresh_channel number) qs) n ≡ number))
number_changed [] i n number = inl refl
number_changed (q ∷ qs) zero zero number = inr (refl, refl)
number_changed (q ∷ qs) zero (suc n) number = inl refl
number_changed (q ∷ qs) (suc i) zero number = inl refl
number_changed (q ∷ qs) (suc i) (suc n) number =
    (elim (number_changed qs i n number) as (λ t.
    (number_in (changed_at i (λ q. fresh_channel number) qs) n ≡ number_in qs n)
    ⊎ ((suc n ≡ suc i) × (number_in (changed_at i (λ q. fresh_channel number) qs) n ≡ number))) [
      | inl same ↦ inl same
      | inr here ↦ inr (ap (λ (k : ℕ). suc k) here.0, here.1)
    ])

one_numbered : (m : Looks) (d : CallName) (r : ConnLooks) → r.connection ≡ connection_of d
    → is_some (call_at m d) ≡ true → HasLatest m r
    → HasLatest m (record r { channels = changed_at d.chan (λ q. fresh_channel d.number) r.channels })
one_numbered m d r on there has n some =
    (elim (number_changed r.channels d.chan n d.number) as (λ t.
    is_some (call_at m (call_named (record { connection = r.connection; chan = n })
    (number_in (changed_at d.chan (λ q. fresh_channel d.number) r.channels) n))) ≡ true) [
      | inl same ↦
          subst (λ (k : ℕ). is_some (call_at m (call_named (record { connection = r.connection; chan = n }) k)) ≡ true)
          (sym same) (has n (subst (λ (k : ℕ). 1 ≤ k) same some))
      | inr here ↦ (
          let name : d ≡ call_named (record { connection = r.connection; chan = n })
          (number_in (changed_at d.chan (λ q. fresh_channel d.number) r.channels) n) =
          λ i. call_named (record { connection = sym on i; chan = sym here.0 i }) (sym here.1 i) in
          subst (λ (c : CallName). is_some (call_at m c) ≡ true) name there)
    ])

started_latest : (m : Looks) (d : CallName) (rs : List ConnLooks) → is_some (call_at m d) ≡ true
    → Every (HasLatest m) rs
    → Every (HasLatest m)
    (map (λ (r : ConnLooks). if same_connection r.connection (connection_of d)
    then record r { channels = changed_at d.chan (λ q. fresh_channel d.number) r.channels } else r) rs)
started_latest m d [] there all = tt
started_latest m d (r ∷ rs) there all =
    (one (same_connection r.connection (connection_of d)) refl, started_latest m d rs there all.1)
  where
    one : (b : Bool) → same_connection r.connection (connection_of d) ≡ b
        → HasLatest m (if b then record r { channels = changed_at d.chan (λ q. fresh_channel d.number) r.channels }
        else r)
    one true same = one_numbered m d r (connection_is r.connection (connection_of d) same) there all.0
    one false other = all.0

later_latest : (m : Looks) (s : Setup) (d : CallName) (l : Looks) → is_some (call_at m d) ≡ true → HaveLatest m l
    → HaveLatest m (started_later s d l)
later_latest m s d l there all = started_latest m d l.conns there all

-- ---- a message

-- behind data that starts its call the call has a record
started_there : (s : Setup) (got : Took) (d : CallName) (m : Message) (l : Looks)
    → is_some (call_at (taken_data s got d m (started_later s d l)) d) ≡ true
started_there s got d m l =
    let r : Looks = started_later s d l in
    let at : Looks = taken_at s got d m r in
    let behind : Looks = record at { firsts = with_first got d m.seq r.firsts } in
    let change : CallRecord → CallRecord =
    λ (k : CallRecord). record k { looks = after_taken (node_view s r) got m k.looks } in
    let ended : Looks = on_life (latest_name l (channel_of d)) after_later l in
    let new : CallRecord =
    record { name = d; life = lives.Waiting; looks = fresh_call (pace_of s) l.now } in
    let there : call_at (taken_data s got d m r) d ≡ Some (change new) =
    call-by d behind (taken_data s got d m r) (challenged-calls s d behind) ∙ call-changed d d change r (λ k. refl)
    ∙ ap (λ (b : Bool). cond b (option_map change (call_at r d)) (call_at r d)) (name_itself d)
    ∙ ap (option_map change) (call_at-any d new ended refl (call_at ended d) refl) in
    ap (λ (o : Option CallRecord). is_some o) there

data_latest : (s : Setup) (got : Took) (d : CallName) (m : Message) (l : Looks)
    → HaveLatest (taken_data s got d m (opened s d l)) l
    → HaveLatest (taken_data s got d m (opened s d l)) (taken_data s got d m (opened s d l))
data_latest s got d m l all = of (nat_lt (channel_at l (channel_of d)).number d.number) all
  where
    of : (b : Bool)
        → HaveLatest (taken_data s got d m (if b then started_later s d l else l)) l
        → HaveLatest (taken_data s got d m (if b then started_later s d l else l))
        (taken_data s got d m (if b then started_later s d l else l))
    of true all =
        by_dims (taken_data s got d m (started_later s d l)) (started_later s d l)
        (taken_data s got d m (started_later s d l)) (data_dims s got d m (started_later s d l))
        (later_latest (taken_data s got d m (started_later s d l)) s d l (started_there s got d m l) all)
    of false all = by_dims (taken_data s got d m l) l (taken_data s got d m l) (data_dims s got d m l) all

with_latest : (s : Setup) (got : Took) (d : CallName) (m : Message) (l : Looks) → HaveLatest (taken_with s got d m l) l
    → HaveLatest (taken_with s got d m l) (taken_with s got d m l)
with_latest s tooks.Kept d m l all = data_latest s tooks.Kept d m l all
with_latest s tooks.NoSlot d m l all = data_latest s tooks.NoSlot d m l all
with_latest s tooks.Repeat d m l all = own_dims l (taken_with s tooks.Repeat d m l)
    (with_dims s tooks.Repeat d m l refl) all
with_latest s tooks.Beyond d m l all = own_dims l (taken_with s tooks.Beyond d m l)
    (with_dims s tooks.Beyond d m l refl) all
with_latest s tooks.Clash d m l all = own_dims l (taken_with s tooks.Clash d m l) (with_dims s tooks.Clash d m l refl)
    all
with_latest s tooks.Heard d m l all = own_dims l (taken_with s tooks.Heard d m l) (with_dims s tooks.Heard d m l refl)
    all
with_latest s tooks.Stopped d m l all =
    own_dims l (taken_with s tooks.Stopped d m l) (with_dims s tooks.Stopped d m l refl) all
with_latest s tooks.Busy d m l all = own_dims l (taken_with s tooks.Busy d m l) (with_dims s tooks.Busy d m l refl) all
with_latest s tooks.NoRoom d m l all = own_dims l (taken_with s tooks.NoRoom d m l)
    (with_dims s tooks.NoRoom d m l refl) all
with_latest s tooks.Over d m l all = own_dims l (taken_with s tooks.Over d m l) (with_dims s tooks.Over d m l refl) all
with_latest s _ d m l all = all

message_latest : (s : Setup) (from : Host) (reading : Result Message BadMsg) (got : Took) (l : Looks)
    → HaveLatest (taken_message s from reading got l) l
    → HaveLatest (taken_message s from reading got l) (taken_message s from reading got l)
message_latest s from (Err bad) got l all = all
message_latest s from (Ok m) got l all = of (outer_row s s.kind l from m) all
  where
    d : CallName
    d = named s from m

    of : (row : Option Took) → HaveLatest (taken_behind s row from d m got l) l
        → HaveLatest (taken_behind s row from d m got l) (taken_behind s row from d m got l)
    of (Some row) all = own_dims l (turned_away row from m l) (turned_dims row from m l) all
    of None all =
        with_latest s got d m (prepared s got (connection_of d) l)
        (prepared_latest (taken_with s got d m (prepared s got (connection_of d) l)) s got (connection_of d) l all)

-- ---- each event of a server

after_latest : (s : Setup) (l : Looks) (e : Event) → AllowedServer s l e → HaveLatest (after s e l) l
    → HaveLatest (after s e l) (after s e l)
after_latest s l (events.Accepted (Some c)) allowed all =
    own_dims l (after s (events.Accepted (Some c)) l) (dims_life c after_accept l accept_falls) all
after_latest s l (events.Accepted None) allowed all = all
after_latest s l (events.Wrote c offered got bytes) allowed all =
    own_dims l (after s (events.Wrote c offered got bytes) l) (dims_looks c (after_write bytes) l (λ k is. is)) all
after_latest s l (events.HasRead c most got bytes) allowed all =
    own_dims l (after s (events.HasRead c most got bytes) l) (read_dims c (is_end got) bytes l) all
after_latest s l (events.Finished c code got) allowed all =
    own_dims l (after s (events.Finished c code got) l) (finish_dims c code got l) all
after_latest s l (events.Taken from bytes got) allowed all = message_latest s from (reading_of bytes) got l all
after_latest s l (events.Polled got) allowed all =
    own_dims l (after s (events.Polled got) l) (polled_dims s got l) all
after_latest s l (events.Clocked now) allowed all = all
after_latest s l _ allowed all = absurd allowed

-- at every moment
have_latest : (s : Setup) (h : List Event) → IsServer s.kind → FitsSetup s → Legal s h
    → HaveLatest (looks s h) (looks s h)
have_latest s [] server fits legal = tt
have_latest s (e ∷ h) server fits legal =
    after_latest s (looks s h) e (served s.kind s (looks s h) e server legal.0)
    (more (looks s (e ∷ h)) (looks s h) (looks s h).conns (λ c there. some_stays s h e c fits legal there)
    (have_latest s h server fits legal.1))

-- the latest call of a channel
pub latest_there : (s : Setup) (h : List Event) (ch : Channel) → IsServer s.kind → FitsSetup s → Legal s h
    → 1 ≤ (channel_at (looks s h) ch).number → is_some (call_at (looks s h) (latest_name (looks s h) ch)) ≡ true
latest_there s h ch server fits legal some =
    subst (λ (n : ℕ). is_some (call_at l (call_named ch n)) ≡ true) (sym (channel_number l ch))
    (of (conn_at l ch.connection) refl (subst (λ (n : ℕ). 1 ≤ n) (channel_number l ch) some))
  where
    l : Looks
    l = looks s h

    of : (o : Option ConnLooks) → conn_at l ch.connection ≡ o → 1 ≤ number_of o ch.chan
        → is_some (call_at l (call_named ch (number_of (conn_at l ch.connection) ch.chan))) ≡ true
    of None is some = absurd (omega arith)
    of (Some r) is some =
        (let own : r.connection ≡ ch.connection =
        connection_is r.connection ch.connection
        (find_passes (λ q. same_connection q.connection ch.connection) l.conns r is)
        in
        let has = every_found (HasLatest l) (λ q. same_connection q.connection ch.connection) l.conns r
        (have_latest s h server fits legal) is in
        let there = has ch.chan some in
        let name : call_named (record { connection = r.connection; chan = ch.chan }) (number_in r.channels ch.chan)
        ≡ call_named ch (number_of (conn_at l ch.connection) ch.chan) =
        λ i. call_named (record { connection = own i; chan = ch.chan })
        (sym (ap (λ (o : Option ConnLooks). number_of o ch.chan) is) i) in
        subst (λ (c : CallName). is_some (call_at l c) ≡ true) name there)
