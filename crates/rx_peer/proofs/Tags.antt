-- The connections of a client stay, each with its name and its peer, and a new one stands behind them.
use Rattle.std.proofs.Common.{◌≡◌, ◌&&◌, ◌==◌, if◌then◌else◌, not, nat_lt, is_some, ℕ, suc, Bool, true, false, List}
use Rattle.std.proofs.Common.{[], ◌∷◌, ◌++◌, append-nil, drop, map, Option, Some, None, Result, Ok, Err}
use Rattle.std.proofs.Common.{refl, ◌∙◌, ap, sym}
use Rattle.rx_model.specs.declared.answers.BadMsg.{BadMsg}
use Rattle.rx_model.specs.declared.answers.Took.{Took}
use Rattle.rx_model.specs.declared.answers.Took.TheVariants as tooks
use Rattle.rx_model.specs.declared.event.Event.{Event}
use Rattle.rx_model.specs.declared.event.Event.TheVariants as events
use Rattle.rx_model.specs.declared.names.CallName.{CallName}
use Rattle.rx_model.specs.declared.names.Host.{Host}
use Rattle.rx_model.specs.Body.{Body}
use Rattle.rx_model.specs.Body as bodies
use Rattle.rx_model.specs.Message.{Message}
use Rattle.rx_model.specs.Names.{Channel, Connection, channel_of, connection_of, same_connection}
use Rattle.rx_model.specs.Reading.{reading_of}
use Rattle.rx_model.specs.Strays.{is_stray}
use Rattle.rx_rules.specs.After.{after, challenged, counted, enters, given_body, given_by, given_message, linked}
use Rattle.rx_rules.specs.After.{prepared, settled, stopped_all, taken_at, taken_behind, taken_data, taken_heard}
use Rattle.rx_rules.specs.After.{taken_message, taken_over, taken_stopped, taken_unserved, taken_with, turned_away}
use Rattle.rx_rules.specs.After.{with_first}
use Rattle.rx_rules.specs.Judging.{opened, outer_row}
use Rattle.rx_rules.specs.Life.{after_code}
use Rattle.rx_rules.specs.Looks.{CallRecord, ChannelLooks, ConnLooks, Looks, call_at, changed_at, channel_at, conn_at}
use Rattle.rx_rules.specs.Looks.{is_proved, on_call, on_channel, on_conn, on_life}
use Rattle.rx_rules.specs.Records.{entered, fresh_conn, silenced, started_later, used, with_conn}
use Rattle.rx_rules.specs.Rules.{AllowedClient}
use Rattle.rx_rules.specs.Setup.{Kind, Server, Client, Setup, is_client, named}

-- the name of a connection, and its peer
pub record Tag : Type 0 where
  pub name : Connection
  pub peer : Host

abbrev pub tag_of : ConnLooks → Tag
tag_of r = record { name = r.connection; peer = r.peer }

abbrev pub tags : Looks → List Tag
tags l = map tag_of l.conns

-- ---- changes that leave them

-- a change of a connection that leaves its name and its peer
tags-map : (x : Connection) (f : ConnLooks → ConnLooks) → ((r : ConnLooks) → tag_of (f r) ≡ tag_of r)
    → (rs : List ConnLooks) → map tag_of (map (λ r. if same_connection r.connection x then f r else r) rs)
    ≡ map tag_of rs
tags-map x f keeps [] = refl
tags-map x f keeps (r ∷ rs) =
    ap (λ (t : Tag). t ∷ map tag_of (map (λ q. if same_connection q.connection x then f q else q) rs))
    (of (same_connection r.connection x))
    ∙ ap (λ (ts : List Tag). tag_of r ∷ ts) (tags-map x f keeps rs)
  where
    of : (b : Bool) → tag_of (if b then f r else r) ≡ tag_of r
    of true = keeps r
    of false = refl

tags-conn : (x : Connection) (f : ConnLooks → ConnLooks) (l : Looks) → ((r : ConnLooks) → tag_of (f r) ≡ tag_of r)
    → tags (on_conn x f l) ≡ tags l
tags-conn x f l keeps = tags-map x f keeps l.conns

tags-channel : (ch : Channel) (f : ChannelLooks → ChannelLooks) (l : Looks) → tags (on_channel ch f l) ≡ tags l
tags-channel ch f l = tags-conn ch.connection (λ r. record r { channels = changed_at ch.chan f r.channels }) l
    (λ r. refl)

tags-if : (test : Bool) (m l k : Looks) → tags m ≡ tags k → tags l ≡ tags k → tags (if test then m else l) ≡ tags k
tags-if true m l k here there = here
tags-if false m l k here there = there

tags-used : (x : Connection) (l : Looks) → tags (used x l) ≡ tags l
tags-used x l = tags-conn x (λ r. record r { last_use = l.now }) l (λ r. refl)

tags-counted : (x : Connection) (l : Looks) → tags (counted x l) ≡ tags l
tags-counted x l = tags-conn x (λ r. record r { given = suc r.given; last_use = l.now }) l (λ r. refl)

-- ---- a datagram that is taken

tags-challenged : (s : Setup) (d : CallName) (l : Looks) → tags (challenged s d l) ≡ tags l
tags-challenged s d l =
    tags-if (not (is_client s.kind) && (s.class.challenges && not (is_proved l (connection_of d))))
    (on_channel (channel_of d) (λ q. record q { owed_challenge = true }) l) l l
    (tags-channel (channel_of d) (λ q. record q { owed_challenge = true }) l) refl

tags-opened : (s : Setup) (d : CallName) (l : Looks) → tags (opened s d l) ≡ tags l
tags-opened s d l =
    tags-if (nat_lt (channel_at l (channel_of d)).number d.number) (started_later s d l) l l
    (tags-channel (channel_of d) _ l) refl

tags-data : (s : Setup) (got : Took) (d : CallName) (m : Message) (l : Looks) → tags (taken_data s got d m l) ≡ tags l
tags-data s got d m l =
    tags-challenged s d (record (taken_at s got d m l) { firsts = with_first got d m.seq l.firsts })

tags-heard : (s : Setup) (d : CallName) (body : Body) (l : Looks) → tags (taken_heard s d body l) ≡ tags l
tags-heard s d (bodies.Ack a) l = tags-challenged s d (on_call d settled l)
tags-heard s d (bodies.Response bytes) l = tags-conn (connection_of d) (λ r. record r { proved = true }) l (λ r. refl)
tags-heard s d (bodies.Challenge bytes) l = tags-channel (channel_of d) _ l
tags-heard s d bodies.AckAll l = refl
tags-heard s d (bodies.Chunk payload) l = refl
tags-heard s d bodies.Busy l = refl
tags-heard s d (bodies.Abort code) l = refl

tags-stopped : (d : CallName) (body : Body) (l : Looks) → tags (taken_stopped d body l) ≡ tags l
tags-stopped d (bodies.Abort code) l =
    tags-if (d.number == 0) (stopped_all (connection_of d) code l) (on_life d (after_code code) l) l refl refl
tags-stopped d (bodies.Response bytes) l = tags-channel (channel_of d) _ l
tags-stopped d (bodies.Chunk payload) l = refl
tags-stopped d bodies.Busy l = refl
tags-stopped d (bodies.Ack a) l = refl
tags-stopped d bodies.AckAll l = refl
tags-stopped d (bodies.Challenge bytes) l = refl

tags-over : (d : CallName) (body : Body) (o : Option CallRecord) (l : Looks) → tags (taken_over d body o l) ≡ tags l
tags-over d body None l = refl
tags-over d body (Some k) l = tags-channel (channel_of d) _ l

tags-with : (s : Setup) (got : Took) (d : CallName) (m : Message) (l : Looks) → tags (taken_with s got d m l) ≡ tags l
tags-with s tooks.Kept d m l = tags-data s tooks.Kept d m (opened s d l) ∙ tags-opened s d l
tags-with s tooks.NoSlot d m l = tags-data s tooks.NoSlot d m (opened s d l) ∙ tags-opened s d l
tags-with s tooks.Repeat d m l = tags-data s tooks.Repeat d m l
tags-with s tooks.Beyond d m l = tags-data s tooks.Beyond d m l
tags-with s tooks.Clash d m l = tags-data s tooks.Clash d m l
tags-with s tooks.Heard d m l = tags-heard s d m.body (taken_at s tooks.Heard d m l)
tags-with s tooks.Stopped d m l = tags-stopped d m.body l
tags-with s tooks.Busy d m l = tags-channel (channel_of d) _ l
tags-with s tooks.NoRoom d m l = tags-channel (channel_of d) _ l
tags-with s tooks.Over d m l = tags-over d m.body (call_at l d) l
tags-with s tooks.Full d m l = refl
tags-with s tooks.Old d m l = refl
tags-with s tooks.Unserved d m l = refl
tags-with s tooks.Foreign d m l = refl
tags-with s tooks.Strange d m l = refl
tags-with s (tooks.Bad bad) d m l = refl

tags-turned : (row : Took) (from : Host) (m : Message) (l : Looks) → tags (turned_away row from m l) ≡ tags l
tags-turned tooks.Unserved from m l = of m.body
  where
    of : (body : Body) → tags (taken_unserved from m body l) ≡ tags l
    of (bodies.Chunk payload) = refl
    of bodies.Busy = refl
    of (bodies.Ack a) = refl
    of (bodies.Abort code) = refl
    of bodies.AckAll = refl
    of (bodies.Challenge bytes) = refl
    of (bodies.Response bytes) = refl
tags-turned _ from m l = refl

-- ---- a client

-- a client enters none
tags-entered : (s : Setup) (host : Host) (epoch : ℕ) (x : Connection) (l : Looks) → s.kind ≡ Client host epoch
    → tags (entered s x l) ≡ tags l
tags-entered s host epoch x l kind =
    tags-if (is_some (conn_at l x)) l (with_conn s s.kind x l) l refl
    (ap (λ (k : Kind). tags (with_conn s k x l)) kind)

tags-prepared : (s : Setup) (host : Host) (epoch : ℕ) (got : Took) (x : Connection) (l : Looks)
    → s.kind ≡ Client host epoch → tags (prepared s got x l) ≡ tags l
tags-prepared s host epoch got x l kind =
    tags-used x (if enters got then entered s x l else l)
    ∙ tags-if (enters got) (entered s x l) l l (tags-entered s host epoch x l kind) refl

tags-message : (s : Setup) (host : Host) (epoch : ℕ) (from : Host) (reading : Result Message BadMsg) (got : Took)
    (l : Looks)
    → s.kind ≡ Client host epoch → tags (taken_message s from reading got l) ≡ tags l
tags-message s host epoch from (Err bad) got l kind = refl
tags-message s host epoch from (Ok m) got l kind = of (outer_row s s.kind l from m)
  where
    d : CallName
    d = named s from m

    of : (row : Option Took) → tags (taken_behind s row from d m got l) ≡ tags l
    of (Some row) = tags-turned row from m l
    of None = tags-with s got d m (prepared s got (connection_of d) l)
        ∙ tags-prepared s host epoch got (connection_of d) l kind

tags-body : (d : CallName) (m : Message) (body : Body) (l : Looks) → tags (given_body d m body l) ≡ tags l
tags-body d m (bodies.Chunk payload) l = refl
tags-body d m (bodies.Ack a) l = refl
tags-body d m (bodies.Abort code) l = tags-channel (channel_of d) _ l
tags-body d m bodies.Busy l = tags-channel (channel_of d) _ l
tags-body d m (bodies.Challenge bytes) l = tags-channel (channel_of d) _ l
tags-body d m (bodies.Response bytes) l = tags-channel (channel_of d) _ l
tags-body d m bodies.AckAll l = tags-channel (channel_of d) _ l

tags-given : (s : Setup) (got : Option (Host × List ℕ)) (l : Looks) → tags (given_by s got l) ≡ tags l
tags-given s None l = refl
tags-given s (Some (to, bytes)) l = of (reading_of bytes)
  where
    of : (reading : Result Message BadMsg) → tags (given_message s to reading l) ≡ tags l
    of (Err bad) = refl
    of (Ok m) =
        tags-if (is_stray m m.body) (record l { strays = drop 1 l.strays })
        (given_body (named s to m) m m.body (counted (connection_of (named s to m)) l)) l refl
        (tags-body (named s to m) m m.body (counted (connection_of (named s to m)) l)
        ∙ tags-counted (connection_of (named s to m)) l)

-- ---- what stays

-- the connections are those of before, and further ones behind them
abbrev pub Adds : Looks → Looks → Type 0
Adds l m = (more : List Tag) × (tags m ≡ tags l ++ more)

same : (l m : Looks) → tags m ≡ tags l → Adds l m
same l m is = ([], is ∙ sym (append-nil (tags l)))

map-more : (rs : List ConnLooks) (r : ConnLooks) → map tag_of (rs ++ r ∷ []) ≡ map tag_of rs ++ tag_of r ∷ []
map-more [] r = refl
map-more (q ∷ qs) r = ap (λ (ts : List Tag). tag_of q ∷ ts) (map-more qs r)

adds-linked : (kind : Kind) (to : Host) (service first cid : ℕ) (l : Looks)
    → Adds l (linked kind to service first cid l)
adds-linked (Client host epoch) to service first cid l =
    let new : ConnLooks = fresh_conn (record { host = host; epoch = epoch; cid = cid }) to service first l in
    (tag_of new ∷ [], map-more l.conns new)
adds-linked (Server service nonces) to other first cid l = same l l refl

-- with each event of a client
pub adds_after : (s : Setup) (host : Host) (epoch : ℕ) (l : Looks) (e : Event) → s.kind ≡ Client host epoch
    → AllowedClient s host epoch l e → Adds l (after s e l)
adds_after s host epoch l (events.Linked to service first (Ok cid)) kind allowed =
    adds-linked s.kind to service first cid l
adds_after s host epoch l (events.Linked to service first (Err full)) kind allowed = same l l refl
adds_after s host epoch l (events.Called cid (Ok d)) kind allowed =
    same l (after s (events.Called cid (Ok d)) l) (tags-channel (channel_of d) _ l)
adds_after s host epoch l (events.Called cid (Err refused)) kind allowed = same l l refl
adds_after s host epoch l (events.Wrote d offered got bytes) kind allowed =
    same l (after s (events.Wrote d offered got bytes) l) refl
adds_after s host epoch l (events.Shut d (Ok done)) kind allowed = same l (after s (events.Shut d (Ok done)) l) refl
adds_after s host epoch l (events.Shut d (Err closed)) kind allowed = same l l refl
adds_after s host epoch l (events.HasRead d max got bytes) kind allowed =
    same l (after s (events.HasRead d max got bytes) l) (tags-channel (channel_of d) _ l)
adds_after s host epoch l (events.Ended d got) kind allowed = same l l refl
adds_after s host epoch l (events.Cancelled d code (Ok done)) kind allowed =
    same l (after s (events.Cancelled d code (Ok done)) l) (tags-channel (channel_of d) _ l)
adds_after s host epoch l (events.Cancelled d code (Err closed)) kind allowed = same l l refl
adds_after s host epoch l (events.Taken from bytes got) kind allowed =
    same l (after s (events.Taken from bytes got) l) (tags-message s host epoch from (reading_of bytes) got l kind)
adds_after s host epoch l (events.Polled got) kind allowed =
    same l (after s (events.Polled got) l) (tags-given s got (silenced l))
adds_after s host epoch l (events.Clocked now) kind allowed = same l (after s (events.Clocked now) l) refl
adds_after s host epoch l (events.Accepted got) kind allowed = absurd allowed
adds_after s host epoch l (events.Finished d code got) kind allowed = absurd allowed
