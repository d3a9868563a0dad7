-- Calls never hold more slots beside their own than they may: along a legal history.
use Rattle.std.proofs.Common.{◌≡◌, ◌⊎◌, ◌&&◌, ℕ, if◌then◌else◌, min, not, Bool, true, false, List, [], ◌∷◌, length}
use Rattle.std.proofs.Common.{Option, Some, None, Result, Ok, Err, refl, ◌∙◌, ap, subst, inl, inr, arith}
use Rattle.rx_model.specs.declared.answers.NotOpen.{NotOpen}
use Rattle.rx_model.specs.declared.answers.ReadGot.TheVariants as readers
use Rattle.rx_model.specs.declared.answers.ServeRefused.{ServeRefused}
use Rattle.rx_model.specs.declared.answers.WroteGot.TheVariants as writers
use Rattle.rx_model.specs.declared.event.Event.{Event}
use Rattle.rx_model.specs.declared.event.Event.TheVariants as events
use Rattle.rx_model.specs.declared.names.CallName.{CallName}
use Rattle.rx_model.specs.declared.names.Host.{Host}
use Rattle.rx_model.specs.Reading.{reading_of}
use Rattle.rx_rules.specs.After.{after, is_end, is_ok_end, linked, looks}
use Rattle.rx_rules.specs.Life.{Life, after_accept, after_cancel, is_active, is_live}
use Rattle.rx_rules.specs.Life as lives
use Rattle.rx_rules.specs.Looks.{CallRecord, Looks, call_at, is_call}
use Rattle.rx_rules.specs.Rules.{AllowedAt, AllowedClient, AllowedServer, HasBytes, Legal, can_say, client_write}
use Rattle.rx_rules.specs.Rules.{done_where, own_call}
use Rattle.rx_rules.specs.Rules.{served_by, served_read, served_write}
use Rattle.rx_rules.specs.Setup.{Client, Kind, Server, Setup, is_client, pace_of}
use Rattle.rx_rules.specs.Slots.{room}
use Rattle.rx_model.proofs.NameLaws.{name_itself}
use Rattle.rx_history.specs.Alone.{SlotsSuffice}
use Rattle.rx_history.proofs.Client.{own-is, reads-client}
use Rattle.rx_history.proofs.LifeFalls.{accept_falls, cancel_falls, is_begun}
use Rattle.rx_history.proofs.Room.RoomEvents.{Wrote, roomy_polled, roomy_read, roomy_wrote}
use Rattle.rx_history.proofs.Room.RoomShut.{roomy_finished, roomy_shut}
use Rattle.rx_history.proofs.Room.RoomStarts.{RoomyAt, fresh_tight, roomy_by, roomy_life, roomy_started}
use Rattle.rx_history.proofs.Room.RoomTaken.{roomy_message}
use Rattle.rx_history.proofs.Server.{read-server}

-- ---- a server

pub serve-wrote : (s : Setup) (l : Looks) (k : CallRecord) (life : Life) (ended : Bool) (offered : ℕ)
    (got : Result ℕ ServeRefused) (bytes : List ℕ)
    → (life ≡ lives.Accepted → k.looks.sent.shut ≡ false)
    → got ≡ served_by life ended (min offered (room s l k.looks)) → HasBytes got bytes
    → Wrote s l k bytes
serve-wrote s l k lives.Accepted true offered got bytes unshut is has =
    let long : length bytes ≡ min offered (room s l k.looks) = subst
    (λ (r : Result ℕ ServeRefused). HasBytes r bytes) is has in
    inr (unshut refl, omega arith)
serve-wrote s l k lives.Accepted false offered got bytes unshut is has =
    inl (subst (λ (r : Result ℕ ServeRefused). HasBytes r bytes) is has)
serve-wrote s l k (lives.Broken code) ended offered got bytes unshut is has =
    inl (subst (λ (r : Result ℕ ServeRefused). HasBytes r bytes) is has)
serve-wrote s l k _ ended offered got bytes unshut is has = inl
    (subst (λ (r : Result ℕ ServeRefused). HasBytes r bytes) is has)

server-after : (s : Setup) (l : Looks) (e : Event) → is_client s.kind ≡ false → AllowedServer s l e → RoomyAt s l
    → RoomyAt s (after s e l)
server-after s l (events.Wrote c offered (writers.Server got) bytes) server allowed r =
    roomy_wrote s c bytes l
    (λ k there t. serve-wrote s l k k.life k.looks.received.ended offered got bytes
    (λ accepted. t.unshut server (ap is_begun accepted))
    (allowed.0 ∙ ap (λ (o : Option CallRecord). served_write s l o offered) there) allowed.2) r
server-after s l (events.Wrote c offered (writers.Client got) bytes) server allowed r = absurd allowed
server-after s l (events.HasRead c max (readers.Server got) bytes) server allowed r =
    roomy_read s c (is_end (readers.Server got)) bytes l
    (λ k there live ends. (read-server k max got bytes
    (allowed.1 ∙ ap (λ (o : Option CallRecord). served_read o max) there)).ended ends) r
server-after s l (events.HasRead c max (readers.Client got) bytes) server allowed r = absurd allowed
server-after s l (events.Accepted (Some c)) server allowed r = roomy_life s c after_accept l accept_falls r
server-after s l (events.Accepted None) server allowed r = r
server-after s l (events.Finished c code got) server allowed r = roomy_finished s c code got l server allowed.1 r
server-after s l (events.Taken from bytes got) server allowed r = roomy_message s from
    (reading_of bytes) got l allowed.1 r
server-after s l (events.Polled got) server allowed r = roomy_polled s got l r
server-after s l (events.Clocked now) server allowed r = r
server-after s l (events.Linked to service first got) server allowed r = absurd allowed
server-after s l (events.Called cid got) server allowed r = absurd allowed
server-after s l (events.Shut c got) server allowed r = absurd allowed
server-after s l (events.Ended c got) server allowed r = absurd allowed
server-after s l (events.Cancelled c code got) server allowed r = absurd allowed

-- ---- a client

pub say-wrote : (s : Setup) (l : Looks) (k : CallRecord) (offered : ℕ) (got : Result ℕ NotOpen) (bytes : List ℕ)
    → got ≡ client_write s l (Some k) offered → HasBytes got bytes → Wrote s l k bytes
say-wrote s l k offered got bytes is has = of (is_live k.life) k.looks.sent.shut refl is
  where
    of : (live shut : Bool) → k.looks.sent.shut ≡ shut
        → got ≡ (if live && not shut then Ok (min offered (room s l k.looks)) else Err (record {}))
        → Wrote s l k bytes
    of true false unshut is =
        let long : length bytes ≡ min offered (room s l k.looks) = subst
        (λ (r : Result ℕ NotOpen). HasBytes r bytes) is has in
        inr (unshut, omega arith)
    of true true shut is = inl (subst (λ (r : Result ℕ NotOpen). HasBytes r bytes) is has)
    of false shut' shut is = inl (subst (λ (r : Result ℕ NotOpen). HasBytes r bytes) is has)

pub client-wrote : (s : Setup) (l : Looks) (k : CallRecord) (o : Option CallRecord) (offered : ℕ)
    (got : Result ℕ NotOpen) (bytes : List ℕ)
    → (o ≡ Some k) ⊎ (o ≡ None) → got ≡ client_write s l o offered → HasBytes got bytes → Wrote s l k bytes
client-wrote s l k o offered got bytes (inl own) is has =
    say-wrote s l k offered got bytes (is ∙ ap (λ (x : Option CallRecord). client_write s l x offered) own) has
client-wrote s l k o offered got bytes (inr none) is has =
    inl (subst (λ (r : Result ℕ NotOpen). HasBytes r bytes)
    (is ∙ ap (λ (x : Option CallRecord). client_write s l x offered) none) has)

active-not-ok : (x : Life) → is_active x ≡ true → is_ok_end x ≡ true → ⊥
active-not-ok (lives.Ended end) live ok = absurd cc
active-not-ok x live ok = absurd cc

abbrev was_done : Result (Unit {0}) NotOpen
was_done = Ok tt

-- a stream that is shut by its client was not shut before
shut-open : (k : CallRecord) (o : Option CallRecord) → (o ≡ Some k) ⊎ (o ≡ None)
    → was_done ≡ done_where (is_call can_say o) → k.looks.sent.shut ≡ false
shut-open k o (inl own) is =
    can (is_live k.life) k.looks.sent.shut (is ∙ ap (λ (x : Option CallRecord). done_where (is_call can_say x)) own)
  where
    can : (live shut : Bool) → was_done ≡ done_where (live && not shut) → shut ≡ false
    can true false is = refl
    can true true is = absurd cc
    can false shut is = absurd cc
shut-open k o (inr none) is =
    absurd (let none_is : was_done ≡ done_where false = is
    ∙ ap (λ (x : Option CallRecord). done_where (is_call can_say x)) none in cc (none_is))

own-found : (l : Looks) (c : CallName) (k : CallRecord) → call_at l c ≡ Some k
    → (own_call l c ≡ Some k) ⊎ (own_call l c ≡ None)
own-found l c k there = own-is l c c k (name_itself c) there

pub calls-linked : (kind : Kind) (to : Host) (service first cid : ℕ) (l : Looks)
    → (linked kind to service first cid l).calls ≡ l.calls
calls-linked (Client host epoch) to service first cid l = refl
calls-linked (Server nonces other) to service first cid l = refl

client-after : (s : Setup) (host : Host) (epoch : ℕ) (l : Looks) (e : Event) → is_client s.kind ≡ true
    → AllowedClient s host epoch l e
    → RoomyAt s l → RoomyAt s (after s e l)
client-after s host epoch l (events.Linked to service first (Ok cid)) client allowed r =
    roomy_by s l (linked s.kind to service first cid l) (calls-linked s.kind to service first cid l) r
client-after s host epoch l (events.Linked to service first (Err full)) client allowed r = r
client-after s host epoch l (events.Called cid (Ok c)) client allowed r =
    roomy_started s lives.Calling c l
    (fresh_tight (is_client s.kind) lives.Calling c (pace_of s) l.now
    (λ server. absurd (cc (client, server)))) r
client-after s host epoch l (events.Called cid (Err refused)) client allowed r = r
client-after s host epoch l (events.Wrote c offered (writers.Client got) bytes) client allowed r =
    roomy_wrote s c bytes l
    (λ k there t. client-wrote s l k (own_call l c) offered got bytes (own-found l c k there) allowed.0 allowed.2) r
client-after s host epoch l (events.Wrote c offered (writers.Server got) bytes) client allowed r = absurd allowed
client-after s host epoch l (events.Shut c (Ok done)) client allowed r =
    roomy_shut s c l client (λ k there. shut-open k (own_call l c) (own-found l c k there) allowed) r
client-after s host epoch l (events.Shut c (Err closed)) client allowed r = r
client-after s host epoch l (events.HasRead c max (readers.Client got) bytes) client allowed r =
    roomy_read s c (is_end (readers.Client got)) bytes l
    (λ k there live ends. (reads-client k (own_call l c) max got bytes (own-found l c k there)
    (λ ok. absurd (active-not-ok k.life live ok)) allowed.1).ended ends) r
client-after s host epoch l (events.HasRead c max (readers.Server got) bytes) client allowed r = absurd allowed
client-after s host epoch l (events.Ended c got) client allowed r = r
client-after s host epoch l (events.Cancelled c code (Ok done)) client allowed r = roomy_life s c
    (after_cancel code) l (cancel_falls code) r
client-after s host epoch l (events.Cancelled c code (Err closed)) client allowed r = r
client-after s host epoch l (events.Taken from bytes got) client allowed r = roomy_message s from
    (reading_of bytes) got l allowed.1 r
client-after s host epoch l (events.Polled got) client allowed r = roomy_polled s got l r
client-after s host epoch l (events.Clocked now) client allowed r = r
client-after s host epoch l (events.Accepted got) client allowed r = absurd allowed
client-after s host epoch l (events.Finished c code got) client allowed r = absurd allowed

-- ---- a history

roomy-after : (s : Setup) (kind : Kind) (l : Looks) (e : Event) → s.kind ≡ kind → AllowedAt kind s l e → RoomyAt s l
    → RoomyAt s (after s e l)
roomy-after s (Client host epoch) l e is allowed r = client-after s host epoch l e (ap is_client is) allowed r
roomy-after s (Server service nonces) l e is allowed r = server-after s l e (ap is_client is) allowed r

-- the calls of a node at every moment
pub roomy_history : (s : Setup) (h : List Event) → Legal s h → RoomyAt s (looks s h)
roomy_history s [] legal = record { differ = tt; tight = tt; within = omega arith }
roomy_history s (e ∷ h) legal = roomy-after s s.kind (looks s h) e refl legal.0 (roomy_history s h legal.1)

-- calls never hold more slots beside their own than they may
pub slots_suffice : SlotsSuffice
slots_suffice s h fits legal = (roomy_history s h legal).within
