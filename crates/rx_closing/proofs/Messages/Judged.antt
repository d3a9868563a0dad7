-- How a node judges a datagram whose message passes the rows in front; and of which one it says that it is foreign.
use Rattle.std.proofs.Common.{◌≡◌, ◌&&◌, if◌then◌else◌, not, ℕ, Bool, true, false, List, Option, Some, None, Ok, Result}
use Rattle.std.proofs.Common.{refl, ◌∙◌, ap, sym, subst}
use Rattle.rx_model.specs.declared.answers.BadMsg.{BadMsg}
use Rattle.rx_model.specs.declared.answers.Took.{Took}
use Rattle.rx_model.specs.declared.answers.Took.TheVariants as tooks
use Rattle.rx_model.specs.declared.event.Event.TheVariants as events
use Rattle.rx_model.specs.declared.names.CallName.{CallName}
use Rattle.rx_model.specs.declared.names.Host.{Host}
use Rattle.rx_model.specs.Body.{Body}
use Rattle.rx_model.specs.Body as bodies
use Rattle.rx_model.specs.Message.{Message}
use Rattle.rx_model.specs.Names.{connection_of}
use Rattle.rx_model.specs.Reading.{reading_of}
use Rattle.rx_rules.specs.After.{after, prepared, taken_behind, taken_message, taken_with}
use Rattle.rx_rules.specs.CallLooks.{CallLooks, NodeView, call_row}
use Rattle.rx_rules.specs.Judging.{Facts, else_row, facts_of, live_row, opened, outer_row, own_row, row_at, side_row}
use Rattle.rx_rules.specs.Judging.{took_named, took_of, took_reading}
use Rattle.rx_rules.specs.Looks.{CallRecord, Looks, call_at}
use Rattle.rx_rules.specs.Received.{Arrival, arrival_row}
use Rattle.rx_rules.specs.Sent.{is_strange_ack}
use Rattle.rx_rules.specs.Setup.{Client, Kind, Server, Setup, named}
use Rattle.rx_rules.specs.Slots.{node_view}
use Rattle.rx_history.proofs.Plain.PlainBodies.{IsSent}

-- ---- a message that comes through the rows in front

pub judged_by : (s : Setup) (l : Looks) (c : CallName) (from : Host) (bytes : List ℕ) (m : Message)
    → reading_of bytes ≡ Ok m → outer_row s s.kind l from m ≡ None → named s from m ≡ c
    → took_of s l from bytes ≡ took_named s l c m
judged_by s l c from bytes m reads front name =
    ap (took_reading s l from) reads
    ∙ ap (λ (o : Option Took). else_row o (took_named s l (named s from m) m)) front
    ∙ ap (λ (d : CallName). took_named s l d m) name

pub taken_by : (s : Setup) (l : Looks) (c : CallName) (from : Host) (bytes : List ℕ) (m : Message) (got : Took)
    → reading_of bytes ≡ Ok m → outer_row s s.kind l from m ≡ None → named s from m ≡ c
    → after s (events.Taken from bytes got) l ≡ taken_with s got c m (prepared s got (connection_of c) l)
taken_by s l c from bytes m got reads front name =
    ap (λ (r : Result Message BadMsg). taken_message s from r got l) reads
    ∙ ap (λ (o : Option Took). taken_behind s o from (named s from m) m got l) front
    ∙ ap (λ (d : CallName). taken_with s got d m (prepared s got (connection_of d) l)) name

-- ---- the row of a live call says never that it is foreign

abbrev pub is_foreign : Took → Bool
is_foreign tooks.Foreign = true
is_foreign _ = false

if_foreign : (b : Bool) (x y : Took) → is_foreign x ≡ false → is_foreign y ≡ false
    → is_foreign (if b then x else y) ≡ false
if_foreign true x y p q = p
if_foreign false x y p q = q

arrival_foreign : (a : Arrival) → is_foreign (arrival_row a) ≡ false
arrival_foreign a =
    if_foreign a.is_strange tooks.Strange _ refl
    (if_foreign a.is_repeat tooks.Repeat _ refl (if_foreign a.is_beyond tooks.Beyond _ refl
    (if_foreign a.is_clash tooks.Clash _ refl (if_foreign a.has_slot tooks.Kept tooks.NoSlot refl refl))))

pub row_foreign : (v : NodeView) (m : Message) (body : Body) (k : CallLooks) → IsSent body
    → is_foreign (call_row v m body k) ≡ false
row_foreign v m (bodies.Chunk payload) k stream = arrival_foreign _
row_foreign v m (bodies.Ack a) k stream =
    if_foreign (is_strange_ack a.first a.marks k.sent) tooks.Strange tooks.Heard refl refl
row_foreign v m _ k stream = absurd stream

live_foreign : (s : Setup) (l : Looks) (k : CallRecord) (m : Message) (body : Body) → m.body ≡ body → IsSent body
    → is_foreign (live_row s l k m body) ≡ false
live_foreign s l k m (bodies.Chunk payload) at stream =
    row_foreign (node_view s l) m m.body k.looks (subst IsSent (sym at) stream)
live_foreign s l k m (bodies.Ack a) at stream =
    row_foreign (node_view s l) m m.body k.looks (subst IsSent (sym at) stream)
live_foreign s l k m _ at stream = absurd stream

own_foreign : (s : Setup) (l : Looks) (m : Message) (o : Option CallRecord) → IsSent m.body
    → is_foreign (row_at s l o m) ≡ false
own_foreign s l m None stream = refl
own_foreign s l m (Some k) stream = live_foreign s l k m m.body refl stream

side_foreign : (kind : Kind) (f : Facts) (call : Took) → is_foreign call ≡ false
    → is_foreign (side_row kind f call) ≡ false
side_foreign (Server service nonces) f call other =
    if_foreign (not f.is_known && not (f.can_start && f.has_number)) tooks.Strange _ refl
    (if_foreign (not f.is_known && not f.has_place) tooks.Full _ refl
    (if_foreign f.stops_all tooks.Stopped _ refl
    (if_foreign (not f.has_number) tooks.Strange _ refl
    (if_foreign f.is_below tooks.Old _ refl
    (if_foreign (f.is_above && not f.can_start) tooks.Strange _ refl
    (if_foreign (f.is_above && f.is_handled) tooks.Busy _ refl
    (if_foreign (f.is_above && (not f.is_live && f.is_crowded)) tooks.NoRoom _ refl
    (if_foreign (not f.is_above && not f.is_active) tooks.Over call refl other))))))))
side_foreign (Client host epoch) f call other =
    if_foreign f.stops_all tooks.Stopped _ refl
    (if_foreign (not f.has_number) tooks.Strange _ refl
    (if_foreign f.is_below tooks.Old _ refl
    (if_foreign f.is_above tooks.Strange _ refl
    (if_foreign (not f.is_active) tooks.Over call refl other))))

-- no DATA or ACK that came through the rows in front is foreign
pub named_foreign : (s : Setup) (l : Looks) (c : CallName) (m : Message) → IsSent m.body
    → took_named s l c m ≡ tooks.Foreign → ⊥
named_foreign s l c m stream is =
    (let other = side_foreign s.kind (facts_of s l c m) (own_row s (opened s c l) c m)
    (own_foreign s (opened s c l) m (call_at (opened s c l) c) stream) in
    let yes : is_foreign (took_named s l c m) ≡ true = ap is_foreign is in
    let both : true ≡ false = sym yes ∙ other in cc)
