-- What answers of a server tell of the message: a call that starts, or waits, was asked for by DATA above its
-- channel's number.
use Rattle.std.proofs.Common.{◌≡◌, ◌&&◌, if◌then◌else◌, not, nat_lt, is_some, ℕ, Bool, true, false, List, Option, Some}
use Rattle.std.proofs.Common.{None, Ok, refl, ◌∙◌, ap, subst}
use Rattle.rx_model.specs.declared.answers.Took.{Took}
use Rattle.rx_model.specs.declared.answers.Took.TheVariants as tooks
use Rattle.rx_model.specs.declared.names.CallName.{CallName}
use Rattle.rx_model.specs.declared.names.Host.{Host}
use Rattle.rx_rules.specs.After.{enters}
use Rattle.rx_model.specs.Body.{Body}
use Rattle.rx_model.specs.Body as bodies
use Rattle.rx_rules.specs.CallLooks.{CallLooks, NodeView, call_row}
use Rattle.rx_rules.specs.Judging.{Facts, else_row, facts_of, is_data, is_right, live_row, opened, outer_row, own_row}
use Rattle.rx_rules.specs.Judging.{row_at, server_row, side_row}
use Rattle.rx_rules.specs.Judging.{took_named, took_reading}
use Rattle.rx_rules.specs.Looks.{CallRecord, Looks, call_at, channel_at, is_proved}
use Rattle.rx_model.specs.Message.{Message}
use Rattle.rx_model.specs.Names.{channel_of, connection_of}
use Rattle.rx_rules.specs.Received.{Arrival, arrival_row}
use Rattle.rx_rules.specs.Sent.{is_all_given, is_strange_ack}
use Rattle.rx_rules.specs.Setup.{Setup, Kind, Server, Client, IsServer, named}
use Rattle.rx_rules.specs.Slots.{node_view}
use Rattle.rx_model.proofs.NameLaws.{both}

-- the answers for which a client is told to wait
abbrev pub waits : Took → Bool
waits tooks.Busy = true
waits tooks.NoRoom = true
waits _ = false

-- ---- no live call tells to wait

waits-if : (b : Bool) (x y : Took) → waits x ≡ false → waits y ≡ false → waits (if b then x else y) ≡ false
waits-if true x y p q = p
waits-if false x y p q = q

arrival-waits : (a : Arrival) → waits (arrival_row a) ≡ false
arrival-waits a = of a.is_strange a.is_repeat a.is_beyond a.is_clash a.has_slot
  where
    of : (b c d e f : Bool) → waits (if b then tooks.Strange else if c then tooks.Repeat else if d then tooks.Beyond
        else if e then tooks.Clash else if f then tooks.Kept else tooks.NoSlot) ≡ false
    of true c d e f = refl
    of false true d e f = refl
    of false false true e f = refl
    of false false false true f = refl
    of false false false false true = refl
    of false false false false false = refl

call-waits : (v : NodeView) (m : Message) (body : Body) (k : CallLooks) → waits (call_row v m body k) ≡ false
call-waits v m (bodies.Chunk payload) k = arrival-waits _
call-waits v m (bodies.Ack a) k = waits-if (is_strange_ack a.first a.marks k.sent) tooks.Strange tooks.Heard refl refl
call-waits v m bodies.AckAll k = waits-if (is_all_given k.sent) tooks.Heard tooks.Strange refl refl
call-waits v m bodies.Busy k = refl
call-waits v m (bodies.Abort code) k = refl
call-waits v m (bodies.Challenge bytes) k = refl
call-waits v m (bodies.Response bytes) k = refl

live-waits : (s : Setup) (l : Looks) (k : CallRecord) (m : Message) (body : Body) → waits (live_row s l k m body)
    ≡ false
live-waits s l k m (bodies.Response bytes) =
    waits-if (is_right s l k.name bytes) tooks.Heard (if is_proved l
    (connection_of k.name) then tooks.Strange else tooks.Stopped) refl
    (waits-if (is_proved l (connection_of k.name)) tooks.Strange tooks.Stopped refl refl)
live-waits s l k m (bodies.Challenge bytes) = waits-if (is_some
    (s.class.respond k.name bytes)) tooks.Heard tooks.Strange refl refl
live-waits s l k m (bodies.Chunk payload) = call-waits (node_view s l) m m.body k.looks
live-waits s l k m bodies.Busy = call-waits (node_view s l) m m.body k.looks
live-waits s l k m (bodies.Ack a) = call-waits (node_view s l) m m.body k.looks
live-waits s l k m (bodies.Abort code) = call-waits (node_view s l) m m.body k.looks
live-waits s l k m bodies.AckAll = call-waits (node_view s l) m m.body k.looks

row-waits : (s : Setup) (l : Looks) (o : Option CallRecord) (m : Message) → waits (row_at s l o m) ≡ false
row-waits s l None m = refl
row-waits s l (Some k) m = live-waits s l k m m.body

-- ---- the rows of a server

row-starts : (f : Facts) (call : Took) → enters (server_row f call) ≡ true → f.is_above ≡ true → f.can_start ≡ true
row-starts f call is above =
    of (not f.is_known && not (f.can_start && f.has_number)) (not f.is_known && not f.has_place) f.stops_all
    (not f.has_number) f.is_below
    f.is_above f.can_start _ is above
  where
    of : (a b c d e up start : Bool) (rest : Took)
        → enters (if a then tooks.Strange else if b then tooks.Full else if c then tooks.Stopped else if d
        then tooks.Strange
        else if e then tooks.Old else if up && not start then tooks.Strange else rest) ≡ true → up ≡ true → start ≡ true
    of a b c d e up true rest is above = refl
    of true b c d e up false rest is above = absurd cc
    of false true c d e up false rest is above = absurd cc
    of false false true d e up false rest is above = absurd cc
    of false false false true e up false rest is above = absurd cc
    of false false false false true up false rest is above = absurd cc
    of false false false false false true false rest is above = absurd cc
    of false false false false false false false rest is above = absurd cc

row-above : (f : Facts) (call : Took) → waits call ≡ false → waits (server_row f call) ≡ true → f.is_above ≡ true
row-above f call own is =
    of (not f.is_known && not (f.can_start && f.has_number)) (not f.is_known && not f.has_place) f.stops_all
    (not f.has_number) f.is_below
    f.is_above (not f.can_start) f.is_handled (not f.is_live && f.is_crowded) (not f.is_active) is
  where
    of : (a b c d e up start handled crowded active : Bool)
        → waits (if a then tooks.Strange else if b then tooks.Full else if c then tooks.Stopped else if d
        then tooks.Strange
        else if e then tooks.Old else if up && start then tooks.Strange else if up && handled then tooks.Busy
        else if up && crowded then tooks.NoRoom else if not up && active then tooks.Over else call) ≡ true → up ≡ true
    of a b c d e true start handled crowded active is = refl
    of true b c d e false start handled crowded active is = absurd cc
    of false true c d e false start handled crowded active is = absurd cc
    of false false true d e false start handled crowded active is = absurd cc
    of false false false true e false start handled crowded active is = absurd cc
    of false false false false true false start handled crowded active is = absurd cc
    of false false false false false false start handled crowded true is = absurd cc
    of false false false false false false start handled crowded false is = absurd cc (own, is)

server-row : (s : Setup) (kind : Kind) (f : Facts) (call : Took) → IsServer kind → side_row kind f call
    ≡ server_row f call
server-row s (Server service nonces) f call server = refl
server-row s (Client host epoch) f call server = absurd server

-- the answer to a message that no row in front answers
named-row : (s : Setup) (l : Looks) (from : Host) (m : Message) (got : Took) → IsServer s.kind → got
    ≡ took_reading s l from (Ok m)
    → outer_row s s.kind l from m ≡ None
    → got ≡ server_row (facts_of s l (named s from m) m) (own_row s (opened s (named s from m) l) (named s from m) m)
named-row s l from m got server is front =
    is ∙ ap (λ (o : Option Took). else_row o (took_named s l (named s from m) m)) front
    ∙ server-row s s.kind (facts_of s l (named s from m) m) (own_row s (opened s (named s from m) l)
    (named s from m) m) server

-- above its channel's number it was DATA
pub asks-data : (s : Setup) (l : Looks) (from : Host) (m : Message) (got : Took) → IsServer s.kind → got
    ≡ took_reading s l from (Ok m)
    → outer_row s s.kind l from m ≡ None → enters got ≡ true
    → nat_lt (channel_at l (channel_of (named s from m))).number m.number ≡ true → is_data m.body ≡ true
asks-data s l from m got server is front enters' above =
    let d : CallName = named s from m in
    let row = named-row s l from m got server is front in
    (both (is_data m.body) _
    (row-starts (facts_of s l d m) (own_row s (opened s d l) d m)
    (subst (λ (t : Took). enters t ≡ true) row enters') above)).0

-- where it waits it is above
pub waits-above : (s : Setup) (l : Looks) (from : Host) (m : Message) (got : Took) → IsServer s.kind → got
    ≡ took_reading s l from (Ok m)
    → outer_row s s.kind l from m ≡ None → waits got ≡ true → nat_lt
    (channel_at l (channel_of (named s from m))).number m.number ≡ true
waits-above s l from m got server is front waits' =
    let d : CallName = named s from m in
    let row = named-row s l from m got server is front in
    row-above (facts_of s l d m) (own_row s (opened s d l) d m)
    (row-waits s (opened s d l) (call_at (opened s d l) d) m)
    (subst (λ (t : Took). waits t ≡ true) row waits')

-- DATA has a payload
pub data-is : (body : Body) → is_data body ≡ true → (payload : List ℕ) × (body ≡ bodies.Chunk payload)
data-is (bodies.Chunk payload) is = (payload, refl)
data-is bodies.Busy is = absurd cc
data-is (bodies.Ack a) is = absurd cc
data-is (bodies.Abort code) is = absurd cc
data-is bodies.AckAll is = absurd cc
data-is (bodies.Challenge bytes) is = absurd cc
data-is (bodies.Response bytes) is = absurd cc
