-- Why a node answers that a call is too much for it: the call starts above its channel's, whose call has its handler at
-- work, or as many calls live as may.
use Rattle.std.proofs.Common.{◌≡◌, ◌⊎◌, ◌&&◌, not, if◌then◌else◌, Bool, true, false, Option, Some, None, refl, inl, inr}
use Rattle.std.proofs.Common.{sym, ◌∙◌, is_some}
use Rattle.rx_model.specs.declared.answers.Took.{Took}
use Rattle.rx_model.specs.declared.answers.Took.TheVariants as tooks
use Rattle.rx_model.specs.Body.{Body}
use Rattle.rx_model.specs.Body as bodies
use Rattle.rx_model.specs.Message.{Message}
use Rattle.rx_model.specs.Names.{connection_of}
use Rattle.rx_rules.specs.CallLooks.{CallLooks, NodeView, call_row}
use Rattle.rx_rules.specs.Judging.{Facts, client_row, live_row, is_right, row_at, server_row, side_row}
use Rattle.rx_rules.specs.Looks.{CallRecord, Looks, is_proved}
use Rattle.rx_rules.specs.Received.{Arrival, arrival_row}
use Rattle.rx_rules.specs.Sent.{is_all_given, is_strange_ack}
use Rattle.rx_rules.specs.Setup.{Setup, Kind, Client, Server}
use Rattle.rx_rules.specs.Slots.{node_view}
use Rattle.rx_model.proofs.NameLaws.{both}

-- ---- answers

-- a call that is too much
abbrev pub is_busy : Took → Bool
is_busy tooks.Busy = true
is_busy tooks.NoRoom = true
is_busy _ = false

if_calm : (b : Bool) (x y : Took) → is_busy x ≡ false → is_busy y ≡ false → is_busy (if b then x else y) ≡ false
if_calm true x y here there = here
if_calm false x y here there = there

arrival_calm : (a : Arrival) → is_busy (arrival_row a) ≡ false
arrival_calm a =
    if_calm a.is_strange tooks.Strange _ refl
    (if_calm a.is_repeat tooks.Repeat _ refl
    (if_calm a.is_beyond tooks.Beyond _ refl
    (if_calm a.is_clash tooks.Clash _ refl (if_calm a.has_slot tooks.Kept tooks.NoSlot refl refl))))

call_calm : (v : NodeView) (m : Message) (body : Body) (k : CallLooks) → is_busy (call_row v m body k) ≡ false
call_calm v m (bodies.Chunk payload) k = arrival_calm _
call_calm v m (bodies.Ack a) k =
    if_calm (is_strange_ack a.first a.marks k.sent) tooks.Strange tooks.Heard refl refl
call_calm v m bodies.AckAll k = if_calm (is_all_given k.sent) tooks.Heard tooks.Strange refl refl
call_calm v m _ k = refl

live_calm : (s : Setup) (l : Looks) (k : CallRecord) (m : Message) (body : Body)
    → is_busy (live_row s l k m body) ≡ false
live_calm s l k m (bodies.Response bytes) =
    if_calm (is_right s l k.name bytes) tooks.Heard _ refl
    (if_calm (is_proved l (connection_of k.name)) tooks.Strange tooks.Stopped refl refl)
live_calm s l k m (bodies.Challenge bytes) =
    if_calm (is_some (s.class.respond k.name bytes)) tooks.Heard tooks.Strange refl refl
live_calm s l k m _ = call_calm (node_view s l) m m.body k.looks

pub row_calm : (s : Setup) (l : Looks) (o : Option CallRecord) (m : Message) → is_busy (row_at s l o m) ≡ false
row_calm s l None m = refl
row_calm s l (Some k) m = live_calm s l k m m.body

-- a row that isn't the one
pass : (b : Bool) (row rest : Took) → is_busy row ≡ false → is_busy (if b then row else rest) ≡ true
    → (b ≡ false) × (is_busy rest ≡ true)
pass true row rest calm is = absurd (let no : false ≡ true = sym calm ∙ is in cc)
pass false row rest calm is = (refl, is)

-- why a server answers so
pub record Crowds (f : Facts) : Type 0 where
  pub above : f.is_above ≡ true
  pub starts : f.can_start ≡ true
  pub why : (f.is_handled ≡ true) ⊎ (f.is_crowded ≡ true)

server_crowds : (f : Facts) (call : Took) → is_busy call ≡ false → is_busy (server_row f call) ≡ true → Crowds f
server_crowds f call calm is =
    sixth (f.is_above && f.is_handled) refl
    (pass (f.is_above && not f.can_start) tooks.Strange r6 refl
    (pass f.is_below tooks.Old r5 refl
    (pass (not f.has_number) tooks.Strange r4 refl
    (pass f.stops_all tooks.Stopped r3 refl
    (pass (not f.is_known && not f.has_place) tooks.Full r2 refl
    (pass (not f.is_known && not (f.can_start && f.has_number)) tooks.Strange r1 refl is).1).1).1).1).1)
  where
    r8 : Took
    r8 = if not f.is_above && not f.is_active then tooks.Over else call

    r7 : Took
    r7 = if f.is_above && (not f.is_live && f.is_crowded) then tooks.NoRoom else r8

    r6 : Took
    r6 = if f.is_above && f.is_handled then tooks.Busy else r7

    r5 : Took
    r5 = if f.is_above && not f.can_start then tooks.Strange else r6

    r4 : Took
    r4 = if f.is_below then tooks.Old else r5

    r3 : Took
    r3 = if not f.has_number then tooks.Strange else r4

    r2 : Took
    r2 = if f.stops_all then tooks.Stopped else r3

    r1 : Took
    r1 = if not f.is_known && not f.has_place then tooks.Full else r2

    can : (a b : Bool) → a ≡ true → (a && not b) ≡ false → b ≡ true
    can true true above none = refl
    can true false above none = absurd cc
    can false b above none = absurd cc

    seventh : (b : Bool) → (f.is_above && (not f.is_live && f.is_crowded)) ≡ b
        → (f.is_above && not f.can_start) ≡ false → is_busy (if b then tooks.NoRoom else r8) ≡ true → Crowds f
    seventh true holds starts busy =
        (let one = both f.is_above (not f.is_live && f.is_crowded) holds in
        let two = both (not f.is_live) f.is_crowded one.1 in
        record { above = one.0; starts = can f.is_above f.can_start one.0 starts; why = inr two.1 })
    seventh false fails starts busy =
        absurd (let last = pass (not f.is_above && not f.is_active) tooks.Over call refl busy in
        let no : false ≡ true = sym calm ∙ last.1 in cc)

    sixth : (b : Bool) → (f.is_above && f.is_handled) ≡ b
        → ((f.is_above && not f.can_start) ≡ false) × (is_busy (if b then tooks.Busy else r7) ≡ true) → Crowds f
    sixth true holds p =
        (let one = both f.is_above f.is_handled holds in
        record { above = one.0; starts = can f.is_above f.can_start one.0 p.0; why = inl one.1 })
    sixth false fails p = seventh (f.is_above && (not f.is_live && f.is_crowded)) refl p.0 p.1

client_calm : (f : Facts) (call : Took) → is_busy call ≡ false → is_busy (client_row f call) ≡ false
client_calm f call calm =
    if_calm f.stops_all tooks.Stopped _ refl
    (if_calm (not f.has_number) tooks.Strange _ refl
    (if_calm f.is_below tooks.Old _ refl
    (if_calm f.is_above tooks.Strange _ refl (if_calm (not f.is_active) tooks.Over call refl calm))))

pub side_crowds : (kind : Kind) (f : Facts) (call : Took) → is_busy call ≡ false → is_busy (side_row kind f call) ≡ true
    → Crowds f
side_crowds (Server service nonces) f call calm is = server_crowds f call calm is
side_crowds (Client host epoch) f call calm is =
    absurd (let no : false ≡ true = sym (client_calm f call calm) ∙ is in cc)
