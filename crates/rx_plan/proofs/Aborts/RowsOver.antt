-- Where an answer makes a channel owe a code, the message is of the channel's latest call; and what a busy row means.
use Rattle.std.proofs.Common.{None, ◌≡◌, ◌&&◌, ℕ, if◌then◌else◌, not, nat_lt, is_some, Bool, true, false}
use Rattle.std.proofs.Common.{Option, Some, refl, ◌∙◌, ap, sym, arith}
use Rattle.std.proofs.lemmas.Bool.Decides.{nat_tests}
use Rattle.rx_model.specs.declared.answers.Took.{Took}
use Rattle.rx_model.specs.declared.answers.Took.TheVariants as tooks
use Rattle.rx_model.specs.declared.names.CallName.{CallName}
use Rattle.rx_model.specs.Body.{Body}
use Rattle.rx_model.specs.Body as bodies
use Rattle.rx_model.specs.Message.{Message}
use Rattle.rx_model.specs.Names.{channel_of, connection_of}
use Rattle.rx_rules.specs.CallLooks.{CallLooks, NodeView, call_row}
use Rattle.rx_rules.specs.Judging.{is_data}
use Rattle.rx_rules.specs.Judging.{Facts, facts_of, is_right, live_row, opened, own_row, row_at, side_row, took_named}
use Rattle.rx_rules.specs.Looks.{CallRecord, Looks, call_at, channel_at, is_proved}
use Rattle.rx_rules.specs.Received.{Arrival, arrival_row}
use Rattle.rx_rules.specs.Sent.{is_all_given, is_strange_ack}
use Rattle.rx_rules.specs.Setup.{Client, Kind, Server, Setup}
use Rattle.rx_rules.specs.Slots.{node_view}
use Rattle.rx_history.proofs.Fit.FitConnTaken.{may_abort}
use Rattle.rx_history.proofs.Rows.RowsAborting.{aborts_latest, passed}
use Rattle.rx_plan.proofs.Soundness.SoundPlan.{and_left}

-- ---- the channel's number

pub same_numbers : (m n : ℕ) → nat_lt m n ≡ false → nat_lt n m ≡ false → n ≡ m
same_numbers m n below above = grind (arith, nat_tests)

-- it is the message's
pub latest_number : (s : Setup) (l : Looks) (c : CallName) (m : Message) (got : Took) → m.number ≡ c.number
    → took_named s l c m ≡ got
    → may_abort got m.body ≡ true → (channel_at l (channel_of c)).number ≡ c.number
latest_number s l c m got number is may =
    let latest = aborts_latest s l c m got number is may in
    same_numbers m.number (channel_at l (channel_of c)).number latest.below latest.above ∙ number

-- ---- a busy row

abbrev is_busy : Took → Bool
is_busy tooks.Busy = true
is_busy _ = false

if-busy : (b : Bool) (x y : Took) → is_busy x ≡ false → is_busy y ≡ false → is_busy (if b then x else y) ≡ false
if-busy true x y p q = p
if-busy false x y p q = q

arrival-busy : (a : Arrival) → is_busy (arrival_row a) ≡ false
arrival-busy a =
    if-busy a.is_strange tooks.Strange _ refl
    (if-busy a.is_repeat tooks.Repeat _ refl (if-busy a.is_beyond tooks.Beyond _ refl
    (if-busy a.is_clash tooks.Clash _ refl (if-busy a.has_slot tooks.Kept tooks.NoSlot refl refl))))

call-busy : (v : NodeView) (m : Message) (body : Body) (k : CallLooks) → is_busy (call_row v m body k) ≡ false
call-busy v m (bodies.Chunk payload) k = arrival-busy _
call-busy v m (bodies.Ack a) k = if-busy (is_strange_ack a.first a.marks k.sent) tooks.Strange tooks.Heard refl refl
call-busy v m bodies.AckAll k = if-busy (is_all_given k.sent) tooks.Heard tooks.Strange refl refl
call-busy v m bodies.Busy k = refl
call-busy v m (bodies.Abort code) k = refl
call-busy v m (bodies.Challenge bytes) k = refl
call-busy v m (bodies.Response bytes) k = refl

live-busy : (s : Setup) (l : Looks) (k : CallRecord) (m : Message) (body : Body)
    → is_busy (live_row s l k m body) ≡ false
live-busy s l k m (bodies.Response bytes) =
    if-busy (is_right s l k.name bytes) tooks.Heard _ refl
    (if-busy (is_proved l (connection_of k.name)) tooks.Strange tooks.Stopped refl refl)
live-busy s l k m (bodies.Challenge bytes) =
    if-busy (is_some (s.class.respond k.name bytes)) tooks.Heard tooks.Strange refl refl
live-busy s l k m (bodies.Chunk payload) = call-busy (node_view s l) m m.body k.looks
live-busy s l k m bodies.Busy = call-busy (node_view s l) m m.body k.looks
live-busy s l k m (bodies.Ack a) = call-busy (node_view s l) m m.body k.looks
live-busy s l k m (bodies.Abort code) = call-busy (node_view s l) m m.body k.looks
live-busy s l k m bodies.AckAll = call-busy (node_view s l) m m.body k.looks

own-busy : (s : Setup) (l : Looks) (c : CallName) (m : Message) → is_busy (own_row s l c m) ≡ false
own-busy s l c m = of (call_at l c)
  where
    of : (o : Option CallRecord) → is_busy (row_at s l o m) ≡ false
    of None = refl
    of (Some k) = live-busy s l k m m.body

-- the row of a call with a handler at work, where the number is above
busy-here : (above handled : Bool) (rest : Took) → is_busy rest ≡ false
    → (if above && handled then tooks.Busy else rest) ≡ tooks.Busy → above ≡ true
busy-here true handled rest other is = refl
busy-here false handled rest other is =
    absurd (let busy : is_busy rest ≡ true = ap is_busy is in cc (busy, other))

side-busy : (kind : Kind) (f : Facts) (call : Took) → is_busy call ≡ false → side_row kind f call ≡ tooks.Busy
    → f.is_above ≡ true
side-busy (Server service nonces) f call other is =
    let a = passed is_busy
    (not f.is_known && not (f.can_start && f.has_number)) tooks.Strange _ tooks.Busy refl refl is in
    let b = passed is_busy (not f.is_known && not f.has_place) tooks.Full _ tooks.Busy refl refl a.1 in
    let d = passed is_busy f.stops_all tooks.Stopped _ tooks.Busy refl refl b.1 in
    let e = passed is_busy (not f.has_number) tooks.Strange _ tooks.Busy refl refl d.1 in
    let g = passed is_busy f.is_below tooks.Old _ tooks.Busy refl refl e.1 in
    let h = passed is_busy (f.is_above && not f.can_start) tooks.Strange _ tooks.Busy refl refl g.1 in
    busy-here f.is_above f.is_handled _
    (if-busy (f.is_above && (not f.is_live && f.is_crowded)) tooks.NoRoom _ refl
    (if-busy (not f.is_above && not f.is_active) tooks.Over call refl other)) h.1
side-busy (Client host epoch) f call other is =
    let a = passed is_busy f.stops_all tooks.Stopped _ tooks.Busy refl refl is in
    let b = passed is_busy (not f.has_number) tooks.Strange _ tooks.Busy refl refl a.1 in
    let d = passed is_busy f.is_below tooks.Old _ tooks.Busy refl refl b.1 in
    let e = passed is_busy f.is_above tooks.Strange _ tooks.Busy refl refl d.1 in
    let g = passed is_busy (not f.is_active) tooks.Over call tooks.Busy refl refl e.1 in
    absurd (let busy : is_busy call ≡ true = ap is_busy g.1 in cc (busy, other))

-- its number is above its channel's
pub busy_above : (s : Setup) (l : Looks) (c : CallName) (m : Message) → took_named s l c m ≡ tooks.Busy
    → nat_lt (channel_at l (channel_of c)).number m.number ≡ true
busy_above s l c m is =
    side-busy s.kind (facts_of s l c m) (own_row s (opened s c l) c m) (own-busy s (opened s c l) c m) is

-- ---- a row of a call that starts

-- the answers with which a later call takes its channel, or breaks the one before it
abbrev pub may_follow : Took → Bool
may_follow tooks.Kept = true
may_follow tooks.NoSlot = true
may_follow tooks.Busy = true
may_follow _ = false

above-can : (above can : Bool) → above ≡ true → (above && not can) ≡ false → can ≡ true
above-can true true high is = refl
above-can true false high is = absurd cc
above-can false can high is = absurd cc

side-follow : (kind : Kind) (f : Facts) (call got : Took) → may_follow got ≡ true → side_row kind f call ≡ got
    → f.is_above ≡ true → f.can_start ≡ true
side-follow (Server service nonces) f call got follows is above =
    let a = passed may_follow
    (not f.is_known && not (f.can_start && f.has_number)) tooks.Strange _ got follows refl is in
    let b = passed may_follow (not f.is_known && not f.has_place) tooks.Full _ got follows refl a.1 in
    let d = passed may_follow f.stops_all tooks.Stopped _ got follows refl b.1 in
    let e = passed may_follow (not f.has_number) tooks.Strange _ got follows refl d.1 in
    let g = passed may_follow f.is_below tooks.Old _ got follows refl e.1 in
    let h = passed may_follow (f.is_above && not f.can_start) tooks.Strange _ got follows refl g.1 in
    above-can f.is_above f.can_start above h.0
side-follow (Client host epoch) f call got follows is above =
    let a = passed may_follow f.stops_all tooks.Stopped _ got follows refl is in
    let b = passed may_follow (not f.has_number) tooks.Strange _ got follows refl a.1 in
    let d = passed may_follow f.is_below tooks.Old _ got follows refl b.1 in
    let e = passed may_follow f.is_above tooks.Strange _ got follows refl d.1 in
    absurd (let never : true ≡ false = sym above ∙ e.0 in cc)

-- where its number is above its channel's, it is data
pub follow_data : (s : Setup) (l : Looks) (c : CallName) (m : Message) (got : Took) → took_named s l c m ≡ got
    → may_follow got ≡ true → nat_lt (channel_at l (channel_of c)).number m.number ≡ true → is_data m.body ≡ true
follow_data s l c m got is follows above =
    and_left (is_data m.body) _
    (side-follow s.kind (facts_of s l c m) (own_row s (opened s c l) c m) got follows is above)
