-- What the rows in front of a call's own say where a packet may start its call, or enters its connection.
use Rattle.std.proofs.Common.{◌≡◌, ◌&&◌, if◌then◌else◌, not, Bool, true, false}
use Rattle.std.proofs.Common.{refl, ap}
use Rattle.rx_model.specs.declared.answers.Took.{Took}
use Rattle.rx_model.specs.declared.answers.Took.TheVariants as tooks
use Rattle.rx_rules.specs.After.{enters}
use Rattle.rx_rules.specs.Judging.{Facts, client_row, server_row, side_row}
use Rattle.rx_rules.specs.Setup.{Kind, Server, Client, is_client}

-- the answers of a packet that may start its call
abbrev pub may_start : Took → Bool
may_start tooks.Kept = true
may_start tooks.NoSlot = true
may_start _ = false

-- ---- the rows before the call's own

-- a row in front didn't hold
pub past : (b : Bool) (row rest got : Took) → may_start got ≡ true → may_start row ≡ false
    → (if b then row else rest) ≡ got
    → (b ≡ false) × (rest ≡ got)
past true row rest got starts other is = absurd (let same : may_start row ≡ may_start got = ap may_start is in
    cc (same, starts, other))
past false row rest got starts other is = (refl, is)

-- the answer is the call's own; where its number is above its channel's, no handler is at work there, and it takes the
-- place of a live call or of none that is missing
pub record OwnRow (f : Facts) (call got : Took) : Type 0 where
  pub row : call ≡ got
  pub free : (f.is_above && f.is_handled) ≡ false
  pub placed : (f.is_above && (not f.is_live && f.is_crowded)) ≡ false

server-own : (f : Facts) (call got : Took) → may_start got ≡ true → server_row f call ≡ got → OwnRow f call got
server-own f call got starts is =
    let a = past (not f.is_known && not (f.can_start && f.has_number)) tooks.Strange _ got starts refl is in
    let b = past (not f.is_known && not f.has_place) tooks.Full _ got starts refl a.1 in
    let d = past f.stops_all tooks.Stopped _ got starts refl b.1 in
    let e = past (not f.has_number) tooks.Strange _ got starts refl d.1 in
    let g = past f.is_below tooks.Old _ got starts refl e.1 in
    let h = past (f.is_above && not f.can_start) tooks.Strange _ got starts refl g.1 in
    let i = past (f.is_above && f.is_handled) tooks.Busy _ got starts refl h.1 in
    let j = past (f.is_above && (not f.is_live && f.is_crowded)) tooks.NoRoom _ got starts refl i.1 in
    let k = past (not f.is_above && not f.is_active) tooks.Over call got starts refl j.1 in
    record { row = k.1; free = i.0; placed = j.0 }

client-own : (f : Facts) (call got : Took) → may_start got ≡ true → client_row f call ≡ got → OwnRow f call got
client-own f call got starts is =
    let a = past f.stops_all tooks.Stopped _ got starts refl is in
    let b = past (not f.has_number) tooks.Strange _ got starts refl a.1 in
    let d = past f.is_below tooks.Old _ got starts refl b.1 in
    let e = past f.is_above tooks.Strange _ got starts refl d.1 in
    let g = past (not f.is_active) tooks.Over call got starts refl e.1 in
    let low : f.is_above ≡ false = e.0 in
    record { row = g.1; free = rw low refl; placed = rw low refl }

-- whatever the kind of the node
pub side_own : (kind : Kind) (f : Facts) (call got : Took) → may_start got ≡ true → side_row kind f call ≡ got
    → OwnRow f call got
side_own (Server service nonces) f call got starts is = server-own f call got starts is
side_own (Client host epoch) f call got starts is = client-own f call got starts is

-- a client starts no call by a message
pub above_served : (kind : Kind) (f : Facts) (call got : Took) → may_start got ≡ true → side_row kind f call ≡ got
    → f.is_above ≡ true
    → is_client kind ≡ false
above_served (Server service nonces) f call got starts is above = refl
above_served (Client host epoch) f call got starts is above =
    let a = past f.stops_all tooks.Stopped _ got starts refl is in
    let b = past (not f.has_number) tooks.Strange _ got starts refl a.1 in
    let d = past f.is_below tooks.Old _ got starts refl b.1 in
    let e = past f.is_above tooks.Strange _ got starts refl d.1 in
    absurd (let low = e.0 in cc (low, above))

beyond : (b : Bool) (row rest got : Took) → enters got ≡ true → enters row ≡ false → (if b then row else rest) ≡ got
    → (b ≡ false) × (rest ≡ got)
beyond true row rest got enter other is = absurd (let same : enters row ≡ enters got = ap enters is in
    cc (same, enter, other))
beyond false row rest got enter other is = (refl, is)

-- where a server enters a connection there is a place for it
pub places_server : (kind : Kind) (f : Facts) (call got : Took) → enters got ≡ true → is_client kind ≡ false
    → f.is_known ≡ false
    → side_row kind f call ≡ got → f.has_place ≡ true
places_server (Client host epoch) f call got enter server unknown is = absurd cc
places_server (Server service nonces) f call got enter server unknown is =
    let a = beyond (not f.is_known && not (f.can_start && f.has_number)) tooks.Strange _ got enter refl is in
    let b = beyond (not f.is_known && not f.has_place) tooks.Full _ got enter refl a.1 in
    placed f.is_known f.has_place unknown b.0
  where
    placed : (known place : Bool) → known ≡ false → (not known && not place) ≡ false → place ≡ true
    placed false true unknown is = refl
    placed false false unknown is = absurd cc
    placed true place unknown is = absurd cc
