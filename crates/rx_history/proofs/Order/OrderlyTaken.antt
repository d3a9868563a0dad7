-- A datagram that is taken leaves a node's calls and connections in order.
use Rattle.std.proofs.Common.{◌≡◌, ◌⊎◌, ◌<◌, ◌&&◌, ℕ, if◌then◌else◌, not, nat_le, nat_lt, is_some, Bool, true, false}
use Rattle.std.proofs.Common.{List, Option, Some, None, Result, Ok, Err, refl, ◌∙◌, ap, sym, subst, inl, inr, arith}
use Rattle.std.proofs.lemmas.Bool.Decides.{nat_tests}
use Rattle.rx_model.specs.declared.answers.BadMsg.{BadMsg}
use Rattle.rx_model.specs.declared.answers.Took.{Took}
use Rattle.rx_model.specs.declared.answers.Took.TheVariants as tooks
use Rattle.rx_model.specs.declared.names.CallName.{CallName}
use Rattle.rx_model.specs.declared.names.Host.{Host}
use Rattle.rx_model.specs.Message.{Message}
use Rattle.rx_model.specs.Names.{Connection, channel_of, connection_of}
use Rattle.rx_rules.specs.After.{enters, prepared, taken_behind, taken_data, taken_message, taken_with, turned_away}
use Rattle.rx_rules.specs.Judging.{Facts, else_row, facts_of, opened, outer_row, own_row, took_named, took_reading}
use Rattle.rx_rules.specs.Life.{is_handled, is_live}
use Rattle.rx_rules.specs.Looks.{CallRecord, Looks, call_at, call_named, channel_at, conn_at, is_call, latest}
use Rattle.rx_rules.specs.Looks.{latest_name}
use Rattle.rx_rules.specs.Records.{entered}
use Rattle.rx_rules.specs.Setup.{Setup, Kind, Server, Client, IsServer, is_client, named}
use Rattle.rx_rules.specs.Slots.{count_live, live}
use Rattle.rx_history.proofs.Dimensions.DimsTaken.{data_dims, turned_dims, used_dims, with_dims}
use Rattle.rx_history.proofs.Events.{call-by, calls-prepared}
use Rattle.rx_history.proofs.MessageTaken.{there-used}
use Rattle.rx_history.proofs.Openings.{channel_prepared}
use Rattle.rx_history.proofs.Order.Orderly.{Orderly, orderly_dims}
use Rattle.rx_history.proofs.Order.OrderlyEnter.{orderly_entered}
use Rattle.rx_history.proofs.Places.{there-entered}
use Rattle.rx_history.proofs.Room.RoomStarts.{RoomyAt, roomy_by}
use Rattle.rx_history.proofs.Rows.RowsInFront.{above_served, may_start, places_server, side_own}
use Rattle.rx_history.proofs.Order.OrderlyOpens.{Opens, orderly_opened}

-- ---- the row was judged before the record of its connection was entered

if-room : (living crowded : Bool) → (not living && crowded) ≡ false → (living ≡ true) ⊎ (crowded ≡ false)
if-room true crowded is = inl refl
if-room false crowded is = inr is

pub opens_ready : (s : Setup) (c : CallName) (m : Message) (got : Took) (l : Looks) → may_start got ≡ true
    → enters got ≡ true → m.number ≡ c.number
    → took_named s l c m ≡ got
    → nat_lt (channel_at (prepared s got (connection_of c) l) (channel_of c)).number c.number ≡ true
    → Opens s c (prepared s got (connection_of c) l)
opens_ready s c m got l starts enter number is above =
    let x : Connection = connection_of c in
    let ready : Looks = prepared s got x l in
    let f : Facts = facts_of s l c m in
    let own = side_own s.kind f (own_row s (opened s c l) c m) got starts is in
    let high : f.is_above ≡ true =
    (λ i. nat_lt (sym (channel_prepared s got c l) i) (number i)) ∙ above in
    let server = above_served s.kind f (own_row s (opened s c l) c m) got starts is high in
    let calls = calls-prepared s got x l in
    let same : latest ready (channel_of c) ≡ latest l (channel_of c) =
    ap (λ (n : ℕ). call_at ready (call_named (channel_of c) n)) (channel_prepared s got c l)
    ∙ call-by (latest_name l (channel_of c)) l ready calls in
    record {
      server = server;
      known = there-used x (if enters got then entered s x l else l) (entered-there (enters got) enter server);
      free = ap (λ (o : Option CallRecord). is_call (λ k. is_handled k.life) o) same
          ∙ past f.is_above f.is_handled high own.free;
      room = (elim (if-room f.is_live f.is_crowded (past f.is_above (not f.is_live && f.is_crowded) high own.placed))
          as (λ t. (is_call (λ k. is_live k.life) (latest ready (channel_of c)) ≡ true)
          ⊎ (live ready < s.limits.calls)) [
            | inl living ↦ inl (ap (λ (o : Option CallRecord). is_call (λ k. is_live k.life) o) same ∙ living)
            | inr crowded ↦ inr (subst (λ (ks : List CallRecord). count_live ks < s.limits.calls) (sym calls)
                (fewer (live l) crowded))
          ]);
    }
  where
    past : (a b : Bool) → a ≡ true → (a && b) ≡ false → b ≡ false
    past true b is none = none
    past false b is none = absurd cc

    fewer : (n : ℕ) → nat_le s.limits.calls n ≡ false → n < s.limits.calls
    fewer n high = grind (arith, nat_tests)

    entered-there : (b : Bool) → b ≡ true → is_client s.kind ≡ false
        → is_some (conn_at (if b then entered s (connection_of c) l else l) (connection_of c)) ≡ true
    entered-there true is server = there-entered s (connection_of c) l (serves s.kind server)
      where
        serves : (kind : Kind) → is_client kind ≡ false → IsServer kind
        serves (Server service nonces) is = tt
        serves (Client host epoch) is = absurd cc
    entered-there false is server = absurd cc

-- its record is entered where there is a place for it
orderly-prepared : (s : Setup) (c : CallName) (m : Message) (got : Took) (l : Looks) → took_named s l c m ≡ got
    → Orderly s l
    → Orderly s (prepared s got (connection_of c) l)
orderly-prepared s c m got l is o =
    let x : Connection = connection_of c in
    let at : Looks = if enters got then entered s x l else l in
    orderly_dims s at (prepared s got x l) (used_dims x at) (of (enters got) refl)
  where
    of : (b : Bool) → enters got ≡ b → Orderly s (if b then entered s (connection_of c) l else l)
    of false none = o
    of true enter =
        orderly_entered s (connection_of c) l
        (λ server unknown. places_server s.kind (facts_of s l c m)
        (own_row s (opened s c l) c m) got enter server unknown is) o

-- ---- by the answer

orderly-with : (s : Setup) (got : Took) (c : CallName) (m : Message) (l : Looks) → c.chan < 4
    → (may_start got ≡ true → nat_lt (channel_at l (channel_of c)).number c.number ≡ true → Opens s c l)
    → RoomyAt s l → Orderly s l → Orderly s (taken_with s got c m l)
orderly-with s tooks.Kept c m l chan opens r o =
    orderly_dims s (opened s c l) (taken_data s tooks.Kept c m (opened s c l))
    (data_dims s tooks.Kept c m (opened s c l))
    (orderly_opened s c l chan (opens refl) r o)
orderly-with s tooks.NoSlot c m l chan opens r o =
    orderly_dims s (opened s c l) (taken_data s tooks.NoSlot c m (opened s c l))
    (data_dims s tooks.NoSlot c m (opened s c l))
    (orderly_opened s c l chan (opens refl) r o)
orderly-with s got c m l chan opens r o = orderly_dims s l (taken_with s got c m l) (with_dims s got c m l refl) o

may-enter : (got : Took) → may_start got ≡ true → enters got ≡ true
may-enter tooks.Kept is = refl
may-enter tooks.NoSlot is = refl
may-enter _ is = absurd cc

orderly-behind : (s : Setup) (row : Option Took) (from : Host) (c : CallName) (m : Message) (got : Took) (l : Looks)
    → c.chan < 4 → m.number ≡ c.number
    → (row ≡ None → took_named s l c m ≡ got) → RoomyAt s l → Orderly s l
    → Orderly s (taken_behind s row from c m got l)
orderly-behind s (Some row) from c m got l chan number is r o = orderly_dims s l (turned_away row from m l)
    (turned_dims row from m l) o
orderly-behind s None from c m got l chan number is r o =
    orderly-with s got c m (prepared s got (connection_of c) l) chan
    (λ starts above. opens_ready s c m got l starts (may-enter got starts) number (is refl) above)
    (roomy_by s l (prepared s got (connection_of c) l) (calls-prepared s got (connection_of c) l) r)
    (orderly-prepared s c m got l (is refl) o)

-- a datagram is taken, with the rules' answer
pub orderly_message : (s : Setup) (from : Host) (reading : Result Message BadMsg) (got : Took) (l : Looks)
    → got ≡ took_reading s l from reading
    → RoomyAt s l → Orderly s l → Orderly s (taken_message s from reading got l)
orderly_message s from (Err bad) got l is r o = o
orderly_message s from (Ok m) got l is r o =
    orderly-behind s (outer_row s s.kind l from m) from (named s from m) m got l (omega arith) refl
    (λ none. sym (is ∙ ap (λ (q : Option Took). else_row q (took_named s l (named s from m) m)) none)) r o
