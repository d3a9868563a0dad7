-- A datagram that is taken leaves a node's calls with no more slots than they may hold.
use Rattle.std.proofs.Common.{◌≡◌, ◌&&◌, ◌==◌, ℤ, cond, if◌then◌else◌, not, Bool, true, false, List}
use Rattle.std.proofs.Common.{Option, Some, None}
use Rattle.std.proofs.Common.{Result, Ok, Err, refl, ◌∙◌, ap, sym, subst, map}
use Rattle.rx_model.specs.declared.answers.BadMsg.{BadMsg}
use Rattle.rx_model.specs.declared.answers.Took.{Took}
use Rattle.rx_model.specs.declared.answers.Took.TheVariants as tooks
use Rattle.rx_model.specs.declared.names.CallName.{CallName}
use Rattle.rx_model.specs.declared.names.Host.{Host}
use Rattle.rx_model.specs.declared.wire.TheConstants.{RX_CALL_DEAD, RX_PROTOCOL_ERROR}
use Rattle.rx_model.specs.Body.{Body}
use Rattle.rx_model.specs.Body as bodies
use Rattle.rx_model.specs.Message.{Message}
use Rattle.rx_model.specs.Names.{Connection, channel_of, connection_of, same_connection}
use Rattle.rx_rules.specs.After.{challenged, prepared, settled, stopped_all, taken_at, taken_behind, taken_data}
use Rattle.rx_rules.specs.After.{taken_heard, taken_message}
use Rattle.rx_rules.specs.After.{taken_over, taken_stopped, taken_with, turned_away}
use Rattle.rx_rules.specs.CallLooks.{after_taken, is_delivered}
use Rattle.rx_rules.specs.Judging.{else_row, facts_of, opened, outer_row, own_row, took_named, took_reading}
use Rattle.rx_rules.specs.Life.{after_acks, after_code}
use Rattle.rx_rules.specs.Looks.{CallRecord, Looks, call_at, is_proved, latest_name, on_call, on_channel}
use Rattle.rx_rules.specs.Looks.{on_life}
use Rattle.rx_rules.specs.Setup.{Setup, is_client, named, shared_slots}
use Rattle.rx_rules.specs.Slots.{node_view}
use Rattle.rx_rules.proofs.CallsLaws.{changed_if}
use Rattle.rx_history.proofs.Events.{calls-prepared, calls-turned}
use Rattle.rx_history.proofs.LifeFalls.{acks_falls, code_falls}
use Rattle.rx_history.proofs.Openings.{calls_ready}
use Rattle.rx_history.proofs.Room.Roomy.{Roomy, roomy_all, roomy_one, roomy_takes}
use Rattle.rx_history.proofs.Rows.RowsInFront.{side_own}
use Rattle.rx_history.proofs.Rows.RowsKept.{row_kept}
use Rattle.rx_history.proofs.Room.Tight.{gives_if, gives_life, gives_taken}
use Rattle.rx_history.proofs.Room.TightKept.{takes_kept}
use Rattle.rx_history.proofs.Room.RoomStarts.{RoomyAt, roomy_by, roomy_life, roomy_opened}

-- ---- data

pub challenged-calls : (s : Setup) (c : CallName) (l : Looks) → (challenged s c l).calls ≡ l.calls
challenged-calls s c l = of (not (is_client s.kind) && (s.class.challenges && not (is_proved l (connection_of c))))
  where
    of : (b : Bool) → (if b then on_channel (channel_of c) (λ q. record q { owed_challenge = true }) l else l).calls
        ≡ l.calls
    of true = refl
    of false = refl

pub data-calls : (s : Setup) (got : Took) (c : CallName) (m : Message) (l : Looks)
    → (taken_data s got c m l).calls ≡ (taken_at s got c m l).calls
data-calls s got c m l = challenged-calls s c (record (taken_at s got c m l) { firsts = _ })

-- that isn't kept
roomy-at : (s : Setup) (got : Took) (c : CallName) (m : Message) (l : Looks) → (got ≡ tooks.Kept → ⊥) → RoomyAt s l
    → RoomyAt s (taken_at s got c m l)
roomy-at s got c m l other r =
    roomy_one (is_client s.kind) (shared_slots s) c
    (λ k. record k { looks = after_taken (node_view s l) got m k.looks }) l.calls
    (λ k. gives_taken (is_client s.kind) (node_view s l) got m k other) r

roomy-data : (s : Setup) (got : Took) (c : CallName) (m : Message) (l : Looks) → (got ≡ tooks.Kept → ⊥) → RoomyAt s l
    → RoomyAt s (taken_data s got c m l)
roomy-data s got c m l other r = roomy_by s (taken_at s got c m l) (taken_data s got c m l) (data-calls s got c m l)
    (roomy-at s got c m l other r)

-- that is kept: the row is judged before the record of its connection is entered
roomy-kept : (s : Setup) (c : CallName) (m : Message) (l : Looks) → took_named s l c m ≡ tooks.Kept → RoomyAt s l
    → RoomyAt s (taken_data s tooks.Kept c m (opened s c (prepared s tooks.Kept (connection_of c) l)))
roomy-kept s c m l is r =
    let o : Looks = opened s c l in
    let ready : Looks = opened s c (prepared s tooks.Kept (connection_of c) l) in
    let change : CallRecord → CallRecord =
    λ k. record k { looks = after_taken (node_view s ready) tooks.Kept m k.looks } in
    let own = side_own s.kind (facts_of s l c m) (own_row s o c m) tooks.Kept refl is in
    let kept = roomy_takes c change (is_client s.kind) (shared_slots s) o.calls (λ k. refl)
    (λ k there t. takes_kept (node_view s o) (node_view s ready) m k refl
    (row_kept s o (call_at o c) m k there own.row) t)
    (roomy_opened s c l r) in
    roomy_by s (taken_at s tooks.Kept c m ready) (taken_data s tooks.Kept c m ready) (data-calls s tooks.Kept c m ready)
    (subst (λ (ks : List CallRecord). Roomy (is_client s.kind) (shared_slots s) (map (changed_if c change) ks))
    (sym (calls_ready s tooks.Kept c l)) kept)

-- ---- other messages

roomy-settled : (s : Setup) (c : CallName) (l : Looks) → RoomyAt s l → RoomyAt s (on_call c settled l)
roomy-settled s c l r =
    roomy_one (is_client s.kind) (shared_slots s) c settled l.calls
    (λ k. gives_life (is_client s.kind) k (after_acks (is_delivered k.looks) k.life)
    (acks_falls (is_delivered k.looks) k.life)) r

roomy-heard : (s : Setup) (c : CallName) (body : Body) (l : Looks) → RoomyAt s l → RoomyAt s (taken_heard s c body l)
roomy-heard s c (bodies.Ack a) l r =
    roomy_by s (on_call c settled l) (challenged s c (on_call c settled l))
    (challenged-calls s c (on_call c settled l)) (roomy-settled s c l r)
roomy-heard s c bodies.AckAll l r = roomy-settled s c l r
roomy-heard s c _ l r = r

roomy-all-stopped : (s : Setup) (x : Connection) (code : ℤ) (l : Looks) → RoomyAt s l → RoomyAt s (stopped_all x code l)
roomy-all-stopped s x code l r =
    roomy_all (is_client s.kind) (shared_slots s)
    (λ k. if same_connection (connection_of k.name) x then record k { life = after_code code k.life } else k) l.calls
    (λ k. gives_if (is_client s.kind) (same_connection (connection_of k.name) x) k
    (record k { life = after_code code k.life })
    (gives_life (is_client s.kind) k (after_code code k.life) (code_falls code k.life))) r

roomy-stopped : (s : Setup) (c : CallName) (body : Body) (l : Looks) → RoomyAt s l → RoomyAt s (taken_stopped c body l)
roomy-stopped s c (bodies.Abort code) l r =
    (elim (c.number == 0) as
    (λ b. RoomyAt s (cond b (stopped_all (connection_of c) code l) (on_life c (after_code code) l))) [
      | true ↦ roomy-all-stopped s (connection_of c) code l r
      | false ↦ roomy_life s c (after_code code) l (code_falls code) r
    ])
roomy-stopped s c (bodies.Response bytes) l r = roomy_life s c (after_code RX_PROTOCOL_ERROR) l
    (code_falls RX_PROTOCOL_ERROR) r
roomy-stopped s c _ l r = r

roomy-over : (s : Setup) (c : CallName) (body : Body) (o : Option CallRecord) (l : Looks) → RoomyAt s l
    → RoomyAt s (taken_over c body o l)
roomy-over s c body None l r = r
roomy-over s c body (Some k) l r = r

-- ---- by the answer

roomy-with : (s : Setup) (got : Took) (c : CallName) (m : Message) (l : Looks) → (got ≡ tooks.Kept → ⊥) → RoomyAt s l
    → RoomyAt s (taken_with s got c m l)
roomy-with s tooks.Kept c m l other r = absurd (other refl)
roomy-with s tooks.NoSlot c m l other r = roomy-data s tooks.NoSlot c m (opened s c l) other (roomy_opened s c l r)
roomy-with s tooks.Repeat c m l other r = roomy-data s tooks.Repeat c m l other r
roomy-with s tooks.Beyond c m l other r = roomy-data s tooks.Beyond c m l other r
roomy-with s tooks.Clash c m l other r = roomy-data s tooks.Clash c m l other r
roomy-with s tooks.Heard c m l other r = roomy-heard s c m.body (taken_at s tooks.Heard c m l)
    (roomy-at s tooks.Heard c m l other r)
roomy-with s tooks.Stopped c m l other r = roomy-stopped s c m.body l r
roomy-with s tooks.Busy c m l other r = roomy_life s (latest_name l (channel_of c)) (after_code RX_CALL_DEAD) l
    (code_falls RX_CALL_DEAD) r
roomy-with s tooks.Over c m l other r = roomy-over s c m.body (call_at l c) l r
roomy-with s _ c m l other r = r

roomy-behind : (s : Setup) (row : Option Took) (from : Host) (c : CallName) (m : Message) (got : Took) (l : Looks)
    → (row ≡ None → took_named s l c m ≡ got) → RoomyAt s l → RoomyAt s (taken_behind s row from c m got l)
roomy-behind s (Some row) from c m got l is r = roomy_by s l (turned_away row from m l) (calls-turned row from m l) r
roomy-behind s None from c m tooks.Kept l is r = roomy-kept s c m l (is refl) r
roomy-behind s None from c m got l is r =
    roomy-with s got c m (prepared s got (connection_of c) l) (λ same. absurd (cc (same)))
    (roomy_by s l (prepared s got (connection_of c) l) (calls-prepared s got (connection_of c) l) r)

-- a datagram is taken, with the rules' answer
pub roomy_message : (s : Setup) (from : Host) (reading : Result Message BadMsg) (got : Took) (l : Looks)
    → got ≡ took_reading s l from reading
    → RoomyAt s l → RoomyAt s (taken_message s from reading got l)
roomy_message s from (Err bad) got l is r = r
roomy_message s from (Ok m) got l is r =
    roomy-behind s (outer_row s s.kind l from m) from (named s from m) m got l
    (λ none. sym (is ∙ ap (λ (o : Option Took). else_row o (took_named s l (named s from m) m)) none)) r
