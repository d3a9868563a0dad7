-- A message that is taken leaves what was said and read of a call that it doesn't start, and its life goes on.
use Rattle.std.proofs.Common.{◌≡◌, ◌&&◌, ◌==◌, ◌-◌, not, cond, if◌then◌else◌, nat_lt, ℕ, ℤ, Bool, true, false}
use Rattle.std.proofs.Common.{List, Option, Some, None, Result, Ok, Err, refl, sym, subst}
use Rattle.rx_model.specs.declared.answers.BadMsg.{BadMsg}
use Rattle.rx_model.specs.declared.answers.Took.{Took}
use Rattle.rx_model.specs.declared.answers.Took.TheVariants as tooks
use Rattle.rx_model.specs.declared.names.CallName.{CallName}
use Rattle.rx_model.specs.declared.names.Host.{Host}
use Rattle.rx_model.specs.declared.wire.TheConstants.{RX_CALL_DEAD, RX_PROTOCOL_ERROR}
use Rattle.rx_model.specs.Body.{AckBody, Body}
use Rattle.rx_model.specs.Body as bodies
use Rattle.rx_model.specs.Message.{Message}
use Rattle.rx_model.specs.Names.{Connection, channel_of, connection_of, same_connection, same_name}
use Rattle.rx_rules.specs.After.{challenged}
use Rattle.rx_rules.specs.After.{prepared, settled}
use Rattle.rx_rules.specs.After.{stopped_all, taken_at, taken_behind, taken_data, taken_heard, taken_message}
use Rattle.rx_rules.specs.After.{taken_over, taken_stopped, taken_unserved, taken_with, turned_away, with_first}
use Rattle.rx_rules.specs.CallLooks.{CallLooks, NodeView, after_body, after_chunk}
use Rattle.rx_rules.specs.CallLooks.{after_taken, found, fresh_call, is_delivered}
use Rattle.rx_rules.specs.Judging.{opened, outer_row}
use Rattle.rx_rules.specs.Life.{Life, after_acks, after_cancel, after_code, after_end, after_later, after_silence}
use Rattle.rx_rules.specs.Life as lives
use Rattle.rx_rules.specs.Looks.{CallRecord, Looks, call_at, channel_at, is_proved}
use Rattle.rx_rules.specs.Looks.{latest_name, on_call, on_channel, on_life}
use Rattle.rx_rules.specs.Records.{started, started_later}
use Rattle.rx_rules.specs.Sent.{Sent}
use Rattle.rx_rules.specs.Sent as streams
use Rattle.rx_rules.specs.Setup.{Setup, is_client, named, pace_of}
use Rattle.rx_rules.specs.Slots.{node_view}
use Rattle.rx_rules.proofs.StartLaws.{call_at-other}
use Rattle.rx_asks.proofs.Kept.{Kept, KeptAt, KeptRecord, kept-by, kept-on_call, kept-on_calls}
use Rattle.rx_asks.proofs.Kept.{kept-on_life, kept-on_looks, kept-refl, kept-then, on-acks, on-code}
use Rattle.rx_asks.proofs.Kept.{on-later, record-refl, spoken_in}
use Rattle.rx_history.proofs.Events.{calls-prepared, calls-turned}

-- ---- a message is taken

after-ack-leaves : (first : ℕ) (marks : List Bool) (window : Option ℕ) (s : Sent)
    → (let t : Sent = streams.after_ack first marks window s in (t.said ≡ s.said) × (t.shut ≡ s.shut))
after-ack-leaves first marks window s = of (nat_lt (first - 1) s.acked)
  where
    of : (b : Bool) → (let t : Sent = (if b then s else record s {
      acked = first - 1;
      soft = streams.is_marked first marks;
      peer_window = streams.with_window window s.peer_window;
    }) in (t.said ≡ s.said) × (t.shut ≡ s.shut))
    of true = (refl, refl)
    of false = (refl, refl)

body-leaves : (now : ℕ) (m : Message) (body : Body) (k : CallLooks) → spoken_in (after_body now m body k) ≡ spoken_in k
body-leaves now m (bodies.Ack a) k =
    let e = after-ack-leaves a.first a.marks a.window k.sent in
    λ i. record { said = e.0 i; shut = e.1 i; read = k.received.read }
body-leaves now m bodies.AckAll k = refl
body-leaves now m _ k = refl

found-leaves : (client : Bool) (k : CallLooks) → spoken_in (found client k) ≡ spoken_in k
found-leaves true k = refl
found-leaves false k = refl

chunk-leaves : (v : NodeView) (got : Took) (m : Message) (body : Body) (k : CallLooks)
    → spoken_in (after_chunk v got m body k) ≡ spoken_in k
chunk-leaves v got m (bodies.Chunk payload) k = found-leaves v.client k
chunk-leaves v got m _ k = refl

taken-leaves : (v : NodeView) (got : Took) (m : Message) (k : CallLooks)
    → spoken_in (after_taken v got m k) ≡ spoken_in k
taken-leaves v tooks.Kept m k = chunk-leaves v tooks.Kept m m.body k
taken-leaves v tooks.Repeat m k = chunk-leaves v tooks.Repeat m m.body k
taken-leaves v tooks.Beyond m k = chunk-leaves v tooks.Beyond m m.body k
taken-leaves v tooks.Clash m k = chunk-leaves v tooks.Clash m m.body k
taken-leaves v tooks.NoSlot m k = chunk-leaves v tooks.NoSlot m m.body k
taken-leaves v tooks.Heard m k = body-leaves v.now m m.body k
taken-leaves v _ m k = refl

kept-taken_at : (s : Setup) (got : Took) (c d : CallName) (m : Message) (l : Looks)
    → KeptAt c l (taken_at s got d m l)
kept-taken_at s got c d m l =
    kept-on_looks c d (after_taken (node_view s l) got m) l (taken-leaves (node_view s l) got m)

kept-challenged : (s : Setup) (c d : CallName) (l : Looks) → KeptAt c l (challenged s d l)
kept-challenged s c d l = of (not (is_client s.kind) && (s.class.challenges && not (is_proved l (connection_of d))))
  where
    of : (b : Bool)
        → KeptAt c l (if b then on_channel (channel_of d) (λ q. record q { owed_challenge = true }) l else l)
    of true = kept-refl (call_at l c)
    of false = kept-refl (call_at l c)

kept-data : (s : Setup) (got : Took) (c d : CallName) (m : Message) (l : Looks) → KeptAt c l (taken_data s got d m l)
kept-data s got c d m l =
    let at : Looks = taken_at s got d m l in
    let first : Looks = record at { firsts = with_first got d m.seq l.firsts } in
    kept-then c l at (challenged s d first) (kept-taken_at s got c d m l) (kept-challenged s c d first)

settled-kept : (k : CallRecord) → KeptRecord k (settled k)
settled-kept k = record { spoken = refl; life = on-acks (is_delivered k.looks) k.life }

kept-heard : (s : Setup) (c d : CallName) (body : Body) (l : Looks) → KeptAt c l (taken_heard s d body l)
kept-heard s c d (bodies.Ack a) l =
    kept-then c l (on_call d settled l) (challenged s d (on_call d settled l))
    (kept-on_call c d settled l (λ k. refl) settled-kept) (kept-challenged s c d (on_call d settled l))
kept-heard s c d bodies.AckAll l = kept-on_call c d settled l (λ k. refl) settled-kept
kept-heard s c d (bodies.Response bytes) l = kept-refl (call_at l c)
kept-heard s c d (bodies.Challenge bytes) l = kept-refl (call_at l c)
kept-heard s c d _ l = kept-refl (call_at l c)

coded-if : (test : Bool) (code : ℤ) (k : CallRecord)
    → ((cond test (record k { life = after_code code k.life }) k).name ≡ k.name)
    × KeptRecord k (cond test (record k { life = after_code code k.life }) k)
coded-if true code k = (refl, record { spoken = refl; life = on-code code k.life })
coded-if false code k = (refl, record-refl k)

kept-stopped_all : (c : CallName) (x : Connection) (code : ℤ) (l : Looks) → KeptAt c l (stopped_all x code l)
kept-stopped_all c x code l =
    kept-on_calls c
    (λ k. if same_connection (connection_of k.name) x then record k { life = after_code code k.life } else k) l
    (λ k. (coded-if (same_connection (connection_of k.name) x) code k).0)
    (λ k. (coded-if (same_connection (connection_of k.name) x) code k).1)

kept-stopped : (c d : CallName) (body : Body) (l : Looks) → KeptAt c l (taken_stopped d body l)
kept-stopped c d (bodies.Abort code) l = of (d.number == 0)
  where
    of : (b : Bool) → KeptAt c l (if b then stopped_all (connection_of d) code l else on_life d (after_code code) l)
    of true = kept-stopped_all c (connection_of d) code l
    of false = kept-on_life c d (after_code code) l (on-code code)
kept-stopped c d (bodies.Response bytes) l =
    kept-on_life c d (after_code RX_PROTOCOL_ERROR) l (on-code RX_PROTOCOL_ERROR)
kept-stopped c d _ l = kept-refl (call_at l c)

kept-over : (c d : CallName) (body : Body) (o : Option CallRecord) (l : Looks) → KeptAt c l (taken_over d body o l)
kept-over c d body None l = kept-refl (call_at l c)
kept-over c d body (Some k) l = kept-refl (call_at l c)

-- a message's call starts no call of this name
abbrev pub StartsNone : CallName → CallName → Looks → Type 0
StartsNone c d l =
    same_name c d ≡ true → nat_lt (channel_at l (channel_of d)).number d.number ≡ true → ⊥

pub kept-started : (s : Setup) (life : Life) (c d : CallName) (l : Looks) → same_name c d ≡ false
    → KeptAt c l (started s life d l)
kept-started s life c d l other =
    subst (λ (o : Option CallRecord). Kept (call_at l c) o)
    (sym (call_at-other c (record { name = d; life = life; looks = fresh_call (pace_of s) l.now }) l other
    (call_at l c) refl)) (kept-refl (call_at l c))

kept-opened : (s : Setup) (c d : CallName) (l : Looks) → StartsNone c d l → KeptAt c l (opened s d l)
kept-opened s c d l none =
    (elim (nat_lt (channel_at l (channel_of d)).number d.number)
    as (λ b. nat_lt (channel_at l (channel_of d)).number d.number ≡ b
    → KeptAt c l (if b then started_later s d l else l)) [
      | true ↦ λ above. later (same_name c d) refl above
      | false ↦ λ low. kept-refl (call_at l c)
    ]) refl
  where
    later : (b : Bool) → same_name c d ≡ b → nat_lt (channel_at l (channel_of d)).number d.number ≡ true
        → KeptAt c l (started_later s d l)
    later true same above = absurd (none same above)
    later false other above =
        kept-then c l (on_life (latest_name l (channel_of d)) after_later l) (started_later s d l)
        (kept-on_life c (latest_name l (channel_of d)) after_later l on-later)
        (kept-started s lives.Waiting c d (on_life (latest_name l (channel_of d)) after_later l) other)

-- where a packet may start its call
abbrev pub StartsNoneBy : Took → CallName → CallName → Looks → Type 0
StartsNoneBy tooks.Kept c d l = StartsNone c d l
StartsNoneBy tooks.NoSlot c d l = StartsNone c d l
StartsNoneBy _ c d l = Unit {0}

kept-with : (s : Setup) (got : Took) (c d : CallName) (m : Message) (l : Looks) → StartsNoneBy got c d l
    → KeptAt c l (taken_with s got d m l)
kept-with s tooks.Kept c d m l none =
    kept-then c l (opened s d l) (taken_data s tooks.Kept d m (opened s d l)) (kept-opened s c d l none)
    (kept-data s tooks.Kept c d m (opened s d l))
kept-with s tooks.NoSlot c d m l none =
    kept-then c l (opened s d l) (taken_data s tooks.NoSlot d m (opened s d l)) (kept-opened s c d l none)
    (kept-data s tooks.NoSlot c d m (opened s d l))
kept-with s tooks.Repeat c d m l none = kept-data s tooks.Repeat c d m l
kept-with s tooks.Beyond c d m l none = kept-data s tooks.Beyond c d m l
kept-with s tooks.Clash c d m l none = kept-data s tooks.Clash c d m l
kept-with s tooks.Heard c d m l none =
    kept-then c l (taken_at s tooks.Heard d m l) (taken_heard s d m.body (taken_at s tooks.Heard d m l))
    (kept-taken_at s tooks.Heard c d m l) (kept-heard s c d m.body (taken_at s tooks.Heard d m l))
kept-with s tooks.Stopped c d m l none = kept-stopped c d m.body l
kept-with s tooks.Busy c d m l none =
    kept-on_life c (latest_name l (channel_of d)) (after_code RX_CALL_DEAD) l (on-code RX_CALL_DEAD)
kept-with s tooks.NoRoom c d m l none = kept-refl (call_at l c)
kept-with s tooks.Over c d m l none = kept-over c d m.body (call_at l d) l
kept-with s tooks.Full c d m l none = kept-refl (call_at l c)
kept-with s tooks.Old c d m l none = kept-refl (call_at l c)
kept-with s tooks.Unserved c d m l none = kept-refl (call_at l c)
kept-with s tooks.Foreign c d m l none = kept-refl (call_at l c)
kept-with s tooks.Strange c d m l none = kept-refl (call_at l c)
kept-with s (tooks.Bad bad) c d m l none = kept-refl (call_at l c)

pub unserved-calls : (from : Host) (m : Message) (body : Body) (l : Looks)
    → (taken_unserved from m body l).calls ≡ l.calls
unserved-calls from m (bodies.Chunk payload) l = refl
unserved-calls from m _ l = refl

-- a datagram starts no call of this name
abbrev pub StartsNoneOf : Setup → Looks → Host → Result Message BadMsg → Took → CallName → Type 0
StartsNoneOf s l from (Err bad) got c = Unit {0}
StartsNoneOf s l from (Ok m) got c =
    outer_row s s.kind l from m ≡ None
    → StartsNoneBy got c (named s from m) (prepared s got (connection_of (named s from m)) l)

-- so a datagram that starts it anew leaves it
pub kept-taken : (s : Setup) (from : Host) (reading : Result Message BadMsg) (got : Took) (c : CallName) (l : Looks)
    → StartsNoneOf s l from reading got c → KeptAt c l (taken_message s from reading got l)
kept-taken s from (Err bad) got c l none = kept-refl (call_at l c)
kept-taken s from (Ok m) got c l none = behind (outer_row s s.kind l from m) refl
  where
    d : CallName
    d = named s from m

    behind : (row : Option Took) → outer_row s s.kind l from m ≡ row → KeptAt c l (taken_behind s row from d m got l)
    behind (Some row) is = kept-by l (turned_away row from m l) c (calls-turned row from m l)
    behind None is =
        let ready : Looks = prepared s got (connection_of d) l in
        kept-then c l ready (taken_with s got d m ready)
        (kept-by l ready c (calls-prepared s got (connection_of d) l)) (kept-with s got c d m ready (none is))
