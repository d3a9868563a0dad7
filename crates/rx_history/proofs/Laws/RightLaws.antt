-- A RESPONSE that a server heard is the right one.
use Rattle.std.proofs.Common.{◌≡◌, ◌&&◌, ℕ, if◌then◌else◌, not, nat_lt, nat_le, Bool, true, false}
use Rattle.std.proofs.Common.{List, Option, Some, None, refl, ap, subst}
use Rattle.std.proofs.lemmas.Slice.Eq.{bytes_eq-Decides}
use Rattle.byteorder.specs.Endian.{big_bytes}
use Rattle.rx_model.specs.declared.wire.TheConstants.{NONCE_BYTES}
use Rattle.rx_model.specs.declared.answers.Took.{Took}
use Rattle.rx_model.specs.declared.answers.Took.TheVariants as tooks
use Rattle.rx_model.specs.declared.names.CallName.{CallName}
use Rattle.rx_model.specs.Body.{Body}
use Rattle.rx_model.specs.Body as bodies
use Rattle.rx_rules.specs.Classes.{Class, token, token_answer}
use Rattle.rx_rules.specs.Judging.{Facts, facts_of, is_data, is_right, live_row, nonce_at, opened, own_row}
use Rattle.rx_rules.specs.Judging.{response_row, row_at}
use Rattle.rx_rules.specs.Judging.{server_row, side_row, took_named}
use Rattle.rx_rules.specs.Looks.{CallRecord, Looks, call_at, channel_at, conn_at, is_proved}
use Rattle.rx_model.specs.Message.{Message}
use Rattle.rx_model.specs.Names.{channel_of, connection_of, same_name}
use Rattle.rx_rules.specs.Records.{started_later}
use Rattle.rx_rules.specs.Setup.{Setup, Kind, Server, Client, IsServer}
use Rattle.rx_rules.proofs.FindLaws.{find_passes}
use Rattle.rx_model.proofs.NameLaws.{name_is}

-- a row that isn't Heard didn't hold
past : (b : Bool) (row rest : Took) → (tooks.Heard ≡ row → ⊥) → tooks.Heard ≡ (if b then row else rest)
    → (b ≡ false) × (tooks.Heard ≡ rest)
past true row rest other is = absurd (other is)
past false row rest other is = (refl, is)

-- the rows of starting and ending didn't hold, so the live call's own answer was Heard
heard_row : (f : Facts) (call : Took) → tooks.Heard ≡ server_row f call
    → ((f.is_above && not f.can_start) ≡ false) × (tooks.Heard ≡ call)
heard_row f call is =
    let a = past (not f.is_known && not (f.can_start && f.has_number)) tooks.Strange _ (λ no. absurd cc) is in
    let b = past (not f.is_known && not f.has_place) tooks.Full _ (λ no. absurd cc) a.1 in
    let d = past f.stops_all tooks.Stopped _ (λ no. absurd cc) b.1 in
    let e = past (not f.has_number) tooks.Strange _ (λ no. absurd cc) d.1 in
    let g = past f.is_below tooks.Old _ (λ no. absurd cc) e.1 in
    let h = past (f.is_above && not f.can_start) tooks.Strange _ (λ no. absurd cc) g.1 in
    let i = past (f.is_above && f.is_handled) tooks.Busy _ (λ no. absurd cc) h.1 in
    let j = past (f.is_above && (not f.is_live && f.is_crowded)) tooks.NoRoom _ (λ no. absurd cc) i.1 in
    let k = past (not f.is_above && not f.is_active) tooks.Over call (λ no. absurd cc) j.1 in
    (h.0, k.1)

served_row : (kind : Kind) (f : Facts) (call : Took) → IsServer kind → tooks.Heard ≡ side_row kind f call
    → ((f.is_above && not f.can_start) ≡ false) × (tooks.Heard ≡ call)
served_row (Server service nonces) f call server is = heard_row f call is
served_row (Client host epoch) f call server is = absurd server

right_row : (right proved : Bool) → tooks.Heard ≡ response_row right proved → right ≡ true
right_row true proved is = refl
right_row false true is = absurd cc
right_row false false is = absurd cc

not_above : (above : Bool) → (above && not false) ≡ false → above ≡ false
not_above true is = absurd cc
not_above false is = refl

-- where it starts nothing, a message finds the look-ups as they are
pub unopened : (test : Bool) (s : Setup) (c : CallName) (l : Looks) → test ≡ false
    → (if test then started_later s c l else l) ≡ l
unopened true s c l is = absurd cc
unopened false s c l is = refl

right_at : (s : Setup) (l : Looks) (c : CallName) (m : Message) (bytes : List ℕ) (o : Option CallRecord)
    → call_at l c ≡ o → m.body ≡ bodies.Response bytes → tooks.Heard ≡ row_at s l o m → is_right s l c bytes ≡ true
right_at s l c m bytes None found body is = absurd cc
right_at s l c m bytes (Some k) found body is =
    let named : k.name ≡ c = name_is k.name c (find_passes (λ j. same_name j.name c) l.calls k found) in
    let own : tooks.Heard ≡ live_row s l k m (bodies.Response bytes) =
    subst (λ (b : Body). tooks.Heard ≡ live_row s l k m b) body is in
    subst (λ (d : CallName). is_right s l d bytes ≡ true) named
    (right_row (is_right s l k.name bytes) (is_proved l (connection_of k.name)) own)

-- it passed the class's check
pub heard_is_right : (s : Setup) (l : Looks) (c : CallName) (m : Message) (bytes : List ℕ) → IsServer s.kind
    → m.number ≡ c.number → m.body ≡ bodies.Response bytes → tooks.Heard ≡ took_named s l c m
    → is_right s l c bytes ≡ true
heard_is_right s l c m bytes server number body is =
    let rows = served_row s.kind (facts_of s l c m) (own_row s (opened s c l) c m) server is in
    let no_data : (facts_of s l c m).can_start ≡ false =
    ap (λ (b : Body). is_data b && (nat_le 1 m.seq && nat_le m.seq s.limits.window)) body in
    let above : nat_lt (channel_at l (channel_of c)).number m.number ≡ false =
    not_above _
    (subst (λ (b : Bool). ((facts_of s l c m).is_above && not b) ≡ false) no_data rows.0) in
    let still : opened s c l ≡ l =
    unopened (nat_lt (channel_at l (channel_of c)).number c.number) s c l
    (subst (λ (n : ℕ). nat_lt (channel_at l (channel_of c)).number n ≡ false) number above) in
    right_at s l c m bytes (call_at l c) refl body (subst (λ (n : Looks). tooks.Heard ≡ own_row s n c m) still rows.1)

-- ---- the token

-- what a right response is, under a key
pub right_is : (s : Setup) (key : List ℕ) (l : Looks) (c : CallName) (bytes : List ℕ) → s.class ≡ token key
    → is_right s l c bytes ≡ true
    → bytes ≡ token_answer key c (big_bytes NONCE_BYTES (nonce_at s (conn_at l (connection_of c))))
right_is s key l c bytes class is =
    (bytes_eq-Decides bytes (token_answer key c (big_bytes NONCE_BYTES (nonce_at s (conn_at l (connection_of c)))))).0
    (subst (λ (k : Class). k.check c (nonce_at s (conn_at l (connection_of c))) bytes ≡ true) class is)
