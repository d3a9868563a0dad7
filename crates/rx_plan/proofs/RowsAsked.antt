-- The rows of a CHALLENGE that a client hears, and of a RESPONSE that isn't right.
use Rattle.std.proofs.Common.{Bool, None, Option, Some, ap, false, if◌then◌else◌, nat_lt, not, refl, subst}
use Rattle.std.proofs.Common.{sym, true, List, ℕ, ◌&&◌, ◌==◌, ◌∙◌, ◌≡◌}
use Rattle.rx_model.specs.declared.answers.Took.{Took}
use Rattle.rx_model.specs.declared.answers.Took.TheVariants as tooks
use Rattle.rx_model.specs.declared.names.CallName.{CallName}
use Rattle.rx_model.specs.declared.names.Host.{Host}
use Rattle.rx_model.specs.Body.{Body}
use Rattle.rx_model.specs.Body as bodies
use Rattle.rx_model.specs.Message.{Message, has_flag}
use Rattle.rx_model.specs.Names.{channel_of, connection_of, same_name}
use Rattle.rx_model.proofs.NameLaws.{name_is, not_true}
use Rattle.rx_rules.specs.Judging.{Facts, facts_of, is_for_servers, is_right, live_row, opened, own_row}
use Rattle.rx_rules.specs.Judging.{outer_row, response_row, row_at, server_outer, side_row, took_named}
use Rattle.rx_rules.specs.Looks.{CallRecord, Looks, call_at, channel_at, is_proved}
use Rattle.rx_rules.specs.Setup.{Client, IsServer, Kind, Server, Setup}
use Rattle.rx_rules.proofs.FindLaws.{find_passes}
use Rattle.rx_model.specs.declared.wire.TheConstants.{CLIENT_INITIATED}
use Rattle.rx_history.proofs.Rows.RowsAborting.{Latest, above-starts, not_false, passed, side-stopped, skipped}
use Rattle.rx_history.proofs.Rows.RowsAborting.{is_stopped}
use Rattle.rx_plan.proofs.Aborts.RowsOver.{same_numbers}
use Rattle.rx_history.proofs.Laws.RightLaws.{unopened}

-- ---- a message that is heard

abbrev is_heard : Took → Bool
is_heard tooks.Heard = true
is_heard _ = false

-- the call's number is its channel's
number_is : (s : Setup) (l : Looks) (c : CallName) (m : Message) → m.number ≡ c.number → Latest (facts_of s l c m)
    → (channel_at l (channel_of c)).number ≡ c.number
number_is s l c m number latest =
    same_numbers m.number (channel_at l (channel_of c)).number latest.below latest.above ∙ number

side-heard : (kind : Kind) (f : Facts) (call : Took) → f.can_start ≡ false → side_row kind f call ≡ tooks.Heard
    → Latest f
side-heard (Server service nonces) f call starts is =
    let a = passed is_heard
    (not f.is_known && not (f.can_start && f.has_number)) tooks.Strange _ tooks.Heard refl refl is in
    let b = passed is_heard (not f.is_known && not f.has_place) tooks.Full _ tooks.Heard refl refl a.1 in
    let d = passed is_heard f.stops_all tooks.Stopped _ tooks.Heard refl refl b.1 in
    let e = passed is_heard (not f.has_number) tooks.Strange _ tooks.Heard refl refl d.1 in
    let g = passed is_heard f.is_below tooks.Old _ tooks.Heard refl refl e.1 in
    let h = passed is_heard (f.is_above && not f.can_start) tooks.Strange _ tooks.Heard refl refl g.1 in
    record { has = not_false f.has_number e.0; below = g.0; above = above-starts f.is_above f.can_start starts h.0 }
side-heard (Client host epoch) f call starts is =
    let a = passed is_heard f.stops_all tooks.Stopped _ tooks.Heard refl refl is in
    let b = passed is_heard (not f.has_number) tooks.Strange _ tooks.Heard refl refl a.1 in
    let d = passed is_heard f.is_below tooks.Old _ tooks.Heard refl refl b.1 in
    let e = passed is_heard f.is_above tooks.Strange _ tooks.Heard refl refl d.1 in
    record { has = not_false f.has_number b.0; below = d.0; above = e.0 }

-- a CHALLENGE that is heard is of its channel's latest call
pub asked_number : (s : Setup) (l : Looks) (c : CallName) (m : Message) (asked : List ℕ) → m.number ≡ c.number
    → m.body ≡ bodies.Challenge asked → took_named s l c m ≡ tooks.Heard
    → (channel_at l (channel_of c)).number ≡ c.number
asked_number s l c m asked number at is =
    number_is s l c m number
    (side-heard s.kind (facts_of s l c m) (own_row s (opened s c l) c m) (rw at refl) is)

-- ---- a RESPONSE that isn't right

-- what is known of one that stopped its call
pub record IsWrong (s : Setup) (l : Looks) (c : CallName) (text : List ℕ) : Type 0 where
  pub some : (c.number == 0) ≡ false
  pub number : (channel_at l (channel_of c)).number ≡ c.number
  pub wrong : is_right s l c text ≡ false

wrong_row : (right proved : Bool) → response_row right proved ≡ tooks.Stopped → right ≡ false
wrong_row false proved is = refl
wrong_row true proved is = absurd cc

-- the row of the call itself is that it stopped
own-stopped : (kind : Kind) (f : Facts) (call : Took) → f.stops_all ≡ false → IsServer kind
    → side_row kind f call ≡ tooks.Stopped → call ≡ tooks.Stopped
own-stopped (Client host epoch) f call one server is = absurd server
own-stopped (Server service nonces) f call one server is =
    let a = passed is_stopped
    (not f.is_known && not (f.can_start && f.has_number)) tooks.Strange _ tooks.Stopped refl refl is in
    let b = passed is_stopped (not f.is_known && not f.has_place) tooks.Full _ tooks.Stopped refl refl a.1 in
    let d = skipped f.stops_all tooks.Stopped _ tooks.Stopped one b.1 in
    let e = passed is_stopped (not f.has_number) tooks.Strange _ tooks.Stopped refl refl d in
    let g = passed is_stopped f.is_below tooks.Old _ tooks.Stopped refl refl e.1 in
    let h = passed is_stopped (f.is_above && not f.can_start) tooks.Strange _ tooks.Stopped refl refl g.1 in
    let i = passed is_stopped (f.is_above && f.is_handled) tooks.Busy _ tooks.Stopped refl refl h.1 in
    let j = passed is_stopped (f.is_above && (not f.is_live && f.is_crowded)) tooks.NoRoom _ tooks.Stopped refl refl
    i.1 in
    let k = passed is_stopped (not f.is_above && not f.is_active) tooks.Over call tooks.Stopped refl refl j.1 in
    k.1

wrong_at : (s : Setup) (l : Looks) (c : CallName) (m : Message) (text : List ℕ) (o : Option CallRecord)
    → call_at l c ≡ o → m.body ≡ bodies.Response text → row_at s l o m ≡ tooks.Stopped
    → is_right s l c text ≡ false
wrong_at s l c m text None found at is = absurd cc
wrong_at s l c m text (Some k) found at is =
    let name : k.name ≡ c = name_is k.name c (find_passes (λ j. same_name j.name c) l.calls k found) in
    let own : live_row s l k m (bodies.Response text) ≡ tooks.Stopped =
    subst (λ (b : Body). live_row s l k m b ≡ tooks.Stopped) at is in
    subst (λ (d : CallName). is_right s l d text ≡ false) name
    (wrong_row (is_right s l k.name text) (is_proved l (connection_of k.name)) own)

pub response_wrong : (s : Setup) (l : Looks) (c : CallName) (m : Message) (text : List ℕ) → IsServer s.kind
    → m.number ≡ c.number → m.body ≡ bodies.Response text → took_named s l c m ≡ tooks.Stopped → IsWrong s l c text
response_wrong s l c m text server number at is =
    let latest : Latest (facts_of s l c m) =
    side-stopped s.kind (facts_of s l c m) (own_row s (opened s c l) c m) (rw at refl) (rw at refl) is in
    let same : opened s c l ≡ l =
    unopened (nat_lt (channel_at l (channel_of c)).number c.number) s c l
    (subst (λ (n : ℕ). nat_lt (channel_at l (channel_of c)).number n ≡ false) number latest.above) in
    let own : own_row s (opened s c l) c m ≡ tooks.Stopped =
    own-stopped s.kind (facts_of s l c m) (own_row s (opened s c l) c m) (rw at refl) server is in
    record {
      some = ap (λ (n : ℕ). n == 0) (sym number) ∙ not_true (m.number == 0) latest.has;
      number = number_is s l c m number latest;
      wrong =
          wrong_at s l c m text (call_at l c) refl at
          (subst (λ (n : Looks). own_row s n c m ≡ tooks.Stopped) same own);
    }

-- ---- the rows in front of a server

-- a RESPONSE comes through them only where the class challenges
pub front_challenges : (s : Setup) (kind : Kind) (l : Looks) (from : Host) (m : Message) (text : List ℕ)
    → IsServer kind → m.body ≡ bodies.Response text → outer_row s kind l from m ≡ None → s.class.challenges ≡ true
front_challenges s (Client host epoch) l from m text server at front = absurd server
front_challenges s (Server service nonces) l from m text server at front =
    sym (ap (is_for_servers s.class.challenges) at)
    ∙ of (has_flag CLIENT_INITIATED m.flags) (is_for_servers s.class.challenges m.body)
    ((m.service == service) && (m.index == s.class.index)) front
  where
    of : (a b c : Bool) → (if not a then Some tooks.Foreign else if not b then Some tooks.Strange
        else if not c then Some tooks.Unserved else None) ≡ None → b ≡ true
    of false b c is = absurd cc
    of true false c is = absurd cc
    of true true c is = refl

-- the row of another service or class: the message is a client's, and one of the two differs
pub record IsOther (s : Setup) (service : ℕ) (m : Message) : Type 0 where
  pub flagged : has_flag CLIENT_INITIATED m.flags ≡ true
  pub other : ((m.service == service) && (m.index == s.class.index)) ≡ false

pub unserved_other : (s : Setup) (service : ℕ) (m : Message) → server_outer s service m ≡ Some tooks.Unserved
    → IsOther s service m
unserved_other s service m row =
    of (has_flag CLIENT_INITIATED m.flags) (is_for_servers s.class.challenges m.body)
    ((m.service == service) && (m.index == s.class.index)) refl refl row
  where
    of : (a b c : Bool) → has_flag CLIENT_INITIATED m.flags ≡ a
        → ((m.service == service) && (m.index == s.class.index)) ≡ c
        → (if not a then Some tooks.Foreign else if not b then Some tooks.Strange
        else if not c then Some tooks.Unserved else None) ≡ Some tooks.Unserved → IsOther s service m
    of false b c flag test is = absurd cc
    of true false c flag test is = absurd cc
    of true true true flag test is = absurd cc
    of true true false flag test is = record { flagged = flag; other = test }
