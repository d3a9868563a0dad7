-- What a legal history of one node promises by itself, whatever bytes came: once, entry by proof alone, and slots that
-- suffice. Public clauses cite this module.
use Rattle.std.specs.Prelude.{◌≡◌, ◌≤◌, ℕ, false, List, [], ◌∷◌, ◌++◌, Some, Ok, IsSomeAnd}
use Rattle.std.specs.List.{list_any}
use Rattle.byteorder.specs.Endian.{big_bytes}
use Rattle.rx_model.specs.declared.answers.Took.TheVariants as tooks
use Rattle.rx_model.specs.declared.event.Event.{Event}
use Rattle.rx_model.specs.declared.event.Event.TheVariants as events
use Rattle.rx_model.specs.declared.names.CallName.{CallName}
use Rattle.rx_model.specs.declared.names.Host.{Host}
use Rattle.rx_model.specs.Body as bodies
use Rattle.rx_model.specs.Message.{Message}
use Rattle.rx_model.specs.Names.{Connection, connection_of, name_of, same_connection}
use Rattle.rx_model.specs.Reading.{reading_of}
use Rattle.rx_rules.specs.After.{looks}
use Rattle.rx_rules.specs.Classes.{token, token_answer}
use Rattle.rx_rules.specs.Looks.{conn_at}
use Rattle.rx_rules.specs.Rules.{Legal}
use Rattle.rx_rules.specs.Setup.{Setup, FitsSetup, IsServer, nonce_of, shared_slots}
use Rattle.rx_rules.specs.Slots.{common}
use Rattle.rx_history.specs.Counts.{Once}

-- ---- forgetting

-- no record was forgotten
abbrev pub ForgotNone : Setup → List Event → Type 0
ForgotNone s h = (looks s h).forgotten ≡ []

-- none of this connection was
abbrev pub ForgotNoneOf : Setup → Connection → List Event → Type 0
ForgotNoneOf s x h = list_any (λ y. same_connection y x) (looks s h).forgotten ≡ false

-- ---- at most once, and slots

-- whatever bytes came, a server that forgot no record accepts no call twice
abbrev pub OnceUnderForgery : Type 0
OnceUnderForgery = (s : Setup) (h : List Event) → IsServer s.kind → Legal s h → ForgotNone s h → Once h

-- calls never hold more slots beside their own than they may
abbrev pub SlotsSuffice : Type 0
SlotsSuffice = (s : Setup) (h : List Event) → FitsSetup s → Legal s h → common (looks s h) ≤ shared_slots s

-- ---- entered only when proved

-- a right RESPONSE of the connection was heard when its present record was there
pub record Proves (s : Setup) (key : List ℕ) (c : CallName) (order : ℕ) (h : List Event) : Type 0 where
  pub later : List Event
  pub from : Host
  pub bytes : List ℕ
  pub before : List Event
  pub is : h ≡ later ++ events.Taken from bytes tooks.Heard ∷ before
  pub message : Message
  pub reads : reading_of bytes ≡ Ok message
  pub on : connection_of (name_of from message) ≡ connection_of c
  pub record_is : IsSomeAnd (conn_at (looks s before) (connection_of c)) (λ r. r.order ≡ order)
  pub body : message.body ≡ bodies.Response (token_answer key c (big_bytes 8 (nonce_of s.kind order)))

-- each accept of a call came behind one
abbrev pub Entered : Setup → List ℕ → CallName → List Event → Type 0
Entered s key c h =
    (later before : List Event) → h ≡ later ++ events.Accepted (Some c) ∷ before
    → IsSomeAnd (conn_at (looks s before) (connection_of c)) (λ r. Proves s key c r.order before)

-- whatever bytes came, a server with a key accepts only calls of clients that showed it
abbrev pub EnteredOnlyWhenProved : Type 0
EnteredOnlyWhenProved =
    (s : Setup) (key : List ℕ) (h : List Event) → IsServer s.kind → s.class ≡ token key → Legal s h
    → (c : CallName) → Entered s key c h
