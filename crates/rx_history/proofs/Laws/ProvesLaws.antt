-- A right RESPONSE that is heard shows the key for the record that is there.
use Rattle.std.proofs.Common.{◌≡◌, ◌++◌, ℕ, cond, true, false}
use Rattle.std.proofs.Common.{List, [], ◌∷◌, Option, Some, None, Ok, option_map, refl, ◌∙◌, ap, sym, subst}
use Rattle.std.proofs.Common.{IsSomeAnd}
use Rattle.byteorder.specs.Endian.{big_bytes}
use Rattle.sha2.specs.Sha256.{sha256}
use Rattle.rx_model.specs.declared.answers.Took.TheVariants as tooks
use Rattle.rx_model.specs.declared.event.Event.{Event}
use Rattle.rx_model.specs.declared.event.Event.TheVariants as events
use Rattle.rx_model.specs.declared.names.CallName.{CallName}
use Rattle.rx_model.specs.declared.names.Host.{Host}
use Rattle.rx_rules.specs.After.{looks}
use Rattle.rx_model.specs.Body.{Body}
use Rattle.rx_model.specs.Body as bodies
use Rattle.rx_rules.specs.Classes.{token, token_answer}
use Rattle.rx_rules.specs.Judging.{nonce_at, took_named}
use Rattle.rx_rules.specs.Looks.{ConnLooks, Looks, conn_at}
use Rattle.rx_model.specs.Message.{Message}
use Rattle.rx_model.specs.Names.{Connection, connection_of, name_of, same_connection}
use Rattle.rx_history.specs.Alone.{Proves}
use Rattle.rx_model.specs.Reading.{reading_of}
use Rattle.rx_rules.specs.Records.{used}
use Rattle.rx_rules.specs.Setup.{Setup, Kind, Server, Client, IsServer, client_host, named, nonce_of}
use Rattle.rx_rules.proofs.ConnsLaws.{conn_at-on_conn, conn_if}
use Rattle.rx_history.proofs.Laws.RightLaws.{heard_is_right, right_is}
use Rattle.rx_history.proofs.Laws.ShownLaws.{Fine}

-- a record whose client is proved was shown the right answer
abbrev pub Shown : Setup → List ℕ → CallName → List Event → Option ConnLooks → Type 0
Shown s key c h None = Unit {0}
Shown s key c h (Some r) = r.proved ≡ true → Proves s key c r.order h

-- what was shown before an event was shown behind it
pub proves-later : (s : Setup) (key : List ℕ) (c : CallName) (order : ℕ) (h : List Event) (e : Event)
    → Proves s key c order h → Proves s key c order (e ∷ h)
proves-later s key c order h e p =
    record {
      later = e ∷ p.later;
      from = p.from;
      bytes = p.bytes;
      before = p.before;
      is = ap (λ (g : List Event). e ∷ g) p.is;
      message = p.message;
      reads = p.reads;
      on = p.on;
      record_is = p.record_is;
      body = p.body;
    }

-- a change that proves none carries it on
pub shown-fine : (s : Setup) (key : List ℕ) (c : CallName) (h : List Event) (e : Event) (o q : Option ConnLooks)
    → Fine o q
    → Shown s key c h o → Shown s key c (e ∷ h) q
shown-fine s key c h e o None fine shown = tt
shown-fine s key c h e None (Some r) fine shown = λ proved. absurd (let was = fine proved in cc (was.1))
shown-fine s key c h e (Some p) (Some r) fine shown =
    λ proved. (
    let was = fine proved in
    let one : p ≡ was.0 = cc (was.1) in
    let before = shown (ap (λ (x : ConnLooks). x.proved) one ∙ was.2) in
    proves-later s key c r.order h e
    (subst (λ (n : ℕ). Proves s key c n h) (ap (λ (x : ConnLooks). x.order) one ∙ was.3) before))

-- ---- a RESPONSE that is heard

order-map : (x : Connection) (l : Looks) (o : Option ConnLooks) (q : ConnLooks)
    → option_map (conn_if x (λ r. record r { last_use = l.now })) o ≡ Some q → IsSomeAnd o (λ r. r.order ≡ q.order)
order-map x l None q is = absurd cc
order-map x l (Some r) q is =
    (elim (same_connection r.connection x)
    as (λ b. Some (cond b (record r { last_use = l.now }) r) ≡ Some q → r.order ≡ q.order) [
      | true ↦ λ is. (let one : record r { last_use = l.now } ≡ q = cc (is) in ap (λ (p : ConnLooks). p.order) one)
      | false ↦ λ is. (let one : r ≡ q = cc (is) in ap (λ (p : ConnLooks). p.order) one)
    ]) is

-- a use leaves which record it is
pub order-used : (x y : Connection) (l : Looks) (q : ConnLooks) → conn_at (used x l) y ≡ Some q
    → IsSomeAnd (conn_at l y) (λ r. r.order ≡ q.order)
order-used x y l q is =
    order-map x l (conn_at l y) q (sym (conn_at-on_conn y x (λ r. record r { last_use = l.now }) l (λ r. refl)) ∙ is)

nonce-of : (s : Setup) (o : Option ConnLooks) (order : ℕ) → IsSomeAnd o (λ r. r.order ≡ order)
    → nonce_at s o ≡ nonce_of s.kind order
nonce-of s None order is = absurd is
nonce-of s (Some r) order is = ap (λ (n : ℕ). nonce_of s.kind n) is

served-name : (s : Setup) (kind : Kind) (from : Host) (m : Message) → IsServer kind
    → name_of (client_host kind from) m ≡ name_of from m
served-name s (Server service nonces) from m server = refl
served-name s (Client host epoch) from m server = absurd server

same-answer : (key : List ℕ) (c d : CallName) (asked : List ℕ) → connection_of d ≡ connection_of c
    → token_answer key d asked ≡ token_answer key c asked
same-answer key c d asked same =
    ap (λ (x : Connection). sha256 (key ++ (big_bytes 4 x.epoch ++ (big_bytes 4 x.cid ++ asked)))) same

module _ (s : Setup) (key : List ℕ) (c : CallName) (h : List Event) (from : Host) (bytes answer : List ℕ) (m : Message)
    (q : ConnLooks) where
  -- it was the right one for the record that is there
  pub proves-now : IsServer s.kind → s.class ≡ token key → reading_of bytes ≡ Ok m → m.body ≡ bodies.Response answer
      → tooks.Heard ≡ took_named s (looks s h) (named s from m) m → connection_of (named s from m) ≡ connection_of c
      → IsSomeAnd (conn_at (looks s h) (connection_of c)) (λ r. r.order ≡ q.order)
      → Proves s key c q.order (events.Taken from bytes tooks.Heard ∷ h)
  proves-now server class reads body heard on order =
      let d : CallName = named s from m in
      let l : Looks = looks s h in
      let right = heard_is_right s l d m answer server refl body heard in
      let is = right_is s key l d answer class right in
      let nonce : nonce_at s (conn_at l (connection_of d)) ≡ nonce_of s.kind q.order =
      ap (λ (x : Connection). nonce_at s (conn_at l x)) on ∙ nonce-of s (conn_at l (connection_of c)) q.order order in
      record {
        later = [];
        from = from;
        bytes = bytes;
        before = h;
        is = refl;
        message = m;
        reads = reads;
        on = sym (ap connection_of (served-name s s.kind from m server)) ∙ on;
        record_is = order;
        body =
            body
            ∙ ap (λ (a : List ℕ). bodies.Response a)
            (is ∙ (same-answer key c d (big_bytes 8 (nonce_at s (conn_at l (connection_of d)))) on
            ∙ ap (λ (n : ℕ). token_answer key c (big_bytes 8 n)) nonce));
      }
