-- What a datagram that a server takes leaves of the proofs of its connections.
use Rattle.std.proofs.Common.{◌≡◌, ℕ, cond, if◌then◌else◌, Bool, true, false}
use Rattle.std.proofs.Common.{List, ◌∷◌, Option, Some, None, Result, Ok, Err, option_map, refl, ◌∙◌, sym, subst}
use Rattle.rx_model.specs.declared.answers.BadMsg.{BadMsg}
use Rattle.rx_model.specs.declared.answers.Took.{Took}
use Rattle.rx_model.specs.declared.answers.Took.TheVariants as tooks
use Rattle.rx_model.specs.declared.event.Event.{Event}
use Rattle.rx_model.specs.declared.event.Event.TheVariants as events
use Rattle.rx_model.specs.declared.names.CallName.{CallName}
use Rattle.rx_model.specs.declared.names.Host.{Host}
use Rattle.rx_rules.specs.After.{enters, looks}
use Rattle.rx_rules.specs.After.{prepared, taken_at, taken_behind, taken_heard, taken_message, taken_unserved}
use Rattle.rx_rules.specs.After.{taken_with, turned_away}
use Rattle.rx_model.specs.Body.{Body}
use Rattle.rx_model.specs.Body as bodies
use Rattle.rx_rules.specs.Classes.{token}
use Rattle.rx_rules.specs.Judging.{else_row, outer_row, took_named, took_reading}
use Rattle.rx_rules.specs.Looks.{ConnLooks, Looks, conn_at, on_conn}
use Rattle.rx_model.specs.Message.{Message}
use Rattle.rx_model.specs.Names.{Connection, connection_of, same_connection}
use Rattle.rx_history.specs.Alone.{Proves}
use Rattle.rx_model.specs.Reading.{reading_of}
use Rattle.rx_rules.specs.Records.{entered, used}
use Rattle.rx_rules.specs.Setup.{Setup, IsServer, named}
use Rattle.rx_rules.proofs.ConnsLaws.{conn_at-on_conn, conn_if}
use Rattle.rx_rules.proofs.FindLaws.{find_passes}
use Rattle.rx_model.proofs.NameLaws.{connection_is}
use Rattle.rx_history.proofs.Plain.PlainTaken.{IsProof, plain-with}
use Rattle.rx_history.proofs.Laws.ShownLaws.{Plain, fine-refl, plain-entered, plain-trans, plain-used}
use Rattle.rx_history.proofs.Laws.ProvesLaws.{Shown, order-used, proves-now, shown-fine}

-- ---- a datagram that is taken

-- the connection of a right RESPONSE is proved
shown-map : (s : Setup) (key : List ℕ) (c : CallName) (h : List Event) (x : Connection) (o : Option ConnLooks)
    → ((r : ConnLooks) → o ≡ Some r → same_connection r.connection x ≡ true → Proves s key c r.order h)
    → Shown s key c h o → Shown s key c h (option_map (conn_if x (λ r. record r { proved = true })) o)
shown-map s key c h x None own shown = tt
shown-map s key c h x (Some r) own shown =
    (elim (same_connection r.connection x)
    as (λ b. same_connection r.connection x ≡ b → Shown s key c h (Some (cond b (record r { proved = true }) r))) [
      | true ↦ λ same proved. own r refl same
      | false ↦ λ other proved. shown proved
    ]) refl

module _ (s : Setup) (key : List ℕ) (c : CallName) (h : List Event) (from : Host) (bytes answer : List ℕ) (m : Message)
  where
    shown-proof : IsServer s.kind → s.class ≡ token key → reading_of bytes ≡ Ok m → m.body ≡ bodies.Response answer
        → tooks.Heard ≡ took_named s (looks s h) (named s from m) m
        → Shown s key c h (conn_at (looks s h) (connection_of c))
        → Shown s key c (events.Taken from bytes tooks.Heard ∷ h) (conn_at (on_conn (connection_of (named s from m))
        (λ r. record r { proved = true }) (used (connection_of (named s from m)) (looks s h))) (connection_of c))
    shown-proof server class reads body heard shown =
        let x : Connection = connection_of (named s from m) in
        let y : Connection = connection_of c in
        let l : Looks = looks s h in
        let e : Event = events.Taken from bytes tooks.Heard in
        subst (λ (o : Option ConnLooks). Shown s key c (e ∷ h) o)
        (sym (conn_at-on_conn y x (λ r. record r { proved = true }) (used x l) (λ r. refl)))
        (shown-map s key c (e ∷ h) x (conn_at (used x l) y)
        (λ r is same.
        let own : r.connection ≡ y =
        connection_is r.connection y (find_passes (λ q. same_connection q.connection y) (used x l).conns r is) in
        proves-now s key c h from bytes answer m r server class reads body heard
        (sym (connection_is r.connection x same) ∙ own) (order-used x y l r is))
        (shown-fine s key c h e (conn_at l y) (conn_at (used x l) y) (plain-used y x l) shown))

plain-prepared : (s : Setup) (got : Took) (y x : Connection) (l : Looks) → Plain y l (prepared s got x l)
plain-prepared s got y x l =
    plain-trans y l (if enters got then entered s x l else l) (prepared s got x l) (of (enters got))
    (plain-used y x (if enters got then entered s x l else l))
  where
    of : (b : Bool) → Plain y l (if b then entered s x l else l)
    of true = plain-entered y s x l
    of false = fine-refl (conn_at l y)

module _ (s : Setup) (key : List ℕ) (c : CallName) (h : List Event) (from : Host) (bytes : List ℕ) (m : Message) where
  shown-with : (got : Took) (body : Body) → IsServer s.kind → s.class ≡ token key → reading_of bytes ≡ Ok m
      → m.body ≡ body → got ≡ took_named s (looks s h) (named s from m) m
      → Shown s key c h (conn_at (looks s h) (connection_of c))
      → Shown s key c (events.Taken from bytes got ∷ h) (conn_at (taken_with s got (named s from m) m
      (prepared s got (connection_of (named s from m)) (looks s h))) (connection_of c))
  shown-with tooks.Heard (bodies.Response answer) server class reads body heard shown =
      let d : CallName = named s from m in
      subst (λ (b : Body). Shown s key c (events.Taken from bytes tooks.Heard ∷ h)
      (conn_at (taken_heard s d b (taken_at s tooks.Heard d m (prepared s tooks.Heard (connection_of d) (looks s h))))
      (connection_of c))) (sym body)
      (shown-proof s key c h from bytes answer m server class reads body heard shown)
  shown-with got body server class reads is answer shown =
      let d : CallName = named s from m in
      let l : Looks = looks s h in
      let y : Connection = connection_of c in
      let ready : Looks = prepared s got (connection_of d) l in
      shown-fine s key c h (events.Taken from bytes got) (conn_at l y) (conn_at (taken_with s got d m ready) y)
      (plain-trans y l ready (taken_with s got d m ready) (plain-prepared s got y (connection_of d) l)
      (plain-with s got y d m ready (λ p. subst (λ (b : Body). IsProof got b) is p))) shown

-- a row in front changes no connection
plain-turned : (row : Took) (from : Host) (m : Message) (y : Connection) (l : Looks)
    → Plain y l (turned_away row from m l)
plain-turned tooks.Unserved from m y l = of m.body
  where
    of : (body : Body) → Plain y l (taken_unserved from m body l)
    of (bodies.Chunk payload) = fine-refl (conn_at l y)
    of bodies.Busy = fine-refl (conn_at l y)
    of (bodies.Ack a) = fine-refl (conn_at l y)
    of (bodies.Abort code) = fine-refl (conn_at l y)
    of bodies.AckAll = fine-refl (conn_at l y)
    of (bodies.Challenge bytes) = fine-refl (conn_at l y)
    of (bodies.Response bytes) = fine-refl (conn_at l y)
plain-turned _ from m y l = fine-refl (conn_at l y)

module _ (s : Setup) (key : List ℕ) (c : CallName) (h : List Event) (from : Host) (bytes : List ℕ) where
  shown-behind : (m : Message) (got : Took) (row : Option Took) → IsServer s.kind → s.class ≡ token key
      → reading_of bytes ≡ Ok m → got ≡ else_row row (took_named s (looks s h) (named s from m) m)
      → Shown s key c h (conn_at (looks s h) (connection_of c))
      → Shown s key c (events.Taken from bytes got ∷ h)
      (conn_at (taken_behind s row from (named s from m) m got (looks s h)) (connection_of c))
  shown-behind m got (Some row) server class reads answer shown =
      let l : Looks = looks s h in
      let y : Connection = connection_of c in
      shown-fine s key c h (events.Taken from bytes got) (conn_at l y) (conn_at (turned_away row from m l) y)
      (plain-turned row from m y l) shown
  shown-behind m got None server class reads answer shown =
      shown-with s key c h from bytes m got m.body server class reads refl answer shown

  pub shown-message : (got : Took) (reading : Result Message BadMsg) → IsServer s.kind → s.class ≡ token key
      → reading_of bytes ≡ reading → got ≡ took_reading s (looks s h) from reading
      → Shown s key c h (conn_at (looks s h) (connection_of c))
      → Shown s key c (events.Taken from bytes got ∷ h)
      (conn_at (taken_message s from reading got (looks s h)) (connection_of c))
  shown-message got (Err bad) server class reads answer shown =
      let o = conn_at (looks s h) (connection_of c) in
      shown-fine s key c h (events.Taken from bytes got) o o (fine-refl o) shown
  shown-message got (Ok m) server class reads answer shown =
      shown-behind m got (outer_row s s.kind (looks s h) from m) server class reads answer shown
