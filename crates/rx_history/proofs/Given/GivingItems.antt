-- What is known of what a poll gives: its serial, its name, its call, and what it leaves.
use Rattle.std.proofs.Common.{Ok}
use Rattle.std.proofs.Common.{◌==◌, ◌≤◌, Bool, true, false, cond, drop, Result}
use Rattle.std.proofs.lemmas.Bool.Decides.{nat_tests}
use Rattle.rx_model.specs.declared.answers.BadMsg.{BadMsg}
use Rattle.rx_model.specs.declared.event.Event.TheVariants as events
use Rattle.std.proofs.Common.{◌≡◌, ◌⊎◌, ℕ, List, Some, refl, ◌∙◌, ap, sym, subst, arith}
use Rattle.rx_model.specs.declared.event.Event.{Event}
use Rattle.rx_model.specs.declared.names.CallName.{CallName}
use Rattle.rx_model.specs.declared.names.Host.{Host}
use Rattle.rx_model.specs.Body.{Body}
use Rattle.rx_model.specs.Body as bodies
use Rattle.rx_model.specs.Message.{Message}
use Rattle.rx_model.specs.Names.{channel_of, connection_of}
use Rattle.rx_model.specs.Reading.{reading_of}
use Rattle.rx_model.specs.Strays.{is_stray}
use Rattle.rx_rules.specs.After.{after, counted, given_body, given_message, looks}
use Rattle.rx_rules.specs.Items.{message_on}
use Rattle.rx_rules.specs.Looks.{Looks, latest_name}
use Rattle.rx_rules.specs.Records.{silenced}
use Rattle.rx_rules.specs.Rules.{Legal}
use Rattle.rx_rules.specs.Setup.{Setup, FitsSetup, named}
use Rattle.rx_history.specs.Givings.{GivesItem, GivesStray}
use Rattle.rx_history.proofs.Data.{name-again}
use Rattle.rx_history.proofs.Plain.PlainBodies.{is_abort}
use Rattle.rx_history.proofs.Given.Givings.{conn_of, next_is}

module _ (s : Setup) (h : List Event) (fits : FitsSetup s) (legal : Legal s h) where
  -- its datagram speaks of its call
  pub item_name : (to : Host) (m : Message) (g : GivesItem s (looks s h) to m) → named s to m ≡ g.item.name
  item_name to m g =
      let conn = conn_of s h fits legal g.item g.conn g.there in
      let again = name-again s g.conn g.item conn.0.kind conn.1 (next_is s h fits legal g.item g.next).name in
      ap (named s to) g.is ∙ ap (λ (x : Host). named s x (message_on s g.item g.conn)) g.host ∙ again

  -- unless it is a BUSY, its call is the latest of its channel
  pub item_latest : (to : Host) (m : Message) (g : GivesItem s (looks s h) to m)
      → (g.item.body ≡ bodies.Busy) ⊎ (g.item.name ≡ latest_name (looks s h) (channel_of g.item.name))
  item_latest to m g = (next_is s h fits legal g.item g.next).latest

  -- no stray abort is read of it
  pub item_apart : (to : Host) (m : Message) (g : GivesItem s (looks s h) to m) → is_stray m m.body ≡ false
  item_apart to m g =
      subst (λ (n : Message). is_stray n n.body ≡ false) (sym g.is)
      (of g.item.body (next_is s h fits legal g.item g.next).apart)
    where
      some : (n : ℕ) → 1 ≤ n → (n == 0) ≡ false
      some n low = grind (arith, nat_tests)

      of : (body : Body) → (is_abort body ≡ true → 1 ≤ g.item.name.number)
          → is_stray (message_on s g.item g.conn) body ≡ false
      of (bodies.Abort code) low = some g.item.name.number (low refl)
      of (bodies.Chunk payload) low = refl
      of bodies.Busy low = refl
      of (bodies.Ack a) low = refl
      of bodies.AckAll low = refl
      of (bodies.Challenge bytes) low = refl
      of (bodies.Response bytes) low = refl

  -- behind it, its connection has one more datagram, and its call or channel owes it no longer
  pub item_leaves : (to : Host) (bytes : List ℕ) (m : Message) (g : GivesItem s (looks s h) to m)
      → reading_of bytes ≡ Ok m
      → after s (events.Polled (Some (to, bytes))) (looks s h)
      ≡ given_body g.item.name m m.body (counted (connection_of g.item.name) (silenced (looks s h)))
  item_leaves to bytes m g reads =
      let l : Looks = silenced (looks s h) in
      ap (λ (r : Result Message BadMsg). given_message s to r l) reads
      ∙ ap (λ (b : Bool). cond b (record l { strays = drop 1 l.strays })
      (given_body (named s to m) m m.body (counted (connection_of (named s to m)) l))) (item_apart to m g)
      ∙ ap (λ (c : CallName). given_body c m m.body (counted (connection_of c) l)) (item_name to m g)

-- behind it, it is owed no longer
pub stray_leaves : (s : Setup) (l : Looks) (to : Host) (bytes : List ℕ) (m : Message) → GivesStray l to m
    → reading_of bytes ≡ Ok m
    → after s (events.Polled (Some (to, bytes))) l ≡ record (silenced l) { strays = drop 1 l.strays }
stray_leaves s l to bytes m g reads =
    ap (λ (r : Result Message BadMsg). given_message s to r (silenced l)) (reads ∙ ap (λ (n : Message). Ok n) g.is)
