-- What a poll gives of a call's stream is what the end of that call gives next.
use Rattle.std.proofs.Common.{◌≡◌, ℕ, List, Some, Ok, ◌∙◌, ap, sym, subst, ⊎_elim}
use Rattle.rx_model.specs.declared.event.Event.{Event}
use Rattle.rx_model.specs.declared.names.CallName.{CallName}
use Rattle.rx_model.specs.declared.names.Host.{Host}
use Rattle.rx_model.specs.declared.wire.TheConstants.{RX_INVALID_OPERATION}
use Rattle.rx_model.specs.Body.{Body}
use Rattle.rx_model.specs.Body as bodies
use Rattle.rx_model.specs.Message.{Message}
use Rattle.rx_model.specs.Reading.{reading_of}
use Rattle.rx_rules.specs.After.{looks}
use Rattle.rx_rules.specs.CallItems.{Sending, next_sending, sending_body, sending_seq}
use Rattle.rx_rules.specs.Items.{Item, poll_answer}
use Rattle.rx_rules.specs.Looks.{CallRecord, Looks, call_at}
use Rattle.rx_rules.specs.Records.{silenced}
use Rattle.rx_rules.specs.Rules.{Legal}
use Rattle.rx_rules.specs.Setup.{Setup, FitsSetup, named, receiving_window}
use Rattle.rx_rules.specs.Slots.{node_view}
use Rattle.rx_history.specs.Givings.{GivesItem, GivesPlain, GivesStray}
use Rattle.rx_history.proofs.Data.{same_message}
use Rattle.rx_history.proofs.Given.GivingItems.{item_name}
use Rattle.rx_history.proofs.Given.Givings.{poll_gives}
use Rattle.rx_between.proofs.Each.EachItem.{IsOther, Sends}
use Rattle.rx_between.proofs.Each.EachItem as each
use Rattle.rx_between.proofs.GivenAcks.{sends_there}
use Rattle.rx_history.proofs.Plain.PlainBodies.{IsSent}

-- once silent calls ended, the call is there, and gives the message next
pub record Says (s : Setup) (l : Looks) (m : Message) (c : CallName) : Type 0 where
  pub call : CallRecord
  pub there : call_at (silenced l) c ≡ Some call
  pub sending : Sending
  pub next : next_sending (node_view s (silenced l)) call.looks ≡ Some sending
  pub seq : m.seq ≡ sending_seq sending
  pub body : m.body ≡ sending_body (receiving_window s) call.looks sending

module _ (s : Setup) (h : List Event) (fits : FitsSetup s) (legal : Legal s h) (to : Host) (bytes : List ℕ)
    (m : Message) (reads : reading_of bytes ≡ Ok m) (stream : IsSent m.body) where
  abbrev l : Looks
  l = silenced (looks s h)

  no_other : (body : Body) → IsSent body → IsOther body → ⊥
  no_other (bodies.Chunk payload) stream other = other
  no_other (bodies.Ack a) stream other = other
  no_other _ stream other = stream

  of_item : (p : GivesPlain s (looks s h) to bytes) → p.message ≡ m → (g : GivesItem s (looks s h) to p.message)
      → Says s (looks s h) m (named s to m)
  of_item p same g =
      ⊎_elim (λ (d : Sends s l g.item). by d)
      (λ (other : IsOther g.item.body). absurd (no_other m.body stream (subst IsOther (sym body_is) other)))
      (each.gives s l g.item g.next)
    where
      body_is : m.body ≡ g.item.body
      body_is = sym (ap (λ (n : Message). n.body) same) ∙ ap (λ (n : Message). n.body) g.is

      name : g.item.name ≡ named s to m
      name = sym (item_name s h fits legal to p.message g) ∙ ap (named s to) same

      by : Sends s l g.item → Says s (looks s h) m (named s to m)
      by d =
          (let own : d.call.name ≡ named s to m = sym (ap (λ (i : Item). i.name) d.is) ∙ name in
          record {
            call = d.call;
            there = subst (λ (n : CallName). call_at l n ≡ Some d.call) own (sends_there s l g.item d);
            sending = d.sending;
            next = d.next;
            seq =
                sym (ap (λ (n : Message). n.seq) same) ∙ ap (λ (n : Message). n.seq) g.is
                ∙ ap (λ (i : Item). i.seq) d.is;
            body = body_is ∙ ap (λ (i : Item). i.body) d.is;
          })

  no_stray : (p : GivesPlain s (looks s h) to bytes) → p.message ≡ m → GivesStray (looks s h) to p.message → ⊥
  no_stray p same g =
      of m.body stream (sym (ap (λ (n : Message). n.body) same) ∙ ap (λ (n : Message). n.body) g.is)
    where
      of : (body : Body) → IsSent body → body ≡ bodies.Abort RX_INVALID_OPERATION → ⊥
      of (bodies.Chunk payload) stream is = cc
      of (bodies.Ack a) stream is = cc
      of _ stream is = stream

  -- of any legal history
  pub poll_says : poll_answer s (looks s h) ≡ Some (to, bytes) → Says s (looks s h) m (named s to m)
  poll_says is =
      let p = poll_gives s h fits legal to bytes is in
      let same : p.message ≡ m = same_message p.message m (sym p.read ∙ reads) in
      ⊎_elim (λ (g : GivesStray (looks s h) to p.message). absurd (no_stray p same g))
      (λ (g : GivesItem s (looks s h) to p.message). of_item p same g) p.owed
