-- What a poll gives of a call's stream is given by a call that is active.
use Rattle.std.proofs.Common.{◌≡◌, Bool, true, false, cond, List, Option, Some, None, Ok, ◌∙◌, ap, sym, subst, ⊎_elim}
use Rattle.std.proofs.Common.{refl, option_map, ◌&&◌, nat_le, ℕ}
use Rattle.rx_model.specs.declared.event.Event.{Event}
use Rattle.rx_model.specs.declared.names.CallName.{CallName}
use Rattle.rx_model.specs.declared.names.Host.{Host}
use Rattle.rx_model.specs.declared.wire.TheConstants.{RX_INVALID_OPERATION, SILENCE_MS}
use Rattle.rx_model.specs.Body.{Body}
use Rattle.rx_model.specs.Body as bodies
use Rattle.rx_model.specs.Message.{Message}
use Rattle.rx_model.specs.Reading.{reading_of}
use Rattle.rx_rules.specs.After.{looks}
use Rattle.rx_rules.specs.Items.{Item, poll_answer}
use Rattle.rx_rules.specs.Life.{after_silence, is_active, is_live}
use Rattle.rx_rules.specs.Looks.{CallRecord, Looks, call_at}
use Rattle.rx_rules.specs.Records.{is_silent, silence_of, silenced, unless_silent}
use Rattle.rx_rules.specs.Rules.{Legal}
use Rattle.rx_rules.specs.Setup.{Setup, FitsSetup, named}
use Rattle.rx_rules.proofs.CallsLaws.{call_at-on_calls}
use Rattle.rx_history.specs.Givings.{GivesItem, GivesPlain, GivesStray}
use Rattle.rx_history.proofs.Data.{same_message}
use Rattle.rx_history.proofs.Given.GivingItems.{item_name}
use Rattle.rx_history.proofs.Given.Givings.{poll_gives}
use Rattle.rx_history.proofs.Given.GivenLaws.{silent-name as silent_name}
use Rattle.rx_between.proofs.Each.EachItem.{IsOther, Sends}
use Rattle.rx_between.proofs.Each.EachItem as each
use Rattle.rx_between.proofs.GivenAcks.{sends_there}
use Rattle.rx_closing.proofs.Ends.RoomLaws.{active_lives}
use Rattle.rx_plan.proofs.Soundness.SoundPlan.{and_left}
use Rattle.rx_history.proofs.Plain.PlainBodies.{IsSent}

-- ---- lives

-- a call that lives behind the end of the silent ones lived before it
pub live_unsilenced : (now : ℕ) (k : CallRecord) → is_live (unless_silent now k).life ≡ true → is_live k.life ≡ true
live_unsilenced now k living = of (is_silent now k) refl living
  where
    of : (b : Bool) → is_silent now k ≡ b
        → is_live (cond b (record k { life = after_silence (silence_of now k) k.life }) k).life ≡ true
        → is_live k.life ≡ true
    of true silent living =
        active_lives k.life (and_left (is_active k.life) (nat_le SILENCE_MS (silence_of now k)) silent)
    of false awake living = living

-- a call that lives
pub record LivesIn (l : Looks) (c : CallName) : Type 0 where
  pub call : CallRecord
  pub there : call_at l c ≡ Some call
  pub living : is_live call.life ≡ true

pub lives_unsilenced : (l : Looks) (c : CallName) → LivesIn (silenced l) c → LivesIn l c
lives_unsilenced l c v =
    of (call_at l c) refl (sym (call_at-on_calls c (unless_silent l.now) l (silent_name l.now)) ∙ v.there)
  where
    some_is : (a b : CallRecord) → ◌≡◌ {A = Option CallRecord} (Some a) (Some b) → a ≡ b
    some_is a b is = cc

    of : (o : Option CallRecord) → call_at l c ≡ o → option_map (unless_silent l.now) o ≡ Some v.call → LivesIn l c
    of None at is = absurd cc
    of (Some k) at is =
        record {
          call = k;
          there = at;
          living =
              live_unsilenced l.now k
              (subst (λ (r : CallRecord). is_live r.life ≡ true) (sym (some_is (unless_silent l.now k) v.call is))
              v.living);
        }

-- ---- givings

module _ (s : Setup) (h : List Event) (fits : FitsSetup s) (legal : Legal s h) (to : Host) (bytes : List ℕ)
    (m : Message) (reads : reading_of bytes ≡ Ok m) (stream : IsSent m.body) where
  abbrev l : Looks
  l = silenced (looks s h)

  no_other : (body : Body) → IsSent body → IsOther body → ⊥
  no_other (bodies.Chunk payload) stream other = other
  no_other (bodies.Ack a) stream other = other
  no_other _ stream other = stream

  of_item : (p : GivesPlain s (looks s h) to bytes) → p.message ≡ m → (g : GivesItem s (looks s h) to p.message)
      → LivesIn l (named s to m)
  of_item p same g =
      ⊎_elim (λ (d : Sends s l g.item). by d)
      (λ (other : IsOther g.item.body). absurd (no_other m.body stream (subst IsOther (sym body_is) other)))
      (each.gives s l g.item g.next)
    where
      body_is : m.body ≡ g.item.body
      body_is = sym (ap (λ (n : Message). n.body) same) ∙ ap (λ (n : Message). n.body) g.is

      name : g.item.name ≡ named s to m
      name = sym (item_name s h fits legal to p.message g) ∙ ap (named s to) same

      by : Sends s l g.item → LivesIn l (named s to m)
      by d =
          (let own : d.call.name ≡ named s to m = sym (ap (λ (i : Item). i.name) d.is) ∙ name in
          record {
            call = d.call;
            there = subst (λ (n : CallName). call_at l n ≡ Some d.call) own (sends_there s l g.item d);
            living = active_lives d.call.life d.active;
          })

  no_stray : (p : GivesPlain s (looks s h) to bytes) → p.message ≡ m → GivesStray (looks s h) to p.message → ⊥
  no_stray p same g =
      of m.body stream (sym (ap (λ (n : Message). n.body) same) ∙ ap (λ (n : Message). n.body) g.is)
    where
      of : (body : Body) → IsSent body → body ≡ bodies.Abort RX_INVALID_OPERATION → ⊥
      of (bodies.Chunk payload) stream is = cc
      of (bodies.Ack a) stream is = cc
      of _ stream is = stream

  -- the call that a poll gave DATA or an ACK of lives
  pub poll_lives : poll_answer s (looks s h) ≡ Some (to, bytes) → LivesIn (looks s h) (named s to m)
  poll_lives is =
      let p = poll_gives s h fits legal to bytes is in
      let same : p.message ≡ m = same_message p.message m (sym p.read ∙ reads) in
      lives_unsilenced (looks s h) (named s to m)
      (⊎_elim (λ (g : GivesStray (looks s h) to p.message). absurd (no_stray p same g))
      (λ (g : GivesItem s (looks s h) to p.message). of_item p same g) p.owed)
