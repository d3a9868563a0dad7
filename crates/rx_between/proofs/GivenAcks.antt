-- An ACK that a node gave was made of what its call had received then; and what it received only grew since.
use Rattle.std.proofs.Common.{◌≡◌, ℕ, Bool, true, false, cond, List, [], ◌∷◌, Option, Some, None, option_map, Ok}
use Rattle.std.proofs.Common.{refl, ap, sym, subst, ◌∙◌, inl, inr, ⊎_elim}
use Rattle.rx_model.specs.declared.event.Event.{Event}
use Rattle.rx_model.specs.declared.names.CallName.{CallName}
use Rattle.rx_model.specs.declared.names.Host.{Host}
use Rattle.rx_model.specs.Body.{AckBody, Body}
use Rattle.rx_model.specs.Body as bodies
use Rattle.rx_model.specs.Message.{Message}
use Rattle.rx_model.specs.Names.{same_name}
use Rattle.rx_model.specs.Reading.{reading_of}
use Rattle.rx_model.proofs.NameLaws.{name_is}
use Rattle.rx_rules.specs.After.{looks}
use Rattle.rx_rules.specs.CallItems.{Sending, ack_body, sending_body}
use Rattle.rx_rules.specs.CallItems as sendings
use Rattle.rx_rules.specs.CallLooks.{CallLooks}
use Rattle.rx_rules.specs.Items.{Item, poll_answer}
use Rattle.rx_rules.specs.Life.{after_silence}
use Rattle.rx_rules.specs.Looks.{CallRecord, Looks, call_at, latest_name}
use Rattle.rx_rules.specs.Received.{Received}
use Rattle.rx_rules.specs.Records.{is_silent, silence_of, silenced, unless_silent}
use Rattle.rx_rules.specs.Rules.{AllowedAt, Legal}
use Rattle.rx_rules.specs.Setup.{Setup, FitsSetup, named, receiving_window}
use Rattle.rx_rules.proofs.CallsLaws.{call_at-on_calls}
use Rattle.rx_rules.proofs.FindLaws.{find_passes}
use Rattle.rx_history.proofs.Data.{same_message}
use Rattle.rx_history.proofs.Given.GivingItems.{item_name}
use Rattle.rx_history.proofs.Given.Givings.{poll_gives}
use Rattle.rx_law.proofs.Joint.{gives-at, polled-is}
use Rattle.rx_history.specs.Givings.{GivesItem, GivesPlain, GivesStray}
use Rattle.rx_law.specs.Worlds.{Gave}
use Rattle.rx_between.specs.Acknowledged.{received_by}
use Rattle.rx_between.specs.Told.{Grows, IsAckOf, IsEarlierAck}
use Rattle.rx_between.proofs.Each.EachItem.{IsOther, Sends}
use Rattle.rx_between.proofs.Each.EachItem as each
use Rattle.rx_between.proofs.Grows.{grows_on}
use Rattle.rx_history.proofs.Given.GivenLaws.{silent-name}

-- ---- silent calls end first, and nothing passes at their ends by it

pub silent_looks : (now : ℕ) (k : CallRecord) → (unless_silent now k).looks ≡ k.looks
silent_looks now k = of (is_silent now k)
  where
    of : (b : Bool) → (cond b (record k { life = after_silence (silence_of now k) k.life }) k).looks ≡ k.looks
    of true = refl
    of false = refl

-- the call as it was before
pub record Before (l : Looks) (c : CallName) (k : CallRecord) : Type 0 where
  pub call : CallRecord
  pub there : call_at l c ≡ Some call
  pub same : k.looks ≡ call.looks

pub before_silence : (l : Looks) (c : CallName) (k : CallRecord) → call_at (silenced l) c ≡ Some k → Before l c k
before_silence l c k there =
    of (call_at l c) refl (sym (call_at-on_calls c (unless_silent l.now) l (silent-name l.now)) ∙ there)
  where
    some_is : (a b : CallRecord) → ◌≡◌ {A = Option CallRecord} (Some a) (Some b) → a ≡ b
    some_is a b is = cc

    of : (o : Option CallRecord) → call_at l c ≡ o → option_map (unless_silent l.now) o ≡ Some k → Before l c k
    of None is same = absurd cc
    of (Some j) is same =
        record {
          call = j;
          there = is;
          same =
              ap (λ (r : CallRecord). r.looks) (sym (some_is (unless_silent l.now j) k same)) ∙ silent_looks l.now j;
        }

-- ---- a poll

-- the call that gave it
pub record PollsAck (s : Setup) (l : Looks) (c : CallName) (a : AckBody) : Type 0 where
  pub call : CallRecord
  pub there : call_at l c ≡ Some call
  pub is : IsAckOf s call.looks.received a

no-chunk : (payload : List ℕ) (a : AckBody) → bodies.Chunk payload ≡ bodies.Ack a → ⊥
no-chunk payload a is = absurd cc

ack-is : (a b : AckBody) → bodies.Ack a ≡ bodies.Ack b → a ≡ b
ack-is a b is = cc

sends-ack : (s : Setup) (k : CallLooks) (x : Sending) (a : AckBody)
    → sending_body (receiving_window s) k x ≡ bodies.Ack a → IsAckOf s k.received a
sends-ack s k (sendings.Piece seq again) a is = absurd (no-chunk _ a is)
sends-ack s k (sendings.Ack reason serial) a is =
    subst (IsAckOf s k.received) (ack-is (ack_body (receiving_window s) reason serial k.received) a is)
    (record { first = refl; marks = refl; window = refl })

-- the call that an item is of
pub sends_there : (s : Setup) (l : Looks) (i : Item) (d : Sends s l i) → call_at l d.call.name ≡ Some d.call
sends_there s l i d =
    let own : d.call.name ≡ latest_name l d.channel =
    name_is d.call.name (latest_name l d.channel)
    (find_passes (λ j. same_name j.name (latest_name l d.channel)) l.calls d.call d.there) in
    subst (λ (n : CallName). call_at l n ≡ Some d.call) (sym own) d.there

module _ (s : Setup) (h : List Event) (fits : FitsSetup s) (legal : Legal s h) (to : Host) (bytes : List ℕ)
    (m : Message) (a : AckBody) (reads : reading_of bytes ≡ Ok m) (body : m.body ≡ bodies.Ack a) where
  abbrev l : Looks
  l = silenced (looks s h)

  of-item : (p : GivesPlain s (looks s h) to bytes) → p.message ≡ m → (g : GivesItem s (looks s h) to p.message)
      → PollsAck s (looks s h) (named s to m) a
  of-item p same g =
      let ack : g.item.body ≡ bodies.Ack a =
      sym (ap (λ (n : Message). n.body) g.is) ∙ ap (λ (n : Message). n.body) same ∙ body in
      let name : g.item.name ≡ named s to m =
      sym (item_name s h fits legal to p.message g) ∙ ap (named s to) same in
      ⊎_elim (λ (d : Sends s l g.item). by d ack name)
      (λ (other : IsOther g.item.body). absurd (subst IsOther ack other)) (each.gives s l g.item g.next)
    where
      by : (d : Sends s l g.item) → g.item.body ≡ bodies.Ack a → g.item.name ≡ named s to m
          → PollsAck s (looks s h) (named s to m) a
      by d ack name =
          let own : d.call.name ≡ named s to m = sym (ap (λ (i : Item). i.name) d.is) ∙ name in
          let there : call_at l (named s to m) ≡ Some d.call =
          subst (λ (n : CallName). call_at l n ≡ Some d.call) own (sends_there s l g.item d) in
          let b = before_silence (looks s h) (named s to m) d.call there in
          let is : IsAckOf s d.call.looks.received a =
          sends-ack s d.call.looks d.sending a (sym (ap (λ (i : Item). i.body) d.is) ∙ ack) in
          record {
            call = b.call;
            there = b.there;
            is = subst (λ (k : CallLooks). IsAckOf s k.received a) b.same is;
          }

  stray-no : (x : GivesPlain s (looks s h) to bytes) → x.message ≡ m → GivesStray (looks s h) to x.message → ⊥
  stray-no p same g =
      absurd (let is : bodies.Abort _ ≡ bodies.Ack a =
      sym (ap (λ (n : Message). n.body) g.is) ∙ ap (λ (n : Message). n.body) same ∙ body in cc (is))

  -- an ACK that a poll gives is of a call's look-ups
  pub polls_ack : poll_answer s (looks s h) ≡ Some (to, bytes) → PollsAck s (looks s h) (named s to m) a
  polls_ack is =
      let p = poll_gives s h fits legal to bytes is in
      let same : p.message ≡ m = same_message p.message m (sym p.read ∙ reads) in
      ⊎_elim (λ (g : GivesStray (looks s h) to p.message). absurd (stray-no p same g))
      (λ (g : GivesItem s (looks s h) to p.message). of-item p same g) p.owed

-- ---- a history

-- what a call received only grew with each event
abbrev pub OnlyGrows : Setup → CallName → List Event → Type 0
OnlyGrows s c [] = Unit {0}
OnlyGrows s c (e ∷ h) =
    Grows (received_by (call_at (looks s h) c)) (received_by (call_at (looks s (e ∷ h)) c)) × OnlyGrows s c h

later-ack : (s : Setup) (old new : Received) (a : AckBody) → Grows old new → IsEarlierAck s old a → IsEarlierAck s new a
later-ack s old new a grows k =
    record { then_ = k.then_; is = k.is; grown = grows_on k.then_ old new k.grown grows }

-- each ACK of the call that was given
pub given_acks : (s : Setup) (h : List Event) (c : CallName) (to : Host) (bytes : List ℕ) (m : Message) (a : AckBody)
    → FitsSetup s → Legal s h → OnlyGrows s c h → reading_of bytes ≡ Ok m → m.body ≡ bodies.Ack a → named s to m ≡ c
    → Gave to bytes h → IsEarlierAck s (received_by (call_at (looks s h) c)) a
given_acks s [] c to bytes m a fits legal grown reads body name gave = absurd gave
given_acks s (e ∷ h) c to bytes m a fits legal grown reads body name (inr gave) =
    later-ack s _ _ a grown.0 (given_acks s h c to bytes m a fits legal.1 grown.1 reads body name gave)
given_acks s (e ∷ h) c to bytes m a fits legal grown reads body name (inl gives) =
    let g = gives-at to bytes e gives in
    let answer = polled-is s.kind s (looks s h) g.0
    (subst (λ (x : Event). AllowedAt s.kind s (looks s h) x) g.1 legal.0) in
    let k = polls_ack s h fits legal.1 to bytes m a reads body (sym answer ∙ g.2) in
    let there : call_at (looks s h) c ≡ Some k.call =
    subst (λ (n : CallName). call_at (looks s h) n ≡ Some k.call) name k.there in
    record {
      then_ = k.call.looks.received;
      is = k.is;
      grown =
          subst (λ (o : Option CallRecord). Grows (received_by o) (received_by (call_at (looks s (e ∷ h)) c))) there
          grown.0;
    }
