-- A call gave something no earlier behind further events.
use Rattle.std.proofs.Common.{◌≡◌, ◌≤◌, ◌++◌, ◌⊎◌, ℕ, List, [], ◌∷◌, Option, Some, None, ap, refl, subst, ◌∙◌, inl, inr}
use Rattle.std.proofs.Common.{⊎_elim, arith}
use Rattle.rx_model.specs.declared.answers.Took.{Took}
use Rattle.rx_model.specs.declared.answers.Took.TheVariants as tooks
use Rattle.rx_model.specs.declared.event.Event.{Event}
use Rattle.rx_model.specs.declared.names.CallName.{CallName}
use Rattle.rx_model.specs.Message.{Message}
use Rattle.rx_rules.specs.After.{looks}
use Rattle.rx_rules.specs.CallItems.{Ack, Piece, Sending, after_sending}
use Rattle.rx_rules.specs.CallLooks.{CallLooks, NodeView, after_taken, fresh_call}
use Rattle.rx_rules.specs.Looks.{CallRecord, Looks, call_at}
use Rattle.rx_rules.specs.Rules.{Legal}
use Rattle.rx_rules.specs.Setup.{FitsSetup, Setup, pace_of}
use Rattle.rx_between.proofs.Each.EachEvent.{each_step}
use Rattle.rx_between.proofs.Each.EachStep.{CallStep, EndStep, Goes, IsMade, Opens, Starts, finishes, gives, reads}
use Rattle.rx_between.proofs.Each.EachStep.{shuts}
use Rattle.rx_between.proofs.Each.EachStep.{stays, takes, writes}
use Rattle.rx_closing.proofs.Rounds.SpokeHolds.{IsPast, body_spoke as body-spoke, chunk_spoke as chunk-spoke}
use Rattle.rx_closing.proofs.Rounds.SpokeHolds.{past_holds}

-- what a call takes leaves when it spoke last
pub taken-spoke : (v : NodeView) (got : Took) (m : Message) (k : CallLooks) → (after_taken v got m k).spoke ≡ k.spoke
taken-spoke v tooks.Kept m k = chunk-spoke v tooks.Kept m m.body k
taken-spoke v tooks.Repeat m k = chunk-spoke v tooks.Repeat m m.body k
taken-spoke v tooks.Beyond m k = chunk-spoke v tooks.Beyond m m.body k
taken-spoke v tooks.Clash m k = chunk-spoke v tooks.Clash m m.body k
taken-spoke v tooks.NoSlot m k = chunk-spoke v tooks.NoSlot m m.body k
taken-spoke v tooks.Heard m k = body-spoke v.now m m.body k
taken-spoke v _ m k = refl

given-spoke : (now : ℕ) (x : Sending) (k : CallLooks) → (after_sending now x k).spoke ≡ now
given-spoke now (Piece seq again) k = refl
given-spoke now (Ack reason serial) k = refl

step-spoke : (s : Setup) (l : Looks) (e : Event) (c : CallName) (a b : CallLooks) → EndStep s l e c a b
    → (b.spoke ≡ a.spoke) ⊎ (b.spoke ≡ l.now)
step-spoke s l e c a b (stays same) = inl (ap (λ (k : CallLooks). k.spoke) same)
step-spoke s l e c a b (takes t) =
    inl (ap (λ (k : CallLooks). k.spoke) t.is ∙ taken-spoke t.view t.got t.message a)
step-spoke s l e c a b (gives g) = inr (ap (λ (k : CallLooks). k.spoke) g.is ∙ given-spoke l.now g.sending a)
step-spoke s l e c a b (writes offered got bytes is same) = inl (ap (λ (k : CallLooks). k.spoke) same)
step-spoke s l e c a b (reads most got bytes is same) = inl (ap (λ (k : CallLooks). k.spoke) same)
step-spoke s l e c a b (shuts is same) = inl (ap (λ (k : CallLooks). k.spoke) same)
step-spoke s l e c a b (finishes code is zero' same) = inl (ap (λ (k : CallLooks). k.spoke) same)

start-spoke : (s : Setup) (l : Looks) (e : Event) (c : CallName) (b : CallRecord) → Starts s l e c b
    → b.looks.spoke ≡ l.now
start-spoke s l e c b starts =
    ⊎_elim
    (λ (o : Opens s l e c b). ap (λ (k : CallLooks). k.spoke) o.takes.is
    ∙ taken-spoke o.takes.view o.takes.got o.takes.message (fresh_call (pace_of s) l.now))
    (λ (m : IsMade s l e c b). ap (λ (k : CallLooks). k.spoke) m.looks) starts.1

-- the call that is found behind further events gave something no earlier
pub record SpokeOn (s : Setup) (h : List Event) (c : CallName) (a : CallRecord) : Type 0 where
  pub call : CallRecord
  pub there : call_at (looks s h) c ≡ Some call
  pub spoke : a.looks.spoke ≤ call.looks.spoke

spoke_step : (s : Setup) (e : Event) (h : List Event) (c : CallName) (a : CallRecord) → FitsSetup s → Legal s (e ∷ h)
    → call_at (looks s h) c ≡ Some a → SpokeOn s (e ∷ h) c a
spoke_step s e h c a fits legal there =
    of (call_at (looks s (e ∷ h)) c) refl
    (subst (λ (o : Option CallRecord). CallStep s (looks s h) e c o (call_at (looks s (e ∷ h)) c)) there
    (each_step s h e c fits legal))
  where
    past : IsPast (looks s h).now a.looks
    past = past_holds s h c a fits legal.1 there

    of : (o : Option CallRecord) → call_at (looks s (e ∷ h)) c ≡ o → CallStep s (looks s h) e c (Some a) o
        → SpokeOn s (e ∷ h) c a
    of None is step = absurd step
    of (Some b) is step =
        let low : a.looks.spoke ≤ (looks s h).now = past.spoke in
        record {
          call = b;
          there = is;
          spoke = ⊎_elim
              (λ (g : Goes s (looks s h) e c a b). ⊎_elim
              (λ (same : b.looks.spoke ≡ a.looks.spoke). omega (arith, same))
              (λ (now : b.looks.spoke ≡ (looks s h).now). omega (arith, now, low))
              (step-spoke s (looks s h) e c a.looks b.looks g.end))
              (λ (starts : Starts s (looks s h) e c b). (
              let now = start-spoke s (looks s h) e c b starts in omega (arith, now, low))) step;
        }

pub spoke_rises : (s : Setup) (later h : List Event) (c : CallName) (a : CallRecord) → FitsSetup s
    → Legal s (later ++ h) → call_at (looks s h) c ≡ Some a → SpokeOn s (later ++ h) c a
spoke_rises s [] h c a fits legal there = record { call = a; there = there; spoke = omega arith }
spoke_rises s (e ∷ later) h c a fits legal there =
    let old = spoke_rises s later h c a fits legal.1 there in
    let new = spoke_step s e (later ++ h) c old.call fits legal old.there in
    let low = old.spoke in
    let high = new.spoke in
    record { call = new.call; there = new.there; spoke = omega (arith, low, high) }
