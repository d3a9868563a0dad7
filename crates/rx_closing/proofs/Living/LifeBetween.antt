-- A call that has the same life at two moments has it at each moment between, and is its channel's latest there where
-- that life lives.
use Rattle.std.proofs.Common.{◌≡◌, ◌≤◌, ◌++◌, ℕ, suc, true, List, [], ◌∷◌, Option, Some, None, refl, inl, inr, ◌∙◌, ap}
use Rattle.std.proofs.Common.{sym, subst, arith}
use Rattle.rx_model.specs.declared.event.Event.{Event}
use Rattle.rx_model.specs.declared.names.CallName.{CallName}
use Rattle.rx_rules.specs.After.{looks}
use Rattle.rx_rules.specs.Life.{Life, is_live}
use Rattle.rx_rules.specs.Looks.{CallRecord, call_at}
use Rattle.rx_rules.specs.Rules.{Legal}
use Rattle.rx_rules.specs.Setup.{FitsSetup, Setup}
use Rattle.rx_history.specs.Sides.{Node, side}
use Rattle.rx_between.specs.Told.{StartsNoneAnew}
use Rattle.rx_plan.specs.Stages.{Stage}
use Rattle.rx_closing.specs.Living.{looks_of}
use Rattle.rx_closing.proofs.Far.FarGrows.{FurtherOf, GoesOn, further_on}
use Rattle.rx_closing.proofs.Far.FarStands.{scene_fed, rank_low}
use Rattle.rx_closing.proofs.Frame.{OneOf, asked_in, rank_of, served_in}
use Rattle.rx_closing.proofs.Messages.Lasts.{live_last}
use Rattle.rx_closing.proofs.Messages.Rows.{IsLast}
use Rattle.rx_closing.proofs.Rounds.Chains.{Adds}
use Rattle.rx_history.proofs.Laws.EnteredLaw.{legal-before}
use Rattle.rx_law.proofs.Law.{side-split}

-- ---- at a node

-- what starts no call anew did so at each earlier moment
pub anew_before : (s : Setup) (later h : List Event) (c : CallName) → StartsNoneAnew s (later ++ h) c
    → StartsNoneAnew s h c
anew_before s [] h c none = none
anew_before s (e ∷ later) h c (inl client) = inl client
anew_before s (e ∷ later) h c (inr server) = anew_before s later h c (inr (server.0, server.1.1))

-- a life that goes on and comes back to what it was has stayed so
stays_so : (x y z : Life) → GoesOn x y → GoesOn y z → z ≡ x → y ≡ x
stays_so x y z (inl same) second back = same
stays_so x y z (inr later) second back =
    absurd (let low = rank_low y z second in
    let same : rank_of z ≡ rank_of x = ap rank_of back in
    let less = later.rank in omega arith)

between_of : (a b : CallRecord) (o : Option CallRecord) → FurtherOf (Some a) o → FurtherOf o (Some b)
    → b.life ≡ a.life → (m : CallRecord) × (o ≡ Some m) × (m.life ≡ a.life)
between_of a b None first second back = absurd first
between_of a b (Some m) first second back =
    (m, refl, stays_so a.life m.life b.life first.life second.life back)

module _ (s : Setup) (c : CallName) (back front h : List Event) where
  -- so has a call, whatever life that is
  pub life_within : FitsSetup s → Legal s (back ++ (front ++ h)) → StartsNoneAnew s (back ++ (front ++ h)) c
      → (a b : CallRecord) → call_at (looks s h) c ≡ Some a → call_at (looks s (back ++ (front ++ h))) c ≡ Some b
      → b.life ≡ a.life → (m : CallRecord) × (call_at (looks s (front ++ h)) c ≡ Some m) × (m.life ≡ a.life)
  life_within fits legal anew a b at_first at_last same =
      between_of a b (call_at (looks s (front ++ h)) c)
      (subst (λ (o : Option CallRecord). FurtherOf o (call_at (looks s (front ++ h)) c)) at_first
      (further_on s front h c fits (legal-before s back (front ++ h) legal) (anew_before s back (front ++ h) c anew)))
      (subst (λ (o : Option CallRecord). FurtherOf (call_at (looks s (front ++ h)) c) o) at_last
      (further_on s back (front ++ h) c fits legal anew))
      same

module _ (n : Node) (j : ℕ) (c : CallName) (s u t : Stage) where
  -- of a node's side at three stages
  pub life_at : Adds s.history u.history → Adds u.history t.history → FitsSetup n.setup
      → Legal n.setup (side j t.history) → StartsNoneAnew n.setup (side j t.history) c → (a b : CallRecord)
      → call_at (looks_of s j n) c ≡ Some a → call_at (looks_of t j n) c ≡ Some b → b.life ≡ a.life
      → (m : CallRecord) × (call_at (looks_of u j n) c ≡ Some m) × (m.life ≡ a.life)
  life_at front back fits legal anew a b at_first at_last same =
      (let r = life_within n.setup c (side j back.more) (side j front.more) (side j s.history) fits
      (subst (Legal n.setup) all legal)
      (subst (λ (es : List Event). StartsNoneAnew n.setup es c) all anew) a b at_first
      (subst (λ (es : List Event). call_at (looks n.setup es) c ≡ Some b) all at_last) same in
      (r.0, subst (λ (es : List Event). call_at (looks n.setup es) c ≡ Some r.0) (sym mid) r.1, r.2))
    where
      mid : side j u.history ≡ side j front.more ++ side j s.history
      mid = ap (side j) front.is ∙ side-split j front.more s.history

      all : side j t.history ≡ side j back.more ++ (side j front.more ++ side j s.history)
      all =
          ap (side j) back.is ∙ side-split j back.more u.history
          ∙ ap (λ (es : List Event). side j back.more ++ es) mid

-- ---- at the two ends of a call

module _ (c : CallName) (k : ℕ) (client server : Node) (t : Stage) (one : OneOf c k client server t) where
  -- the client starts no call anew, nor does the server this one
  pub client_anew_at : StartsNoneAnew client.setup (side (suc k) t.history) c
  client_anew_at = inl (c.host, c.epoch, one.client_is)

  pub server_anew_at : StartsNoneAnew server.setup (side 0 t.history) c
  server_anew_at =
      inr ((scene_fed c k client server t one).server_kind, (scene_fed c k client server t one).once c refl)

  module _ (s u : Stage) (front : Adds s.history u.history) (back : Adds u.history t.history) where
    -- the client has it as before
    pub asked_between : (a b : CallRecord) → asked_in c k client s ≡ Some a → asked_in c k client t ≡ Some b
        → b.life ≡ a.life → (m : CallRecord) × (asked_in c k client u ≡ Some m) × (m.life ≡ a.life)
    asked_between a b at_first at_last same =
        life_at client (suc k) c s u t front back (scene_fed c k client server t one).client_fits
        (scene_fed c k client server t one).client_legal client_anew_at a b at_first at_last same

    -- and so has the server
    pub served_between : (a b : CallRecord) → served_in c server s ≡ Some a → served_in c server t ≡ Some b
        → b.life ≡ a.life → (m : CallRecord) × (served_in c server u ≡ Some m) × (m.life ≡ a.life)
    served_between a b at_first at_last same =
        life_at server 0 c s u t front back (scene_fed c k client server t one).server_fits
        (scene_fed c k client server t one).server_legal server_anew_at a b at_first at_last same

    legal_at : (n : Node) (j : ℕ) → Legal n.setup (side j t.history) → Legal n.setup (side j u.history)
    legal_at n j legal =
        legal-before n.setup (side j back.more) (side j u.history)
        (subst (Legal n.setup) (ap (side j) back.is ∙ side-split j back.more u.history) legal)

    -- one that lives is its channel's latest
    pub asked_last_at : (m : CallRecord) → asked_in c k client u ≡ Some m → is_live m.life ≡ true
        → IsLast (looks_of u (suc k) client) c m
    asked_last_at m there living =
        live_last client.setup (side (suc k) u.history) c m (scene_fed c k client server t one).client_fits
        (legal_at client (suc k) (scene_fed c k client server t one).client_legal) there living

    pub served_last_at : (m : CallRecord) → served_in c server u ≡ Some m → is_live m.life ≡ true
        → IsLast (looks_of u 0 server) c m
    served_last_at m there living =
        live_last server.setup (side 0 u.history) c m (scene_fed c k client server t one).server_fits
        (legal_at server 0 (scene_fed c k client server t one).server_legal) there living
