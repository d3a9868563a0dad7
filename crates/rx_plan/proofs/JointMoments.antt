-- Moments of a joint history, and those of the sides of its nodes.
use Rattle.std.proofs.Common.{Bool, List, [], ap, cond, false, refl, true, ℕ, ◌++◌, ◌==◌, ◌∷◌, ◌≡◌}
use Rattle.rx_model.specs.declared.event.Event.{Event}
use Rattle.rx_model.specs.declared.event.Noted.{Noted}
use Rattle.rx_model.specs.declared.names.CallName.{CallName}
use Rattle.rx_model.proofs.NameLaws.{same_number}
use Rattle.rx_rules.specs.Rules.{Legal}
use Rattle.rx_rules.specs.Setup.{Setup}
use Rattle.rx_history.specs.Sides.{side}
use Rattle.rx_history.specs.Starts.{StartsOnce}
use Rattle.rx_law.proofs.Joint.{legal-before}
use Rattle.rx_wire.specs.Turns.{noted}
use Rattle.rx_history.proofs.Laws.EnteredLaw.{legal-before as legal_parts}

-- a moment of a joint history at which an event of a node came, with what its side was before
pub record JointAt (k : ℕ) (h : List Noted) (e : Event) (before : List Event) : Type 0 where
  pub later : List Noted
  pub past : List Noted
  pub is : h ≡ later ++ noted k e ∷ past
  pub side_is : side k past ≡ before

-- each event of a side has one
pub joint_at : (k : ℕ) (h : List Noted) (later : List Event) (e : Event) (before : List Event)
    → side k h ≡ later ++ e ∷ before → JointAt k h e before
joint_at k [] [] e before is = absurd cc
joint_at k [] (x ∷ later) e before is = absurd cc
joint_at k (n ∷ h) later e before is =
    of (n.node == k) refl later is (λ past there. joint_at k h past e before there)
  where
    more : JointAt k h e before → JointAt k (n ∷ h) e before
    more j =
        record { later = n ∷ j.later; past = j.past; is = ap (λ (es : List Noted). n ∷ es) j.is; side_is = j.side_is }

    of : (b : Bool) → (n.node == k) ≡ b → (later : List Event)
        → cond b (n.event ∷ side k h) (side k h) ≡ later ++ e ∷ before
        → ((past : List Event) → side k h ≡ past ++ e ∷ before → JointAt k h e before) → JointAt k (n ∷ h) e before
    of false other later is earlier = more (earlier later is)
    of true own (x ∷ later) is earlier = more (earlier later (let rest : side k h ≡ later ++ e ∷ before = cc in rest))
    of true own [] is earlier =
        record {
          later = [];
          past = h;
          is = λ i. record { node = same_number n.node k own i; event = (let one : n.event ≡ e = cc in one) i } ∷ h;
          side_is = cc;
        }

-- ---- earlier moments

-- the same of a side of a joint one
pub legal_cut : (s : Setup) (j : ℕ) (later now : List Noted) → Legal s (side j (later ++ now)) → Legal s (side j now)
legal_cut s j [] now legal = legal
legal_cut s j (e ∷ later) now legal =
    legal_cut s j later now (legal-before s (e.node == j) e.event (side j (later ++ now)) legal)

-- and no call started anew
pub starts_cut : (s : Setup) (c : CallName) (later now : List Noted) → StartsOnce s (side 0 (later ++ now)) c
    → StartsOnce s (side 0 now) c
starts_cut s c [] now once = once
starts_cut s c (e ∷ later) now once = starts_cut s c later now (of (e.node == 0) once)
  where
    of : (b : Bool) → StartsOnce s (cond b (e.event ∷ side 0 (later ++ now)) (side 0 (later ++ now))) c
        → StartsOnce s (side 0 (later ++ now)) c
    of true once = once.1
    of false once = once
