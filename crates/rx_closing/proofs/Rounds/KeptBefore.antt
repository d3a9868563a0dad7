-- What is promised of a whole history, that its server forgot nothing or that no datagram is old, holds at each earlier
-- moment.
use Rattle.std.proofs.Common.{◌⊎◌, ◌++◌, ℕ, suc, List, [], ◌∷◌, Option, Some, None, inl, inr, subst}
use Rattle.std.specs.Prelude.{slice_get, IfSome, IsSomeAnd}
use Rattle.rx_model.specs.declared.event.Event.{Event}
use Rattle.rx_model.specs.declared.event.Noted.{Noted}
use Rattle.rx_rules.specs.After.{looks}
use Rattle.rx_rules.specs.Rules.{Legal}
use Rattle.rx_rules.specs.Setup.{Setup, IsServer}
use Rattle.rx_history.specs.Alone.{ForgotNone}
use Rattle.rx_history.specs.Sides.{Node, side}
use Rattle.rx_history.proofs.Laws.OnceLaw.{forgot-after, served}
use Rattle.rx_law.specs.Promises.{ServerForgotNone}
use Rattle.rx_law.specs.Times.{AreFresh, GoAlike, Timely}
use Rattle.rx_law.specs.Worlds.{Sides}
use Rattle.rx_law.proofs.Law.{side-split}

-- ---- a server that forgot nothing

forgot_before : (s : Setup) (more h : List Event) → IsServer s.kind → Legal s (more ++ h) → ForgotNone s (more ++ h)
    → ForgotNone s h
forgot_before s [] h server legal none = none
forgot_before s (e ∷ more) h server legal none =
    forgot_before s more h server legal.1
    (forgot-after s (looks s (more ++ h)) e (served s.kind s (looks s (more ++ h)) e server legal.0) none)

pub forgot_none_before : (nodes : List Node) (more h : List Noted) → Sides nodes (more ++ h)
    → ServerForgotNone nodes (more ++ h) → ServerForgotNone nodes h
forgot_none_before nodes more h sides none = of (slice_get nodes 0) sides.nodes_are.server (sides.legal 0) none
  where
    of : (o : Option Node) → IsSomeAnd o (λ n. IsServer n.setup.kind)
        → IfSome o (λ n. Legal n.setup (side 0 (more ++ h))) → IfSome o (λ n. ForgotNone n.setup (side 0 (more ++ h)))
        → IfSome o (λ n. ForgotNone n.setup (side 0 h))
    of None server legal none = tt
    of (Some n) server legal none =
        forgot_before n.setup (side 0 more) (side 0 h) server (subst (Legal n.setup) (side-split 0 more h) legal)
        (subst (ForgotNone n.setup) (side-split 0 more h) none)

-- ---- no old datagrams

fresh_before : (nodes : List Node) (more h : List Noted) → AreFresh nodes (more ++ h) → AreFresh nodes h
fresh_before nodes [] h fresh = fresh
fresh_before nodes (e ∷ more) h fresh = fresh_before nodes more h fresh.1

alike_before : (server client : ℕ) (more h : List Noted) → GoAlike server client (more ++ h) → GoAlike server client h
alike_before server client [] h alike = alike
alike_before server client (e ∷ more) h alike = alike_before server client more h alike.1

pub timely_before : (nodes : List Node) (more h : List Noted) → Timely nodes (more ++ h) → Timely nodes h
timely_before nodes more h t =
    record {
      fresh = fresh_before nodes more h t.fresh;
      alike = λ k. of k (slice_get nodes (suc k)) (t.alike k);
    }
  where
    of : (k : ℕ) (o : Option Node) → IfSome o (λ n. GoAlike 0 (suc k) (more ++ h))
        → IfSome o (λ n. GoAlike 0 (suc k) h)
    of k None alike = tt
    of k (Some n) alike = alike_before 0 (suc k) more h alike

-- ---- one of both

pub kept_before : (nodes : List Node) (more h : List Noted) → Sides nodes (more ++ h)
    → ServerForgotNone nodes (more ++ h) ⊎ Timely nodes (more ++ h) → ServerForgotNone nodes h ⊎ Timely nodes h
kept_before nodes more h sides (inl none) = inl (forgot_none_before nodes more h sides none)
kept_before nodes more h sides (inr timely) = inr (timely_before nodes more h timely)
