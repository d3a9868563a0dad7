-- A node that answers an event as the rules do stands then for the history with it.
use Rattle.std.proofs.Common.{◌≡◌, ℕ, List, ◌∷◌, sym, subst}
use Rattle.rx_model.specs.declared.event.Event.{Event}
use Rattle.rx_model.specs.declared.names.Host.{Host}
use Rattle.rx_rules.specs.After.{after, looks}
use Rattle.rx_rules.specs.Classes.{Class}
use Rattle.rx_rules.specs.Looks.{Looks}
use Rattle.rx_rules.specs.Rules.{Allowed, AllowedAt, AllowedClient, Legal}
use Rattle.rx_rules.specs.Setup.{Setup, Kind, Client, FitsSetup}
use Rattle.rx_node.specs.Mirrors.{Mirrors}
use Rattle.rx_node.specs.Node.{KeepsSetup, NodeState, setup_of}
use Rattle.rx_node.specs.Steps.{AnswersNode, StandsNode}
use Rattle.rx_client.specs.Client.{IsCalling}

-- what the rules allow a client
pub allowed_client : (class : List ℕ → Class) (n : NodeState) (host : Host) (epoch : ℕ) (l : Looks) (e : Event)
    → n.kind ≡ Client host epoch → AllowedClient (setup_of class n) host epoch l e → Allowed (setup_of class n) l e
allowed_client class n host epoch l e kind allowed =
    subst (λ (k : Kind). AllowedAt k (setup_of class n) l e) (sym kind) allowed

-- a node that was set up as before
pub kept_setups : (class : List ℕ → Class) (old new : NodeState) → KeepsSetup old new
    → setup_of class new ≡ setup_of class old
kept_setups class old new kept =
    λ i. record { kind = kept.kind i; limits = kept.limits i; prompt = kept.prompt i; class = class (kept.secret i) }

module _ (class : List ℕ → Class) (old new : NodeState) (e : Event)
    (same : setup_of class new ≡ setup_of class old) where
  -- it is allowed, and mirrored where it is
  pub answers_by : ((h : List Event) → StandsNode class old h
      → Allowed (setup_of class old) (looks (setup_of class old) h) e)
      → ((h : List Event) → StandsNode class old h → Legal (setup_of class old) (e ∷ h)
      → Mirrors class new (after (setup_of class old) e (looks (setup_of class old) h)))
      → AnswersNode class old new e
  answers_by allows mirrors h stands =
      let allowed = allows h stands in
      let legal : Legal (setup_of class old) (e ∷ h) = (allowed, stands.legal) in (
        allowed,
        record {
          legal = subst (λ (s : Setup). Legal s (e ∷ h)) (sym same) legal;
          mirrors = subst (λ (s : Setup). Mirrors class new (looks s (e ∷ h))) (sym same) (mirrors h stands legal);
        },
      )

  -- what a client keeps true
  pub calling_on : AnswersNode class old new e → IsCalling class old → IsCalling class new
  calling_on answers c =
      record {
        fits = subst (λ (s : Setup). FitsSetup s) (sym same) c.fits;
        history = e ∷ c.history;
        stands = (answers c.history c.stands).1;
      }
