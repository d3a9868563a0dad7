-- An induction along the joint histories of a connection whose server starts no call anew.
use Rattle.std.proofs.Common.{◌≡◌, ◌==◌, cond, Bool, true, false, List, [], ◌∷◌, refl}
use Rattle.rx_model.specs.declared.event.Event.{Event}
use Rattle.rx_model.specs.declared.event.Noted.{Noted}
use Rattle.rx_model.specs.declared.names.CallName.{CallName}
use Rattle.rx_model.specs.Names.{connection_of}
use Rattle.rx_model.proofs.NameLaws.{same_number}
use Rattle.rx_rules.specs.After.{looks}
use Rattle.rx_rules.specs.Rules.{Legal}
use Rattle.rx_rules.specs.Setup.{Client, FitsSetup, IsServer}
use Rattle.rx_history.specs.Sides.{side}
use Rattle.rx_history.specs.Starts.{StartsOnce}
use Rattle.rx_law.specs.Worlds.{Gave, TwoEnds}
use Rattle.rx_law.proofs.Joint.{Between, Fed, between, fed-before, not-both, of_call}
use Rattle.rx_between.proofs.CameAll.{CameAll, JudgedCame}

-- what stands of a call of the connection and of both sides
pub record Stands (x : TwoEnds) (c : CallName) (cl sv : List Event) : Type 0 where
  pub client_kind : x.client_setup.kind ≡ Client x.connection.host x.connection.epoch
  pub server_kind : IsServer x.server_setup.kind
  pub client_fits : FitsSetup x.client_setup
  pub server_fits : FitsSetup x.server_setup
  pub on : connection_of c ≡ x.connection
  pub called : Legal x.client_setup cl
  pub served : Legal x.server_setup sv
  pub once : StartsOnce x.server_setup sv c
  pub both : Between (of_call x.client_setup cl c) (of_call x.server_setup sv c)

-- what comes to the client was given by the server
abbrev pub ToClient : TwoEnds → List Event → List Event → Event → Type 0
ToClient x cl sv e =
    JudgedCame x.client_setup (looks x.client_setup cl) x.connection e (λ bytes. Gave x.connection.host bytes sv)

-- and what comes to the server by the client
abbrev pub ToServer : TwoEnds → List Event → List Event → Event → Type 0
ToServer x cl sv e =
    JudgedCame x.server_setup (looks x.server_setup sv) x.connection e (λ bytes. Gave x.server_host bytes cl)

-- what an event of the client leaves
abbrev pub ClientLeaves : TwoEnds → CallName → (List Event → List Event → Type 0) → Type 0
ClientLeaves x c P =
    (cl sv : List Event) (e : Event) → Stands x c cl sv → Stands x c (e ∷ cl) sv → ToClient x cl sv e → P cl sv
    → P (e ∷ cl) sv

-- what one of the server leaves
abbrev pub ServerLeaves : TwoEnds → CallName → (List Event → List Event → Type 0) → Type 0
ServerLeaves x c P =
    (cl sv : List Event) (e : Event) → Stands x c cl sv → Stands x c cl (e ∷ sv) → ToServer x cl sv e → P cl sv
    → P cl (e ∷ sv)

module _ (x : TwoEnds) (c : CallName) (P : List Event → List Event → Type 0) (none : P [] [])
    (by_client : ClientLeaves x c P) (by_server : ServerLeaves x c P) (on : connection_of c ≡ x.connection) where
  -- an event at one of the ends, at the other, or at neither
  step : (cl sv : List Event) (e : Event) (at_c at_s : Bool) → (at_c ≡ true → at_s ≡ true → ⊥) → Stands x c cl sv
      → Stands x c (cond at_c (e ∷ cl) cl) (cond at_s (e ∷ sv) sv) → (at_s ≡ true → ToServer x cl sv e)
      → (at_c ≡ true → ToClient x cl sv e) → P cl sv → P (cond at_c (e ∷ cl) cl) (cond at_s (e ∷ sv) sv)
  step cl sv e true true apart stands behind to_s to_c held = absurd (apart refl refl)
  step cl sv e false false apart stands behind to_s to_c held = held
  step cl sv e true false apart stands behind to_s to_c held = by_client cl sv e stands behind (to_c refl) held
  step cl sv e false true apart stands behind to_s to_c held = by_server cl sv e stands behind (to_s refl) held

  pub stands_at : (h : List Noted) → Fed x h → Stands x c (side x.client h) (side x.server h)
  stands_at h f =
      record {
        client_kind = f.client_kind;
        server_kind = f.server_kind;
        client_fits = f.client_fits;
        server_fits = f.server_fits;
        on = on;
        called = f.client_legal;
        served = f.server_legal;
        once = f.once c on;
        both = between x h c f on;
      }

  -- at every moment
  pub along : (h : List Noted) → Fed x h → CameAll x h → P (side x.client h) (side x.server h)
  along [] f came = none
  along (e ∷ h) f came =
      step (side x.client h) (side x.server h) e.event (e.node == x.client) (e.node == x.server)
      (not-both x.client x.server e.node f.apart) (stands_at h (fed-before x e h f)) (stands_at (e ∷ h) f)
      (λ here. came.0 (same_number e.node x.server here)) (λ here. came.1 (same_number e.node x.client here))
      (along h (fed-before x e h f) came.2)
