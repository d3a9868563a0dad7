-- A request that a plan writes arrives at its server. Public clauses cite this module.
use Rattle.std.specs.Prelude.{◌≡◌, ◌≢◌, ◌≤◌, ◌*◌, ◌+◌, ◌⊎◌, ℕ, ℤ, pos, List, [], ◌∷◌, ◌++◌, length, map, Option, Some}
use Rattle.std.specs.Prelude.{IsSomeAnd, slice_get, Ok}
use Rattle.rx_model.specs.declared.event.Event.{Event}
use Rattle.rx_model.specs.declared.event.Event.TheVariants as events
use Rattle.rx_model.specs.declared.event.Noted.{Noted}
use Rattle.rx_model.specs.declared.names.CallName.{CallName}
use Rattle.rx_model.specs.declared.names.Host.{Host}
use Rattle.rx_rules.specs.After.{looks}
use Rattle.rx_rules.specs.Looks.{call_at}
use Rattle.rx_rules.specs.Received.{packet_at}
use Rattle.rx_rules.specs.Sent.{Sent, piece_at, nothing_sent, after_write, after_shut}
use Rattle.rx_history.specs.Sides.{Node, side}
use Rattle.rx_script.specs.declared.plan.Numbered.{Numbered}
use Rattle.rx_script.specs.declared.plan.PlanLine.TheVariants as lines
use Rattle.rx_jobs.specs.Handlers.{Handlers}
use Rattle.rx_plan.specs.declared.call.ClientCall.{ClientCall}
use Rattle.std.specs.List.{All}
use Rattle.rx_plan.specs.Follows.{Went, Empty, Whole, RefusedAt, CutOff, EndlessIn, plan_goes}
use Rattle.rx_plan.specs.Lines.{IsWell}
use Rattle.rx_plan.specs.Promises.{plan_nodes}
use Rattle.rx_plan.specs.Stages.{Stage}
use Rattle.rx_rounds.specs.Bounds.{default_limits, pieces}

-- what a plan says whose client writes a request of at most 32 pieces by hand and shuts it, before rounds: both nodes
-- have the default limits, and one key or none
pub record WritesRequest (ls : List Numbered) (offer : List ℕ) (n : ℕ) : Type 0 where
  pub at : Host
  pub service : ℕ
  pub from : Host
  pub epoch : ℕ
  pub nonce : ℕ
  pub first : ℕ
  pub key : Option (List ℕ)
  pub says :
      map (λ l. l.what) ls
      ≡ lines.Server at service default_limits key nonce ∷ lines.Client from epoch default_limits key
      ∷ lines.Connect 1 first ∷ lines.Call 1 4 ∷ lines.Write 1 offer ∷ lines.Shut 1 ∷ lines.Rounds n ∷ []
  pub apart : at ≢ from
  pub short : length offer ≤ 45184
  pub long : 2 * pieces offer + 4 ≤ n

-- the stream of such a request
abbrev pub stream_of : List ℕ → Sent
stream_of offer = after_shut (after_write offer nothing_sent)

-- one of the server's events finishes the call with a code other than 0
abbrev pub HasRefused : List Event → CallName → Type 0
HasRefused h c =
    (later before : List Event) × (code : ℤ) × (h ≡ later ++ events.Finished c code (Ok tt) ∷ before)
    × (code ≢ pos 0)

-- the server keeps each piece of the request, as it was said
abbrev pub KeepsAll : Node → List Noted → CallName → List ℕ → Type 0
KeepsAll server h c offer =
    (k : ℕ) → 1 ≤ k → k ≤ pieces offer
    → IsSomeAnd (call_at (looks server.setup (side 0 h)) c)
    (λ r. packet_at r.looks.received.kept k ≡ Some (piece_at (stream_of offer) k))

-- the request of the one call arrived, or its handler refused it
abbrev pub RequestArrived : List Numbered → List ℕ → Stage → Type 0
RequestArrived ls offer s =
    IsSomeAnd (slice_get s.calls 0) (λ (k : ClientCall). IsSomeAnd (slice_get (plan_nodes ls) 0)
    (λ server. KeepsAll server s.history k.name offer ⊎ HasRefused (side 0 s.history) k.name))

-- by how the lines of the plan went: only want of memory, a fault of the sink, or a polling or a turn that has no end
-- stands in the way
abbrev pub ArrivesBy : List Numbered → List ℕ → Went → Type 0
ArrivesBy ls offer Empty = ⊥
ArrivesBy ls offer (Whole s) = RequestArrived ls offer s
ArrivesBy ls offer (RefusedAt line why) = ⊥
ArrivesBy ls offer CutOff = Unit {0}
ArrivesBy ls offer EndlessIn = Unit {0}

-- whatever such a plan makes
abbrev pub PlansArrive : Type 0
PlansArrive =
    (g : Handlers) (ls : List Numbered) (es : List Noted) (went : Went) (offer : List ℕ) (n : ℕ)
    → All (λ l. IsWell g l.what) ls → WritesRequest ls offer n → plan_goes g ls es went → ArrivesBy ls offer went
