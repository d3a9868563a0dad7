-- Callers of clients, and the sides of nodes behind an event.
use Rattle.std.proofs.Common.{◌≡◌, ◌≢◌, ◌==◌, cond, ℕ, suc, zero, Bool, true, false, List, [], ◌∷◌}
use Rattle.std.proofs.Common.{set, Option, Some, None, Ok, refl, ap, sym, subst}
use Rattle.std.proofs.Common.{slice_get, IsSomeAnd}
use Rattle.rx_model.specs.declared.answers.ReadGot.TheVariants as readers
use Rattle.rx_model.specs.declared.answers.WroteGot.TheVariants as writers
use Rattle.rx_model.specs.declared.event.Event.{Event}
use Rattle.rx_model.specs.declared.event.Event.TheVariants as events
use Rattle.rx_model.specs.declared.event.Noted.{Noted}
use Rattle.rx_model.specs.declared.names.CallName.{CallName}
use Rattle.rx_model.specs.declared.names.Host.{Host}
use Rattle.rx_model.specs.Names.{same_name}
use Rattle.rx_model.proofs.NameLaws.{number_itself, same_number}
use Rattle.rx_rules.specs.After.{looks}
use Rattle.rx_rules.specs.Rules.{Allowed, AllowedAt}
use Rattle.rx_rules.specs.Setup.{Kind, Server, Client, IsServer}
use Rattle.rx_history.specs.Sides.{Node, side}
use Rattle.rx_law.specs.Worlds.{AreNodes}
use Rattle.rx_law.proofs.World.{and-some}
use Rattle.rx_asks.specs.Asks.{Asking, Cancels, IsAsked, Offers, Reads, Shuts, heard}
use Rattle.rx_asks.specs.History.{LeavesCall}
use Rattle.rx_asks.specs.View.{CallerState}
use Rattle.rx_asks.proofs.Asked.{call_in}
use Rattle.rx_events.specs.Joint.{IsAllowedAt}
use Rattle.rx_wire.specs.Turns.{noted}
use Rattle.rx_plan.proofs.Handling.{IsQuiet}

-- ---- a client's node

-- a client that is there, by its kind
pub record IsClientNode (nodes : List Node) (node : ℕ) : Type 0 where
  pub client : Node
  pub there : slice_get nodes node ≡ Some client
  pub host : Host
  pub epoch : ℕ
  pub kind : client.setup.kind ≡ Client host epoch

-- who may answer a call is one
pub called_by : (nodes : List Node) (node cid : ℕ) (c : CallName) (h : List Noted)
    → IsAllowedAt nodes h node (events.Called cid (Ok c)) → IsClientNode nodes node
called_by nodes node cid c h allowed = of (slice_get nodes node) refl allowed
  where
    of : (o : Option Node) → slice_get nodes node ≡ o
        → IsSomeAnd o (λ n. Allowed n.setup (looks n.setup (side node h)) (events.Called cid (Ok c)))
        → IsClientNode nodes node
    of None there allowed = elim allowed [ ]
    of (Some n) there allowed = by n.setup.kind refl allowed
      where
        by : (kind : Kind) → n.setup.kind ≡ kind
            → AllowedAt kind n.setup (looks n.setup (side node h)) (events.Called cid (Ok c)) → IsClientNode nodes node
        by (Server service nonces) is allowed = absurd allowed
        by (Client host epoch) is allowed =
            record { client = n; there = there; host = host; epoch = epoch; kind = is }

-- it isn't the server
pub client_apart : (nodes : List Node) (node : ℕ) → AreNodes nodes → IsClientNode nodes node → node ≢ 0
client_apart nodes node are k first =
    by k.client.setup.kind k.kind
    (and-some (slice_get nodes 0) k.client (λ n. IsServer n.setup.kind)
    (subst (λ (j : ℕ). slice_get nodes j ≡ Some k.client) first k.there) are.server)
  where
    by : (kind : Kind) → kind ≡ Client k.host k.epoch → IsServer kind → ⊥
    by (Server service nonces) is server = absurd cc
    by (Client host epoch) is server = server

-- ---- sides behind an event

pub side_own : (node : ℕ) (e : Event) (h : List Noted) → side node (noted node e ∷ h) ≡ e ∷ side node h
side_own node e h = ap (λ (b : Bool). cond b (e ∷ side node h) (side node h)) (number_itself node)

pub side_other : (node other : ℕ) (e : Event) (h : List Noted) → other ≢ node
    → side node (noted other e ∷ h) ≡ side node h
side_other node other e h apart = by (other == node) refl
  where
    by : (b : Bool) → (other == node) ≡ b → cond b (e ∷ side node h) (side node h) ≡ side node h
    by true same = absurd (apart (same_number other node same))
    by false differ = refl

-- what is so of a side and stays so behind the event is so behind it
pub side_by : (P : List Event → Type 0) (node other : ℕ) (e : Event) (h : List Noted)
    → (other ≡ node → P (side node h) → P (e ∷ side node h)) → P (side node h) → P (side node (noted other e ∷ h))
side_by P node other e h more so = by (other == node) refl
  where
    by : (b : Bool) → (other == node) ≡ b → P (cond b (e ∷ side node h) (side node h))
    by true same = more (same_number other node same) so
    by false differ = so

-- ---- a caller

pub quiet_leaves : (c : CallName) (e : Event) → IsQuiet e → LeavesCall c e
quiet_leaves c (events.Wrote d offered got bytes) quiet = absurd quiet
quiet_leaves c (events.Shut d got) quiet = absurd quiet
quiet_leaves c (events.HasRead d max got bytes) quiet = absurd quiet
quiet_leaves c _ quiet = tt

-- what another caller asks leaves its call
pub asked_leaves : (c : CallName) (a : Asking) (e : Event) → IsAsked a e → same_name c (call_in a) ≡ false
    → LeavesCall c e
asked_leaves c (Offers d block) (events.Wrote call offered (writers.Client got) bytes) is other =
    subst (λ (n : CallName). same_name c n ≡ false) (sym is.0) other
asked_leaves c (Offers d block) e is other = elim is [ ]
asked_leaves c (Shuts d) (events.Shut call got) is other =
    subst (λ (n : CallName). same_name c n ≡ false) (sym is) other
asked_leaves c (Shuts d) e is other = elim is [ ]
asked_leaves c (Reads d max) (events.HasRead call most (readers.Client got) bytes) is other =
    subst (λ (n : CallName). same_name c n ≡ false) (sym is.0) other
asked_leaves c (Reads d max) e is other = elim is [ ]
asked_leaves c (Cancels d code) (events.Cancelled call told got) is other = tt
asked_leaves c (Cancels d code) e is other = elim is [ ]

-- it keeps its call
pub heard_call : (v : CallerState) (e : Event) → (heard v e).call ≡ v.call
heard_call v (events.HasRead c max (readers.Client got) bytes) = refl
heard_call v (events.HasRead c max (readers.Server got) bytes) = refl
heard_call v (events.Wrote c offered got bytes) = refl
heard_call v (events.Shut c got) = refl
heard_call v (events.Cancelled c code got) = refl
heard_call v _ = refl

-- ---- a list with a changed place

pub set_other : {X : Type 0} (xs : List X) (m n : ℕ) (x : X) → m ≢ n → slice_get (set xs m x) n ≡ slice_get xs n
set_other [] m n x apart = refl
set_other (z ∷ xs) zero zero x apart = absurd (apart refl)
set_other (z ∷ xs) zero (suc n) x apart = refl
set_other (z ∷ xs) (suc m) zero x apart = refl
set_other (z ∷ xs) (suc m) (suc n) x apart = set_other xs m n x (λ same. apart (ap suc same))

pub one_is : {X : Type 0} (a b : X) → Some a ≡ Some b → a ≡ b
one_is a b is = cc
