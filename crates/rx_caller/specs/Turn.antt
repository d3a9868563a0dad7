-- What the calls of a caller change. Public clauses cite this module.
use Rattle.std.specs.Prelude.{◌≡◌, ℕ, List, Option, Some, None}
use Rattle.rx_model.specs.declared.event.Event.{Event}
use Rattle.rx_node.specs.Node.{NodeState}
use Rattle.rx_node.specs.Steps.{AnswersNode}
use Rattle.rx_rules.specs.Classes.{Class}
use Rattle.rx_asks.specs.declared.ask.Ask.{Ask}
use Rattle.rx_asks.specs.declared.ask.Ask.TheVariants as asks
use Rattle.rx_asks.specs.Asks.{Asking, IsAsked, calling, heard, next_ask}
use Rattle.rx_asks.specs.View.{CallerState}

-- a caller and its client before and after one or more calls
pub record Between : Type 0 where
  pub old : CallerState
  pub new : CallerState
  pub client_old : NodeState
  pub client_new : NodeState

-- nothing changed
abbrev pub Stays : Between → Type 0
Stays b = (b.new ≡ b.old) × (b.client_new ≡ b.client_old)

-- an event is a call that it asks, with the client's answer, and it knows what it was told
pub record Does (class : List ℕ → Class) (ask : Asking) (b : Between) (e : Event) : Type 0 where
  pub is : IsAsked ask e
  pub answered : AnswersNode class b.client_old b.client_new e
  pub told : b.new ≡ heard b.old e

-- the call is its next one
pub record Makes (class : List ℕ → Class) (limit : ℕ) (b : Between) (e : Event) : Type 0 where
  pub ask : Asking
  pub asked : (calling limit).asks b.old ≡ Some ask
  pub does : Does class ask b e

-- the event of the next call, or none where its turn is over
abbrev pub MakesNext : (List ℕ → Class) → ℕ → Between → Option Event → Type 0
MakesNext class limit b None = ((calling limit).asks b.old ≡ None) × Stays b
MakesNext class limit b (Some e) = Makes class limit b e

-- a call takes memory for bytes: an offer or a read, and neither a shut nor a cancel
abbrev pub TakesBytes : Option Ask → Type 0
TakesBytes None = ⊥
TakesBytes (Some asks.Offer) = Unit {0}
TakesBytes (Some asks.Shut) = ⊥
TakesBytes (Some asks.Read) = Unit {0}
TakesBytes (Some asks.Cancel) = ⊥

-- the next call of a caller that keeps at most so many bytes of a reply wants memory
abbrev pub CallerWants : ℕ → CallerState → Type 0
CallerWants limit v = TakesBytes (next_ask limit v)
