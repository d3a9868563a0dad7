-- Why a server tells a client's call a code that its handler didn't end with: nothing was heard of the call for too
-- long, or the two don't have one key. Public clauses cite this module.
use Rattle.std.specs.Prelude.{◌≡◌, ◌≢◌, ◌⊎◌, ℕ, true, List, [], ◌∷◌, Option, Some, None, IsSomeAnd, option_and_then}
use Rattle.std.specs.Prelude.{slice_get}
use Rattle.rx_model.specs.declared.event.Event.{Event}
use Rattle.rx_model.specs.declared.event.Event.TheVariants as events
use Rattle.rx_model.specs.declared.names.CallName.{CallName}
use Rattle.rx_rules.specs.After.{looks}
use Rattle.rx_rules.specs.Looks.{Looks, call_at}
use Rattle.rx_rules.specs.Records.{is_silent}
use Rattle.rx_rules.specs.Setup.{Setup}
use Rattle.rx_script.specs.declared.plan.Numbered.{Numbered}
use Rattle.rx_script.specs.declared.plan.PlanLine.{PlanLine}
use Rattle.rx_script.specs.declared.plan.PlanLine.TheVariants as lines

-- ---- silence

-- a poll when nothing was heard of the call for too long
abbrev pub Silences : Looks → CallName → Event → Type 0
Silences l c (events.Polled got) = IsSomeAnd (call_at l c) (λ k. is_silent l.now k ≡ true)
Silences l c _ = ⊥

-- one of the events is one
abbrev pub IsSilenced : Setup → List Event → CallName → Type 0
IsSilenced s [] c = ⊥
IsSilenced s (e ∷ h) c = Silences (looks s h) c e ⊎ IsSilenced s h c

-- ---- keys

-- the key of the node that a line makes, if it names one
abbrev pub key_of : PlanLine → Option (List ℕ)
key_of (lines.Server host service limits key nonce) = key
key_of (lines.Client host epoch limits key) = key
key_of _ = None

-- the key of a node of a plan, whose first lines make its nodes, each one: that of the line at the node's number
abbrev pub key_at : List Numbered → ℕ → Option (List ℕ)
key_at ls node = option_and_then (λ l. key_of l.what) (slice_get ls node)

-- both have a key, and the keys differ
abbrev pub HaveOtherKeys : Option (List ℕ) → Option (List ℕ) → Type 0
HaveOtherKeys (Some a) (Some b) = a ≢ b
HaveOtherKeys (Some a) None = ⊥
HaveOtherKeys None (Some b) = ⊥
HaveOtherKeys None None = ⊥

-- one of the two has a key, and the other has none
abbrev pub OneHasKey : Option (List ℕ) → Option (List ℕ) → Type 0
OneHasKey (Some a) None = Unit {0}
OneHasKey None (Some b) = Unit {0}
OneHasKey (Some a) (Some b) = ⊥
OneHasKey None None = ⊥
