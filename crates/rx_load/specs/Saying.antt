-- What the history of a load says of its datagrams and its calls. Public clauses cite this module.
use Rattle.std.specs.Prelude.{◌≡◌, ◌≢◌, ◌+◌, ◌-◌, ◌^◌, min, ℕ, true, false, List, [], ◌∷◌, Option, Some, None}
use Rattle.std.specs.Prelude.{slice_get}
use Rattle.rx_model.specs.declared.answers.End.{End}
use Rattle.rx_model.specs.declared.event.Event.{Event}
use Rattle.rx_model.specs.declared.event.Event.TheVariants.{Polled}
use Rattle.rx_model.specs.declared.event.Noted.{Noted}
use Rattle.rx_model.specs.declared.names.CallName.{CallName}
use Rattle.rx_model.specs.Names.{same_name}
use Rattle.rx_rules.specs.After.{looks}
use Rattle.rx_rules.specs.Looks.{CallRecord, call_at}
use Rattle.rx_rules.specs.Setup.{is_client}
use Rattle.rx_history.specs.Sides.{Node, side}
use Rattle.rx_history.specs.Streams as streams
use Rattle.rx_plan.specs.Parts.{Came, To, Refused, Cut, Endless}
use Rattle.rx_plan.specs.Stages.{InvokedState}
use Rattle.rx_load.specs.Loads.{Load, load_nodes}
use Rattle.rx_load.specs.Summing.{count_all, count_by, counts_none, spells}
use Rattle.rx_load.specs.declared.ends.Ends.{Ends}

-- ---- datagrams

-- how many datagrams an event gave: one is given by a poll alone
abbrev pub gave : Event → ℕ
gave (Polled (Some datagram)) = 1
gave _ = 0

-- how many the polls of a history gave
abbrev pub givens : List Noted → ℕ
givens [] = 0
givens (e ∷ h) = gave e.event + givens h

-- ---- calls

-- how a call of a client ended by its history, where it did
abbrev pub end_for : Option Node → List Event → CallName → Option End
end_for None h c = None
end_for (Some n) h c = streams.end_at (looks n.setup h) c

-- what its reads gave
abbrev pub read_for : Option Node → List Event → CallName → List ℕ
read_for None h c = []
read_for (Some n) h c = streams.read (looks n.setup h) c

-- the same of the call of a caller, by a joint history
abbrev pub ended_in : List Noted → InvokedState → Option End
ended_in h i = end_for (slice_get load_nodes i.node) (side i.node h) i.caller.call

-- what its client's reads gave of it
abbrev pub read_in : List Noted → InvokedState → List ℕ
read_in h i = read_for (slice_get load_nodes i.node) (side i.node h) i.caller.call

-- how the calls of these callers ended by the history: an Ok counts where what was read spells the length of the call's
-- Body
abbrev pub ends_in : List Noted → List ℕ → List InvokedState → Ends → Ends
ends_in h bodies [] e = e
ends_in h bodies (i ∷ is) e =
    ends_in h bodies is (count_by (spells (read_in h i) (slice_get bodies i.line)) (ended_in h i) e)

-- one of these callers is this client's, and of the call
pub record IsCallers (ks : List InvokedState) (client : ℕ) (c : CallName) : Type 0 where
  pub place : ℕ
  pub caller : InvokedState
  pub there : slice_get ks place ≡ Some caller
  pub of_node : caller.node ≡ client
  pub call : caller.caller.call ≡ c

-- ---- a whole load

-- its numbers are those of its history: as many datagrams were given as polls gave; and the calls that its callers
-- found to have ended in some way are those that did, where each call of each client has a caller, and no two have one
pub record CountsHistory (h : List Noted) (l : Load) : Type 0 where
  pub given : l.tally.given ≡ min (givens h) (2 ^ 64 - 1)
  pub ends : count_all l.bodies l.net.stage.callers counts_none ≡ ends_in h l.bodies l.net.stage.callers counts_none
  pub each_call :
      (client : ℕ) (n : Node) (c : CallName) (k : CallRecord) → slice_get load_nodes client ≡ Some n
      → is_client n.setup.kind ≡ true → call_at (looks n.setup (side client h)) c ≡ Some k
      → IsCallers l.net.stage.callers client c
  pub apart :
      (i j : ℕ) (a b : InvokedState) → i ≢ j → slice_get l.net.stage.callers i ≡ Some a
      → slice_get l.net.stage.callers j ≡ Some b → a.node ≡ b.node → same_name a.caller.call b.caller.call ≡ false

-- of what a load came to
abbrev pub SaidOf : List Noted → Came Load → Type 0
SaidOf h (To l) = CountsHistory h l
SaidOf h (Refused why) = Unit {0}
SaidOf h Cut = Unit {0}
SaidOf h Endless = Unit {0}
