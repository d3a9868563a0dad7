-- One event of a node as a part of a run, and datagrams that it takes one after another. Public clauses cite this
-- module.
use Rattle.std.specs.Prelude.{ℕ, List}
use Rattle.rx_events.specs.Events.{IsTaken}
use Rattle.rx_model.specs.declared.event.Event.{Event}
use Rattle.rx_model.specs.declared.names.Host.{Host}
use Rattle.rx_run.specs.Parts.{One, Part, Then, To, each, ends}
use Rattle.rx_run.specs.Programs.{IsNext, Stages}

-- one event of a node, and the stage behind it
abbrev pub event : {S Step Why : Type 0} → Stages S Step → ℕ → (Event → Type 0) → S → Part Step Why S
event st node is s = Then (One (st.made node) (IsNext st s node is)) (λ e. ends (To (st.after node e s)))

-- a node takes these from a host, one after another
abbrev pub takes_all : {S Step Why : Type 0} → Stages S Step → ℕ → Host → List (List ℕ) → S → Part Step Why S
takes_all st node from bs s = each (λ b. event st node (IsTaken from b)) bs s
