-- What a line finds, and what a run keeps by it. Public clauses cite this module.
use Rattle.std.specs.Prelude.{◌≡◌, ℕ, false, true, List, Option, Some, None, Result, Ok, Err, nat_le, [], ◌∷◌, ◌++◌}
use Rattle.std.specs.Prelude.{length}
use Rattle.rx_model.specs.declared.names.CallName.{CallName}
use Rattle.rx_law.specs.Worlds.{Datagram}
use Rattle.rx_script.specs.declared.outcome.PlanWhy.{PlanWhy}
use Rattle.rx_script.specs.declared.outcome.PlanWhy.TheVariants as causes
use Rattle.rx_asks.specs.View.{caller_for}
use Rattle.rx_plan.specs.declared.limits.TheConstants.{MAX_PACKETS}
use Rattle.rx_stage.specs.declared.stop.Stop.{Stop}
use Rattle.rx_stage.specs.declared.stop.Stop.TheVariants as stops
use Rattle.rx_stage.specs.Shown.{WorldState}

-- what is looked for was found, or is refused for this cause
abbrev pub Found : {X : Type 0} → Option X → PlanWhy → Result X Stop → Type 0
Found sought why (Ok x) = sought ≡ Some x
Found sought why (Err stop) = (sought ≡ None) × (stop ≡ stops.Refused why)

-- where a name was answered, a run keeps a caller that begins
abbrev pub keeps_caller : ℕ → ℕ → List ℕ → Option CallName → WorldState → WorldState
keeps_caller node line bytes None w = w
keeps_caller node line bytes (Some name) w =
    record w {
      callers = w.callers ++ record {
        call = length w.calls;
        node = node;
        line = line;
        caller = caller_for name bytes;
      } ∷ [];
    }

-- what is kept where there is room: the datagram, if there is one; else the line is refused, or memory is wanted
abbrev pub KeepsPacket : Option Datagram → List Datagram → List Datagram → Option Stop → Type 0
KeepsPacket None old new stop = (new ≡ old) × (stop ≡ None)
KeepsPacket (Some d) old new None = (nat_le MAX_PACKETS (length old) ≡ false) × (new ≡ old ++ d ∷ [])
KeepsPacket (Some d) old new (Some stops.OutOfMemory) = Unit {0}
KeepsPacket (Some d) old new (Some (stops.Refused why)) =
    (nat_le MAX_PACKETS (length old) ≡ true) × (why ≡ causes.Bag)
KeepsPacket (Some d) old new (Some stops.SinkFault) = ⊥
KeepsPacket (Some d) old new (Some stops.Endless) = ⊥
