-- What became of a load, in numbers. Public clauses cite this module.
use Rattle.std.specs.Prelude.{◌+◌, ◌-◌, ◌^◌, if◌then◌else◌, min, ℕ, Bool, false, List, [], ◌∷◌, Option, Some, None}
use Rattle.std.specs.Prelude.{slice_get, bytes_eq}
use Rattle.std.specs.Int.{to_be_bytes, w32}
use Rattle.rx_model.specs.declared.answers.End.{End}
use Rattle.rx_model.specs.declared.answers.End.TheVariants as ends
use Rattle.rx_plan.specs.Stages.{InvokedState}
use Rattle.rx_load.specs.Loads.{Load}
use Rattle.rx_load.specs.declared.ends.Ends.{Ends}
use Rattle.rx_load.specs.declared.summary.Summary.{Summary}
use Rattle.rx_plan.specs.declared.tally.Tally.{Tally}

-- one more, where a count of 32 bits has room for it
abbrev pub one_up : ℕ → ℕ
one_up count = min (count + 1) (2 ^ 32 - 1)

-- none
abbrev pub counts_none : Ends
counts_none = record { ok = 0; aborted = 0; dead = 0 }

-- whether what was read of a reply spells this length
abbrev pub spells : List ℕ → Option ℕ → Bool
spells reply None = false
spells reply (Some length) = bytes_eq reply (to_be_bytes w32 length)

-- whether what the caller read spells the length of its call's Body
abbrev pub is_answered : List ℕ → InvokedState → Bool
is_answered bodies i = spells i.caller.reply (slice_get bodies i.line)

-- one Ok more, where it was answered as it has to be
abbrev pub count_ok : Bool → Ends → Ends
count_ok answered e = if answered then record e { ok = one_up e.ok } else e

-- one caller more, by how its call ended
abbrev pub count_by : Bool → Option End → Ends → Ends
count_by answered None e = e
count_by answered (Some ends.Ok) e = count_ok answered e
count_by answered (Some (ends.Abort code)) e = record e { aborted = one_up e.aborted }
count_by answered (Some (ends.Dead silence)) e = record e { dead = one_up e.dead }
count_by answered (Some (ends.Cancelled code)) e = e

-- one caller more, by the lengths of all Bodies
abbrev pub count_of : List ℕ → InvokedState → Ends → Ends
count_of bodies i e = count_by (is_answered bodies i) i.caller.end e

-- these callers more
abbrev pub count_all : List ℕ → List InvokedState → Ends → Ends
count_all bodies [] e = e
count_all bodies (i ∷ is) e = count_all bodies is (count_of bodies i e)

-- what became of so many calls that ended so
abbrev pub summed_as : ℕ → Ends → ℕ → Tally → Summary
summed_as calls e rounds t = record {
  calls = calls;
  ok = e.ok;
  aborted = e.aborted;
  dead = e.dead;
  unended = calls - e.ok - e.aborted - e.dead;
  rounds = rounds;
  given = t.given;
  lost = t.lost;
  repeated = t.repeated;
  held = t.held;
}

-- by their callers, the lengths of their Bodies, the rounds, and the datagrams
abbrev pub summed : ℕ → List InvokedState → List ℕ → ℕ → Tally → Summary
summed calls callers bodies rounds t = summed_as calls (count_all bodies callers counts_none) rounds t

-- that of a load
abbrev pub summary_of : ℕ → Load → Summary
summary_of calls l = summed calls l.net.stage.callers l.bodies l.rounds l.tally
