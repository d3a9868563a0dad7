-- The answer lines of a run of a plan of peers that was whole: what became of each invoke. Public clauses cite this
-- module.
use Rattle.std.specs.Prelude.{ℕ, List, [], ◌++◌, ◌∷◌, Option, Some, None, slice_get, option_and_then, string_bytes}
use Rattle.rx_plan.specs.Answers.{Asked, answer_of, line_for, said}
use Rattle.rx_plan.specs.Stages.{InvokedState}
use Rattle.rx_script.specs.declared.plan.PeerLine.{PeerLine}
use Rattle.rx_script.specs.declared.plan.PeerLine.TheVariants as lines
use Rattle.rx_script.specs.declared.plan.PeerNumbered.{PeerNumbered}
use Rattle.xdr_value.specs.Data.{Procs, Types}

-- ---- whatever lines asked

-- the answer line of an invoke, by what the line at a place asked for
abbrev pub answer_line : Types → Procs → (ℕ → Option Asked) → InvokedState → List ℕ
answer_line t ps asked i = line_for i.call (answer_of (said t ps i.caller.reply (asked i.line)) i.caller.end)

-- those of callers, by call number
abbrev pub answer_lines : Types → Procs → (ℕ → Option Asked) → List InvokedState → List ℕ
answer_lines t ps asked [] = []
answer_lines t ps asked (i ∷ is) = answer_line t ps asked i ++ answer_lines t ps asked is

-- ---- of a plan of peers

-- what a line asked for, if it is an invoke
abbrev pub asked_by : PeerLine → Option Asked
asked_by (lines.Invoke peer cid proc up down args) = Some (record { proc = string_bytes proc; down = down })
asked_by _ = None

-- what the line at a place did
abbrev pub asked_at : List PeerNumbered → ℕ → Option Asked
asked_at ls place = option_and_then (λ l. asked_by l.what) (slice_get ls place)

-- the answer lines of a plan's callers
abbrev pub peer_answer_lines : Types → Procs → List PeerNumbered → List InvokedState → List ℕ
peer_answer_lines t ps ls is = answer_lines t ps (asked_at ls) is
