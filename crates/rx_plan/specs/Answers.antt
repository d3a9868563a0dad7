-- The answer lines of a run that was whole: what became of each invoke. Public clauses cite this module.
use Rattle.std.specs.Prelude.{ℕ, List, [], ◌∷◌, ◌++◌, codes, decimal, Option, Some, None, option_map, slice_get, Bool}
use Rattle.std.specs.Prelude.{string_bytes}
use Rattle.rx_model.specs.declared.answers.End.{End}
use Rattle.rx_model.specs.declared.answers.End.TheVariants as ends
use Rattle.rx_model.specs.Text.{end_text, spaced}
use Rattle.xdr_value.specs.Data.{Procedure, Procs, Types}
use Rattle.rx_reply.specs.Replies.{reply_line, reply_says}
use Rattle.rx_script.specs.Procs.{proc_named}
use Rattle.rx_script.specs.declared.plan.Numbered.{Numbered}
use Rattle.rx_script.specs.declared.plan.PlanLine.{PlanLine}
use Rattle.rx_script.specs.declared.plan.PlanLine.TheVariants as lines
use Rattle.rx_plan.specs.Stages.{InvokedState}

-- what an invoke asked for: its procedure, and whether a download was asked for
pub record Asked : Type 0 where
  pub proc : List ℕ
  pub down : Bool

-- that of a line
abbrev pub asked_by : PlanLine → Option Asked
asked_by (lines.Invoke client cid proc up down args) = Some (record { proc = string_bytes proc; down = down })
asked_by _ = None

-- that of a line, if there is one
abbrev pub asked_of : Option Numbered → Option Asked
asked_of None = None
asked_of (Some n) = asked_by n.what

-- that of the line at a place
abbrev pub asked_at : List Numbered → ℕ → Option Asked
asked_at ls place = asked_of (slice_get ls place)

-- what a reply says of a procedure, if it says something
abbrev pub said_of : Types → Bool → List ℕ → Option Procedure → Option (List ℕ)
said_of t down reply None = None
said_of t down reply (Some p) = option_map (reply_line t p down) (reply_says t p down reply)

-- of what was asked for
abbrev pub said : Types → Procs → List ℕ → Option Asked → Option (List ℕ)
said t ps reply None = None
said t ps reply (Some a) = said_of t a.down reply (proc_named a.proc ps)

-- of a reply that was read to its end; -451 where it says nothing
abbrev pub ok_text : Option (List ℕ) → List ℕ
ok_text None = codes "bad -451"
ok_text (Some text) = spaced (codes "ok" ∷ text ∷ [])

-- what became of an invoke
abbrev pub answer_of : Option (List ℕ) → Option End → List ℕ
answer_of says None = codes "open"
answer_of says (Some ends.Ok) = ok_text says
answer_of says (Some (ends.Abort code)) = end_text (ends.Abort code)
answer_of says (Some (ends.Dead silence)) = end_text (ends.Dead silence)
answer_of says (Some (ends.Cancelled code)) = end_text (ends.Cancelled code)

-- the line of a call of which this became, with its line feed
abbrev pub line_for : ℕ → List ℕ → List ℕ
line_for call became = codes "answer #" ++ (decimal call ++ (32 ∷ (became ++ 10 ∷ [])))

-- the answer line of an invoke
abbrev pub answer_line : Types → Procs → List Numbered → InvokedState → List ℕ
answer_line t ps ls i = line_for i.call (answer_of (said t ps i.caller.reply (asked_at ls i.line)) i.caller.end)

-- those of callers, by call number
abbrev pub answer_lines : Types → Procs → List Numbered → List InvokedState → List ℕ
answer_lines t ps ls [] = []
answer_lines t ps ls (i ∷ is) = answer_line t ps ls i ++ answer_lines t ps ls is
