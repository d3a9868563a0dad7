-- What the answer of the code says. Public clauses cite `IsAnswered`.
use Rattle.std.specs.Prelude.{◌≡◌, Option, Some, None}
use Rattle.std.specs.Borrow.{Bor}
use Rattle.xdr_value.specs.declared.value.Value.{Value}
use Rattle.xdr_value.specs.Data.{Datum, nothing}
use Rattle.xdr_value.specs.View.{value_of, values_of}
use Rattle.rx_script.specs.declared.answers.Answer.{Answer as CodeAnswer}
use Rattle.rx_script.specs.declared.answers.Answer.TheVariants as answers
use Rattle.rx_script.specs.declared.script.ScriptLine.{ScriptLine}
use Rattle.rx_script.specs.Answers.{Answer, code, reply}
use Rattle.rx_script.specs.Saying.{Saying, saying_of}

-- a value, or none
abbrev pub maybe_value : Option (Bor Value) → Datum
maybe_value None = nothing
maybe_value (Some v) = value_of v.now

-- a line, or none
abbrev pub maybe_saying : Option (Bor ScriptLine) → Option Saying
maybe_saying None = None
maybe_saying (Some l) = Some (saying_of l.now)

-- the answer is this one
abbrev pub IsAnswered : Answer → CodeAnswer → Type 0
IsAnswered answer (answers.Code c) = answer ≡ code c
IsAnswered answer (answers.Reply values download) = answer ≡ reply (values_of values.items) download.now
