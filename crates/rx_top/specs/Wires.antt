-- How `serve` and `call` end, and what is said of that; and the key file that they name. Public clauses cite this
-- module.
use Rattle.std.specs.Prelude.{◌≡◌, ◌≢◌, ◌++◌, ℕ, List, [], codes, decimal, length, Option, Some, None, Result, Ok}
use Rattle.std.specs.Prelude.{Err, ⊤}
use Rattle.std.specs.Fmt.{signed_decimal}
use Rattle.std.specs.String.{string_bytes}
use Rattle.rx_base.specs.Files.{IsNoted}
use Rattle.rx_rules.specs.Classes.{Class, null, token}
use Rattle.rx_token.specs.declared.token.TheConstants.{KEY_BYTES}
use Rattle.rx_top.specs.declared.cause.Cause.{Cause}
use Rattle.rx_top.specs.declared.outcome.SimOutcome.TheVariants as inputs
use Rattle.rx_top.specs.declared.status.Status.{Status}
use Rattle.rx_top.specs.declared.status.Status.TheVariants as statuses
use Rattle.rx_top.specs.declared.wire_outcome.ArgsFault.{ArgsFault}
use Rattle.rx_top.specs.declared.wire_outcome.ArgsFault.TheVariants as faults
use Rattle.rx_top.specs.declared.wire_outcome.WireOutcome.{WireOutcome}
use Rattle.rx_top.specs.declared.wire_outcome.WireOutcome.TheVariants as outcomes
use Rattle.rx_top.specs.Endings.{memory_text, refused_text, unwritten_text}
use Rattle.rx_top.specs.Inputs.{EndsAt, Gives, ReadOne, Reads, said_of, status_of}

-- ---- outcomes

-- how the program ends, by how `serve` or `call` ended
abbrev pub wire_status : WireOutcome → Status
wire_status outcomes.Done = statuses.Ok
wire_status (outcomes.Input outcome) = status_of outcome
wire_status (outcomes.BadKey file) = statuses.Refused
wire_status (outcomes.BadArgs fault) = statuses.Refused
wire_status outcomes.BadReply = statuses.Refused
wire_status (outcomes.Aborted code) = statuses.Aborted
wire_status (outcomes.Dead silence) = statuses.Dead
wire_status outcomes.SinkFault = statuses.SinkFault
wire_status outcomes.WireFault = statuses.WireFault
wire_status (outcomes.TurnsSpent turns) = statuses.TurnsSpent
wire_status outcomes.OutOfMemory = statuses.Memory
wire_status outcomes.Unnoted = statuses.Memory

-- how the program would end by a part of `serve` or `call`: it goes on, or the part ends it
abbrev pub wire_status_in : {T : Type 0} → Result T WireOutcome → Status
wire_status_in (Ok it) = statuses.Ok
wire_status_in (Err outcome) = wire_status outcome

-- ---- what is said

-- why the arguments of a call are refused, as it is printed
abbrev pub args_why : ArgsFault → List ℕ
args_why faults.Proc = codes "proc"
args_why faults.Kind = codes "kind"
args_why faults.NotJson = codes "notjson"
args_why (faults.Mismatch path want) = codes "mismatch " ++ string_bytes path ++ codes " " ++ string_bytes want
args_why faults.Number = codes "number"
args_why (faults.Code code) = signed_decimal code

-- that they are refused
abbrev pub args_text : ArgsFault → List ℕ
args_text fault = codes "rx: args: " ++ args_why fault ++ codes "\n"

-- what `serve` or `call` says of how it ended
abbrev pub wire_said : WireOutcome → List ℕ
wire_said outcomes.Done = []
wire_said (outcomes.Input outcome) = said_of outcome
wire_said (outcomes.BadKey file) = refused_text file.now 0 (codes "key")
wire_said (outcomes.BadArgs fault) = args_text fault
wire_said outcomes.BadReply = codes "rx: reply: -451\n"
wire_said (outcomes.Aborted code) = codes "rx: aborted " ++ signed_decimal code ++ codes "\n"
wire_said (outcomes.Dead silence) = codes "rx: dead " ++ decimal silence ++ codes "\n"
wire_said outcomes.SinkFault = unwritten_text
wire_said outcomes.WireFault = codes "rx: network fault\n"
wire_said (outcomes.TurnsSpent turns) = codes "rx: turns spent " ++ decimal turns ++ codes "\n"
wire_said outcomes.OutOfMemory = memory_text
wire_said outcomes.Unnoted = memory_text

-- ---- files

-- `serve` or `call` ends at this file as `sim` would: it can't be read, or its bytes are refused so, or memory was
-- wanted
abbrev pub EndsAtInput : WireOutcome → List ℕ → (List ℕ → ℕ → Cause → Type 0) → Reads → Type 0
EndsAtInput (outcomes.Input outcome) name Bad r = EndsAt outcome name Bad r
EndsAtInput _ name Bad r = ⊥

-- the class by the key that these bytes are
abbrev pub IsClassOf : List ℕ → Class → Type 0
IsClassOf key class = (length key ≡ KEY_BYTES) × (class ≡ token key)

-- the class by the key of the named file, or the one without security where none is named
abbrev pub IsClass : Option (List (List ℕ × List ℕ)) → Option (List ℕ) → Class → Type 0
IsClass contents None class = class ≡ null
IsClass contents (Some name) class = Gives contents name (λ key. IsClassOf key class)

-- `serve` or `call` ends for a key file: it can't be read, or hasn't exactly the bytes of a key, or memory was wanted
abbrev pub EndsForKey : WireOutcome → List ℕ → Reads → Type 0
EndsForKey (outcomes.Input (inputs.FileFault file)) name r =
    (file.now ≡ name) × IsNoted r.failed_before r.failed name
EndsForKey (outcomes.BadKey file) name r =
    (file.now ≡ name) × Gives r.contents name (λ bytes. length bytes ≢ KEY_BYTES)
EndsForKey outcomes.OutOfMemory name r = ⊤
EndsForKey _ name r = ⊥

-- it reads a key file, and ends for it
abbrev pub EndsAtKey : WireOutcome → List ℕ → Reads → Type 0
EndsAtKey outcome name r = ReadOne r × EndsForKey outcome name r

-- the bytes of a key file are none of a key
abbrev pub RefusesKey : WireOutcome → List ℕ → List ℕ → Type 0
RefusesKey (outcomes.BadKey file) name bytes = (file.now ≡ name) × (length bytes ≢ KEY_BYTES)
RefusesKey _ name bytes = ⊥
