-- The codes that are found while a request is read are never 0.
use Rattle.std.proofs.Common.{◌≡◌, ◌≢◌, ◌&&◌, not, ℕ, ℤ, pos, Bool, true, false, cond, List, ◌∙◌, Option, Some, None}
use Rattle.std.proofs.Common.{Ok, Err, nat_lt, nat_le, length, drop, take}
use Rattle.std.proofs.Common.{◌||◌, ◌-◌, slice_get}
use Rattle.std.specs.Int.{w32, from_be_bytes}
use Rattle.xdr_code.specs.declared.fault.Fault.TheVariants.{Deep, Short, Bad}
use Rattle.xdr_code.specs.Reading.{AtFront, parts_at, value_at}
use Rattle.xdr_value.specs.declared.levels.TheConstants.{MAX_LEVELS}
use Rattle.stub_table.specs.Streams.{parts_with}
use Rattle.stub_table.specs.declared.stream.Stream.TheVariants as streams
use Rattle.rx_script.specs.Answers.{block_named}
use Rattle.rx_script.specs.ScriptRows.{is_up}
use Rattle.rx_script.specs.ScriptRows.{is_down}
use Rattle.rx_script.specs.Served.{block_has, refusal, served_by, served_from, served_with, upload_of}
use Rattle.rx_plan.specs.Answering.{AreServable}
use Rattle.rx_plan.proofs.Replying.{served_nonzero}
use Rattle.rx_script.specs.declared.limits.TheConstants.{MAX_BYTES}
use Rattle.xdr_value.specs.Data.{Data, Procedure, Procs, Types}
use Rattle.stub_table.specs.declared.codes.TheConstants.{DECODE, MAX_STREAM_BYTES, OPCODE, SS_UNMARSHAL}
use Rattle.stub_table.specs.Requests.{RequestAnswer, args_answer, found_answer, found_from, is_open, opcode_answer}
use Rattle.stub_table.specs.Requests.{opcode_at, or_wait, refused, more_wanted, whole, request_answer}
use Rattle.rx_jobs.specs.Handlers.{Handlers, answer_to, behind_code, early_code, early_from, served_for, upload_code}

-- an answer without the code 0
abbrev pub HasNoZero : RequestAnswer → Type 0
HasNoZero (refused c) = c ≢ pos 0
HasNoZero more_wanted = Unit {0}
HasNoZero (whole index args used) = Unit {0}

wait_no_zero : (b : Bool) (c : ℤ) → c ≢ pos 0 → HasNoZero (or_wait b c)
wait_no_zero true c some = tt
wait_no_zero false c some = some

args_no_zero : (index n : ℕ) (waits : Bool) (r : AtFront Data) → HasNoZero (args_answer index n waits r)
args_no_zero index n waits (Ok x) = tt
args_no_zero index n waits (Err (Bad left why)) = λ e. cc
args_no_zero index n waits (Err Deep) = λ e. cc
args_no_zero index n waits (Err Short) = wait_no_zero waits SS_UNMARSHAL (λ e. cc)

found_no_zero : (t : Types) (n : ℕ) (waits : Bool) (bytes : List ℕ) (o : Option (ℕ × Procedure))
    → HasNoZero (found_answer t n waits bytes o)
found_no_zero t n waits bytes None = λ e. cc
found_no_zero t n waits bytes (Some found) = args_no_zero found.0 n waits
    (parts_at (value_at MAX_LEVELS t) (parts_with streams.Request found.1.params) bytes)

opcode_no_zero : (t : Types) (ps : Procs) (n : ℕ) (ended waits : Bool) (o : Option (ℕ × List ℕ))
    → HasNoZero (opcode_answer t ps n ended waits o)
opcode_no_zero t ps n ended waits None = wait_no_zero (not ended) DECODE (λ e. cc)
opcode_no_zero t ps n ended waits (Some x) = found_no_zero t n waits x.1 (found_from 0 x.0 ps)

request_no_zero : (t : Types) (ps : Procs) (bytes : List ℕ) (ended : Bool) → HasNoZero (request_answer t ps bytes ended)
request_no_zero t ps bytes ended = opcode_no_zero t ps (length (take MAX_STREAM_BYTES bytes)) ended
    (is_open (length bytes) ended) (opcode_at (take MAX_STREAM_BYTES bytes))

answer_no_zero : (g : Handlers) (request : List ℕ) (ended : Bool) → HasNoZero (answer_to g request ended)
unfolding answer_to
answer_no_zero g request ended = request_no_zero g.types g.procs request ended

some_code : (a b : ℤ) → ◌≡◌ {A = Option ℤ} (Some a) (Some b) → a ≡ b
some_code a b same = cc

upload_no_zero : (ended : Bool) (rest : List ℕ) (c : ℤ) → upload_code ended rest ≡ Some c → c ≢ pos 0
upload_no_zero ended rest c is =
    (elim (nat_lt (length rest) 4) as (λ b. cond b (cond ended (Some SS_UNMARSHAL) None)
    (cond (not (nat_le (from_be_bytes w32 rest) MAX_BYTES) ||
    (ended && nat_lt (length rest - 4) (from_be_bytes w32 rest))) (Some SS_UNMARSHAL) None) ≡ Some c → c ≢ pos 0) [
      | true ↦ by ended
      | false ↦ by (not (nat_le (from_be_bytes w32 rest) MAX_BYTES) ||
          (ended && nat_lt (length rest - 4) (from_be_bytes w32 rest)))
    ]) is
  where
    by : (b : Bool) → cond b (Some SS_UNMARSHAL) None ≡ Some c → c ≢ pos 0
    by true same = λ zero_. (let code : SS_UNMARSHAL ≡ pos 0 = some_code SS_UNMARSHAL c same ∙ zero_ in cc)
    by false same = λ zero_. cc

-- no code that is found early is 0
pub early_no_zero : (g : Handlers) (request : List ℕ) (ended : Bool) (c : ℤ) → early_code g request ended ≡ Some c
    → c ≢ pos 0
early_no_zero g request ended c is = of (answer_to g request ended) (answer_no_zero g request ended) is
  where
    behind : (rest : List ℕ) (o : Option Procedure) → behind_code g ended rest o ≡ Some c → c ≢ pos 0
    behind rest None same = λ zero_. (let code : OPCODE ≡ pos 0 = some_code OPCODE c same ∙ zero_ in cc)
    behind rest (Some p) same =
        (elim (block_has is_up (block_named p.name g.script)) as (λ b. cond b (upload_code ended rest) None ≡ Some c
        → c ≢ pos 0) [
          | true ↦ upload_no_zero ended rest c
          | false ↦ λ none zero_. cc
        ]) same

    of : (a : RequestAnswer) → HasNoZero a → early_from g request ended a ≡ Some c → c ≢ pos 0
    of (refused code) some_is same = λ zero_. some_is (some_code code c same ∙ zero_)
    of more_wanted some same = λ zero_. cc
    of (whole index args used) some same = behind (drop used request) (slice_get g.procs index) same

code_is : (a b : ℤ) → refusal a ≡ refusal b → a ≡ b
code_is a b same = cc

-- nor is one that is served
pub served_no_zero : (g : Handlers) (request : List ℕ) → AreServable g → served_for g request ≡ refusal (pos 0) → ⊥
unfolding served_for
served_no_zero g request servable is =
    of (request_answer g.types g.procs request true) (request_no_zero g.types g.procs request true) is
  where
    unmarshal : refusal SS_UNMARSHAL ≡ refusal (pos 0) → ⊥
    unmarshal same = (let zero_ : SS_UNMARSHAL ≡ pos 0 = code_is SS_UNMARSHAL (pos 0) same in cc)

    with_upload : (p : Procedure) (args : Data) (o : Option (List ℕ))
        → served_with g.types g.script p args o ≡ refusal (pos 0) → ⊥
    with_upload p args None same = unmarshal same
    with_upload p args (Some upload) same =
        served_nonzero g (record {
          proc = p;
          args = args;
          up = Some upload;
          down = block_has is_down (block_named p.name g.script);
        }) servable same

    by_procedure : (args : Data) (rest : List ℕ) (o : Option Procedure)
        → served_by g.types g.script args rest o ≡ refusal (pos 0) → ⊥
    by_procedure args rest None same = (let zero_ : OPCODE ≡ pos 0 = code_is OPCODE (pos 0) same in cc)
    by_procedure args rest (Some p) same = with_upload p args (upload_of g.script p rest) same

    of : (a : RequestAnswer) → HasNoZero a → served_from g.types g.procs g.script request a ≡ refusal (pos 0) → ⊥
    of (refused code) some same = some (code_is code (pos 0) same)
    of more_wanted some same = unmarshal same
    of (whole index args used) some same = by_procedure args (drop used request) (slice_get g.procs index) same
