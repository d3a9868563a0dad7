-- What handlers go by, and what they decide of a request while it is read. Public clauses cite this module.
use Rattle.std.specs.Prelude.{◌-◌, ◌&&◌, ◌||◌, not, nat_le, nat_lt, if◌then◌else◌, ℕ, ℤ, Bool, true, List, length, drop}
use Rattle.std.specs.Prelude.{slice_get, unwrap_or, Option, Some, None}
use Rattle.std.specs.Int.{w32, from_be_bytes}
use Rattle.xdr_value.specs.Data.{Procedure, Procs, Types}
use Rattle.xdr_value.specs.View.{types_of, procs_of}
use Rattle.xdr_value.specs.declared.interface.Interface.{Interface}
use Rattle.stub_table.specs.declared.codes.TheConstants.{OPCODE, SS_UNMARSHAL}
use Rattle.stub_table.specs.Requests.{RequestAnswer, whole, more_wanted, refused, request_answer}
use Rattle.rx_script.specs.Answers.{block_named, first_given}
use Rattle.rx_script.specs.Saying.{Answering, Saying, wait}
use Rattle.rx_script.specs.ScriptRows.{is_up}
use Rattle.rx_script.specs.Served.{Served, block_has, served_of}
use Rattle.rx_script.specs.declared.limits.TheConstants.{MAX_BYTES}

-- the types and procedures of an interface, and a script
pub record Handlers : Type 0 where
  pub types : Types
  pub procs : Procs
  pub script : List Answering

-- those of an interface of the code
abbrev pub handlers_of : Interface → List Answering → Handlers
handlers_of iface script =
    record { types = types_of iface.types.items; procs = procs_of iface.procs.items; script = script }

-- what a request is, of which these bytes came and, where it ended, no more will
unfoldable pub answer_to : Handlers → List ℕ → Bool → RequestAnswer
answer_to g request ended = request_answer g.types g.procs request ended

-- what is served for a request
unfoldable pub served_for : Handlers → List ℕ → Served
served_for g request = served_of g.types g.procs g.script request

-- whether requests of a procedure end with an upload
abbrev pub takes_upload : Handlers → Procedure → Bool
takes_upload g p = block_has is_up (block_named p.name g.script)

-- ---- codes that are decided while a request is read

-- the code of an upload that is too long or, where no more comes, cut short
abbrev pub upload_code : Bool → List ℕ → Option ℤ
upload_code ended rest =
    if nat_lt (length rest) 4 then (if ended then Some SS_UNMARSHAL else None)
    else if not (nat_le (from_be_bytes w32 rest) MAX_BYTES)
    || (ended && nat_lt (length rest - 4) (from_be_bytes w32 rest)) then Some SS_UNMARSHAL else None

-- the code of what stands behind the arguments of a procedure
abbrev pub behind_code : Handlers → Bool → List ℕ → Option Procedure → Option ℤ
behind_code g ended rest None = Some OPCODE
behind_code g ended rest (Some p) = if takes_upload g p then upload_code ended rest else None

-- the code of a request that was found to be so
abbrev pub early_from : Handlers → List ℕ → Bool → RequestAnswer → Option ℤ
early_from g request ended (refused c) = Some c
early_from g request ended more_wanted = None
early_from g request ended (whole index args used) =
    behind_code g ended (drop used request) (slice_get g.procs index)

-- the code of a request that can't be read, or whose upload is too long or cut short, of which these bytes came and,
-- where it ended, no more will
abbrev pub early_code : Handlers → List ℕ → Bool → Option ℤ
early_code g request ended = early_from g request ended (answer_to g request ended)

-- ---- waiting

-- the number of a line `wait`
abbrev pub turns_of : Saying → Option ℕ
turns_of (wait turns) = Some turns
turns_of _ = None

-- the number of a block's `wait`, or 0
abbrev pub block_wait : Option Answering → ℕ
block_wait None = 0
block_wait (Some b) = unwrap_or (first_given turns_of b.lines) 0

-- the same of a procedure
abbrev pub proc_wait : Handlers → Option Procedure → ℕ
proc_wait g None = 0
proc_wait g (Some p) = block_wait (block_named p.name g.script)

-- the same of a request that was found to be so
abbrev pub wait_from : Handlers → RequestAnswer → ℕ
wait_from g (whole index args used) = proc_wait g (slice_get g.procs index)
wait_from g more_wanted = 0
wait_from g (refused c) = 0

-- in which step after its end a request is answered
abbrev pub wait_of : Handlers → List ℕ → ℕ
wait_of g request = wait_from g (answer_to g request true)
