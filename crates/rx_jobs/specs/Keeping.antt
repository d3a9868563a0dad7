-- What is kept of a request while it is read: all that can change what is served for it. Public clauses cite this
-- module.
use Rattle.std.specs.Prelude.{◌+◌, ℕ, Bool, false, if◌then◌else◌, List, take, Option, Some, None}
use Rattle.xdr_value.specs.Data.{Procedure}
use Rattle.stub_table.specs.declared.codes.TheConstants.{MAX_STREAM_BYTES}
use Rattle.stub_table.specs.Requests.{found_from, opcode_at}
use Rattle.rx_script.specs.declared.limits.TheConstants.{MAX_BYTES}
use Rattle.rx_jobs.specs.Handlers.{Handlers, takes_upload}

-- whether an upload stands behind the arguments of a procedure that was found
abbrev pub found_uploads : Handlers → Option (ℕ × Procedure) → Bool
found_uploads g None = false
found_uploads g (Some found) = takes_upload g found.1

-- the same of an opcode that is there
abbrev pub opcode_uploads : Handlers → Option (ℕ × List ℕ) → Bool
opcode_uploads g None = false
opcode_uploads g (Some x) = found_uploads g (found_from 0 x.0 g.procs)

-- whether an upload stands behind the arguments of a request that begins so
abbrev pub has_upload : Handlers → List ℕ → Bool
has_upload g request = opcode_uploads g (opcode_at request)

-- so many bytes of a request that begins so are kept at most: those that are looked at for its arguments and, where an
-- upload stands behind them, its count and its bytes
abbrev pub most_kept : Handlers → List ℕ → ℕ
most_kept g request = if has_upload g request then MAX_STREAM_BYTES + 4 + MAX_BYTES else MAX_STREAM_BYTES

-- what is kept of a request that begins so
abbrev pub kept_of : Handlers → List ℕ → List ℕ
kept_of g request = take (most_kept g request) request
