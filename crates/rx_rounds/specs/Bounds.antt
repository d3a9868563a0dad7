-- How much there is to be done for a call: the pieces of its request and of what is served for it. Public clauses cite
-- this module.
use Rattle.std.specs.Prelude.{◌+◌, ℕ, true, List, length}
use Rattle.rx_model.specs.declared.names.Limits.{Limits}
use Rattle.rx_model.specs.declared.wire.TheConstants.{DEFAULT_CALLS, DEFAULT_CONNS, DEFAULT_SLOTS, DEFAULT_WINDOW}
use Rattle.rx_rules.specs.Sent.{pieces_by}
use Rattle.rx_script.specs.Served.{Served, refusal, bytes}
use Rattle.rx_jobs.specs.Handlers.{Handlers, served_for}

-- the limits of a node whose line names none
abbrev pub default_limits : Limits
default_limits =
    record { conns = DEFAULT_CONNS; calls = DEFAULT_CALLS; slots = DEFAULT_SLOTS; window = DEFAULT_WINDOW }

-- the pieces of these bytes as a whole stream
abbrev pub pieces : List ℕ → ℕ
pieces said = pieces_by (length said) true

-- those of the reply that is served; a code has none
abbrev pub served_pieces : Served → ℕ
served_pieces (refusal code) = 0
served_pieces (bytes reply) = pieces reply

-- the pieces of a request and of what is served for it
abbrev pub both_pieces : Handlers → List ℕ → ℕ
both_pieces g request = pieces request + served_pieces (served_for g request)
