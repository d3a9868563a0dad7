-- Which half of a peer a datagram is for, and the numbers of nodes. Public clauses cite this module.
use Rattle.std.specs.Prelude.{◌+◌, ◌*◌, ◌||◌, if◌then◌else◌, nat_lt, ℕ, List, length, slice_index}
use Rattle.rx_model.specs.declared.wire.TheConstants.{CLIENT_INITIATED, HEADER_BYTES}
use Rattle.rx_model.specs.Message.{has_flag}
use Rattle.rx_peer.specs.declared.role.Role.{Role}
use Rattle.rx_peer.specs.declared.role.Role.TheVariants as roles

-- the served half takes what is shorter than a header or was given by a caller half, and the caller half all else
abbrev pub half_of : List ℕ → Role
half_of bytes =
    if nat_lt (length bytes) HEADER_BYTES || has_flag CLIENT_INITIATED (slice_index bytes 21) then roles.Served
    else roles.Caller

-- the node of a half of the peer with a number
abbrev pub node_of : Role → ℕ → ℕ
node_of roles.Caller i = 2 * i
node_of roles.Served i = 2 * i + 1
