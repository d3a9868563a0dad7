-- Hosts that are taken. Public clauses cite this module.
use Rattle.std.specs.Prelude.{Bool, false, ◌||◌, List, [], ◌∷◌, Option, Some, None}
use Rattle.rx_model.specs.declared.names.Host.{Host}
use Rattle.rx_model.specs.Names.{same_host}

-- whether this is the host, where there is one
abbrev pub is_host : Option Host → Host → Bool
is_host None host = false
is_host (Some other) host = same_host other host

-- whether this is one of the hosts
abbrev pub has_host : List Host → Host → Bool
has_host [] host = false
has_host (other ∷ hosts) host = same_host other host || has_host hosts host
