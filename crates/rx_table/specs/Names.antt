-- The names of connections as keys of the index. No public clause cites this module.
use Rattle.std.specs.Prelude.{◌==◌, ◌&&◌, ℕ, Bool, List, Option}
use Rattle.std.specs.Map.{lookup}
use Rattle.rx_model.specs.Names.{Connection}
use Rattle.rx_table.specs.declared.key.Key.{Key}

-- the key of a connection
abbrev pub key_of : Connection → Key
key_of x = record { addr = x.host.addr; port = x.host.port; epoch = x.epoch; cid = x.cid }

-- whether two keys are one
abbrev pub same_key : Key → Key → Bool
same_key a b = (a.addr == b.addr) && ((a.port == b.port) && ((a.epoch == b.epoch) && (a.cid == b.cid)))

-- the place that an index has under a key
abbrev pub place_under : List (Key × ℕ) → Key → Option ℕ
place_under entries key = lookup (same_key key) entries
