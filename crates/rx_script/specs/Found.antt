-- Hosts that a set finds. No public clause cites this module.
use Rattle.std.specs.Prelude.{◌≡◌, ◌&&◌, ℕ, Bool, List, nat_eq}
use Rattle.std.specs.HashSet.{HashSet, contains}
use Rattle.std.specs.declared.hash.FoldHasher.{FoldHasher}
use Rattle.std.specs.declared.hash.BuildHasherDefault.{BuildHasherDefault}
use Rattle.rx_model.specs.declared.names.Host.{Host}
use Rattle.rx_script.specs.Hosts.{has_host}

-- two pairs are one
abbrev pub same_pair : ℕ × ℕ → ℕ × ℕ → Bool
same_pair a b = nat_eq a.0 b.0 && nat_eq a.1 b.1

-- the set has the addresses and ports of these hosts, and no others
abbrev pub AreFound : List Host → HashSet (ℕ × ℕ) (BuildHasherDefault FoldHasher) → Type 0
AreFound hosts found = (host : Host) → contains same_pair found (host.addr, host.port) ≡ has_host hosts host
