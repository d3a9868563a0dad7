-- What a poll leaves of the clients that are proved. Public clauses cite this module.
use Rattle.std.specs.Prelude.{◌≡◌, ℕ, Bool, List, map}
use Rattle.rx_rules.specs.Classes.{Class}
use Rattle.rx_rules.specs.Looks.{Looks}
use Rattle.rx_node.specs.Node.{NodeState}
use Rattle.rx_node.specs.Steps.{Dimmed}

-- which clients are proved, by the places of their connections
abbrev pub proofs_of : Looks → List Bool
proofs_of l = map (λ r. r.proved) l.conns

-- a node mirrors look-ups behind these in which no call came to life, no connection was entered, no packet 1 was kept
-- and no client was proved
pub record Polled (class : List ℕ → Class) (n : NodeState) (l : Looks) : Type 0 where
  pub dimmed : Dimmed class n l
  pub proved : proofs_of dimmed.behind ≡ proofs_of l
