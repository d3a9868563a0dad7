-- What a contract sees of a queue. Public clauses cite this module.
use Rattle.std.specs.Prelude.{◌==◌, ℕ, Bool, List, Option, is_some}
use Rattle.std.specs.List.{list_any}
use Rattle.rx_due.specs.Book.{moment_of}

-- the keys in the order in which they came; by key, a number where it is ready
pub record QueueState : Type 0 where
  pub order : List ℕ
  pub ready : List (Option ℕ)

-- a key came
abbrev pub is_listed : QueueState → ℕ → Bool
is_listed q key = list_any (λ k. k == key) q.order

-- a key is ready
abbrev pub is_ready : QueueState → ℕ → Bool
is_ready q key = is_some (moment_of q.ready key)
