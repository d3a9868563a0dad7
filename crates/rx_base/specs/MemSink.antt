-- What a contract sees of a `MemSink`. Public clauses cite this module.
use Rattle.std.specs.Prelude.{ℕ, List}

-- a sink in memory: the bytes put, how many it takes at most, and which puts are to fail, numbered from 1
pub record MemSinkState : Type 0 where
  pub bytes : List ℕ
  pub room : ℕ
  pub failing : List ℕ
  pub puts : ℕ
  pub faults : ℕ
