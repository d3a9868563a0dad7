-- What a contract sees of a `DiskFiles`. Public clauses cite this module.
use Rattle.std.specs.Prelude.{ℕ}

-- the files of the system: how many reads there were, and how many of them failed
pub record DiskFilesState : Type 0 where
  pub reads : ℕ
  pub faults : ℕ
