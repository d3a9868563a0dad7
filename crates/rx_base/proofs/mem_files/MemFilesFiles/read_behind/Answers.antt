use Rattle.std.proofs.Common.{rules, inl, inr}
use Rattle.rx_base.proofs.mem_files.MemFilesFiles.read_behind.Goals as goal
use Rattle.rx_base.proofs.mem_files.MemFilesFiles.read_behind.Goals.{else-not-is_planned-via-else-not-is_planned}
use Rattle.rx_base.proofs.mem_files.MemFilesFiles.read_behind.Goals.{else-not-is_planned-via-then-not-is_planned+in-None-1}

pub returns-2-clause-cause : goal.returns-2-clause-cause
returns-2-clause-cause c = elim c.else-not-is_planned.branch [
  | else-not-is_planned-via-else-not-is_planned w ↦ inl (search rules)
  | else-not-is_planned-via-then-not-is_planned+in-None-1 w ↦ inr (search rules)
]
