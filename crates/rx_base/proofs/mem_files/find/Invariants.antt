use Rattle.std.proofs.Common.{◌≡◌, drop}
use Rattle.rx_base.specs.Files.{contents_of}
use Rattle.rx_base.specs.MemFiles.{files_of}
use Rattle.rx_base.proofs.mem_files.find.Given as goal

-- the files that were looked at don't have the name
abbrev pub invariant-loop-name_here : goal.invariant-loop-name_here
invariant-loop-name_here l =
    contents_of (files_of l.files) l.name ≡ contents_of (files_of (drop l.name_here-index l.files)) l.name
