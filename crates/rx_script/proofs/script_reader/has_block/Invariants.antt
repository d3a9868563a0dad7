use Rattle.std.proofs.Common.{◌≡◌, drop}
use Rattle.rx_script.specs.Saying.{blocks_of}
use Rattle.rx_script.specs.Scripts.{has_block}
use Rattle.rx_script.proofs.script_reader.has_block.Given as goal

abbrev pub invariant-loop-block : goal.invariant-loop-block
invariant-loop-block l =
    has_block (blocks_of (drop l.block-index l.done)) l.name ≡ has_block (blocks_of l.done) l.name
