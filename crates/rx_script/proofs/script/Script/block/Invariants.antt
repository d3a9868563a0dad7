use Rattle.std.proofs.Common.{◌≡◌, drop}
use Rattle.rx_script.specs.Answers.{block_named}
use Rattle.rx_script.specs.Saying.{blocks_of}
use Rattle.rx_script.proofs.script.Script.block.Given as goal

abbrev pub invariant-loop-block : goal.invariant-loop-block
invariant-loop-block l = block_named l.name (blocks_of (drop l.block-index l.block-items))
    ≡ block_named l.name (blocks_of l.self.blocks.items)
