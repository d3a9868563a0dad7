use Rattle.rx_asks.specs.declared.ask.TheConstants.{BLOCK_BYTES}
use Rattle.rx_caller.proofs.Blocks.{next_is}
use Rattle.rx_caller.proofs.calls.next_block.Goals as goal

pub returns : goal.returns
returns c = next_is c.args.accepted BLOCK_BYTES c.min-end.result c.args.request.now c.min-end.ensures
