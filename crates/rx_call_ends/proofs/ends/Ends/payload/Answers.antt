use Rattle.rx_call_ends.proofs.Changing.{holds_of}
use Rattle.rx_call_ends.proofs.ends.Ends.payload.Goals as goal

pub piece-requires-clause-holds : goal.piece-requires-clause-holds
piece-requires-clause-holds g c = holds_of _ c.args.key _ c.self.invariant c.at.ensures.call
