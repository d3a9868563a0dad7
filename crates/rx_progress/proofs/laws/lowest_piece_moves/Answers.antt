use Rattle.rx_progress.proofs.LawsMoves.{moves_held, moves_in_world, moves_once}
use Rattle.rx_progress.proofs.laws.lowest_piece_moves.Goals as goal

pub returns : goal.returns
returns c = record { once = moves_once; held = moves_held; world = moves_in_world }
