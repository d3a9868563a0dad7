use Rattle.rx_rounds.proofs.Clocks.GivesOrMoves.{due_gives, polled_later, quiet_moves}
use Rattle.rx_rounds.proofs.laws.clocks_move.Goals as goal

pub returns-clause-moves : goal.returns-clause-moves
returns-clause-moves c = quiet_moves

pub returns-clause-gives : goal.returns-clause-gives
returns-clause-gives c = due_gives

pub returns-clause-later : goal.returns-clause-later
returns-clause-later c = polled_later
