use Rattle.std.proofs.Common.{◌≡◌, true, false, rules}
use Rattle.rx_stage.proofs.RoundsMade.{moves_all, moves_none}
use Rattle.rx_stage.proofs.world.World.move_by.Goals as goal

pub returns-clause-plays : goal.returns-clause-plays
returns-clause-plays g c =
    let on : c.can_move.result ≡ true = search rules in
    moves_all c.args.self.now c.move_all.new.self c.args.time c.can_move.result _ _ _ c.can_move.ensures.exact on
    c.move_all.ensures.plays

pub returns-then-not-can_move-clause-plays : goal.returns-then-not-can_move-clause-plays
returns-then-not-can_move-clause-plays g c =
    let off : c.can_move.result ≡ false = search rules in
    moves_none c.args.self.now c.args.time c.can_move.result _ c.can_move.ensures.exact off
