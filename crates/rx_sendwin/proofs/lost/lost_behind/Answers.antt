use Rattle.std.proofs.Common.{◌-◌, refl, sym}
use Rattle.rx_sendwin.specs.Lost.{order_in}
use Rattle.rx_sendwin.proofs.LostPlain.{lost_plain}
use Rattle.rx_sendwin.proofs.lost.lost_behind.Goals as goal

pub returns-then-all : goal.returns-then-all
returns-then-all c =
    lost_plain c.args.acked c.args.given c.args.since (c.args.given - c.args.acked) c.args.soft.now
    (order_in c.args.pieces.now.items) c.requires.acked (sym (c.requires.flight c.if-all.true)) refl
    (c.requires.later c.if-all.true)
