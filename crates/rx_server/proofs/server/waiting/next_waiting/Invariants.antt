use Rattle.std.proofs.Common.{◌≡◌, length}
use Rattle.rx_rules.specs.Looks.{Looks}
use Rattle.rx_due.specs.Book.{entries_of}
use Rattle.rx_node.specs.Mirrors.{Mirrors}
use Rattle.rx_server.specs.Accepting.{Paid}
use Rattle.rx_server.specs.Server.{ReadyStand}
use Rattle.rx_server.proofs.server.waiting.next_waiting.Given as goal

abbrev pub invariant-held : goal.invariant-held
invariant-held g l =
    record {
      order : l.firsts.order ≡ l.fn.firsts.order;
      room : length l.firsts.ready ≡ length l.fn.firsts.ready;
      stands : (m : Looks) → Mirrors g.C.Class.class_of l.node m
          → ReadyStand (g.C.Class.class_of l.node.secret).challenges l.fn.firsts m
          → ReadyStand (g.C.Class.class_of l.node.secret).challenges l.firsts m;
      paid : Paid 0 l.fn.firsts.ready l.firsts.ready l.fn.steps l.steps;
    }

abbrev pub decreases-held : goal.decreases-held
decreases-held g l = entries_of l.firsts.ready
