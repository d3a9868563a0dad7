use Rattle.std.proofs.Common.{◌≡◌, ◌+◌, ◌*◌, Some}
use Rattle.std.specs.Prelude.{slice_get}
use Rattle.rx_rules.specs.Life.{after_code}
use Rattle.rx_rules.specs.Looks.{ConnLooks, Looks, on_calls}
use Rattle.rx_node.specs.Mirrors.{Mirrors}
use Rattle.rx_node.specs.Moments.{PlacesSame}
use Rattle.rx_node.specs.Node.{KeepsNode}
use Rattle.rx_node.proofs.CallLoops.{change_among}
use Rattle.rx_node.proofs.node.Node.reach_all.Given as goal

abbrev pub invariant-loop-chan : goal.invariant-loop-chan
invariant-loop-chan g l =
    record {
      stopped : (m : Looks) (x : ConnLooks) → Mirrors g.C.Class.class_of l.fn.self m
          → slice_get m.conns l.place ≡ Some x
          → Mirrors g.C.Class.class_of l.self
          (on_calls (change_among (4 * l.place) (4 * l.place + l.chan)
          (λ k. record k { life = after_code l.code k.life }) m) m);
      places : PlacesSame l.fn.self l.self l.place;
      same : KeepsNode l.fn.self l.self;
    }
