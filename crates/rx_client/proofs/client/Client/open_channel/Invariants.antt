use Rattle.std.proofs.Common.{◌≡◌, Some, take}
use Rattle.std.specs.Prelude.{slice_get}
use Rattle.rx_model.specs.Names.{channels_of}
use Rattle.rx_rules.specs.Looks.{ConnLooks, Looks}
use Rattle.rx_node.specs.Mirrors.{Mirrors}
use Rattle.rx_client.specs.Calling.{HasNoneOpen}
use Rattle.rx_client.proofs.client.Client.open_channel.Given as goal

abbrev pub invariant-loop-chan : goal.invariant-loop-chan
invariant-loop-chan g l =
    (m : Looks) (x : ConnLooks) → Mirrors g.C.Class.class_of l.fn.self m → slice_get m.conns l.place ≡ Some x
    → HasNoneOpen m (take l.chan (channels_of x.connection)) l.refused
