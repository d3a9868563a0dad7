use Rattle.std.proofs.Common.{◌≡◌, ◌<◌, ◌≤◌, ◌+◌, ◌↔◌, length, arith}
use Rattle.std.proofs.lemmas.Bool.Decides.{nat_tests}
use Rattle.rx_wire.specs.WireLog.{HasRoom, kept_bytes, logged_of}
use Rattle.rx_wire.proofs.LogLemmas.{room_left}
use Rattle.rx_wire.proofs.wire_log.WireLog.has_room.Goals as goal

pub returns-then-len-self : goal.returns-then-len-self
returns-then-len-self c =
    let kept = c.self.inside.kept in
    let bytes = c.self.inside.bytes in
    let room = c.self.inside.room in
    let held : kept_bytes kept.items ≡ length bytes.items = omega (arith, c.self.invariant.0, bytes.ok.0) in
    let has : HasRoom (logged_of kept.items bytes.items) room c.args.count
    ↔ ((length kept.items < room) × (length bytes.items + c.args.count ≤ room)) =
    room_left kept.items bytes.items room c.args.count held in
    rw (← c.self.view_is) (grind (arith, nat_tests, has, kept.ok.0, bytes.ok.0))

pub returns-else-len-self : goal.returns-else-len-self
returns-else-len-self c =
    let kept = c.self.inside.kept in
    let bytes = c.self.inside.bytes in
    let room = c.self.inside.room in
    let held : kept_bytes kept.items ≡ length bytes.items = omega (arith, c.self.invariant.0, bytes.ok.0) in
    let has : HasRoom (logged_of kept.items bytes.items) room c.args.count
    ↔ ((length kept.items < room) × (length bytes.items + c.args.count ≤ room)) =
    room_left kept.items bytes.items room c.args.count held in
    rw (← c.self.view_is) (grind (arith, nat_tests, has, kept.ok.0, bytes.ok.0))
