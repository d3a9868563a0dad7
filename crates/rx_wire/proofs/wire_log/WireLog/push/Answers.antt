use Rattle.std.proofs.Common.{rules, ◌≡◌, ◌<◌, ◌≤◌, ◌+◌, ◌++◌, ◌∷◌, [], length, arith, ap, ◌∙◌, vec_len, vec_capacity}
use Rattle.rx_wire.specs.WireLog.{kept_bytes, kept_count}
use Rattle.rx_wire.proofs.LogLemmas.{kept_bytes-snoc, log_after_push, room_asked}
use Rattle.rx_wire.proofs.wire_log.WireLog.push.Goals as goal

pub unwrap-requires : goal.unwrap-requires
unwrap-requires c =
    let kept = c.self.inside.kept in
    let bytes = c.self.inside.bytes in
    let room = c.self.inside.room in
    let count = length c.args.bytes.now in
    let held : kept_bytes kept.items ≡ length bytes.items = omega (arith, c.self.invariant.0, bytes.ok.0) in
    let left : (length kept.items < room) × (length bytes.items + count ≤ room) =
    room_asked kept.items bytes.items room count c.args.self.now c.self.view_is held c.requires.room in
    let free : vec_len kept < vec_capacity kept = omega (arith, left.0, kept.ok.0, c.self.invariant.3) in
    search rules

pub unwrap-requires-2 : goal.unwrap-requires-2
unwrap-requires-2 c =
    let kept = c.self.inside.kept in
    let bytes = c.self.inside.bytes in
    let room = c.self.inside.room in
    let count = length c.args.bytes.now in
    let held : kept_bytes kept.items ≡ length bytes.items = omega (arith, c.self.invariant.0, bytes.ok.0) in
    let left : (length kept.items < room) × (length bytes.items + count ≤ room) =
    room_asked kept.items bytes.items room count c.args.self.now c.self.view_is held c.requires.room in
    let free : vec_len bytes + count ≤ vec_capacity bytes = omega (arith, left.1, bytes.ok.0, c.self.invariant.4) in
    search rules

pub invariant_of-self : goal.invariant_of-self
invariant_of-self c =
    let kept = c.self.inside.kept in
    let bytes = c.self.inside.bytes in
    let room = c.self.inside.room in
    let count = length c.args.bytes.now in
    let held : kept_bytes kept.items ≡ length bytes.items = omega (arith, c.self.invariant.0, bytes.ok.0) in
    let left : (length kept.items < room) × (length bytes.items + count ≤ room) =
    room_asked kept.items bytes.items room count c.args.self.now c.self.view_is held c.requires.room in
    let kept_more : c.push.new.self.items ≡ kept.items ++ c.args.one ∷ [] = search rules in
    let more : kept_bytes c.push.new.self.items ≡ kept_bytes kept.items + kept_count c.args.one =
    ap kept_bytes kept_more ∙ kept_bytes-snoc kept.items c.args.one in
    let one_len : vec_len c.push.new.self ≡ vec_len kept + 1 = search rules in
    let bytes_len : vec_len c.extend_from_slice.new.self ≡ vec_len bytes + count = search rules in
    let kept_room : room ≤ vec_capacity c.push.new.self = omega (arith, c.push.ensures.capacity, c.self.invariant.3) in
    let bytes_room : room ≤ vec_capacity c.extend_from_slice.new.self =
    omega (arith, c.extend_from_slice.ensures.capacity, c.self.invariant.4) in (
      omega (arith, more, bytes_len, c.requires.count),
      omega (arith, one_len, left.0, kept.ok.0),
      omega (arith, bytes_len, left.1, bytes.ok.0),
      kept_room,
      bytes_room,
    )

pub returns : goal.returns
returns c =
    let kept = c.self.inside.kept in
    let bytes = c.self.inside.bytes in
    let held : kept_bytes kept.items ≡ length bytes.items = omega (arith, c.self.invariant.0, bytes.ok.0) in
    let kept_more : c.push.new.self.items ≡ kept.items ++ c.args.one ∷ [] = search rules in
    let bytes_more : c.extend_from_slice.new.self.items ≡ bytes.items ++ c.args.bytes.now = search rules in
    log_after_push kept.items c.push.new.self.items bytes.items c.extend_from_slice.new.self.items c.args.bytes.now
    c.args.one c.self.inside.room c.args.self.now c.self.view_is held c.requires.count kept_more bytes_more
