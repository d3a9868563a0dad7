use Rattle.std.proofs.Common.{◌≡◌, ◌∙◌, [], ℕ, subst, sym, ap, Option, Some, None, MatchOption, length, List}
use Rattle.rx_pool.specs.Pool.{Slots, Takes}
use Rattle.rx_sendwin.specs.declared.piece.HeldPiece.{HeldPiece}
use Rattle.rx_sendwin.specs.Pieces.{last_size, AllSized, AllTimed}
use Rattle.rx_sendwin.proofs.PieceLaws.{sized_push, timed_push, last_push}
use Rattle.rx_sendwin.proofs.PieceSlots.{push_seen, push_keeps}
use Rattle.rx_sendwin.proofs.pieces.push_piece.Goals as goal

-- the piece that is pushed
abbrev new_piece : ℕ → List ℕ → HeldPiece
new_piece slot bytes = record { slot = slot; size = length bytes; given = None }

-- the slot that was got
taken : (old new : Slots) (o : Option ℕ) (slot : ℕ) → o ≡ Some slot →
    MatchOption o (old.free ≡ []) (λ s. Takes old new s) → Takes old new slot
taken old new o slot is t = subst (λ (o : Option ℕ). MatchOption o (old.free ≡ []) (λ s. Takes old new s)) is t

pub returns-clause-seen : goal.returns-clause-seen
returns-clause-seen c =
    let pool = c.args.pool.now in
    let slot = c.unwrap-slot.result in
    let t = taken pool c.get.new.self _ slot c.unwrap-slot.ensures c.get.ensures.taken in
    push_seen pool c.get.new.self c.put.new.self c.args.pieces.now.items c.push_back_reserved.new.self.items slot None
    c.args.bytes.now c.put.ensures.written c.push_back_reserved.ensures.items t c.requires.holds c.requires.size

pub returns-clause-sized : goal.returns-clause-sized
returns-clause-sized c =
    let h = new_piece c.unwrap-slot.result c.args.bytes.now in
    λ s. subst AllSized (sym c.push_back_reserved.ensures.items)
    (sized_push c.args.pieces.now.items h c.requires.size s)

pub returns-clause-timed : goal.returns-clause-timed
returns-clause-timed c =
    let h = new_piece c.unwrap-slot.result c.args.bytes.now in
    λ t. subst AllTimed (sym c.push_back_reserved.ensures.items) (timed_push c.args.pieces.now.items h tt t)

pub returns-clause-keeps : goal.returns-clause-keeps
returns-clause-keeps c =
    let pool = c.args.pool.now in
    let slot = c.unwrap-slot.result in
    let t = taken pool c.get.new.self _ slot c.unwrap-slot.ensures c.get.ensures.taken in
    let h = new_piece slot c.args.bytes.now in
    push_keeps pool c.get.new.self c.put.new.self c.args.pieces.now.items c.push_back_reserved.new.self.items h
    c.args.bytes.now c.put.ensures.written c.push_back_reserved.ensures.items t c.requires.holds c.requires.size

pub returns-clause-filled : goal.returns-clause-filled
returns-clause-filled c =
    let h = new_piece c.unwrap-slot.result c.args.bytes.now in
    ap last_size c.push_back_reserved.ensures.items ∙ last_push c.args.pieces.now.items h
