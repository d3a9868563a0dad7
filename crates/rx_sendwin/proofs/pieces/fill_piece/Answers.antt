use Rattle.std.proofs.Common.{◌≡◌, ◌<◌, ◌-◌, ◌+◌, ◌++◌, ◌∙◌, ℕ, [], List, map, set, get_or, sym, ap, refl, length}
use Rattle.std.proofs.Common.{arith, deque_len}
use Rattle.rx_pool.specs.Pool.{Slots}
use Rattle.rx_sendwin.specs.declared.piece.HeldPiece.{HeldPiece}
use Rattle.rx_sendwin.specs.Pieces.{seen_at, last_size}
use Rattle.rx_sendwin.proofs.PieceLaws.{has_at, givings_set, sized_set, timed_set, timed_at}
use Rattle.rx_sendwin.proofs.PieceSlots.{fill_seen, fill_keeps}
use Rattle.rx_sendwin.proofs.PieceLaws.{same_at, last_seen, last_set}
use Rattle.rx_sendwin.proofs.pieces.fill_piece.Goals as goal

-- the last piece with bytes at its end
abbrev with_more : HeldPiece → ℕ → List ℕ → HeldPiece
with_more h at bytes = record h { size = at + length bytes }

pub put-requires-clause-of : goal.put-requires-clause-of
put-requires-clause-of c =
    let hs = c.args.pieces.now.items in
    let i = c.len-place.result - 1 in
    let less : i < length hs = omega (arith, c.len-place.ensures, c.requires.some, c.args.pieces.now.ok.0) in
    c.requires.holds.of c.index.result.now.slot (has_at hs i c.index.result.now c.index.ensures less)

pub returns-clause-seen : goal.returns-clause-seen
returns-clause-seen c =
    let hs = c.args.pieces.now.items in
    let i = c.len-place.result - 1 in
    let pool = c.args.pool.now in
    let bytes = c.args.bytes.now in
    let h = c.index.result.now in
    let j = c.index_mut.result.now in
    let less : i < length hs = omega (arith, c.len-place.ensures, c.requires.some, c.args.pieces.now.ok.0) in
    let place : i ≡ deque_len c.args.pieces.now - 1 = ap (λ n. n - 1) c.len-place.ensures in
    let same : j ≡ h = same_at hs i j h c.index_mut.ensures.value c.index.ensures less in
    let g = with_more j c.args.at bytes in
    let end : i ≡ length hs - 1 = ap (λ n. n - 1) (c.len-place.ensures ∙ c.args.pieces.now.ok.0) in
    let last : c.args.at ≡ length (get_or (map (seen_at pool) hs) i []) = (
    sym c.requires.last ∙ sym (last_seen pool hs c.requires.sized c.requires.holds)
    ∙ ap (λ n. length (get_or (map (seen_at pool) hs) n [])) (sym end)) in
    ap (λ (new : Slots). map (seen_at new) (set hs i g)) c.put.ensures.written
    ∙ fill_seen pool hs i c.args.at h g bytes c.index.ensures less (ap (λ (h : HeldPiece). h.slot) same) refl last
    c.requires.sized c.requires.holds c.requires.size
    ∙ ap (λ n. set (map (seen_at pool) hs) n (get_or (map (seen_at pool) hs) n [] ++ bytes)) place

pub returns-clause-givings : goal.returns-clause-givings
returns-clause-givings c =
    let hs = c.args.pieces.now.items in
    let i = c.len-place.result - 1 in
    let j = c.index_mut.result.now in
    let less : i < length hs = omega (arith, c.len-place.ensures, c.requires.some, c.args.pieces.now.ok.0) in
    givings_set hs i j (with_more j c.args.at c.args.bytes.now) c.index_mut.ensures.value less refl

pub returns-clause-sized : goal.returns-clause-sized
returns-clause-sized c =
    let g = with_more c.index_mut.result.now c.args.at c.args.bytes.now in
    sized_set c.args.pieces.now.items (c.len-place.result - 1) g c.requires.size c.requires.sized

pub returns-clause-timed : goal.returns-clause-timed
returns-clause-timed c =
    let hs = c.args.pieces.now.items in
    let i = c.len-place.result - 1 in
    let j = c.index_mut.result.now in
    let less : i < length hs = omega (arith, c.len-place.ensures, c.requires.some, c.args.pieces.now.ok.0) in
    let g = with_more j c.args.at c.args.bytes.now in
    λ t. timed_set hs i g (timed_at hs i j c.index_mut.ensures.value less t) t

pub returns-clause-keeps : goal.returns-clause-keeps
returns-clause-keeps c =
    let hs = c.args.pieces.now.items in
    let i = c.len-place.result - 1 in
    let h = c.index.result.now in
    let j = c.index_mut.result.now in
    let less : i < length hs = omega (arith, c.len-place.ensures, c.requires.some, c.args.pieces.now.ok.0) in
    let same : j ≡ h = same_at hs i j h c.index_mut.ensures.value c.index.ensures less in
    let g = with_more j c.args.at c.args.bytes.now in
    fill_keeps c.args.pool.now c.put.new.self hs (set hs i g) i c.args.at h g c.args.bytes.now c.put.ensures.written
    refl
    c.index.ensures less (ap (λ (h : HeldPiece). h.slot) same) c.requires.holds c.requires.size

pub returns-clause-filled : goal.returns-clause-filled
returns-clause-filled c =
    let hs = c.args.pieces.now.items in
    let g = with_more c.index_mut.result.now c.args.at c.args.bytes.now in
    let end : c.len-place.result - 1 ≡ length hs - 1 = ap (λ n. n - 1) (c.len-place.ensures ∙ c.args.pieces.now.ok.0) in
    ap (λ n. last_size (set hs n g)) end ∙ last_set hs g (omega (arith, c.requires.some, c.args.pieces.now.ok.0))
