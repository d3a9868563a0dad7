-- What a write leaves of a slot.
use Rattle.std.proofs.Common.{◌≡◌, ◌≤◌, ◌+◌, ℕ, List, ◌++◌, length, take, drop, ◌∙◌}
use Rattle.std.proofs.Common.{arith, length-append}
use Rattle.std.proofs.lemmas.List.{length-take-le, length-drop, take_at}
use Rattle.rx_pool.specs.Pool.{overwrite}

pub length-overwrite : (old : List ℕ) (at : ℕ) (new : List ℕ) → at + length new ≤ length old →
    length (overwrite old at new) ≡ length old
length-overwrite old at new le =
    let front = length-take-le at old (omega (arith, le)) in
    let back = length-drop (at + length new) old in
    length-append (take at old ++ new) (drop (at + length new) old)
    ∙ omega (arith, length-append (take at old) new, front, back, le)

-- the bytes up to the end of what was written
pub take-overwrite : (old : List ℕ) (at : ℕ) (new : List ℕ) → at ≤ length old →
    take (at + length new) (overwrite old at new) ≡ take at old ++ new
take-overwrite old at new le =
    let front = length-take-le at old le in
    let size : length (take at old ++ new) ≡ at + length new = length-append (take at old) new ∙ omega (arith, front) in
    take_at (take at old ++ new) (drop (at + length new) old) (at + length new) size
