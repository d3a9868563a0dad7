-- How often a hole can move among n cells.
use Rattle.std.proofs.Common.{◌≡◌, ◌<◌, ◌≤◌, ◌+◌, ◌*◌, ◌^◌, ℕ, arith, inl, inr}
use Rattle.std.proofs.lemmas.Bool.{cases_lt}
use Rattle.std.proofs.lemmas.Grind.{pow_more}
use Rattle.std.proofs.Math.Nat.{pow-le-pow_right, mul-le-mul_left, le-mul_of_pos_right}
use Rattle.rx_due.specs.Heap.{IsBelow}
use Rattle.rx_due.specs.Cost.{AtMost}

-- from a cell to one below it, counted from 1, the number at least doubles at each of so many moves
pub record Levels (moves top bottom : ℕ) : Type 0 where
  pub doubles : 2 ^ moves * (top + 1) ≤ bottom + 1

twice : (moves a b c : ℕ) → 2 ^ moves * a ≤ b → 2 * b ≤ c → 2 ^ (moves + 1) * a ≤ c
twice moves a b c so most = rw pow_more (grind (arith, so, most))

-- one more move down
pub levels_down : (moves top i c : ℕ) → Levels moves top i → IsBelow i c → Levels (moves + 1) top c
levels_down moves top i c so below =
    record { doubles = twice moves (top + 1) (i + 1) (c + 1) so.doubles (omega (arith, below.from)) }

-- one more move up
pub levels_up : (moves i c bottom : ℕ) → Levels moves c bottom → IsBelow i c → Levels (moves + 1) i bottom
levels_up moves i c bottom so below =
    let less : 2 ^ moves * (2 * (i + 1)) ≤ 2 ^ moves * (c + 1) =
    mul-le-mul_left (2 ^ moves) (omega (arith, below.from)) in
    let again : 2 ^ (moves + 1) * (i + 1) ≡ 2 ^ moves * (2 * (i + 1)) = rw pow_more (grind arith) in
    record { doubles = omega (arith, less, again, so.doubles) }

-- among n cells there are fewer moves than d, where 2 * n + 1 is below 2 ^ (d + 1)
pub levels_few : (moves top bottom n d : ℕ) → Levels moves top bottom → bottom < n → 2 * n + 1 < 2 ^ (d + 1) → moves < d
levels_few moves top bottom n d so within bound =
    elim (cases_lt moves d) [
      | inl less ↦ less
      | inr more ↦ absurd (
          let big : 2 ^ d ≤ 2 ^ moves = pow-le-pow_right (omega arith) more in
          let once : 2 ^ moves ≤ 2 ^ moves * (top + 1) = le-mul_of_pos_right {m = top + 1} (2 ^ moves) (omega arith) in
          let double : 2 ^ (d + 1) ≡ 2 ^ d * 2 = pow_more 2 d in
          omega (arith, big, once, double, bound, within, so.doubles))
    ]

-- a hole moved between two cells, at no more than `per` steps each time
pub record Climbs (per top bottom old new : ℕ) : Type 0 where
  pub moves : ℕ
  pub levels : Levels moves top bottom
  pub grows : old ≤ new
  pub most : new ≤ old + per * moves

again_most : (per moves old now new : ℕ) → now ≤ old + per * moves → new ≤ now + per → new ≤ old + per * (moves + 1)
again_most per moves old now new so more =
    let next : per * (moves + 1) ≡ per * moves + per = grind arith in
    omega (arith, next, so, more)

-- it moves down once more
pub climbs_down : (per top i c old now new : ℕ) → Climbs per top i old now → IsBelow i c → AtMost per now new
    → Climbs per top c old new
climbs_down per top i c old now new so below more = record {
  moves = so.moves + 1;
  levels = levels_down so.moves top i c so.levels below;
  grows = omega (arith, so.grows, more.grows);
  most = again_most per so.moves old now new so.most more.most;
}

-- it moves up once more
pub climbs_up : (per i c bottom old now new : ℕ) → Climbs per c bottom old now → IsBelow i c → AtMost per now new
    → Climbs per i bottom old new
climbs_up per i c bottom old now new so below more = record {
  moves = so.moves + 1;
  levels = levels_up so.moves i c bottom so.levels below;
  grows = omega (arith, so.grows, more.grows);
  most = again_most per so.moves old now new so.most more.most;
}

-- with a last look, it took at most `per` steps for each level of n cells
pub climbs_most : (per top bottom n d old now new : ℕ) → Climbs per top bottom old now → bottom < n
    → 2 * n + 1 < 2 ^ (d + 1) → AtMost per now new → AtMost (per * d) old new
climbs_most per top bottom n d old now new so within bound last =
    let few = levels_few so.moves top bottom n d so.levels within bound in
    let all = again_most per so.moves old now new so.most last.most in
    let less : per * (so.moves + 1) ≤ per * d = mul-le-mul_left per (omega (arith, few)) in
    record { grows = omega (arith, so.grows, last.grows); most = omega (arith, all, less) }
