-- How much room there is for a stream at a node with the default limits.
use Rattle.std.proofs.Common.{◌≡◌, ◌≤◌, ◌+◌, ◌-◌, ◌*◌, ℕ, true, false, cond, min, ap, arith}
use Rattle.rx_rules.specs.CallLooks.{CallLooks, has_lead, lead}

-- up to the 32nd piece behind those that are hard acknowledged
pub room_numbers : (a o n more : ℕ) → a ≤ o → o ≤ a + 32 → 32 ≤ more → a ≤ 1000000000
    → 1412 * (o + min (min (32 - (o - a)) more) (4294967294 - o)) - n ≡ 1412 * (a + 32) - n
room_numbers a o n more known near slots small =
    let whole : o + min (min (32 - (o - a)) more) (4294967294 - o) ≡ a + 32 = omega arith in
    ap (λ (m : ℕ). 1412 * m - n) whole

pub lead_low : (k : CallLooks) → lead k ≤ 1
lead_low k = elim (has_lead k) as (λ b. cond b 1 0 ≤ 1) [ true ↦ omega arith | false ↦ omega arith ]

-- with so few slots held there are as many left
pub slots_numbers : (h l : ℕ) → h ≤ 900 → l ≤ 1 → 32 ≤ 1984 - (h - l + 0) + 1 - l
slots_numbers h l few low = omega arith
