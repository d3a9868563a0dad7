-- Packets that are kept once each: above a number there are no more than between it and the greatest.
use Rattle.std.proofs.Common.{◌≡◌, ◌≤◌, ◌+◌, ◌==◌, ℕ, zero, suc, cond, is_some, Bool, true, false, List, [], ◌∷◌, Some}
use Rattle.std.proofs.Common.{refl, subst, arith}
use Rattle.std.proofs.lemmas.Bool.Decides.{nat_tests}
use Rattle.rx_model.proofs.NameLaws.{same_number}
use Rattle.rx_rules.specs.Received.{Packet, count_above, greatest, packet_at}

-- none is kept twice
abbrev pub OnceEach : List Packet → Type 0
OnceEach [] = Unit {0}
OnceEach (p ∷ ps) = (is_some (packet_at ps p.seq) ≡ false) × OnceEach ps

-- where the next number isn't kept, as many are above it
next_away : (ps : List Packet) (low : ℕ) → is_some (packet_at ps (suc low)) ≡ false
    → count_above low ps ≤ count_above (suc low) ps
next_away [] low away = omega arith
next_away (p ∷ ps) low away = by (λ rest. next_away ps low rest) (p.seq == suc low) refl away
  where
    by : (is_some (packet_at ps (suc low)) ≡ false → count_above low ps ≤ count_above (suc low) ps)
        → (b : Bool) → (p.seq == suc low) ≡ b → is_some (cond b (Some p.piece) (packet_at ps (suc low))) ≡ false
        → count_above low (p ∷ ps) ≤ count_above (suc low) (p ∷ ps)
    by again true same none = absurd cc
    by again false other none = (let rest = again none in grind (arith, nat_tests))

-- one more at most is above a number than above the next
one_between : (ps : List Packet) (low : ℕ) → OnceEach ps → count_above low ps ≤ suc (count_above (suc low) ps)
one_between [] low once = omega arith
one_between (p ∷ ps) low once = by (one_between ps low once.1) (p.seq == suc low) refl
  where
    by : count_above low ps ≤ suc (count_above (suc low) ps) → (b : Bool) → (p.seq == suc low) ≡ b
        → count_above low (p ∷ ps) ≤ suc (count_above (suc low) (p ∷ ps))
    by rest true same =
        let is : p.seq ≡ suc low = same_number p.seq (suc low) same in
        let none = next_away ps low (subst (λ (k : ℕ). is_some (packet_at ps k) ≡ false) is once.0) in
        grind (arith, nat_tests)
    by rest false other = grind (arith, nat_tests)

none_past : (ps : List Packet) (low : ℕ) → greatest ps ≤ low → count_above low ps ≤ 0
none_past [] low top = omega arith
none_past (p ∷ ps) low top =
    let rest = none_past ps low (omega (arith, top)) in
    let under : p.seq ≤ low = omega (arith, top) in
    grind (arith, nat_tests)

-- so many at most are above a number, as the greatest is
pub count_within : (wide : ℕ) (ps : List Packet) (low : ℕ) → OnceEach ps → greatest ps ≤ low + wide
    → count_above low ps ≤ wide
count_within zero ps low once top = none_past ps low (omega (arith, top))
count_within (suc wide) ps low once top =
    let rest = count_within wide ps (suc low) once (omega (arith, top)) in
    let one = one_between ps low once in
    omega (arith, rest, one)
