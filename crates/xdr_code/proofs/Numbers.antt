-- Numbers and their four bytes.
use Rattle.std.proofs.Common.{◌≡◌, ℕ, ℤ, zero, suc, ◌-◌, ◌^◌, ◌<◌, ◌≤◌, true, ltb, leb, refl, sym, subst, arith, inl}
use Rattle.std.proofs.Common.{inr, rules, eqb}
use lib.IntN.{pos, negsuc}
use Rattle.std.specs.Int.{w32, w64, cast_signed, cast_unsigned}
use Rattle.std.specs.Int.RustNames.{FitsSigned}
use Rattle.std.proofs.lemmas.Int.{of_z-to_z, to_z-of_z}
use Rattle.std.proofs.lemmas.Bool.{or_cases, or_left, or_right, ltb-true, lt-ltb, leb-true, le-leb}
use Rattle.xdr_value.specs.Ranges.{IsWithin}
use Rattle.xdr_value.specs.Spelling.{word, flag_spelling}
use Rattle.xdr_code.specs.NumberSets.{around, reached}

pub fits32 : (z : ℤ) → IsWithin (2 ^ 31) z → FitsSigned w32 z
fits32 (pos n) h = record { sfits = h }
fits32 (negsuc n) h = record { sfits = h }

pub fits64 : (z : ℤ) → IsWithin (2 ^ 63) z → FitsSigned w64 z
fits64 (pos n) h = record { sfits = h }
fits64 (negsuc n) h = record { sfits = h }

from_fits32 : (z : ℤ) → FitsSigned w32 z → IsWithin (2 ^ 31) z
from_fits32 (pos n) f = f.sfits
from_fits32 (negsuc n) f = f.sfits

from_fits64 : (z : ℤ) → FitsSigned w64 z → IsWithin (2 ^ 63) z
from_fits64 (pos n) f = f.sfits
from_fits64 (negsuc n) f = f.sfits

signed32 : (n : ℕ) → n < 2 ^ 32 → FitsSigned w32 (cast_signed w32 n)
signed32 n h = search rules

signed64 : (n : ℕ) → n < 2 ^ 64 → FitsSigned w64 (cast_signed w64 n)
signed64 n h = search rules

-- what four, and eight, bytes hold
pub within32 : (n : ℕ) → n < 2 ^ 32 → IsWithin (2 ^ 31) (cast_signed w32 n)
within32 n h = from_fits32 (cast_signed w32 n) (signed32 n h)

pub within64 : (n : ℕ) → n < 2 ^ 64 → IsWithin (2 ^ 63) (cast_signed w64 n)
within64 n h = from_fits64 (cast_signed w64 n) (signed64 n h)

pub back32 : (z : ℤ) → IsWithin (2 ^ 31) z → cast_signed w32 (cast_unsigned w32 z) ≡ z
back32 z h = to_z-of_z w32 z (fits32 z h)

pub back64 : (z : ℤ) → IsWithin (2 ^ 63) z → cast_signed w64 (cast_unsigned w64 z) ≡ z
back64 z h = to_z-of_z w64 z (fits64 z h)

pub word32 : (z : ℤ) → IsWithin (2 ^ 31) z → cast_unsigned w32 z < 2 ^ 32
word32 (pos n) h = omega (arith, h)
word32 (negsuc n) h = omega arith

pub word64 : (z : ℤ) → IsWithin (2 ^ 63) z → cast_unsigned w64 z < 2 ^ 64
word64 (pos n) h = omega (arith, h)
word64 (negsuc n) h = omega arith

pub wider : (m n : ℕ) (z : ℤ) → m ≤ n → IsWithin m z → IsWithin n z
wider m n (pos k) le h = omega (arith, le, h)
wider m n (negsuc k) le h = omega (arith, le, h)

-- ---- items of a range

word_within : (m : ℕ) (z : ℤ) → m ≤ 2 ^ 31 → IsWithin (2 ^ 31) z
    → reached (around m) (cast_unsigned w32 z) (cast_unsigned w32 z) ≡ true → IsWithin m z
word_within m (pos k) le h e =
    elim (or_cases (ltb k m) (leb (2 ^ 32 - m) k) e) [
      | inl a ↦ ltb-true k m a
      | inr b ↦ omega (arith, le, h, leb-true (2 ^ 32 - m) k b)
    ]
word_within m (negsuc k) le h e =
    elim (or_cases (ltb (2 ^ 32 - suc k) m) (leb (2 ^ 32 - m) (2 ^ 32 - suc k)) e) [
      | inl a ↦ omega (arith, le, h, ltb-true (2 ^ 32 - suc k) m a)
      | inr b ↦ omega (arith, le, h, leb-true (2 ^ 32 - m) (2 ^ 32 - suc k) b)
    ]

pub around_within : (m n : ℕ) → m ≤ 2 ^ 31 → n < 2 ^ 32 → reached (around m) n n ≡ true → IsWithin m (cast_signed w32 n)
around_within m n le lt e =
    word_within m (cast_signed w32 n) le (within32 n lt)
    (subst (λ (k : ℕ). reached (around m) k k ≡ true) (sym (of_z-to_z w32 n lt)) e)

pub within_around : (m : ℕ) (z : ℤ) → m ≤ 2 ^ 31 → IsWithin m z
    → reached (around m) (cast_unsigned w32 z) (cast_unsigned w32 z) ≡ true
within_around m (pos k) le h = or_left (ltb k m) (leb (2 ^ 32 - m) k) (lt-ltb k m h)
within_around m (negsuc k) le h = or_right (ltb (2 ^ 32 - suc k) m) (leb (2 ^ 32 - m) (2 ^ 32 - suc k))
    (le-leb (2 ^ 32 - m) (2 ^ 32 - suc k) (omega (arith, le, h)))

pub flag_is : (n : ℕ) → n ≤ 1 → word n ≡ flag_spelling (eqb n 1)
flag_is zero h = refl
flag_is (suc zero) h = refl
flag_is (suc (suc n)) h = absurd (omega arith)
