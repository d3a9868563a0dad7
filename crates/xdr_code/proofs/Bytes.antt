-- Lists of bytes, and numbers at the front of them.
use Rattle.std.proofs.Common.{◌≡◌, ℕ, zero, suc, ◌+◌, ◌^◌, ◌<◌, ◌≤◌, List, [], ◌∷◌, ◌++◌, length, take, drop, replicate}
use Rattle.std.proofs.Common.{refl, arith, inl, inr}
use Rattle.std.specs.Int.{Width, w32, w64, byte_len, from_be_bytes, to_be_bytes}
use Rattle.std.proofs.lemmas.List.{length-take, get_or-drop, get_or-take, get_or_past}
use Rattle.std.proofs.lemmas.Bool.{cases_lt}
use Rattle.std.proofs.lemmas.Nat.{be_bytes_4, be_bytes_8, from_be_bytes-to_be_bytes_4, from_be_bytes-to_be_bytes_8}
pub use Rattle.hex.specs.Hex.{IsBytes}

pub IsBytes-drop : (n : ℕ) (bytes : List ℕ) → IsBytes bytes → IsBytes (drop n bytes)
IsBytes-drop n bytes h i = rw get_or-drop (h (n + i))

pub IsBytes-take : (n : ℕ) (bytes : List ℕ) → IsBytes bytes → IsBytes (take n bytes)
IsBytes-take n bytes h i =
    elim (cases_lt i n) [
      | inl lt ↦ rw (get_or-take n bytes i 0 lt) (h i)
      | inr le ↦ rw (get_or_past (take n bytes) i 0 (omega (arith, length-take n bytes))) (omega arith)
    ]

pub IsBytes-rest : (b : ℕ) (bytes : List ℕ) → IsBytes (b ∷ bytes) → IsBytes bytes
IsBytes-rest b bytes h i = h (suc i)

pub word_bytes : (n : ℕ) → IsBytes (to_be_bytes w32 n)
word_bytes n zero = omega arith
word_bytes n (suc zero) = omega arith
word_bytes n (suc (suc zero)) = omega arith
word_bytes n (suc (suc (suc zero))) = omega arith
word_bytes n (suc (suc (suc (suc i)))) = omega arith

pub double_bytes : (n : ℕ) → IsBytes (to_be_bytes w64 n)
double_bytes n zero = omega arith
double_bytes n (suc zero) = omega arith
double_bytes n (suc (suc zero)) = omega arith
double_bytes n (suc (suc (suc zero))) = omega arith
double_bytes n (suc (suc (suc (suc zero)))) = omega arith
double_bytes n (suc (suc (suc (suc (suc zero))))) = omega arith
double_bytes n (suc (suc (suc (suc (suc (suc zero)))))) = omega arith
double_bytes n (suc (suc (suc (suc (suc (suc (suc zero))))))) = omega arith
double_bytes n (suc (suc (suc (suc (suc (suc (suc (suc i)))))))) = omega arith

pub zero_bytes : (n : ℕ) → IsBytes (replicate n 0)
zero_bytes zero i = omega arith
zero_bytes (suc n) zero = omega arith
zero_bytes (suc n) (suc i) = zero_bytes n i

-- only the first bytes count
pub from_front4 : (bytes more : List ℕ) → 4 ≤ length bytes
    → from_be_bytes w32 (bytes ++ more) ≡ from_be_bytes w32 (take 4 bytes)
from_front4 [] more h = absurd (omega arith)
from_front4 (a ∷ []) more h = absurd (omega arith)
from_front4 (a ∷ b ∷ []) more h = absurd (omega arith)
from_front4 (a ∷ b ∷ c ∷ []) more h = absurd (omega arith)
from_front4 (a ∷ b ∷ c ∷ d ∷ bytes) more h = refl

pub from_front8 : (bytes more : List ℕ) → 8 ≤ length bytes
    → from_be_bytes w64 (bytes ++ more) ≡ from_be_bytes w64 (take 8 bytes)
from_front8 [] more h = absurd (omega arith)
from_front8 (a ∷ []) more h = absurd (omega arith)
from_front8 (a ∷ b ∷ []) more h = absurd (omega arith)
from_front8 (a ∷ b ∷ c ∷ []) more h = absurd (omega arith)
from_front8 (a ∷ b ∷ c ∷ d ∷ []) more h = absurd (omega arith)
from_front8 (a ∷ b ∷ c ∷ d ∷ e ∷ []) more h = absurd (omega arith)
from_front8 (a ∷ b ∷ c ∷ d ∷ e ∷ f ∷ []) more h = absurd (omega arith)
from_front8 (a ∷ b ∷ c ∷ d ∷ e ∷ f ∷ g ∷ []) more h = absurd (omega arith)
from_front8 (a ∷ b ∷ c ∷ d ∷ e ∷ f ∷ g ∷ i ∷ bytes) more h = refl

pub record IsWide (w : Width) (limit : ℕ) : Type 0 where
  pub len : (n : ℕ) → length (to_be_bytes w n) ≡ byte_len w
  pub back : (bytes : List ℕ) → length bytes ≡ byte_len w → IsBytes bytes
      → to_be_bytes w (from_be_bytes w bytes) ≡ bytes
  pub again : (n : ℕ) → n < limit → from_be_bytes w (to_be_bytes w n) ≡ n
  pub below : (bytes : List ℕ) → IsBytes bytes → from_be_bytes w bytes < limit
  pub front : (bytes more : List ℕ) → byte_len w ≤ length bytes
      → from_be_bytes w (bytes ++ more) ≡ from_be_bytes w (take (byte_len w) bytes)

pub wide32 : IsWide w32 (2 ^ 32)
wide32 = record {
  len = λ n. refl;
  back = λ bytes len fits. be_bytes_4 bytes _ len fits refl;
  again = λ n lt. from_be_bytes-to_be_bytes_4 n lt;
  below = λ bytes fits. omega (arith, fits 0, fits 1, fits 2, fits 3);
  front = from_front4;
}

pub wide64 : IsWide w64 (2 ^ 64)
wide64 = record {
  len = λ n. refl;
  back = λ bytes len fits. be_bytes_8 bytes _ len fits refl;
  again = λ n lt. from_be_bytes-to_be_bytes_8 n lt;
  below = λ bytes fits. omega (arith, fits 0, fits 1, fits 2, fits 3, fits 4, fits 5, fits 6, fits 7);
  front = from_front8;
}
