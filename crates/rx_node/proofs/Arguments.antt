-- What a call's arguments are: bytes, and codes that fit their bits.
use Rattle.std.proofs.Common.{◌≡◌, ◌<◌, ℕ, zero, suc, ℤ, pos, negsuc, List, [], ◌∷◌, take, refl, subst, arith, SFits}
use Rattle.std.proofs.Common.{w32}
use Rattle.std.specs.Prelude.{slice_index}
use Rattle.rx_model.specs.Message.{IsBytes}
use Rattle.rx_model.specs.Spelling.{IsCode}

-- the first of bytes are bytes
pub take_bytes : (n : ℕ) (xs : List ℕ) → IsBytes xs → IsBytes (take n xs)
take_bytes n [] bytes i = subst (λ (ys : List ℕ). slice_index ys i < 256) (none n) (omega arith)
  where
    none : (n : ℕ) → [] ≡ take {A = ℕ} n []
    none zero = refl
    none (suc n) = refl
take_bytes zero (x ∷ xs) bytes i = omega arith
take_bytes (suc n) (x ∷ xs) bytes zero = bytes 0
take_bytes (suc n) (x ∷ xs) bytes (suc i) = take_bytes n xs (λ j. bytes (suc j)) i

-- a number of 32 bits with its sign is a code
pub fits_code : (code : ℤ) → SFits w32 code → IsCode code
fits_code (pos n) fits = fits.sfits
fits_code (negsuc n) fits = fits.sfits
