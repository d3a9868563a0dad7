-- Bytes that run short, with zeros behind them, are the least number that they can become.
use Rattle.std.proofs.Common.{◌≡◌, ℕ, zero, suc, ◌-◌, ◌<◌, List, [], ◌∷◌, ◌++◌, length, replicate, refl, sym, arith}
use Rattle.std.specs.Int.{w32, w64, from_be_bytes, to_be_bytes}
use Rattle.std.proofs.lemmas.Nat.{be_bytes_4, be_bytes_8}
use Rattle.xdr_value.specs.Spelling.{word}
use Rattle.xdr_code.proofs.Bytes.{IsBytes, zero_bytes}

pad_fits : (bytes : List ℕ) (m : ℕ) → IsBytes bytes → IsBytes (bytes ++ replicate m 0)
pad_fits [] m h i = zero_bytes m i
pad_fits (b ∷ bytes) m h zero = h zero
pad_fits (b ∷ bytes) m h (suc i) = pad_fits bytes m (λ j. h (suc j)) i

pub short32 : (bytes : List ℕ) → IsBytes bytes → length bytes < 4
    → bytes ++ replicate (4 - length bytes) 0 ≡ word (from_be_bytes w32 bytes)
short32 [] fits lt = refl
short32 (a ∷ []) fits lt = sym
    (be_bytes_4 (a ∷ 0 ∷ 0 ∷ 0 ∷ []) (from_be_bytes w32 (a ∷ [])) refl (pad_fits (a ∷ []) 3 fits) refl)
short32 (a ∷ b ∷ []) fits lt = sym
    (be_bytes_4 (a ∷ b ∷ 0 ∷ 0 ∷ []) (from_be_bytes w32 (a ∷ b ∷ [])) refl (pad_fits (a ∷ b ∷ []) 2 fits) refl)
short32 (a ∷ b ∷ c ∷ []) fits lt = sym
    (be_bytes_4 (a ∷ b ∷ c ∷ 0 ∷ []) (from_be_bytes w32 (a ∷ b ∷ c ∷ [])) refl (pad_fits (a ∷ b ∷ c ∷ []) 1 fits) refl)
short32 (a ∷ b ∷ c ∷ d ∷ bytes) fits lt = absurd (omega arith)

pub short64 : (bytes : List ℕ) → IsBytes bytes → length bytes < 8
    → bytes ++ replicate (8 - length bytes) 0 ≡ to_be_bytes w64 (from_be_bytes w64 bytes)
short64 [] fits lt = refl
short64 (a ∷ []) fits lt = sym
    (be_bytes_8 (a ∷ 0 ∷ 0 ∷ 0 ∷ 0 ∷ 0 ∷ 0 ∷ 0 ∷ []) (from_be_bytes w64 (a ∷ [])) refl (pad_fits (a ∷ []) 7 fits) refl)
short64 (a ∷ b ∷ []) fits lt = sym
    (be_bytes_8 (a ∷ b ∷ 0 ∷ 0 ∷ 0 ∷ 0 ∷ 0 ∷ 0 ∷ []) (from_be_bytes w64 (a ∷ b ∷ [])) refl
    (pad_fits (a ∷ b ∷ []) 6 fits) refl)
short64 (a ∷ b ∷ c ∷ []) fits lt = sym
    (be_bytes_8 (a ∷ b ∷ c ∷ 0 ∷ 0 ∷ 0 ∷ 0 ∷ 0 ∷ []) (from_be_bytes w64 (a ∷ b ∷ c ∷ [])) refl
    (pad_fits (a ∷ b ∷ c ∷ []) 5 fits) refl)
short64 (a ∷ b ∷ c ∷ d ∷ []) fits lt = sym
    (be_bytes_8 (a ∷ b ∷ c ∷ d ∷ 0 ∷ 0 ∷ 0 ∷ 0 ∷ []) (from_be_bytes w64 (a ∷ b ∷ c ∷ d ∷ [])) refl
    (pad_fits (a ∷ b ∷ c ∷ d ∷ []) 4 fits) refl)
short64 (a ∷ b ∷ c ∷ d ∷ e ∷ []) fits lt = sym
    (be_bytes_8 (a ∷ b ∷ c ∷ d ∷ e ∷ 0 ∷ 0 ∷ 0 ∷ []) (from_be_bytes w64 (a ∷ b ∷ c ∷ d ∷ e ∷ [])) refl
    (pad_fits (a ∷ b ∷ c ∷ d ∷ e ∷ []) 3 fits) refl)
short64 (a ∷ b ∷ c ∷ d ∷ e ∷ f ∷ []) fits lt = sym
    (be_bytes_8 (a ∷ b ∷ c ∷ d ∷ e ∷ f ∷ 0 ∷ 0 ∷ []) (from_be_bytes w64 (a ∷ b ∷ c ∷ d ∷ e ∷ f ∷ [])) refl
    (pad_fits (a ∷ b ∷ c ∷ d ∷ e ∷ f ∷ []) 2 fits) refl)
short64 (a ∷ b ∷ c ∷ d ∷ e ∷ f ∷ g ∷ []) fits lt = sym
    (be_bytes_8 (a ∷ b ∷ c ∷ d ∷ e ∷ f ∷ g ∷ 0 ∷ []) (from_be_bytes w64 (a ∷ b ∷ c ∷ d ∷ e ∷ f ∷ g ∷ [])) refl
    (pad_fits (a ∷ b ∷ c ∷ d ∷ e ∷ f ∷ g ∷ []) 1 fits) refl)
short64 (a ∷ b ∷ c ∷ d ∷ e ∷ f ∷ g ∷ i ∷ bytes) fits lt = absurd (omega arith)
