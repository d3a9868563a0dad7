-- Texts cut at a character: the first piece, and the pieces behind it.
use Rattle.std.proofs.Common.{◌≡◌, ℕ, suc, ◌+◌, ◌<◌, ◌==◌, Bool, List, [], ◌∷◌, length, refl, arith, inl, inr}
use Rattle.std.proofs.lemmas.Bool.{cases_Bool}
use Rattle.std.proofs.lemmas.List.Splits.{slice_split_first}
use Rattle.std.specs.List.{slice_split, position_or_len, before_first, after_first}

-- where no byte passes, the text is the one piece
pub slice_split_whole : (p : ℕ → Bool) (bs : List ℕ) → position_or_len p bs ≡ length bs → slice_split p bs ≡ bs ∷ []
slice_split_whole p [] none = refl
slice_split_whole p (b ∷ bs) none =
    elim (cases_Bool (p b)) [
      | inl hit ↦ let stops : 0 ≡ suc (length bs) = rw hit at none in absurd (omega arith)
      | inr miss ↦
          let goes : 1 + position_or_len p bs ≡ suc (length bs) = rw miss at none in
          rw (miss, slice_split_whole p bs (omega arith)) refl
    ]

-- what comes before the first byte that passes, and what after it
abbrev pub IsFoundAt : (ℕ → Bool) → List ℕ → List ℕ → List ℕ → Type 0
IsFoundAt p bs piece rest = (position_or_len p bs < length bs) × (piece ≡ before_first p bs) × (rest ≡ after_first p bs)

-- the pieces of a text, of which a search found the first
pub slice_split_found : (c : ℕ) (bs piece rest : List ℕ)
    → IsFoundAt (λ b. b == c) bs piece rest
    → slice_split (λ b. b == c) bs ≡ piece ∷ slice_split (λ b. b == c) rest
slice_split_found c bs piece rest (found, before, after) =
    rw (before, after) (slice_split_first (λ b. b == c) bs 0 found)
