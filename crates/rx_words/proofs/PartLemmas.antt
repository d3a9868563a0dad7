-- Parts of the words.
use Rattle.std.proofs.Common.{◌≡◌, ℕ, suc, ◌+◌, Bool, false, List, [], ◌∷◌, length, refl, arith, inl, inr}
use Rattle.std.proofs.lemmas.Bool.{cases_Bool}
use Rattle.std.specs.List.{list_any, position_or_len}

-- where no byte is found, none passes
pub list_any_unfound : (p : ℕ → Bool) (bs : List ℕ) → position_or_len p bs ≡ length bs → list_any p bs ≡ false
list_any_unfound p [] none = refl
list_any_unfound p (b ∷ bs) none =
    elim (cases_Bool (p b)) [
      | inl hit ↦ let stops : 0 ≡ suc (length bs) = rw hit at none in absurd (omega arith)
      | inr miss ↦
          let goes : 1 + position_or_len p bs ≡ suc (length bs) = rw miss at none in
          rw (miss, list_any_unfound p bs (omega arith)) refl
    ]
