use Rattle.std.proofs.Common.{◌≡◌, ◌<◌, ◌∷◌, [], ◌⊎◌, inl, inr, ℕ, zero, suc, List, arith, sym, slice_index, ◌∙◌}
use Rattle.std.specs.List.{AllByRecursion}
use Rattle.rx_jumbo.proofs.joiner.Joiner.make.Goals as goal

-- zeros are bytes
zero_fits : (y : ℕ) → (y ≡ 0) ⊎ (y ≡ 0) → y < 256
zero_fits y (inl same) = omega arith
zero_fits y (inr same) = omega arith

zeros_fit : (ys : List ℕ) (i : ℕ) → AllByRecursion (λ (y : ℕ). (y ≡ 0) ⊎ (y ≡ 0)) ys → slice_index ys i < 256
zeros_fit [] i h = omega arith
zeros_fit (y ∷ ys) zero h = zero_fits y h.0
zeros_fit (y ∷ ys) (suc i) h = zeros_fit ys i h.1

pub invariant_of-result : goal.invariant_of-result
invariant_of-result c =
    record {
      known = λ i. zeros_fit c.in_ok-vec.field-0.items i c.in_ok-vec.ensures.items;
      size = sym c.in_ok-vec.field-0.ok.0 ∙ c.in_ok-vec.ensures.len;
      some = c.requires.some;
      few = c.requires.few;
      within = omega arith;
      counted = omega arith;
      alone = λ none. omega arith;
      joined = λ last counted whole. absurd (omega arith);
    }
