-- Where each so many rounds move a bounded number on, or come to an end, enough rounds come to the end.
use Rattle.std.proofs.Common.{◌≡◌, ◌⊎◌, ◌≤◌, ◌<◌, ◌+◌, ◌-◌, ◌*◌, ℕ, zero, suc, subst, arith, inl, inr}
use Rattle.std.proofs.Math.Nat.{mul-suc}

-- chains of rounds to one stage; what holds at the beginning of each, and how far each is
module _ {X : Type 0} (Chain : ℕ → X → X → Type 0) (Good : X → Type 0) (Ends : Type 0) (far : X → ℕ)
    (most step : ℕ) (t : X) (bound : (s : X) → Good s → far s ≤ most)
    (splits : (n : ℕ) (s : X) → Chain (step + n) s t → (u : X) × Chain step s u × Chain n u t)
    (moves : (n : ℕ) (s u : X) → Good s → Chain step s u → Chain n u t → Ends ⊎ (Good u × (far s < far u))) where
  -- so many times what is left to the bound
  pub enough : (left n : ℕ) (s : X) → Good s → Chain n s t → most < far s + left → step * left ≤ n → Ends
  enough zero n s good chain past few = absurd (let low = bound s good in omega (arith, past, low))
  enough (suc left) n s good chain past few =
      let all : step * suc left ≡ step * left + step = mul-suc step left in
      let room : step ≤ n = omega (arith, few, all) in
      let again : step * left ≤ n - step = omega (arith, few, all) in
      let whole : n ≡ step + (n - step) = omega (arith, room) in
      let cut = splits (n - step) s (subst (λ (m : ℕ). Chain m s t) whole chain) in
      of cut.0 cut.2 (moves (n - step) s cut.0 good cut.1 cut.2)
      (λ u good rest further. enough left (n - step) u good rest (omega (arith, past, further)) again)
    where
      of : (u : X) → Chain (n - step) u t → Ends ⊎ (Good u × (far s < far u))
          → ((v : X) → Good v → Chain (n - step) v t → far s < far v → Ends) → Ends
      of u rest (inl ends) next = ends
      of u rest (inr on) next = next u on.0 rest on.1
