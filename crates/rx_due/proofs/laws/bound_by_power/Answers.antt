use Rattle.std.proofs.Common.{◌<◌, ◌+◌, ◌*◌, ◌^◌, ℕ, arith, inl, inr}
use Rattle.std.proofs.lemmas.Bool.{cases_lt}
use Rattle.rx_due.specs.Cost.{IsGreatestPower}
use Rattle.rx_due.proofs.laws.bound_by_power.Goals as goal

passed : (n d : ℕ) → IsGreatestPower n d → 2 * n + 1 < 2 ^ (d + 1)
passed n d so =
    elim (cases_lt (2 * n + 1) (2 ^ (d + 1))) [
      | inl less ↦ less
      | inr more ↦ absurd (omega (arith, so.greatest (d + 1) more))
    ]

pub returns : goal.returns
returns c = λ n d old new so bound. bound d (passed n d so)
