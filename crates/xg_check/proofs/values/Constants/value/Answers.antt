use Rattle.std.proofs.Common.{◌*◌, ◌^◌, ℤ, List, Option, sym, subst}
use Rattle.xg_check.specs.Held.{AreBounded}
use Rattle.xg_check.proofs.values.Constants.value.Goals as goal

pub returns-clause-bound : goal.returns-clause-bound
returns-clause-bound c =
    c.word_value.ensures.bound (3 * 2 ^ 64)
    (subst (λ (vs : List (Option ℤ)). AreBounded vs) (sym c.as_slice.ensures.value) c.self.invariant.bounded)
