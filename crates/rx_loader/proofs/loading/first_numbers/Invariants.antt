-- the numbers so far
use Rattle.std.proofs.Common.{◌≡◌, ◌∷◌, [], take}
use Rattle.rx_loader.proofs.loading.first_numbers.Given as goal

abbrev pub invariant-loop-client : goal.invariant-loop-client
invariant-loop-client l = l.numbers.items ≡ take l.client (0 ∷ 1 ∷ 2 ∷ 3 ∷ [])
