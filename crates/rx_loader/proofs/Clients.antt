-- What is asked of each client, and the number that each begins with.
use Rattle.std.proofs.Common.{◌≡◌, ◌≤◌, ◌<◌, ◌+◌, ◌-◌, ◌&&◌, ◌∙◌, ℕ, zero, suc, Bool, true, false, [], ◌∷◌, ◌++◌}
use Rattle.std.proofs.Common.{ap, arith, drop, refl, take}
use Rattle.std.specs.List.{list_all}
use Rattle.rx_load.specs.Loads.{clients}

-- the clients from one of them on are that and those behind it
from_client : (client : ℕ) → 1 ≤ client → client < 5
    → drop (client - 1) clients ≡ client ∷ drop (client + 1 - 1) clients
from_client zero some few = absurd (omega arith)
from_client (suc zero) some few = refl
from_client (suc (suc zero)) some few = refl
from_client (suc (suc (suc zero))) some few = refl
from_client (suc (suc (suc (suc zero)))) some few = refl
from_client (suc (suc (suc (suc (suc k))))) some few = absurd (omega arith)

-- all of them do where it does and those behind it do
pub all_more : (p : ℕ → Bool) (client : ℕ) → 1 ≤ client → client < 5 → p client ≡ true
    → list_all p (drop (client - 1) clients) ≡ list_all p (drop (client + 1 - 1) clients)
all_more p client some few does =
    ap (list_all p) (from_client client some few)
    ∙ ap (λ b. b && list_all p (drop (client + 1 - 1) clients)) does

-- and not where it doesn't
pub all_fail : (p : ℕ → Bool) (client : ℕ) → 1 ≤ client → client < 5 → p client ≡ false
    → list_all p (drop (client - 1) clients) ≡ false
all_fail p client some few fails =
    ap (list_all p) (from_client client some few)
    ∙ ap (λ b. b && list_all p (drop (client + 1 - 1) clients)) fails

-- one number more
pub numbers_more : (k : ℕ) → k < 4 → take k (0 ∷ 1 ∷ 2 ∷ 3 ∷ []) ++ k ∷ [] ≡ take (k + 1) (0 ∷ 1 ∷ 2 ∷ 3 ∷ [])
numbers_more zero few = refl
numbers_more (suc zero) few = refl
numbers_more (suc (suc zero)) few = refl
numbers_more (suc (suc (suc zero))) few = refl
numbers_more (suc (suc (suc (suc k)))) few = absurd (omega arith)
