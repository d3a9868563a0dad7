-- What is idle.
use Rattle.std.proofs.Common.{◌≡◌, ◌<◌, ℕ, cond, length, Option, Some, None, IsSome, refl, option_and_then}
use Rattle.std.proofs.lemmas.Option.{slice_get_within}
use Rattle.rx_table.specs.Records.{ConnRecord, Records, idle_since, is_idle, record_at}

-- what is idle is there
pub idle_within : (now place : ℕ) (t : Records) → IsSome (idle_since now t place) → place < length t.conns
idle_within now place t some = by (record_at t place) refl some
  where
    by : (o : Option ConnRecord) → record_at t place ≡ o
        → IsSome (option_and_then (λ (r : ConnRecord). cond (is_idle now r) (Some r.last_use) None) o)
        → place < length t.conns
    by None at e = absurd cc
    by (Some r) at e = slice_get_within t.conns place r at
