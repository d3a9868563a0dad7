-- How the keys that aren't there are kept beside the calls. No public clause cites this module.
use Rattle.std.specs.Prelude.{◌≡◌, ◌≤◌, ◌+◌, if◌then◌else◌, is_some, count_by, slice_index_or, ℕ, true, List, [], ◌∷◌}
use Rattle.std.specs.Prelude.{length, Option, None, IsSomeAnd}
use Rattle.rx_pool.specs.Pool.{has, HasNoRepeat}
use Rattle.rx_call.specs.Kept.{IsIdleOf}
use Rattle.rx_call.specs.Standing.{EndOfCall}
use Rattle.rx_model.specs.declared.pace.Pace.{Pace}

-- the calls whose keys aren't free, the first of them at this key
abbrev pub there_from : List ℕ → ℕ → List (Option EndOfCall) → List (Option EndOfCall)
there_from free key [] = []
there_from free key (c ∷ cs) = (if has key free then None else c) ∷ there_from free (key + 1) cs

-- no key is free twice; the call of each free key is idle; the others are there; and all may be free
pub record HasSoundKeys (calls : List (Option EndOfCall)) (free : List ℕ) (pace : Pace) (capacity : ℕ) : Type 0 where
  pub apart : HasNoRepeat free
  pub idle : (key : ℕ) → has key free ≡ true → IsSomeAnd (slice_index_or calls key None) (IsIdleOf pace)
  pub counted : count_by is_some (there_from free 0 calls) + length free ≡ count_by is_some calls
  pub room : count_by is_some calls ≤ capacity
