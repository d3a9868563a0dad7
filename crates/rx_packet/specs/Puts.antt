-- What a write to a part of a buffer leaves. No public clause cites this module.
use Rattle.std.specs.Prelude.{◌≡◌, ◌+◌, ◌≤◌, ◌++◌, ℕ, List, length, take, drop}

-- the bytes stand from `at` to `end`; what stood before and behind them stays
pub record Puts (old new : List ℕ) (at end : ℕ) (bytes : List ℕ) : Type 0 where
  pub size : end ≡ at + length bytes
  pub front : take end new ≡ take at old ++ bytes
  pub rest : (place : ℕ) → end ≤ place → drop place new ≡ drop place old
