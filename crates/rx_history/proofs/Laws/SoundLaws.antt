-- What is carried along a history of each call of a server, so that none is accepted twice.
use Rattle.std.proofs.Common.{◌≡◌, ◌≤◌, ℕ, true}
use Rattle.std.proofs.Common.{Option, Some, None, arith}
use Rattle.rx_model.specs.declared.names.CallName.{CallName}
use Rattle.rx_rules.specs.Life.{is_waiting}
use Rattle.rx_rules.specs.Looks.{CallRecord, Looks, call_at, conn_at}
use Rattle.rx_model.specs.Names.{connection_of}
use Rattle.rx_rules.proofs.ConnsLaws.{number_of}
use Rattle.rx_rules.proofs.KeepsLaws.{Lives, Fours, Keeps}

-- a call without a record was accepted no time, nor was one that waits, and none more than once
abbrev pub Counted : Option CallRecord → ℕ → Type 0
Counted None n = n ≡ 0
Counted (Some k) n = (is_waiting k.life ≡ true → n ≡ 0) × (n ≤ 1)

-- a call that has a record has a number of its channel's past
abbrev pub Below : Option CallRecord → ℕ → ℕ → Type 0
Below None number top = Unit {0}
Below (Some k) number top = number ≤ top

-- what is carried along of a call that was accepted so often
pub record Sound (l : Looks) (c : CallName) (n : ℕ) : Type 0 where
  pub counted : Counted (call_at l c) n
  pub below : Below (call_at l c) c.number (number_of (conn_at l (connection_of c)) c.chan)
  pub fours : Fours (conn_at l (connection_of c))

counted-lives : (a b : Option CallRecord) (n : ℕ) → Lives a b → Counted a n → Counted b n
counted-lives None None n lives counted = counted
counted-lives None (Some b) n lives counted = absurd lives
counted-lives (Some a) None n lives counted = absurd lives
counted-lives (Some a) (Some b) n lives counted = ((λ waits. counted.0 (lives waits)), counted.1)

below-lives : (a b : Option CallRecord) (number low high : ℕ) → Lives a b → low ≤ high → Below a number low
    → Below b number high
below-lives None None number low high lives rises below = tt
below-lives None (Some b) number low high lives rises below = absurd lives
below-lives (Some a) None number low high lives rises below = tt
below-lives (Some a) (Some b) number low high lives rises below = omega arith

-- a change that starts no call carries it on
pub sound-keeps : (c : CallName) (old new : Looks) (n : ℕ) → Keeps c old new → Sound old c n → Sound new c n
sound-keeps c old new n keeps sound =
    record {
      counted = counted-lives (call_at old c) (call_at new c) n keeps.calls sound.counted;
      below = below-lives (call_at old c) (call_at new c) c.number _ _ keeps.calls keeps.numbers sound.below;
      fours = keeps.fours sound.fours;
    }
