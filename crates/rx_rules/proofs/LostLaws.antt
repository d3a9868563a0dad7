-- A piece that is taken for lost was given.
use Rattle.std.proofs.Common.{◌≡◌, ◌≤◌, if◌then◌else◌, nat_lt, not, ℕ, suc, Bool, true, false, Option, Some, None}
use Rattle.std.proofs.Common.{refl, ◌∙◌, arith}
use Rattle.std.proofs.lemmas.Bool.Decides.{nat_tests}
use Rattle.rx_rules.specs.Lost.{first_lost, is_late, is_overtaken, late_of, lost_of, lowest_to, overtaken_of, under_way}
use Rattle.rx_rules.specs.Rates.{Cwnd}
use Rattle.rx_rules.specs.Received.{reach}
use Rattle.rx_rules.specs.Sent.{Sent, given_of}

-- a piece stands behind others, and is at most the greatest that was given
pub record GivenPiece (s : Sent) (seq : ℕ) : Type 0 where
  pub behind : ℕ
  pub is : seq ≡ suc behind
  pub low : suc behind ≤ given_of s

lowest-within : (s : Sent) (test : ℕ → Bool) (seq : ℕ) → lowest_to test (given_of s) ≡ Some seq → GivenPiece s seq
lowest-within s test seq is =
    let at : ℕ = reach (λ k. not (test k)) (given_of s) in
    (elim (nat_lt at (given_of s)) as (λ b. nat_lt at (given_of s) ≡ b
    → (if b then Some (suc at) else None) ≡ Some seq → GivenPiece s seq) [
      | true ↦ λ within e. record { behind = at; is = cc; low = grind (arith, nat_tests) }
      | false ↦ λ past e. absurd cc
    ]) refl is

late-within : (s : Sent) (may : Bool) (seq : ℕ) → (if may then late_of s else None) ≡ Some seq → GivenPiece s seq
late-within s true seq is = lowest-within s (is_late s) seq is
late-within s false seq is = absurd cc

first-within : (s : Sent) (o : Option ℕ) (may : Bool) (seq : ℕ) → overtaken_of s ≡ o
    → first_lost o (if may then late_of s else None) ≡ Some seq → GivenPiece s seq
first-within s (Some k) may seq over is = lowest-within s (is_overtaken s) seq (over ∙ is)
first-within s None may seq over is = late-within s may seq is

prompt-within : (c : Cwnd) (s : Sent) (prompt : Bool) (seq : ℕ)
    → (if prompt then first_lost (overtaken_of s) (if nat_lt (under_way s) c.window then late_of s else None) else None)
    ≡ Some seq
    → GivenPiece s seq
prompt-within c s true seq is = first-within s (overtaken_of s) (nat_lt (under_way s) c.window) seq refl is
prompt-within c s false seq is = absurd cc

-- so it is of one that is taken for lost
pub lost_within : (c : Cwnd) (s : Sent) (seq : ℕ) → lost_of c s ≡ Some seq → GivenPiece s seq
lost_within c s seq is = prompt-within c s c.prompt seq is
