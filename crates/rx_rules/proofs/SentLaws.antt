-- What was said and given of a stream.
use Rattle.std.proofs.Common.{◌≡◌, ◌==◌, ◌≤◌, ℕ, suc, max, is_some, if◌then◌else◌, true, false, List, [], ◌∷◌}
use Rattle.std.proofs.Common.{Some, refl, arith}
use Rattle.std.proofs.lemmas.Bool.Decides.{nat_tests}
use Rattle.rx_rules.specs.Sent.{Giving, LastGiving, greatest_given, last_giving, orders_of}

max-over : (a b seq : ℕ) → (a == seq) ≡ true → seq ≤ max a b
max-over a b seq is = grind (arith, nat_tests)

-- a piece that was given is at most the greatest that was
pub given-within : (gs : List Giving) (seq : ℕ) (g : LastGiving) → last_giving gs seq ≡ Some g → seq ≤ greatest_given gs
given-within [] seq g is = absurd cc
given-within (x ∷ gs) seq g is =
    (elim (x.seq == seq) as (λ b. (x.seq == seq) ≡ b
    → (if b
    then Some (record { moment = x.moment; again = is_some (last_giving gs seq); order = suc (orders_of gs) })
    else last_giving gs seq)
    ≡ Some g
    → seq ≤ max x.seq (greatest_given gs)) [
      | true ↦ λ own e. max-over x.seq (greatest_given gs) seq own
      | false ↦ λ other e. (let rest = given-within gs seq g e in omega arith)
    ]) refl is
