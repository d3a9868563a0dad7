-- The laws of the class without security.
use Rattle.std.proofs.Common.{arith}
use Rattle.std.proofs.lemmas.Bool.{false≢true}
use Rattle.rx_rules.specs.Classes.{ClassLaw, FitsClass, null}

-- it doesn't challenge
pub null_is_lawful : ClassLaw null
null_is_lawful challenges = absurd (false≢true challenges)

-- it writes no byte
pub null_fits : FitsClass null
null_fits =
    record { index = omega arith; challenge = λ c nonce. (λ i. omega arith, omega arith); respond = λ c asked. tt }
