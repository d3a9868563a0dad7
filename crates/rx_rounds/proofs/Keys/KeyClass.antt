-- The class of two nodes that have one key, or none.
use Rattle.std.proofs.Common.{◌≡◌, ◌<◌, ◌&&◌, ◌||◌, not, is_some, ℕ, Bool, true, false, List, Option, Some, None, refl}
use Rattle.std.proofs.Common.{arith}
use Rattle.rx_plan.specs.Follows.{class_of}

-- a key alone has a server challenge
pub challenges_is : (key : Option (List ℕ)) → (class_of key).challenges ≡ is_some key
challenges_is None = refl
challenges_is (Some key) = refl

-- a server whose client showed the key, where there is one, challenges no more
pub challenged_none : (key : Option (List ℕ)) → ((class_of key).challenges && not (is_some key)) ≡ false
challenged_none None = refl
challenged_none (Some key) = refl

-- one whose client didn't show it yet does, where there is one
pub challenged_new : (key : Option (List ℕ)) → ((class_of key).challenges && not false) ≡ is_some key
challenged_new None = refl
challenged_new (Some key) = refl

-- calls of a client that showed it may enter
pub enters_proved : (key : Option (List ℕ)) → (not (class_of key).challenges || is_some key) ≡ true
enters_proved None = refl
enters_proved (Some key) = refl

-- its index is a byte
pub index_small : (key : Option (List ℕ)) → (class_of key).index < 256
index_small None = omega arith
index_small (Some key) = omega arith

pub or_same : (b : Bool) → (b || b) ≡ b
or_same true = refl
or_same false = refl
