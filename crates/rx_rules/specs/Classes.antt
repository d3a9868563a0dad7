-- What a node knows of its security class, and the two classes. Public clauses cite this module.
use Rattle.std.specs.Prelude.{◌≡◌, ◌==◌, ◌<◌, ◌≤◌, if◌then◌else◌, bytes_eq, ℕ, Bool, true, false, List, []}
use Rattle.std.specs.Prelude.{◌++◌, length, Option, Some, None, IfSome}
use Rattle.byteorder.specs.Endian.{big_bytes}
use Rattle.sha2.specs.Sha256.{sha256}
use Rattle.rx_model.specs.declared.names.CallName.{CallName}
use Rattle.rx_model.specs.declared.wire.TheConstants.{NULL_INDEX, TOKEN_INDEX, SECURITY_BYTES, NONCE_BYTES}
use Rattle.rx_model.specs.Message.{IsBytes}

-- a security class: its index; whether it challenges; the challenge of a call with a nonce; the response to one;
-- whether a response is right
pub record Class : Type 0 where
  pub index : ℕ
  pub challenges : Bool
  pub challenge : CallName → ℕ → List ℕ
  pub respond : CallName → List ℕ → Option (List ℕ)
  pub check : CallName → ℕ → List ℕ → Bool

-- as many bytes as a challenge or its answer may have
abbrev pub FitsAnswer : List ℕ → Type 0
FitsAnswer bytes = IsBytes bytes × (length bytes ≤ SECURITY_BYTES)

-- a class's index is a byte, and so is each that it writes
pub record FitsClass (class : Class) : Type 0 where
  pub index : class.index < 256
  pub challenge : (c : CallName) (nonce : ℕ) → FitsAnswer (class.challenge c nonce)
  pub respond : (c : CallName) (asked : List ℕ) → IfSome (class.respond c asked) FitsAnswer

-- a response to one's own challenge is right, where the class challenges
abbrev pub ClassLaw : Class → Type 0
ClassLaw class =
    class.challenges ≡ true → (c : CallName) (nonce : ℕ) (answer : List ℕ)
    → class.respond c (class.challenge c nonce) ≡ Some answer → class.check c nonce answer ≡ true

-- ---- the two classes

-- no security: nothing is challenged, and nothing checked
abbrev pub null : Class
null =
    record {
      index = NULL_INDEX;
      challenges = false;
      challenge = λ c nonce. [];
      respond = λ c asked. None;
      check = λ c nonce answer. false;
    }

-- what only a holder of the key knows: a digest over the key, the connection and the challenge
abbrev pub token_answer : List ℕ → CallName → List ℕ → List ℕ
token_answer key c asked = sha256 (key ++ (big_bytes 4 c.epoch ++ (big_bytes 4 c.cid ++ asked)))

-- class 200: a nonce is answered by the digest
abbrev pub token : List ℕ → Class
token key =
    record {
      index = TOKEN_INDEX;
      challenges = true;
      challenge = λ c nonce. big_bytes NONCE_BYTES nonce;
      respond = λ c asked. if length asked == NONCE_BYTES then Some (token_answer key c asked) else None;
      check = λ c nonce answer. bytes_eq answer (token_answer key c (big_bytes NONCE_BYTES nonce));
    }
