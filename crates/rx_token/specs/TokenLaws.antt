-- The laws of class 200, and of a chosen class.
use Rattle.std.proofs.Common.{◌==◌, ℕ, true, false, cond, List, [], ◌∷◌, length, Some, None, arith, sym}
use Rattle.std.specs.Cmp.Lexicographic.{bytes_decides}
use Rattle.std.specs.Option.{IfSome}
use Rattle.std.proofs.lemmas.Option.{same_Some}
use Rattle.rx_rules.specs.Classes.{ClassLaw, FitsClass, FitsAnswer, token, token_answer}
use Rattle.rx_class.specs.NullLaws.{null_is_lawful, null_fits}
use Rattle.rx_token.specs.Chosen.{chosen}
use Rattle.rx_token.specs.DigestLaws.{bytes_of_number, digest_fits}

-- the response to one's own challenge is the digest that is checked for
pub token_is_lawful : (key : List ℕ) → ClassLaw (token key)
token_is_lawful key challenges c nonce answer responds = (bytes_decides answer _).1 (sym (same_Some _ _ responds))

-- its index is 200, a challenge is the 8 bytes of the nonce, and a response is a digest
pub token_fits : (key : List ℕ) → FitsClass (token key)
token_fits key =
    record {
      index = omega arith;
      challenge = λ c nonce. (bytes_of_number 8 nonce, omega arith);
      respond = λ c asked.
          elim (length asked == 8) as (λ b. IfSome (cond b (Some (token_answer key c asked)) None) FitsAnswer) [
            | true ↦ digest_fits _
            | false ↦ tt
          ];
    }

-- whichever class was chosen, the response to one's own challenge is right
pub chosen_is_lawful : (s : List ℕ) → ClassLaw (chosen s)
chosen_is_lawful [] = null_is_lawful
chosen_is_lawful (mark ∷ key) = token_is_lawful key

-- whichever class was chosen, its index is a byte, and so is each that it writes
pub chosen_fits : (s : List ℕ) → FitsClass (chosen s)
chosen_fits [] = null_fits
chosen_fits (mark ∷ key) = token_fits key
