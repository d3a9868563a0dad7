-- A digest has 32 bytes.
use Rattle.std.proofs.Common.{◌≡◌, ◌*◌, ◌<◌, ℕ, zero, suc, List, [], ◌∷◌, ◌++◌, length, get_or, refl, arith, ◌∙◌}
use Rattle.std.specs.Int.{byte_at, bytes_high_first, to_be_bytes, w32}
use Rattle.std.proofs.lemmas.List.{length-append}
use Rattle.sha2.specs.Sha256.{digest_bytes, sha256, final_hash, initial_hash_256}
use Rattle.rx_model.specs.Message.{IsBytes}
use Rattle.rx_rules.specs.Classes.{FitsAnswer}

-- bytes behind bytes are bytes
bytes_joined : (xs ys : List ℕ) → IsBytes xs → IsBytes ys → IsBytes (xs ++ ys)
bytes_joined [] ys front rest i = rest i
bytes_joined (x ∷ xs) ys front rest zero = front zero
bytes_joined (x ∷ xs) ys front rest (suc i) = bytes_joined xs ys (λ k. front (suc k)) rest i

byte_below : (k n : ℕ) → byte_at k n < 256
byte_below zero n = omega arith
byte_below (suc k) n = omega arith

-- the bytes of a number are bytes
pub bytes_of_number : (k n : ℕ) → IsBytes (bytes_high_first k n)
bytes_of_number zero n i = omega arith
bytes_of_number (suc k) n zero = byte_below k n
bytes_of_number (suc k) n (suc i) = bytes_of_number k n i

bytes_of_words : (h : List ℕ) (n : ℕ) → IsBytes (digest_bytes h n)
unfolding digest_bytes
bytes_of_words h zero = λ i. omega arith
bytes_of_words h (suc n) =
    bytes_joined (digest_bytes h n) (to_be_bytes w32 (get_or h n 0)) (bytes_of_words h n)
    (bytes_of_number 4 (get_or h n 0))

length_of_words : (h : List ℕ) (n : ℕ) → length (digest_bytes h n) ≡ 4 * n
unfolding digest_bytes
length_of_words h zero = refl
length_of_words h (suc n) =
    length-append (digest_bytes h n) (to_be_bytes w32 (get_or h n 0)) ∙ omega (arith, length_of_words h n)

bytes_of_digest : (m : List ℕ) → IsBytes (sha256 m)
unfolding sha256
bytes_of_digest m = bytes_of_words (final_hash initial_hash_256 m) 8

length_of_digest : (m : List ℕ) → length (sha256 m) ≡ 32
unfolding sha256
length_of_digest m = length_of_words (final_hash initial_hash_256 m) 8

-- so it is an answer that fits
pub digest_fits : (m : List ℕ) → FitsAnswer (sha256 m)
digest_fits m = let size = length_of_digest m in (bytes_of_digest m, omega (arith, size))
