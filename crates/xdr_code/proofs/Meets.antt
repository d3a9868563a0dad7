-- What a reader says of the bytes that it reads, and how two steps compose.
use Rattle.std.proofs.Common.{◌≡◌, ℕ, ◌≤◌, ◌<◌, List, ◌++◌, length, Ok, Err, sym, ap, ◌∙◌, append_assoc, arith}
use Rattle.std.proofs.lemmas.List.{length-append}
use Rattle.xdr_code.specs.declared.fault.Fault.{Fault}
use Rattle.xdr_code.specs.declared.fault.Fault.TheVariants.{Deep, Short, Bad}
use Rattle.xdr_code.specs.Reading.{◌>>=◌, AtFront}
use Rattle.xdr_code.proofs.Bytes.{IsBytes}

-- the place of a refused item is in the bytes
abbrev pub LeftWithin : Fault → ℕ → Type 0
LeftWithin Deep n = Unit {0}
LeftWithin Short n = Unit {0}
LeftWithin (Bad left why) n = (0 < left) × (left ≤ n)

-- What was read is spelled at the front, has P, and has the rest behind it.
abbrev pub Meets : {A : Type 0} → List ℕ → (A → List ℕ) → (A → Type 0) → AtFront A → Type 0
Meets bytes spell P (Ok x) = (bytes ≡ spell x.0 ++ x.1) × IsBytes x.1 × P x.0
Meets bytes spell P (Err f) = LeftWithin f (length bytes)

pub LeftWithin-more : (f : Fault) (m n : ℕ) → m ≤ n → LeftWithin f m → LeftWithin f n
LeftWithin-more Deep m n le h = tt
LeftWithin-more Short m n le h = tt
LeftWithin-more (Bad left why) m n le h = (h.0, omega (arith, h.1))

pub meets_then : {A B : Type 0} (bytes : List ℕ) (first : A → List ℕ) (P : A → Type 0) (whole : B → List ℕ)
    (Q : B → Type 0) (r : AtFront A) (f : A × List ℕ → AtFront B)
    → Meets bytes first P r
    → ((x : A) (rest : List ℕ) → bytes ≡ first x ++ rest → IsBytes rest → P x → Meets bytes whole Q (f (x, rest)))
    → Meets bytes whole Q (r >>= f)
meets_then bytes first P whole Q (Ok x) f h go = go x.0 x.1 h.0 h.1 h.2
meets_then bytes first P whole Q (Err e) f h go = h

-- behind what was read before
pub meets_behind : {B : Type 0} (bytes front rest : List ℕ) (second : B → List ℕ) (P : B → Type 0) (r : AtFront B)
    → bytes ≡ front ++ rest → Meets rest second P r → Meets bytes (λ b. front ++ second b) P r
meets_behind bytes front rest second P (Ok x) is h =
    (is ∙ ap (λ r. front ++ r) h.0 ∙ sym (append_assoc front (second x.0) x.1), h.1, h.2)
meets_behind bytes front rest second P (Err e) is h = LeftWithin-more e (length rest) (length bytes)
    (omega (arith, ap length is, length-append front rest)) h
