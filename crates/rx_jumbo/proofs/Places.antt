-- Where parts, their flags and checksums stand; bytes and numbers of texts that agree at some places.
use Rattle.std.proofs.Common.{◌≡◌, ◌<◌, ◌≤◌, ◌+◌, ◌*◌, ◌^◌, ℕ, zero, suc, List, length, take, drop, ap, sym, ◌∙◌}
use Rattle.std.proofs.Common.{refl, arith, get_or, get_or-drop, length-drop, set, bit_or, [], ◌∷◌}
use Rattle.std.proofs.lemmas.List.{ext_get_or, get_or-take, length-take-le}
use Rattle.byteorder.specs.Endian.{big_from}
use Rattle.rx_model.specs.Reading.{number_at}
use Rattle.rx_jumbo.specs.Parts.{checksum_place, flags_place, part_place}
use Rattle.rx_jumbo.specs.JoinerState.{spare_place}

-- a part's flags stand before its checksum, and this before the part
pub flags_before : (k : ℕ) → flags_place k < checksum_place k
flags_before zero = omega arith
flags_before (suc k) = omega arith

pub checksum_before : (k : ℕ) → checksum_place k + 2 ≤ part_place k
checksum_before zero = omega arith
checksum_before (suc k) = omega arith

-- the flags of a later part stand behind an earlier part's bytes
pub flags_behind : (k last : ℕ) → k < last → part_place k + 1412 ≤ flags_place last
flags_behind k zero below = absurd (omega arith)
flags_behind k (suc last) below = omega arith

-- they stand outside of what a header says but for its flags
pub flags_outside : (k j : ℕ) → j < 28 → (j ≡ 21 → ⊥) → j ≡ flags_place k → ⊥
flags_outside zero j below other same = other same
flags_outside (suc k) j below other same = omega arith

same_from : (i n p q : ℕ) (a b : List ℕ) → ((j : ℕ) → j < i + n → get_or a (p + j) 0 ≡ get_or b (q + j) 0) →
    big_from i n (drop p a) ≡ big_from i n (drop q b)
same_from i zero p q a b h = refl
same_from i (suc n) p q a b h =
    let byte = get_or-drop p a i 0 ∙ h i (omega arith) ∙ sym (get_or-drop q b i 0) in
    let rest = same_from (suc i) n p q a b (λ j below. h j (omega arith)) in
    λ t. byte t * 256 ^ n + rest t

-- numbers of the same bytes
pub same_number : (n p q : ℕ) (a b : List ℕ) → ((j : ℕ) → j < n → get_or a (p + j) 0 ≡ get_or b (q + j) 0) →
    number_at n p a ≡ number_at n q b
same_number n p q a b h = same_from 0 n p q a b (λ j below. h j (omega arith))

-- the same bytes from a place
pub same_bytes : (n p : ℕ) (a b : List ℕ) → p + n ≤ length a → p + n ≤ length b →
    ((j : ℕ) → p ≤ j → j < p + n → get_or a j 0 ≡ get_or b j 0) → take n (drop p a) ≡ take n (drop p b)
same_bytes n p a b first second h =
    let left : length (take n (drop p a)) ≡ n = length-take-le n (drop p a) (omega (arith, length-drop p a)) in
    let right : length (take n (drop p b)) ≡ n = length-take-le n (drop p b) (omega (arith, length-drop p b)) in
    ext_get_or 0 (take n (drop p a)) (take n (drop p b)) (left ∙ sym right) (λ i below.
    let within : i < n = omega (arith, left) in
    get_or-take n (drop p a) i 0 within ∙ get_or-drop p a i 0 ∙ h (p + i) (omega arith) (omega arith)
    ∙ sym (get_or-drop p b i 0) ∙ sym (get_or-take n (drop p b) i 0 within))

-- a spare byte stands at no flags that come before
pub spare_apart : (k last : ℕ) → 0 < k → k < suc last → spare_place k ≡ flags_place last → ⊥
spare_apart k zero some below same = omega arith
spare_apart k (suc last) some below same = omega arith

pub lower : (k last : ℕ) → k < suc last → k ≤ last
lower k last below = omega arith

take_set : (n : ℕ) (xs : List ℕ) (i y : ℕ) → take n (set xs i y) ≡ set (take n xs) i y
take_set zero xs i y = refl
take_set (suc n) [] i y = refl
take_set (suc n) (x ∷ xs) zero y = refl
take_set (suc n) (x ∷ xs) (suc i) y = ap (λ (t : List ℕ). x ∷ t) (take_set n xs i y)

-- the front of a buffer where a bit of it is set
pub front_marked : (n : ℕ) (xs : List ℕ) (i bit : ℕ) → i < n →
    take n (set xs i (bit_or (get_or xs i 0) bit)) ≡ set (take n xs) i (bit_or (get_or (take n xs) i 0) bit)
front_marked n xs i bit below =
    take_set n xs i (bit_or (get_or xs i 0) bit)
    ∙ ap (λ (b : ℕ). set (take n xs) i (bit_or b bit)) (sym (get_or-take n xs i 0 below))
