-- What the bytes at the front can become.
use Rattle.std.proofs.Common.{◌≡◌, ℕ, ℤ, zero, suc, ◌-◌, ◌/◌, ◌%◌, ◌^◌, ◌<◌, ◌≤◌, Bool, true, false, ◌&&◌, ◌||◌, cond}
use Rattle.std.proofs.Common.{ltb, leb, List, [], ◌∷◌, ◌++◌, length, get_or, drop, Option, Some, None, refl, sym, ap}
use Rattle.std.proofs.Common.{subst, ◌∙◌, arith, inl, inr}
use Rattle.std.specs.Int.{w32, from_be_bytes, cast_unsigned, cast_signed}
use Rattle.std.specs.Ordering.{int_eq}
use lib.IntN.{pos, negsuc}
use Rattle.std.proofs.lemmas.Bool.{and_parts, and_from, or_cases, or_left, or_right, ltb-true, lt-ltb, leb-true, le-leb}
use Rattle.std.proofs.lemmas.Bool.Decides.{Decides-int_eq}
use Rattle.xdr_value.specs.Data.{Choice}
use Rattle.xdr_value.specs.Ranges.{IsWithin, has_number}
use Rattle.xdr_value.specs.Heads.{own_arm, is_case}
use Rattle.xdr_value.specs.Spelling.{word}
use Rattle.xdr_value.proofs.Tells.{within, below}
use Rattle.xdr_code.specs.NumberSets.{NumberSet, up_to, around, among, in_word, between, some_between, reached}
use Rattle.xdr_code.specs.NumberSets.{high_word, numbers, with_case, case_numbers}
use Rattle.xdr_code.proofs.Bytes.{IsBytes}

-- the number that four bytes hold
abbrev pub numbered : Bool → ℕ → ℤ
numbered true n = cast_signed w32 n
numbered false n = pos n

-- a number that is between
pub record IsBetween (signed : Bool) (z : ℤ) (low high : ℕ) : Type 0 where
  pub holds : in_word signed z ≡ true
  pub above : low ≤ cast_unsigned w32 z
  pub under : cast_unsigned w32 z ≤ high

between_is : (signed : Bool) (z : ℤ) (low high : ℕ) → between signed z low high ≡ true → IsBetween signed z low high
between_is signed z low high h =
    let p = and_parts (in_word signed z) (leb low (cast_unsigned w32 z) && leb (cast_unsigned w32 z) high) h in
    let q = and_parts (leb low (cast_unsigned w32 z)) (leb (cast_unsigned w32 z) high) p.1 in
    record { holds = p.0; above = leb-true _ _ q.0; under = leb-true _ _ q.1 }

is_between : (signed : Bool) (z : ℤ) (low high : ℕ) → IsBetween signed z low high → between signed z low high ≡ true
is_between signed z low high r =
    and_from (in_word signed z) (leb low (cast_unsigned w32 z) && leb (cast_unsigned w32 z) high) r.holds
    (and_from (leb low (cast_unsigned w32 z)) (leb (cast_unsigned w32 z) high) (le-leb _ _ r.above)
    (le-leb _ _ r.under))

-- the list has the number
abbrev pub is_in : List ℤ → ℤ → Bool
is_in [] z = false
is_in (y ∷ ys) z = int_eq y z || is_in ys z

pub one_of : (signed : Bool) (zs : List ℤ) (low high : ℕ) → some_between signed zs low high ≡ true
    → (z : ℤ) × IsBetween signed z low high × (is_in zs z ≡ true)
one_of signed [] low high h = absurd cc
one_of signed (y ∷ ys) low high h =
    elim (or_cases (between signed y low high) (some_between signed ys low high) h) [
      | inl p ↦ (y, between_is signed y low high p, or_left (int_eq y y) (is_in ys y) ((Decides-int_eq y y).1 refl))
      | inr p ↦ let r = one_of signed ys low high p in (r.0, r.1, or_right (int_eq y r.0) (is_in ys r.0) r.2)
    ]

pub of_one : (signed : Bool) (zs : List ℤ) (z : ℤ) (low high : ℕ) → is_in zs z ≡ true → IsBetween signed z low high
    → some_between signed zs low high ≡ true
of_one signed [] z low high h r = absurd cc
of_one signed (y ∷ ys) z low high h r =
    elim (or_cases (int_eq y z) (is_in ys z) h) [
      | inl p ↦ or_left (between signed y low high) (some_between signed ys low high)
          (subst (λ (x : ℤ). between signed x low high ≡ true) (sym ((Decides-int_eq y z).0 p))
          (is_between signed z low high r))
      | inr p ↦ or_right (between signed y low high) (some_between signed ys low high) (of_one signed ys z low high p r)
    ]

holds_back : (signed : Bool) (z : ℤ) → in_word signed z ≡ true
    → ((w : ℤ) → IsWithin (2 ^ 31) w → cast_signed w32 (cast_unsigned w32 w) ≡ w)
    → numbered signed (cast_unsigned w32 z) ≡ z
holds_back true z h back = back z ((within (2 ^ 31) z).0 h)
holds_back false (pos n) h back = refl
holds_back false (negsuc n) h back = absurd ((below (2 ^ 32) (negsuc n)).0 h)

-- where one number alone is reached, it is the one of the list
pub exactly : (signed : Bool) (zs : List ℤ) (n : ℕ)
    → ((w : ℤ) → IsWithin (2 ^ 31) w → cast_signed w32 (cast_unsigned w32 w) ≡ w) → some_between signed zs n n ≡ true
    → (in_word signed (numbered signed n) ≡ true) × (is_in zs (numbered signed n) ≡ true)
exactly signed zs n back h =
    let r = one_of signed zs n n h in
    let is : cast_unsigned w32 r.0 ≡ n = omega (arith, r.1.above, r.1.under) in
    let e : r.0 ≡ numbered signed n = sym (holds_back signed r.0 r.1.holds back) ∙ ap (numbered signed) is in
    (subst (λ (z : ℤ). in_word signed z ≡ true) e r.1.holds, subst (λ (z : ℤ). is_in zs z ≡ true) e r.2)

-- ---- wider and narrower

pub grows : (item : NumberSet) (low high low' high' : ℕ) → low ≤ low' → high' ≤ high → reached item low' high' ≡ true
    → reached item low high ≡ true
grows (up_to n) low high low' high' le ge h = le-leb low n (omega (arith, le, leb-true low' n h))
grows (around m) low high low' high' le ge h =
    elim (or_cases (ltb low' m) (leb (2 ^ 32 - m) high') h) [
      | inl p ↦ or_left (ltb low m) (leb (2 ^ 32 - m) high) (lt-ltb low m (omega (arith, le, ltb-true low' m p)))
      | inr p ↦ or_right (ltb low m) (leb (2 ^ 32 - m) high)
          (le-leb (2 ^ 32 - m) high (omega (arith, ge, leb-true (2 ^ 32 - m) high' p)))
    ]
grows (among signed zs) low high low' high' le ge h =
    let r = one_of signed zs low' high' h in
    of_one signed zs r.0 low high r.2
    (record { holds = r.1.holds; above = omega (arith, le, r.1.above); under = omega (arith, ge, r.1.under) })

-- a number of the item that is reached
pub record IsReached (item : NumberSet) (low high : ℕ) : Type 0 where
  pub number : ℕ
  pub above : low ≤ number
  pub under : number ≤ high
  pub allowed : reached item number number ≡ true

pub some_number : (item : NumberSet) (low high : ℕ) → low ≤ high → reached item low high ≡ true
    → IsReached item low high
some_number (up_to n) low high le h = record { number = low; above = omega arith; under = le; allowed = h }
some_number (around m) low high le h =
    elim (or_cases (ltb low m) (leb (2 ^ 32 - m) high) h) [
      | inl p ↦ record {
        number = low;
        above = omega arith;
        under = le;
        allowed = or_left (ltb low m)
            (leb (2 ^ 32 - m) low) p;
      }
      | inr p ↦ record {
        number = high;
        above = le;
        under = omega arith;
        allowed = or_right (ltb high m)
            (leb (2 ^ 32 - m) high) p;
      }
    ]
some_number (among signed zs) low high le h =
    let r = one_of signed zs low high h in
    record {
      number = cast_unsigned w32 r.0;
      above = r.1.above;
      under = r.1.under;
      allowed = of_one signed zs r.0 (cast_unsigned w32 r.0) (cast_unsigned w32 r.0) r.2
          (record { holds = r.1.holds; above = omega arith; under = omega arith });
    }

-- ---- bytes that can become a number

-- where four bytes are there, the least and the greatest are one
pub high_is : (bytes : List ℕ) → 4 ≤ length bytes → high_word bytes ≡ from_be_bytes w32 bytes
high_is [] h = absurd (omega arith)
high_is (a ∷ []) h = absurd (omega arith)
high_is (a ∷ b ∷ []) h = absurd (omega arith)
high_is (a ∷ b ∷ c ∷ []) h = absurd (omega arith)
high_is (a ∷ b ∷ c ∷ d ∷ bytes) h = refl

byte_most : (y : List ℕ) (i : ℕ) → IsBytes y → get_or y i 255 ≤ 255
byte_most [] i fits = omega arith
byte_most (b ∷ y) zero fits = omega (arith, fits 0)
byte_most (b ∷ y) (suc i) fits = byte_most y i (λ j. fits (suc j))

-- the greatest is a number of four bytes, and no less than the least
pub high_below : (bytes : List ℕ) → IsBytes bytes → high_word bytes < 2 ^ 32
high_below bytes fits = omega (
  arith,
  byte_most bytes 0 fits,
  byte_most bytes 1 fits,
  byte_most bytes 2 fits,
  byte_most
      bytes 3 fits,
)

pub low_high : (bytes : List ℕ) → from_be_bytes w32 bytes ≤ high_word bytes
low_high [] = omega arith
low_high (a ∷ []) = omega arith
low_high (a ∷ b ∷ []) = omega arith
low_high (a ∷ b ∷ c ∷ []) = omega arith
low_high (a ∷ b ∷ c ∷ d ∷ bytes) = omega arith

-- more bytes make it no less
pub low_grows : (bytes y : List ℕ) → from_be_bytes w32 bytes ≤ from_be_bytes w32 (bytes ++ y)
low_grows [] y = omega arith
low_grows (a ∷ []) y = omega arith
low_grows (a ∷ b ∷ []) y = omega arith
low_grows (a ∷ b ∷ c ∷ []) y = omega arith
low_grows (a ∷ b ∷ c ∷ d ∷ bytes) y = omega arith

-- more bytes make the greatest no greater
pub high_falls : (bytes y : List ℕ) → IsBytes y → high_word (bytes ++ y) ≤ high_word bytes
high_falls [] y fits = omega (arith, byte_most y 0 fits, byte_most y 1 fits, byte_most y 2 fits, byte_most y 3 fits)
high_falls (a ∷ []) y fits = omega (arith, byte_most y 0 fits, byte_most y 1 fits, byte_most y 2 fits)
high_falls (a ∷ b ∷ []) y fits = omega (arith, byte_most y 0 fits, byte_most y 1 fits)
high_falls (a ∷ b ∷ c ∷ []) y fits = omega (arith, byte_most y 0 fits)
high_falls (a ∷ b ∷ c ∷ d ∷ bytes) y fits = omega arith

-- a number between the two begins with the bytes
pub begins : (bytes : List ℕ) (n : ℕ) → IsBytes bytes → length bytes < 4 → from_be_bytes w32 bytes ≤ n
    → n ≤ high_word bytes → bytes ++ drop (length bytes) (word n) ≡ word n
begins [] n fits lt low high = refl
begins (a ∷ []) n fits lt low high =
    let x : a ≡ n / 16777216 % 256 = omega (arith, fits 0) in
    ap (λ (c : ℕ). c ∷ drop 1 (word n)) x
begins (a ∷ b ∷ []) n fits lt low high =
    let x : a ≡ n / 16777216 % 256 = omega (arith, fits 0, fits 1) in
    let y : b ≡ n / 65536 % 256 = omega (arith, fits 0, fits 1) in
    rw (← x, ← y) refl
begins (a ∷ b ∷ c ∷ []) n fits lt low high =
    let x : a ≡ n / 16777216 % 256 = omega (arith, fits 0, fits 1, fits 2) in
    let y : b ≡ n / 65536 % 256 = omega (arith, fits 0, fits 1, fits 2) in
    let z : c ≡ n / 256 % 256 = omega (arith, fits 0, fits 1, fits 2) in
    rw (← x, ← y, ← z) refl
begins (a ∷ b ∷ c ∷ d ∷ bytes) n fits lt low high = absurd (omega arith)

-- ---- the numbers of enums and unions

pub of_enum : (ms : List (List ℕ × ℤ)) (z : ℤ) → is_in (numbers ms) z ≡ has_number ms z
of_enum [] z = refl
of_enum (m ∷ ms) z = ap (λ (b : Bool). int_eq m.1 z || b) (of_enum ms z)

own_of : (b : Bool) (c : Choice) (x : Bool) (rest : Option Choice) → (x ≡ true → (d : Choice) × (rest ≡ Some d))
    → (b || x) ≡ true → (d : Choice) × (cond b (Some c) rest ≡ Some d)
own_of true c x rest go h = (c, refl)
own_of false c x rest go h = go h

first_own : (z : ℤ) (o : Option ℤ) (c : Choice) (zs : List ℤ) (rest : Option Choice)
    → (is_in zs z ≡ true → (d : Choice) × (rest ≡ Some d)) → is_in (with_case o zs) z ≡ true
    → (d : Choice) × (cond (is_case z o) (Some c) rest ≡ Some d)
first_own z None c zs rest go h = go h
first_own z (Some y) c zs rest go h = own_of (int_eq y z) c (is_in zs z) rest go h

-- a number that is one of the cases has an arm of its own
pub own_case : (z : ℤ) (cs : List Choice) → is_in (case_numbers cs) z ≡ true → (c : Choice) × (own_arm z cs ≡ Some c)
own_case z [] h = absurd cc
own_case z (c ∷ cs) h = first_own z c.case c (case_numbers cs) (own_arm z cs) (own_case z cs) h

in_rest : (b : Bool) (c d : Choice) (x : Bool) (rest : Option Choice) → (rest ≡ Some d → x ≡ true)
    → cond b (Some c) rest ≡ Some d → (b || x) ≡ true
in_rest true c d x rest go h = refl
in_rest false c d x rest go h = go h

in_first : (z : ℤ) (o : Option ℤ) (c d : Choice) (zs : List ℤ) (rest : Option Choice)
    → (rest ≡ Some d → is_in zs z ≡ true) → cond (is_case z o) (Some c) rest ≡ Some d → is_in (with_case o zs) z ≡ true
in_first z None c d zs rest go h = go h
in_first z (Some y) c d zs rest go h = in_rest (int_eq y z) c d (is_in zs z) rest go h

-- and the other way round
pub case_own : (z : ℤ) (cs : List Choice) (d : Choice) → own_arm z cs ≡ Some d → is_in (case_numbers cs) z ≡ true
case_own z [] d h = absurd cc
case_own z (c ∷ cs) d h = in_first z c.case c d (case_numbers cs) (own_arm z cs) (case_own z cs d) h
