-- An item is read as it is spelled, and the other laws of a reading.
use Rattle.std.proofs.Common.{◌≡◌, ◌↔◌, ℕ, ◌^◌, ◌<◌, ◌≤◌, Bool, true, false, cond, ltb, List, [], ◌∷◌, ◌++◌, length}
use Rattle.std.proofs.Common.{drop, Ok, Err, refl, sym, ap, subst, ◌∙◌, arith}
use Rattle.std.specs.Int.{w32, from_be_bytes}
use Rattle.std.proofs.lemmas.Nat.{from_be_bytes-to_be_bytes_4}
use Rattle.std.proofs.lemmas.Bool.{ltb-true, ltb-false, lt-ltb, le-ltb, leb-true, le-leb}
use Rattle.std.proofs.lemmas.List.{length-append, drop-append-le, append-nil}
use Rattle.xdr_value.specs.Spelling.{word}
use Rattle.xdr_code.specs.declared.fault.Why.{Why}
use Rattle.xdr_code.specs.declared.fault.Fault.TheVariants.{Deep, Short, Bad}
use Rattle.xdr_code.specs.NumberSets.{NumberSet, up_to, reached, high_word, HasNumber, BeginsOne}
use Rattle.xdr_code.specs.Reading.{AtFront, in_set_at, limited_at}
use Rattle.xdr_code.proofs.Bytes.{IsBytes, IsBytes-drop, word_bytes, wide32, from_front4}
use Rattle.xdr_code.proofs.Meets.{Meets}
use Rattle.xdr_code.proofs.Content.{number_meets_at}
use Rattle.xdr_code.proofs.Reach.{IsReached, grows, some_number, high_is, high_falls, high_below, low_high, low_grows}
use Rattle.xdr_code.proofs.Reach.{begins}
use Rattle.xdr_code.proofs.Relations.{Stays, Ends, Deepens}

-- what four bytes at the front say, low to high
abbrev pub may : NumberSet → List ℕ → Bool
may item bytes = reached item (from_be_bytes w32 bytes) (high_word bytes)

-- the choice that in_set_at makes
abbrev pub chosen : Bool → Bool → Bool → Why → List ℕ → AtFront ℕ
chosen some_byte is_reached short why bytes =
    cond some_byte (cond is_reached (cond short (Err Short) (Ok (from_be_bytes w32 bytes, drop 4 bytes)))
    (Err (Bad (length bytes) why))) (Err Short)

-- a number that the item has
abbrev pub Allowed : NumberSet → ℕ → Type 0
Allowed = HasNumber

-- ---- what is read

meets_at : (item : NumberSet) (why : Why) (bytes : List ℕ) (a b c : Bool) → ltb 0 (length bytes) ≡ a
    → may item bytes ≡ b
    → ltb (length bytes) 4 ≡ c → IsBytes bytes → Meets bytes word (Allowed item) (chosen a b c why bytes)
meets_at item why bytes false b c p q r fits = tt
meets_at item why bytes true false c p q r fits = (ltb-true _ _ p, omega arith)
meets_at item why bytes true true true p q r fits = tt
meets_at item why bytes true true false p q r fits =
    let m = number_meets_at w32 (2 ^ 32) wide32 bytes false r fits in
    let one : high_word bytes ≡ from_be_bytes w32 bytes = high_is bytes (ltb-false _ _ r) in
    (m.0, m.1, (subst (λ (h : ℕ). reached item (from_be_bytes w32 bytes) h ≡ true) one q, m.2))

pub item_meets : (item : NumberSet) (why : Why) (bytes : List ℕ) → IsBytes bytes
    → Meets bytes word (Allowed item) (in_set_at item why bytes)
item_meets item why bytes fits = unfold in_set_at in meets_at item why bytes _ _ _ refl refl refl fits

pub meets_weaker : {A : Type 0} (bytes : List ℕ) (spell : A → List ℕ) (P Q : A → Type 0) (r : AtFront A)
    → ((x : A) → P x → Q x) → Meets bytes spell P r → Meets bytes spell Q r
meets_weaker bytes spell P Q (Ok x) go h = (h.0, h.1, go x.0 h.2)
meets_weaker bytes spell P Q (Err f) go h = h

-- ---- what is spelled

pub word_low : (n : ℕ) (rest : List ℕ) → n < 2 ^ 32 → from_be_bytes w32 (word n ++ rest) ≡ n
word_low n rest lt = from_be_bytes-to_be_bytes_4 n lt

pub word_high : (n : ℕ) (rest : List ℕ) → n < 2 ^ 32 → high_word (word n ++ rest) ≡ n
word_high n rest lt = from_be_bytes-to_be_bytes_4 n lt

pub word_may : (item : NumberSet) (n : ℕ) (rest : List ℕ) → Allowed item n → may item (word n ++ rest) ≡ true
word_may item n rest h =
    grows item (from_be_bytes w32 (word n ++ rest)) (high_word (word n ++ rest)) n n
    (omega (arith, word_low n rest h.1)) (omega (arith, word_high n rest h.1)) h.0

pub item_again : (item : NumberSet) (why : Why) (n : ℕ) (rest : List ℕ) → Allowed item n
    → in_set_at item why (word n ++ rest) ≡ Ok (n, rest)
unfolding in_set_at
item_again item why n rest h =
    let a : ltb 0 (length (word n ++ rest)) ≡ true = lt-ltb _ _ (omega arith) in
    let b : may item (word n ++ rest) ≡ true = word_may item n rest h in
    let c : ltb (length (word n ++ rest)) 4 ≡ false = le-ltb _ _ (omega arith) in
    let is : from_be_bytes w32 (word n ++ rest) ≡ n = word_low n rest h.1 in
    rw (a, b, c, is) refl

-- ---- more bytes

-- what more bytes reach was reached before
pub still_may : (item : NumberSet) (bytes y : List ℕ) → IsBytes y → may item (bytes ++ y) ≡ true → may item bytes ≡ true
still_may item bytes y fits h =
    grows item (from_be_bytes w32 bytes) (high_word bytes) (from_be_bytes w32 (bytes ++ y)) (high_word (bytes ++ y))
    (low_grows bytes y) (high_falls bytes y fits) h

pub still_not : (item : NumberSet) (bytes y : List ℕ) (b : Bool) → IsBytes y → may item (bytes ++ y) ≡ b
    → may item bytes ≡ false → b ≡ false
still_not item bytes y false fits h e = refl
still_not item bytes y true fits h e = absurd (cc (still_may item bytes y fits h, e))

pub same_word : (bytes y : List ℕ) → 4 ≤ length bytes → from_be_bytes w32 (bytes ++ y) ≡ from_be_bytes w32 bytes
same_word bytes y long = from_front4 bytes y long ∙ sym
    (ap (from_be_bytes w32) (sym (append-nil bytes)) ∙ from_front4 bytes [] long)

pub same_may : (item : NumberSet) (bytes y : List ℕ) → 4 ≤ length bytes → may item (bytes ++ y) ≡ may item bytes
same_may item bytes y long =
    let is = same_word bytes y long in
    let top : high_word (bytes ++ y) ≡ high_word bytes = high_is (bytes ++ y) (omega (arith, length-append bytes y)) ∙
    is ∙ sym (high_is bytes long) in
    ap (λ (n : ℕ). reached item n (high_word (bytes ++ y))) is ∙ ap (reached item (from_be_bytes w32 bytes)) top

stays_at : (item : NumberSet) (why : Why) (bytes y : List ℕ) (a b c : Bool) → ltb 0 (length bytes) ≡ a
    → may item bytes ≡ b
    → ltb (length bytes) 4 ≡ c → IsBytes y → Stays y (chosen a b c why bytes) (in_set_at item why (bytes ++ y))
unfolding in_set_at
stays_at item why bytes y false b c p q r fits = tt
stays_at item why bytes y true true true p q r fits = tt
stays_at item why bytes y true false c p q r fits =
    let a : ltb 0 (length (bytes ++ y)) ≡ true = lt-ltb _ _ (omega (arith, ltb-true _ _ p, length-append bytes y)) in
    let b : may item (bytes ++ y) ≡ false = still_not item bytes y _ fits refl q in
    (why, rw (a, b, length-append bytes y) refl)
stays_at item why bytes y true true false p q r fits =
    let long : 4 ≤ length bytes = ltb-false _ _ r in
    let is = same_word bytes y long in
    let a : ltb 0 (length (bytes ++ y)) ≡ true = lt-ltb _ _ (omega (arith, length-append bytes y)) in
    let b : may item (bytes ++ y) ≡ true = same_may item bytes y long ∙ q in
    let c : ltb (length (bytes ++ y)) 4 ≡ false = le-ltb _ _ (omega (arith, length-append bytes y)) in
    rw (a, b, c, is, drop-append-le 4 bytes y long) refl

pub item_stays : (item : NumberSet) (why : Why) (bytes y : List ℕ) → IsBytes y
    → Stays y (in_set_at item why bytes) (in_set_at item why (bytes ++ y))
item_stays item why bytes y fits = unfold in_set_at in stays_at item why bytes y _ _ _ refl refl refl fits

-- ---- bytes that run short

-- a number that is reached has the bytes in front
pub completed : (item : NumberSet) (bytes : List ℕ) → IsBytes bytes → length bytes < 4
    → (r : IsReached item (from_be_bytes w32 bytes) (high_word bytes))
    → (n : ℕ) × (y : List ℕ) × Allowed item n × (bytes ++ y ≡ word n)
completed item bytes fits lt r = (
  r.number,
  drop (length bytes) (word r.number),
  (r.allowed, omega (arith, r.under, high_below bytes fits)),
  begins
      bytes r.number fits lt r.above r.under,
)

ends_at : (item : NumberSet) (why : Why) (first : ℕ) (bytes : List ℕ) (a b c : Bool) → ltb 0 (length bytes) ≡ a
    → may item bytes ≡ b → ltb (length bytes) 4 ≡ c → IsBytes bytes → Allowed item first
    → Ends bytes word (Allowed item) (chosen a b c why bytes)
ends_at item why first [] false b c p q r fits has = (first, word first, has, refl)
ends_at item why first (x ∷ bytes) false b c p q r fits has = absurd (omega (arith, ltb-false _ _ p))
ends_at item why first bytes true false c p q r fits has = tt
ends_at item why first bytes true true false p q r fits has = tt
ends_at item why first bytes true true true p q r fits has =
    completed item bytes fits (ltb-true _ _ r)
    (some_number item (from_be_bytes w32 bytes) (high_word bytes) (low_high bytes) q)

pub item_ends : (item : NumberSet) (why : Why) (first : ℕ) (bytes : List ℕ) → IsBytes bytes → Allowed item first
    → Ends bytes word (Allowed item) (in_set_at item why bytes)
item_ends item why first bytes fits has = unfold in_set_at in ends_at item why first bytes _ _ _ refl refl refl fits has

-- ---- levels

never_at : (P : Type 0) (a b c : Bool) (why : Why) (bytes : List ℕ) → Deepens P (chosen a b c why bytes)
never_at P false b c why bytes = tt
never_at P true false c why bytes = tt
never_at P true true false why bytes = tt
never_at P true true true why bytes = tt

pub item_never : (P : Type 0) (item : NumberSet) (why : Why) (bytes : List ℕ) → Deepens P (in_set_at item why bytes)
item_never P item why bytes = unfold in_set_at in never_at P (ltb 0 (length bytes)) (may item bytes)
    (ltb (length bytes) 4) why bytes

-- ---- a number that is at most a limit

abbrev pub AtMost : ℕ → ℕ → Type 0
AtMost limit n = (n ≤ limit) × (n < 2 ^ 32)

at_most : (limit n : ℕ) → Allowed (up_to limit) n → AtMost limit n
at_most limit n h = (leb-true n limit h.0, h.1)

pub limited_meets : (limit : ℕ) (why : Why) (bytes : List ℕ) → IsBytes bytes
    → Meets bytes word (AtMost limit) (limited_at limit why bytes)
limited_meets limit why bytes fits = meets_weaker bytes word (Allowed (up_to limit)) (AtMost limit)
    (in_set_at (up_to limit) why bytes) (at_most limit) (item_meets (up_to limit) why bytes fits)

pub limited_again : (limit : ℕ) (why : Why) (n : ℕ) (rest : List ℕ) → n ≤ limit → n < 2 ^ 32
    → limited_at limit why (word n ++ rest) ≡ Ok (n, rest)
limited_again limit why n rest le lt = item_again (up_to limit) why n rest (le-leb n limit le, lt)

pub limited_stays : (limit : ℕ) (why : Why) (bytes y : List ℕ) → IsBytes y
    → Stays y (limited_at limit why bytes) (limited_at limit why (bytes ++ y))
limited_stays limit why bytes y fits = item_stays (up_to limit) why bytes y fits

pub ends_weaker : {A : Type 0} (bytes : List ℕ) (spell : A → List ℕ) (P Q : A → Type 0) (r : AtFront A)
    → ((x : A) → P x → Q x) → Ends bytes spell P r → Ends bytes spell Q r
ends_weaker bytes spell P Q (Ok x) go h = tt
ends_weaker bytes spell P Q (Err Deep) go h = tt
ends_weaker bytes spell P Q (Err Short) go (x, y, p, e) = (x, y, go x p, e)
ends_weaker bytes spell P Q (Err (Bad left why)) go h = tt

pub limited_ends : (limit : ℕ) (why : Why) (bytes : List ℕ) → IsBytes bytes
    → Ends bytes word (AtMost limit) (limited_at limit why bytes)
limited_ends limit why bytes fits =
    ends_weaker bytes word (Allowed (up_to limit)) (AtMost limit) (in_set_at (up_to limit) why bytes) (at_most limit)
    (item_ends (up_to limit) why 0 bytes fits (le-leb 0 limit (omega arith), omega arith))

pub never_limited : (P : Type 0) (limit : ℕ) (why : Why) (bytes : List ℕ) → Deepens P (limited_at limit why bytes)
never_limited P limit why bytes = item_never P (up_to limit) why bytes

-- ---- an item that is cut short

begun : (item : NumberSet) (bytes : List ℕ) → BeginsOne item bytes → may item bytes ≡ true
begun item bytes (n, y, fits, has, is) =
    let whole : may item (word n) ≡ true = subst (λ (s : List ℕ). may item s ≡ true) (append-nil (word n))
    (word_may item n [] has) in
    still_may item bytes y fits (subst (λ (s : List ℕ). may item s ≡ true) (sym is) whole)

pub item_law : (item : NumberSet) (bytes : List ℕ) → IsBytes bytes → length bytes < 4
    → (may item bytes ≡ true) ↔ BeginsOne item bytes
unfolding completed
item_law item bytes fits lt = (
  λ h.
      let r = some_number item (from_be_bytes w32 bytes) (high_word bytes) (low_high bytes) h in
      let c = completed item bytes fits lt r in
      (c.0, c.1, IsBytes-drop (length bytes) (word c.0) (word_bytes c.0), c.2, c.3),
  begun item bytes,
)
