-- What the words of a line give, where they give something.
use Rattle.std.proofs.Common.{◌≡◌, ◌≤◌, ◌&&◌, ℕ, Bool, true, false, List, [], ◌∷◌, Option, Some, None, Result, Ok, Err}
use Rattle.std.proofs.Common.{refl}
use Rattle.std.proofs.Common.{drop, if◌then◌else◌}
use Rattle.std.specs.Prelude.{IfOk, IfSome, nat_le}
use Rattle.std.specs.Option.{ok_or}
use Rattle.std.specs.Str.Parse.{digits_value}
use Rattle.std.proofs.lemmas.Bool.{and_parts, leb-true}
use Rattle.rx_script.specs.declared.fault.LineWhy.{LineWhy}
use Rattle.rx_script.specs.declared.fault.LineWhy.TheVariants.{Number}
use Rattle.rx_script.specs.Numbers.{is_decimal, number_within}
use Rattle.rx_script.specs.Words.{LineForm, and_then, end, number_word, value_word, word}

-- ---- steps

-- one step and then another
pub if_and : {A B : Type 0} (r : Result A LineWhy) (next : A → Result B LineWhy) (Q : A → Type 0) (P : B → Type 0)
    → IfOk r Q → ((a : A) → Q a → IfOk (next a) P) → IfOk (and_then r next) P
if_and (Ok a) next Q P holds more = more a holds
if_and (Err why) next Q P holds more = tt

pub any_ok : {A : Type 0} (r : Result A LineWhy) → IfOk r (λ a. Unit {0})
any_ok (Ok a) = tt
any_ok (Err why) = tt

-- one of two steps
pub if_either : {A : Type 0} (test : Bool) (r s : Result A LineWhy) (P : A → Type 0) → IfOk r P → IfOk s P
    → IfOk (if test then r else s) P
if_either true r s P first other = first
if_either false r s P first other = other

-- a step where a test holds
pub if_test : {A : Type 0} (test : Bool) (r : Result A LineWhy) (why : LineWhy) (P : A → Type 0)
    → (test ≡ true → IfOk r P) → IfOk (if test then r else Err why) P
if_test true r why P holds = holds refl
if_test false r why P holds = tt

-- something, where a test holds
pub if_taken : {A : Type 0} (test : Bool) (o : Option A) (P : A → Type 0) → (test ≡ true → IfSome o P)
    → IfSome (if test then o else None) P
if_taken true o P holds = holds refl
if_taken false o P holds = tt

-- and where it doesn't
pub if_left : {A : Type 0} (test : Bool) (o : Option A) (P : A → Type 0) → (test ≡ false → IfSome o P)
    → IfSome (if test then None else o) P
if_left true o P holds = tt
if_left false o P holds = holds refl

pub if_or : {A : Type 0} (o : Option A) (why : LineWhy) (P : A → Type 0) → IfSome o P → IfOk (ok_or o why) P
if_or (Some a) why P holds = holds
if_or None why P holds = tt

-- ---- words

-- a word of this kind, and then more words
pub if_word : {A L : Type 0} (read : List ℕ → Result A LineWhy) (more : A → LineForm L) (Q : A → Type 0)
    (P : L → Type 0) → ((w : List ℕ) → IfOk (read w) Q) → ((a : A) → Q a → (ws : List (List ℕ)) → IfOk (more a ws) P)
    → (words : List (List ℕ)) → IfOk (word read more words) P
if_word read more Q P holds next [] = tt
if_word read more Q P holds next (w ∷ ws) =
    if_and (read w) (λ a. more a (drop 1 (w ∷ ws))) Q P (holds w) (λ a there. next a there (drop 1 (w ∷ ws)))

-- any word, and then more words
pub if_any : {A L : Type 0} (read : List ℕ → Result A LineWhy) (more : A → LineForm L) (P : L → Type 0)
    → ((a : A) (ws : List (List ℕ)) → IfOk (more a ws) P) → (words : List (List ℕ)) → IfOk (word read more words) P
if_any read more P next = if_word read more (λ a. Unit {0}) P (λ w. any_ok (read w)) (λ a any ws. next a ws)

-- no more words
pub if_end : {L : Type 0} (line : L) (P : L → Type 0) → P line → (words : List (List ℕ)) → IfOk (end line words) P
if_end line P there [] = there
if_end line P there (w ∷ ws) = tt

pub if_value : {A : Type 0} (read : List ℕ → Option A) (P : A → Type 0) → ((w : List ℕ) → IfSome (read w) P)
    → (w : List ℕ) → IfOk (value_word read w) P
if_value read P holds [] = tt
if_value read P holds (b ∷ bs) = if_or (read (b ∷ bs)) Number P (holds (b ∷ bs))

-- ---- numbers

-- the bounds of a number
abbrev pub Within : ℕ → ℕ → ℕ → Type 0
Within low high n = (low ≤ n) × (n ≤ high)

pub within_well : (low high : ℕ) (w : List ℕ) → IfSome (number_within low high w) (Within low high)
within_well low high w =
    (let v = digits_value 10 w in
    if_taken (is_decimal w && (nat_le low v && nat_le v high)) (Some v) (Within low high) (λ yes.
    let both = and_parts (is_decimal w) (nat_le low v && nat_le v high) yes in
    let bounds = and_parts (nat_le low v) (nat_le v high) both.1 in
    (leb-true low v bounds.0, leb-true v high bounds.1)))

pub number_well : (low high : ℕ) (w : List ℕ) → IfOk (number_word low high w) (Within low high)
number_well low high w = if_value (number_within low high) (Within low high) (within_well low high) w
