-- Places and what lies in them.
use Rattle.std.proofs.Common.{◌≡◌, inl, inr, ◌<◌, ◌≤◌, ◌+◌, ◌-◌, ◌^◌, is_some}
use Rattle.std.proofs.Common.{true, ℕ, suc, zero, List, [], ◌∷◌, ◌++◌, length, set, drop}
use Rattle.std.proofs.Common.{Option, Some, None, refl, sym, ap, subst, ◌∙◌, arith}
use Rattle.std.proofs.lemmas.Bool.{cases_lt, cases_eq, false≢true}
use Rattle.rx_model.specs.declared.wire.TheConstants.{PAYLOAD_BYTES}
use Rattle.rx_recvwin.specs.declared.packet.KeptPacket.{KeptPacket}
use Rattle.rx_recvwin.specs.Places.{place_at, leading, count_in, slots_in, HasSeqs, HasSizes}

-- ---- places

pub leading_all : {X : Type 0} (bs : List (Option X)) (i : ℕ) → i < leading bs → is_some (place_at bs i) ≡ true
leading_all [] i lt = absurd (omega (arith, lt))
leading_all (None ∷ bs) i lt = absurd (omega (arith, lt))
leading_all (Some b ∷ bs) zero lt = refl
leading_all (Some b ∷ bs) (suc i) lt = leading_all bs i (omega (arith, lt))

pub leading_stops : {X : Type 0} (bs : List (Option X)) → place_at bs (leading bs) ≡ None
leading_stops [] = refl
leading_stops (None ∷ bs) = refl
leading_stops (Some b ∷ bs) = leading_stops bs

pub place_next : {X : Type 0} (bs : List (Option X)) (i : ℕ) → place_at (drop 1 bs ++ None ∷ []) i ≡ place_at bs (suc i)
place_next [] zero = refl
place_next [] (suc i) = refl
place_next (b ∷ []) zero = refl
place_next (b ∷ []) (suc i) = refl
place_next (b ∷ c ∷ bs) zero = refl
place_next (b ∷ c ∷ bs) (suc i) = place_next (c ∷ bs) i

pub place_set_own : {X : Type 0} (bs : List (Option X)) (i : ℕ) (b : Option X) → i < length bs →
    place_at (set bs i b) i ≡ b
place_set_own [] i b lt = absurd (omega (arith, lt))
place_set_own (x ∷ bs) zero b lt = refl
place_set_own (x ∷ bs) (suc i) b lt = place_set_own bs i b (omega (arith, lt))

pub place_set_other : {X : Type 0} (bs : List (Option X)) (i j : ℕ) (b : Option X) → (i ≡ j → ⊥) →
    place_at (set bs i b) j ≡ place_at bs j
place_set_other [] i j b apart = refl
place_set_other (x ∷ bs) zero zero b apart = absurd (apart refl)
place_set_other (x ∷ bs) zero (suc j) b apart = refl
place_set_other (x ∷ bs) (suc i) zero b apart = refl
place_set_other (x ∷ bs) (suc i) (suc j) b apart = place_set_other bs i j b (λ e. apart (ap suc e))

pub some_same : {X : Type 0} (x y : X) → Some x ≡ Some y → x ≡ y
some_same x y h = cc

pub place_set_past : {X : Type 0} (xs : List (Option X)) (i j : ℕ) (x : Option X) → length xs ≤ i →
    place_at (set xs i x) j ≡ place_at xs j
place_set_past [] i j x le = refl
place_set_past (y ∷ xs) zero j x le = absurd (omega (arith, le))
place_set_past (y ∷ xs) (suc i) zero x le = refl
place_set_past (y ∷ xs) (suc i) (suc j) x le = place_set_past xs i j x (omega (arith, le))

pub leading_fits : {X : Type 0} (u : ℕ) (bs : List (Option X)) → HasSeqs u bs → u + leading bs < 2 ^ 32 - 1
leading_fits u bs f =
    elim (cases_lt 0 (leading bs)) as (λ _. u + leading bs < 2 ^ 32 - 1) [
      | inl lt ↦ (let at = f.1 (leading bs - 1) (leading_all bs (leading bs - 1) (omega (arith, lt))) in omega
          (arith, at, lt))
      | inr le ↦ (let least = f.0 in omega (arith, least, le))
    ]

pub fits_moved : {X : Type 0} (u : ℕ) (bs : List (Option X)) → HasSeqs u bs → is_some (place_at bs 0) ≡ true →
    HasSeqs (u + 1) (drop 1 bs ++ None ∷ [])
fits_moved u bs f h = (
  let at = f.1 0 h in omega (arith, at),
  λ i t. (let at = f.1 (suc i)
      (ap is_some (sym (place_next bs i)) ∙ t) in omega (arith, at)),
)

pub fits_put : {X : Type 0} (u : ℕ) (bs : List (Option X)) (i : ℕ) (b : Option X) → HasSeqs u bs →
    suc (u + i) < 2 ^ 32 - 1 → HasSeqs u (set bs i b)
fits_put u bs i b f lt = (
  f.0,
  λ j t. elim (cases_eq i j) as (λ _. suc (u + j) < 2 ^ 32 - 1) [
    | inl e ↦ omega (arith, e, lt)
    | inr apart ↦ f.1 j (ap is_some (sym (place_set_other bs i j b apart)) ∙ t)
  ],
)

-- ---- turned: the first place goes to the end, freed

pub leading_end_none : {X : Type 0} (xs : List (Option X)) → leading (xs ++ None ∷ []) ≡ leading xs
leading_end_none [] = refl
leading_end_none (None ∷ xs) = refl
leading_end_none (Some x ∷ xs) = ap suc (leading_end_none xs)

pub leading_turned : {X : Type 0} (xs : List (Option X)) → is_some (place_at xs 0) ≡ true →
    suc (leading (drop 1 xs ++ None ∷ [])) ≡ leading xs
leading_turned [] h = absurd (false≢true h)
leading_turned (None ∷ xs) h = absurd (false≢true h)
leading_turned (Some x ∷ xs) h = ap suc (leading_end_none xs)

pub count_end_none : {X : Type 0} (xs : List (Option X)) → count_in (xs ++ None ∷ []) ≡ count_in xs
count_end_none [] = refl
count_end_none (None ∷ xs) = count_end_none xs
count_end_none (Some x ∷ xs) = ap suc (count_end_none xs)

pub count_turned : {X : Type 0} (xs : List (Option X)) → is_some (place_at xs 0) ≡ true →
    suc (count_in (drop 1 xs ++ None ∷ [])) ≡ count_in xs
count_turned [] h = absurd (false≢true h)
count_turned (None ∷ xs) h = absurd (false≢true h)
count_turned (Some x ∷ xs) h = ap suc (count_end_none xs)

pub sized_turned : (hs : List (Option KeptPacket)) → HasSizes hs → HasSizes (drop 1 hs ++ None ∷ [])
sized_turned hs s = λ i h e. s (suc i) h (sym (place_next hs i) ∙ e)

pub slots_end : (hs : List (Option KeptPacket)) → slots_in (hs ++ None ∷ []) ≡ slots_in hs
slots_end [] = refl
slots_end (None ∷ hs) = slots_end hs
slots_end (Some h ∷ hs) = ap (λ ss. h.slot ∷ ss) (slots_end hs)

-- ---- one more place is taken

pub leading_put : {X : Type 0} (xs : List (Option X)) (i : ℕ) (x : X) → leading xs ≤ leading (set xs i (Some x))
leading_put [] i x = omega arith
leading_put (None ∷ xs) i x = omega arith
leading_put (Some y ∷ xs) zero x = omega arith
leading_put (Some y ∷ xs) (suc i) x = (let rest = leading_put xs i x in omega (arith, rest))

pub leading_from : {X : Type 0} (xs : List (Option X)) (n : ℕ) → n ≤ leading xs → leading xs ≡ n + leading (drop n xs)
leading_from xs zero le = omega arith
leading_from [] (suc n) le = absurd (omega (arith, le))
leading_from (None ∷ xs) (suc n) le = absurd (omega (arith, le))
leading_from (Some x ∷ xs) (suc n) le = (let rest = leading_from xs n (omega (arith, le)) in omega (arith, rest))

pub leading_most : {X : Type 0} (xs : List (Option X)) → leading xs ≤ length xs
leading_most [] = omega arith
leading_most (None ∷ xs) = omega arith
leading_most (Some x ∷ xs) = (let rest = leading_most xs in omega (arith, rest))

pub count_put : {X : Type 0} (xs : List (Option X)) (i : ℕ) (x : X) → i < length xs → place_at xs i ≡ None →
    count_in (set xs i (Some x)) ≡ suc (count_in xs)
count_put [] i x lt none = absurd (omega (arith, lt))
count_put (None ∷ xs) zero x lt none = refl
count_put (Some y ∷ xs) zero x lt none = absurd (false≢true (ap is_some (sym none)))
count_put (None ∷ xs) (suc i) x lt none = count_put xs i x (omega (arith, lt)) none
count_put (Some y ∷ xs) (suc i) x lt none = ap suc (count_put xs i x (omega (arith, lt)) none)

pub count_most : {X : Type 0} (xs : List (Option X)) → count_in xs ≤ length xs
count_most [] = omega arith
count_most (None ∷ xs) = (let rest = count_most xs in omega (arith, rest))
count_most (Some x ∷ xs) = (let rest = count_most xs in omega (arith, rest))

pub sized_put : (hs : List (Option KeptPacket)) (i : ℕ) (h : KeptPacket) → HasSizes hs → h.size ≤ PAYLOAD_BYTES →
    HasSizes (set hs i (Some h))
sized_put hs i h s le =
    λ j g e. elim (cases_eq i j) as (λ _. g.size ≤ PAYLOAD_BYTES) [
      | inl same ↦ (
          elim (cases_lt i (length hs)) as (λ _. g.size ≤ PAYLOAD_BYTES) [
            | inl lt ↦ (
                let is : Some h ≡ Some g = (
                sym (place_set_own hs i (Some h) lt) ∙ ap (place_at (set hs i (Some h))) same ∙ e) in
                let one : h ≡ g = some_same h g is in
                subst (λ (k : KeptPacket). k.size ≤ PAYLOAD_BYTES) one le)
            | inr past ↦ s j g (sym (place_set_past hs i j (Some h) past) ∙ e)
          ])
      | inr apart ↦ s j g (sym (place_set_other hs i j (Some h) apart) ∙ e)
    ]
