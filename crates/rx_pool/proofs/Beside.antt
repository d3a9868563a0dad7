-- Two that hold slots of one pool, side by side: what one does leaves the other's, and both together keep the pool's
-- rules. For a call over its two windows, and a node over its calls.
use Rattle.std.proofs.Common.{◌≡◌, ◌⊎◌, inl, inr, Bool, true, false, ℕ, List, []}
use Rattle.std.proofs.Common.{◌∷◌, ◌++◌, sym, ap, ◌∙◌, arith, length-append}
use Rattle.std.proofs.lemmas.Bool.{cases_Bool, false≢true}
use Rattle.rx_pool.specs.Pool.{Slots, IsSlotOf, has, HasNoRepeat, bytes_at}
use Rattle.rx_pool.specs.Held.{Holds, Keeps, Stays}
use Rattle.rx_pool.proofs.Numbers.{has_first, has_later, has_cases}
use Rattle.rx_pool.proofs.Holding.{or_left, or_right, or_cases}

pub has_left : (s : ℕ) (xs ys : List ℕ) → has s xs ≡ true → has s (xs ++ ys) ≡ true
has_left s [] ys h = absurd (false≢true h)
has_left s (x ∷ xs) ys h =
    elim (has_cases x s xs h) as (λ _. has s (x ∷ xs ++ ys) ≡ true) [
      | inl e ↦ ap (λ u. has u (x ∷ xs ++ ys)) (sym e) ∙ has_first x (xs ++ ys)
      | inr r ↦ has_later x s (xs ++ ys) (has_left s xs ys r)
    ]

pub has_right : (s : ℕ) (xs ys : List ℕ) → has s ys ≡ true → has s (xs ++ ys) ≡ true
has_right s [] ys h = h
has_right s (x ∷ xs) ys h = has_later x s (xs ++ ys) (has_right s xs ys h)

pub has_either : (s : ℕ) (xs ys : List ℕ) → has s (xs ++ ys) ≡ true → (has s xs ≡ true) ⊎ (has s ys ≡ true)
has_either s [] ys h = inr h
has_either s (x ∷ xs) ys h =
    elim (has_cases x s (xs ++ ys) h) as (λ _. (has s (x ∷ xs) ≡ true) ⊎ (has s ys ≡ true)) [
      | inl e ↦ inl (ap (λ u. has u (x ∷ xs)) (sym e) ∙ has_first x xs)
      | inr r ↦ (elim (has_either s xs ys r) as (λ _. (has s (x ∷ xs) ≡ true) ⊎ (has s ys ≡ true)) [
        | inl l ↦ inl (has_later x s xs l)
        | inr t ↦ inr t
      ])
    ]

not_of : (b : Bool) → (b ≡ true → ⊥) → b ≡ false
not_of b n =
    elim (cases_Bool b) as (λ _. b ≡ false) [
      | inl t ↦ absurd (n t)
      | inr f ↦ f
    ]

pub not_left : (s : ℕ) (xs ys : List ℕ) → has s (xs ++ ys) ≡ false → has s xs ≡ false
not_left s xs ys h = not_of (has s xs) (λ t. false≢true (sym h ∙ has_left s xs ys t))

pub not_right : (s : ℕ) (xs ys : List ℕ) → has s (xs ++ ys) ≡ false → has s ys ≡ false
not_right s xs ys h = not_of (has s ys) (λ t. false≢true (sym h ∙ has_right s xs ys t))

pub not_both : (s : ℕ) (xs ys : List ℕ) → has s xs ≡ false → has s ys ≡ false → has s (xs ++ ys) ≡ false
not_both s xs ys a b =
    not_of (has s (xs ++ ys)) (λ t. elim (has_either s xs ys t) as (λ _. ⊥) [
      | inl l ↦ false≢true (sym a ∙ l)
      | inr r ↦ false≢true (sym b ∙ r)
    ])

-- no slot is in both
abbrev pub IsDisjoint : List ℕ → List ℕ → Type 0
IsDisjoint xs ys = (s : ℕ) → has s xs ≡ true → has s ys ≡ false

pub no_repeat_join : (xs ys : List ℕ) → HasNoRepeat xs → HasNoRepeat ys → IsDisjoint xs ys → HasNoRepeat (xs ++ ys)
no_repeat_join [] ys a b d = b
no_repeat_join (x ∷ xs) ys a b d = (
  not_both x xs ys a.0 (d x (has_first x xs)),
  no_repeat_join xs ys a.1 b (λ s h. d s (has_later x s xs h)),
)

pub no_repeat_left : (xs ys : List ℕ) → HasNoRepeat (xs ++ ys) → HasNoRepeat xs
no_repeat_left [] ys a = tt
no_repeat_left (x ∷ xs) ys a = (not_left x xs ys a.0, no_repeat_left xs ys a.1)

pub no_repeat_right : (xs ys : List ℕ) → HasNoRepeat (xs ++ ys) → HasNoRepeat ys
no_repeat_right [] ys a = a
no_repeat_right (x ∷ xs) ys a = no_repeat_right xs ys a.1

pub apart_disjoint : (xs ys : List ℕ) → HasNoRepeat (xs ++ ys) → IsDisjoint xs ys
apart_disjoint [] ys a = λ s h. absurd (false≢true h)
apart_disjoint (x ∷ xs) ys a =
    λ s h. elim (has_cases x s xs h) as (λ _. has s ys ≡ false) [
      | inl e ↦ ap (λ u. has u ys) (sym e) ∙ not_right x xs ys a.0
      | inr r ↦ apart_disjoint xs ys a.1 s r
    ]

-- ---- who holds

pub holds_left : (pool : Slots) (xs ys : List ℕ) → Holds pool (xs ++ ys) → Holds pool xs
holds_left pool xs ys h = record { of = λ s t. h.of s (has_left s xs ys t); apart = no_repeat_left xs ys h.apart }

pub holds_right : (pool : Slots) (xs ys : List ℕ) → Holds pool (xs ++ ys) → Holds pool ys
holds_right pool xs ys h = record { of = λ s t. h.of s (has_right s xs ys t); apart = no_repeat_right xs ys h.apart }

pub holds_both : (pool : Slots) (xs ys : List ℕ) → Holds pool xs → Holds pool ys → IsDisjoint xs ys →
    Holds pool (xs ++ ys)
holds_both pool xs ys h k d =
    record {
      of = λ s t. (elim (has_either s xs ys t) as (λ _. IsSlotOf pool s) [
        | inl l ↦ h.of s l
        | inr r ↦ k.of s r
      ]);
      apart = no_repeat_join xs ys h.apart k.apart d;
    }

turned : (xs ys : List ℕ) → IsDisjoint xs ys → IsDisjoint ys xs
turned xs ys d = λ s h. not_of (has s xs) (λ t. false≢true (sym (d s t) ∙ h))

-- ---- what one does beside another

-- the first one does something
pub keeps_left : (old new : Slots) (before after other : List ℕ) → Keeps old new before after →
    Holds old (before ++ other) → Keeps old new (before ++ other) (after ++ other)
keeps_left old new before after other k h =
    let apart = apart_disjoint before other h.apart in
    let stays : (s : ℕ) → has s other ≡ true → Stays old new after s = (λ s t.
    k.others s (h.of s (has_right s before other t)) (turned before other apart s t)) in
    let rest : Holds new other = (
    record { of = λ s t. (stays s t).of; apart = no_repeat_right before other h.apart }) in
    let count = k.count in
    let one = length-append before other in
    let two = length-append after other in
    record {
      holds = holds_both new after other k.holds rest (turned other after (λ s t. (stays s t).apart));
      others = λ s of n. (
          let st = k.others s of (not_left s before other n) in
          let gone = not_both s after other st.apart (not_right s before other n) in
          record { of = st.of; bytes = st.bytes; apart = gone });
      back = λ s e n. (
          let gone = not_left s after other n in
          elim (or_cases (has s old.free) (has s (before ++ other)) e) as (λ _. has s new.free ≡ true) [
            | inl f ↦ k.back s (or_left (has s old.free) (has s before) f) gone
            | inr t ↦ (elim (has_either s before other t) as (λ _. has s new.free ≡ true) [
              | inl l ↦ k.back s (or_right (has s old.free) (has s before) l) gone
              | inr r ↦ absurd (false≢true (sym (not_right s after other n) ∙ r))
            ])
          ]);
      count = omega (arith, count, one, two);
      size = k.size;
    }

-- the second one does something
pub keeps_right : (old new : Slots) (other before after : List ℕ) → Keeps old new before after →
    Holds old (other ++ before) → Keeps old new (other ++ before) (other ++ after)
keeps_right old new other before after k h =
    let apart = apart_disjoint other before h.apart in
    let stays : (s : ℕ) → has s other ≡ true → Stays old new after s = (λ s t.
    k.others s (h.of s (has_left s other before t)) (apart s t)) in
    let rest : Holds new other = (
    record { of = λ s t. (stays s t).of; apart = no_repeat_left other before h.apart }) in
    let count = k.count in
    let one = length-append other before in
    let two = length-append other after in
    record {
      holds = holds_both new other after rest k.holds (λ s t. (stays s t).apart);
      others = λ s of n. (
          let st = k.others s of (not_right s other before n) in
          record { of = st.of; bytes = st.bytes; apart = not_both s other after (not_left s other before n) st.apart });
      back = λ s e n. (
          let gone = not_right s other after n in
          elim (or_cases (has s old.free) (has s (other ++ before)) e) as (λ _. has s new.free ≡ true) [
            | inl f ↦ k.back s (or_left (has s old.free) (has s before) f) gone
            | inr t ↦ (elim (has_either s other before t) as (λ _. has s new.free ≡ true) [
              | inl l ↦ absurd (false≢true (sym (not_left s other after n) ∙ l))
              | inr r ↦ k.back s (or_right (has s old.free) (has s before) r) gone
            ])
          ]);
      count = omega (arith, count, one, two);
      size = k.size;
    }

-- the bytes of the other one's slots stay
pub bytes_beside : (old new : Slots) (before after other : List ℕ) → Keeps old new before after →
    Holds old (before ++ other) → (s : ℕ) → has s other ≡ true → bytes_at new s ≡ bytes_at old s
bytes_beside old new before after other k h s t =
    let apart = turned before other (apart_disjoint before other h.apart) in
    (k.others s (h.of s (has_right s before other t)) (apart s t)).bytes

pub bytes_before : (old new : Slots) (other before after : List ℕ) → Keeps old new before after →
    Holds old (other ++ before) → (s : ℕ) → has s other ≡ true → bytes_at new s ≡ bytes_at old s
bytes_before old new other before after k h s t =
    let apart = apart_disjoint other before h.apart in
    (k.others s (h.of s (has_left s other before t)) (apart s t)).bytes
