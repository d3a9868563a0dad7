-- A free slot taken from the end of the list of free ones, or put there.
use Rattle.std.proofs.Common.{◌≡◌, inl, inr, get_or, ◌+◌, ℕ, List, [], ◌∷◌}
use Rattle.std.proofs.Common.{◌++◌, length, refl, sym, ap, ◌∙◌, arith, subst}
use Rattle.std.proofs.lemmas.List.{length_push, get_or_append_left, get_or_push}
use Rattle.std.proofs.lemmas.Bool.{cases_lt}
use Rattle.rx_pool.specs.declared.pool.TheConstants.{SLOT_BYTES}
use Rattle.rx_pool.specs.Pool.{IsSlotOf, Takes, has, HasNoRepeat, AllBelow, HasFullSlots}
use Rattle.rx_pool.proofs.Numbers.{has_first, has_rest, has_push, no_repeat_last, below_last}

pub popped : (bytes : List (List ℕ)) (before after : List ℕ) (s : ℕ) → before ≡ after ++ s ∷ [] → HasNoRepeat before →
    AllBelow (length bytes) before → HasFullSlots bytes →
    Takes (record { bytes = bytes; free = before }) (record { bytes = bytes; free = after }) s
popped bytes before after s is apart below cut =
    let size : length before ≡ length after + 1 = ap length is ∙ length_push after s in
    record {
      of = record {
        within = below_last (length bytes) s after (subst (AllBelow (length bytes)) is below);
        held = no_repeat_last s after (subst HasNoRepeat is apart);
        size = cut s (below_last (length bytes) s after (subst (AllBelow (length bytes)) is below));
      };
      free = ap (has s) is ∙ has_push s s after ∙ has_first s after;
      others = λ t other. sym (ap (has t) is ∙ has_push s t after ∙ has_rest s t after (λ e. other (sym e)));
      count = omega (arith, size);
      bytes = refl;
    }

pub pushed : (bytes : List (List ℕ)) (before after : List ℕ) (s : ℕ) → after ≡ before ++ s ∷ [] →
    IsSlotOf (record { bytes = bytes; free = before }) s →
    Takes (record { bytes = bytes; free = after }) (record { bytes = bytes; free = before }) s
pushed bytes before after s is of =
    let size : length after ≡ length before + 1 = ap length is ∙ length_push before s in
    record {
      of = of;
      free = ap (has s) is ∙ has_push s s before ∙ has_first s before;
      others = λ t other. sym (ap (has t) is ∙ has_push s t before ∙ has_rest s t before (λ e. other (sym e)));
      count = omega (arith, size);
      bytes = refl;
    }

-- one more slot
pub full_push : (before after : List (List ℕ)) (x : List ℕ) → after ≡ before ++ x ∷ [] → length x ≡ SLOT_BYTES →
    HasFullSlots before → HasFullSlots after
full_push before after x is size cut =
    λ s lt. (
    let grown : length after ≡ length before + 1 = ap length is ∙ length_push before x in
    ap (λ (bs : List (List ℕ)). length (get_or bs s [])) is
    ∙ (elim (cases_lt s (length before)) as (λ _. length (get_or (before ++ x ∷ []) s []) ≡ SLOT_BYTES) [
      | inl below ↦ ap length (get_or_append_left before (x ∷ []) [] s below) ∙ cut s below
      | inr le ↦ ap length (get_or_push before x [] s (omega (arith, le, lt, grown))) ∙ size
    ]))
