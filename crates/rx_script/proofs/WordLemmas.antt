-- Words.
use Rattle.std.proofs.Common.{◌≡◌, ℕ, ◌≢◌, ◌==◌, true, false, cond, List, [], ◌∷◌, length, drop, Option, Some, None}
use Rattle.std.proofs.Common.{option_map, Result, Ok, Err, refl, sym, ap, subst, eqb}
use Rattle.std.specs.Borrow.{Bor}
use Rattle.std.specs.List.{starts_with}
use Rattle.std.specs.Prelude.{MatchOption}
use Rattle.std.specs.Str.{IsCharBoundary}
use Rattle.std.specs.Str.Pattern.{FindsTextPrefix, StripsPrefix}
use Rattle.std.proofs.lemmas.Str.Pattern.{starts_text}
use Rattle.std.proofs.lemmas.Bool.{ne_eqb}
use Rattle.rx_script.specs.declared.fault.LineWhy.TheVariants.{Word}
use Rattle.rx_script.specs.declared.fault.LineWhy.{LineWhy}
use Rattle.rx_script.specs.declared.fault.Refusal.{Refusal}
use Rattle.rx_script.specs.declared.fault.Refusal.TheVariants.{Bad, OutOfMemory}
use Rattle.rx_script.specs.Reading.{IsAnswer, IsSeen}
use Rattle.rx_script.specs.Words.{and_then, name_word}

-- a word without the sigil is no name
pub name_word_plain : (c : ℕ) (word : List ℕ) → ((rest : List ℕ) → word ≢ c ∷ rest) → name_word c word ≡ Err Word
name_word_plain c [] plain = refl
name_word_plain c (sigil ∷ digits) plain =
    let other : (sigil == c) ≡ false = ne_eqb sigil c (λ e. plain digits (ap (λ (x : ℕ). x ∷ digits) e)) in
    rw other refl

-- what is left of a text behind another, as `strip_prefix` gives it
pub strip_text : (r : Option (Bor (List ℕ))) (n s : List ℕ)
    → MatchOption r (FindsTextPrefix n s None) (λ x. StripsPrefix (FindsTextPrefix n) s x.now)
    → option_map (λ (x : Bor (List ℕ)). x.now) r ≡ cond (starts_with eqb s n) (Some (drop (length n) s)) None
strip_text None n s h = rw (sym (starts_text false n s h)) refl
strip_text (Some x) n s h =
    let found = h.1 in
    let whole : h.0 ≡ length n = found.0 in
    let boundary : IsCharBoundary s h.0 = subst (λ (k : ℕ). IsCharBoundary s k) (sym whole) found.2 in
    rw (sym (starts_text true n s (h.0, found, boundary)), h.2, whole) refl

-- an answer that is seen by a view
pub seen_then : {A B : Type 0} (view : A → B) (given : Result A LineWhy) (r : Result A Refusal) → IsAnswer given r
    → IsSeen view (and_then given (λ a. Ok (view a))) r
seen_then view given (Ok a) h = rw h refl
seen_then view given (Err (Bad why)) h = rw h refl
seen_then view given (Err OutOfMemory) h = tt
