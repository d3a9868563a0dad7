-- Opcodes of which one stands again, one opcode more.
use Rattle.std.proofs.Common.{◌≡◌, ℕ, ℤ, ◌+◌, ◌<◌, ◌≤◌, Bool, true, false, cond, not, nat_eq, List, length, Option}
use Rattle.std.proofs.Common.{Some, None, option_and_then, refl, sym, ap, ◌∙◌, arith, inl, inr}
use Rattle.std.proofs.lemmas.Bool.{false≢true}
use Rattle.std.proofs.lemmas.Bool.Decides.{Decides-eqb}
use Rattle.std.proofs.lemmas.Option.{slice_get_past}
use Rattle.xg_check.specs.Constants.{in_32_bits}
use Rattle.xg_check.specs.Counting.{number_at, StandsAgain}
use Rattle.xg_check.proofs.SearchLaws.{same_or_not}
use Rattle.xg_check.proofs.PlaceLaws.{less_or_more}

abbrev pub MetBefore : List (Option ℤ) → ℕ → (ℕ → Bool) → Type 0
MetBefore ops n met = (k q : ℕ) → k < n → number_at ops k ≡ Some q → met q ≡ true

abbrev pub OnlyMet : List (Option ℤ) → ℕ → (ℕ → Bool) → Type 0
OnlyMet ops n met = (q : ℕ) → met q ≡ true → (k : ℕ) × (k < n) × (number_at ops k ≡ Some q)

abbrev pub NoTwice : List (Option ℤ) → ℕ → Type 0
NoTwice ops n = (k : ℕ) → k < n → StandsAgain ops k → ⊥

module _ (ops : List (Option ℤ)) (i : ℕ) where
  -- where there is no opcode
  pub before_none : (met : ℕ → Bool) → number_at ops i ≡ None → MetBefore ops i met → MetBefore ops (i + 1) met
  before_none met none was k q lt e = elim (same_or_not k i) [
    | inl same ↦
        let two : None ≡ Some q = sym none ∙ (ap (number_at ops) (sym same) ∙ e) in absurd cc
    | inr ne ↦ was k q (omega (arith, lt, ne)) e
  ]

  pub only_more : (met : ℕ → Bool) → OnlyMet ops i met → OnlyMet ops (i + 1) met
  only_more met was q e = let h = was q e in (h.0, omega (arith, h.1), h.2)

  pub once_none : number_at ops i ≡ None → NoTwice ops i → NoTwice ops (i + 1)
  once_none none was k lt again = elim (same_or_not k i) [
    | inl same ↦
        let two : None ≡ Some again.opcode = sym none ∙ (ap (number_at ops) (sym same) ∙ again.has) in absurd cc
    | inr ne ↦ was k (omega (arith, lt, ne)) again
  ]

  -- where there is one that wasn't met
  module _ (n : ℕ) (here : number_at ops i ≡ Some n) (met new : ℕ → Bool)
      (made : (q : ℕ) → new q ≡ cond (nat_eq n q) true (met q)) where
    kept : (b : Bool) (q : ℕ) → nat_eq n q ≡ b → met q ≡ true → new q ≡ true
    kept true q t e = made q ∙ ap (λ (c : Bool). cond c true (met q)) t
    kept false q t e = made q ∙ ap (λ (c : Bool). cond c true (met q)) t ∙ e

    pub before_some : MetBefore ops i met → MetBefore ops (i + 1) new
    before_some was k q lt e = elim (same_or_not k i) [
      | inl same ↦
          let two : Some n ≡ Some q = sym here ∙ (ap (number_at ops) (sym same) ∙ e) in
          let is : n ≡ q = cc in
          made q ∙ ap (λ (c : Bool). cond c true (met q)) ((Decides-eqb n q).1 is)
      | inr ne ↦ kept (nat_eq n q) q refl (was k q (omega (arith, lt, ne)) e)
    ]

    pub only_some : OnlyMet ops i met → OnlyMet ops (i + 1) new
    only_some was q e = by_test (nat_eq n q) refl
      where
        by_test : (b : Bool) → nat_eq n q ≡ b → (k : ℕ) × (k < i + 1) × (number_at ops k ≡ Some q)
        by_test true t = (i, omega arith, here ∙ ap Some ((Decides-eqb n q).0 t))
        by_test false t =
            let old : met q ≡ true = sym (made q ∙ ap (λ (c : Bool). cond c true (met q)) t) ∙ e in
            let h = was q old in
            (h.0, omega (arith, h.1), h.2)

    pub once_some : met n ≡ false → MetBefore ops i met → NoTwice ops i → NoTwice ops (i + 1)
    once_some fresh before was k lt again = elim (same_or_not k i) [
      | inl same ↦
          let two : Some n ≡ Some again.opcode = sym here ∙ (ap (number_at ops) (sym same) ∙ again.has) in
          let is : n ≡ again.opcode = cc in
          let old : met again.opcode ≡ true =
          before again.earlier again.opcode (omega (arith, again.before, same)) again.had in
          false≢true (sym fresh ∙ (ap met is ∙ old))
      | inr ne ↦ was k (omega (arith, lt, ne)) again
    ]

  pub again_here : (n : ℕ) (met : ℕ → Bool) → number_at ops i ≡ Some n → met n ≡ true → OnlyMet ops i met
      → StandsAgain ops i
  again_here n met here was only =
      let h = only n was in
      record { opcode = n; has = here; earlier = h.0; before = h.1; had = h.2 }

  pub nowhere_again : length ops ≤ i → NoTwice ops i → (k : ℕ) → StandsAgain ops k → ⊥
  nowhere_again le was k again = elim (less_or_more k i) [
    | inl lt ↦ was k lt again
    | inr (inl gt) ↦ past (omega (arith, gt, le))
    | inr (inr same) ↦ past (omega (arith, same, le))
  ]
    where
      past : length ops ≤ k → ⊥
      past out =
          let none : number_at ops k ≡ None = ap (option_and_then in_32_bits) (slice_get_past ops k out) in
          let two : None ≡ Some again.opcode = sym none ∙ again.has in
          absurd cc

pub is_fresh : (a b : Bool) → a ≡ not b → a ≡ true → b ≡ false
is_fresh a true e t = absurd (false≢true (sym e ∙ t))
is_fresh a false e t = refl

pub is_met : (a b : Bool) → a ≡ not b → a ≡ false → b ≡ true
is_met a true e t = refl
is_met a false e t = absurd (false≢true (sym t ∙ e))
