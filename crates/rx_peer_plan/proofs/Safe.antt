-- Parts behind which something holds of the history, as it did before them.
use Rattle.std.proofs.Common.{◌≡◌, ◌⊎◌, ℕ, Bool, true, false, List, [], ◌∷◌, refl, inl, inr, sym, subst, All}
use Rattle.std.proofs.lemmas.List.Elements.{All-head, All-tail, All-weaker}
use Rattle.rx_model.specs.declared.event.Event.{Event}
use Rattle.rx_model.specs.declared.event.Noted.{Noted}
use Rattle.rx_plan.proofs.Bags.{behind, behind_both}
use Rattle.rx_plan.proofs.Soundness.Sound.{IfTo}
use Rattle.rx_plan.specs.Parts.{Came, Cut, Endless, One, Part, Refused, Then, To, by_test, cut_behind, each, ends}
use Rattle.rx_plan.specs.Parts.{goes_on, makes, not_made}
use Rattle.rx_wire.specs.Turns.{noted}

module _ (Good : List Noted → Type 0) where
  -- it holds, and what was come to is so
  pub record Ends {A : Type 0} (ok : List Noted → A → Type 0) (h : List Noted) (out : Came A) : Type 0 where
    pub good : Good h
    pub came : IfTo (ok h) out

  -- a part ends so from a history on
  abbrev pub Safe : {A : Type 0} → (List Noted → A → Type 0) → List Noted → Part A → Type 0
  Safe {A} ok h part = (es : List Noted) (out : Came A) → part es out → Ends ok (behind es h) out

  pub ends_safe : {A : Type 0} (ok : List Noted → A → Type 0) (h : List Noted) (came : Came A) → Good h
      → IfTo (ok h) came → Safe ok h (ends came)
  ends_safe {A} ok h came g there es out made =
      subst (λ xs. Ends ok (behind xs h) out) (sym made.0) (of made.1)
    where
      of : (out ≡ came) ⊎ (out ≡ Cut) → Ends ok h out
      of (inl same) = subst (λ c. Ends ok h c) (sym same) (record { good = g; came = there })
      of (inr same) = subst (λ c. Ends ok h c) (sym same) (record { good = g; came = tt })

  pub then_safe : {A B : Type 0} (first_ok : List Noted → A → Type 0) (ok : List Noted → B → Type 0) (h : List Noted)
      (first : Part A) (next : A → Part B) → Safe first_ok h first
      → ((es : List Noted) (a : A) → Good (behind es h) → first_ok (behind es h) a → Safe ok (behind es h) (next a))
      → Safe ok h (Then first next)
  then_safe {A} {B} first_ok ok h first next safe more es out t =
      subst (λ xs. Ends ok (behind xs h) out) (sym t.are)
      (subst (λ k. Ends ok k out) (sym (behind_both t.front t.rest h))
      (onward t.came (safe t.front t.came t.made) t.goes))
    where
      onward : (came : Came A) → Ends first_ok (behind t.front h) came → goes_on next came t.rest out
          → Ends ok (behind t.rest (behind t.front h)) out
      onward (To a) b goes = more t.front a b.good b.came t.rest out goes
      onward (Refused why) b goes = ends_safe ok (behind t.front h) (Refused why) b.good tt t.rest out goes
      onward Cut b goes = ends_safe ok (behind t.front h) Cut b.good tt t.rest out goes
      onward Endless b goes = ends_safe ok (behind t.front h) Endless b.good tt t.rest out goes

  -- where what is asked of each of a list stays so
  pub each_safe : {A X : Type 0} (ok : List Noted → A → Type 0) (P : List Noted → X → Type 0) (part : X → A → Part A)
      → ((es h : List Noted) (x : X) → P h x → P (behind es h) x)
      → ((h : List Noted) (x : X) (a : A) → Good h → P h x → ok h a → Safe ok h (part x a))
      → (xs : List X) (h : List Noted) (a : A) → Good h → All (P h) xs → ok h a → Safe ok h (each part xs a)
  each_safe ok P part stays one [] h a g all there = ends_safe ok h (To a) g there
  each_safe ok P part stays one (x ∷ xs) h a g all there =
      then_safe ok ok h (part x a) (each part xs) (one h x a g (All-head (P h) x xs all) there)
      (λ es b good next.
      each_safe ok P part stays one xs (behind es h) b good
      (All-weaker (P h) (P (behind es h)) (stays es h) xs (All-tail (P h) x xs all)) next)

  -- where nothing is asked
  pub all_safe : {A X : Type 0} (ok : List Noted → A → Type 0) (part : X → A → Part A)
      → ((h : List Noted) (x : X) (a : A) → Good h → ok h a → Safe ok h (part x a))
      → (xs : List X) (h : List Noted) (a : A) → Good h → ok h a → Safe ok h (each part xs a)
  all_safe ok part one xs h a g there =
      each_safe ok (λ k x. Unit {0}) part (λ es k x there. tt) (λ k x b good none is. one k x b good is) xs h a g
      (λ k x inside. tt) there

  -- one of two parts
  pub test_safe : {A : Type 0} (ok : List Noted → A → Type 0) (h : List Noted) (b : Bool) (first other : Part A)
      → (b ≡ true → Safe ok h first) → (b ≡ false → Safe ok h other) → Safe ok h (by_test b first other)
  test_safe ok h true first other so or_so = so refl
  test_safe ok h false first other so or_so = or_so refl

  -- one event, behind which it holds
  pub one_safe : (h : List Noted) (node : ℕ) (is : Event → Type 0) → Good h
      → ((e : Event) → is e → Good (noted node e ∷ h)) → Safe (λ k e. (k ≡ noted node e ∷ h) × is e) h (One node is)
  one_safe h node is g may es out made = of made
    where
      of : {es : List Noted} {out : Came Event} → One node is es out
          → Ends (λ k e. (k ≡ noted node e ∷ h) × is e) (behind es h) out
      of not_made = record { good = g; came = tt }
      of (cut_behind e i) = record { good = may e i; came = tt }
      of (makes e i) = record { good = may e i; came = (refl, i) }
