-- Parts that are made one for each of a list.
use Rattle.std.proofs.Common.{◌≡◌, ◌⊎◌, List, [], ◌∷◌, ◌++◌, Option, Some, None, refl, inl, inr, sym, subst, ap}
use Rattle.rx_model.specs.declared.event.Noted.{Noted}
use Rattle.rx_stage.specs.declared.stop.Stop.{Stop}
use Rattle.rx_plan.specs.Parts.{Came, To, Refused, Cut, Endless, Part, Then, each, ends}
use Rattle.rx_stage.specs.Ran.{Fits, Ran, fits_to}
use Rattle.rx_plan.specs.Parts.{goes_on}
use Rattle.rx_stage.specs.Tells.{Gains, Told, gains_none, plan_telling}
use Rattle.rx_stage.proofs.Running.{both, ran_stops, ran_then, ran_to}
use Rattle.rx_run.proofs.Telling.{Split, split}

-- a part alone is one with nothing behind it
pub ran_last : {A : Type 0} (part : Part A) (shows : A → Type 0) (stop : Option Stop) (a b : Told)
    → Ran part shows stop a b → Ran (Then part (λ x. ends (To x))) shows stop a b
ran_last part shows None a b r = ran_then part _ shows shows None a b b r (λ x there. ran_to shows x b there)
ran_last part shows (Some stop) a b r = ran_stops part _ shows shows stop a b r

-- what was come to without an end of the run
pub record Whole {A : Type 0} (part : Part A) (shows : A → Type 0) (a b : Told) : Type 0 where
  pub events : List Noted
  pub to : A
  pub made : part events (To to)
  pub there : shows to
  pub told : Gains a b events

pub whole : {A : Type 0} (part : Part A) (shows : A → Type 0) (a b : Told) → Ran part shows None a b
    → Whole part shows a b
whole {A} part shows a b r = of r.events r.came r.made r.fits
  where
    of : (es : List Noted) (came : Came A) → part es came → Fits shows came None a b es → Whole part shows a b
    of es came made (fits_to x old new them there told) =
        record { events = es; to = x; made = made; there = there; told = told }

pub ran_whole : {A : Type 0} (part : Part A) (shows : A → Type 0) (a b : Told) → Whole part shows a b
    → Ran part shows None a b
ran_whole part shows a b w =
    record { events = w.events; came = To w.to; made = w.made; fits = fits_to w.to a b w.events w.there w.told }

-- ---- what is no end of a run

abbrev IsTo : {A : Type 0} → Came A → Type 0
IsTo (To x) = Unit {0}
IsTo (Refused why) = ⊥
IsTo Cut = ⊥
IsTo Endless = ⊥

abbrev to_or : {A : Type 0} → A → Came A → A
to_or x (To y) = y
to_or x (Refused why) = x
to_or x Cut = x
to_or x Endless = x

is_to : {A : Type 0} (x : A) (came : Came A) → To x ≡ came → IsTo came
is_to x came same = subst IsTo same tt

nothing_told : (a b : Told) → Gains a b [] → a ≡ b
nothing_told a b (gains_none x) = refl

-- ---- more of them

module _ {A X : Type 0} (part : X → A → Part A) (xs : List X) where
  -- more behind those that were made
  pub each_then : (more : List X) (s : A) (shows after : A → Type 0) (stop : Option Stop) (a b c : Told)
      → Ran (each part xs s) shows None a b → ((t : A) → shows t → Ran (each part more t) after stop b c)
      → Ran (each part (xs ++ more) s) after stop a c
  each_then more s shows after stop a b c r next = of xs s a (whole (each part xs s) shows a b r)
    where
      -- with the first one's events
      behind : (y : X) (ys : List X) (s : A) (a : Told) (es : List Noted) (came : Came A) → part y s es came
          → (rest : List Noted) (t : A) → goes_on (each part ys) came rest (To t) → shows t → Gains a b (es ++ rest)
          → ((m : A) (at : Told) → Whole (each part ys m) shows at b → Ran (each part (ys ++ more) m) after stop at c)
          → Ran (Then (part y s) (each part (ys ++ more))) after stop a c
      behind y ys s a es (To m) made rest t goes there told onward =
          (let parts : Split plan_telling a b es rest = split a b es rest told in
          both (part y s) (each part (ys ++ more)) after stop a parts.between c es m made parts.first
          (onward m parts.between
          (record { events = rest; to = t; made = goes; there = there; told = parts.then_rest })))
      behind y ys s a es (Refused why) made rest t (none, inl same) there told onward = elim
          (is_to t (Refused why) same)
          [ ]
      behind y ys s a es (Refused why) made rest t (none, inr same) there told onward = elim (is_to t Cut same) [ ]
      behind y ys s a es Cut made rest t (none, inl same) there told onward = elim (is_to t Cut same) [ ]
      behind y ys s a es Cut made rest t (none, inr same) there told onward = elim (is_to t Cut same) [ ]
      behind y ys s a es Endless made rest t (none, inl same) there told onward = elim (is_to t Endless same) [ ]
      behind y ys s a es Endless made rest t (none, inr same) there told onward = elim (is_to t Cut same) [ ]

      -- behind none
      first : (s : A) (a : Told) (es : List Noted) (t : A) → es ≡ [] → (◌≡◌ {A = Came A} (To t) (To s))
          ⊎ (◌≡◌ {A = Came A} (To t) Cut)
          → shows t → Gains a b es → Ran (each part more s) after stop a c
      first s a es t none (inr same) there told = elim (is_to t Cut same) [ ]
      first s a es t none (inl same) there told =
          subst (λ k. Ran (each part more s) after stop k c)
          (sym (nothing_told a b (subst (Gains a b) none told)))
          (subst (λ u. Ran (each part more u) after stop b c) (ap (to_or s) same) (next t there))

      of : (xs : List X) (s : A) (a : Told) → Whole (each part xs s) shows a b
          → Ran (each part (xs ++ more) s) after stop a c
      of [] s a w = first s a w.events w.to w.made.0 w.made.1 w.there w.told
      of (y ∷ ys) s a w =
          behind y ys s a w.made.front w.made.came w.made.made w.made.rest w.to w.made.goes w.there
          (subst (Gains a b) w.made.are w.told) (λ m at v. of ys m at v)

  -- one more behind those that were made
  pub each_more : (x : X) (s : A) (shows after : A → Type 0) (stop : Option Stop) (a b c : Told)
      → Ran (each part xs s) shows None a b → ((t : A) → shows t → Ran (part x t) after stop b c)
      → Ran (each part (xs ++ x ∷ []) s) after stop a c
  each_more x s shows after stop a b c r next =
      each_then (x ∷ []) s shows after stop a b c r (λ t there. ran_last (part x t) after stop b c (next t there))

  -- one more that ended the run, whatever was to come
  pub each_ended : (more : List X) (x : X) (s : A) (shows after : A → Type 0) (stop : Stop) (a b c : Told)
      → Ran (each part xs s) shows None a b → ((t : A) → shows t → Ran (part x t) after (Some stop) b c)
      → Ran (each part (xs ++ x ∷ more) s) after (Some stop) a c
  each_ended more x s shows after stop a b c r next =
      each_then (x ∷ more) s shows after (Some stop) a b c r
      (λ t there. ran_stops (part x t) (each part more) after after stop b c (next t there))
