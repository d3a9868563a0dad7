-- Datagrams that meet their fates one by one.
use Rattle.std.proofs.Common.{◌≡◌, ◌∙◌, ◌⊎◌, ◌<◌, ℕ, suc, List, [], ◌∷◌, ◌++◌, Option, Some, None, Result, refl, sym}
use Rattle.std.proofs.Common.{subst, ap, inl, inr, append_assoc, append-nil, drop, get_or, length, map, map-id, take}
use Rattle.std.specs.Prelude.{IsErr, IsErrAnd}
use Rattle.rand_pcg.specs.Lcg.{Lcg}
use Rattle.rand_pcg.specs.Pcg.{pcg32}
use Rattle.rx_law.specs.Worlds.{Datagram}
use Rattle.rx_model.specs.declared.event.Noted.{Noted}
use Rattle.rx_plan.specs.Tallies.{tallied, with_fate}
use Rattle.rx_plan.specs.declared.tally.Tally.{Tally}
use Rattle.rx_stage.specs.declared.stop.Stop.{Stop}
use Rattle.rx_plan.specs.declared.fate.Fate.{Fate}
use Rattle.rx_plan.specs.Lossy.{comes, drawn, fate_of, fated, gathered, stays}
use Rattle.rx_plan.specs.Network.{delivers}
use Rattle.rx_plan.specs.Parts.{Came, To, Refused, Cut, Endless, Part, each, goes_on}
use Rattle.rx_stage.specs.Ran.{Fits, Ran, stop_of}
use Rattle.rx_stage.specs.Ran.{fits_endless, fits_to, fits_refused, fits_wants, fits_fails}
use Rattle.rx_stage.specs.Shown.{Plays, Shows, WorldState}
use Rattle.rx_plan.specs.Stages.{Stage}
use Rattle.rx_stage.specs.Tells.{Told}
use Rattle.rx_stage.proofs.Delivering.{delivers_cut, front_around}
use Rattle.rx_stage.proofs.Each.{each_then}
use Rattle.rx_stage.proofs.Making.{stop_is}

module _ {X : Type 0} (part : X → Stage → Part Stage) (xs : List X) where
  -- what is made of some before it is made of others
  pub both_play : (more : List X) (w m new : WorldState) (stop : Option Stop) (a b c : Told)
      → Plays (each part xs) w m None a b → Plays (each part more) m new stop b c
      → Plays (each part (xs ++ more)) w new stop a c
  both_play more w m new stop a b c first next s shown =
      each_then part xs more s (Shows m) (Shows new) stop a b c (first s shown) next

-- ---- what ended the run

-- an end of the run is no stage
abbrev IsEnd : Came Stage → Type 0
IsEnd (To s) = ⊥
IsEnd (Refused why) = Unit {0}
IsEnd Cut = Unit {0}
IsEnd Endless = Unit {0}

-- what ended a front of them ended them all, where each can be cut off before it begins
front_ends : {X : Type 0} (part : X → Stage → Part Stage) (cut : (x : X) (s : Stage) → part x s [] Cut)
    (xs more : List X) (s : Stage) (es : List Noted) (came : Came Stage) → IsEnd came → each part xs s es came
    → each part (xs ++ more) s es came
front_ends part cut [] [] s es came end made = made
front_ends part cut [] (y ∷ ys) s es came end made = none came end made.0 made.1
  where
    none : (came : Came Stage) → IsEnd came → es ≡ [] → (came ≡ To s) ⊎ (came ≡ Cut)
        → each part (y ∷ ys) s es came
    none came end empty (inl same) = elim (subst IsEnd same end) [ ]
    none came end empty (inr same) =
        record {
          front = [];
          rest = [];
          are = empty;
          came = Cut;
          made = cut y s;
          goes = (refl, inl same);
        }
front_ends {X} part cut (x ∷ xs) more s es came end made =
    of made.came made.made made.goes (λ m rest first. front_ends part cut xs more m rest came end first)
  where
    of : (mid : Came Stage) → part x s made.front mid → goes_on (each part xs) mid made.rest came
        → ((m : Stage) (rest : List Noted) → each part xs m rest came → each part (xs ++ more) m rest came)
        → each part ((x ∷ xs) ++ more) s es came
    of (To m) first goes onward =
        record {
          front = made.front;
          rest = made.rest;
          are = made.are;
          came = To m;
          made = first;
          goes = onward m made.rest goes;
        }
    of (Refused why) first goes onward =
        record { front = made.front; rest = made.rest; are = made.are; came = Refused why; made = first; goes = goes }
    of Cut first goes onward =
        record { front = made.front; rest = made.rest; are = made.are; came = Cut; made = first; goes = goes }
    of Endless first goes onward =
        record { front = made.front; rest = made.rest; are = made.are; came = Endless; made = first; goes = goes }

-- the same of what is played
pub front_stops : {X : Type 0} (part : X → Stage → Part Stage) (cut : (x : X) (s : Stage) → part x s [] Cut)
    (xs more : List X) (w new : WorldState) (stop : Stop) (a b : Told) → Plays (each part xs) w new (Some stop) a b
    → Plays (each part (xs ++ more)) w new (Some stop) a b
front_stops {X} part cut xs more w new stop a b plays s shown =
    (let r : Ran (each part xs s) (Shows new) (Some stop) a b = plays s shown in
    of r.events r.came (Some stop) r.made r.fits refl)
  where
    of : (es : List Noted) (came : Came Stage) (why : Option Stop) → each part xs s es came
        → Fits (Shows new) came why a b es → why ≡ Some stop → Ran (each part (xs ++ more) s) (Shows new) why a b
    of es came why made (fits_refused cause old now them told) same =
        record {
          events = es;
          came = came;
          made = front_ends part cut xs more s es came tt made;
          fits = fits_refused cause a b es told;
        }
    of es came why made (fits_wants old now them told) same =
        record {
          events = es;
          came = came;
          made = front_ends part cut xs more s es came tt made;
          fits = fits_wants a b es told;
        }
    of es came why made (fits_fails old now them told) same =
        record {
          events = es;
          came = came;
          made = front_ends part cut xs more s es came tt made;
          fits = fits_fails a b es told;
        }
    of es came why made (fits_endless old now them told) same =
        record {
          events = es;
          came = came;
          made = front_ends part cut xs more s es came tt made;
          fits = fits_endless a b es told;
        }
    of es came why made (fits_to x old now them there told) same = elim (none_is_some same) [ ]
      where
        IsNone : Option Stop → Type 0
        IsNone None = Unit {0}
        IsNone (Some x) = ⊥

        none_is_some : None ≡ Some stop → ⊥
        none_is_some p = subst IsNone p tt

-- ---- fates of some datagrams and of others

pub drawn_both : (g : Lcg) (ds more : List Datagram) → drawn g (ds ++ more) ≡ drawn (drawn g ds) more
drawn_both g [] more = refl
drawn_both g (d ∷ ds) more = drawn_both (pcg32 g).1 ds more

fated_both : (g : Lcg) (ds more : List Datagram) → fated g (ds ++ more) ≡ fated g ds ++ fated (drawn g ds) more
fated_both g [] more = refl
fated_both g (d ∷ ds) more = ap (λ fs. (d, fate_of (pcg32 g).0) ∷ fs) (fated_both (pcg32 g).1 ds more)

gathered_both : (f : Datagram × Fate → List Datagram) (xs more : List (Datagram × Fate))
    → gathered f (xs ++ more) ≡ gathered f xs ++ gathered f more
gathered_both f [] more = refl
gathered_both f (x ∷ xs) more =
    ap (λ ds. f x ++ ds) (gathered_both f xs more) ∙ sym (append_assoc (f x) (gathered f xs) (gathered f more))

gathered_of : (f : Datagram × Fate → List Datagram) (g : Lcg) (ds more : List Datagram)
    → gathered f (fated g (ds ++ more)) ≡ gathered f (fated g ds) ++ gathered f (fated (drawn g ds) more)
gathered_of f g ds more =
    ap (gathered f) (fated_both g ds more) ∙ gathered_both f (fated g ds) (fated (drawn g ds) more)

-- one more
gathered_more : (f : Datagram × Fate → List Datagram) (g : Lcg) (ds : List Datagram) (d : Datagram)
    → gathered f (fated g (ds ++ d ∷ [])) ≡ gathered f (fated g ds) ++ f (d, fate_of (pcg32 (drawn g ds)).0)
gathered_more f g ds d =
    gathered_of f g ds (d ∷ [])
    ∙ ap (λ xs. gathered f (fated g ds) ++ xs) (append-nil (f (d, fate_of (pcg32 (drawn g ds)).0)))

-- its fate, as the generator says
met : (g now next : Lcg) (ds : List Datagram) (word : ℕ) (f : Fate) → now ≡ drawn g ds → (word, next) ≡ pcg32 now
    → f ≡ fate_of word → f ≡ fate_of (pcg32 (drawn g ds)).0
met g now next ds word f at step is = is ∙ ap (λ (p : ℕ × Lcg). fate_of p.0) (step ∙ ap pcg32 at)

-- the generator behind it
pub words_more : (g now next : Lcg) (ds : List Datagram) (d : Datagram) (word : ℕ) → now ≡ drawn g ds
    → (word, next) ≡ pcg32 now → next ≡ drawn g (ds ++ d ∷ [])
words_more g now next ds d word at step =
    ap (λ (p : ℕ × Lcg). p.1) (step ∙ ap pcg32 at) ∙ sym (drawn_both g ds (d ∷ []))

-- the tally of some and of others
tallied_both : (xs more : List (Datagram × Fate)) (t : Tally) → tallied (xs ++ more) t ≡ tallied more (tallied xs t)
tallied_both [] more t = refl
tallied_both (x ∷ xs) more t = tallied_both xs more (with_fate x.1 t)

module _ (g now next : Lcg) (ds : List Datagram) (d : Datagram) (word : ℕ) (f : Fate) where
  -- with it
  pub tally_more : (first was more : Tally) → now ≡ drawn g ds → (word, next) ≡ pcg32 now → f ≡ fate_of word
      → was ≡ tallied (fated g ds) first → more ≡ with_fate f was → more ≡ tallied (fated g (ds ++ d ∷ [])) first
  tally_more first was more at step is before put =
      put
      ∙ ap (with_fate f) before
      ∙ ap (λ x. with_fate x (tallied (fated g ds) first)) (met g now next ds word f at step is)
      ∙ sym (tallied_both (fated g ds) (fated (drawn g ds) (d ∷ [])) first)
      ∙ ap (λ xs. tallied xs first) (sym (fated_both g ds (d ∷ [])))

  -- what is held behind it
  pub held_more : (first held more : List Datagram) → now ≡ drawn g ds → (word, next) ≡ pcg32 now → f ≡ fate_of word
      → held ≡ first ++ gathered stays (fated g ds) → more ≡ held ++ stays (d, f)
      → more ≡ first ++ gathered stays (fated g (ds ++ d ∷ []))
  held_more first held more at step is before put =
      put
      ∙ ap (λ xs. xs ++ stays (d, f)) before
      ∙ ap (λ x. first ++ gathered stays (fated g ds) ++ stays (d, x)) (met g now next ds word f at step is)
      ∙ append_assoc first (gathered stays (fated g ds)) (stays (d, fate_of (pcg32 (drawn g ds)).0))
      ∙ ap (λ xs. first ++ xs) (sym (gathered_more stays g ds d))

  -- what came is delivered
  pub comes_more : (w m new : WorldState) (a b c : Told) → now ≡ drawn g ds → (word, next) ≡ pcg32 now
      → f ≡ fate_of word → Plays (each delivers (gathered comes (fated g ds))) w m None a b
      → Plays (each delivers (comes (d, f))) m new None b c
      → Plays (each delivers (gathered comes (fated g (ds ++ d ∷ [])))) w new None a c
  comes_more w m new a b c at step is before plays =
      subst (λ xs. Plays (each delivers xs) w new None a c) (sym (gathered_more comes g ds d))
      (both_play delivers (gathered comes (fated g ds)) (comes (d, fate_of (pcg32 (drawn g ds)).0)) w m new None a b c
      before
      (subst (λ x. Plays (each delivers (comes (d, x))) m new None b c) (met g now next ds word f at step is) plays))

-- what was yielded of a list, what is yielded next, and what is left
pub turn_around : {X : Type 0} (all ys : List X) (x : X) → map (λ y. y) ys ≡ take (length ys) all
    → (length ys < length all) × (x ≡ get_or all (length ys) x) → all ≡ ys ++ x ∷ drop (suc (length ys)) all
turn_around all ys x far at =
    front_around all (length ys) x at.0 at.1
    ∙ ap (λ zs. zs ++ x ∷ drop (suc (length ys)) all) (sym far ∙ map-id ys)

module _ (g now next : Lcg) (all ds more : List Datagram) (d : Datagram) (word : ℕ) (f : Fate) (w m new : WorldState)
    (r : Result (Unit {0}) Stop) (stop : Stop) (a b c : Told) where
  -- the run ended as it met its fate
  pub comes_ended : all ≡ ds ++ d ∷ more → now ≡ drawn g ds → (word, next) ≡ pcg32 now → f ≡ fate_of word
      → Plays (each delivers (gathered comes (fated g ds))) w m None a b
      → Plays (each delivers (comes (d, f))) m new (Some stop) b c → IsErr r × IsErrAnd r (λ why. why ≡ stop)
      → Plays (each delivers (gathered comes (fated g all))) w new (stop_of r) a c
  comes_ended whole at step is before plays err =
      subst (λ o. Plays (each delivers (gathered comes (fated g all))) w new o a c) (sym (stop_is r stop err))
      (subst (λ xs. Plays (each delivers xs) w new (Some stop) a c)
      (sym (ap (λ xs. gathered comes (fated g xs)) whole ∙ gathered_of comes g ds (d ∷ more)))
      (both_play delivers (gathered comes (fated g ds)) (gathered comes (fated (drawn g ds) (d ∷ more))) w m new
      (Some stop) a b c before
      (front_stops delivers delivers_cut (comes (d, fate_of (pcg32 (drawn g ds)).0))
      (gathered comes (fated (pcg32 (drawn g ds)).1 more)) m new stop b c
      (subst (λ x. Plays (each delivers (comes (d, x))) m new (Some stop) b c) (met g now next ds word f at step is)
      plays))))

-- ---- all were yielded

all_met : {X : Type 0} (all ys : List X) → map (λ y. y) ys ≡ all → ys ≡ all
all_met all ys far = sym (map-id ys) ∙ far

pub comes_all : (g : Lcg) (all ds : List Datagram) (w new : WorldState) (a b : Told) → map (λ d. d) ds ≡ all
    → Plays (each delivers (gathered comes (fated g ds))) w new None a b
    → Plays (each delivers (gathered comes (fated g all))) w new None a b
comes_all g all ds w new a b far plays =
    subst (λ xs. Plays (each delivers (gathered comes (fated g xs))) w new None a b) (all_met all ds far) plays

pub held_all : (g : Lcg) (all ds first held : List Datagram) → map (λ d. d) ds ≡ all
    → held ≡ first ++ gathered stays (fated g ds) → held ≡ first ++ gathered stays (fated g all)
held_all g all ds first held far is = is ∙ ap (λ xs. first ++ gathered stays (fated g xs)) (all_met all ds far)

pub drawn_all : (g : Lcg) (all ds : List Datagram) (words : Lcg) → map (λ d. d) ds ≡ all → words ≡ drawn g ds
    → words ≡ drawn g all
drawn_all g all ds words far is = is ∙ ap (drawn g) (all_met all ds far)

pub tally_all : (g : Lcg) (all ds : List Datagram) (first t : Tally) → map (λ d. d) ds ≡ all
    → t ≡ tallied (fated g ds) first → t ≡ tallied (fated g all) first
tally_all g all ds first t far is = is ∙ ap (λ xs. tallied (fated g xs) first) (all_met all ds far)
