-- Parts from what is shown to what is shown, whatever they begin and end with.
use Rattle.std.proofs.Common.{◌≡◌, List, [], ◌∷◌, ◌++◌, Option, Some, None, refl, inl, sym, subst}
use Rattle.rx_stage.specs.declared.stop.Stop.{Stop}
use Rattle.rx_stage.specs.declared.stop.Stop.TheVariants as stops
use Rattle.rx_plan.specs.Parts.{Cut, To, Part, Then, each, ends}
use Rattle.rx_stage.specs.Ran.{Ran, fits_wants}
use Rattle.rx_stage.specs.Tells.{Told, wants_more}
use Rattle.rx_stage.proofs.Each.{each_ended, each_more}
use Rattle.rx_stage.proofs.Running.{ran_stops, ran_then, ran_to}

-- the part was made from each beginning that is shown
abbrev pub PlaysOn : {A B : Type 0} → (A → Part B) → (A → Type 0) → (B → Type 0) → Option Stop → Told → Told → Type 0
PlaysOn {A} {B} part old new stop a b = (x : A) → old x → Ran (part x) new stop a b

-- what was come to, as something else
pub ran_as : {A B : Type 0} (part : Part A) (f : A → B) (shows : A → Type 0) (after : B → Type 0) (stop : Option Stop)
    (a b : Told) → Ran part shows stop a b → ((x : A) → shows x → after (f x))
    → Ran (Then part (λ x. ends (To (f x)))) after stop a b
ran_as part f shows after None a b r onto =
    ran_then part (λ x. ends (To (f x))) shows after None a b b r (λ x there. ran_to after (f x) b (onto x there))
ran_as part f shows after (Some stop) a b r onto = ran_stops part (λ x. ends (To (f x))) shows after stop a b r

-- the run ended with the first of two parts, whatever is shown
pub ran_ended : {A B : Type 0} (first : Part A) (next : A → Part B) (shows : A → Type 0) (after : B → Type 0)
    (stop : Stop) (a b : Told) → Ran first shows (Some stop) a b → Ran (Then first next) after (Some stop) a b
ran_ended first next shows after stop a b r = ran_stops first next shows after stop a b r

-- what is made may be cut off there: memory is wanted
pub ran_cut : {A : Type 0} (part : Part A) (shows : A → Type 0) (t : Told) → part [] Cut
    → Ran part shows (Some stops.OutOfMemory) t t
ran_cut part shows t made = record { events = []; came = Cut; made = made; fits = fits_wants t t [] (wants_more t) }

-- ---- one part and another

-- the first may be cut off, and so both
pub then_cut : {A B : Type 0} (first : Part A) (next : A → Part B) → first [] Cut → Then first next [] Cut
then_cut first next made = record {
  front = [];
  rest = [];
  are = refl;
  came = Cut;
  made = made;
  goes = (
    refl,
    inl
        refl,
  );
}

-- ---- one for each of a list

pub on_none : {A X : Type 0} (part : X → A → Part A) (shows : A → Type 0) (t : Told)
    → PlaysOn (each part []) shows shows None t t
on_none part shows t x was = ran_to shows x t was

module _ {A X : Type 0} (part : X → A → Part A) (xs : List X) where
  pub on_one : (x : X) (old mid new : A → Type 0) (stop : Option Stop) (a b c : Told)
      → PlaysOn (each part xs) old mid None a b → PlaysOn (part x) mid new stop b c
      → PlaysOn (each part (xs ++ x ∷ [])) old new stop a c
  on_one x old mid new stop a b c f g s was = each_more part xs x s mid new stop a b c (f s was) g

  pub on_stops : (more : List X) (x : X) (old mid new : A → Type 0) (stop : Stop) (a b c : Told)
      → PlaysOn (each part xs) old mid None a b → PlaysOn (part x) mid new (Some stop) b c
      → PlaysOn (each part (xs ++ x ∷ more)) old new (Some stop) a c
  on_stops more x old mid new stop a b c f g s was =
      each_ended part xs more x s mid new stop a b c (f s was) g

-- a list that the beginning says
pub on_listed : {A X : Type 0} (part : X → A → Part A) (list : A → List X) (xs : List X) (old new : A → Type 0)
    (stop : Option Stop) (a b : Told) → ((x : A) → old x → list x ≡ xs) → PlaysOn (each part xs) old new stop a b
    → PlaysOn (λ x. each part (list x) x) old new stop a b
on_listed part list xs old new stop a b same f x was =
    subst (λ ys. Ran (each part ys x) new stop a b) (sym (same x was)) (f x was)
