-- What a part of a run makes: a list of steps, the first one first, and what it comes to. A step is what the run makes
-- one by one, as an event of a node. Public clauses cite this module.
use Rattle.std.specs.Prelude.{◌≡◌, ◌⊎◌, Bool, true, false, List, [], ◌∷◌, ◌++◌}

-- what a part came to: something; an end of its own, for a reason; nothing, where the run was cut off as it was told;
-- or it has no end
pub data Came (Why A : Type 0) : Type 0 where
  To : (a : A) → Came Why A
  Ended : (why : Why) → Came Why A
  Cut : Came Why A
  Endless : Came Why A

-- the steps that a part may make, with what it then comes to
abbrev pub Part : Type 0 → Type 0 → Type 0 → Type 1
Part Step Why A = List Step → Came Why A → Type 0

-- nothing is made; a run may be cut off there
abbrev pub ends : {Step Why A : Type 0} → Came Why A → Part Step Why A
ends came es out = (es ≡ []) × ((out ≡ came) ⊎ (out ≡ Cut))

-- one part where a test holds, and else another
abbrev pub by_test : {Step Why A : Type 0} → Bool → Part Step Why A → Part Step Why A → Part Step Why A
by_test true first other = first
by_test false first other = other

-- a part that has nothing more to make, or goes on from what was come to
abbrev pub goes_on : {Step Why A B : Type 0} → (A → Part Step Why B) → Came Why A → Part Step Why B
goes_on next (To a) = next a
goes_on next (Ended why) = ends (Ended why)
goes_on next Cut = ends Cut
goes_on next Endless = ends Endless

-- one part and then another
pub record Then {Step Why A B : Type 0} (first : Part Step Why A) (next : A → Part Step Why B) (es : List Step)
    (out : Came Why B) : Type 0 where
  pub front : List Step
  pub rest : List Step
  pub are : es ≡ front ++ rest
  pub came : Came Why A
  pub made : first front came
  pub goes : goes_on next came rest out

-- one step of some kind; a run may end before it, or behind it
pub data One {Step Why X : Type 0} (made : X → Step) (is : X → Type 0) : List Step → Came Why X → Type 0 where
  not_made : One made is [] Cut
  cut_behind : (x : X) → is x → One made is (made x ∷ []) Cut
  makes : (x : X) → is x → One made is (made x ∷ []) (To x)

-- one part for each of a list, in order, each from what the one before it came to
abbrev pub each : {Step Why A X : Type 0} → (X → A → Part Step Why A) → List X → A → Part Step Why A
each part [] a = ends (To a)
each part (x ∷ xs) a = Then (part x a) (each part xs)
