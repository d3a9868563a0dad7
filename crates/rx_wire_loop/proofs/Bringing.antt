-- To which histories parts of passes bring a node.
use Rattle.std.proofs.Common.{◌≡◌, List, ◌∷◌, ◌++◌, sym, subst}
use Rattle.rx_model.specs.declared.event.Event.{Event}
use Rattle.rx_wire.specs.Wire.{Logged}
use Rattle.rx_wire.specs.Turns.{after_all}
use Rattle.rx_wire.proofs.TurnLaws.{after_all-append}
use Rattle.rx_wire_loop.specs.Parts.{Came, Cut, One, Part, Place, Then, To, behind, ends, goes_on, makes}

-- the history behind the part is such, by what it came to, where the one before it is such
abbrev pub Brings : {A : Type 0} → Part A → (List Event → Type 0) → (A → List Event → Type 0) → Type 0
Brings {A} part stood stands =
    (p : Place) (es : List Event) (ls : List Logged) (a : A) → stood p.history → part p es ls (To a)
    → stands a (after_all es p.history)

-- nothing is made
pub brings_ends : {A : Type 0} (came : Came A) (stood : List Event → Type 0) (stands : A → List Event → Type 0)
    → ((a : A) (h : List Event) → came ≡ To a → stood h → stands a h) → Brings (ends came) stood stands
brings_ends came stood stands there p es ls a at made =
    rw made.0 (there a p.history (sym made.2) at)

-- one event is made
pub brings_one : {A : Type 0} (event : A → Event) (stood : List Event → Type 0) (stands : A → List Event → Type 0)
    → ((a : A) (h : List Event) → stood h → stands a (event a ∷ h)) → Brings (One event) stood stands
brings_one event stood stands there p es ls a at (makes its) = there its p.history at

-- one part and then another
module _ {A B : Type 0} (first : Part A) (next : A → Part B) (stood : List Event → Type 0)
    (mid : A → List Event → Type 0) (stands : B → List Event → Type 0) (early : Brings first stood mid)
    (late : (a : A) → Brings (next a) (mid a) stands) where
  on : (p : Place) (es fs : List Event) (ls ms : List Logged) (b : B) (came : Came A) → stood p.history
      → first p es ls came → goes_on next came (behind es ls p) fs ms (To b) → stands b (after_all (es ++ fs) p.history)
  on p es fs ls ms b (To a) at made goes =
      subst (stands b) (sym (after_all-append es fs p.history))
      (late a (behind es ls p) fs ms b (early p es ls a at made) goes)
  on p es fs ls ms b (Cut stop) at made goes =
      brings_ends (Cut stop) (λ h. stood p.history) (λ c h. stands c (after_all (es ++ fs) p.history))
      (λ c h cut i. absurd (cc)) (behind es ls p) fs ms b at goes

  pub brings_then : Brings (Then first next) stood stands
  brings_then p es ls b at t =
      rw t.events (on p t.early t.late t.early_log t.late_log b t.came at t.made t.goes)
