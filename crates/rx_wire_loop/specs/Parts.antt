-- What a part of the passes of a node makes: events of the node and entries of the wire's log, each list from the first
-- one on, and what it comes to. Public clauses cite this module.
use Rattle.std.specs.Prelude.{◌≡◌, ℕ, List, [], ◌∷◌, ◌++◌}
use Rattle.rx_model.specs.declared.event.Event.{Event}
use Rattle.rx_wire.specs.Wire.{Logged}
use Rattle.rx_wire.specs.Turns.{after_all}
use Rattle.rx_drive.specs.Tells.{moment_after}
use Rattle.rx_drive.specs.declared.stop.Stop.{Stop}
use Rattle.rx_drive.specs.declared.stop.Stop.TheVariants as stops

-- ---- places

-- where passes stand: the history of the node, its newest event first, and the moment of the wire
pub record Place : Type 0 where
  pub history : List Event
  pub now : ℕ

-- the place behind these events and entries
abbrev pub behind : List Event → List Logged → Place → Place
behind es ls p = record { history = after_all es p.history; now = moment_after ls p.now }

-- ---- parts

-- what a part came to: something, or passes end in it for this reason
pub data Came (A : Type 0) : Type 0 where
  To : (a : A) → Came A
  Cut : (stop : Stop) → Came A

-- the events and the entries that a part may make from a place on, with what it then comes to
abbrev pub Part : Type 0 → Type 1
Part A = Place → List Event → List Logged → Came A → Type 0

-- nothing is made, and this is come to
abbrev pub ends : {A : Type 0} → Came A → Part A
ends came p es ls out = (es ≡ []) × (ls ≡ []) × (out ≡ came)

-- what follows something that was come to; where passes end nothing more is made, and the reason stays
abbrev pub goes_on : {A B : Type 0} → (A → Part B) → Came A → Part B
goes_on next (To a) = next a
goes_on next (Cut stop) = ends (Cut stop)

-- one part and then another
pub record Then {A B : Type 0} (first : Part A) (next : A → Part B) (p : Place) (es : List Event) (ls : List Logged)
    (out : Came B) : Type 0 where
  pub early : List Event
  pub late : List Event
  pub early_log : List Logged
  pub late_log : List Logged
  pub events : es ≡ early ++ late
  pub log : ls ≡ early_log ++ late_log
  pub came : Came A
  pub made : first p early early_log came
  pub goes : goes_on next came (behind early early_log p) late late_log out

-- one event of the node, by what it answered; where its note is refused passes end behind it
pub data One {A : Type 0} (event : A → Event) (p : Place) : List Event → List Logged → Came A → Type 0 where
  makes : (a : A) → One event p (event a ∷ []) [] (To a)
  refuses : (a : A) → One event p (event a ∷ []) [] (Cut stops.Unnoted)
