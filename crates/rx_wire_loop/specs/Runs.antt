-- What was made of a part, from what was told before it to what is told behind it. Public clauses cite this module.
use Rattle.std.specs.Prelude.{◌≡◌, ◌≤◌, ℕ, List, Option, Some, None}
use Rattle.rx_model.specs.declared.event.Event.{Event}
use Rattle.rx_rules.specs.After.{looks}
use Rattle.rx_rules.specs.Rules.{Legal}
use Rattle.rx_rules.specs.Setup.{Setup}
use Rattle.rx_wire.specs.Wire.{Logged}
use Rattle.rx_drive.specs.declared.stop.Stop.{Stop}
use Rattle.rx_drive.specs.declared.stop.Stop.TheVariants as stops
use Rattle.rx_wire_loop.specs.Parts.{Came, To, Cut, Part, Place, behind}
use Rattle.rx_wire_loop.specs.Tells.{Breaks, Fails, Gains, Refuses, Told, Wants}

-- a node with its number, how it is set up, and for which histories it stood before and stands behind a part; and what
-- was told before and behind it
pub record Change : Type 1 where
  pub node : ℕ
  pub setup : Setup
  pub stood : List Event → Type 0
  pub stands : List Event → Type 0
  pub before : Told
  pub after : Told

-- the same from each
abbrev pub change : ℕ → Setup → (List Event → Type 0) → (List Event → Type 0) → Told → Told → Change
change node setup stood stands before after =
    record { node = node; setup = setup; stood = stood; stands = stands; before = before; after = after }

-- a node that stands for these histories is at a place: it stands for its history, which isn't ahead of the wire
pub record IsAt (s : Setup) (stands : List Event → Type 0) (t : Told) (p : Place) : Type 0 where
  pub standing : stands p.history
  pub now : p.now ≡ t.wire.moment
  pub later : (looks s p.history).now ≤ p.now

-- a node that stands for these histories stands for some that isn't ahead of a moment
abbrev pub IsBehind : Setup → (List Event → Type 0) → ℕ → Type 0
IsBehind s stands now = (h : List Event) × stands h × ((looks s h).now ≤ now)

-- what was told of what was made, where passes end for this reason
abbrev pub Stops : Change → List Event → List Logged → Stop → Type 0
Stops c es ls stops.OutOfMemory = Gains c.node c.before c.after es ls
Stops c es ls stops.Unformatted = Wants c.node c.before c.after es ls
Stops c es ls stops.SinkFault = Fails c.node c.before c.after es ls
Stops c es ls stops.WireFault = Breaks c.node c.before c.after es ls
Stops c es ls stops.Unnoted = Refuses c.node c.before c.after es ls
Stops c es ls stops.Endless = Gains c.node c.before c.after es ls

-- what was come to, how passes go on, and what was told of what was made: passes end for the part's reason
abbrev pub Fits : {A : Type 0} → Change → (A → Type 0) → Place → List Event → List Logged → Came A → Option Stop → Type
    0
Fits c shows p es ls (To a) None =
    shows a × Gains c.node c.before c.after es ls × IsAt c.setup c.stands c.after (behind es ls p)
Fits c shows p es ls (To a) (Some stop) = ⊥
Fits c shows p es ls (Cut why) None = ⊥
Fits c shows p es ls (Cut why) (Some stop) = (why ≡ stop) × Stops c es ls stop

-- events and entries that the part may make were made and told, a legal history is legal with them, and what was come
-- to is shown; or passes end as the part says
pub record Ran {A : Type 0} (c : Change) (part : Part A) (shows : A → Type 0) (stop : Option Stop) (p : Place)
    : Type 0 where
  pub events : List Event
  pub log : List Logged
  pub came : Came A
  pub made : part p events log came
  pub legal : Legal c.setup p.history → Legal c.setup ((behind events log p).history)
  pub fits : Fits c shows p events log came stop

-- the same from each place at which the node is
abbrev pub Plays : {A : Type 0} → Change → Part A → (A → Type 0) → Option Stop → Type 0
Plays c part shows stop = (p : Place) → IsAt c.setup c.stood c.before p → Ran c part shows stop p
