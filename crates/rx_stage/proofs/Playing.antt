-- Parts that follow one another, from what is kept to what is kept.
use Rattle.std.proofs.Common.{List, [], ◌∷◌, ◌++◌, Option, Some, None}
use Rattle.rx_stage.specs.declared.stop.Stop.{Stop}
use Rattle.rx_stage.specs.declared.stop.Stop.TheVariants as stops
use Rattle.rx_plan.specs.Parts.{Part, Then, To, each, ends}
use Rattle.rx_stage.specs.Shown.{Plays, Shows, WorldState}
use Rattle.rx_plan.specs.Stages.{Stage}
use Rattle.rx_stage.specs.Tells.{Told}
use Rattle.rx_stage.proofs.Each.{each_ended, each_more}
use Rattle.rx_stage.proofs.Running.{ran_stops, ran_then, ran_to, ran_wants}

-- nothing is made, and the run goes on
pub plays_none : (w : WorldState) (t : Told) → Plays (λ s. ends (To s)) w w None t t
plays_none w t s shown = ran_to (Shows w) s t shown

-- nothing is made, and memory is wanted
pub plays_wants : (w new : WorldState) (t : Told) → Plays (λ s. ends (To s)) w new (Some stops.OutOfMemory) t t
plays_wants w new t s shown = ran_wants (Shows new) (To s) t

-- one part and then another
pub plays_then : (first next : Stage → Part Stage) (w m new : WorldState) (stop : Option Stop) (a b c : Told)
    → Plays first w m None a b → Plays next m new stop b c → Plays (λ s. Then (first s) next) w new stop a c
plays_then first next w m new stop a b c f g s shown =
    ran_then (first s) next (Shows m) (Shows new) stop a b c (f s shown) g

-- the first ended the run
pub plays_stops : (first next : Stage → Part Stage) (w m new : WorldState) (stop : Stop) (a b : Told)
    → Plays first w m (Some stop) a b → Plays (λ s. Then (first s) next) w new (Some stop) a b
plays_stops first next w m new stop a b f s shown =
    ran_stops (first s) next (Shows m) (Shows new) stop a b (f s shown)

-- ---- one for each of a list

-- none yet
pub each_none : {X : Type 0} (part : X → Stage → Part Stage) (w : WorldState) (t : Told)
    → Plays (each part []) w w None t t
each_none part w t s shown = ran_to (Shows w) s t shown

module _ {X : Type 0} (part : X → Stage → Part Stage) (xs : List X) where
  -- one more
  pub each_one : (x : X) (w m new : WorldState) (stop : Option Stop) (a b c : Told) → Plays (each part xs) w m None a b
      → Plays (part x) m new stop b c → Plays (each part (xs ++ x ∷ [])) w new stop a c
  each_one x w m new stop a b c f g s shown =
      each_more part xs x s (Shows m) (Shows new) stop a b c (f s shown) g

  -- one more that ended the run, whatever was to come
  pub each_stops : (more : List X) (x : X) (w m new : WorldState) (stop : Stop) (a b c : Told)
      → Plays (each part xs) w m None a b → Plays (part x) m new (Some stop) b c
      → Plays (each part (xs ++ x ∷ more)) w new (Some stop) a c
  each_stops more x w m new stop a b c f g s shown =
      each_ended part xs more x s (Shows m) (Shows new) stop a b c (f s shown) g
