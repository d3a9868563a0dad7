-- Datagrams that meet their fates, from what is kept to what is kept.
use Rattle.std.proofs.Common.{◌≡◌, [], ◌∷◌, Option, Some, None, Result, sym, subst}
use Rattle.std.specs.Prelude.{IsErr, IsErrAnd}
use Rattle.rx_law.specs.Worlds.{Datagram}
use Rattle.rx_stage.specs.declared.stop.Stop.{Stop}
use Rattle.rx_stage.specs.declared.stop.Stop.TheVariants as stops
use Rattle.rx_plan.specs.declared.fate.Fate.{Fate}
use Rattle.rx_plan.specs.Lossy.{comes}
use Rattle.rx_plan.specs.Network.{delivers}
use Rattle.rx_plan.specs.Parts.{each}
use Rattle.rx_stage.specs.Ran.{stop_of}
use Rattle.rx_stage.specs.Shown.{Plays, Shows, WorldState}
use Rattle.rx_stage.specs.Tells.{Told}
use Rattle.rx_stage.proofs.Following.{on_none, on_one, on_stops}
use Rattle.rx_stage.proofs.Making.{stop_is}
use Rattle.rx_stage.proofs.Playing.{plays_wants}

-- it comes once
pub comes_once : (d : Datagram) (w new : WorldState) (stop : Option Stop) (a b : Told)
    → Plays (delivers d) w new stop a b
    → Plays (each delivers (d ∷ [])) w new stop a b
comes_once d w new stop a b plays =
    on_one delivers [] d (Shows w) (Shows w) (Shows new) stop a a b (on_none delivers (Shows w) a) plays

-- it comes twice
pub comes_twice : (d : Datagram) (w m new : WorldState) (stop : Option Stop) (a b c : Told)
    → Plays (delivers d) w m None a b → Plays (delivers d) m new stop b c
    → Plays (each delivers (d ∷ d ∷ [])) w new stop a c
comes_twice d w m new stop a b c first next =
    on_one delivers (d ∷ []) d (Shows w) (Shows m) (Shows new) stop a b c (comes_once d w m None a b first) next

-- the run ended as it came first
pub comes_stops : (d : Datagram) (w new : WorldState) (r : Result (Unit {0}) Stop) (stop : Stop) (a b : Told)
    → Plays (delivers d) w new (Some stop) a b → IsErr r × IsErrAnd r (λ why. why ≡ stop)
    → Plays (each delivers (d ∷ d ∷ [])) w new (stop_of r) a b
comes_stops d w new r stop a b first err =
    subst (λ o. Plays (each delivers (d ∷ d ∷ [])) w new o a b) (sym (stop_is r stop err))
    (on_stops delivers [] (d ∷ []) d (Shows w) (Shows w) (Shows new) stop a a b (on_none delivers (Shows w) a) first)

-- memory was wanted to hold it
pub holds_wants : (w new : WorldState) (r : Result (Unit {0}) Stop) (t : Told)
    → IsErr r × IsErrAnd r (λ why. why ≡ stops.OutOfMemory) → Plays (each delivers []) w new (stop_of r) t t
holds_wants w new r t err =
    subst (λ o. Plays (each delivers []) w new o t t) (sym (stop_is r stops.OutOfMemory err)) (plays_wants w new t)

-- what comes by a fate that is this one
pub carried : (d : Datagram) (f g : Fate) (w new : WorldState) (stop : Option Stop) (a b : Told) → f ≡ g
    → Plays (each delivers (comes (d, g))) w new stop a b → Plays (each delivers (comes (d, f))) w new stop a b
carried d f g w new stop a b is plays =
    subst (λ x. Plays (each delivers (comes (d, x))) w new stop a b) (sym is) plays
