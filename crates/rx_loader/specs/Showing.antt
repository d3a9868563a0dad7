-- What a load at work shows. The contracts of its functions cite this module.
use Rattle.std.specs.Prelude.{◌≡◌, ℕ, Option}
use Rattle.rx_plan.specs.Parts.{Part}
use Rattle.rx_stage.specs.Ran.{Ran}
use Rattle.rx_stage.specs.RoundsPlayed.{ShowsLossy}
use Rattle.rx_stage.specs.Tells.{Told}
use Rattle.rx_stage.specs.declared.stop.Stop.{Stop}
use Rattle.rx_load.specs.Loads.{Load, load_begun}
use Rattle.rx_loader.specs.declared.loading.Loading.{Loading}

-- it shows what a load has come to
pub record ShowsLoad (w : Loading) (l : Load) : Type 0 where
  pub net : ShowsLossy w.world w.network.words w.network.held.items l.net
  pub next : l.next ≡ w.next.items
  pub bodies : l.bodies ≡ w.bodies.items
  pub rounds : l.rounds ≡ w.rounds
  pub tally : l.tally ≡ w.network.tally

-- something of all that it shows
abbrev pub Loads : Loading → (Load → Type 0) → Type 0
Loads w P = (l : Load) → ShowsLoad w l → P l

-- a load before its first event
abbrev pub IsAtStart : ℕ → ℕ → Loading → Type 0
IsAtStart number calls w = ShowsLoad w (load_begun number calls)

-- at each load that is shown the part was made, and what it came to is shown; or the load ends as the part says
abbrev pub PlaysLoad : (Load → Part Load) → Loading → Loading → Option Stop → Told → Told → Type 0
PlaysLoad part old new stop before after =
    (l : Load) → ShowsLoad old l → Ran (part l) (ShowsLoad new) stop before after
