-- Polls and lossy rounds that were made on the nodes of a run, and told. Public clauses cite this module.
use Rattle.std.specs.Prelude.{◌≡◌, false, true, List, Option}
use Rattle.rx_law.specs.Worlds.{Datagram}
use Rattle.rx_plan.specs.Parts.{Part}
use Rattle.rand_pcg.specs.Lcg.{Lcg}
use Rattle.rx_plan.specs.Rounds.{Polling, Polled}
use Rattle.rx_plan.specs.Lossy.{drawn, Lossy}
use Rattle.rx_plan.specs.Stages.{Stage}
use Rattle.rx_stage.specs.Ran.{Ran}
use Rattle.rx_stage.specs.Shown.{Shows, WorldState}
use Rattle.rx_stage.specs.Tells.{Told}
use Rattle.rx_stage.specs.declared.stop.Stop.{Stop}

-- a stage that is shown, and the datagrams that were given
abbrev pub ShowsGiven : WorldState → List Datagram → Polled → Type 0
ShowsGiven w given p = Shows w p.stage × (p.given ≡ given)

-- at each stage that is shown, behind these datagrams, the polls were made, and what they came to is shown; or the run
-- ends as they say
abbrev pub PlaysGiven : (Polled → Part Polled) → WorldState → List Datagram → WorldState → List Datagram → Option Stop
    → Told → Told → Type 0
PlaysGiven part old given new more stop before after =
    (p : Polled) → ShowsGiven old given p → Ran (part p) (ShowsGiven new more) stop before after

-- a node that is polled again, behind these datagrams
abbrev pub more_from : List Datagram → Polling
more_from given = record { again = true; given = given }

-- one that isn't
abbrev pub ended_with : List Datagram → Polling
ended_with given = record { again = false; given = given }

-- a stage that is shown, with this generator and these datagrams that are held
abbrev pub ShowsLossy : WorldState → Lcg → List Datagram → Lossy → Type 0
ShowsLossy w words held l = Shows w l.stage × (l.words ≡ words) × (l.held ≡ held)

-- at each stage that is shown, with what the network comes to there, the part was made, and what it came to is shown;
-- or the run ends as the part says
abbrev pub PlaysLossy : (Lossy → Part Lossy) → WorldState → Lcg → List Datagram → WorldState → Lcg → List Datagram
    → Option Stop → Told → Told → Type 0
PlaysLossy part old words held new drawn kept stop before after =
    (l : Lossy) → ShowsLossy old words held l → Ran (part l) (ShowsLossy new drawn kept) stop before after

-- the same of what a lossy round does behind its polls
abbrev pub PlaysCarried : (Stage → Part Lossy) → WorldState → WorldState → Lcg → List Datagram → Option Stop → Told
    → Told
    → Type 0
PlaysCarried part old new drawn kept stop before after =
    (s : Stage) → Shows old s → Ran (part s) (ShowsLossy new drawn kept) stop before after
