-- What became of a load, from what it shows.
use Rattle.std.proofs.Common.{◌≡◌, ◌∙◌, ℕ, List, ap, sym}
use Rattle.rx_load.specs.Loads.{Load}
use Rattle.rx_load.specs.Summing.{summary_of, summed}
use Rattle.rx_load.specs.declared.summary.Summary.{Summary}
use Rattle.rx_plan.specs.Stages.{InvokedState, Stage}
use Rattle.rx_loader.specs.Showing.{ShowsLoad}
use Rattle.rx_loader.specs.declared.loading.Loading.{Loading}

-- what is summed of what it keeps is that of what it shows
kept_is_shown : (w : Loading) (l : Load) (calls : ℕ) → ShowsLoad w l
    → summary_of calls l ≡ summed calls w.world.callers w.bodies.items w.rounds w.network.tally
kept_is_shown w l calls shown =
    ap (λ (s : Stage). summed calls s.callers l.bodies l.rounds l.tally) shown.net.0.is
    ∙ ap (λ bs. summed calls w.world.callers bs l.rounds l.tally) shown.bodies
    ∙ ap (λ n. summed calls w.world.callers w.bodies.items n l.tally) shown.rounds
    ∙ ap (summed calls w.world.callers w.bodies.items w.rounds) shown.tally

-- what is summed of the callers, Bodies, rounds and datagrams that were read of it is its summary
pub summary_is : (read w : Loading) (l : Load) (calls : ℕ) (callers : List InvokedState) (bodies : List ℕ)
    (summary : Summary) → read ≡ w → ShowsLoad w l → callers ≡ read.world.callers → bodies ≡ read.bodies.items
    → summary ≡ summed calls callers bodies read.rounds read.network.tally → summary ≡ summary_of calls l
summary_is read w l calls callers bodies summary same shown called sized is =
    is
    ∙ ap (λ cs. summed calls cs bodies read.rounds read.network.tally) called
    ∙ ap (λ bs. summed calls read.world.callers bs read.rounds read.network.tally) sized
    ∙ ap (λ (v : Loading). summed calls v.world.callers v.bodies.items v.rounds v.network.tally) same
    ∙ sym (kept_is_shown w l calls shown)
