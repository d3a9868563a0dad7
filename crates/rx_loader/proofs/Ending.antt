-- How a load ends, from how its parts went.
use Rattle.std.proofs.Common.{◌≡◌, ◌∙◌, ◌<◌, ◌-◌, ◌^◌, ℕ, List, [], Option, Some, None, Ok, Err, Result}
use Rattle.std.proofs.Common.{refl, inl, inr, sym, subst, arith, reverse}
use Rattle.std.specs.Prelude.{IsErr, IsErrAnd}
use Rattle.rx_base.specs.Sink.{HasRisen}
use Rattle.rx_law.specs.Worlds.{World}
use Rattle.rx_model.specs.declared.event.Noted.{Noted}
use Rattle.rx_load.specs.Keeping.{LoadPromises}
use Rattle.rx_load.specs.Loads.{Load, connects_all, load_begun, load_nodes, load_part, load_rounds}
use Rattle.rx_load.specs.Saying.{SaidOf}
use Rattle.rx_load.specs.Summing.{summary_of}
use Rattle.rx_load.specs.declared.summary.Loaded.{Loaded}
use Rattle.rx_load.specs.declared.summary.Loaded.TheVariants as loads
use Rattle.rx_load.specs.declared.summary.Summary.{Summary}
use Rattle.rx_loader.specs.Loaded.{LoadIs, LoadKeeps, loaded_of}
use Rattle.rx_loader.specs.Showing.{IsAtStart, Loads, PlaysLoad, ShowsLoad}
use Rattle.rx_loader.specs.declared.loading.Loading.{Loading}
use Rattle.rx_loader.proofs.Unrefused.{load_goes}
use Rattle.rx_plan.specs.Parts.{Came, To, Refused, Cut, Endless, Then, ends}
use Rattle.rx_stage.specs.Ran.{Fits, Ran, fits_endless, fits_fails, fits_refused, fits_to, fits_wants}
use Rattle.rx_stage.specs.Tells.{Fails, Told, fails_last, fails_one, wants_more}
use Rattle.rx_stage.specs.declared.stop.Stop.{Stop}
use Rattle.rx_stage.proofs.Following.{then_cut}
use Rattle.rx_stage.proofs.Running.{ran_then, ran_to}

-- ---- a sink that counts no fault

-- it didn't rise
not_risen : (old new : ℕ) → new ≡ old → old < 2 ^ 64 - 1 → HasRisen old new → ⊥
not_risen old new same low (inl less) = omega (arith, same, less)
not_risen old new same low (inr end) = omega (arith, same, low, end)

-- no sink failed
no_fault : (a b : Told) (es : List Noted) → b.faults ≡ a.faults → a.faults < 2 ^ 64 - 1 → Fails a b es → ⊥
no_fault a b es same low (fails_last x y n failed) = not_risen a.faults b.faults same low failed.faults
no_fault a c es same low (fails_one x b y n more one rest) =
    no_fault b c more (same ∙ sym one.faults) (subst (λ k. k < 2 ^ 64 - 1) (sym one.faults) low) rest

-- ---- its parts

-- they began at its start
pub begun : (number calls : ℕ) (w new : Loading) (stop : Option Stop) (a b : Told) → IsAtStart number calls w
    → PlaysLoad (λ l. Then (connects_all l) (load_rounds calls 1000000)) w new stop a b
    → Ran (load_part number calls) (ShowsLoad new) stop a b
begun number calls w new stop a b at plays =
    ran_then (ends (To (load_begun number calls))) (λ l. Then (connects_all l) (load_rounds calls 1000000))
    (ShowsLoad w) (ShowsLoad new) stop a a b (ran_to (ShowsLoad w) (load_begun number calls) a at) plays

-- ---- its end

-- it ended before all was made
pub ended_is : (number calls : ℕ) (shows : Load → Type 0) (stop : Stop) (a b : Told) → b.faults ≡ a.faults
    → a.faults < 2 ^ 64 - 1 → Ran (load_part number calls) shows (Some stop) a b
    → LoadIs number calls loads.OutOfMemory a b
ended_is number calls shows stop a b same low r = of r.events r.came stop r.made r.fits
  where
    of : (es : List Noted) (came : Came Load) (why : Stop) → load_part number calls es came
        → Fits shows came (Some why) a b es → LoadIs number calls loads.OutOfMemory a b
    of es came why made (fits_refused cause old new them told) =
        elim (load_goes number calls es (Refused cause) made) [ ]
    of es came why made (fits_wants old new them told) =
        record { events = es; came = Cut; made = made; tells = told }
    of es came why made (fits_fails old new them told) = elim (no_fault a b es same low told) [ ]
    of es came why made (fits_endless old new them told) =
        record { events = es; came = Endless; made = made; tells = told }

-- as its result says
pub stopped_is : (number calls : ℕ) (r : Result Summary Stop) (stop : Stop) (a b : Told)
    → IsErr r × IsErrAnd r (λ why. why ≡ stop) → LoadIs number calls loads.OutOfMemory a b
    → LoadIs number calls (loaded_of r) a b
stopped_is number calls (Ok summary) stop a b was is = elim was.1 [ ]
stopped_is number calls (Err why) stop a b was is = is

-- memory was wanted before its start
pub lacks_is : (number calls : ℕ) (t : Told) → LoadIs number calls loads.OutOfMemory t t
lacks_is number calls t = record {
  events = [];
  came = Cut;
  made = then_cut (ends (To (load_begun number calls))) (λ l. Then (connects_all l) (load_rounds calls 1000000))
      (refl, inr refl);
  tells = wants_more t;
}

-- all was made
pub whole_is : (number calls : ℕ) (w : Loading) (summary : Summary) (a b : Told)
    → Loads w (λ l. summary ≡ summary_of calls l) → Ran (load_part number calls) (ShowsLoad w) None a b
    → LoadIs number calls (loads.Ran summary) a b
whole_is number calls w summary a b exact r = of r.events r.came r.made r.fits
  where
    of : (es : List Noted) (came : Came Load) → load_part number calls es came → Fits (ShowsLoad w) came None a b es
        → LoadIs number calls (loads.Ran summary) a b
    of es came made (fits_to l old new them there told) =
        record { events = es; came = To l; made = made; tells = (exact l there, told) }

-- ---- what holds of it

-- by the law of loads
pub load_keeps : ((number calls : ℕ) (es : List Noted) (came : Came Load) → load_part number calls es came
    → World load_nodes (reverse es))
    → ((number calls : ℕ) (es : List Noted) (came : Came Load) → load_part number calls es came → LoadPromises es)
    → ((number calls : ℕ) (es : List Noted) (came : Came Load) → load_part number calls es came
    → SaidOf (reverse es) came)
    → (number calls : ℕ) (loaded : Loaded) (a b : Told) → LoadKeeps number calls loaded a b
load_keeps world promises says number calls loaded a b r = (
  world number calls r.events r.came r.made,
  promises number calls r.events r.came r.made,
  says number calls r.events r.came r.made,
)
