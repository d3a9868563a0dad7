-- The jobs of a dispatcher have of their requests what is kept, along a history that it drives.
use Rattle.std.proofs.Common.{◌≡◌, ℕ, ◌+◌, ℤ, Bool, true, false, cond, ltb, List, [], ◌∷◌, Option, Some, None, refl}
use Rattle.std.proofs.Common.{sym, ◌∙◌}
use Rattle.rx_model.specs.declared.event.Event.{Event}
use Rattle.rx_rules.proofs.EveryLaws.{Every}
use Rattle.rx_script.specs.Served.{Served}
use Rattle.rx_script.specs.Served as serveds
use Rattle.rx_jobs.specs.Handlers.{Handlers, early_code, served_for, wait_of}
use Rattle.rx_jobs.specs.Jobs.{JobState, decided, moving, settled, settled_by, stepped, waits}
use Rattle.rx_jobs.specs.Dispatching.{Turning, accepts, serves, over}
use Rattle.rx_jobs.specs.History.{Drives, HasKept, HaveKept, life_of}
use Rattle.rx_jobs.proofs.Driving.{Lived, Waits, drives_lived}
use Rattle.rx_jobs.proofs.LifeLaws.{lives_kept}

-- ---- what a job decides leaves its request

decided_request : (x : Served) (j : JobState) → (decided x j).request ≡ j.request
decided_request (serveds.refusal c) j = refl
decided_request (serveds.bytes out) j = refl

settled_request : (g : Handlers) (steps : ℕ) (j : JobState) → (settled g steps j).request ≡ j.request
settled_request g steps j = by (early_code g j.request true)
  where
    waits_on : (b : Bool)
        → (cond b (record j { steps = steps }) (decided (served_for g j.request) j)).request ≡ j.request
    waits_on true = refl
    waits_on false = decided_request (served_for g j.request) j

    by : (o : Option ℤ) → (settled_by g steps j o).request ≡ j.request
    by (Some c) = refl
    by None = waits_on (ltb steps (wait_of g j.request))

stepped_request : (g : Handlers) (j : JobState) → (stepped g j).request ≡ j.request
stepped_request g j = by (waits j)
  where
    by : (b : Bool) → (cond b (settled g (j.steps + 1) j) j).request ≡ j.request
    by true = settled_request g (j.steps + 1) j
    by false = refl

-- ---- along a history

waits_kept : (g : Handlers) (h : List Event) (jobs : List JobState) → Every (Waits g h) jobs
    → Every (HasKept g h) jobs
waits_kept g h [] all = tt
waits_kept g h (j ∷ js) all =
    (sym (stepped_request g j) ∙ lives_kept g j.call (life_of j.call h) (moving g j) all.0, waits_kept g h js all.1)

lived_kept : (g : Handlers) (t : Turning) (h : List Event) → Lived g h t → HaveKept g h t
lived_kept g (accepts jobs) h live = waits_kept g h jobs live.0
lived_kept g (serves done m todo) h live = (
  waits_kept g h done live.0,
  lives_kept g m.job.call (life_of m.job.call h) m live.1,
  waits_kept g h todo live.2,
)
lived_kept g (over jobs) h live = waits_kept g h jobs live.0

-- each job of a dispatcher has of its request what is kept of the bytes read for its call
pub drives_kept : (g : Handlers) (t : Turning) (h : List Event) → Drives g t h → HaveKept g h t
drives_kept g t h drives = lived_kept g t h (drives_lived g t h drives)
