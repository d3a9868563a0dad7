-- The passes of a server, and how they go. Public clauses cite this module.
use Rattle.std.specs.Prelude.{◌≡◌, ◌-◌, ◌^◌, ◌<◌, ◌≤◌, ℕ, suc, List, [], ◌++◌, Some, length}
use Rattle.rx_jobs.specs.Dispatching.{Turning, accepts, dispatching, over}
use Rattle.rx_jobs.specs.Handlers.{Handlers}
use Rattle.rx_jobs.specs.Jobs.{JobState}
use Rattle.rx_dispatch.specs.Wanting.{IsWanting}
use Rattle.rx_model.specs.declared.event.Event.{Event}
use Rattle.rx_rules.specs.Setup.{Setup}
use Rattle.rx_wire.specs.Wire.{Logged}
use Rattle.rx_wire.specs.Turns.{Runs, Turns}
use Rattle.rx_drive.specs.declared.stop.Stop.{Stop}
use Rattle.rx_drive.specs.declared.stop.Stop.TheVariants as stops
use Rattle.rx_wire_loop.specs.Parts.{To, Cut, Part, Place, Then, behind, ends}
use Rattle.rx_wire_loop.specs.Ports.{clocks, polls, takes}

-- ---- passes

-- a pass up to its take, with a turn from what is known: the clock is handed in, the node is polled, the turn is made,
-- and the node is polled again
abbrev pub plays : {V : Type 0} → ℕ → (V → Part V) → V → Part V
plays most turn v =
    Then clocks (λ u. Then (polls most) (λ u. Then (turn v) (λ w. Then (polls most) (λ u. ends (To w)))))

-- a whole pass
abbrev pub pass : {V : Type 0} → (V → Part V) → Part (Unit {0}) → V → Part V
pass play take v = Then (play v) (λ w. Then take (λ u. ends (To w)))

-- so many passes were made whole, and passes go on behind each
pub data Passed {V : Type 0} (play : V → Part V) (take : Part (Unit {0})) (goes : V → Place → Type 0) (v : V)
    (p : Place)
    : ℕ → List Event → List Logged → V → Type 0 where
  passed_none : Passed play take goes v p 0 [] [] v
  passed_more : (n : ℕ) (es later : List Event) (ls later_log : List Logged) (w u : V)
      → Passed play take goes v p n es ls w → pass play take w (behind es ls p) later later_log (To u)
      → goes u (behind (es ++ later) (ls ++ later_log) p)
      → Passed play take goes v p (suc n) (es ++ later) (ls ++ later_log) u

-- ---- serving

-- why a turn that came so far, whose next call may want memory where this is so of what is known, ends passes: its next
-- call wants memory, the sink fails, there is no memory for a line, a note is refused, or the turn has 2^64 - 1 calls
-- or more
abbrev pub CutsTurn : {View : Type 0} → (View → Type 0) → Stop → List Event → View → Type 0
CutsTurn wants stops.OutOfMemory es w = wants w
CutsTurn wants stops.Unformatted es w = Unit {0}
CutsTurn wants stops.SinkFault es w = Unit {0}
CutsTurn wants stops.Unnoted es w = Unit {0}
CutsTurn wants stops.Endless es w = 2 ^ 64 - 1 ≤ length es
CutsTurn wants stops.WireFault es w = ⊥

-- a turn of the handlers that have these jobs, unless passes end in it
abbrev pub dispatches : Handlers → List JobState → Part (List JobState)
dispatches g jobs at es ls (To after) = (ls ≡ []) × Turns (dispatching g) (accepts jobs) es (over after)
dispatches g jobs at es ls (Cut stop) =
    (ls ≡ []) × ((w : Turning) × Runs (dispatching g) (accepts jobs) es w × CutsTurn (IsWanting g) stop es w)

-- what a server serves by: its handlers, how it is set up, how many datagrams at most are given as one, how many takes
-- are made at most, and up to which moment it serves
pub record Terms : Type 0 where
  pub handlers : Handlers
  pub setup : Setup
  pub most : ℕ
  pub turns : ℕ
  pub until : ℕ

-- a pass of it up to its take
abbrev pub serve_play : Terms → List JobState → Part (List JobState)
serve_play t = plays t.most (dispatches t.handlers)

-- its take
abbrev pub serve_take : Terms → Part (Unit {0})
serve_take t = takes t.setup (Some t.until)

-- passes go on before its end
abbrev pub serve_goes : Terms → List JobState → Place → Type 0
serve_goes t jobs p = p.now < t.until

-- so many of its passes, from the start on
abbrev pub ServePassed : Terms → Place → ℕ → List Event → List Logged → List JobState → Type 0
ServePassed t p n es ls jobs = Passed (serve_play t) (serve_take t) (serve_goes t) [] p n es ls jobs

-- how serving went: its time is up, all takes were made before, or passes ended for a reason
pub data ServeCame : Type 0 where
  IsUp : ServeCame
  IsSpent : ServeCame
  IsCut : (stop : Stop) → ServeCame

-- the events and entries of a server that serves, and how that went
pub data Serves (t : Terms) (p : Place) : List Event → List Logged → ServeCame → Type 0 where
  -- the last pass came to its end
  serves_up : (n : ℕ) (es later : List Event) (ls later_log : List Logged) (jobs after : List JobState)
      → n < t.turns → ServePassed t p n es ls jobs
      → pass (serve_play t) (serve_take t) jobs (behind es ls p) later later_log (To after)
      → t.until ≤ (behind (es ++ later) (ls ++ later_log) p).now → Serves t p (es ++ later) (ls ++ later_log) IsUp
  -- all takes were made before
  serves_spent : (es later : List Event) (ls later_log : List Logged) (jobs after : List JobState)
      → ServePassed t p t.turns es ls jobs → serve_play t jobs (behind es ls p) later later_log (To after)
      → Serves t p (es ++ later) (ls ++ later_log) IsSpent
  -- it ended in a pass, or in the last one
  serves_cut : (stop : Stop) (n : ℕ) (es later : List Event) (ls later_log : List Logged) (jobs : List JobState)
      → n < t.turns → ServePassed t p n es ls jobs
      → pass (serve_play t) (serve_take t) jobs (behind es ls p) later later_log (Cut stop)
      → Serves t p (es ++ later) (ls ++ later_log) (IsCut stop)
  serves_cut_last : (stop : Stop) (es later : List Event) (ls later_log : List Logged) (jobs : List JobState)
      → ServePassed t p t.turns es ls jobs → serve_play t jobs (behind es ls p) later later_log (Cut stop)
      → Serves t p (es ++ later) (ls ++ later_log) (IsCut stop)
