-- What a round has made, and what rounds have.
use Rattle.std.proofs.Common.{◌≡◌, ◌==◌, ℕ, zero, suc, not, ◌&&◌, Bool, true, false, List, [], ◌∷◌, Option, Some, ap}
use Rattle.std.proofs.Common.{subst, ◌∙◌, length}
use Rattle.rx_model.specs.declared.event.Noted.{Noted}
use Rattle.rx_history.specs.Sides.{Node}
use Rattle.rx_jobs.specs.Dispatching.{Turning, accepts, dispatching}
use Rattle.rx_jobs.specs.Handlers.{Handlers}
use Rattle.rx_asks.specs.declared.ask.TheConstants.{REPLY_BYTES}
use Rattle.rx_asks.specs.Asks.{begun, calling}
use Rattle.rx_rules.specs.Looks.{Looks}
use Rattle.rx_jobs.specs.Jobs.{JobState}
use Rattle.rx_rounds.proofs.One.OneCall.{Ends}
use Rattle.rx_rounds.proofs.Two.{Two}
use Rattle.std.specs.Prelude.{set, slice_get, nat_lt}
use Rattle.rx_asks.specs.View.{CallerState}
use Rattle.rx_events.specs.Waits.{any_lives, least_wait}
use Rattle.rx_plan.specs.Network.{delivers, below}
use Rattle.rx_plan.specs.Parts.{Came, To, Then, by_test, each, ends}
use Rattle.rx_plan.specs.Programs.{Turn}
use Rattle.rx_plan.specs.Rounds.{Polled, moves_by, polls, round, rounds, settles, turns}
use Rattle.rx_plan.specs.Stages.{InvokedState, Stage}
use Rattle.rx_plan.specs.Turned.{dispatches, jobs_left, turns_all, turns_at, turns_of, turns_where}
use Rattle.rx_rounds.proofs.Making.{then_to, ends_to}
use Rattle.rx_rounds.proofs.Turned.{Calls, Serves}

-- something is made, whichever events there were
abbrev pub Made : {A B : Type 0} → (A → List Noted → Came B → Type 0) → A → B → Type 0
Made part a b = (es : List Noted) × part a es (To b)

-- the stages of a round
pub record RoundMade (g : Handlers) (s t : Stage) : Type 0 where
  pub polled : Polled
  pub polls_are : Made polls s polled
  pub delivered : Stage
  pub delivers_are : Made (each delivers polled.given) polled.stage delivered
  pub served : Stage
  pub serves_are : Made (dispatches g) delivered served
  pub called : Stage
  pub calls_are : Made turns_all served called
  pub settles_are : Made (settles (length polled.given == 0)) called t

pub round_to : (g : Handlers) (s t : Stage) (es : List Noted) → round g s es (To t) → RoundMade g s t
round_to g s t es made =
    let a = then_to (polls s) (λ (p : Polled). Then (each delivers p.given p.stage)
    (λ s1. Then (turns g s1) (settles (length p.given == 0)))) es t made in
    let b = then_to (each delivers a.between.given a.between.stage)
    (λ s1. Then (turns g s1) (settles (length a.between.given == 0))) a.rest t a.goes in
    let c = then_to (turns g b.between) (settles (length a.between.given == 0)) b.rest t b.goes in
    let d = then_to (dispatches g b.between) turns_all c.front c.between c.made in
    record {
      polled = a.between;
      polls_are = (a.front, a.made);
      delivered = b.between;
      delivers_are = (b.front, b.made);
      served = d.between;
      serves_are = (d.front, d.made);
      called = c.between;
      calls_are = (d.rest, d.goes);
      settles_are = (c.rest, c.goes);
    }

-- a round, where a call lives, and then others
pub record RoundsMade (g : Handlers) (n : ℕ) (s t : Stage) : Type 0 where
  pub behind : Stage
  pub first : RoundMade g s behind
  pub others : Made (rounds g n) behind t

pub rounds_more : (g : Handlers) (n : ℕ) (s t : Stage) (es : List Noted) → any_lives s.nodes s.history ≡ true
    → rounds g (suc n) s es (To t) → RoundsMade g n s t
rounds_more g n s t es living made =
    let of : Then (round g s) (rounds g n) es (To t) =
    subst (λ (b : Bool). by_test b (Then (round g s) (rounds g n)) (ends (To s)) es (To t)) living made in
    let b = then_to (round g s) (rounds g n) es t of in
    record { behind = b.between; first = round_to g s b.between b.front b.made; others = (b.rest, b.goes) }

-- no round, where none does
pub rounds_none : (g : Handlers) (n : ℕ) (s t : Stage) (es : List Noted) → any_lives s.nodes s.history ≡ false
    → rounds g n s es (To t) → t ≡ s
rounds_none g zero s t es dead made = ends_to s t es made
rounds_none g (suc n) s t es dead made =
    ends_to s t es (subst (λ (b : Bool). by_test b (Then (round g s) (rounds g n)) (ends (To s)) es (To t)) dead made)

-- ---- the turn of the dispatcher

pub record DispatchMade (g : Handlers) (s t : Stage) : Type 0 where
  pub view : Turning
  pub stage : Stage
  pub serves : Serves g (accepts s.jobs) s view stage
  pub then_ : t ≡ record stage { jobs = jobs_left view }

pub dispatch_to : (g : Handlers) (s t : Stage) → Made (dispatches g) s t → DispatchMade g s t
dispatch_to g s t made =
    let b = then_to (Turn (dispatching g) 0 (accepts s.jobs) s) (λ r. ends (To (record r.1 { jobs = jobs_left r.0 })))
    made.0 t made.1 in
    record {
      view = b.between.0;
      stage = b.between.1;
      serves = (b.front, b.made);
      then_ = ends_to (record b.between.1 { jobs = jobs_left b.between.0 }) t b.rest b.goes;
    }

-- ---- the turn of the one caller, of client 1

-- the caller of an invoke of the first client, its call the K-th, from that line
abbrev pub caller_at : ℕ → ℕ → CallerState → InvokedState
caller_at call line v = record { call = call; node = 1; line = line; caller = v }

pub record CallMade (call line : ℕ) (v : CallerState) (s t : Stage) : Type 0 where
  pub view : CallerState
  pub stage : Stage
  pub calls : Calls REPLY_BYTES (begun v) s view stage
  pub then_ : t ≡ record stage { callers = caller_at call line view ∷ [] }

pub call_to : (x : Ends) (ls lc : Looks) (js : List JobState) (call line : ℕ) (v : CallerState) (s t : Stage)
    → Two x ls lc (caller_at call line v ∷ []) js s → Made turns_all s t → CallMade call line v s t
call_to x ls lc js call line v s t two made =
    let i : InvokedState = caller_at call line v in
    let order : below (length s.callers) ≡ 0 ∷ [] = ap (λ (cs : List InvokedState). below (length cs)) two.callers in
    let all : each turns_at (0 ∷ []) s made.0 (To t) = subst (λ (ns : List ℕ). each turns_at ns s made.0 (To t)) order
    made.1 in
    let b = then_to (turns_at 0 s) (each turns_at []) made.0 t all in
    let same : t ≡ b.between = ends_to b.between t b.rest b.goes in
    let first : turns_where 0 (Some i) s b.front (To b.between) =
    subst (λ (cs : List InvokedState). turns_where 0 (slice_get cs 0) s b.front (To b.between)) two.callers b.made in
    let of : turns_of 0 i s b.front (To b.between) =
    subst (λ (ns : List Node). by_test (not (1 == 0) && nat_lt 1 (length ns)) (turns_of 0 i s) (ends (To s)) b.front
    (To b.between)) two.nodes first in
    let c = then_to (Turn (calling REPLY_BYTES) 1 (begun v) s)
    (λ r. ends (To (record r.1 { callers = set s.callers 0 (caller_at call line r.0) }))) b.front b.between of in
    let last : b.between ≡ record c.between.1 { callers = set s.callers 0 (caller_at call line c.between.0) } =
    ends_to (record c.between.1 { callers = set s.callers 0 (caller_at call line c.between.0) }) b.between c.rest
    c.goes in
    record {
      view = c.between.0;
      stage = c.between.1;
      calls = (c.front, c.made);
      then_ = same ∙ last ∙ ap (λ (cs : List InvokedState). record c.between.1
          { callers = set cs 0 (caller_at call line c.between.0) })
          two.callers;
    }

-- ---- where nothing was given

pub settles_not : (s t : Stage) (quiet : Bool) → quiet ≡ false → Made (settles quiet) s t → t ≡ s
settles_not s t quiet not_quiet made =
    ends_to s t made.0 (subst (λ (b : Bool). settles b s made.0 (To t)) not_quiet made.1)

-- where something is due at once no clock moves
pub settles_still : (s t : Stage) (quiet : Bool) → least_wait s.nodes s.history ≡ Some 0 → Made (settles quiet) s t
    → t ≡ s
settles_still s t false still made = ends_to s t made.0 made.1
settles_still s t true still made =
    ends_to s t made.0 (subst (λ (o : Option ℕ). moves_by o s made.0 (To t)) still made.1)
