-- Calls of handlers and of a caller, as calls of a turn on their node.
use Rattle.std.proofs.Common.{◌≡◌, ◌∙◌, ℕ, Bool, true, false, List, Option, Some, None, Result, Ok, refl, sym, subst}
use Rattle.std.proofs.Common.{ap}
use Rattle.std.proofs.Common.{length, option_map}
use Rattle.std.specs.Prelude.{IfOk, if◌then◌else◌, is_some, nat_lt}
use Rattle.rx_asks.specs.Asks.{asking, calling, done_at, is_done, next_at}
use Rattle.rx_asks.specs.View.{CallerState}
use Rattle.rx_asks.specs.declared.ask.Ask.TheVariants as asks
use Rattle.rx_asks.specs.declared.ask.Phase.{Phase}
use Rattle.rx_asks.specs.declared.ask.Phase.TheVariants as phases
use Rattle.rx_asks.specs.declared.ask.TheConstants.{REPLY_BYTES}
use Rattle.rx_caller.specs.Turn as caller_turns
use Rattle.rx_caller.specs.Turn.{Between, CallerWants, MakesNext, Stays}
use Rattle.rx_dispatch.specs.Making.{MakesCall, NextCall}
use Rattle.rx_dispatch.specs.Rounds.{RoundState, turning_of}
use Rattle.rx_dispatch.specs.Wanting.{IsWanting, WantsMemory}
use Rattle.rx_jobs.specs.Dispatching.{Turning, dispatching, over}
use Rattle.rx_jobs.specs.Handlers.{Handlers}
use Rattle.rx_jobs.specs.Jobs.{JobState}
use Rattle.rx_model.specs.declared.event.Event.{Event}
use Rattle.rx_model.specs.declared.event.Noted.{Noted}
use Rattle.rx_node.specs.Node.{NodeState, setup_of}
use Rattle.rx_node.specs.Steps.{StandsNode}
use Rattle.rx_rules.specs.Classes.{Class}
use Rattle.rx_rules.specs.Setup.{Setup}
use Rattle.rx_script.specs.Saying.{Answering}
use Rattle.rx_server.specs.Server.{ServerState, Stands}
use Rattle.rx_wire.specs.Turns.{noted}
use Rattle.rx_drive.specs.Ran.{stop_of}
use Rattle.rx_drive.specs.Tells.{IsTold, Told}
use Rattle.rx_drive.specs.Turned.{CallsOnce, is_over}
use Rattle.rx_drive.specs.declared.stop.Stop.{Stop}
use Rattle.rx_drive.proofs.TurnLaws.{called_once}

module _ (class : List ℕ → Class) (node : ℕ) (line : Noted → List ℕ) (a b : Told) where
  -- ---- handlers

  module _ (g : Handlers) (was now : ServerState) where
    abbrev Serves : (Turning → Turning → Result Bool Stop → Type 0)
    Serves v w r =
        CallsOnce (dispatching g) (IsWanting g) (setup_of class was.node) (Stands class was)
        (Stands class now) node line v w a
        b r

    -- the next call was made
    pub serves_some : (v w : Turning) (jobs : List JobState) (o : Option Event) (e : Event) (r : Result Bool Stop)
        → o ≡ Some e → NextCall class g v w jobs was now o → IsTold line (stop_of r) a b (noted node e)
        → IfOk r (λ goes. goes ≡ true) → Serves v w r
    serves_some v w jobs o e r is made told on =
        (let call : MakesCall class g v w was now e =
        subst (λ (x : Option Event). NextCall class g v w jobs was now x) is made in
        called_once (dispatching g) (IsWanting g) node (setup_of class was.node) line (Stands class was)
        (Stands class now) v w
        a b r e
        (record { ask = call.ask; asked = call.asked; is = call.is; answers = call.answered; heard = call.told })
        told on)

    -- there was none
    pub serves_none : (v w : Turning) (jobs : List JobState) (o : Option Event) → o ≡ None → b ≡ a
        → NextCall class g v w jobs was now o → Serves v w (Ok false)
    serves_none v w jobs o is quiet made =
        of (subst (λ (x : Option Event). NextCall class g v w jobs was now x) is made)
      where
        of : NextCall class g v w jobs was now None → Serves v w (Ok false)
        of none =
            is_over (subst (λ (x : Turning). (dispatching g).asks x ≡ None) (sym none.0) refl) none.1.0
            (λ h stands. subst (λ (x : ServerState). Stands class x h) (sym none.1.1) stands) quiet

  -- ---- a caller

  module _ (limit : ℕ) (c : Between) where
    abbrev Calls : (Result Bool Stop → Type 0)
    Calls r =
        CallsOnce (calling limit) (CallerWants limit) (setup_of class c.client_old) (StandsNode class c.client_old)
        (StandsNode class c.client_new) node line c.old c.new a b r

    -- the next call was made
    pub calls_some : (o : Option Event) (e : Event) (r : Result Bool Stop) → o ≡ Some e → MakesNext class limit c o
        → IsTold line (stop_of r) a b (noted node e) → IfOk r (λ goes. goes ≡ true) → Calls r
    calls_some o e r is made told on =
        (let call : caller_turns.Makes class limit c e =
        subst (λ (x : Option Event). MakesNext class limit c x) is made in
        called_once (calling limit) (CallerWants limit) node (setup_of class c.client_old) line
        (StandsNode class c.client_old) (StandsNode class c.client_new) c.old c.new a b r e
        (record {
          ask = call.ask;
          asked = call.asked;
          is = call.does.is;
          answers = call.does.answered;
          heard = call.does.told;
        }) told on)

    -- there was none
    pub calls_none : (o : Option Event) → o ≡ None → b ≡ a → MakesNext class limit c o → Calls (Ok false)
    calls_none o is quiet made = of (subst (λ (x : Option Event). MakesNext class limit c x) is made)
      where
        of : MakesNext class limit c None → Calls (Ok false)
        of none =
            is_over none.0 none.1.0
            (λ h stands. subst (λ (x : NodeState). StandsNode class x h) (sym none.1.1) stands) quiet

-- jobs whose next call wants memory, as the turn knew them before
pub wanting_before : (g : Handlers) (r : RoundState) (v : Turning) → turning_of g r ≡ v → WantsMemory g r
    → IsWanting g v
wanting_before g r v is wants = record { round = r; is = is; wants = wants }

module _ (hs : List Answering → Handlers) (old now : List Answering) (s : Setup) (stood stands : List Event → Type 0)
    (node : ℕ) (line : Noted → List ℕ) (r later : RoundState) (a b : Told) (o : Result Bool Stop) where
  -- handlers of the same script
  pub served_by : now ≡ old
      → CallsOnce (dispatching (hs now)) (IsWanting (hs now)) s stood stands node line (turning_of (hs now) r)
      (turning_of (hs now) later) a b o
      → CallsOnce (dispatching (hs old)) (IsWanting (hs old)) s stood stands node line (turning_of (hs old) r)
      (turning_of (hs old) later) a b o
  served_by same once =
      subst (λ (x : List Answering). CallsOnce (dispatching (hs x)) (IsWanting (hs x)) s stood stands node line
      (turning_of (hs x) r) (turning_of (hs x) later) a b o) same once

-- they know that a turn is over with these jobs
pub over_by : (hs : List Answering → Handlers) (old now : List Answering) (later : RoundState) (jobs : List JobState)
    (again : Bool) → now ≡ old → (again ≡ false → turning_of (hs now) later ≡ over jobs) → again ≡ false
    → turning_of (hs old) later ≡ over jobs
over_by hs old now later jobs again same over_with off =
    subst (λ (x : List Answering). turning_of (hs x) later ≡ over jobs) same (over_with off)

-- ---- a caller that is done

-- it has its end
pub done_ended : (v : CallerState) → is_done v ≡ true → is_some v.end ≡ true
done_ended v is = by v.phase is
  where
    by : (p : Phase) → done_at p (is_some v.end) ≡ true → is_some v.end ≡ true
    by phases.Offering is = is
    by phases.Reading is = absurd cc
    by phases.Resting is = absurd cc

-- where it has it asks nothing
pub ended_asks : (v : CallerState) → is_some v.end ≡ true → (calling REPLY_BYTES).asks v ≡ None
ended_asks v is =
    ap (λ (b : Bool). option_map (asking v) (if b then None else if nat_lt REPLY_BYTES (length v.reply)
    then Some asks.Cancel
    else next_at v.phase v)) is

-- one that wants memory leaves it done
pub stays_done : (b : Between) → Stays b → is_done b.old ≡ true → is_done b.new ≡ true
stays_done b stays is = subst (λ (v : CallerState). is_done v ≡ true) (sym stays.0) is

-- and so does one that is made
pub next_done : (class : List ℕ → Class) (b : Between) (o : Option Event) → MakesNext class REPLY_BYTES b o
    → is_done b.old ≡ true → is_done b.new ≡ true
next_done class b None made is = stays_done b made.1 is
next_done class b (Some e) made is =
    (let no : Some made.ask ≡ None = sym made.asked ∙ ended_asks b.old (done_ended b.old is) in absurd cc)
