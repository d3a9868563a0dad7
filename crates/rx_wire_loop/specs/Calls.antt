-- The passes of a client that makes a call, and what it tells. Public clauses cite this module.
use Rattle.std.specs.Prelude.{◌≡◌, ◌<◌, ◌≤◌, ◌⊎◌, ℕ, true, List, [], ◌++◌, None, Result, Ok, Err, is_some}
use Rattle.rx_base.specs.Sink.{HasRisen}
use Rattle.rx_asks.specs.Asks.{begun, calling}
use Rattle.rx_caller.specs.Turn.{CallerWants}
use Rattle.rx_asks.specs.View.{CallerState, caller_for}
use Rattle.rx_asks.specs.declared.ask.TheConstants.{REPLY_BYTES}
use Rattle.rx_model.specs.declared.event.Event.{Event}
use Rattle.rx_model.specs.declared.event.Event.TheVariants as events
use Rattle.rx_model.specs.declared.names.CallName.{CallName}
use Rattle.rx_model.specs.declared.names.Host.{Host}
use Rattle.rx_rules.specs.Classes.{Class}
use Rattle.rx_rules.specs.Rules.{Legal}
use Rattle.rx_rules.specs.Setup.{Client, Setup}
use Rattle.rx_wire.specs.Wire.{HasBound, Logged}
use Rattle.rx_wire.specs.Turns.{Runs, Turns, after_all}
use Rattle.rx_wire_loop.specs.declared.calling.CallEnd.{CallEnd}
use Rattle.rx_wire_loop.specs.declared.calling.CallEnd.TheVariants as call_ends
use Rattle.rx_wire_loop.specs.declared.calling.Calling.{Calling as Words}
use Rattle.rx_drive.specs.declared.stop.Stop.{Stop}
use Rattle.rx_drive.specs.declared.stop.Stop.TheVariants as stops
use Rattle.rx_wire_loop.specs.Parts.{To, Cut, One, Part, Place, Then, behind}
use Rattle.rx_wire_loop.specs.Ports.{clocks, takes}
use Rattle.rx_wire_loop.specs.Serves.{Passed, pass, plays}
use Rattle.rx_wire_loop.specs.Tells.{Breaks, Gains, Refuses, Told}

-- ---- the beginning

-- a connection to a service of a host is made, whose first call has the number 1
abbrev pub links : Host → ℕ → Part ℕ
links to service = One (λ cid. events.Linked to service 1 (Ok cid))

-- a call is begun on a connection
abbrev pub begins_on : ℕ → Part CallName
begins_on cid = One (λ name. events.Called cid (Ok name))

-- the connection is made, and then the call on it
abbrev pub begins_to : Host → ℕ → Part CallName
begins_to to service = Then (links to service) begins_on

-- the clock is handed in before
abbrev pub begins : Words → Part CallName
begins w = Then clocks (λ u. begins_to w.to w.service)

-- ---- passes

-- why a turn of a caller that came so far ends passes: its next call wants memory, or a note is refused
abbrev pub CutsCaller : Stop → CallerState → Type 0
CutsCaller stops.OutOfMemory w = CallerWants REPLY_BYTES w
CutsCaller stops.Unnoted w = Unit {0}
CutsCaller stops.Unformatted w = ⊥
CutsCaller stops.SinkFault w = ⊥
CutsCaller stops.WireFault w = ⊥
CutsCaller stops.Endless w = ⊥

-- a turn of the caller, unless passes end in it
abbrev pub calls : CallerState → Part CallerState
calls v p es ls (To w) = (ls ≡ []) × Turns (calling REPLY_BYTES) (begun v) es w
calls v p es ls (Cut stop) =
    (ls ≡ []) × ((w : CallerState) × Runs (calling REPLY_BYTES) (begun v) es w × CutsCaller stop w)

-- what a call is made by: how its client is set up, how many datagrams at most are given as one, and how many takes are
-- made at most
pub record CallTerms : Type 0 where
  pub setup : Setup
  pub most : ℕ
  pub turns : ℕ

-- a pass of it up to its take
abbrev pub call_play : CallTerms → CallerState → Part CallerState
call_play t = plays t.most calls

-- its take
abbrev pub call_take : CallTerms → Part (Unit {0})
call_take t = takes t.setup None

-- passes go on while the call isn't ended
abbrev pub call_goes : CallerState → Place → Type 0
call_goes v p = v.end ≡ None

-- so many of its passes
abbrev pub CallPassed : CallTerms → CallerState → Place → ℕ → List Event → List Logged → CallerState → Type 0
CallPassed t v p n es ls w = Passed (call_play t) (call_take t) call_goes v p n es ls w

-- how the passes of a call went: it ended so, all takes were made before, or they ended for a reason
pub data CallCame : Type 0 where
  IsEnded : CallerState → CallCame
  IsSpent : CallCame
  IsCut : (stop : Stop) → CallCame

-- the events and entries of the passes of a call, and how they went
pub data Calls (t : CallTerms) (v : CallerState) (p : Place) : List Event → List Logged → CallCame → Type 0 where
  -- the call ended in a pass
  calls_ended : (n : ℕ) (es later : List Event) (ls later_log : List Logged) (w u : CallerState)
      → n ≤ t.turns → CallPassed t v p n es ls w → call_play t w (behind es ls p) later later_log (To u)
      → is_some u.end ≡ true → Calls t v p (es ++ later) (ls ++ later_log) (IsEnded u)
  -- all takes were made before
  calls_spent : (es later : List Event) (ls later_log : List Logged) (w u : CallerState)
      → CallPassed t v p t.turns es ls w → call_play t w (behind es ls p) later later_log (To u) → u.end ≡ None
      → Calls t v p (es ++ later) (ls ++ later_log) IsSpent
  -- they ended in a pass, or in the last one
  calls_cut : (stop : Stop) (n : ℕ) (es later : List Event) (ls later_log : List Logged) (w : CallerState)
      → n < t.turns → CallPassed t v p n es ls w
      → pass (call_play t) (call_take t) w (behind es ls p) later later_log (Cut stop)
      → Calls t v p (es ++ later) (ls ++ later_log) (IsCut stop)
  calls_cut_last : (stop : Stop) (es later : List Event) (ls later_log : List Logged) (w : CallerState)
      → CallPassed t v p t.turns es ls w → call_play t w (behind es ls p) later later_log (Cut stop)
      → Calls t v p (es ++ later) (ls ++ later_log) (IsCut stop)

-- ---- what it tells

-- by how it ended and how it went: passes that ended did so for the reason of the result
abbrev pub CallEnds : ℕ → Result CallEnd Stop → CallCame → Told → Told → List Event → List Logged → Type 0
CallEnds node (Ok (call_ends.Ended caller)) (IsEnded v) before after es ls =
    (caller ≡ v) × Gains node before after es ls
CallEnds node (Ok call_ends.TurnsSpent) IsSpent before after es ls = Gains node before after es ls
CallEnds node (Err stops.OutOfMemory) (IsCut stops.OutOfMemory) before after es ls = Gains node before after es ls
CallEnds node (Err stops.WireFault) (IsCut stops.WireFault) before after es ls = Breaks node before after es ls
CallEnds node (Err stops.Unnoted) (IsCut stops.Unnoted) before after es ls = Refuses node before after es ls
CallEnds node (Err stops.Endless) (IsCut stops.Endless) before after es ls = Gains node before after es ls
CallEnds node _ _ before after es ls = ⊥

-- passes of a call were made and told, and the history of its client is legal
pub record CallMade (t : CallTerms) (v : CallerState) (p : Place) (result : Result CallEnd Stop) (before after : Told)
    : Type 0 where
  pub events : List Event
  pub log : List Logged
  pub came : CallCame
  pub calls : Calls t v p events log came
  pub legal : Legal t.setup (after_all events p.history)
  pub ends : CallEnds 1 result came before after events log

-- ---- the whole command

-- how a client is set up on a host, by what a call is made with and its class: it is prompt
abbrev pub client_setup : Words → Class → Host → Setup
client_setup w class host =
    record { kind = Client host w.epoch; limits = w.limits; prompt = true; class = class }

-- what the call is made by
abbrev pub call_terms : Words → Setup → CallTerms
call_terms w s = record { setup = s; most = w.jumbo; turns = w.turns }

-- the wire wasn't bound, and nothing was told
pub record CallsNothing (result : Result CallEnd Stop) (before after : Told) : Type 0 where
  pub result_is : result ≡ Err stops.WireFault
  pub noted : after.noted ≡ before.noted
  pub sink : after.sink ≡ before.sink
  pub traffic : after.wire.traffic ≡ before.wire.traffic
  pub calls : HasRisen before.wire.faults after.wire.faults

-- Memory was wanted before anything was made; or a note was refused as the call began; or it began, and passes were
-- made.
abbrev pub CallsBound : Words → List ℕ → Setup → Result CallEnd Stop → Told → Told → Type 0
CallsBound w request s result before after =
    ((result ≡ Err stops.OutOfMemory) × (after ≡ before))
    ⊎ ((result ≡ Err stops.Unnoted) × ((es : List Event) × (ls : List Logged)
    × begins w (record { history = []; now = before.wire.moment }) es ls (Cut stops.Unnoted)
    × Legal s (after_all es []) × Refuses 1 before after es ls))
    ⊎ ((name : CallName) × (es : List Event) × (ls : List Logged) × (between : Told)
    × begins w (record { history = []; now = before.wire.moment }) es ls (To name) × Gains 1 before between es ls
    × CallMade (call_terms w s) (caller_for name request)
    (behind es ls (record { history = []; now = before.wire.moment })) result between after)

-- The wire is bound to the host that was asked for, and the client is set up on the one that it got.
abbrev pub CallIs : Words → List ℕ → Class → Result CallEnd Stop → Told → Told → Type 0
CallIs w request class result before after =
    CallsNothing result before after
    ⊎ ((host : Host) × (bound : Told) × (bound.noted ≡ before.noted) × (bound.sink ≡ before.sink)
    × HasBound before.wire.traffic bound.wire.traffic w.from host × (bound.wire.faults ≡ before.wire.faults)
    × (bound.wire.moment ≡ before.wire.moment)
    × CallsBound w request (client_setup w class host) result bound after)
