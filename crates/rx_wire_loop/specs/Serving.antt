-- What a server that serves tells. Public clauses cite this module.
use Rattle.std.specs.Prelude.{◌≡◌, ◌⊎◌, ◌+◌, ℕ, true, List, [], ◌++◌, Option, Result, Ok, Err}
use Rattle.rx_base.specs.Sink.{Gained, GainedSome, HasRisen}
use Rattle.rx_jobs.specs.Handlers.{Handlers}
use Rattle.rx_model.specs.declared.event.Event.{Event}
use Rattle.rx_model.specs.declared.names.Host.{Host}
use Rattle.rx_rules.specs.Classes.{Class}
use Rattle.rx_rules.specs.Rules.{Legal}
use Rattle.rx_rules.specs.Setup.{Setup, Server}
use Rattle.rx_wire.specs.Wire.{HasBound, Logged}
use Rattle.rx_wire.specs.Turns.{HasNotedAll, after_all}
use Rattle.rx_wire_loop.specs.declared.serving.ServeEnd.{ServeEnd}
use Rattle.rx_wire_loop.specs.declared.serving.ServeEnd.TheVariants as serve_ends
use Rattle.rx_wire_loop.specs.declared.serving.Serving.{Serving as Words}
use Rattle.rx_drive.specs.declared.stop.Stop.{Stop}
use Rattle.rx_drive.specs.declared.stop.Stop.TheVariants as stops
use Rattle.rx_wire_loop.specs.Parts.{Place}
use Rattle.rx_wire_loop.specs.Serves.{IsCut, IsSpent, IsUp, ServeCame, Serves, Terms}
use Rattle.rx_wire_loop.specs.Tells.{Breaks, Fails, Gains, HasLoggedAll, Refuses, Told, Wants}
use Rattle.rx_wire_loop.specs.Texts.{lines, ready_line, time_up_line}

-- how a server is set up, by what it is served with and its class: it is prompt
abbrev pub server_setup : Words → Class → Setup
server_setup w class =
    record { kind = Server w.service w.nonce; limits = w.limits; prompt = true; class = class }

-- what it serves by, where it is set up so and the wire stands at this moment
abbrev pub terms_of : Words → Handlers → Setup → ℕ → Terms
terms_of w g setup now = record { handlers = g; setup = setup; most = w.jumbo; turns = w.turns; until = now + w.span }

-- ---- what it tells

-- its lines were put, and that its time is up
pub record TellsUp (node : ℕ) (before after : Told) (es : List Event) (ls : List Logged) : Type 0 where
  pub noted : HasNotedAll before.noted after.noted node es
  pub put : Gained before.sink.put after.sink.put (lines es ++ time_up_line)
  pub log : HasLoggedAll before.wire.traffic after.wire.traffic ls
  pub puts : after.sink.faults ≡ before.sink.faults
  pub calls : after.wire.faults ≡ before.wire.faults

-- the sink failed as that was put, behind its lines
pub record FailsUp (node : ℕ) (before after : Told) (es : List Event) (ls : List Logged) : Type 0 where
  pub noted : HasNotedAll before.noted after.noted node es
  pub between : Option (List ℕ)
  pub put : Gained before.sink.put between (lines es)
  pub some : GainedSome between after.sink.put time_up_line
  pub log : HasLoggedAll before.wire.traffic after.wire.traffic ls
  pub puts : HasRisen before.sink.faults after.sink.faults
  pub calls : after.wire.faults ≡ before.wire.faults

-- what was told, by how it ended and how it went: passes that ended did so for the reason of the result
abbrev pub ServeEnds : ℕ → Result ServeEnd Stop → ServeCame → Told → Told → List Event → List Logged → Type 0
ServeEnds node (Ok serve_ends.TimeUp) IsUp before after es ls = TellsUp node before after es ls
ServeEnds node (Ok serve_ends.TurnsSpent) IsSpent before after es ls = Gains node before after es ls
ServeEnds node (Err stops.OutOfMemory) (IsCut stops.OutOfMemory) before after es ls = Gains node before after es ls
ServeEnds node (Err stops.Unformatted) (IsCut stops.Unformatted) before after es ls = Wants node before after es ls
ServeEnds node (Err stops.SinkFault) (IsCut stops.SinkFault) before after es ls = Fails node before after es ls
ServeEnds node (Err stops.SinkFault) IsUp before after es ls = FailsUp node before after es ls
ServeEnds node (Err stops.WireFault) (IsCut stops.WireFault) before after es ls = Breaks node before after es ls
ServeEnds node (Err stops.Unnoted) (IsCut stops.Unnoted) before after es ls = Refuses node before after es ls
ServeEnds node (Err stops.Endless) (IsCut stops.Endless) before after es ls = Gains node before after es ls
ServeEnds node _ _ before after es ls = ⊥

-- passes of a server were made and told, and its history is legal
pub record Serving (t : Terms) (p : Place) (result : Result ServeEnd Stop) (before after : Told) : Type 0 where
  pub events : List Event
  pub log : List Logged
  pub came : ServeCame
  pub serves : Serves t p events log came
  pub legal : Legal t.setup (after_all events p.history)
  pub ends : ServeEnds 0 result came before after events log

-- ---- the whole command

-- the wire wasn't bound, and nothing was told
pub record ServesNothing (result : Result ServeEnd Stop) (before after : Told) : Type 0 where
  pub result_is : result ≡ Err stops.WireFault
  pub noted : after.noted ≡ before.noted
  pub sink : after.sink ≡ before.sink
  pub traffic : after.wire.traffic ≡ before.wire.traffic
  pub calls : HasRisen before.wire.faults after.wire.faults

-- what follows a bind: memory was wanted to make the node, or for the line that it is ready; or the sink failed at that
-- line; or it was put, and passes were made
abbrev pub ServesBound : (Setup → ℕ → Terms) → Setup → Host → Result ServeEnd Stop → Told → Told → Type 0
ServesBound terms setup host result before after =
    (((result ≡ Err stops.OutOfMemory) ⊎ (result ≡ Err stops.Unformatted)) × (after ≡ before))
    ⊎ ((result ≡ Err stops.SinkFault) × (after.noted ≡ before.noted) × (after.wire ≡ before.wire)
    × GainedSome before.sink.put after.sink.put (ready_line host) × HasRisen before.sink.faults after.sink.faults)
    ⊎ ((between : Told) × (between.noted ≡ before.noted) × (between.wire ≡ before.wire)
    × Gained before.sink.put between.sink.put (ready_line host) × (between.sink.faults ≡ before.sink.faults)
    × Serving (terms setup before.wire.moment) (record { history = []; now = before.wire.moment }) result between after)

-- The wire is bound to the host that was asked for, and the node is set up and serves there.
abbrev pub ServeIs : (Setup → ℕ → Terms) → Setup → Host → Result ServeEnd Stop → Told → Told → Type 0
ServeIs terms setup at result before after =
    ServesNothing result before after
    ⊎ ((host : Host) × (bound : Told) × (bound.noted ≡ before.noted) × (bound.sink ≡ before.sink)
    × HasBound before.wire.traffic bound.wire.traffic at host × (bound.wire.faults ≡ before.wire.faults)
    × (bound.wire.moment ≡ before.wire.moment) × ServesBound terms setup host result bound after)
