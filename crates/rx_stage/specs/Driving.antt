-- What a run of a plan tells, as the driver of its nodes has it. Public clauses cite this module.
use Rattle.std.specs.Prelude.{◌≡◌, ℕ, List, Option, Some, None}
use Rattle.rx_base.specs.Sink.{GainedSome, HasRisen}
use Rattle.rx_model.specs.declared.event.Noted.{Noted}
use Rattle.rx_drive.specs.Tells.{Grows, Told}
use Rattle.rx_stage.specs.declared.stop.Stop.{Stop as PlanStop}
use Rattle.rx_stage.specs.declared.stop.Stop.TheVariants as plan_stops
use Rattle.rx_drive.specs.declared.stop.Stop.{Stop}
use Rattle.rx_drive.specs.declared.stop.Stop.TheVariants as stops

-- what a journal and a sink tell: there is no wire
abbrev pub outside : Option (List Noted) → Option (List ℕ) → ℕ → Told
outside noted put puts = record {
  noted = noted;
  put = put;
  puts = puts;
  traffic = None;
  calls = 0;
  moment = 0;
}

-- a line was put; or the sink failed at it; or there was no memory for its text
abbrev pub PutsLine : List ℕ → Option (List ℕ) → Option (List ℕ) → ℕ → ℕ → Option Stop → Type 0
PutsLine line before after old new None = Grows before after line × (new ≡ old)
PutsLine line before after old new (Some stops.SinkFault) = GainedSome before after line × HasRisen old new
PutsLine line before after old new (Some stops.Unformatted) = (after ≡ before) × (new ≡ old)
PutsLine line before after old new (Some stops.WireFault) = ⊥
PutsLine line before after old new (Some stops.OutOfMemory) = ⊥
PutsLine line before after old new (Some stops.Unnoted) = ⊥
PutsLine line before after old new (Some stops.Endless) = ⊥

-- why a run of a plan ends, where its driver ends so
abbrev pub plan_stop : Stop → PlanStop
plan_stop stops.SinkFault = plan_stops.SinkFault
plan_stop stops.WireFault = plan_stops.SinkFault
plan_stop stops.OutOfMemory = plan_stops.OutOfMemory
plan_stop stops.Unformatted = plan_stops.OutOfMemory
plan_stop stops.Unnoted = plan_stops.OutOfMemory
plan_stop stops.Endless = plan_stops.Endless
