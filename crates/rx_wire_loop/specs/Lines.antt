-- What was put of a line. Public clauses cite this module.
use Rattle.std.specs.Prelude.{◌≡◌, ◌≢◌, ℕ, List, [], Option, Some, None}
use Rattle.rx_base.specs.Sink.{Gained, GainedSome, HasRisen}
use Rattle.rx_drive.specs.declared.stop.Stop.{Stop}
use Rattle.rx_drive.specs.declared.stop.Stop.TheVariants as stops
use Rattle.rx_wire_loop.specs.Tells.{SinkTells}

-- it was put whole; or there was no memory for its text; or the sink failed and has the first of its bytes; where it
-- wasn't put whole it has some
abbrev pub PutsLine : SinkTells → SinkTells → List ℕ → Option Stop → Type 0
PutsLine before after line None = Gained before.put after.put line × (after.faults ≡ before.faults)
PutsLine before after line (Some stops.OutOfMemory) = ⊥
PutsLine before after line (Some stops.Unformatted) = (after ≡ before) × (line ≢ [])
PutsLine before after line (Some stops.SinkFault) =
    GainedSome before.put after.put line × HasRisen before.faults after.faults × (line ≢ [])
PutsLine before after line (Some stops.WireFault) = ⊥
PutsLine before after line (Some stops.Unnoted) = ⊥
PutsLine before after line (Some stops.Endless) = ⊥

-- the same of a text, for which no memory is wanted
abbrev pub PutsText : SinkTells → SinkTells → List ℕ → Option Stop → Type 0
PutsText before after text None = Gained before.put after.put text × (after.faults ≡ before.faults)
PutsText before after text (Some stops.OutOfMemory) = ⊥
PutsText before after text (Some stops.Unformatted) = ⊥
PutsText before after text (Some stops.SinkFault) =
    GainedSome before.put after.put text × HasRisen before.faults after.faults
PutsText before after text (Some stops.WireFault) = ⊥
PutsText before after text (Some stops.Unnoted) = ⊥
PutsText before after text (Some stops.Endless) = ⊥
