-- How the put of a text ends, whole or part by part. Clauses cite this module.
use Rattle.std.specs.Prelude.{◌≡◌, ℕ, List, Result, Ok, Err}
use Rattle.rx_base.specs.Sink.{Gained, GainedSome, HasRisen}
use Rattle.rx_base.specs.declared.sink.Failed.{Failed}
use Rattle.rx_wire_loop.specs.Tells.{SinkTells}

-- a text was put whole and no fault was counted, or a put failed and was counted, and the first of its bytes were put
abbrev pub PutsText : Result (Unit {0}) Failed → List ℕ → SinkTells → SinkTells → Type 0
PutsText (Ok done) text before after = Gained before.put after.put text × (after.faults ≡ before.faults)
PutsText (Err failed) text before after =
    GainedSome before.put after.put text × HasRisen before.faults after.faults
