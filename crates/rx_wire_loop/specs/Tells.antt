-- What passes tell: the journal of the node's events, the lines put, and the wire's log. Public clauses cite this
-- module.
use Rattle.std.specs.Prelude.{◌≡◌, ◌≢◌, ℕ, List, [], ◌∷◌, ◌++◌, Option, Some, None}
use Rattle.rx_base.specs.Sink.{Gained, GainedSome, HasRisen}
use Rattle.rx_model.specs.declared.event.Event.{Event}
use Rattle.rx_model.specs.declared.event.Noted.{Noted}
use Rattle.rx_wire.specs.Wire.{Logged, Traffic}
use Rattle.rx_wire.specs.Turns.{HasNotedAll}
use Rattle.rx_drive.specs.Tells as drive
use Rattle.rx_wire_loop.specs.Texts.{event_line, lines}

-- the bytes put, where they are told, and how many puts failed
pub record SinkTells : Type 0 where
  pub put : Option (List ℕ)
  pub faults : ℕ

-- the last bind and the log, where they are told, how many calls failed, and the moment
pub record WireTells : Type 0 where
  pub traffic : Option Traffic
  pub faults : ℕ
  pub moment : ℕ

-- what a journal, a sink and a wire tell
pub record Told : Type 0 where
  pub noted : Option (List Noted)
  pub sink : SinkTells
  pub wire : WireTells

-- the same from each
abbrev pub sink_tells : Option (List ℕ) → ℕ → SinkTells
sink_tells put faults = record { put = put; faults = faults }

-- what a wire tells, of its traffic, its faults and its moment
abbrev pub wire_tells : Option Traffic → ℕ → ℕ → WireTells
wire_tells traffic faults moment = record { traffic = traffic; faults = faults; moment = moment }

-- what a journal and a sink tell, as what drives a node has it: there is no wire
abbrev pub outside : Option (List Noted) → SinkTells → drive.Told
outside noted sink = record {
  noted = noted;
  put = sink.put;
  puts = sink.faults;
  traffic = None;
  calls = 0;
  moment = 0;
}

-- what all three tell, of what each tells
abbrev pub told : Option (List Noted) → SinkTells → WireTells → Told
told noted sink wire = record { noted = noted; sink = sink; wire = wire }

-- ---- what was gained

-- a log with these entries too: the last bind stays
abbrev pub logged_all : Traffic → List Logged → Traffic
logged_all old ls = record old { log = old.log ++ ls }

-- what is told, where it is, has gained these entries; a wire that tells goes on to tell
abbrev pub HasLoggedAll : Option Traffic → Option Traffic → List Logged → Type 0
HasLoggedAll None after ls = after ≡ None
HasLoggedAll (Some old) after ls = after ≡ Some (logged_all old ls)

-- each of these events was noted, and its line put, if it has one; and the log has these entries
pub record Gains (node : ℕ) (before after : Told) (es : List Event) (ls : List Logged) : Type 0 where
  pub noted : HasNotedAll before.noted after.noted node es
  pub put : Gained before.sink.put after.sink.put (lines es)
  pub log : HasLoggedAll before.wire.traffic after.wire.traffic ls
  pub puts : after.sink.faults ≡ before.sink.faults
  pub calls : after.wire.faults ≡ before.wire.faults

-- the same but that there was no memory for the line of the last event, which has one
pub record Wants (node : ℕ) (before after : Told) (es : List Event) (ls : List Logged) : Type 0 where
  pub early : List Event
  pub last : Event
  pub are : es ≡ early ++ last ∷ []
  pub noted : HasNotedAll before.noted after.noted node es
  pub put : Gained before.sink.put after.sink.put (lines early)
  pub lined : event_line last ≢ []
  pub log : HasLoggedAll before.wire.traffic after.wire.traffic ls
  pub puts : after.sink.faults ≡ before.sink.faults
  pub calls : after.wire.faults ≡ before.wire.faults

-- the same of all events but the last, whose note was refused
pub record Refuses (node : ℕ) (before after : Told) (es : List Event) (ls : List Logged) : Type 0 where
  pub early : List Event
  pub last : Event
  pub are : es ≡ early ++ last ∷ []
  pub gains : Gains node before after early ls

-- the lines of all events but the last were put, and of that of the last, which has one, the first bytes
abbrev pub GainedLast : Option (List ℕ) → Option (List ℕ) → List Event → Type 0
GainedLast before after es =
    (early : List Event) × (last : Event) × (between : Option (List ℕ)) × (es ≡ early ++ last ∷ [])
    × Gained before between (lines early) × GainedSome between after (event_line last) × (event_line last ≢ [])

-- the same but that the sink failed at the line of the last event
pub record Fails (node : ℕ) (before after : Told) (es : List Event) (ls : List Logged) : Type 0 where
  pub noted : HasNotedAll before.noted after.noted node es
  pub put : GainedLast before.sink.put after.sink.put es
  pub log : HasLoggedAll before.wire.traffic after.wire.traffic ls
  pub puts : HasRisen before.sink.faults after.sink.faults
  pub calls : after.wire.faults ≡ before.wire.faults

-- the same but that the wire failed behind these entries
pub record Breaks (node : ℕ) (before after : Told) (es : List Event) (ls : List Logged) : Type 0 where
  pub noted : HasNotedAll before.noted after.noted node es
  pub put : Gained before.sink.put after.sink.put (lines es)
  pub log : HasLoggedAll before.wire.traffic after.wire.traffic ls
  pub puts : after.sink.faults ≡ before.sink.faults
  pub calls : HasRisen before.wire.faults after.wire.faults
