-- What a run over nodes tells: the journal of their events, the sink of its lines, and the wire. Public clauses cite
-- this module.
use Rattle.std.specs.Prelude.{◌≡◌, ◌≢◌, ℕ, List, [], ◌∷◌, ◌++◌, Option, Some, None}
use Rattle.rx_base.specs.Sink.{GainedSome, HasRisen}
use Rattle.rx_model.specs.declared.event.Noted.{Noted}
use Rattle.rx_model.specs.Telling.{FitsEvent, IsWord}
use Rattle.rx_run.specs.Tells.{Telling}
use Rattle.rx_wire.specs.Wire.{Logged, Traffic, TookUntil, GaveTo}
use Rattle.rx_drive.specs.declared.stop.Stop.{Stop}
use Rattle.rx_drive.specs.declared.stop.Stop.TheVariants as stops

-- ---- what is told

-- the events noted, the bytes put and the last bind with the log, each where it is told; how many puts and how many
-- calls of the wire failed; and the moment of the wire
pub record Told : Type 0 where
  pub noted : Option (List Noted)
  pub put : Option (List ℕ)
  pub puts : ℕ
  pub traffic : Option Traffic
  pub calls : ℕ
  pub moment : ℕ

-- how it is told: the line that an event has, maybe an empty one; and by which references journal, sink and wire are
-- reached
pub record Ways : Type 0 where
  pub line : Noted → List ℕ
  pub names : List ℕ

-- so much: events, bytes and entries of the log, each in order
pub record Much : Type 0 where
  pub events : List Noted
  pub bytes : List ℕ
  pub entries : List Logged

-- nothing of each
abbrev pub nothing : Much
nothing = record { events = []; bytes = []; entries = [] }

-- an event alone
abbrev pub one_event : Noted → Much
one_event n = record { events = n ∷ []; bytes = []; entries = [] }

-- an event with its line
abbrev pub event_and_line : (Noted → List ℕ) → Noted → Much
event_and_line line n = record { events = n ∷ []; bytes = line n; entries = [] }

-- entries of the log alone
abbrev pub logs : List Logged → Much
logs ls = record { events = []; bytes = []; entries = ls }

-- what is told, where it is, has gained these; what tells goes on to tell
abbrev pub Grows : {X : Type 0} → Option (List X) → Option (List X) → List X → Type 0
Grows None after xs = after ≡ None
Grows (Some old) after xs = after ≡ Some (old ++ xs)

-- the log has gained these entries, where it is told: the last bind stays
abbrev pub GrowsLog : Option Traffic → Option Traffic → List Logged → Type 0
GrowsLog None after ls = after ≡ None
GrowsLog (Some old) after ls = after ≡ Some (record old { log = old.log ++ ls })

-- the moment behind an entry of the log: a take alone moves it
abbrev pub moment_by : Logged → ℕ → ℕ
moment_by (TookUntil room until came moment) now = moment
moment_by (GaveTo to bytes) now = now

-- the moment behind these entries
abbrev pub moment_after : List Logged → ℕ → ℕ
moment_after [] now = now
moment_after (l ∷ ls) now = moment_after ls (moment_by l now)

-- it has gained so much, and nothing failed
pub record GainedMuch (a b : Told) (m : Much) : Type 0 where
  pub noted : Grows a.noted b.noted m.events
  pub put : Grows a.put b.put m.bytes
  pub log : GrowsLog a.traffic b.traffic m.entries
  pub puts : b.puts ≡ a.puts
  pub calls : b.calls ≡ a.calls
  pub moment : b.moment ≡ moment_after m.entries a.moment

-- ---- one event

-- each number of an event fits its field, and so does that of its node
pub record FitsNoted (n : Noted) : Type 0 where
  pub node : IsWord n.node
  pub event : FitsEvent n.event

-- an event was noted, and the sink failed at its line, which has bytes
pub record FailsAt (line : Noted → List ℕ) (a b : Told) (n : Noted) : Type 0 where
  pub between : Told
  pub noted : GainedMuch a between (one_event n)
  pub put : GainedSome between.put b.put (line n)
  pub puts : HasRisen between.puts b.puts
  pub same : b ≡ record between { put = b.put; puts = b.puts }
  pub some : line n ≢ []

-- what was told of an event, with the line that it has, by why the run ends with it, if it does: it was noted and its
-- line put; or the sink failed at the line; or there was no memory for the line, which has bytes; or its note was
-- refused, and nothing was told
abbrev pub TellsOf : (Noted → List ℕ) → Option Stop → Told → Told → Noted → Type 0
TellsOf line None a b n = GainedMuch a b (event_and_line line n)
TellsOf line (Some stops.SinkFault) a b n = FailsAt line a b n
TellsOf line (Some stops.Unformatted) a b n = GainedMuch a b (one_event n) × (line n ≢ [])
TellsOf line (Some stops.Unnoted) a b n = b ≡ a
TellsOf line (Some stops.WireFault) a b n = ⊥
TellsOf line (Some stops.OutOfMemory) a b n = ⊥
TellsOf line (Some stops.Endless) a b n = ⊥

-- the same, and each number of the event fits its field
abbrev pub IsTold : (Noted → List ℕ) → Option Stop → Told → Told → Noted → Type 0
IsTold line stop a b n = FitsNoted n × TellsOf line stop a b n

-- ---- steps

-- what a run over nodes makes one by one: an event of a node, or an entry of the wire's log
pub data Step : Type 0 where
  Made : Noted → Step
  Entry : Logged → Step

-- a step was told whole
abbrev pub IsWhole : (Noted → List ℕ) → Told → Told → Step → Type 0
IsWhole line a b (Made n) = IsTold line None a b n
IsWhole line a b (Entry l) = GainedMuch a b (logs (l ∷ []))

-- a step was told so, by why the run ends with it: only what is told of an event ends a run
abbrev pub EndsTold : (Noted → List ℕ) → Stop → Told → Told → Step → Type 0
EndsTold line stop a b (Made n) = IsTold line (Some stop) a b n
EndsTold line stop a b (Entry l) = ⊥

-- how a run over nodes tells its steps, with the lines that events have: memory is wanted for the note of an event;
-- there are other ends, which `ButLast` says
abbrev pub telling : (Noted → List ℕ) → Telling Told Step
telling line = record {
  whole = IsWhole line;
  wants = EndsTold line stops.Unnoted;
  fails = EndsTold line stops.SinkFault;
}

-- the events among steps, as steps
abbrev pub made_of : List Step → List Step
made_of [] = []
made_of (Made n ∷ ss) = Made n ∷ made_of ss
made_of (Entry l ∷ ss) = made_of ss

-- the entries among them
abbrev pub entries_of : List Step → List Logged
entries_of [] = []
entries_of (Made n ∷ ss) = entries_of ss
entries_of (Entry l ∷ ss) = l ∷ entries_of ss

-- ---- a call of the wire

-- a call of the wire failed: the count of those that did rose, and nothing else is told
abbrev pub Breaks : Told → Told → Type 0
Breaks a b = HasRisen a.calls b.calls × (b ≡ record a { calls = b.calls })
