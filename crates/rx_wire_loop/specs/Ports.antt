-- What goes between a node and its wire. Public clauses cite this module.
use Rattle.std.specs.Prelude.{◌≡◌, ◌≢◌, ◌⊎◌, ◌+◌, ◌-◌, ◌^◌, ◌≤◌, ℕ, min, Bool, true, false, List, [], ◌∷◌, ◌++◌, map}
use Rattle.std.specs.Prelude.{length, Option, Some, None, IfNone}
use Rattle.rx_base.specs.Sink.{HasRisen}
use Rattle.rx_jumbo.specs.JoinerState.{JoinerState, joins, takes as takes_on}
use Rattle.rx_jumbo.specs.Parts.{parts_of}
use Rattle.rx_model.specs.declared.answers.Took.{Took}
use Rattle.rx_model.specs.declared.event.Event.{Event}
use Rattle.rx_model.specs.declared.event.Event.TheVariants as events
use Rattle.rx_model.specs.declared.names.Host.{Host}
use Rattle.rx_rules.specs.After.{looks}
use Rattle.rx_rules.specs.Items.{due}
use Rattle.rx_rules.specs.Setup.{Setup}
use Rattle.rx_model.specs.declared.event.Noted.{Noted}
use Rattle.rx_wire.specs.Wire.{Came as Arrived, HasLogged, Logged, TookUntil, GaveTo}
use Rattle.rx_wire.specs.Journal.{HasNoted}
use Rattle.rx_wire.specs.Turns.{noted}
use Rattle.rx_drive.specs.declared.stop.Stop.{Stop}
use Rattle.rx_drive.specs.declared.stop.Stop.TheVariants as stops
use Rattle.rx_wire_loop.specs.Parts.{To, Cut, Part, Place, One, Then}
use Rattle.rx_wire_loop.specs.Tells.{HasLoggedAll, WireTells}

-- what a contract sees of the ports of a node: its number, and the datagrams that are held back
pub record PortsState : Type 0 where
  pub node : ℕ
  pub joiner : JoinerState

-- ---- the clock

-- the moment of the wire is handed in
abbrev pub clocks : Part (Unit {0})
clocks p = One (λ u. events.Clocked p.now) p

-- ---- polling

-- the events of polls that gave these datagrams
abbrev pub polled_all : List (Host × List ℕ) → List Event
polled_all ds = map (λ d. events.Polled (Some d)) ds

-- the entries of these datagrams given
abbrev pub gave_all : List (Host × List ℕ) → List Logged
gave_all ds = map (λ d. GaveTo d.0 d.1) ds

-- datagrams for one host
abbrev pub all_for : Host → List (List ℕ) → List (Host × List ℕ)
all_for to bs = map (λ b. (to, b)) bs

-- the parts of these datagrams, in order
abbrev pub parts_all : List (Host × List ℕ) → List (Host × List ℕ)
parts_all [] = []
parts_all (d ∷ ds) = all_for d.0 (parts_of d.1) ++ parts_all ds

-- none of these has more parts
abbrev pub AreOfFew : ℕ → List (Host × List ℕ) → Type 0
AreOfFew most [] = Unit {0}
AreOfFew most (d ∷ ds) = (length (parts_of d.1) ≤ most) × AreOfFew most ds

-- the host of a datagram, and its parts
abbrev pub split : Host × List ℕ → Host × List (List ℕ)
split d = (d.0, parts_of d.1)

-- the first of these, or no bytes where there is none
abbrev pub first_part : List (List ℕ) → List ℕ
first_part [] = []
first_part (b ∷ bs) = b

-- the first part of one can't be joined behind the parts of another, of which at most so many are given as one
abbrev pub IsUnjoinable : ℕ → Host × List (List ℕ) → Host × List (List ℕ) → Type 0
IsUnjoinable most before d =
    joins (record { most = most; host = before.0; datagrams = before.1 }) d.0 (first_part d.1) ≡ false

-- the same of the first of these, if there is one
abbrev pub IsUnjoinableNext : ℕ → Host × List (List ℕ) → List (Host × List (List ℕ)) → Type 0
IsUnjoinableNext most before [] = Unit {0}
IsUnjoinableNext most before (d ∷ ds) = IsUnjoinable most before d

-- none of these can be joined behind the one before it
abbrev pub AreUnjoinable : ℕ → List (Host × List (List ℕ)) → Type 0
AreUnjoinable most [] = Unit {0}
AreUnjoinable most (d ∷ ds) = IsUnjoinableNext most d ds × AreUnjoinable most ds

-- polls until one gave nothing: what they gave was given on the wire, as many as can be joined as one
pub record PollsOut (most : ℕ) (es : List Event) (ls : List Logged) : Type 0 where
  pub polled : List (Host × List ℕ)
  pub given : List (Host × List ℕ)
  pub events : es ≡ polled_all polled ++ events.Polled None ∷ []
  pub log : ls ≡ gave_all given
  pub joined : parts_all given ≡ polled
  pub few : AreOfFew most given
  pub greedy : AreUnjoinable most (map split given)

-- why polls end passes, by what is missing of them on the wire: the note of one was refused; or the wire failed, and
-- some is missing; or there were 2^64 - 1 of them or more, and nothing is missing
abbrev pub CutsPolls : Stop → List (Host × List ℕ) → List Event → Type 0
CutsPolls stops.Unnoted missing es = Unit {0}
CutsPolls stops.WireFault missing es = missing ≢ []
CutsPolls stops.Endless missing es = (missing ≡ []) × (2 ^ 64 - 1 ≤ length es)
CutsPolls stops.OutOfMemory missing es = ⊥
CutsPolls stops.Unformatted missing es = ⊥
CutsPolls stops.SinkFault missing es = ⊥

-- polls in which passes ended: what they gave was given on the wire, joined, but for a suffix that is missing, of one
-- more at most than are given as one
pub record PollsCut (most : ℕ) (stop : Stop) (es : List Event) (ls : List Logged) : Type 0 where
  pub polled : List (Host × List ℕ)
  pub given : List (Host × List ℕ)
  pub missing : List (Host × List ℕ)
  pub events : (es ≡ polled_all polled) ⊎ (es ≡ polled_all polled ++ events.Polled None ∷ [])
  pub log : ls ≡ gave_all given
  pub joined : parts_all given ++ missing ≡ polled
  pub late : length missing ≤ most + 1
  pub few : AreOfFew most given
  pub greedy : AreUnjoinable most (map split given)
  pub reason : CutsPolls stop missing es

-- one polling, of which at most so many datagrams are given as one; passes end in it as a note is refused, as the wire
-- fails, or as it has no end
abbrev pub polls : ℕ → Part (Unit {0})
polls most p es ls (To done) = PollsOut most es ls
polls most p es ls (Cut stop) = PollsCut most stop es ls

-- ---- taking

-- the lesser of a number and another, if there is one
abbrev pub lesser : Option ℕ → ℕ → ℕ
lesser None n = n
lesser (Some m) n = min n m

-- Up to which moment a take waits: the least of what is due at the node, the end if there is one, a minute after the
-- node's moment, and the last moment that there is.
abbrev pub until_of : Setup → Option ℕ → List Event → ℕ
until_of s end h = lesser (due s (looks s h)) (lesser end (min ((looks s h).now + 60000) (2 ^ 62 - 1)))

-- a single datagram was taken from a host
abbrev pub IsTaken : Host → List ℕ → Event → Type 0
IsTaken from b e = (got : Took) × (e ≡ events.Taken from b got)

-- the events are the takings of these, one for each
abbrev pub TakesAll : Host → List (List ℕ) → List Event → Type 0
TakesAll from [] es = es ≡ []
TakesAll from (b ∷ bs) [] = ⊥
TakesAll from (b ∷ bs) (e ∷ es) = IsTaken from b e × TakesAll from bs es

-- the events are the takings of the first of these
abbrev pub TakesSome : Host → List (List ℕ) → List Event → Type 0
TakesSome from bs [] = Unit {0}
TakesSome from [] (e ∷ es) = ⊥
TakesSome from (b ∷ bs) (e ∷ es) = IsTaken from b e × TakesSome from bs es

-- the node takes these from a host, one after another, unless the note of one is refused
abbrev pub takes_parts : Host → List (List ℕ) → Part (Unit {0})
takes_parts from bs p es ls (To done) = (ls ≡ []) × TakesAll from bs es
takes_parts from bs p es ls (Cut stop) = (stop ≡ stops.Unnoted) × (ls ≡ []) × TakesSome from bs es

-- the node takes what came, if anything came: the clock is handed in, and then it takes each part
abbrev pub takes_came : Option Arrived → Part (Unit {0})
takes_came None p es ls (To done) = (es ≡ []) × (ls ≡ [])
takes_came None p es ls (Cut stop) = ⊥
takes_came (Some came) p es ls out = Then clocks (λ u. takes_parts came.from (parts_of came.bytes)) p es ls out

-- one take up to this moment in the log, with room for any datagram, by which this came: if nothing came, it waited up
-- to its moment
pub record Waits (until : ℕ) (p : Place) (ls : List Logged) (came : Option Arrived) : Type 0 where
  pub room : ℕ
  pub moment : ℕ
  pub log : ls ≡ TookUntil room until came moment ∷ []
  pub roomy : 65536 ≤ room
  pub later : p.now ≤ moment
  pub reached : IfNone came (until ≤ moment)

-- the wire is waited on up to this moment, for what comes, unless it fails
abbrev pub waits : ℕ → Part (Option Arrived)
waits until p es ls (To came) = (es ≡ []) × Waits until p ls came
waits until p es ls (Cut stop) = (stop ≡ stops.WireFault) × (es ≡ []) × (ls ≡ [])

-- one take up to this moment, of which the node takes what came
abbrev pub takes_until : ℕ → Part (Unit {0})
takes_until until = Then (waits until) takes_came

-- one take of a node that is set up so and has to end at some moment, if it has
abbrev pub takes : Setup → Option ℕ → Part (Unit {0})
takes s end p = takes_until (until_of s end p.history) p

-- ---- parts of these

-- the datagrams that are held back, with their host
abbrev pub held : JoinerState → List (Host × List ℕ)
held j = all_for j.host j.datagrams

-- a joiner has room for one datagram at least, and holds as many as it has room for at most
pub record IsWithin (j : JoinerState) : Type 0 where
  pub some : 1 ≤ j.most
  pub few : length j.datagrams ≤ j.most

-- it has room for as many as before, and holds as many as it has room for at most
pub record Keeps (old new : JoinerState) : Type 0 where
  pub within : IsWithin new
  pub most : new.most ≡ old.most

-- the wire gave these datagrams, one after another, and failed then or didn't; nothing else ends passes there
abbrev pub Gave : WireTells → WireTells → List (Host × List ℕ) → Option Stop → Type 0
Gave before after given None =
    HasLoggedAll before.traffic after.traffic (gave_all given) × (after.faults ≡ before.faults)
    × (after.moment ≡ before.moment)
Gave before after given (Some stops.WireFault) =
    HasLoggedAll before.traffic after.traffic (gave_all given) × HasRisen before.faults after.faults
    × (after.moment ≡ before.moment)
Gave before after given (Some stops.SinkFault) = ⊥
Gave before after given (Some stops.OutOfMemory) = ⊥
Gave before after given (Some stops.Unnoted) = ⊥
Gave before after given (Some stops.Endless) = ⊥
Gave before after given (Some stops.Unformatted) = ⊥

-- datagrams for a host as one, if there are any
abbrev pub as_one : Host → List (List ℕ) → List (Host × List (List ℕ))
as_one to [] = []
as_one to (b ∷ bs) = (to, b ∷ bs) ∷ []

-- what is held back was given as one, and nothing is held back then; where the wire failed it gave nothing of it
abbrev pub Emptied : JoinerState → JoinerState → List (Host × List ℕ) → Option Stop → Type 0
Emptied old new given None = (map split given ≡ as_one old.host old.datagrams) × (new.datagrams ≡ [])
Emptied old new given (Some stop) = (given ≡ []) × (held old ≢ [])

-- what is held back was given, unless the wire failed
pub record Empties (old new : JoinerState) (before after : WireTells) (stop : Option Stop) : Type 0 where
  pub given : List (Host × List ℕ)
  pub gave : Gave before after given stop
  pub rest : Emptied old new given stop
  pub few : AreOfFew old.most given

-- A datagram was joined behind what is held back; or it can't be, what is held back was given as one, and it is held
-- back alone. Where the wire failed it gave nothing.
abbrev pub Offered : JoinerState → JoinerState → Host × List ℕ → List (Host × List ℕ) → Option Stop → Type 0
Offered old new d given None =
    ((takes_on old d.0 d.1 ≡ true) × (given ≡ [])
    × (new ≡ record old { host = d.0; datagrams = old.datagrams ++ d.1 ∷ [] }))
    ⊎ ((takes_on old d.0 d.1 ≡ false) × (map split given ≡ as_one old.host old.datagrams)
    × (new ≡ record old { host = d.0; datagrams = d.1 ∷ [] }))
Offered old new d given (Some stop) = given ≡ []

-- a datagram was passed on: it is held back behind what was given for it, unless the wire failed
pub record Passes (d : Host × List ℕ) (old new : JoinerState) (before after : WireTells) (stop : Option Stop)
    : Type 0 where
  pub given : List (Host × List ℕ)
  pub gave : Gave before after given stop
  pub rest : Offered old new d given stop
  pub few : AreOfFew old.most given

-- a poll gave a datagram, which was passed on
pub record PollsOne (old new : JoinerState) (es : List Event) (ls : List Logged) : Type 0 where
  pub datagram : Host × List ℕ
  pub given : List (Host × List ℕ)
  pub events : es ≡ events.Polled (Some datagram) ∷ []
  pub log : ls ≡ gave_all given
  pub rest : Offered old new datagram given None
  pub few : AreOfFew old.most given

-- passes ended in a poll that gave a datagram, before anything was given
abbrev pub CutsOne : List Event → List Logged → Type 0
CutsOne es ls = (d : Host × List ℕ) × (es ≡ events.Polled (Some d) ∷ []) × (ls ≡ [])

-- the note of a poll was refused, or the wire failed
abbrev pub EndsAPoll : Stop → Type 0
EndsAPoll stop = (stop ≡ stops.Unnoted) ⊎ (stop ≡ stops.WireFault)

-- one poll, and whether it gave something; where it gave nothing a refused note alone ends passes
abbrev pub polls_once : JoinerState → JoinerState → Part Bool
polls_once old new p es ls (To true) = PollsOne old new es ls
polls_once old new p es ls (To false) = (es ≡ events.Polled None ∷ []) × (ls ≡ []) × (new ≡ old)
polls_once old new p es ls (Cut stop) =
    ((stop ≡ stops.Unnoted) × (es ≡ events.Polled None ∷ []) × (ls ≡ []))
    ⊎ (EndsAPoll stop × CutsOne es ls)

-- an event was noted, or its note was refused
abbrev pub NotesOne : ℕ → Option (List Noted) → Option (List Noted) → Event → Option Stop → Type 0
NotesOne node before after e None = HasNoted before after (noted node e)
NotesOne node before after e (Some stops.Unnoted) = after ≡ before
NotesOne node before after e (Some stops.OutOfMemory) = ⊥
NotesOne node before after e (Some stops.SinkFault) = ⊥
NotesOne node before after e (Some stops.WireFault) = ⊥
NotesOne node before after e (Some stops.Endless) = ⊥
NotesOne node before after e (Some stops.Unformatted) = ⊥

-- the wire gave a datagram, or failed
abbrev pub GivesOne : WireTells → WireTells → Host × List ℕ → Option Stop → Type 0
GivesOne before after d None =
    HasLogged before.traffic after.traffic (GaveTo d.0 d.1) × (after.faults ≡ before.faults)
    × (after.moment ≡ before.moment)
GivesOne before after d (Some stops.WireFault) =
    (after.traffic ≡ before.traffic) × HasRisen before.faults after.faults × (after.moment ≡ before.moment)
GivesOne before after d (Some stops.SinkFault) = ⊥
GivesOne before after d (Some stops.OutOfMemory) = ⊥
GivesOne before after d (Some stops.Unnoted) = ⊥
GivesOne before after d (Some stops.Endless) = ⊥
GivesOne before after d (Some stops.Unformatted) = ⊥

-- a datagram that was polled was noted and passed on; or its note was refused; or the wire failed
abbrev pub PassesOn : ℕ → JoinerState → JoinerState → Option (List Noted) → Option (List Noted) → Host × List ℕ
    → WireTells → WireTells → Option Stop → Type 0
PassesOn node old new before after d first last None =
    HasNoted before after (noted node (events.Polled (Some d))) × Passes d old new first last None
PassesOn node old new before after d first last (Some stops.Unnoted) = (after ≡ before) × (last ≡ first)
PassesOn node old new before after d first last (Some stops.OutOfMemory) = ⊥
PassesOn node old new before after d first last (Some stops.SinkFault) = ⊥
PassesOn node old new before after d first last (Some stops.Endless) = ⊥
PassesOn node old new before after d first last (Some stops.Unformatted) = ⊥
PassesOn node old new before after d first last (Some stops.WireFault) =
    HasNoted before after (noted node (events.Polled (Some d)))
    × Passes d old new first last (Some stops.WireFault)

-- the ports of a node with this number that join so many datagrams at most, with none held back
pub record AreReady (node most : ℕ) (ports : PortsState) : Type 0 where
  pub number : ports.node ≡ node
  pub most_is : ports.joiner.most ≡ most
  pub empty : ports.joiner.datagrams ≡ []
