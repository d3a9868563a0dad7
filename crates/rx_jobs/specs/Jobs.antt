-- Jobs, and one step of a job as a program that makes calls of a server. Public clauses cite this module.
use Rattle.std.specs.Prelude.{◌≡◌, ◌+◌, ◌==◌, ◌&&◌, not, nat_lt, is_some, if◌then◌else◌, ℕ, ℤ, pos, Bool, true, false}
use Rattle.std.specs.Prelude.{List, [], ◌++◌, length, take, drop, Option, Some, None, Result, Ok, Err, option_map}
use Rattle.rx_model.specs.declared.answers.ReadGot.TheVariants as readers
use Rattle.rx_model.specs.declared.answers.ServeRead.{ServeRead}
use Rattle.rx_model.specs.declared.answers.ServeRead.TheVariants as reads
use Rattle.rx_model.specs.declared.answers.ServeRefused.{ServeRefused}
use Rattle.rx_model.specs.declared.answers.ServeRefused.TheVariants as refusals
use Rattle.rx_model.specs.declared.answers.WroteGot.TheVariants as writers
use Rattle.rx_model.specs.declared.event.Event.{Event}
use Rattle.rx_model.specs.declared.event.Event.TheVariants as events
use Rattle.rx_model.specs.declared.names.CallName.{CallName}
use Rattle.rx_rules.specs.After.{is_zero}
use Rattle.rx_script.specs.Served.{Served, refusal, bytes}
use Rattle.rx_wire.specs.Turns.{Program}
use Rattle.rx_jobs.specs.Handlers.{Handlers, early_code, served_for, wait_of}
use Rattle.rx_jobs.specs.Keeping.{kept_of}
use Rattle.rx_jobs.specs.declared.job.Phase.{Phase}
use Rattle.rx_jobs.specs.declared.job.Phase.TheVariants as phases
use Rattle.rx_jobs.specs.declared.job.Want.{Want}
use Rattle.rx_jobs.specs.declared.job.Want.TheVariants as wants
use Rattle.rx_jobs.specs.declared.job.TheConstants.{OFFER_BYTES}

-- a job: its call, what is kept of the bytes read, whether they were read to the end, the steps since that end, the
-- code decided or none, and the bytes to be written
pub record JobState : Type 0 where
  pub call : CallName
  pub request : List ℕ
  pub ended : Bool
  pub steps : ℕ
  pub code : Option ℤ
  pub reply : List ℕ

-- that of a call of which nothing was read
abbrev pub begun : CallName → JobState
begun c = record { call = c; request = []; ended = false; steps = 0; code = None; reply = [] }

-- a job with its place in its step
pub record Moving : Type 0 where
  pub job : JobState
  pub phase : Phase

-- ---- what it decides

-- it decided this code
abbrev pub coded : ℤ → JobState → JobState
coded c j = record j { code = Some c }

-- it decided this code, if any
abbrev pub maybe_coded : Option ℤ → JobState → JobState
maybe_coded None j = j
maybe_coded (Some c) j = coded c j

-- it decided what is served
abbrev pub decided : Served → JobState → JobState
decided (refusal c) j = coded c j
decided (bytes out) j = record j { code = Some (pos 0); reply = out }

-- so many steps after its end it waits or decides
abbrev pub waited : Handlers → ℕ → JobState → JobState
waited g steps j =
    if nat_lt steps (wait_of g j.request) then record j { steps = steps }
    else decided (served_for g j.request) j

-- the same, where no code of its request comes first
abbrev pub settled_by : Handlers → ℕ → JobState → Option ℤ → JobState
settled_by g steps j (Some c) = coded c j
settled_by g steps j None = waited g steps j

-- so many steps after the end of its request it decides, unless it has to wait longer
abbrev pub settled : Handlers → ℕ → JobState → JobState
settled g steps j = settled_by g steps j (early_code g j.request true)

-- its request was read to its end, and nothing was decided
abbrev pub waits : JobState → Bool
waits j = j.ended && not (is_some j.code)

-- it at the beginning of a step
abbrev pub stepped : Handlers → JobState → JobState
stepped g j = if waits j then settled g (j.steps + 1) j else j

-- the bytes of its request that came have a code, or none yet
abbrev pub judged : Handlers → JobState → JobState
judged g j = maybe_coded (early_code g j.request false) j

-- of its request that is kept which can change what is served
abbrev pub trimmed : Handlers → JobState → JobState
trimmed g j = record j { request = kept_of g j.request }

-- bytes of its request came behind so many: those that are kept have a code, or none yet; where none are it stays
abbrev pub grown : Handlers → ℕ → JobState → JobState
grown g before j =
    if nat_lt before (length (kept_of g j.request)) then judged g (trimmed g j) else trimmed g j

-- ---- what it asks

-- its next call where this code was decided
abbrev pub coded_want : JobState → ℤ → Want
coded_want j c = if is_zero c && nat_lt 0 (length j.reply) then wants.Write else wants.Finish c

-- its next call where its step goes on; none where it waits
abbrev pub next_want : JobState → Option ℤ → Option Want
next_want j None = if j.ended then None else Some wants.Read
next_want j (Some c) = Some (coded_want j c)

-- its next call
abbrev pub want_in : Phase → JobState → Option Want
want_in phases.Moves j = next_want j j.code
want_in phases.Quits j = Some (wants.Finish (pos 0))
want_in phases.Rests j = None
want_in phases.Gone j = None

-- a call of a server by its handlers, without its answer
pub data Ask : Type 0 where
  accept : Ask
  read : CallName → Ask
  write : CallName → List ℕ → Ask
  finish : CallName → ℤ → Ask

-- the call that a job wants
abbrev pub ask_of : JobState → Want → Ask
ask_of j wants.Read = read j.call
ask_of j wants.Write = write j.call (take OFFER_BYTES j.reply)
ask_of j (wants.Finish c) = finish j.call c

-- the bytes of an offer that were accepted
abbrev pub accepted : List ℕ → Result ℕ ServeRefused → List ℕ
accepted offer (Ok n) = take n offer
accepted offer (Err refused) = []

-- an event is that call with some answer
abbrev pub IsCall : Ask → Event → Type 0
IsCall accept e = (got : Option CallName) × (e ≡ events.Accepted got)
IsCall (read c) e =
    (got : ServeRead) × (came : List ℕ) × (e ≡ events.HasRead c OFFER_BYTES (readers.Server got) came)
IsCall (write c offer) e =
    (got : Result ℕ ServeRefused)
    × (e ≡ events.Wrote c (length offer) (writers.Server got) (accepted offer got))
IsCall (finish c code) e = (got : Result (Unit {0}) ServeRefused) × (e ≡ events.Finished c code got)

-- ---- what it is told

-- a read answered so, with these bytes
abbrev pub heard_read : Handlers → JobState → ServeRead → List ℕ → Moving
heard_read g j (reads.Got n) came = record {
  job = grown g (length j.request) (record j { request = j.request ++ came });
  phase = phases.Moves;
}
heard_read g j reads.End came = record { job = settled g 0 (record j { ended = true }); phase = phases.Moves }
heard_read g j reads.NotYet came = record { job = j; phase = phases.Rests }
heard_read g j (reads.Gone c) came = record { job = j; phase = phases.Quits }
heard_read g j reads.NotOpen came = record { job = j; phase = phases.Gone }

-- a write of so many bytes answered so
abbrev pub heard_write : JobState → ℕ → Result ℕ ServeRefused → Moving
heard_write j offered (Ok n) = record {
  job = record j { reply = drop n j.reply };
  phase = if n == offered then phases.Moves else phases.Rests;
}
heard_write j offered (Err refusals.NotOpen) = record { job = j; phase = phases.Gone }
heard_write j offered (Err (refusals.Gone c)) = record { job = j; phase = phases.Quits }
heard_write j offered (Err refusals.Unread) = record { job = j; phase = phases.Rests }

-- its call was answered so
abbrev pub heard : Handlers → JobState → Event → Moving
heard g j (events.HasRead c max (readers.Server got) came) = heard_read g j got came
heard g j (events.Wrote c offered (writers.Server got) came) = heard_write j offered got
heard g j (events.Finished c code got) = record { job = j; phase = phases.Gone }
heard g j _ = record { job = j; phase = phases.Rests }

-- ---- a step

-- its step as a program
abbrev pub serving : Handlers → Program Moving Ask
serving g = record {
  asks = λ m. option_map (ask_of m.job) (want_in m.phase m.job);
  is = IsCall;
  heard = λ m e. heard g m.job e;
}

-- a job at the beginning of its step
abbrev pub moving : Handlers → JobState → Moving
moving g j = record { job = stepped g j; phase = phases.Moves }

-- whether a job whose step is over stays
abbrev pub is_staying : Phase → Bool
is_staying phases.Moves = true
is_staying phases.Quits = true
is_staying phases.Rests = true
is_staying phases.Gone = false
