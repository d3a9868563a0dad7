-- What a job did for a call, told by its events alone, the newest one first. Public clauses cite this module.
use Rattle.std.specs.Prelude.{◌≡◌, ◌⊎◌, ◌||◌, ℕ, ℤ, pos, Bool, true, false, List, [], ◌∷◌, ◌++◌, length, Some, None}
use Rattle.std.specs.Prelude.{Ok, Err}
use Rattle.hex.specs.Hex.{IsBytes}
use Rattle.rx_model.specs.declared.answers.ReadGot.TheVariants as readers
use Rattle.rx_model.specs.declared.answers.ServeRead.TheVariants as reads
use Rattle.rx_model.specs.declared.answers.ServeRefused.TheVariants as refusals
use Rattle.rx_model.specs.declared.answers.WroteGot.TheVariants as writers
use Rattle.rx_model.specs.declared.event.Event.{Event}
use Rattle.rx_model.specs.declared.event.Event.TheVariants as events
use Rattle.rx_model.specs.declared.names.CallName.{CallName}
use Rattle.rx_script.specs.Served.{refusal, bytes}
use Rattle.rx_jobs.specs.Handlers.{Handlers, served_for}
use Rattle.rx_jobs.specs.Jobs.{Ask, Moving, begun, finish, is_staying, moving, serving}

-- ---- what events tell

-- the bytes that an event read
abbrev pub read_by : Event → List ℕ
read_by (events.HasRead c max (readers.Server (reads.Got n)) came) = came
read_by _ = []

-- the bytes of the request that were read
abbrev pub bytes_read : List Event → List ℕ
bytes_read [] = []
bytes_read (e ∷ h) = bytes_read h ++ read_by e

-- the bytes of which an event tells that they were accepted
abbrev pub written_by : Event → List ℕ
written_by (events.Wrote c offered (writers.Server (Ok n)) came) = came
written_by _ = []

-- the bytes of the reply that were accepted
abbrev pub bytes_written : List Event → List ℕ
bytes_written [] = []
bytes_written (e ∷ h) = bytes_written h ++ written_by e

-- an event tells that the request was read to its end
abbrev pub tells_end : Event → Bool
tells_end (events.HasRead c max (readers.Server reads.End) came) = true
tells_end _ = false

-- the request was read to its end
abbrev pub has_end : List Event → Bool
has_end [] = false
has_end (e ∷ h) = tells_end e || has_end h

-- an event tells that the call broke
abbrev pub tells_gone : Event → Bool
tells_gone (events.HasRead c max (readers.Server (reads.Gone code)) came) = true
tells_gone (events.Wrote c offered (writers.Server (Err (refusals.Gone code))) came) = true
tells_gone _ = false

-- it was told that the call broke
abbrev pub has_gone : List Event → Bool
has_gone [] = false
has_gone (e ∷ h) = tells_gone e || has_gone h

-- a write that accepted bytes tells as many
abbrev pub HasCount : Event → Type 0
HasCount (events.Wrote c offered (writers.Server (Ok n)) came) = length came ≡ n
HasCount _ = Unit {0}

-- ---- a life

-- the events of a job of a call lead it to a place in one of its steps
pub data Lives (g : Handlers) (c : CallName) : List Event → Moving → Type 0 where
  begins : Lives g c [] (moving g (begun c))
  calls : (h : List Event) (m : Moving) (a : Ask) (e : Event) → Lives g c h m → (serving g).asks m ≡ Some a
      → (serving g).is a e → HasCount e → Lives g c (e ∷ h) ((serving g).heard m e)
  steps : (h : List Event) (m : Moving) → Lives g c h m → (serving g).asks m ≡ None → is_staying m.phase ≡ true
      → Lives g c h (moving g m.job)

-- ---- what is served

-- the code is that of each request that begins with the bytes read or, where they were read to the end, of these
abbrev pub CodeIs : Handlers → List ℕ → Bool → ℤ → Type 0
CodeIs g request true code = served_for g request ≡ refusal code
CodeIs g request false code =
    (more : List ℕ) → IsBytes more → served_for g (request ++ more) ≡ refusal code

-- the request was read to its end, and these bytes are its reply
pub record ReplyIs (g : Handlers) (h : List Event) (reply : List ℕ) : Type 0 where
  pub ended : has_end h ≡ true
  pub served : served_for g (bytes_read h) ≡ bytes reply

-- with these events behind it a job that wasn't told that its call broke may finish so: with the code of its request,
-- or with 0, where all of the reply was written
abbrev pub MayFinish : Handlers → List Event → ℤ → Type 0
MayFinish g h code =
    CodeIs g (bytes_read h) (has_end h) code ⊎ ((code ≡ pos 0) × ReplyIs g h (bytes_written h))

-- what was written begins the reply of the request
pub record Writes (g : Handlers) (h : List Event) : Type 0 where
  pub rest : List ℕ
  pub is : ReplyIs g h (bytes_written h ++ rest)

-- the law of a life: it is about its own call alone; what it wrote begins the reply of its request; and what it
-- finishes with is the request's code, or 0 behind all of the reply, or 0 where it was told that the call broke
pub record IsExact (g : Handlers) (c : CallName) (h : List Event) (m : Moving) : Type 0 where
  pub own : m.job.call ≡ c
  pub writes : (bytes_written h ≡ []) ⊎ Writes g h
  pub finishes : (code : ℤ) → (serving g).asks m ≡ Some (finish c code)
      → ((has_gone h ≡ true) × (code ≡ pos 0)) ⊎ MayFinish g h code
