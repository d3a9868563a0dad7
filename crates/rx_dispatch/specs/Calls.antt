-- What one call of a job does.
use Rattle.std.specs.Prelude.{◌≡◌, Bool, true, List, ◌++◌, ℕ}
use Rattle.hex.specs.Hex.{IsBytes}
use Rattle.rx_model.specs.declared.answers.ServeRead.{ServeRead}
use Rattle.rx_model.specs.declared.answers.ServeRead.TheVariants as reads
use Rattle.rx_model.specs.declared.event.Event.{Event}
use Rattle.rx_rules.specs.Classes.{Class}
use Rattle.rx_server.specs.Server.{Answered, ServerState}
use Rattle.rx_jobs.specs.Handlers.{Handlers}
use Rattle.rx_jobs.specs.Jobs.{JobState, IsCall, ask_of, heard}
use Rattle.rx_dispatch.specs.Rounds.{resolved}
use Rattle.rx_dispatch.specs.declared.job.Next.{Next}
use Rattle.rx_dispatch.specs.declared.job.Next.TheVariants as nexts
use Rattle.rx_jobs.specs.declared.job.Phase.TheVariants as phases
use Rattle.rx_jobs.specs.declared.job.Want.{Want}

-- what a job that had so many bytes of its request still has to do behind a read
abbrev pub next_after : ServeRead → ℕ → Next
next_after (reads.Got n) before = nexts.Judge before
next_after reads.End before = nexts.Settle
next_after reads.NotYet before = nexts.Go phases.Rests
next_after (reads.Gone c) before = nexts.Go phases.Quits
next_after reads.NotOpen before = nexts.Go phases.Gone

-- whether the request was read to its end behind a read
abbrev pub ended_after : ServeRead → Bool → Bool
ended_after (reads.Got n) before = before
ended_after reads.End before = true
ended_after reads.NotYet before = before
ended_after (reads.Gone c) before = before
ended_after reads.NotOpen before = before

-- more bytes of a request were read, or none
pub record Grows (old new : List ℕ) : Type 0 where
  pub more : List ℕ
  pub fits : IsBytes more
  pub is : new ≡ old ++ more

-- a job made the call that it wants, with the server's answer, and behind what it still has to do before its next call
-- it knows what it was told
pub record Called (class : List ℕ → Class) (j : JobState) (want : Want) (k : JobState) (next : Next)
    (old new : ServerState) (e : Event) : Type 0 where
  pub is : IsCall (ask_of j want) e
  pub answered : Answered class old new e
  pub hearing : (g : Handlers) → resolved g next k ≡ heard g j e
  pub grows : Grows j.request k.request
