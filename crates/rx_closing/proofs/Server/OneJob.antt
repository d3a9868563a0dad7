-- The job of a call among those of a dispatcher.
use Rattle.std.proofs.Common.{◌≡◌, ◌++◌, ◌∷◌, ℤ, true, false, List, Option, Some}
use Rattle.rx_model.specs.declared.names.CallName.{CallName}
use Rattle.rx_rules.specs.After.{is_zero}
use Rattle.rx_rules.specs.Life.{is_handled}
use Rattle.rx_rules.specs.Looks.{CallRecord, is_call}
use Rattle.rx_jobs.specs.Jobs.{JobState}
use Rattle.rx_closing.proofs.Server.JobSeen.{AreOthers}

-- exactly one of the jobs is of the call
pub record OneJob (c : CallName) (js : List JobState) : Type 0 where
  pub front : List JobState
  pub job : JobState
  pub back : List JobState
  pub are : js ≡ front ++ job ∷ back
  pub own : job.call ≡ c
  pub before : AreOthers c front
  pub behind : AreOthers c back

-- a call that a handler has, has one, which read its end where the call did, and finishes well behind it alone; any
-- other call has none
pub data JobsFit (c : CallName) (o : Option CallRecord) (js : List JobState) : Type 0 where
  none_fits : AreOthers c js → is_call (λ r. is_handled r.life) o ≡ false → JobsFit c o js
  one_fits : (r : CallRecord) → o ≡ Some r → is_handled r.life ≡ true → (one : OneJob c js)
      → one.job.ended ≡ r.looks.received.ended
      → ((code : ℤ) → one.job.code ≡ Some code → is_zero code ≡ true → one.job.ended ≡ true) → JobsFit c o js
