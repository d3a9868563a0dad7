-- What a job goes by, and what it remembers of its arguments. Public clauses cite this module.
use Rattle.std.specs.Prelude.{false, ◌≡◌, ℕ, Bool, List, Option, Some, None}
use Rattle.xdr_value.specs.Data.{Data}
use Rattle.stub_table.specs.Requests.{RequestAnswer, whole, more_wanted, refused}
use Rattle.rx_script.specs.Saying.{blocks_of}
use Rattle.rx_jobs.specs.Handlers.{Handlers, handlers_of, answer_to}
use Rattle.rx_dispatch.specs.declared.deciding.Found.{Found}
use Rattle.rx_dispatch.specs.declared.deciding.Arguments.{Arguments}
use Rattle.rx_dispatch.specs.declared.deciding.Arguments.TheVariants as arguments
use Rattle.rx_dispatch.specs.declared.desk.Desk.{Desk}

-- the arguments of these bytes are whole, and are these
pub record IsFound (g : Handlers) (request : List ℕ) (ended : Bool) (f : Found) : Type 0 where
  pub args : Data
  pub is : answer_to g request ended ≡ whole f.index args f.used

-- the same of the bytes that came so far, if any arguments are remembered
abbrev pub IsRemembered : Handlers → List ℕ → Option Found → Type 0
IsRemembered g request None = Unit {0}
IsRemembered g request (Some f) = IsFound g request false f

-- what was found of the arguments of a request that is so
abbrev pub AreArguments : RequestAnswer → Arguments → Type 0
AreArguments answer (arguments.Whole f) = (args : Data) × (answer ≡ whole f.index args f.used)
AreArguments answer arguments.Short = answer ≡ more_wanted
AreArguments answer (arguments.Code c) = answer ≡ refused c

-- the handlers that a job goes by
abbrev pub handlers_at : Desk → Handlers
handlers_at d = handlers_of d.iface.now (blocks_of d.script.now.blocks.items)
