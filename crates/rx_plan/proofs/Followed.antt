-- What is followed of a driven plan, where each caller is that of an invoke.
use Rattle.std.proofs.Common.{◌≡◌, ℕ, List, Some}
use Rattle.rx_model.specs.declared.event.Noted.{Noted}
use Rattle.rx_history.specs.Sides.{Node}
use Rattle.rx_jobs.specs.Handlers.{Handlers}
use Rattle.rx_reply.specs.Sent.{CanSend}
use Rattle.rx_script.specs.declared.plan.Numbered.{Numbered}
use Rattle.rx_plan.specs.Answering.{Invoked, invoked_at, request_for}
use Rattle.rx_plan.specs.Stages.{InvokedState}
use Rattle.rx_plan.proofs.Driven.{Carries, Seen}
use Rattle.rx_plan.proofs.Following as following

-- the invoke at a place, whose request can be sent
pub record AtInvoke (g : Handlers) (ls : List Numbered) (place : ℕ) : Type 0 where
  pub invoke : Invoked
  pub at : invoked_at g ls place ≡ Some invoke
  pub can : CanSend g.types invoke.proc invoke.args invoke.up

-- its request
abbrev pub asked_by : (g : Handlers) (ls : List Numbered) (place : ℕ) → AtInvoke g ls place → List ℕ
asked_by g ls place i = request_for g i.invoke

-- these bytes are the request of the invoke at a place
abbrev pub Asks : Handlers → List Numbered → ℕ → List ℕ → Type 0
Asks g ls = following.Asks g (AtInvoke g ls) (asked_by g ls)

-- a caller is that of an invoke, and drives its call at its client
abbrev pub IsCaller : Handlers → List Numbered → List Node → List Noted → InvokedState → Type 0
IsCaller g ls = following.IsCaller g (AtInvoke g ls) (asked_by g ls)

-- what a driven plan has come to, where its nodes are as nodes of a world are
abbrev pub IsPlayed : Handlers → List Numbered → Seen → Type 0
IsPlayed g ls = following.IsPlayed g (AtInvoke g ls) (asked_by g ls)

-- at each moment of it
abbrev pub IsFollowed : Handlers → List Numbered → Seen → Type 0
IsFollowed g ls = following.IsFollowed g (AtInvoke g ls) (asked_by g ls)

pub followed : (g : Handlers) (ls : List Numbered) → Carries g (Asks g ls) (IsFollowed g ls)
followed g ls = following.followed g (AtInvoke g ls) (asked_by g ls)
