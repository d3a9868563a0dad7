-- What a handler finds of a call. Public clauses cite this module.
use Rattle.std.specs.Prelude.{◌≡◌, ℕ, ℤ, Bool, false, List, Option, Some, None, Ok}
use Rattle.std.specs.List.{find}
use Rattle.rx_model.specs.declared.names.CallName.{CallName}
use Rattle.rx_model.specs.Names.{channel_of}
use Rattle.rx_rules.specs.Life.{is_handled}
use Rattle.rx_rules.specs.Life as lives
use Rattle.rx_rules.specs.Looks.{CallRecord, Looks, call_at, is_call, latest_name}
use Rattle.rx_rules.specs.Rules.{can_enter, served_finish}
use Rattle.rx_rules.specs.Setup.{Setup}
use Rattle.rx_node.specs.Mirrors.{IsActiveAt, IsChannel, IsKey}
use Rattle.rx_node.specs.Node.{NodeState}
use Rattle.rx_server.specs.Server.{waits_at}
use Rattle.rx_server.specs.declared.server.handling.Handled.{Handled}
use Rattle.rx_server.specs.declared.server.handling.Handled.TheVariants as founds

-- the call has this life, and is the latest of the channel with this key
pub record IsFound (l : Looks) (c : CallName) (key : ℕ) (life : lives.Life) : Type 0 where
  pub call : CallRecord
  pub there : call_at l c ≡ Some call
  pub life_is : call.life ≡ life
  pub channel : IsChannel l key (channel_of c)
  pub latest : latest_name l (channel_of c) ≡ c

-- its handler is at work, or has to be told that it broke, or it has none
abbrev pub Finds : Looks → CallName → Handled → Type 0
Finds l c (founds.Open key end) = IsFound l c key lives.Accepted
Finds l c (founds.Broken key code) = IsFound l c key (lives.Broken code)
Finds l c founds.NotOpen = is_call (λ k. is_handled k.life) (call_at l c) ≡ false

-- the key is that of a channel, and for a call that is open with the key of its end
abbrev pub IsHandledAt : NodeState → Handled → Type 0
IsHandledAt n (founds.Open key end) = IsActiveAt n key end
IsHandledAt n (founds.Broken key code) = IsKey n key
IsHandledAt n founds.NotOpen = Unit {0}

-- the latest call of the channel with a key is accepted, and may be finished with this code
pub record MayFinish (l : Looks) (key : ℕ) (code : ℤ) : Type 0 where
  pub name : CallName
  pub found : IsFound l name key lives.Accepted
  pub may : Ok tt ≡ served_finish (call_at l name) code

-- a test of what is there
abbrev pub passes : {X : Type 0} → (X → Bool) → Option X → Bool
passes test None = false
passes test (Some x) = test x

-- the latest call of the channel with a key waits and may be given to a handler
abbrev pub enters_at : Setup → Looks → ℕ → Bool
enters_at s l key = passes (can_enter s l) (waits_at l key)

-- the first of these channels whose call may be given to a handler, or none
abbrev pub IsFirst : Setup → Looks → List ℕ → Option ℕ → Type 0
IsFirst s l firsts got = got ≡ find (enters_at s l) firsts
