-- Who lives as fair rounds go on, room for all of them, and one call among the others.
use Rattle.std.specs.Prelude.{IfSome, slice_get}
use Rattle.std.proofs.Common.{◌≡◌, ◌⊎◌, ◌*◌, ◌≤◌, ℕ, suc, true, List, length, Some, ◌+◌, if◌then◌else◌, Bool, false}
use Rattle.std.proofs.Common.{Option, None}
use Rattle.rx_model.specs.declared.names.CallName.{CallName}
use Rattle.rx_rules.specs.Life.{is_live, Life}
use Rattle.rx_rules.specs.Looks.{CallRecord, Looks, call_at}
use Rattle.rx_rules.specs.Setup.{Client, Setup, shared_slots}
use Rattle.rx_rules.specs.Classes.{null}
use Rattle.rx_rules.specs.Life as lives
use Rattle.rx_rules.specs.Received.{front_of, used_of}
use Rattle.rx_rules.specs.Sent.{given_of, pieces_of}
use Rattle.rx_history.specs.Sides.{Node}
use Rattle.rx_law.specs.Promises.{ServerForgotNone}
use Rattle.rx_law.specs.Times.{Timely}
use Rattle.rx_law.specs.Worlds.{World}
use Rattle.rx_plan.specs.Stages.{Stage}
use Rattle.rx_between.proofs.Each.EachItem.{In}
use Rattle.rx_closing.specs.Living.{looks_of}

-- ---- the scene

-- a node of a plan without a key
pub record IsPlain (n : Node) : Type 0 where
  pub unprompted : n.setup.prompt ≡ false
  pub open_ : n.setup.class ≡ null

-- the call as its client has it
abbrev pub asked_in : CallName → ℕ → Node → Stage → Option CallRecord
asked_in c k client s = call_at (looks_of s (suc k) client) c

-- and as its server has it
abbrev pub served_in : CallName → Node → Stage → Option CallRecord
served_in c server s = call_at (looks_of s 0 server) c

-- ---- how far it is

-- a life goes on in this order alone
abbrev pub rank_of : Life → ℕ
rank_of lives.Calling = 0
rank_of (lives.Ended end) = 5
rank_of lives.Waiting = 0
rank_of lives.Accepted = 1
rank_of lives.Finished = 2
rank_of (lives.Broken code) = 3
rank_of (lives.Over code) = 5

-- 1 where it is so
abbrev pub flag : Bool → ℕ
flag b = if b then 1 else 0

-- pieces that stand, were given and are known to have come; packets that stand without a gap and that are done with;
-- whether either stream came to its end; and the life
abbrev pub far : CallRecord → ℕ
far r =
    pieces_of r.looks.sent + given_of r.looks.sent + r.looks.sent.acked + front_of r.looks.received.kept
    + used_of r.looks.received + flag r.looks.sent.shut + flag r.looks.received.ended + rank_of r.life

-- of a call that is looked for: one that started is further than one that didn't
abbrev pub far_of : Option CallRecord → ℕ
far_of None = 0
far_of (Some r) = suc (far r)

-- ---- who lives

-- each call that lives there is one of these
abbrev pub AreAmong : List CallName → Looks → Type 0
AreAmong cs l = (d : CallName) (r : CallRecord) → call_at l d ≡ Some r → is_live r.life ≡ true → In d cs

-- ---- room

-- a node may have as many calls; and there is one of them at most, or two windows of slots for each beside one slot for
-- each
abbrev pub IsSpacious : List CallName → Setup → Type 0
IsSpacious cs s =
    (length cs ≤ s.limits.calls)
    × ((length cs ≤ 1) ⊎ (2 * s.limits.window * length cs ≤ shared_slots s))

-- ---- stages

-- what was promised of the server's records and of the datagrams' age
abbrev pub IsKept : List Node → Stage → Type 0
IsKept nodes s = ServerForgotNone nodes s.history ⊎ Timely nodes s.history

-- a stage at which only these calls live, with room for them
pub record Crowd (cs : List CallName) (s : Stage) : Type 0 where
  pub world : World s.nodes s.history
  pub kept : IsKept s.nodes s
  pub plain : (j : ℕ) → IfSome (slice_get s.nodes j) IsPlain
  pub among : (j : ℕ) → IfSome (slice_get s.nodes j) (λ n. AreAmong cs (looks_of s j n))
  pub space : (j : ℕ) → IfSome (slice_get s.nodes j) (λ n. IsSpacious cs n.setup)

-- a call at a stage, with the nodes of its server and its client, whatever other calls live
pub record OneOf (c : CallName) (k : ℕ) (client server : Node) (s : Stage) : Type 0 where
  pub world : World s.nodes s.history
  pub kept : IsKept s.nodes s
  pub server_there : slice_get s.nodes 0 ≡ Some server
  pub client_there : slice_get s.nodes (suc k) ≡ Some client
  pub client_is : client.setup.kind ≡ Client c.host c.epoch
  pub plain : (j : ℕ) → IfSome (slice_get s.nodes j) IsPlain
