-- The calls that live as fair rounds begin, each with its client and what it asks; how far all are; and rounds through
-- which none comes further.
use Rattle.std.proofs.Common.{◌≡◌, ◌+◌, ◌*◌, ◌^◌, ◌<◌, ℕ, suc, true, List, [], ◌∷◌}
use Rattle.std.specs.Prelude.{map}
use Rattle.rx_model.specs.declared.names.CallName.{CallName}
use Rattle.rx_rules.proofs.EveryLaws.{Every}
use Rattle.rx_history.specs.Sides.{Node, moment}
use Rattle.rx_script.specs.declared.plan.Numbered.{Numbered}
use Rattle.rx_jobs.specs.Handlers.{Handlers, wait_of}
use Rattle.rx_plan.specs.Stages.{Stage}
use Rattle.rx_plan.proofs.Driven.{seen}
use Rattle.rx_plan.proofs.QuietEvents.{AreServed}
use Rattle.rx_plan.proofs.Followed.{IsFollowed}
use Rattle.rx_between.proofs.Each.EachItem.{In}
use Rattle.rx_closing.specs.Living.{call_lives_at}
use Rattle.rx_closing.proofs.Conns.PlanPeers.{AreLinked}
use Rattle.rx_closing.proofs.Far.CausedHere.{CausedBy}
use Rattle.rx_closing.proofs.Far.Waited.{way_of}
use Rattle.rx_closing.proofs.Frame.{Crowd, IsKept, OneOf}
use Rattle.rx_closing.proofs.Rounds.Chains.{Chain}

-- ---- the calls

-- a call that lived, with the place of its client among the clients, and the bytes that its caller asks with
pub record Member : Type 0 where
  pub call : CallName
  pub index : ℕ
  pub client : Node
  pub request : List ℕ

abbrev pub names_of : List Member → List CallName
names_of ms = map (λ m. m.call) ms

-- it is one at a stage of a driven plan, and of rounds behind it
pub record IsMember (g : Handlers) (ls : List Numbered) (server : Node) (s : Stage) (m : Member) : Type 0 where
  pub one : OneOf m.call m.index m.client server s
  pub caused : CausedBy g ls m.call m.index m.client m.request s

-- it lives at its client
abbrev pub IsAsking : Stage → Member → Type 0
IsAsking s m = call_lives_at s m.call (suc m.index) m.client ≡ true

-- all of them
pub record AllHere (g : Handlers) (ls : List Numbered) (server : Node) (ms : List Member) (s : Stage) : Type 0 where
  pub crowd : Crowd (names_of ms) s
  pub held : IsFollowed g ls (seen s)
  pub links : AreServed s.nodes s.history
  pub linked : AreLinked s
  pub members : Every (IsMember g ls server s) ms

-- ---- how far they are

-- one of them, with the steps that its job waited
abbrev pub member_way : Handlers → Node → Stage → Member → ℕ
member_way g server s m = way_of (wait_of g m.request) m.call m.index m.client server s

-- all of them
abbrev pub all_way : Handlers → Node → List Member → Stage → ℕ
all_way g server [] s = 0
all_way g server (m ∷ ms) s = member_way g server s m + all_way g server ms s

-- ---- rounds in which none comes further

pub record Stretch (g : Handlers) (ls : List Numbered) (server : Node) (ms : List Member) (n : ℕ) (s u : Stage)
    : Type 0 where
  pub here : AllHere g ls server ms s
  pub rounds : Chain g n s u
  pub kept : IsKept s.nodes u
  pub same : all_way g server ms s ≡ all_way g server ms u
  pub early : (j : ℕ) → moment j s.history + 2000 * n < 2 ^ 62
  -- the one that is to be closed
  pub asker : Member
  pub inside : In asker ms
  pub asking : IsAsking u asker
