-- What isn't left behind the rounds that a plan ends with: the one call that lived as they began and lives still, or
-- that was heard in them and is dead. Public clauses cite this module.
use Rattle.std.specs.Prelude.{◌≡◌, ◌≤◌, ◌*◌, ℕ, suc, true, List, [], ◌∷◌, Some, IsSomeAnd, slice_get}
use Rattle.rx_model.specs.declared.answers.End.TheVariants as ends
use Rattle.rx_model.specs.declared.answers.Took.TheVariants as tooks
use Rattle.rx_model.specs.declared.event.Noted.{Noted}
use Rattle.rx_model.specs.declared.names.CallName.{CallName}
use Rattle.rx_history.specs.Sides.{Node}
use Rattle.rx_history.specs.Streams.{end_at}
use Rattle.rx_script.specs.declared.plan.Numbered.{Numbered}
use Rattle.rx_jobs.specs.Handlers.{Handlers}
use Rattle.rx_plan.specs.Promises.{plan_nodes}
use Rattle.rx_plan.specs.Stages.{Stage}
use Rattle.rx_closing.specs.Work.{work_of}
use Rattle.rx_closing.specs.Living.{all_live, call_lives_at, looks_of}
use Rattle.rx_closing.specs.Silence.{CameAmong, is_hearing}
use Rattle.rx_closing.specs.Ended.{AreFair, ClosesFrom, SilentFrom}

-- a call lived at a client, and lives there at a later stage
pub record LivesOn (s t : Stage) (c : CallName) : Type 0 where
  pub client : ℕ
  pub node : Node
  pub there : slice_get s.nodes (suc client) ≡ Some node
  pub lived : call_lives_at s c (suc client) node ≡ true
  pub lives : call_lives_at t c (suc client) node ≡ true

-- a call lived at a client that found it dead, though a message of it was heard among these events, and none of it came
-- to the server that had no place for it
pub record DiesHeard (nodes : List Node) (s : Stage) (es : List Noted) (t : Stage) (c : CallName) : Type 0 where
  pub client : ℕ
  pub node : Node
  pub there : slice_get nodes (suc client) ≡ Some node
  pub lived : call_lives_at s c (suc client) node ≡ true
  pub silence : ℕ
  pub dead : end_at (looks_of t (suc client) node) c ≡ Some (ends.Dead silence)
  pub heard : CameAmong (suc client) node.setup (λ got. is_hearing got ≡ true) c es
  pub placed :
      IsSomeAnd (slice_get nodes 0) (λ server. CameAmong 0 server.setup (λ got. got ≡ tooks.Full) c es) → ⊥

-- by what is said of two stages alone, whatever was made between them: where there were enough rounds, the call doesn't
-- live on
abbrev pub NoneLivesOn : Type 0
NoneLivesOn =
    (g : Handlers) (ls : List Numbered) (n : ℕ) (s t : Stage) → ClosesFrom g ls n s t → AreFair g ls s t
    → (c : CallName) → all_live s ≡ c ∷ [] → 2000 * work_of g ls s c ≤ n → LivesOn s t c → ⊥

-- and however many there were, it doesn't die heard
abbrev pub NoneDiesHeard : Type 0
NoneDiesHeard =
    (g : Handlers) (ls : List Numbered) (s : Stage) (es : List Noted) (t : Stage) → SilentFrom g ls s es t
    → AreFair g ls s t → (c : CallName) → all_live s ≡ c ∷ [] → DiesHeard (plan_nodes ls) s es t c → ⊥
