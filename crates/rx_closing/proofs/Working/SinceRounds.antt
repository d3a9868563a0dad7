-- A round of a call that is at work at both ends: where its client heard of it not long ago, or its server owes an
-- answer soon, it is so behind the round too.
use Rattle.std.proofs.Common.{◌⊎◌, ℕ, List, inr, ⊎_elim}
use Rattle.rx_model.specs.declared.names.CallName.{CallName}
use Rattle.rx_history.specs.Sides.{Node}
use Rattle.rx_script.specs.declared.plan.Numbered.{Numbered}
use Rattle.rx_jobs.specs.Handlers.{Handlers}
use Rattle.rx_plan.specs.Answering.{AreServable}
use Rattle.rx_plan.specs.Stages.{Stage}
use Rattle.rx_progress.specs.Moving.{IsDrained}
use Rattle.rx_rounds.proofs.Rounded.{RoundMade}
use Rattle.rx_closing.proofs.Ends.HeardSoon.{Lively, OwesBy, live_step, owes_step}
use Rattle.rx_closing.proofs.Far.AtWork.{AtWork, ends_of}
use Rattle.rx_closing.proofs.Rounds.SceneEnds.{client_kind}
use Rattle.rx_closing.proofs.Working.EndRounds.{RoundFor}
use Rattle.rx_closing.proofs.Working.PassesOf.{LiveOf, drained_asked, live_of}

-- at work at a stage, its client drained, and its server owes an answer within 2,200 ms of a moment, or it heard not
-- long ago
pub record IsSince (c : CallName) (k : ℕ) (client server : Node) (h : ℕ) (v : Stage) : Type 0 where
  pub work : AtWork c k client server v
  pub drained : IsDrained work.asked.looks.received
  pub lively : OwesBy h (ends_of c k client server v work) ⊎ Lively (ends_of c k client server v work)

module _ (g : Handlers) (ls : List Numbered) (servable : AreServable g) (cs : List CallName) (c : CallName) (k : ℕ)
    (client server : Node) (s t : Stage) (r : RoundMade g s t) where
  -- so it is behind a round
  pub since_round : RoundFor g ls cs c k client server s t r → (h : ℕ) → IsSince c k client server h s
      → AtWork c k client server t → IsSince c k client server h t
  since_round i h live x =
      record {
        work = x;
        drained = drained_asked g ls servable cs c k client server s t r i live.work x;
        lively = ⊎_elim
            (λ (since : OwesBy h (ends_of c k client server s live.work)).
            owes_step client.setup server.setup (client_kind c k client server s live.work.scene)
            (ends_of c k client server s live.work) (ends_of c k client server t x) o.round h since)
            (λ (lively : Lively (ends_of c k client server s live.work)).
            inr (live_step client.setup server.setup (client_kind c k client server s live.work.scene)
            (ends_of c k client server s live.work) (ends_of c k client server t x) o.round lively)) live.lively;
      }
    where
      o : LiveOf g ls servable cs c k client server s t r i live.work x
      o = live_of g ls servable cs c k client server s t r i live.work x live.drained
