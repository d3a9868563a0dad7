-- Where a turn of the dispatcher brings a call no further, the call isn't broken at its server, and its job doesn't
-- wait.
use Rattle.std.proofs.Common.{◌≡◌, ◌≤◌, ◌<◌, ◌+◌, ℕ, ℤ, Bool, true, false, List, Option, Some, ap, sym, subst, ◌∙◌}
use Rattle.std.proofs.Common.{arith}
use Rattle.rx_model.specs.declared.names.CallName.{CallName}
use Rattle.rx_rules.specs.Life.{is_handled}
use Rattle.rx_rules.specs.Life as lives
use Rattle.rx_rules.specs.Looks.{CallRecord, is_call}
use Rattle.rx_rules.specs.Setup.{IsServer}
use Rattle.rx_history.specs.Sides.{Node}
use Rattle.rx_script.specs.declared.plan.Numbered.{Numbered}
use Rattle.rx_jobs.specs.Handlers.{Handlers, wait_of}
use Rattle.rx_plan.specs.Answering.{AreServable, request_for}
use Rattle.rx_plan.specs.Stages.{Stage}
use Rattle.rx_plan.specs.Turned.{dispatches}
use Rattle.rx_plan.proofs.Driven.{seen}
use Rattle.rx_plan.proofs.Followed.{IsFollowed}
use Rattle.rx_rounds.proofs.Rounded.{Made}
use Rattle.rx_closing.proofs.Far.CausedHere.{CausedBy}
use Rattle.rx_closing.proofs.Far.FarStands.{asked_low}
use Rattle.rx_closing.proofs.Far.FarWork.{IsCaused}
use Rattle.rx_closing.proofs.Far.Waited.{IsJobLow, job_of, waited, way_of}
use Rattle.rx_closing.proofs.Frame.{OneOf, far_of, served_in}
use Rattle.rx_closing.proofs.Rounds.Chains.{Adds}
use Rattle.rx_closing.proofs.Server.ServerScene.{scene_low, scene_serves, scene_turn}
use Rattle.rx_closing.proofs.Server.ServerTurn.{ServedTurn, served}
use Rattle.rx_closing.proofs.Server.ServerWay.{ServerMoves, server_full, server_goes_on, server_idle, server_moves}
use Rattle.rx_closing.proofs.Server.ServerWay.{server_reads, server_way}

module _ (g : Handlers) (node : Node) (serves : IsServer node.setup.kind) (c : CallName) (most : ℕ) where
  abbrev here : Stage → Option CallRecord
  here s = served g node serves c s

  abbrev way : Stage → ℕ
  way s = server_way g node serves c most s

  abbrev Moves : Stage → Stage → Type 0
  Moves s t = ServerMoves g node serves c most s t

  module _ (s t : Stage) (low : IsJobLow most (job_of c s.jobs)) (turn : ServedTurn g node serves c s t) where
    same_some : (a b : CallRecord) → here s ≡ Some a → here s ≡ Some b → a ≡ b
    same_some a b first second =
        let both : ◌≡◌ {A = Option CallRecord} (Some a) (Some b) = sym first ∙ second in
        cc (both)

    idle_not : (r : CallRecord) → here s ≡ Some r → is_handled r.life ≡ true
        → is_call (λ x. is_handled x.life) (here s) ≡ false → ⊥
    idle_not r is handled idle =
        let wrong : ◌≡◌ {A = Bool} true false =
        sym handled ∙ ap (λ (o : Option CallRecord). is_call (λ x. is_handled x.life) o) (sym is) ∙ idle in
        cc (wrong)

    broken_not : (r x : CallRecord) (code : ℤ) → here s ≡ Some r → r.life ≡ lives.Broken code → here s ≡ Some x
        → x.life ≡ lives.Accepted → ⊥
    broken_not r x code is broke was life =
        let one : r ≡ x = same_some r x is was in
        let wrong : lives.Broken code ≡ lives.Accepted = sym broke ∙ ap (λ (y : CallRecord). y.life) one ∙ life in
        cc (wrong)

    -- a call that broke is further behind the turn
    pub broken_goes : (r : CallRecord) (code : ℤ) → here s ≡ Some r → r.life ≡ lives.Broken code → way s < way t
    broken_goes r code is broke = by (server_moves g node serves c most s t low turn)
      where
        by : Moves s t → way s < way t
        by (server_goes_on more) = more
        by (server_idle same idle first) = absurd (idle_not r is (ap is_handled broke) idle)
        by (server_reads x f was now_ life after_ turns more all incomplete) =
            absurd (broken_not r x code is broke was life)
        by (server_full x f was now_ life after_ turns ended full decided) =
            absurd (broken_not r x code is broke was life)

module _ (g : Handlers) (ls : List Numbered) (servable : AreServable g) (c : CallName) (k : ℕ) (client server : Node)
    (request : List ℕ) (s t : Stage) (before : OneOf c k client server s) (behind : OneOf c k client server t)
    (follows : IsFollowed g ls (seen s)) (caused : CausedBy g ls c k client request s) (made : Made (dispatches g) s t)
    (adds : Adds s.history t.history)
    (stands : way_of (wait_of g request) c k client server t ≤ way_of (wait_of g request) c k client server s) where
  abbrev i : IsCaused g ls c k client s
  i = caused.cause

  abbrev most : ℕ
  most = wait_of g (request_for g i.caller.origin.invoke)

  abbrev serves : IsServer server.setup.kind
  serves = scene_serves g ls c k client server s before follows

  -- at the server it isn't further
  never_more : server_way g server serves c most s < server_way g server serves c most t → ⊥
  never_more more =
      let asked = asked_low c k client server t behind s adds.more adds.is in
      let own : far_of (served_in c server s) + waited (wait_of g request) c (served_in c server s) s.jobs
      < far_of (served_in c server t) + waited (wait_of g request) c (served_in c server t) t.jobs =
      subst (λ (bs : List ℕ). far_of (served_in c server s) + waited (wait_of g bs) c (served_in c server s) s.jobs
      < far_of (served_in c server t) + waited (wait_of g bs) c (served_in c server t) t.jobs) caused.asks more in
      omega (arith, asked, own, stands)

  -- the call isn't broken there as the turn begins
  pub no_broken : (r : CallRecord) → served_in c server s ≡ Some r → (code : ℤ) → r.life ≡ lives.Broken code → ⊥
  no_broken r there code broke =
      never_more
      (broken_goes g server serves c most s t (scene_low g ls c k client server s before follows servable i)
      (scene_turn g ls c k client server s before follows servable t made) r code there broke)
