-- A turn of the dispatcher at a stage of a driven plan, seen from one of its server's calls: the jobs that it finds,
-- and what it makes of the call.
use Rattle.std.proofs.Common.{◌≡◌, ◌≤◌, ◌∷◌, ◌++◌, is_some, ℕ, ℤ, Bool, true, false, List, [], length, refl, ap, sym}
use Rattle.std.proofs.Common.{subst, ◌∙◌, Option, Some, arith, inr, suc}
use Rattle.std.specs.Prelude.{slice_get}
use Rattle.rx_model.specs.declared.names.CallName.{CallName}
use Rattle.rx_model.specs.Names.{connection_of, same_name}
use Rattle.rx_rules.specs.After.{looks}
use Rattle.rx_rules.specs.Classes.{Class}
use Rattle.rx_rules.specs.Looks.{CallRecord}
use Rattle.rx_rules.specs.Rules.{Legal}
use Rattle.rx_rules.specs.Sent.{counting_by, counting_of, given_of, opened}
use Rattle.rx_rules.specs.Setup.{Kind, Server, Client, FitsSetup, IsServer, is_client}
use Rattle.rx_rules.proofs.EveryLaws.{Every}
use Rattle.rx_history.proofs.Differ.{every_found}
use Rattle.rx_history.proofs.LifeFalls.{is_begun}
use Rattle.rx_history.proofs.Suffice.{roomy_history}
use Rattle.rx_history.proofs.Room.Tight.{TightOf}
use Rattle.rx_history.specs.Counts.{Once}
use Rattle.rx_history.specs.Sides.{Node, side}
use Rattle.rx_history.specs.Starts.{StartsOnce}
use Rattle.rx_law.proofs.Joint.{Fed}
use Rattle.rx_law.specs.Promises.{ends_in}
use Rattle.rx_law.proofs.World.{if-some}
use Rattle.rx_law.proofs.WorldLaw.{world-law}
use Rattle.rx_between.specs.Acknowledged.{received_by, sent_by}
use Rattle.rx_script.specs.declared.plan.Numbered.{Numbered}
use Rattle.rx_jobs.specs.Dispatching.{over}
use Rattle.rx_jobs.specs.Handlers.{Handlers, wait_of}
use Rattle.rx_jobs.specs.Jobs.{JobState}
use Rattle.rx_jobs.proofs.KeptLaws.{kept_wait}
use Rattle.rx_plan.specs.Answering.{AreServable, request_for}
use Rattle.rx_plan.specs.Stages.{Stage}
use Rattle.rx_plan.specs.Turned.{dispatches}
use Rattle.rx_plan.proofs.Driven.{seen}
use Rattle.rx_plan.proofs.Followed.{IsFollowed, IsPlayed}
use Rattle.rx_plan.proofs.Handling.{Serves}
use Rattle.rx_rounds.proofs.Rounded.{Made}
use Rattle.rx_closing.proofs.Far.FarBounds.{served_counts}
use Rattle.rx_closing.proofs.Far.FarGrows.{acked_given}
use Rattle.rx_closing.proofs.Far.FarStands.{scene_fed, scene_once}
use Rattle.rx_closing.proofs.Far.FarWork.{IsCaused, scene_read}
use Rattle.rx_closing.proofs.Far.Waited.{IsJobLow, job_found, job_none, job_of}
use Rattle.rx_closing.proofs.Frame.{IsPlain, OneOf, served_in}
use Rattle.rx_closing.proofs.Server.Accepts.{IsOpenAt}
use Rattle.rx_closing.proofs.Server.JobHeld.{IsHeld, jobs_fit, one_held}
use Rattle.rx_closing.proofs.Server.JobsLow.{IsLow, jobs_low}
use Rattle.rx_closing.proofs.Server.OneJob.{JobsFit, OneJob, none_fits, one_fits}
use Rattle.rx_closing.proofs.Server.OwnStep.{WaitsOr, has_decided, still_waits, waits_or}
use Rattle.rx_closing.proofs.Server.ServerTurn.{IsSound, ServedTurn, served_turn}
use Rattle.rx_closing.proofs.Server.ServerWay.{ServerMoves, WayGrows, server_moves, way_grows}
use Rattle.rx_closing.proofs.Server.WaitingFresh.{waiting_fresh}

module _ (g : Handlers) (ls : List Numbered) (c : CallName) (k : ℕ) (client server : Node) (s : Stage)
    (scene : OneOf c k client server s) (follows : IsFollowed g ls (seen s)) where
  fed : Fed (ends_in (connection_of c) (suc k) client server) s.history
  fed = scene_fed c k client server s scene

  -- the first node is a server
  pub scene_serves : IsServer server.setup.kind
  scene_serves = fed.server_kind

  legal : Legal server.setup (side 0 s.history)
  legal = fed.server_legal

  -- its setup fits
  pub scene_setup : FitsSetup server.setup
  scene_setup = fed.server_fits

  starts : StartsOnce server.setup (side 0 s.history) c
  starts = scene_once c k client server s scene

  once : Once (side 0 s.history)
  once = (world-law s.nodes s.history scene.world scene.kept).once

  played : IsPlayed g ls (seen s)
  played = follows.played scene.world.sides.nodes_are

  sv : Serves g (over s.jobs) (side 0 s.history)
  sv = played.serves

  -- ---- the stage

  plain : IsPlain server
  plain = if-some (slice_get s.nodes 0) server IsPlain scene.server_there (scene.plain 0)

  -- it doesn't challenge
  pub scene_open : IsOpenAt g server scene_serves c s
  scene_open =
      record {
        first = scene.server_there;
        legal = legal;
        open_ = ap (λ (x : Class). x.challenges) plain.open_;
      }

  -- a call whose handler hasn't ended isn't shut
  pub scene_unshut : (r : CallRecord) → served_in c server s ≡ Some r → is_begun r.life ≡ true
      → r.looks.sent.shut ≡ false
  scene_unshut r there begun =
      (every_found (TightOf (is_client server.setup.kind)) (λ (x : CallRecord). same_name x.name c)
      (looks server.setup (side 0 s.history)).calls r (roomy_history server.setup (side 0 s.history) legal).tight
      there).unshut (serving server.setup.kind scene_serves) begun
    where
      serving : (kind : Kind) → IsServer kind → is_client kind ≡ false
      serving (Server service nonces) is = refl
      serving (Client host epoch) is = absurd is

  known : (r : CallRecord) → served_in c server s ≡ Some r → is_begun r.life ≡ true
      → r.looks.sent.acked ≤ opened (length r.looks.sent.said)
  known r there begun =
      let acked = subst (λ (o : Option CallRecord). (sent_by o).acked ≤ given_of (sent_by o)) there
      (acked_given server.setup (side 0 s.history) c scene_setup legal (inr (scene_serves, starts))) in
      let given = subst (λ (o : Option CallRecord). given_of (sent_by o) ≤ counting_of (sent_by o)) there
      (served_counts s.nodes s.history scene.world scene.kept (suc k) client server c scene.client_there scene.client_is
      scene.server_there) in
      let counts : counting_of r.looks.sent ≡ counting_by (length r.looks.sent.said) false =
      ap (counting_by (length r.looks.sent.said)) (scene_unshut r there begun) in
      by (length r.looks.sent.said) (omega (arith, acked, given, counts))
    where
      by : (n : ℕ) → r.looks.sent.acked ≤ counting_by n false → r.looks.sent.acked ≤ opened n
      by n low = omega (arith, low)

  -- what has to be known of the call's record as a turn begins
  pub scene_sound : IsSound g server scene_serves c s
  scene_sound =
      record {
        known = known;
        fresh =
            λ r there waits_. waiting_fresh server.setup (side 0 s.history) c r scene_serves scene_setup
            legal there waits_;
      }

  -- ---- its jobs

  -- its jobs fit what passed at its end
  pub scene_fits : AreServable g → JobsFit c (served_in c server s) s.jobs
  scene_fits servable =
      jobs_fit g server.setup scene_serves scene_setup servable c s.jobs (side 0 s.history) sv legal once starts

  -- the one job of the call is held so
  pub scene_held : (servable : AreServable g) (r : CallRecord) → served_in c server s ≡ Some r → (one : OneJob c s.jobs)
      → IsHeld g server.setup scene_serves scene_setup servable c r one.job
  scene_held servable r there one =
      one_held g server.setup scene_serves scene_setup servable c s.jobs (side 0 s.history) r sv legal once
      starts there one

  every_at : (front : List JobState) (j : JobState) (back : List JobState) → Every (IsLow g) (front ++ j ∷ back)
      → IsLow g j
  every_at [] j back all = all.0
  every_at (x ∷ front) j back all = every_at front j back all.1

  -- the job of a call is found
  found : (one : OneJob c s.jobs) → job_of c s.jobs ≡ Some one.job
  found one = ap (job_of c) one.are ∙ job_found c one.front one.job one.back one.before one.own

  job_low : (one : OneJob c s.jobs) → IsLow g one.job
  job_low one =
      every_at one.front one.job one.back
      (subst (Every (IsLow g)) one.are (jobs_low g s.jobs (side 0 s.history) sv))

  -- behind the end what it has is of the whole request
  whole_job : (servable : AreServable g) (i : IsCaused g ls c k client s) (r : CallRecord)
      → served_in c server s ≡ Some r → (one : OneJob c s.jobs) → one.job.ended ≡ r.looks.received.ended
      → one.job.ended ≡ true → wait_of g one.job.request ≡ wait_of g (request_for g i.caller.origin.invoke)
  whole_job servable i r there one ended is =
      let held : IsHeld g server.setup scene_serves scene_setup servable c r one.job =
      scene_held servable r there one in
      let read : r.looks.received.read ≡ request_for g i.caller.origin.invoke =
      subst (λ (o : Option CallRecord). (received_by o).ended ≡ true
      → (received_by o).read ≡ request_for g i.caller.origin.invoke) there
      (scene_read g ls c k client server s scene follows i) (sym ended ∙ is) in
      ap (wait_of g) held.request ∙ kept_wait g r.looks.received.read ∙ ap (wait_of g) read

  -- it waited no more steps than the script has it wait for the request
  pub scene_low : AreServable g → (i : IsCaused g ls c k client s)
      → IsJobLow (wait_of g (request_for g i.caller.origin.invoke)) (job_of c s.jobs)
  scene_low servable i = of (scene_fits servable)
    where
      most : ℕ
      most = wait_of g (request_for g i.caller.origin.invoke)

      of : JobsFit c (served_in c server s) s.jobs → IsJobLow most (job_of c s.jobs)
      of (none_fits others idle) = subst (IsJobLow most) (sym (job_none c s.jobs others)) tt
      of (one_fits r there handled one ended zero_) =
          subst (IsJobLow most) (sym (found one)) (by one.job.ended refl)
        where
          low : IsLow g one.job
          low = job_low one

          whole : one.job.ended ≡ true → wait_of g one.job.request ≡ most
          whole = whole_job servable i r there one ended

          by : (b : Bool) → one.job.ended ≡ b → is_some one.job.code ≡ false → one.job.steps ≤ most
          by false is undecided = omega (arith, low.before is)
          by true is undecided = waiting (waits_or one.job is)
            where
              waiting : WaitsOr one.job → one.job.steps ≤ most
              waiting (still_waits still none) = omega (arith, low.within still, whole is)
              waiting (has_decided code coded) =
                  absurd (let wrong : ◌≡◌ {A = Bool} true false =
                  sym (ap (λ (o : Option ℤ). is_some o) coded) ∙ undecided in cc (wrong))

  -- ---- the turn

  module _ (servable : AreServable g) (t : Stage) (made : Made (dispatches g) s t) where
    pub scene_turn : ServedTurn g server scene_serves c s t
    scene_turn = served_turn g server scene_serves c s t scene_open scene_sound (scene_fits servable) made

    -- the call is further behind it, or it rests
    pub scene_moves : (i : IsCaused g ls c k client s)
        → ServerMoves g server scene_serves c (wait_of g (request_for g i.caller.origin.invoke)) s t
    scene_moves i =
        server_moves g server scene_serves c (wait_of g (request_for g i.caller.origin.invoke)) s t
        (scene_low servable i)
        scene_turn

    -- the call is no less far behind it
    pub scene_grows : (i : IsCaused g ls c k client s)
        → WayGrows g server scene_serves c (wait_of g (request_for g i.caller.origin.invoke)) s t
    scene_grows i =
        way_grows g server scene_serves c (wait_of g (request_for g i.caller.origin.invoke)) s t
        (scene_low servable i) scene_turn
