-- A turn of the dispatcher brings a call of its server further, or the call rests: no handler has it; its job reads,
-- and more is to come; or its job writes, and there was no room.
use Rattle.std.proofs.Common.{◌≡◌, ◌⊎◌, inl, inr, ◌<◌, ◌≤◌, ◌+◌, ◌&&◌, not, if◌then◌else◌, is_some, ℕ, ℤ, suc, Bool}
use Rattle.std.proofs.Common.{true, false, List, [], refl, ap, sym, subst, ◌∙◌, Option, Some, None, arith}
use Rattle.std.proofs.lemmas.Bool.{cases_lt}
use Rattle.rx_model.specs.declared.names.CallName.{CallName}
use Rattle.rx_rules.specs.After.{looks}
use Rattle.rx_rules.specs.Life.{is_handled, is_waiting}
use Rattle.rx_rules.specs.Life as lives
use Rattle.rx_rules.specs.Looks.{CallRecord, Looks, is_call}
use Rattle.rx_rules.specs.Received.{is_complete, unread_of}
use Rattle.rx_rules.specs.Setup.{IsServer}
use Rattle.rx_history.specs.Sides.{Node, side}
use Rattle.rx_jobs.specs.Handlers.{Handlers}
use Rattle.rx_jobs.specs.Jobs.{JobState, waits}
use Rattle.rx_plan.specs.Stages.{Stage}
use Rattle.rx_closing.proofs.Ends.TurnLaws.{turn_far, turn_rises, turn_stands}
use Rattle.rx_closing.proofs.Far.Waited.{IsJobLow, job_found, job_of, job_way, waited, waited_low, waited_more}
use Rattle.rx_closing.proofs.Frame.{far, far_of, rank_of}
use Rattle.rx_closing.proofs.Server.FirstsHold.{has_first}
use Rattle.rx_closing.proofs.Server.OneJob.{OneJob}
use Rattle.rx_closing.proofs.Server.OwnStep.{waits_none}
use Rattle.rx_closing.proofs.Server.ServerTurn.{Rests, ServedTurn, WasFull, Worked, rests_coded, rests_finished}
use Rattle.rx_closing.proofs.Server.ServerTurn.{rests_longer, rests_reading, rests_waiting, rests_writing, served}
use Rattle.rx_closing.proofs.Server.ServerTurn.{served_lingers, served_quits, served_stays, served_works}
use Rattle.rx_closing.proofs.Steps.{TurnsOn}

-- ---- how far a record is

-- with an end read or a later life it is further
far_more : (now : ℕ) (r f : CallRecord) → TurnsOn now r.looks f.looks → rank_of r.life ≤ rank_of f.life
    → ((f.looks.received.ended ≡ r.looks.received.ended) × (rank_of f.life ≡ rank_of r.life) → ⊥) → far r < far f
far_more now r f turns rank changes =
    elim (cases_lt (far r) (far f)) as (λ x. far r < far f) [
      | inl less ↦ less
      | inr more ↦ (let stands = turn_stands now r f turns rank more in absurd (changes (stands.ended, stands.rank)))
    ]

module _ (g : Handlers) (node : Node) (serves : IsServer node.setup.kind) (c : CallName) (most : ℕ) where
  abbrev l : Stage → Looks
  l s = looks node.setup (side 0 s.history)

  abbrev here : Stage → Option CallRecord
  here s = served g node serves c s

  -- how far the call is at its server, with the steps that its job waited
  abbrev pub server_way : Stage → ℕ
  server_way s = far_of (here s) + waited most c (here s) s.jobs

  -- what a turn makes of that
  pub data ServerMoves (s t : Stage) : Type 0 where
    server_goes_on : server_way s < server_way t → ServerMoves s t
    server_idle : here t ≡ here s → is_call (λ r. is_handled r.life) (here s) ≡ false
        → (is_call (λ r. is_waiting r.life) (here s) ≡ true → has_first (here s) ≡ false) → ServerMoves s t
    server_reads : (r f : CallRecord) → here s ≡ Some r → here t ≡ Some f → r.life ≡ lives.Accepted
        → f.life ≡ lives.Accepted → TurnsOn (l s).now r.looks f.looks → f.looks.received.ended ≡ false
        → unread_of f.looks.received ≡ [] → is_complete f.looks.received ≡ false → ServerMoves s t
    server_full : (r f : CallRecord) → here s ≡ Some r → here t ≡ Some f → r.life ≡ lives.Accepted
        → f.life ≡ lives.Accepted → TurnsOn (l s).now r.looks f.looks → f.looks.received.ended ≡ true
        → WasFull g node serves c s f → waited most c (Some f) t.jobs ≡ suc most → ServerMoves s t

  -- ---- the steps that were waited

  -- the job of a call is found
  found : (js : List JobState) (one : OneJob c js) → job_of c js ≡ Some one.job
  found js one = ap (job_of c) one.are ∙ job_found c one.front one.job one.back one.before one.own

  unended_none : (r : CallRecord) (js : List JobState) → r.looks.received.ended ≡ false → waited most c (Some r) js ≡ 0
  unended_none r js none =
      ap (λ (b : Bool). if b && not (is_waiting r.life)
      then (if is_handled r.life then job_way most (job_of c js) else suc most) else 0) none

  waiting_none : (r : CallRecord) (js : List JobState) → r.life ≡ lives.Waiting → waited most c (Some r) js ≡ 0
  waiting_none r js waits =
      ap (λ (x : lives.Life). if r.looks.received.ended && not (is_waiting x)
      then (if is_handled x then job_way most (job_of c js) else suc most) else 0) waits ∙ by r.looks.received.ended
    where
      by : (b : Bool) → (if b && false then (if false then job_way most (job_of c js) else suc most) else 0) ≡ 0
      by true = refl
      by false = refl

  -- of a call that read its request to the end and that nobody has any more
  over_all : (f : CallRecord) (js : List JobState) → f.looks.received.ended ≡ true → is_waiting f.life ≡ false
      → is_handled f.life ≡ false → waited most c (Some f) js ≡ suc most
  over_all f js ended waits handled =
      ap (λ (b : Bool). if b && not (is_waiting f.life)
      then (if is_handled f.life then job_way most (job_of c js) else suc most) else 0) ended
      ∙ ap (λ (b : Bool). if not b then (if is_handled f.life then job_way most (job_of c js) else suc
      most) else 0) waits
      ∙ ap (λ (b : Bool). if b then job_way most (job_of c js) else suc most) handled

  -- of one whose job decided
  decided_all : (f : CallRecord) (js : List JobState) (one : OneJob c js) (code : ℤ) → f.looks.received.ended ≡ true
      → f.life ≡ lives.Accepted → one.job.code ≡ Some code → waited most c (Some f) js ≡ suc most
  decided_all f js one code ended life coded =
      ap (λ (b : Bool). if b && not (is_waiting f.life)
      then (if is_handled f.life then job_way most (job_of c js) else suc most) else 0) ended
      ∙ ap (λ (x : lives.Life). if not (is_waiting x)
      then (if is_handled x then job_way most (job_of c js) else suc most) else 0) life
      ∙ ap (job_way most) (found js one)
      ∙ ap (λ (o : Option ℤ). if is_some o then suc most else suc one.job.steps) coded

  -- of one that no handler has, whatever jobs there are
  unhandled_same : (o : Option CallRecord) (js ks : List JobState) → is_call (λ r. is_handled r.life) o ≡ false
      → waited most c o js ≡ waited most c o ks
  unhandled_same None js ks idle = refl
  unhandled_same (Some r) js ks idle = same js ∙ sym (same ks)
    where
      same : (xs : List JobState)
          → waited most c (Some r) xs ≡ (if r.looks.received.ended && not (is_waiting r.life) then suc most else 0)
      same xs =
          ap (λ (b : Bool). if r.looks.received.ended && not (is_waiting r.life)
          then (if b then job_way most (job_of c xs) else suc most) else 0) idle

  -- ---- it only grows

  -- by both numbers
  pub record WayGrows (s t : Stage) : Type 0 where
    pub far : far_of (here s) ≤ far_of (here t)
    pub steps : waited most c (here s) s.jobs ≤ waited most c (here t) t.jobs

  grown_by : (s t : Stage) (r f : CallRecord) → here s ≡ Some r → here t ≡ Some f → far r ≤ far f
      → waited most c (Some r) s.jobs ≤ waited most c (Some f) t.jobs → WayGrows s t
  grown_by s t r f was is more steps =
      record {
        far =
            subst (λ (o : Option CallRecord). far_of o ≤ far_of (here t)) (sym was)
            (subst (λ (o : Option CallRecord). far_of (Some r) ≤ far_of o) (sym is) (omega (arith, more)));
        steps =
            subst (λ (o : Option CallRecord). waited most c o s.jobs ≤ waited most c (here t) t.jobs) (sym was)
            (subst (λ (o : Option CallRecord). waited most c (Some r) s.jobs ≤ waited most c o t.jobs) (sym is) steps);
      }

  module _ (s t : Stage) (low : IsJobLow most (job_of c s.jobs)) where
    -- ---- a call that a handler has or takes

    module _ (r f : CallRecord) (w : Worked g node serves c s t r f) (rests : Rests g node serves c s t r f) where
      -- its life goes on
      abbrev RanksOn : Type 0
      RanksOn = (1 ≤ rank_of f.life) × (rank_of r.life ≤ 1)

      ranks_on : RanksOn
      ranks_on = (by rests, first w.took)
        where
          first : (r.life ≡ lives.Waiting) ⊎ (r.life ≡ lives.Accepted) → rank_of r.life ≤ 1
          first (inl is) = subst (λ (x : lives.Life). rank_of x ≤ 1) (sym is) (omega arith)
          first (inr is) = subst (λ (x : lives.Life). rank_of x ≤ 1) (sym is) (omega arith)

          told : (x : lives.Life) → f.life ≡ x → 1 ≤ rank_of x → 1 ≤ rank_of f.life
          told x is more = subst (λ (y : lives.Life). 1 ≤ rank_of y) (sym is) more

          by : Rests g node serves c s t r f → 1 ≤ rank_of f.life
          by (rests_reading life one going undecided more all incomplete) = told lives.Accepted life (omega arith)
          by (rests_waiting life one ended undecided less whole since) = told lives.Accepted life (omega arith)
          by (rests_longer life before_ same before one is waits less whole) = told lives.Accepted life (omega arith)
          by (rests_writing code life one ended coded zero_ some whole full) = told lives.Accepted life (omega arith)
          by (rests_finished life shut whole others) = told lives.Finished life (omega arith)
          by (rests_coded code life others) = told (lives.Over (Some code)) life (omega arith)

      rank_low : rank_of r.life ≤ rank_of f.life
      rank_low = omega (arith, ranks_on.0, ranks_on.1)

      far_grows : far r ≤ far f
      far_grows = turn_far (l s).now r f w.turns rank_low

      -- a step more was waited
      step_more : (before : OneJob c s.jobs) (one : OneJob c t.jobs)
          → one.job ≡ record before.job { steps = before.job.steps + 1 } → waits before.job ≡ true
          → r.looks.received.ended ≡ true → is_handled r.life ≡ true → f.looks.received.ended ≡ true
          → is_handled f.life ≡ true → waited most c (Some r) s.jobs < waited most c (Some f) t.jobs
      step_more before one is waits_ ended handled whole held =
          waited_more most c r f s.jobs t.jobs before.job one.job (record { ended = ended; handled = handled })
          (record { ended = whole; handled = held }) (found s.jobs before) (found t.jobs one)
          (waits_none before.job waits_).1
          (ap (λ (j : JobState). j.code) is ∙ (waits_none before.job waits_).1)
          (subst (λ (j : JobState). before.job.steps < j.steps) (sym is) (omega arith))

      most_steps : waited most c (Some r) s.jobs ≤ suc most
      most_steps = waited_low most c (Some r) s.jobs low

      steps_grow : waited most c (Some r) s.jobs ≤ waited most c (Some f) t.jobs
      steps_grow = by w.took r.looks.received.ended refl
        where
          read_on : r.looks.received.ended ≡ true → f.looks.received.ended ≡ true
          read_on ended = (turn_rises (l s).now r.looks f.looks w.turns).ended ended

          both_ways : (b : Bool) → b ≡ true → b ≡ false → ⊥
          both_ways b yes_ no_ = (let wrong : ◌≡◌ {A = Bool} true false = sym yes_ ∙ no_ in cc (wrong))

          of : r.looks.received.ended ≡ true → Rests g node serves c s t r f
              → waited most c (Some r) s.jobs ≤ waited most c (Some f) t.jobs
          of ended (rests_reading life one going undecided more all incomplete) =
              absurd (both_ways f.looks.received.ended (read_on ended) more)
          of ended (rests_waiting life one whole undecided less end since) =
              absurd (both_ways r.looks.received.ended ended since)
          of ended (rests_longer life before_ same before one is waits_ less whole) =
              omega (
                arith,
                step_more before one is waits_ whole (ap is_handled before_) (read_on ended) (ap is_handled life),
              )
          of ended (rests_writing code life one end coded zero_ some whole full) =
              omega (arith, most_steps, decided_all f t.jobs one code whole life coded)
          of ended (rests_finished life shut whole others) =
              omega (arith, most_steps, over_all f t.jobs whole (ap is_waiting life) (ap is_handled life))
          of ended (rests_coded code life others) =
              omega (arith, most_steps, over_all f t.jobs (read_on ended) (ap is_waiting life) (ap is_handled life))

          by : (r.life ≡ lives.Waiting) ⊎ (r.life ≡ lives.Accepted) → (b : Bool) → r.looks.received.ended ≡ b
              → waited most c (Some r) s.jobs ≤ waited most c (Some f) t.jobs
          by (inl waits) b is = omega (arith, waiting_none r s.jobs waits)
          by (inr life) false is = omega (arith, unended_none r s.jobs is)
          by (inr life) true is = of is rests

      work_grows : WayGrows s t
      work_grows = grown_by s t r f w.was w.is far_grows steps_grow

      -- with more of one of the numbers it is further
      further : far r < far f → ServerMoves s t
      further more =
          let both : far_of (here s) < far_of (here t) =
          subst (λ (o : Option CallRecord). far_of o < far_of (here t)) (sym w.was)
          (subst (λ (o : Option CallRecord). far_of (Some r) < far_of o) (sym w.is) (omega (arith, more))) in
          server_goes_on (omega (arith, both, work_grows.steps))

      longer : waited most c (Some r) s.jobs < waited most c (Some f) t.jobs → ServerMoves s t
      longer more =
          let both : waited most c (here s) s.jobs < waited most c (here t) t.jobs =
          subst (λ (o : Option CallRecord). waited most c o s.jobs < waited most c (here t) t.jobs) (sym w.was)
          (subst (λ (o : Option CallRecord). waited most c (Some r) s.jobs < waited most c o t.jobs) (sym w.is) more) in
          server_goes_on (omega (arith, both, work_grows.far))

      rank_more : rank_of r.life < rank_of f.life → ServerMoves s t
      rank_more more =
          further (far_more (l s).now r f w.turns rank_low
          (λ same. (let is = same.1 in absurd (omega (arith, more, is)))))

      work_moves : ServerMoves s t
      work_moves = by w.took rests
        where
          by : (r.life ≡ lives.Waiting) ⊎ (r.life ≡ lives.Accepted) → Rests g node serves c s t r f → ServerMoves s t
          by (inl waits) x =
              let none : rank_of r.life ≡ 0 = ap rank_of waits in
              rank_more (omega (arith, none, ranks_on.0))
          by (inr life) (rests_reading now_ one going undecided more all incomplete) =
              server_reads r f w.was w.is life now_ w.turns more all incomplete
          by (inr life) (rests_waiting now_ one ended undecided less whole since) =
              further (far_more (l s).now r f w.turns rank_low (λ same. (
              let wrong : ◌≡◌ {A = Bool} true false = sym whole ∙ same.0 ∙ since in cc (wrong))))
          by (inr life) (rests_longer now_ before_ same before one is waits_ less whole) =
              longer (step_more before one is waits_ whole (ap is_handled before_)
              (ap (λ k. k.received.ended) same ∙ whole) (ap is_handled now_))
          by (inr life) (rests_writing code now_ one ended coded zero_ some whole full) =
              server_full r f w.was w.is life now_ w.turns whole full (decided_all f t.jobs one code whole now_ coded)
          by (inr life) (rests_finished now_ shut whole others) =
              let first : rank_of r.life ≡ 1 = ap rank_of life in
              let second : rank_of f.life ≡ 2 = ap rank_of now_ in
              rank_more (omega (arith, first, second))
          by (inr life) (rests_coded code now_ others) =
              let first : rank_of r.life ≡ 1 = ap rank_of life in
              let second : rank_of f.life ≡ 5 = ap rank_of now_ in
              rank_more (omega (arith, first, second))

    -- ---- a call that broke

    module _ (r f : CallRecord) (code : ℤ) (was : here s ≡ Some r) (broke : r.life ≡ lives.Broken code)
        (is : here t ≡ Some f) (over : f.life ≡ lives.Over (Some code))
        (turns : TurnsOn (l s).now r.looks f.looks) where
      quit_rank : rank_of r.life < rank_of f.life
      quit_rank =
          let first : rank_of r.life ≡ 3 = ap rank_of broke in
          let second : rank_of f.life ≡ 5 = ap rank_of over in
          omega (arith, first, second)

      quit_steps : waited most c (Some r) s.jobs ≤ waited most c (Some f) t.jobs
      quit_steps = by r.looks.received.ended refl
        where
          by : (b : Bool) → r.looks.received.ended ≡ b → waited most c (Some r) s.jobs ≤ waited most c (Some f) t.jobs
          by false none = omega (arith, unended_none r s.jobs none)
          by true ended =
              omega (
                arith,
                waited_low most c (Some r) s.jobs low,
                over_all f t.jobs ((turn_rises (l s).now r.looks f.looks turns).ended ended) (ap is_waiting over)
                    (ap is_handled over),
              )

      quit_far : far r < far f
      quit_far =
          far_more (l s).now r f turns (omega (arith, quit_rank))
          (λ same. (let none = same.1 in absurd (omega (arith, quit_rank, none))))

      quit_grows : WayGrows s t
      quit_grows = grown_by s t r f was is (omega (arith, quit_far)) quit_steps

      quit_moves : ServerMoves s t
      quit_moves =
          let both : far_of (here s) < far_of (here t) =
          subst (λ (o : Option CallRecord). far_of o < far_of (here t)) (sym was)
          (subst (λ (o : Option CallRecord). far_of (Some r) < far_of o) (sym is) (omega (arith, quit_far))) in
          server_goes_on (omega (arith, both, quit_grows.steps))

    module _ (r : CallRecord) (code : ℤ) (was : here s ≡ Some r) (broke : r.life ≡ lives.Broken code)
        (same : here t ≡ here s) (before : OneJob c s.jobs) (one : OneJob c t.jobs)
        (is : one.job ≡ record before.job { steps = before.job.steps + 1 }) (waits_ : waits before.job ≡ true)
        (ended : r.looks.received.ended ≡ true) where
      linger_more : waited most c (here s) s.jobs < waited most c (here t) t.jobs
      linger_more =
          subst (λ (o : Option CallRecord). waited most c (here s) s.jobs < waited most c o t.jobs) (sym same)
          (subst (λ (o : Option CallRecord). waited most c o s.jobs < waited most c o t.jobs) (sym was)
          (waited_more most c r r s.jobs t.jobs before.job one.job
          (record { ended = ended; handled = ap is_handled broke })
          (record { ended = ended; handled = ap is_handled broke })
          (found s.jobs before) (found t.jobs one) (waits_none before.job waits_).1
          (ap (λ (j : JobState). j.code) is ∙ (waits_none before.job waits_).1)
          (subst (λ (j : JobState). before.job.steps < j.steps) (sym is) (omega arith))))

      linger_far : far_of (here s) ≤ far_of (here t)
      linger_far = subst (λ (o : Option CallRecord). far_of (here s) ≤ far_of o) (sym same) (omega arith)

    -- ---- any turn

    -- the turn leaves the call no less far, by both numbers
    pub way_grows : ServedTurn g node serves c s t → WayGrows s t
    way_grows (served_works r f w rests) = work_grows r f w rests
    way_grows (served_quits r f code was broke is over turns others) = quit_grows r f code was broke is over turns
    way_grows (served_lingers r code was broke same before one is waits_ less ended) =
        record {
          far = linger_far r code was broke same before one is waits_ ended;
          steps = omega (arith, linger_more r code was broke same before one is waits_ ended);
        }
    way_grows (served_stays same idle first others) =
        record {
          far = subst (λ (o : Option CallRecord). far_of (here s) ≤ far_of o) (sym same) (omega arith);
          steps =
              subst (λ (o : Option CallRecord). waited most c (here s) s.jobs ≤ waited most c o t.jobs) (sym same)
              (omega (arith, unhandled_same (here s) s.jobs t.jobs idle));
        }

    -- the turn brings the call further, or it rests
    pub server_moves : ServedTurn g node serves c s t → ServerMoves s t
    server_moves (served_works r f w rests) = work_moves r f w rests
    server_moves (served_quits r f code was broke is over turns others) = quit_moves r f code was broke is over turns
    server_moves (served_lingers r code was broke same before one is waits_ less ended) =
        server_goes_on
        (omega (
          arith,
          linger_far r code was broke same before one is waits_ ended,
          linger_more r code was broke same before one is waits_ ended,
        ))
    server_moves (served_stays same idle first others) = server_idle same idle first
