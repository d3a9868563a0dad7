-- One turn of a dispatcher seen from one of its server's calls: what becomes of the call's record and of its job.
use Rattle.std.proofs.Common.{◌≡◌, ◌⊎◌, inl, inr, ◌<◌, ◌≤◌, ◌+◌, ◌∷◌, ◌++◌, ℕ, ℤ, Bool, true, false, List, [], length}
use Rattle.std.proofs.Common.{refl, ap, sym, subst, ◌∙◌, Option, Some, None, append_assoc}
use Rattle.std.specs.Prelude.{slice_get}
use Rattle.rx_model.specs.declared.names.CallName.{CallName}
use Rattle.rx_rules.specs.After.{is_zero, looks}
use Rattle.rx_rules.specs.CallLooks.{CallLooks}
use Rattle.rx_rules.specs.Life.{Life, is_handled, is_waiting}
use Rattle.rx_rules.specs.Life as lives
use Rattle.rx_rules.specs.Looks.{CallRecord, Looks, call_at, is_call}
use Rattle.rx_rules.specs.Received.{is_complete, unread_of}
use Rattle.rx_rules.specs.Sent.{opened}
use Rattle.rx_rules.specs.Setup.{IsServer}
use Rattle.rx_rules.specs.Slots.{room}
use Rattle.rx_history.proofs.LifeFalls.{is_begun}
use Rattle.rx_history.specs.Sides.{Node, side}
use Rattle.rx_jobs.specs.Dispatching.{left}
use Rattle.rx_jobs.specs.Handlers.{Handlers, wait_of}
use Rattle.rx_jobs.specs.Jobs.{JobState, Moving, begun, moving, waits}
use Rattle.rx_plan.specs.Stages.{Stage}
use Rattle.rx_plan.specs.Turned.{dispatches, jobs_left}
use Rattle.rx_rounds.proofs.Rounded.{Made, dispatch_to}
use Rattle.rx_closing.proofs.Server.Accepts.{AcceptsOf, IsOpenAt, accepts_it, accepts_of, accepts_others}
use Rattle.rx_closing.proofs.Server.FirstsHold.{has_first}
use Rattle.rx_closing.proofs.Server.JobSeen.{AreOthers, Stays}
use Rattle.rx_closing.proofs.Server.JobSteps.{EachSteps, accepts_then}
use Rattle.rx_closing.proofs.Server.OneJob.{JobsFit, OneJob, none_fits, one_fits}
use Rattle.rx_closing.proofs.Server.OwnBroken.{BrokenEnds, broken_step, is_told, waits_longer}
use Rattle.rx_closing.proofs.Server.OwnEvents.{At}
use Rattle.rx_closing.proofs.Server.OwnReads.{OwnEnds, goes_on, own_step, waits_more}
use Rattle.rx_closing.proofs.Server.OwnSeen.{Keeps, SeenHere, keeps_trans, others_more, others_step, seen_here}
use Rattle.rx_closing.proofs.Server.OwnSeen.{step_keeps}
use Rattle.rx_closing.proofs.Server.OwnStep.{Fits, StepEnds, finishes, reads_on, refuses, waits_first, waits_none}
use Rattle.rx_closing.proofs.Server.OwnStep.{writes_on}
use Rattle.rx_closing.proofs.Steps.{TurnsOn, turns_none}

module _ (g : Handlers) (node : Node) (serves : IsServer node.setup.kind) (c : CallName) where
  abbrev l : Stage → Looks
  l s = looks node.setup (side 0 s.history)

  -- the call as the server has it
  abbrev pub served : Stage → Option CallRecord
  served s = call_at (l s) c

  -- what has to be known of its record as the turn begins: no piece is acknowledged that isn't there, and nothing was
  -- read before a handler has it
  pub record IsSound (s : Stage) : Type 0 where
    pub known : (r : CallRecord) → served s ≡ Some r → is_begun r.life ≡ true
        → r.looks.sent.acked ≤ opened (length r.looks.sent.said)
    pub fresh : (r : CallRecord) → served s ≡ Some r → r.life ≡ lives.Waiting → r.looks.received.ended ≡ false

  -- ---- what becomes of it

  -- the call that waited or that a handler had, before the turn and behind it
  pub record Worked (s t : Stage) (r f : CallRecord) : Type 0 where
    pub was : served s ≡ Some r
    pub took : (r.life ≡ lives.Waiting) ⊎ (r.life ≡ lives.Accepted)
    pub is : served t ≡ Some f
    pub turns : TurnsOn (l s).now r.looks f.looks

  -- at some moment of the turn it was as it is behind it, and there was no room for more of its stream
  pub record WasFull (s : Stage) (f : CallRecord) : Type 0 where
    pub at : Stage
    pub keeps : Keeps node s at
    pub there : served at ≡ Some f
    pub full : room node.setup (l at) f.looks ≡ 0

  -- how it rests behind the turn: it read all that stands without a gap, and more is to come; it came to wait behind
  -- the end of the request, or waits a step more; it wrote all that there was room for; or its handler finished
  pub data Rests (s t : Stage) (r f : CallRecord) : Type 0 where
    rests_reading : f.life ≡ lives.Accepted → (one : OneJob c t.jobs) → one.job.ended ≡ false → one.job.code ≡ None
        → f.looks.received.ended ≡ false → unread_of f.looks.received ≡ [] → is_complete f.looks.received ≡ false
        → Rests s t r f
    rests_waiting : f.life ≡ lives.Accepted → (one : OneJob c t.jobs) → one.job.ended ≡ true → one.job.code ≡ None
        → one.job.steps < wait_of g one.job.request → f.looks.received.ended ≡ true → r.looks.received.ended ≡ false
        → Rests s t r f
    rests_longer : f.life ≡ lives.Accepted → r.life ≡ lives.Accepted → f.looks ≡ r.looks → (before : OneJob c s.jobs)
        → (one : OneJob c t.jobs) → one.job ≡ record before.job { steps = before.job.steps + 1 }
        → waits before.job ≡ true → before.job.steps + 1 < wait_of g before.job.request → r.looks.received.ended ≡ true
        → Rests s t r f
    rests_writing : (code : ℤ) → f.life ≡ lives.Accepted → (one : OneJob c t.jobs) → one.job.ended ≡ true
        → one.job.code ≡ Some code → is_zero code ≡ true → 0 < length one.job.reply → f.looks.received.ended ≡ true
        → WasFull s f → Rests s t r f
    rests_finished : f.life ≡ lives.Finished → f.looks.sent.shut ≡ true → f.looks.received.ended ≡ true
        → AreOthers c t.jobs → Rests s t r f
    rests_coded : (code : ℤ) → f.life ≡ lives.Over (Some code) → AreOthers c t.jobs → Rests s t r f

  -- the turn: no handler has the call, and it stays, unless it waits with its packet 1 kept; its handler goes on; or
  -- the call broke, and its handler is told so or waits a step more
  pub data ServedTurn (s t : Stage) : Type 0 where
    served_stays : served t ≡ served s → is_call (λ r. is_handled r.life) (served s) ≡ false
        → (is_call (λ r. is_waiting r.life) (served s) ≡ true → has_first (served s) ≡ false) → AreOthers c t.jobs
        → ServedTurn s t
    served_works : (r f : CallRecord) → Worked s t r f → Rests s t r f → ServedTurn s t
    served_quits : (r f : CallRecord) (code : ℤ) → served s ≡ Some r → r.life ≡ lives.Broken code → served t ≡ Some f
        → f.life ≡ lives.Over (Some code) → TurnsOn (l s).now r.looks f.looks → AreOthers c t.jobs → ServedTurn s t
    served_lingers : (r : CallRecord) (code : ℤ) → served s ≡ Some r → r.life ≡ lives.Broken code → served t ≡ served s
        → (before : OneJob c s.jobs) → (one : OneJob c t.jobs)
        → one.job ≡ record before.job { steps = before.job.steps + 1 } → waits before.job ≡ true
        → before.job.steps + 1 < wait_of g before.job.request → r.looks.received.ended ≡ true → ServedTurn s t

  -- ---- the turn

  handled_is : (x : Life) → is_handled x ≡ true → (x ≡ lives.Accepted) ⊎ ((code : ℤ) × (x ≡ lives.Broken code))
  handled_is lives.Accepted is = inl refl
  handled_is (lives.Broken code) is = inr (code, refl)
  handled_is _ is = absurd cc

  module _ (s t : Stage) (begins : IsOpenAt g node serves c s) (sound : IsSound s) where
    abbrev now : ℕ
    now = (l s).now

    abbrev Here : Stage → Life → CallLooks → Type 0
    Here u x k = At node serves c now u x k

    -- the turn behind what it accepts
    record Behind (u v : Stage) (stay : List JobState) : Type 0 where
      keeps : Keeps node s u
      history : t.history ≡ v.history
      jobs : t.jobs ≡ stay

    served_end : (u v : Stage) (stay : List JobState) → Behind u v stay → served t ≡ served v
    served_end u v stay b = ap (λ h. call_at (looks node.setup (side 0 h)) c) b.history

    -- a call where its own step begins
    begins_at : (u : Stage) (x : Life) (k : CallLooks) (b : Stage) → Here u x k → Stays node.setup c u b
        → Keeps node u b
        → Here b x k
    begins_at u x k b at stays keeps =
        record {
          first = ap (λ ns. slice_get ns 0) keeps.nodes ∙ at.first;
          legal = keeps.legal at.first at.legal;
          moment = keeps.moment ∙ at.moment;
          call = at.call;
          there = stays ∙ at.there;
          living = at.living;
          passed = at.passed;
        }

    -- the step of a call that waited or that a handler had, among those of others
    module _ (r : CallRecord) (u v : Stage) (stay front : List JobState) (j : JobState) (back : List JobState)
        (was : served s ≡ Some r) (took : (r.life ≡ lives.Waiting) ⊎ (r.life ≡ lives.Accepted))
        (at : Here u lives.Accepted r.looks) (fits : Fits g node serves c now r.looks j) (b : Behind u v stay)
        (first : AreOthers c front) (second : AreOthers c back) where
      -- seen where it has its step
      record Step (x : SeenHere g node c j u v stay) : Type 0 where
        keeps : Keeps node s x.ends
        here : Here x.begins lives.Accepted r.looks
        jobs : t.jobs ≡ x.front ++ (left x.behind ++ x.back)

      step_of : (x : SeenHere g node c j u v stay) → Step x
      step_of x =
          record {
            keeps =
                keeps_trans node s x.begins x.ends (keeps_trans node s u x.begins b.keeps x.keeps)
                (step_keeps g node (moving g j) x.behind x.begins x.ends x.step);
            here = begins_at u lives.Accepted r.looks x.begins at x.before x.keeps;
            jobs = b.jobs ∙ x.are;
          }

      one_behind : (x : SeenHere g node c j u v stay) (i : JobState) → Step x → left x.behind ≡ i ∷ [] → i.call ≡ c
          → (one : OneJob c t.jobs) × (one.job ≡ i)
      one_behind x i p stays own = (
        record {
          front = x.front;
          job = i;
          back = x.back;
          are = p.jobs ∙ ap (λ (xs : List JobState). x.front ++ (xs ++ x.back)) stays;
          own = own;
          before = x.front_others;
          behind = x.back_others;
        },
        refl,
      )

      none_behind : (x : SeenHere g node c j u v stay) → Step x → left x.behind ≡ [] → AreOthers c t.jobs
      none_behind x p goes =
          subst (AreOthers c) (sym (p.jobs ∙ ap (λ (xs : List JobState). x.front ++ (xs ++ x.back)) goes))
          (others_more c x.front x.back x.front_others x.back_others)

      behind_at : (x : SeenHere g node c j u v stay) (y : Life) (k : CallLooks) (h : Here x.ends y k)
          → served t ≡ Some h.call
      behind_at x y k h = served_end u v stay b ∙ x.later ∙ h.there

      worked : (x : SeenHere g node c j u v stay) (y : Life) (k : CallLooks) (h : Here x.ends y k)
          → TurnsOn now r.looks k → Worked s t r h.call
      worked x y k h turns =
          record {
            was = was;
            took = took;
            is = behind_at x y k h;
            turns = subst (λ (i : CallLooks). TurnsOn now r.looks i) (sym h.passed) turns;
          }

      -- where its step ended it had no room
      full_behind : (x : SeenHere g node c j u v stay) (k : CallLooks) (h : Here x.ends lives.Accepted k) → Step x
          → room node.setup (l x.ends) k ≡ 0 → WasFull s h.call
      full_behind x k h p full =
          record {
            at = x.ends;
            keeps = p.keeps;
            there = h.there;
            full = ap (λ (i : CallLooks). room node.setup (l x.ends) i) h.passed ∙ full;
          }

      -- as its step ended
      as_ended : (x : SeenHere g node c j u v stay) → Step x
          → StepEnds g node serves c now r.looks x.behind x.ends → ServedTurn s t
      as_ended x p (reads_on k i turns h is own going undecided more all incomplete) =
          let one = one_behind x i p (ap (λ (m : Moving). left m) is) own in
          served_works r h.call (worked x lives.Accepted k h turns)
          (rests_reading h.living one.0 (ap (λ (y : JobState). y.ended) one.1 ∙ going)
          (ap (λ (y : JobState). y.code) one.1 ∙ undecided)
          (ap (λ (f : CallLooks). f.received.ended) h.passed ∙ more)
          (ap (λ (f : CallLooks). unread_of f.received) h.passed ∙ all)
          (ap (λ (f : CallLooks). is_complete f.received) h.passed ∙ incomplete))
      as_ended x p (waits_first k i turns h is own ended undecided whole less since) =
          let one = one_behind x i p (ap (λ (m : Moving). left m) is) own in
          served_works r h.call (worked x lives.Accepted k h turns)
          (rests_waiting h.living one.0 (ap (λ (y : JobState). y.ended) one.1 ∙ ended)
          (ap (λ (y : JobState). y.code) one.1 ∙ undecided)
          (subst (λ (y : JobState). y.steps < wait_of g y.request) (sym one.1) less)
          (ap (λ (f : CallLooks). f.received.ended) h.passed ∙ whole) since)
      as_ended x p (writes_on k i code turns h is own ended coded zero_ whole some full) =
          let one = one_behind x i p (ap (λ (m : Moving). left m) is) own in
          served_works r h.call (worked x lives.Accepted k h turns)
          (rests_writing code h.living one.0 (ap (λ (y : JobState). y.ended) one.1 ∙ ended)
          (ap (λ (y : JobState). y.code) one.1 ∙ coded) zero_
          (subst (λ (y : JobState). 0 < length y.reply) (sym one.1) some)
          (ap (λ (f : CallLooks). f.received.ended) h.passed ∙ whole) (full_behind x k h p full))
      as_ended x p (finishes k turns h shut whole goes) =
          served_works r h.call (worked x lives.Finished k h turns)
          (rests_finished h.living (ap (λ (f : CallLooks). f.sent.shut) h.passed ∙ shut)
          (ap (λ (f : CallLooks). f.received.ended) h.passed ∙ whole) (none_behind x p goes))
      as_ended x p (refuses k code turns h goes) =
          served_works r h.call (worked x (lives.Over (Some code)) k h turns)
          (rests_coded code h.living (none_behind x p goes))

      works_on : (waits j ≡ true → (f : CallRecord) → f.life ≡ lives.Accepted → f.looks ≡ r.looks
          → (one : OneJob c t.jobs) → one.job ≡ record j { steps = j.steps + 1 } → j.steps + 1 < wait_of g j.request
          → Rests s t r f)
          → r.looks.sent.acked ≤ opened (length r.looks.sent.said) → EachSteps g (front ++ j ∷ back) u stay v
          → ServedTurn s t
      works_on longer known steps = of (seen_here g node c front j back u v stay first second steps)
        where
          of : SeenHere g node c j u v stay → ServedTurn s t
          of x = by (own_step g node serves c now x.behind x.ends j r.looks x.begins p.here fits known x.step)
            where
              p : Step x
              p = step_of x

              by : OwnEnds g node serves c now x.behind x.ends j r.looks x.begins → ServedTurn s t
              by (waits_more is still_there waits_ less) =
                  let h : Here x.ends lives.Accepted r.looks =
                  subst (λ (w : Stage). Here w lives.Accepted r.looks) (sym still_there) p.here in
                  let one =
                  one_behind x (record j { steps = j.steps + 1 }) p (ap (λ (m : Moving). left m) is) fits.own in
                  served_works r h.call (worked x lives.Accepted r.looks h (turns_none r.looks))
                  (longer waits_ h.call h.living h.passed one.0 one.1 less)
              by (goes_on ends) = as_ended x p ends

    -- that of a call that broke
    module _ (r : CallRecord) (code : ℤ) (u v : Stage) (stay front : List JobState) (j : JobState)
        (back : List JobState)
        (was : served s ≡ Some r) (at : Here u (lives.Broken code) r.looks) (b : Behind u v stay)
        (before : OneJob c s.jobs) (mine : before.job ≡ j) (ended : j.ended ≡ r.looks.received.ended)
        (first : AreOthers c front) (second : AreOthers c back) where
      broken_on : j.call ≡ c → r.life ≡ lives.Broken code → EachSteps g (front ++ j ∷ back) u stay v
          → Stays node.setup c s u → ServedTurn s t
      broken_on own broke steps stays_u = of (seen_here g node c front j back u v stay first second steps)
        where
          of : SeenHere g node c j u v stay → ServedTurn s t
          of x =
              by
              (broken_step g node serves c now code x.behind x.ends j r.looks x.begins own
              (begins_at u (lives.Broken code) r.looks x.begins at x.before x.keeps) x.step)
            where
              jobs : t.jobs ≡ x.front ++ (left x.behind ++ x.back)
              jobs = b.jobs ∙ x.are

              by : BrokenEnds g node serves c now code x.behind x.ends j r.looks x.begins → ServedTurn s t
              by (is_told f turns h goes) =
                  served_quits r h.call code was broke (served_end u v stay b ∙ x.later ∙ h.there) h.living
                  (subst (λ (i : CallLooks). TurnsOn now r.looks i) (sym h.passed) turns)
                  (subst (AreOthers c)
                  (sym (jobs ∙ ap (λ (xs : List JobState). x.front ++ (xs ++ x.back)) goes))
                  (others_more c x.front x.back x.front_others x.back_others))
              by (waits_longer is still_there waits_ less) =
                  served_lingers r code was broke
                  (served_end u v stay b ∙ x.later ∙ ap served still_there ∙ x.before ∙ stays_u) before
                  (record {
                    front = x.front;
                    job = record j { steps = j.steps + 1 };
                    back = x.back;
                    are =
                        jobs ∙ ap (λ (xs : List JobState). x.front ++ (xs ++ x.back)) (ap (λ (m : Moving). left m) is);
                    own = own;
                    before = x.front_others;
                    behind = x.back_others;
                  }) (ap (λ (y : JobState). record y { steps = y.steps + 1 }) (sym mine))
                  (subst (λ (y : JobState). waits y ≡ true) (sym mine) waits_)
                  (subst (λ (y : JobState). y.steps + 1 < wait_of g y.request) (sym mine) less)
                  (sym ended ∙ (waits_none j waits_).0)

    -- a call that nobody has, where the dispatcher accepts none but others
    stays_so : (all : List JobState) (u v : Stage) (stay : List JobState) → Behind u v stay → Stays node.setup c s u
        → is_call (λ r. is_handled r.life) (served s) ≡ false
        → (is_call (λ r. is_waiting r.life) (served s) ≡ true → has_first (served s) ≡ false)
        → AreOthers c all → EachSteps g all u stay v → ServedTurn s t
    stays_so all u v stay b stays idle first others steps =
        let rest = others_step g node c all u v stay others steps in
        served_stays (served_end u v stay b ∙ rest.stays ∙ stays) idle first
        (subst (AreOthers c) (sym b.jobs) rest.others)

    -- behind what it accepts
    by_case : (all : List JobState) (u v : Stage) (stay : List JobState) → t.history ≡ v.history → t.jobs ≡ stay
        → AcceptsOf g node serves c s.jobs s all u → EachSteps g all u stay v → JobsFit c (served s) s.jobs
        → ServedTurn s t
    by_case all u v stay history jobs (accepts_others more same new stays keeps first) steps (none_fits others idle) =
        stays_so (s.jobs ++ more) u v stay (record { keeps = keeps; history = history; jobs = jobs }) stays idle first
        (others_more c s.jobs more others new)
        (subst (λ (js : List JobState). EachSteps g js u stay v) same steps)
    by_case all u v stay history jobs (accepts_others more same new stays keeps first) steps
        (one_fits r was handled one ended zero_) =
        by (handled_is r.life handled)
      where
        b : Behind u v stay
        b = record { keeps = keeps; history = history; jobs = jobs }

        back : List JobState
        back = one.back ++ more

        back_others : AreOthers c back
        back_others = others_more c one.back more one.behind new

        on : EachSteps g (one.front ++ one.job ∷ back) u stay v
        on =
            subst (λ (js : List JobState). EachSteps g js u stay v)
            (same ∙ ap (λ (js : List JobState). js ++ more) one.are ∙ append_assoc one.front (one.job ∷ one.back) more)
            steps

        at : (x : Life) → r.life ≡ x → Here u x r.looks
        at x life =
            record {
              first = ap (λ ns. slice_get ns 0) keeps.nodes ∙ begins.first;
              legal = keeps.legal begins.first begins.legal;
              moment = keeps.moment;
              call = r;
              there = stays ∙ was;
              living = life;
              passed = refl;
            }

        by : (r.life ≡ lives.Accepted) ⊎ ((code : ℤ) × (r.life ≡ lives.Broken code)) → ServedTurn s t
        by (inl life) =
            works_on r u v stay one.front one.job back was (inr life) (at lives.Accepted life) (record {
              own = one.own;
              ended = ended;
              zero_ = zero_;
            }) b one.before back_others
            (λ waiting f living same_looks behind is less. rests_longer living life same_looks one behind
            is waiting less (sym ended ∙ (waits_none one.job waiting).0))
            (sound.known r was (ap is_begun life)) on
        by (inr broken) =
            broken_on r broken.0 u v stay one.front one.job back was
            (at (lives.Broken broken.0) broken.1) b one refl ended one.before back_others one.own broken.1 on stays
    by_case all u v stay history jobs (accepts_it k waiting front back same before behind at keeps) steps
        (none_fits others idle) =
        let r : CallRecord = waiting.call in
        let at_r : Here u lives.Accepted r.looks =
        subst (λ (i : CallLooks). Here u lives.Accepted i) (sym waiting.passed) at in
        works_on r u v stay (s.jobs ++ front) (begun c) back waiting.there (inl waiting.living) at_r (record {
          own = refl;
          ended = sym (sound.fresh r waiting.there waiting.living);
          zero_ = λ code none zero_is. absurd cc;
        }) (record { keeps = keeps; history = history; jobs = jobs }) (others_more c s.jobs front others before) behind
        (λ wrong f living same_looks one is less. absurd cc)
        (sound.known r waiting.there (ap is_begun waiting.living))
        (subst (λ (js : List JobState). EachSteps g js u stay v)
        (same ∙ sym (append_assoc s.jobs front (begun c ∷ back))) steps)
    by_case all u v stay history jobs (accepts_it k waiting front back same before behind at keeps) steps
        (one_fits r was handled one ended zero_) =
        let both : r ≡ waiting.call = (let found : ◌≡◌ {A = Option CallRecord} (Some r) (Some waiting.call) =
        sym was ∙ waiting.there in cc (found)) in
        let wrong : ◌≡◌ {A = Bool} true false =
        sym handled ∙ ap (λ (x : CallRecord). is_handled x.life) both ∙ ap is_handled waiting.living in
        absurd (cc (wrong))

    -- the turn
    pub served_turn : JobsFit c (served s) s.jobs → Made (dispatches g) s t → ServedTurn s t
    served_turn fits made =
        let d = dispatch_to g s t made in
        let a = accepts_then g s.jobs s d.view d.stage d.serves in
        by_case a.all a.stage d.stage a.then_.stay (ap (λ (w : Stage). w.history) d.then_)
        (ap (λ (w : Stage). w.jobs) d.then_ ∙ ap jobs_left a.then_.is)
        (accepts_of g node serves c s.jobs s a.all a.stage begins a.accepting) a.then_.steps fits
