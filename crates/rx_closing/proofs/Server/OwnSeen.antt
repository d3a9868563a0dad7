-- A turn of a dispatcher seen from one of its calls: what it accepts first, the step of the call's own job, and the
-- steps of the others, which leave the call and the moment of its server.
use Rattle.std.proofs.Common.{◌≡◌, ◌∷◌, ◌++◌, cond, Bool, true, false, List, [], refl, ap, sym, subst, ◌∙◌, Option}
use Rattle.std.proofs.Common.{Some, None, option_map, Result, Ok, Err, append_assoc}
use Rattle.std.specs.Prelude.{IsSomeAnd, slice_get}
use Rattle.rx_model.specs.declared.answers.ReadGot.TheVariants as readers
use Rattle.rx_model.specs.declared.answers.ServeRefused.{ServeRefused}
use Rattle.rx_model.specs.declared.answers.ServeRefused.TheVariants as refusals
use Rattle.rx_model.specs.declared.event.Event.{Event}
use Rattle.rx_model.specs.declared.event.Event.TheVariants as events
use Rattle.rx_model.specs.declared.names.CallName.{CallName}
use Rattle.rx_model.specs.Names.{channel_of, same_name}
use Rattle.rx_rules.specs.After.{acknowledged, after, finish_done, finished, is_end, is_zero, looks, owing_abort}
use Rattle.rx_rules.specs.CallLooks.{CallLooks, after_read, after_shut, after_write}
use Rattle.rx_rules.specs.Life.{Life, after_accept, after_end, after_finish, after_gone, is_live}
use Rattle.rx_rules.specs.Looks.{CallRecord, Looks, call_at, is_call, on_call, on_channel, on_life, on_looks}
use Rattle.rx_rules.specs.Rules.{Allowed, Legal}
use Rattle.rx_rules.specs.Setup.{Setup}
use Rattle.rx_rules.proofs.CallsLaws.{KeepsNames}
use Rattle.rx_history.proofs.Calls.{call-changed}
use Rattle.rx_history.proofs.LifeFalls.{Falls, accept_falls, end_falls, finish_falls, gone_falls}
use Rattle.rx_history.specs.Sides.{Node, side}
use Rattle.rx_jobs.specs.Dispatching.{kept, left}
use Rattle.rx_jobs.specs.Handlers.{Handlers}
use Rattle.rx_jobs.specs.Jobs.{Ask, IsCall, JobState, Moving, accepted, is_staying, moving, serving}
use Rattle.rx_jobs.specs.Jobs as asks
use Rattle.rx_plan.specs.Stages.{IsAllowedNext, Stage, with_event}
use Rattle.rx_closing.proofs.Server.JobSeen.{AreOthers, Stays, step_leaves}
use Rattle.rx_closing.proofs.Server.JobSteps.{EachSteps, StepGoes}
use Rattle.rx_closing.proofs.Server.OwnEvents.{step_induct}
use Rattle.rx_plan.proofs.Handling.{heard-call, moving-call}

-- ---- a step keeps its call

pub step_call : (g : Handlers) (m n : Moving) (s t : Stage) → StepGoes g m s n t → n.job.call ≡ m.job.call
step_call g m n s t step =
    step_induct g n t (λ m s. n.job.call ≡ m.job.call) (λ m s none is same. ap (λ (x : Moving). x.job.call) is)
    (λ m s a e asked allowed step again. again ∙ heard-call g m.job e) m s step

-- ---- a step keeps the nodes, and the moment of its server

-- whether a call lives there
abbrev pub lives_here : Looks → CallName → Bool
lives_here l d = is_call (λ r. is_live r.life) (call_at l d)

-- the nodes are the same, a legal history of the server stays one, its moment stands, and no call comes to life there
pub record Keeps (node : Node) (s t : Stage) : Type 0 where
  pub nodes : t.nodes ≡ s.nodes
  pub lives : (d : CallName) → lives_here (looks node.setup (side 0 t.history)) d ≡ true
      → lives_here (looks node.setup (side 0 s.history)) d ≡ true
  pub legal : slice_get s.nodes 0 ≡ Some node → Legal node.setup (side 0 s.history)
      → Legal node.setup (side 0 t.history)
  pub moment : (looks node.setup (side 0 t.history)).now ≡ (looks node.setup (side 0 s.history)).now

pub keeps_refl : (node : Node) (s : Stage) → Keeps node s s
keeps_refl node s = record { nodes = refl; lives = λ d live. live; legal = λ first legal. legal; moment = refl }

pub keeps_trans : (node : Node) (s t u : Stage) → Keeps node s t → Keeps node t u → Keeps node s u
keeps_trans node s t u a b =
    record {
      nodes = b.nodes ∙ a.nodes;
      lives = λ d live. a.lives d (b.lives d live);
      legal = λ first legal. b.legal (ap (λ ns. slice_get ns 0) a.nodes ∙ first) (a.legal first legal);
      moment = b.moment ∙ a.moment;
    }

-- a call of a handler doesn't move it
asked_moment : (s : Setup) (a : Ask) (e : Event) (l : Looks) → IsCall a e → (after s e l).now ≡ l.now
asked_moment s asks.accept e l call = ap (λ (f : Event). (after s f l).now) call.1 ∙ by call.0
  where
    by : (got : Option CallName) → (after s (events.Accepted got) l).now ≡ l.now
    by None = refl
    by (Some d) = refl
asked_moment s (asks.read c) e l call = ap (λ (f : Event). (after s f l).now) call.2
asked_moment s (asks.write c offer) e l call = ap (λ (f : Event). (after s f l).now) call.1
asked_moment s (asks.finish c code) e l call = ap (λ (f : Event). (after s f l).now) call.1 ∙ by call.0
  where
    first : (b : Bool)
        → (cond b (on_looks c after_shut l) (on_channel (channel_of c) (owing_abort (Some code)) l)).now ≡ l.now
    first true = refl
    first false = refl

    by : (got : Result (Unit {0}) ServeRefused) → (finish_done c code got l).now ≡ l.now
    by (Ok done) = first (is_zero code)
    by (Err (refusals.Gone told)) = refl
    by (Err refusals.NotOpen) = refl
    by (Err refusals.Unread) = refl

-- nor does it bring a call to life
module _ (d : CallName) where
  abbrev Falls_ : Looks → Looks → Type 0
  Falls_ l m = lives_here m d ≡ true → lives_here l d ≡ true

  on_one : (c : CallName) (change : CallRecord → CallRecord) (l : Looks) → KeepsNames change
      → ((k : CallRecord) → is_live (change k).life ≡ true → is_live k.life ≡ true) → Falls_ l (on_call c change l)
  on_one c change l names falls live =
      by (same_name d c)
      (ap (λ (o : Option CallRecord). is_call (λ r. is_live r.life) o) (sym (call-changed d c change l names)) ∙ live)
    where
      of : (o : Option CallRecord) → is_call (λ r. is_live r.life) (option_map change o) ≡ true
          → is_call (λ r. is_live r.life) o ≡ true
      of None is = is
      of (Some k) is = falls k is

      by : (b : Bool) → is_call (λ r. is_live r.life) (cond b (option_map change (call_at l d)) (call_at l d)) ≡ true
          → lives_here l d ≡ true
      by true is = of (call_at l d) is
      by false is = is

  on_life_ : (c : CallName) (change : Life → Life) (l : Looks) → ((x : Life) → Falls x (change x))
      → Falls_ l (on_life c change l)
  on_life_ c change l falls =
      on_one c (λ k. record k { life = change k.life }) l (λ k. refl) (λ k live. (falls k.life).live live)

  on_looks_ : (c : CallName) (change : CallLooks → CallLooks) (l : Looks) → Falls_ l (on_looks c change l)
  on_looks_ c change l = on_one c (λ k. record k { looks = change k.looks }) l (λ k. refl) (λ k live. live)

  asked_falls : (s : Setup) (a : Ask) (e : Event) (l : Looks) → IsCall a e → Falls_ l (after s e l)
  asked_falls s asks.accept e l call =
      subst (λ (f : Event). Falls_ l (after s f l)) (sym call.1) (by call.0)
    where
      by : (got : Option CallName) → Falls_ l (after s (events.Accepted got) l)
      by None = λ live. live
      by (Some c) = on_life_ c after_accept l accept_falls
  asked_falls s (asks.read c) e l call =
      subst (λ (f : Event). Falls_ l (after s f l)) (sym call.2)
      (λ live. on_looks_ c (after_read l.now end call.1) (acknowledged end c l)
      (on_life_ c (after_end end) (on_looks c (after_read l.now end call.1) (acknowledged end c l))
      (end_falls end) live))
    where
      end : Bool
      end = is_end (readers.Server call.0)
  asked_falls s (asks.write c offer) e l call =
      subst (λ (f : Event). Falls_ l (after s f l)) (sym call.1) (on_looks_ c (after_write (accepted offer call.0)) l)
  asked_falls s (asks.finish c code) e l call =
      subst (λ (f : Event). Falls_ l (after s f l)) (sym call.1) (by call.0)
    where
      first : (b : Bool)
          → Falls_ l (cond b (on_looks c after_shut l) (on_channel (channel_of c) (owing_abort (Some code)) l))
      first true = on_looks_ c after_shut l
      first false = λ live. live

      by : (got : Result (Unit {0}) ServeRefused) → Falls_ l (finish_done c code got l)
      by (Ok done) =
          λ live. first (is_zero code)
          (on_life_ c (after_finish (is_zero code) code) (finished c code l) (finish_falls (is_zero code) code) live)
      by (Err (refusals.Gone told)) = on_life_ c after_gone l gone_falls
      by (Err refusals.NotOpen) = λ live. live
      by (Err refusals.Unread) = λ live. live

pub event_keeps : (node : Node) (s : Stage) (a : Ask) (e : Event) → IsAllowedNext s 0 (IsCall a) e
    → Keeps node s (with_event 0 e s)
event_keeps node s a e allowed =
    record {
      nodes = refl;
      lives = λ d live. asked_falls d node.setup a e (looks node.setup (side 0 s.history)) allowed.0 live;
      legal = λ first legal. (
        subst (λ (o : Option Node). IsSomeAnd o (λ n. Allowed n.setup (looks n.setup (side 0 s.history)) e)) first
            allowed.1,
        legal,
      );
      moment = asked_moment node.setup a e (looks node.setup (side 0 s.history)) allowed.0;
    }

pub step_keeps : (g : Handlers) (node : Node) (m n : Moving) (s t : Stage) → StepGoes g m s n t → Keeps node s t
step_keeps g node m n s t step =
    step_induct g n t (λ m s. Keeps node s t)
    (λ m s none is same. subst (λ (u : Stage). Keeps node s u) (sym same) (keeps_refl node s))
    (λ m s a e asked allowed step again.
    keeps_trans node s (with_event 0 e s) t (event_keeps node s a e allowed) again) m s step

-- ---- the jobs of others

left_others : (c : CallName) (m : Moving) → same_name c m.job.call ≡ false → AreOthers c (left m)
left_others c m other = by (is_staying m.phase)
  where
    by : (b : Bool) → AreOthers c (kept b m.job)
    by true = (other, tt)
    by false = tt

pub others_more : (c : CallName) (xs ys : List JobState) → AreOthers c xs → AreOthers c ys → AreOthers c (xs ++ ys)
others_more c [] ys first second = second
others_more c (x ∷ xs) ys first second = (first.0, others_more c xs ys first.1 second)

-- what the steps of others leave
pub record OthersStep (node : Node) (c : CallName) (s t : Stage) (ls : List JobState) : Type 0 where
  pub stays : Stays node.setup c s t
  pub keeps : Keeps node s t
  pub others : AreOthers c ls

pub others_step : (g : Handlers) (node : Node) (c : CallName) (js : List JobState) (s t : Stage) (ls : List JobState)
    → AreOthers c js → EachSteps g js s ls t → OthersStep node c s t ls
others_step g node c [] s t ls others steps =
    record {
      stays = ap (λ (u : Stage). call_at (looks node.setup (side 0 u.history)) c) steps.1;
      keeps = subst (λ (u : Stage). Keeps node s u) (sym steps.1) (keeps_refl node s);
      others = subst (AreOthers c) (sym steps.0) tt;
    }
others_step g node c (j ∷ js) s t ls others steps =
    let n : Moving = steps.0 in
    let u : Stage = steps.1 in
    let other : same_name c (moving g j).job.call ≡ false = ap (same_name c) (moving-call g j) ∙ others.0 in
    let rest = others_step g node c js u t steps.2 others.1 steps.6 in
    record {
      stays = rest.stays ∙ step_leaves g node.setup c (moving g j) n s u other steps.3;
      keeps = keeps_trans node s u t (step_keeps g node (moving g j) n s u steps.3) rest.keeps;
      others =
          subst (AreOthers c) (sym steps.5)
          (others_more c (left n) steps.2
          (left_others c n (ap (same_name c) (step_call g (moving g j) n s u steps.3) ∙ other)) rest.others);
    }

-- ---- the step of its own job

-- among the steps of others
pub record SeenHere (g : Handlers) (node : Node) (c : CallName) (j : JobState) (s t : Stage)
    (ls : List JobState) : Type 0 where
  pub begins : Stage
  pub before : Stays node.setup c s begins
  pub keeps : Keeps node s begins
  pub behind : Moving
  pub ends : Stage
  pub step : StepGoes g (moving g j) begins behind ends
  pub rests : (serving g).asks behind ≡ None
  pub later : Stays node.setup c ends t
  pub keeps_later : Keeps node ends t
  pub front : List JobState
  pub back : List JobState
  pub are : ls ≡ front ++ (left behind ++ back)
  pub front_others : AreOthers c front
  pub back_others : AreOthers c back

pub seen_here : (g : Handlers) (node : Node) (c : CallName) (front : List JobState) (j : JobState)
    (back : List JobState) (s t : Stage) (ls : List JobState) → AreOthers c front → AreOthers c back
    → EachSteps g (front ++ j ∷ back) s ls t → SeenHere g node c j s t ls
seen_here g node c [] j back s t ls others more steps =
    let rest = others_step g node c back steps.1 t steps.2 more steps.6 in
    record {
      begins = s;
      before = refl;
      keeps = keeps_refl node s;
      behind = steps.0;
      ends = steps.1;
      step = steps.3;
      rests = steps.4;
      later = rest.stays;
      keeps_later = rest.keeps;
      front = [];
      back = steps.2;
      are = steps.5;
      front_others = tt;
      back_others = rest.others;
    }
seen_here g node c (k ∷ front) j back s t ls others more steps =
    let n : Moving = steps.0 in
    let u : Stage = steps.1 in
    let other : same_name c (moving g k).job.call ≡ false = ap (same_name c) (moving-call g k) ∙ others.0 in
    let r = seen_here g node c front j back u t steps.2 others.1 more steps.6 in
    record {
      begins = r.begins;
      before = r.before ∙ step_leaves g node.setup c (moving g k) n s u other steps.3;
      keeps = keeps_trans node s u r.begins (step_keeps g node (moving g k) n s u steps.3) r.keeps;
      behind = r.behind;
      ends = r.ends;
      step = r.step;
      rests = r.rests;
      later = r.later;
      keeps_later = r.keeps_later;
      front = left n ++ r.front;
      back = r.back;
      are =
          steps.5 ∙ ap (λ (js : List JobState). left n ++ js) r.are
          ∙ sym (append_assoc (left n) r.front (left r.behind ++ r.back));
      front_others =
          others_more c (left n) r.front
          (left_others c n (ap (same_name c) (step_call g (moving g k) n s u steps.3) ∙ other)) r.front_others;
      back_others = r.back_others;
    }
