-- The events of a job's step at the record of its own call, and an induction over such a step.
use Rattle.std.proofs.Common.{◌≡◌, ◌||◌, cond, not, min, ℕ, ℤ, Bool, true, false, List, length, refl, ap, sym, subst}
use Rattle.std.proofs.Common.{◌∙◌, Option, Some, None, option_map, Result, Ok, Err}
use Rattle.std.specs.Prelude.{IsSomeAnd, slice_get}
use Rattle.rx_model.specs.declared.answers.ReadGot.TheVariants as readers
use Rattle.rx_model.specs.declared.answers.ServeRead.{ServeRead}
use Rattle.rx_model.specs.declared.answers.ServeRefused.{ServeRefused}
use Rattle.rx_model.specs.declared.answers.ServeRefused.TheVariants as refusals
use Rattle.rx_model.specs.declared.answers.WroteGot.{WroteGot}
use Rattle.rx_model.specs.declared.answers.WroteGot.TheVariants as writers
use Rattle.rx_model.specs.declared.event.Event.{Event}
use Rattle.rx_model.specs.declared.event.Event.TheVariants as events
use Rattle.rx_model.specs.declared.event.Noted.{Noted}
use Rattle.rx_model.specs.declared.names.CallName.{CallName}
use Rattle.rx_model.specs.Names.{channel_of}
use Rattle.rx_rules.specs.After.{acknowledged, after, is_end, is_zero, looks, owing_abort, read_done}
use Rattle.rx_rules.specs.CallLooks.{CallLooks, after_read, after_shut, after_write}
use Rattle.rx_rules.specs.Life.{Life, after_accept, after_end, after_finish, after_gone}
use Rattle.rx_rules.specs.Life as lives
use Rattle.rx_rules.specs.Looks.{CallRecord, Looks, call_at, on_channel, on_life, on_looks}
use Rattle.rx_rules.specs.Received.{read_of}
use Rattle.rx_rules.specs.Rules.{Allowed, AllowedServer, Legal, served_by, served_finish, served_read, served_read_by}
use Rattle.rx_rules.specs.Rules.{served_write}
use Rattle.rx_rules.specs.Setup.{IsServer}
use Rattle.rx_rules.specs.Slots.{room}
use Rattle.rx_history.proofs.Laws.OnceLaw.{served as served_by_kind}
use Rattle.rx_history.specs.Sides.{Node, side}
use Rattle.rx_events.specs.Joint.{IsAllowedAt}
use Rattle.rx_jobs.specs.declared.job.TheConstants.{OFFER_BYTES}
use Rattle.rx_jobs.specs.Handlers.{Handlers}
use Rattle.rx_jobs.specs.Jobs.{Ask, IsCall, Moving, accepted, serving}
use Rattle.rx_plan.specs.Parts.{Came, To}
use Rattle.rx_plan.specs.Programs.{Turn, cut_there, goes, is_endless, is_over}
use Rattle.rx_plan.specs.Stages.{IsAllowedNext, Stage, with_event}
use Rattle.rx_plan.proofs.Passing.{own_changed}
use Rattle.rx_closing.proofs.Server.JobSteps.{StepGoes}

-- ---- an induction over a step

-- what holds where a step rests, and before each event behind which it holds, holds where it begins
pub step_induct : (g : Handlers) (n : Moving) (t : Stage) (P : Moving → Stage → Type 0)
    → ((m : Moving) (s : Stage) → (serving g).asks m ≡ None → n ≡ m → t ≡ s → P m s)
    → ((m : Moving) (s : Stage) (a : Ask) (e : Event) → (serving g).asks m ≡ Some a → IsAllowedNext s 0 (IsCall a) e
    → StepGoes g ((serving g).heard m e) (with_event 0 e s) n t → P ((serving g).heard m e) (with_event 0 e s) → P m s)
    → (m : Moving) (s : Stage) → StepGoes g m s n t → P m s
step_induct g n t P rests asks_ m s step = of m s step.0 (To (n, t)) step.1 refl
  where
    to_same : (a b : Moving × Stage) → ◌≡◌ {A = Came (Moving × Stage)} (To a) (To b) → a ≡ b
    to_same a b is = cc

    of : (m : Moving) (s : Stage) (es : List Noted) (out : Came (Moving × Stage)) → Turn (serving g) 0 m s es out
        → out ≡ To (n, t) → P m s
    of m s es out (cut_there x y) is = absurd cc
    of m s es out (is_over x y none) is =
        let same = to_same (m, s) (n, t) is in
        rests m s none (sym (ap (λ (z : Moving × Stage). z.0) same)) (sym (ap (λ (z : Moving × Stage). z.1) same))
    of m s es out (goes x y a e more o some allowed rest) is =
        asks_ m s a e some allowed (
          more,
          subst (λ (c : Came (Moving × Stage)). Turn (serving g) 0 ((serving g).heard m e) (with_event 0 e s) more c) is
              rest,
        )
        (of ((serving g).heard m e) (with_event 0 e s) more out rest is)
    of m s es out (is_endless x y fs cut long) is = absurd cc

-- ---- the record of a call at a server

module _ (node : Node) (serves : IsServer node.setup.kind) (c : CallName) (now : ℕ) where
  abbrev pub l : Stage → Looks
  l s = looks node.setup (side 0 s.history)

  -- the server of a stage has the call, its life is so, and this passed at its end
  pub record At (s : Stage) (x : Life) (k : CallLooks) : Type 0 where
    pub first : slice_get s.nodes 0 ≡ Some node
    pub legal : Legal node.setup (side 0 s.history)
    pub moment : (l s).now ≡ now
    pub call : CallRecord
    pub there : call_at (l s) c ≡ Some call
    pub living : call.life ≡ x
    pub passed : call.looks ≡ k

  pub allowed_here : (s : Stage) (e : Event) → slice_get s.nodes 0 ≡ Some node → IsAllowedAt s.nodes s.history 0 e
      → Allowed node.setup (l s) e
  allowed_here s e first allowed =
      subst (λ (o : Option Node). IsSomeAnd o (λ n. Allowed n.setup (looks n.setup (side 0 s.history)) e)) first allowed

  pub allowed_server : (s : Stage) (e : Event) → slice_get s.nodes 0 ≡ Some node → IsAllowedAt s.nodes s.history 0 e
      → AllowedServer node.setup (l s) e
  allowed_server s e first allowed =
      served_by_kind node.setup.kind node.setup (l s) e serves (allowed_here s e first allowed)

  -- ---- a read

  -- its answer
  pub read_got : (s : Stage) (k : CallLooks) (x : Life) (e : Event) (got : ServeRead) (came : List ℕ) → At s x k
      → e ≡ events.HasRead c OFFER_BYTES (readers.Server got) came → IsAllowedAt s.nodes s.history 0 e
      → ◌≡◌ {A = ServeRead × List ℕ} (got, came) (served_read_by x (read_of k.received OFFER_BYTES))
  read_got s k x e got came at is allowed =
      let rule : AllowedServer node.setup (l s) (events.HasRead c OFFER_BYTES (readers.Server got) came) =
      subst (λ (f : Event). AllowedServer node.setup (l s) f) is (allowed_server s e at.first allowed) in
      rule.1 ∙ ap (λ (o : Option CallRecord). served_read o OFFER_BYTES) at.there
      ∙ ap (λ (y : Life). served_read_by y (read_of at.call.looks.received OFFER_BYTES)) at.living
      ∙ ap (λ (j : CallLooks). served_read_by x (read_of j.received OFFER_BYTES)) at.passed

  -- the call behind it
  pub read_at : (s : Stage) (k : CallLooks) (x y : Life) (e : Event) (got : ServeRead) (came : List ℕ) (end : Bool)
      → At s x k → e ≡ events.HasRead c OFFER_BYTES (readers.Server got) came → is_end (readers.Server got) ≡ end
      → after_end end x ≡ y → IsAllowedAt s.nodes s.history 0 e → At (with_event 0 e s) y (after_read now end came k)
  read_at s k x y e got came end at is ends life allowed =
      let reading : CallRecord → CallRecord = λ j. record j { looks = after_read (l s).now end came j.looks } in
      let ending : CallRecord → CallRecord = λ j. record j { life = after_end end j.life } in
      let first : Looks = acknowledged end c (l s) in
      let second : Looks = on_looks c (after_read (l s).now end came) first in
      let read : call_at second c ≡ Some (reading at.call) =
      own_changed c reading first (λ j. refl) ∙ ap (option_map reading) at.there in
      let all : call_at (read_done c end came (l s)) c ≡ Some (ending (reading at.call)) =
      own_changed c ending second (λ j. refl) ∙ ap (option_map ending) read in
      let event : after node.setup e (l s) ≡ read_done c end came (l s) =
      ap (λ (f : Event). after node.setup f (l s)) is ∙ ap (λ (b : Bool). read_done c b came (l s)) ends in
      record {
        first = at.first;
        legal = (allowed_here s e at.first allowed, at.legal);
        moment = ap (λ (m : Looks). m.now) event ∙ at.moment;
        call = ending (reading at.call);
        there = ap (λ (m : Looks). call_at m c) event ∙ all;
        living = ap (after_end end) at.living ∙ life;
        passed =
            ap (λ (m : ℕ). after_read m end came at.call.looks) at.moment ∙ ap (after_read now end came) at.passed;
      }

  -- ---- a write

  pub write_got : (s : Stage) (k : CallLooks) (x : Life) (e : Event) (offer : List ℕ) (got : Result ℕ ServeRefused)
      → At s x k → e ≡ events.Wrote c (length offer) (writers.Server got) (accepted offer got)
      → IsAllowedAt s.nodes s.history 0 e
      → got ≡ served_by x k.received.ended (min (length offer) (room node.setup (l s) k))
  write_got s k x e offer got at is allowed =
      let rule : AllowedServer node.setup (l s)
      (events.Wrote c (length offer) (writers.Server got) (accepted offer got)) =
      subst (λ (f : Event). AllowedServer node.setup (l s) f) is (allowed_server s e at.first allowed) in
      rule.0 ∙ ap (λ (o : Option CallRecord). served_write node.setup (l s) o (length offer)) at.there
      ∙ ap (λ (y : Life). served_by y at.call.looks.received.ended
      (min (length offer) (room node.setup (l s) at.call.looks))) at.living
      ∙ ap (λ (j : CallLooks). served_by x j.received.ended (min (length offer) (room node.setup (l s) j))) at.passed

  pub write_at : (s : Stage) (k : CallLooks) (x : Life) (e : Event) (offered : ℕ) (got : WroteGot) (bytes : List ℕ)
      → At s x k → e ≡ events.Wrote c offered got bytes → IsAllowedAt s.nodes s.history 0 e
      → At (with_event 0 e s) x (after_write bytes k)
  write_at s k x e offered got bytes at is allowed =
      let writing : CallRecord → CallRecord = λ j. record j { looks = after_write bytes j.looks } in
      let event : after node.setup e (l s) ≡ on_looks c (after_write bytes) (l s) =
      ap (λ (f : Event). after node.setup f (l s)) is in
      record {
        first = at.first;
        legal = (allowed_here s e at.first allowed, at.legal);
        moment = ap (λ (m : Looks). m.now) event ∙ at.moment;
        call = writing at.call;
        there =
            ap (λ (m : Looks). call_at m c) event ∙ own_changed c writing (l s) (λ j. refl)
            ∙ ap (option_map writing) at.there;
        living = at.living;
        passed = ap (after_write bytes) at.passed;
      }

  -- ---- a finish

  pub finish_got : (s : Stage) (k : CallLooks) (x : Life) (e : Event) (code : ℤ) (got : Result (Unit {0}) ServeRefused)
      → At s x k → e ≡ events.Finished c code got → IsAllowedAt s.nodes s.history 0 e
      → got ≡ served_by x (k.received.ended || not (is_zero code)) tt
  finish_got s k x e code got at is allowed =
      let rule : AllowedServer node.setup (l s) (events.Finished c code got) =
      subst (λ (f : Event). AllowedServer node.setup (l s) f) is (allowed_server s e at.first allowed) in
      rule.1 ∙ ap (λ (o : Option CallRecord). served_finish o code) at.there
      ∙ ap (λ (y : Life). served_by y (at.call.looks.received.ended || not (is_zero code)) tt) at.living
      ∙ ap (λ (j : CallLooks). served_by x (j.received.ended || not (is_zero code)) tt) at.passed

  -- the end of the call behind a finish, whose code is 0 or isn't
  abbrev pub finished_looks : Bool → CallLooks → CallLooks
  finished_looks fine k = cond fine (after_shut k) k

  -- a finish that was done
  pub finish_at : (s : Stage) (k : CallLooks) (x y : Life) (e : Event) (code : ℤ) (fine : Bool) → At s x k
      → e ≡ events.Finished c code (Ok tt) → is_zero code ≡ fine → after_finish fine code x ≡ y
      → IsAllowedAt s.nodes s.history 0 e → At (with_event 0 e s) y (finished_looks fine k)
  finish_at s k x y e code fine at is zero_is life allowed =
      let ending : CallRecord → CallRecord = λ j. record j { life = after_finish fine code j.life } in
      let event : after node.setup e (l s) ≡ on_life c (after_finish fine code) (first fine) =
      ap (λ (f : Event). after node.setup f (l s)) is
      ∙ ap (λ (b : Bool). on_life c (after_finish b code) (first b)) zero_is in
      let f = behind fine in
      record {
        first = at.first;
        legal = (allowed_here s e at.first allowed, at.legal);
        moment = ap (λ (m : Looks). m.now) event ∙ f.0 ∙ at.moment;
        call = ending f.1;
        there =
            ap (λ (m : Looks). call_at m c) event ∙ own_changed c ending (first fine) (λ j. refl)
            ∙ ap (option_map ending) f.2;
        living = ap (after_finish fine code) f.3 ∙ life;
        passed = f.4;
      }
    where
      first : Bool → Looks
      first b = cond b (on_looks c after_shut (l s)) (on_channel (channel_of c) (owing_abort (Some code)) (l s))

      behind : (b : Bool)
          → ((first b).now ≡ (l s).now) × (call : CallRecord) × (call_at (first b) c ≡ Some call) × (call.life ≡ x)
          × (call.looks ≡ finished_looks b k)
      behind true =
          let shutting : CallRecord → CallRecord = λ j. record j { looks = after_shut j.looks } in (
            refl,
            shutting at.call,
            own_changed c shutting (l s) (λ j. refl) ∙ ap (option_map shutting) at.there,
            at.living,
            ap after_shut at.passed,
          )
      behind false = (refl, at.call, at.there, at.living, at.passed)

  -- one of a call that broke
  pub gone_at : (s : Stage) (k : CallLooks) (broken : ℤ) (e : Event) (code told : ℤ) → At s (lives.Broken broken) k
      → e ≡ events.Finished c code (Err (refusals.Gone told)) → IsAllowedAt s.nodes s.history 0 e
      → At (with_event 0 e s) (lives.Over (Some broken)) k
  gone_at s k broken e code told at is allowed =
      let going : CallRecord → CallRecord = λ j. record j { life = after_gone j.life } in
      let event : after node.setup e (l s) ≡ on_life c after_gone (l s) =
      ap (λ (f : Event). after node.setup f (l s)) is in
      record {
        first = at.first;
        legal = (allowed_here s e at.first allowed, at.legal);
        moment = ap (λ (m : Looks). m.now) event ∙ at.moment;
        call = going at.call;
        there =
            ap (λ (m : Looks). call_at m c) event ∙ own_changed c going (l s) (λ j. refl)
            ∙ ap (option_map going) at.there;
        living = ap after_gone at.living;
        passed = at.passed;
      }

  -- ---- an accept

  pub accept_at : (s : Stage) (k : CallLooks) (e : Event) → At s lives.Waiting k → e ≡ events.Accepted (Some c)
      → IsAllowedAt s.nodes s.history 0 e → At (with_event 0 e s) lives.Accepted k
  accept_at s k e at is allowed =
      let taking : CallRecord → CallRecord = λ j. record j { life = after_accept j.life } in
      let event : after node.setup e (l s) ≡ on_life c after_accept (l s) =
      ap (λ (f : Event). after node.setup f (l s)) is in
      record {
        first = at.first;
        legal = (allowed_here s e at.first allowed, at.legal);
        moment = ap (λ (m : Looks). m.now) event ∙ at.moment;
        call = taking at.call;
        there =
            ap (λ (m : Looks). call_at m c) event ∙ own_changed c taking (l s) (λ j. refl)
            ∙ ap (option_map taking) at.there;
        living = ap after_accept at.living;
        passed = at.passed;
      }
