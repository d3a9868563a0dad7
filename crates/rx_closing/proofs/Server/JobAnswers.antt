-- A call that a handler has answers the asks of its job: reads and writes leave it so, and a finish ends that.
use Rattle.std.proofs.Common.{◌≡◌, ◌⊎◌, inl, inr, ◌∷◌, ◌++◌, ◌||◌, cond, not, ℕ, ℤ, pos, Bool, true, false, List, []}
use Rattle.std.proofs.Common.{refl, ap, sym, subst, ◌∙◌, Option, Some, option_map, Result, Ok, Err, ◌==◌, arith, min}
use Rattle.rx_model.specs.declared.answers.CallRead.{CallRead}
use Rattle.rx_model.specs.declared.answers.CallRead.TheVariants as callreads
use Rattle.rx_model.specs.declared.answers.ServeRead.{ServeRead}
use Rattle.rx_model.specs.declared.answers.ServeRefused.{ServeRefused}
use Rattle.rx_model.specs.declared.answers.ServeRefused.TheVariants as refusals
use Rattle.rx_model.specs.declared.event.Event.{Event}
use Rattle.rx_model.specs.declared.event.Event.TheVariants as events
use Rattle.rx_model.specs.declared.names.CallName.{CallName}
use Rattle.rx_model.specs.Names.{channel_of}
use Rattle.rx_rules.specs.After.{finish_done, is_zero, looks, owing_abort}
use Rattle.rx_rules.specs.CallLooks.{after_shut}
use Rattle.rx_rules.specs.Life.{Life, after_finish, after_gone, is_active, is_handled}
use Rattle.rx_rules.specs.Life as lives
use Rattle.rx_rules.specs.Looks.{CallRecord, Looks, call_at, on_channel, on_looks}
use Rattle.rx_rules.specs.Received.{read_of}
use Rattle.rx_rules.specs.Rules.{AllowedServer, Legal, served_by, served_finish, served_read, served_read_by}
use Rattle.rx_rules.specs.Rules.{served_read_got, served_write}
use Rattle.rx_rules.specs.Setup.{FitsSetup, IsServer, Setup}
use Rattle.rx_rules.specs.Slots.{room}
use Rattle.rx_history.specs.Starts.{StartsOnce}
use Rattle.rx_history.proofs.Laws.OnceLaw.{served}
use Rattle.rx_script.specs.Served.{refusal}
use Rattle.rx_jobs.specs.declared.job.Phase.TheVariants as phases
use Rattle.rx_jobs.specs.declared.job.TheConstants.{OFFER_BYTES}
use Rattle.rx_jobs.specs.Handlers.{Handlers}
use Rattle.rx_jobs.specs.History.{life_of}
use Rattle.rx_jobs.specs.Jobs.{JobState, Moving, heard_read, heard_write, is_staying, serving}
use Rattle.rx_jobs.specs.Jobs as asks
use Rattle.rx_jobs.specs.Lives.{CodeIs, Lives, MayFinish, bytes_read, has_end, has_gone}
use Rattle.rx_jobs.proofs.LifeLaws.{lives_exact}
use Rattle.rx_plan.specs.Answering.{AreServable}
use Rattle.rx_plan.proofs.Gone.{IsPast, gone_past}
use Rattle.rx_plan.proofs.Passed.{Passed, passed_of}
use Rattle.rx_plan.proofs.Passing.{AcceptsFresh, own_changed, passes_told}
use Rattle.rx_rounds.proofs.Refusals.Codes.{served_no_zero}
use Rattle.rx_closing.proofs.Server.HandlerKeeps.{has_handler}
use Rattle.rx_law.proofs.Law.{zero-code}

-- ---- along a history

module _ (g : Handlers) (s : Setup) (server : IsServer s.kind) (fits : FitsSetup s) (servable : AreServable g)
    (c : CallName) where
  pub rule : (e : Event) (h : List Event) → Legal s (e ∷ h) → AllowedServer s (looks s h) e
  rule e h legal = served s.kind s (looks s h) e server legal.0

  -- ---- its job asks

  -- a call that a handler has answers no read with NotOpen
  pub read_stays : (r : CallRecord) (got : ServeRead) (came : List ℕ) → is_handled r.life ≡ true
      → ◌≡◌ {A = ServeRead × List ℕ} (got, came) (served_read (Some r) OFFER_BYTES) → (j : JobState)
      → is_staying (heard_read g j got came).phase ≡ true
  read_stays r got came handled is j =
      of r.life handled (ap (λ (p : ServeRead × List ℕ). p.0) is)
    where
      told : (x : CallRead) → got ≡ served_read_got x → is_staying (heard_read g j got came).phase ≡ true
      told (callreads.Got n) same = ap (λ (y : ServeRead). is_staying (heard_read g j y came).phase) same
      told callreads.End same = ap (λ (y : ServeRead). is_staying (heard_read g j y came).phase) same
      told callreads.NotYet same = ap (λ (y : ServeRead). is_staying (heard_read g j y came).phase) same

      of : (x : Life) → is_handled x ≡ true
          → got ≡ (served_read_by x (read_of r.looks.received OFFER_BYTES)).0
          → is_staying (heard_read g j got came).phase ≡ true
      of lives.Accepted h same = told (read_of r.looks.received OFFER_BYTES).0 same
      of (lives.Broken code) h same = ap (λ (y : ServeRead). is_staying (heard_read g j y came).phase) same
      of _ h same = absurd cc

  pub write_stays : (r : CallRecord) (l : Looks) (offered : ℕ) (got : Result ℕ ServeRefused) → is_handled r.life ≡ true
      → got ≡ served_write s l (Some r) offered → (j : JobState) → is_staying (heard_write j offered got).phase ≡ true
  write_stays r l offered got handled is j =
      of r.life r.looks.received.ended handled is
    where
      on : (n : ℕ) (b : Bool) → is_staying (cond b phases.Moves phases.Rests) ≡ true
      on n true = refl
      on n false = refl

      told : (x : Result ℕ ServeRefused) → got ≡ x → is_staying (heard_write j offered x).phase ≡ true
          → is_staying (heard_write j offered got).phase ≡ true
      told x same stays = ap (λ (y : Result ℕ ServeRefused). is_staying (heard_write j offered y).phase) same ∙ stays

      of : (x : Life) (ended : Bool) → is_handled x ≡ true → got ≡ served_by x ended (min offered (room s l r.looks))
          → is_staying (heard_write j offered got).phase ≡ true
      of lives.Accepted true h same =
          told (Ok (min offered (room s l r.looks))) same
          (on 0 (min offered (room s l r.looks) == offered))
      of lives.Accepted false h same = told (Err refusals.Unread) same refl
      of (lives.Broken code) ended h same = told (Err (refusals.Gone code)) same refl
      of _ ended h same = absurd cc

  -- ---- its job finishes

  -- what the record's end is by the events of its life
  ended_told : (h : List Event) (r : CallRecord) → Legal s h → StartsOnce s h c → AcceptsFresh c h
      → call_at (looks s h) c ≡ Some r → r.looks.received.ended ≡ has_end (life_of c h)
  ended_told h r legal once fresh there =
      ap (λ (o : Option CallRecord). (passed_of o).ended) (sym there)
      ∙ ap (λ (p : Passed). p.ended) (passes_told s h c server legal once fresh)

  -- it is done, where the call is accepted
  finish_fine : (h : List Event) (m : Moving) (code : ℤ) (r : CallRecord) → Legal s h → StartsOnce s h c
      → AcceptsFresh c h → call_at (looks s h) c ≡ Some r → r.life ≡ lives.Accepted → Lives g c (life_of c h) m
      → (serving g).asks m ≡ Some (asks.finish c code) → (r.looks.received.ended || not (is_zero code)) ≡ true
  finish_fine h m code r legal once fresh there accepted life asked = by (is_zero code) refl
    where
      told : r.looks.received.ended ≡ has_end (life_of c h)
      told = ended_told h r legal once fresh there

      ended : (is_zero code ≡ true) → has_end (life_of c h) ≡ true
      ended zero_ = of ((lives_exact g c (life_of c h) m life).finishes code asked)
        where
          by_code : (b : Bool) → CodeIs g (bytes_read (life_of c h)) b code → b ≡ true
          by_code true is = refl
          by_code false is =
              absurd (served_no_zero g (bytes_read (life_of c h) ++ []) servable
              (is [] (λ i. omega arith) ∙ ap refusal (zero-code code zero_)))

          of : ((has_gone (life_of c h) ≡ true) × (code ≡ pos 0)) ⊎ MayFinish g (life_of c h) code
              → has_end (life_of c h) ≡ true
          of (inl gone) =
              absurd (let past : IsPast (call_at (looks s h) c) = gone_past s h c server legal once gone.0 in
              let idle : is_active r.life ≡ false = subst IsPast there past in
              let wrong : ◌≡◌ {A = Bool} true false = sym (ap is_active accepted) ∙ idle in cc (wrong))
          of (inr (inl is)) = by_code (has_end (life_of c h)) is
          of (inr (inr all)) = all.1.ended

      by : (z : Bool) → is_zero code ≡ z → (r.looks.received.ended || not z) ≡ true
      by true is = ap (λ (b : Bool). b || false) (told ∙ ended is)
      by false is = or_true r.looks.received.ended
        where
          or_true : (b : Bool) → (b || true) ≡ true
          or_true true = refl
          or_true false = refl

  -- behind it no handler has the call
  pub finish_none : (h : List Event) (m : Moving) (code : ℤ) (got : Result (Unit {0}) ServeRefused) (r : CallRecord)
      → Legal s (events.Finished c code got ∷ h) → StartsOnce s h c → AcceptsFresh c h
      → call_at (looks s h) c ≡ Some r → is_handled r.life ≡ true → Lives g c (life_of c h) m
      → (serving g).asks m ≡ Some (asks.finish c code)
      → has_handler (call_at (looks s (events.Finished c code got ∷ h)) c) ≡ false
  finish_none h m code got r legal once fresh there handled life asked = of r.life refl handled
    where
      l : Looks
      l = looks s h

      answer : got ≡ served_by r.life (r.looks.received.ended || not (is_zero code)) tt
      answer =
          (rule (events.Finished c code got) h legal).1
          ∙ ap (λ (o : Option CallRecord). served_finish o code) there

      ends : CallRecord → CallRecord
      ends k = record k { life = after_finish (is_zero code) code k.life }

      goes_ : CallRecord → CallRecord
      goes_ k = record k { life = after_gone k.life }

      shut_ : CallRecord → CallRecord
      shut_ k = record k { looks = after_shut k.looks }

      first : Bool → Looks
      first b = cond b (on_looks c after_shut l) (on_channel (channel_of c) (owing_abort (Some code)) l)

      behind : (b : Bool) → r.life ≡ lives.Accepted
          → (k : CallRecord) × (call_at (first b) c ≡ Some k) × (k.life ≡ lives.Accepted)
      behind true accepted =
          (shut_ r, own_changed c shut_ l (λ k. refl) ∙ ap (option_map shut_) there, accepted)
      behind false accepted = (r, there, accepted)

      none_handled : (z : Bool) → is_handled (after_finish z code lives.Accepted) ≡ false
      none_handled true = refl
      none_handled false = refl

      done_ : r.life ≡ lives.Accepted → has_handler (call_at (finish_done c code (Ok tt) l) c) ≡ false
      done_ accepted =
          let b = behind (is_zero code) accepted in
          ap has_handler
          (own_changed c ends (first (is_zero code)) (λ k. refl) ∙ ap (option_map ends) b.1)
          ∙ ap (λ (x : Life). is_handled (after_finish (is_zero code) code x)) b.2 ∙ none_handled (is_zero code)

      of : (x : Life) → r.life ≡ x → is_handled x ≡ true
          → has_handler (call_at (looks s (events.Finished c code got ∷ h)) c) ≡ false
      of lives.Accepted is h_ =
          let fine = finish_fine h m code r legal.1 once fresh there is life asked in
          let ok : got ≡ Ok tt =
          answer ∙ ap (λ (y : Life). served_by y (r.looks.received.ended || not (is_zero code)) tt) is
          ∙ ap (λ (b : Bool). served_by lives.Accepted b tt) fine in
          ap (λ (y : Result (Unit {0}) ServeRefused). has_handler (call_at (finish_done c code y l) c)) ok ∙ done_ is
      of (lives.Broken told) is h_ =
          let gone_ : got ≡ Err (refusals.Gone told) =
          answer ∙ ap (λ (y : Life). served_by y (r.looks.received.ended || not (is_zero code)) tt) is in
          ap (λ (y : Result (Unit {0}) ServeRefused). has_handler (call_at (finish_done c code y l) c)) gone_
          ∙ ap has_handler (own_changed c goes_ l (λ k. refl) ∙ ap (option_map goes_) there)
          ∙ ap (λ (x : Life). is_handled (after_gone x)) is
      of _ is h_ = absurd cc
