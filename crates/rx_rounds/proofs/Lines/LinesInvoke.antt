-- The lines of a plan whose one client makes an invoke before rounds: what each makes; none is refused.
use Rattle.std.proofs.Common.{◌≡◌, ◌≢◌, ◌⊎◌, ℕ, Bool, false, List, [], ◌∷◌, refl}
use Rattle.std.proofs.Common.{ap, sym, subst}
use Rattle.std.proofs.Common.{◌∙◌, inl, inr, Option, Some, Result, Ok, Err, String, Vec, string_bytes}
use Rattle.std.proofs.lemmas.Bool.{cases_eq}
use Rattle.std.specs.Global.{Global}
use Rattle.hex.specs.Hex.{IsBytes}
use Rattle.xdr_value.specs.Data.{Procedure}
use Rattle.xdr_value.specs.View.{values_of}
use Rattle.xdr_value.specs.declared.value.Value.{Value}
use Rattle.rx_model.specs.declared.answers.CallRefused.{CallRefused}
use Rattle.rx_model.specs.declared.answers.CallRefused.TheVariants as crowds
use Rattle.rx_model.specs.declared.event.Event.{Event}
use Rattle.rx_model.specs.declared.event.Event.TheVariants as events
use Rattle.rx_model.specs.declared.event.Noted.{Noted}
use Rattle.rx_model.specs.declared.names.CallName.{CallName}
use Rattle.rx_model.specs.declared.names.Host.{Host}
use Rattle.rx_rules.specs.Looks.{Looks, at_start}
use Rattle.rx_rules.specs.Rules.{Allowed, call_answer}
use Rattle.rx_script.specs.Procs.{proc_named}
use Rattle.rx_script.specs.declared.plan.Numbered.{Numbered}
use Rattle.rx_script.specs.declared.plan.PlanLine.TheVariants as lines
use Rattle.rx_asks.specs.View.{caller_for}
use Rattle.rx_events.specs.Waits.{any_lives}
use Rattle.rx_jobs.specs.Handlers.{Handlers}
use Rattle.rx_plan.specs.Answering.{Invoked, request_for}
use Rattle.rx_plan.specs.Follows.{CutOff, EndlessIn, Goes, Progress, Went, Whole, plan_goes}
use Rattle.rx_plan.specs.Lines.{IsInvoked, bytes_of, invokes, with_called, with_caller}
use Rattle.rx_plan.specs.Parts.{Came, To}
use Rattle.rx_plan.specs.Rounds.{rounds}
use Rattle.rx_plan.specs.Stages.{Stage, name_called, with_event}
use Rattle.rx_rounds.specs.Bounds.{default_limits}
use Rattle.rx_rounds.proofs.Lines.LinesLink.{LinkNumbers, before, behind_link, call_is, call_none, called, called_is}
use Rattle.rx_rounds.proofs.Lines.LinesLink.{called_looks}
use Rattle.rx_rounds.proofs.Lines.LinesLink.{client_has, fine_line, l2, l3, linked_go, linked_looks, the_ends}
use Rattle.rx_rounds.proofs.Lines.LinesLink.{two_linked}
use Rattle.rx_rounds.proofs.Making.{event_with_to, to_is}
use Rattle.rx_rounds.proofs.One.OneCall.{Ends, client_setup, the_call}
use Rattle.rx_rounds.proofs.One.OneFields.{fresh}
use Rattle.rx_rounds.proofs.One.OneSteps.{empty_at}
use Rattle.rx_rounds.proofs.Lines.PlanLines.{goes_end, goes_step, line_to}
use Rattle.rx_rounds.proofs.Rounded.{Made, caller_at, rounds_none}
use Rattle.rx_rounds.proofs.Two.{Two, any_two, at_client}
use Rattle.rx_rounds.proofs.Refusals.Unrefused.{fine_event_with, fine_rounds}

module _ (g : Handlers) (at : Host) (service nonce : ℕ) (from : Host) (epoch first : ℕ) (key : Option (List ℕ))
    (cid : ℕ) (proc : String Global) (up : Option (List ℕ)) (down : Bool) (args : Vec Value Global) (n : ℕ)
    (a1 a2 a3 a4 a5 : ℕ) (p : Procedure) (named : proc_named (string_bytes proc) g.procs ≡ Some p) where
  abbrev pub x : Ends
  x = the_ends at service nonce from epoch first key

  abbrev l4 : Numbered
  l4 = record { line = a4; what = lines.Invoke 1 cid proc up down args }

  abbrev l5 : Numbered
  l5 = record { line = a5; what = lines.Rounds n }

  abbrev pub the_lines : List Numbered
  the_lines =
      record { line = a1; what = lines.Server at service default_limits key nonce }
      ∷ l2 g at service nonce from epoch first key a2 a3 ∷ l3 g at service nonce from epoch first key a2 a3
      ∷ l4 ∷ l5 ∷ []

  -- what it invokes
  abbrev pub the_invoke : Invoked
  the_invoke = record { proc = p; args = values_of args.items; up = up; down = down }

  abbrev pub request : List ℕ
  request = request_for g the_invoke

  -- ---- the invoke

  abbrev linked : Stage
  linked = behind_link at service nonce from epoch first key

  abbrev link : Looks
  link = linked_looks at service nonce from epoch first key

  abbrev call : Event
  call = called at service nonce from epoch first key

  -- behind an invoke that was given a call
  abbrev pub behind_call : Stage
  behind_call = with_caller 1 3 request (Some (the_call x)) (with_called 1 call (with_event 1 call linked))

  pub two_called : Two x (empty_at 0) (client_has at service nonce from epoch first key fresh)
      (caller_at 1 3 (caller_for (the_call x) request) ∷ []) [] behind_call
  two_called =
      record {
        nodes = refl;
        server = refl;
        client = called_looks at service nonce from epoch first key;
        callers = refl;
        jobs = refl;
      }

  -- and behind one that was given none
  abbrev refused : Event
  refused = events.Called cid (Err crowds.NoConn)

  abbrev pub behind_none : Stage
  behind_none = with_called 1 refused (with_event 1 refused linked)

  two_none : Two x at_start link [] [] behind_none
  two_none =
      record {
        nodes = refl;
        server = refl;
        client = (two_linked at service nonce from epoch first key).client;
        callers = refl;
        jobs = refl;
      }

  none_lives : any_lives behind_none.nodes behind_none.history ≡ false
  none_lives = any_two x at_start link [] [] behind_none two_none

  -- the invoke has a call where it names the connection
  pub data IsMade (t : Stage) : Type 0 where
    has_call : cid ≡ 4 → t ≡ behind_call → IsMade t
    has_none : t ≡ behind_none → IsMade t

  invokes_to : (t : Stage) (es : List Noted) → invokes 3 cid request 1 linked es (To t) → IsMade t × IsBytes request
  invokes_to t es made =
      let came : Event → Stage → Came Stage = λ e u. To (with_caller 1 3 request (name_called e) (with_called 1 e u)) in
      let h = event_with_to 1 (IsInvoked cid request) came linked t es made in
      let both = at_client x at_start link [] [] linked (IsInvoked cid request) h.event
      (two_linked at service nonce from epoch first key) h.allowed in
      let l = called_is cid h.event both.0.0 in
      let allowed : l.0 ≡ call_answer (client_setup x) from epoch link cid = subst
      (λ (e : Event). Allowed (client_setup x) link e) l.1 both.1 in
      (of (cases_eq cid 4) h.event l.0 l.1 allowed h.comes, both.0.1)
    where
      of : (cid ≡ 4) ⊎ (cid ≢ 4) → (e : Event) (got : Result CallName CallRefused) → e ≡ events.Called cid got
          → got ≡ call_answer (client_setup x) from epoch link cid
          → ◌≡◌ {A = Came Stage}
          (To (with_caller 1 3 request (name_called e) (with_called 1 e (with_event 1 e linked)))) (To t)
          → IsMade t
      of (inl same) e got is allowed comes =
          let answer : got ≡ Ok (the_call x) =
          allowed ∙ ap (call_answer (client_setup x) from epoch link) same
          ∙ call_is at service nonce from epoch first key in
          let whole : e ≡ call = is ∙ ap (λ (r : Result CallName CallRefused). events.Called cid r) answer
          ∙ ap (λ (k : ℕ). events.Called k (Ok (the_call x))) same in
          has_call same (sym (to_is behind_call t
          (ap (λ (f : Event). To (with_caller 1 3 request (name_called f) (with_called 1 f (with_event 1 f linked))))
          (sym whole) ∙ comes)))
      of (inr other) e got is allowed comes =
          let whole : e ≡ refused = is ∙ ap (λ (r : Result CallName CallRefused). events.Called cid r)
          (allowed ∙ call_none at service nonce from epoch first key cid other) in
          has_none (sym (to_is behind_none t
          (ap (λ (f : Event). To (with_caller 1 3 request (name_called f) (with_called 1 f (with_event 1 f linked))))
          (sym whole) ∙ comes)))

  -- ---- all lines

  -- what a plan that was made whole comes to: rounds behind its call; or it was given none, and nothing more is made
  pub data IsPlayed (s : Stage) : Type 0 where
    rounds_on : LinkNumbers service first → cid ≡ 4 → IsBytes request → Made (rounds g n) behind_call s → IsPlayed s
    plays_none : s ≡ behind_none → IsPlayed s

  played : (u s : Stage) → LinkNumbers service first → IsMade u × IsBytes request → Made (rounds g n) u s → IsPlayed s
  played u s numbers (has_call same is, fits) made =
      rounds_on numbers same fits (subst (λ (v : Stage). Made (rounds g n) v s) is made)
  played u s numbers (has_none is, fits) made =
      let m : Made (rounds g n) behind_none s = subst (λ (v : Stage). Made (rounds g n) v s) is made in
      plays_none (rounds_none g n behind_none s m.0 none_lives m.1)

  -- what holds however the plan was cut off, and of each stage behind its rounds, holds of how it went
  pub invoke_goes : (es : List Noted) (went : Went) (P : Went → Type 0) → P CutOff → P EndlessIn
      → plan_goes g the_lines es went → ((s : Stage) → IsPlayed s → P (Whole s)) → P went
  invoke_goes es went P is_cut is_endless (inr off) holds = subst P (sym off.1) is_cut
  invoke_goes es went P is_cut is_endless (inl made) holds =
      linked_go g at service nonce from epoch first key a2 a3 (l4 ∷ l5 ∷ []) es went P is_cut is_endless made
      (λ m3 numbers r3.
      goes_step g l4 (l5 ∷ []) (before linked 3) m3 went P is_cut is_endless
      (fine_line g l4.what 3 linked
      (fine_event_with 1 _ (λ e t. with_caller 1 3 (bytes_of g (proc_named (string_bytes proc) g.procs)
      (values_of args.items) up) (name_called e) (with_called 1 e t)) linked)) r3
      (λ q4 f4 m4 p4 r4. (
      let t4 = line_to g 3 l4.what (before linked 3) q4 f4 refl p4 in
      let invoked : invokes 3 cid request 1 linked t4.2.es (To t4.0) =
      subst (λ (o : Option Procedure). invokes 3 cid (bytes_of g o (values_of args.items) up) 1 linked t4.2.es
      (To t4.0)) named t4.2.made in
      let is_made = invokes_to t4.0 t4.2.es invoked in
      goes_step g l5 [] (before t4.0 4) m4 went P is_cut is_endless
      (fine_line g l5.what 4 t4.0 (fine_rounds g n t4.0))
      (subst (λ (q : Progress). Goes g (l5 ∷ []) q m4 went) t4.1 r4)
      (λ q5 f5 m5 p5 r5. (
      let t5 = line_to g 4 l5.what (before t4.0 4) q5 f5 refl p5 in
      goes_end g q5 m5 went P r5
      (subst (λ (u : Stage). P (Whole u)) (sym (ap (λ (q : Progress). q.stage) t5.1))
      (holds t5.0 (played t4.0 t5.0 numbers is_made (t5.2.es, t5.2.made)))))))))
