-- The lines of a plan whose client writes a request by hand and shuts it, before rounds: what each makes; none is
-- refused.
use Rattle.std.proofs.Common.{◌≡◌, ◌≤◌, ℕ, List, [], ◌∷◌, refl, ap, sym, subst}
use Rattle.std.proofs.Common.{None}
use Rattle.std.proofs.Common.{◌∙◌, inl, inr, Option, Result, Ok, length, take, min, arith}
use Rattle.std.proofs.lemmas.List.{take_all}
use Rattle.rx_model.specs.declared.answers.CallRefused.{CallRefused}
use Rattle.rx_model.specs.declared.answers.NotOpen.{NotOpen}
use Rattle.rx_model.specs.declared.answers.WroteGot.TheVariants as writers
use Rattle.rx_model.specs.declared.event.Event.{Event}
use Rattle.rx_model.specs.declared.event.Event.TheVariants as events
use Rattle.rx_model.specs.declared.event.Noted.{Noted}
use Rattle.rx_model.specs.declared.names.CallName.{CallName}
use Rattle.rx_model.specs.declared.names.Host.{Host}
use Rattle.rx_model.proofs.NameLaws.{number_itself}
use Rattle.rx_rules.specs.After.{after}
use Rattle.rx_rules.specs.CallLooks.{CallLooks, after_shut, after_write}
use Rattle.rx_rules.specs.Life as lives
use Rattle.rx_rules.specs.Looks.{CallRecord, Looks, at_start}
use Rattle.rx_rules.specs.Rules.{Allowed, call_answer, can_say, client_write, done_where, own_call}
use Rattle.rx_rules.specs.Looks.{is_call}
use Rattle.rx_script.specs.declared.plan.Numbered.{Numbered}
use Rattle.rx_script.specs.declared.plan.PlanLine.TheVariants as lines
use Rattle.rx_events.specs.Events.{IsCalled, IsSaid, IsShut, written_count}
use Rattle.rx_jobs.specs.Handlers.{Handlers}
use Rattle.rx_plan.specs.Follows.{CutOff, EndlessIn, Goes, Progress, Went, Whole, plan_goes}
use Rattle.rx_plan.specs.Lines.{calls, with_called}
use Rattle.rx_plan.specs.Parts.{Came, To}
use Rattle.rx_plan.specs.Rounds.{rounds}
use Rattle.rx_plan.specs.Stages.{Stage, event, with_event}
use Rattle.rx_rounds.specs.Bounds.{default_limits}
use Rattle.rx_rounds.proofs.Making.{event_to, event_with_to, to_is}
use Rattle.rx_rounds.proofs.One.OneCall.{Ends, client_setup, from_client, node_of, the_call}
use Rattle.rx_rounds.proofs.One.OneFields.{fresh}
use Rattle.rx_rounds.proofs.One.OneSteps.{empty_at, own_is}
use Rattle.rx_rounds.proofs.Lines.LinesLink.{LinkNumbers, before, behind_link, call_is, called, called_is, called_looks}
use Rattle.rx_rounds.proofs.Lines.LinesLink.{fine_line, l2, l3, linked_go, linked_looks, the_ends as link_ends}
use Rattle.rx_rounds.proofs.Lines.LinesLink.{two_linked}
use Rattle.rx_rounds.proofs.Lines.PlanLines.{goes_end, goes_step, line_to}
use Rattle.rx_rounds.proofs.Rounded.{Made}
use Rattle.rx_rounds.proofs.Two.{Two, at_client}
use Rattle.rx_rounds.proofs.Refusals.Unrefused.{fine_event, fine_event_with, fine_rounds}

-- ---- which events the lines make

said_is : (c : CallName) (offer : List ℕ) (e : Event) → IsSaid c offer e
    → (got : Result ℕ NotOpen) × (e ≡ events.Wrote c (length offer) (writers.Client got)
    (take (written_count got) offer))
said_is c offer (events.Wrote d offered (writers.Client got) bytes) is = (
  got,
  ap (λ (f : CallName). events.Wrote f offered (writers.Client got) bytes) is.0
      ∙ ap (λ (k : ℕ). events.Wrote c k (writers.Client got) bytes) is.1
      ∙ ap (λ (bs : List ℕ). events.Wrote c (length offer) (writers.Client got) bs) is.2,
)
said_is c offer _ is = absurd is

shut_is : (c : CallName) (e : Event) → IsShut c e → (got : Result (Unit {0}) NotOpen) × (e ≡ events.Shut c got)
shut_is c (events.Shut d got) is = (got, ap (λ (f : CallName). events.Shut f got) is)
shut_is c _ is = absurd is

module _ (g : Handlers) (at : Host) (service nonce : ℕ) (from : Host) (epoch first : ℕ) (key : Option (List ℕ))
    (offer : List ℕ) (n : ℕ) (a1 a2 a3 a4 a5 a6 a7 : ℕ) (short : length offer ≤ 45184) where
  abbrev pub the_ends : Ends
  the_ends = link_ends at service nonce from epoch first key

  abbrev pub c : CallName
  c = the_call the_ends

  abbrev l4 : Numbered
  l4 = record { line = a4; what = lines.Call 1 4 }

  abbrev l5 : Numbered
  l5 = record { line = a5; what = lines.Write 1 offer }

  abbrev l6 : Numbered
  l6 = record { line = a6; what = lines.Shut 1 }

  abbrev l7 : Numbered
  l7 = record { line = a7; what = lines.Rounds n }

  abbrev pub the_lines : List Numbered
  the_lines =
      record { line = a1; what = lines.Server at service default_limits key nonce }
      ∷ l2 g at service nonce from epoch first key a2 a3 ∷ l3 g at service nonce from epoch first key a2 a3
      ∷ l4 ∷ l5 ∷ l6 ∷ l7 ∷ []

  -- ---- the stages between the lines

  abbrev behind_connect : Stage
  behind_connect = behind_link at service nonce from epoch first key

  abbrev link : Looks
  link = linked_looks at service nonce from epoch first key

  abbrev call : Event
  call = called at service nonce from epoch first key

  abbrev client_has : CallLooks → Looks
  client_has k = node_of the_ends (from_client the_ends 0 0) [] 0 lives.Calling k

  abbrev behind_call : Stage
  behind_call = with_called 1 call (with_event 1 call behind_connect)

  looks_called : after (client_setup the_ends) call link ≡ client_has fresh
  looks_called = called_looks at service nonce from epoch first key

  two_called : Two the_ends at_start (client_has fresh) [] [] behind_call
  two_called = record { nodes = refl; server = refl; client = looks_called; callers = refl; jobs = refl }

  calls_to : (t : Stage) (es : List Noted) → calls 4 1 behind_connect es (To t) → t ≡ behind_call
  calls_to t es made =
      let came : Event → Stage → Came Stage = λ e u. To (with_called 1 e u) in
      let h = event_with_to 1 (IsCalled 4) came behind_connect t es made in
      let both = at_client the_ends at_start link [] [] behind_connect (IsCalled 4) h.event
      (two_linked at service nonce from epoch first key) h.allowed in
      let l = called_is 4 h.event both.0 in
      let allowed : l.0 ≡ call_answer (client_setup the_ends) from epoch link 4 = subst
      (λ (e : Event). Allowed (client_setup the_ends) link e) l.1 both.1 in
      let whole : h.event ≡ call = l.1
      ∙ ap (λ (got : Result CallName CallRefused). events.Called 4 got)
      (allowed ∙ call_is at service nonce from epoch first key) in
      sym (to_is behind_call t (ap (λ (e : Event). came e (with_event 1 e behind_connect)) (sym whole) ∙ h.comes))

  -- the write
  abbrev written : Event
  written = events.Wrote c (length offer) (writers.Client (Ok (length offer))) offer

  abbrev behind_write : Stage
  behind_write = with_event 1 written behind_call

  abbrev wrote : CallLooks
  wrote = after_write offer fresh

  room_is : client_write (client_setup the_ends) (client_has fresh) (own_call (client_has fresh) c) (length offer)
      ≡ Ok (length offer)
  room_is =
      let all : min (length offer) 45184 ≡ length offer = omega arith in
      ap (λ (o : Option CallRecord). client_write (client_setup the_ends) (client_has fresh) o (length offer))
      (own_is the_ends None 0 0 [] 0 lives.Calling fresh)
      ∙ ap (λ (k : ℕ). Ok k) all

  wrote_looks : after (client_setup the_ends) written (client_has fresh) ≡ client_has wrote
  wrote_looks = rw (number_itself from.addr, number_itself from.port, number_itself epoch, number_itself first) refl

  two_wrote : Two the_ends at_start (client_has wrote) [] [] behind_write
  two_wrote =
      record {
        nodes = refl;
        server = refl;
        client = ap (after (client_setup the_ends) written) looks_called ∙ wrote_looks;
        callers = refl;
        jobs = refl;
      }

  writes_to : (t : Stage) (es : List Noted) → event 1 (IsSaid c offer) behind_call es (To t) → t ≡ behind_write
  writes_to t es made =
      let h = event_to 1 (IsSaid c offer) behind_call t es made in
      let both = at_client the_ends at_start (client_has fresh) [] [] behind_call (IsSaid c offer) h.event two_called
      h.allowed in
      let l = said_is c offer h.event both.0 in
      let allowed : Allowed (client_setup the_ends) (client_has fresh)
      (events.Wrote c (length offer) (writers.Client l.0) (take (written_count l.0) offer)) =
      subst (λ (e : Event). Allowed (client_setup the_ends) (client_has fresh) e) l.1 both.1 in
      let got : l.0 ≡ Ok (length offer) = allowed.0 ∙ room_is in
      let whole : h.event ≡ written =
      l.1 ∙ ap (λ (r : Result ℕ NotOpen). events.Wrote c (length offer) (writers.Client r)
      (take (written_count r) offer)) got
      ∙ ap (λ (bs : List ℕ). events.Wrote c (length offer) (writers.Client (Ok (length offer))) bs)
      (take_all (length offer) offer (omega arith)) in
      h.then_ ∙ ap (λ (e : Event). with_event 1 e behind_call) whole

  -- the end of the request
  abbrev shut : Event
  shut = events.Shut c (Ok tt)

  abbrev pub behind_shut : Stage
  behind_shut = with_event 1 shut behind_write

  says_is : done_where (is_call can_say (own_call (client_has wrote) c)) ≡ Ok tt
  says_is =
      ap (λ (o : Option CallRecord). done_where (is_call can_say o)) (own_is the_ends None 0 0 [] 0 lives.Calling wrote)

  shut_looks : after (client_setup the_ends) shut (client_has wrote) ≡ client_has (after_shut wrote)
  shut_looks = rw (number_itself from.addr, number_itself from.port, number_itself epoch, number_itself first) refl

  pub two_shut : Two the_ends (empty_at 0) (client_has (after_shut wrote)) [] [] behind_shut
  two_shut =
      record {
        nodes = refl;
        server = refl;
        client = ap (after (client_setup the_ends) shut) two_wrote.client ∙ shut_looks;
        callers = refl;
        jobs = refl;
      }

  shuts_to : (t : Stage) (es : List Noted) → event 1 (IsShut c) behind_write es (To t) → t ≡ behind_shut
  shuts_to t es made =
      let h = event_to 1 (IsShut c) behind_write t es made in
      let both = at_client the_ends at_start (client_has wrote) [] [] behind_write
      (IsShut c) h.event two_wrote h.allowed in
      let l = shut_is c h.event both.0 in
      let allowed : l.0 ≡ done_where (is_call can_say (own_call (client_has wrote) c)) =
      subst (λ (e : Event). Allowed (client_setup the_ends) (client_has wrote) e) l.1 both.1 in
      let whole : h.event ≡ shut = l.1 ∙ ap (λ (r : Result (Unit {0}) NotOpen). events.Shut c r) (allowed ∙ says_is) in
      h.then_ ∙ ap (λ (e : Event). with_event 1 e behind_write) whole

  -- ---- line by line

  -- what holds however the plan was cut off, and of each stage behind its rounds, holds of how it went
  pub lines_go : (es : List Noted) (went : Went) (P : Went → Type 0) → P CutOff → P EndlessIn
      → plan_goes g the_lines es went
      → ((s : Stage) → LinkNumbers service first → Made (rounds g n) behind_shut s → P (Whole s)) → P went
  lines_go es went P is_cut is_endless (inr off) holds = subst P (sym off.1) is_cut
  lines_go es went P is_cut is_endless (inl made) holds =
      linked_go g at service nonce from epoch first key a2 a3 (l4 ∷ l5 ∷ l6 ∷ l7 ∷ []) es went P is_cut is_endless made
      (λ m3 linked r3.
      goes_step g l4 (l5 ∷ l6 ∷ l7 ∷ []) (before behind_connect 3) m3 went P is_cut is_endless
      (fine_line g l4.what 3 behind_connect (fine_event_with 1 (IsCalled 4) (λ e t. with_called 1 e t) behind_connect))
      r3
      (λ q4 f4 m4 p4 r4. (
      let t4 = line_to g 3 l4.what (before behind_connect 3) q4 f4 refl p4 in
      goes_step g l5 (l6 ∷ l7 ∷ []) (before behind_call 4) m4 went P is_cut is_endless
      (fine_line g l5.what 4 behind_call (fine_event 1 (IsSaid c offer) behind_call))
      (subst (λ (p : Progress). Goes g (l5 ∷ l6 ∷ l7 ∷ []) p m4 went) (t4.1
      ∙ ap (λ (u : Stage). before u 4) (calls_to t4.0 t4.2.es t4.2.made)) r4)
      (λ q5 f5 m5 p5 r5. (
      let t5 = line_to g 4 l5.what (before behind_call 4) q5 f5 refl p5 in
      goes_step g l6 (l7 ∷ []) (before behind_write 5) m5 went P is_cut is_endless
      (fine_line g l6.what 5 behind_write (fine_event 1 (IsShut c) behind_write))
      (subst (λ (p : Progress). Goes g (l6 ∷ l7 ∷ []) p m5 went) (t5.1
      ∙ ap (λ (u : Stage). before u 5) (writes_to t5.0 t5.2.es t5.2.made)) r5)
      (λ q6 f6 m6 p6 r6. (
      let t6 = line_to g 5 l6.what (before behind_write 5) q6 f6 refl p6 in
      goes_step g l7 [] (before behind_shut 6) m6 went P is_cut is_endless
      (fine_line g l7.what 6 behind_shut (fine_rounds g n behind_shut))
      (subst (λ (p : Progress). Goes g (l7 ∷ []) p m6 went) (t6.1
      ∙ ap (λ (u : Stage). before u 6) (shuts_to t6.0 t6.2.es t6.2.made)) r6)
      (λ q7 f7 m7 p7 r7. (
      let t7 = line_to g 6 l7.what (before behind_shut 6) q7 f7 refl p7 in
      goes_end g q7 m7 went P r7
      (subst (λ (u : Stage). P (Whole u)) (sym (ap (λ (p : Progress). p.stage) t7.1))
      (holds t7.0 linked (t7.2.es, t7.2.made))))))))))))
