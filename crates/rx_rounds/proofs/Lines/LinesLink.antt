-- The lines of a plan that make a server and a client, with one key or none, and connect them: what they make; none is
-- refused.
use Rattle.std.proofs.Common.{◌≡◌, ◌≢◌, ◌<◌, ◌≤◌, ◌^◌, ◌==◌, ℕ, suc, true, false, List, [], ◌∷◌, refl, ap, sym, subst}
use Rattle.std.proofs.Common.{◌∙◌, inl, inr, Option, Some, Result, Ok, Err, slice_get}
use Rattle.std.proofs.lemmas.Bool.{ne_eqb}
use Rattle.rx_model.specs.declared.answers.CallRefused.{CallRefused}
use Rattle.rx_model.specs.declared.answers.CallRefused.TheVariants as crowds
use Rattle.rx_model.specs.declared.answers.ConnFull.{ConnFull}
use Rattle.rx_model.specs.declared.event.Event.{Event}
use Rattle.rx_model.specs.declared.event.Event.TheVariants as events
use Rattle.rx_model.specs.declared.event.Noted.{Noted}
use Rattle.rx_model.specs.declared.names.CallName.{CallName}
use Rattle.rx_model.specs.declared.names.Host.{Host}
use Rattle.rx_model.proofs.NameLaws.{number_itself}
use Rattle.rx_rules.specs.After.{after}
use Rattle.rx_rules.specs.CallLooks.{CallLooks}
use Rattle.rx_rules.specs.Life as lives
use Rattle.rx_rules.specs.Looks.{Looks, at_start}
use Rattle.rx_rules.specs.Rules.{Allowed, call_answer}
use Rattle.rx_script.specs.declared.plan.Numbered.{Numbered}
use Rattle.rx_script.specs.declared.plan.PlanLine.{PlanLine}
use Rattle.rx_script.specs.declared.plan.PlanLine.TheVariants as lines
use Rattle.rx_events.specs.Events.{IsCalled, IsLinked}
use Rattle.rx_jobs.specs.Handlers.{Handlers}
use Rattle.rx_plan.specs.Follows.{CutOff, EndlessIn, Goes, Progress, Went, begun, next_part, server_node}
use Rattle.rx_plan.specs.Lines.{connects, line_part}
use Rattle.rx_plan.specs.Parts.{Then, To, ends}
use Rattle.rx_plan.specs.Stages.{Stage, host_at, service_of, with_event}
use Rattle.rx_rounds.specs.Bounds.{default_limits}
use Rattle.rx_rounds.proofs.Making.{event_to, to_is}
use Rattle.rx_rounds.proofs.One.OneCall.{Ends, client_setup, from_client, node_of, the_call}
use Rattle.rx_rounds.proofs.One.OneFields.{fresh}
use Rattle.rx_rounds.proofs.Lines.PlanLines.{goes_step, line_to}
use Rattle.rx_rounds.proofs.Two.{Two, at_client, the_nodes, two_client}
use Rattle.rx_rounds.proofs.Refusals.Unrefused.{Fine, fine_ends, fine_event, fine_then}

-- ---- which events they make

linked_is : (to : Host) (service first : ℕ) (e : Event) → IsLinked to service first e
    → (got : Result ℕ ConnFull) × (e ≡ events.Linked to service first got)
linked_is to service first (events.Linked a b c got) is = (
  got,
  ap (λ (h : Host). events.Linked h b c got) is.0 ∙ ap (λ (n : ℕ). events.Linked to n c got) is.1
      ∙ ap (λ (n : ℕ). events.Linked to service n got) is.2,
)
linked_is to service first _ is = absurd is

pub called_is : (cid : ℕ) (e : Event) → IsCalled cid e
    → (got : Result CallName CallRefused) × (e ≡ events.Called cid got)
called_is cid (events.Called a got) is = (got, ap (λ (n : ℕ). events.Called n got) is)
called_is cid _ is = absurd is

some_host : (a b : Host) → ◌≡◌ {A = Option Host} (Some a) (Some b) → a ≡ b
some_host a b same = cc

-- numbers that the rules ask of a connection
pub record LinkNumbers (service first : ℕ) : Type 0 where
  pub some : 1 ≤ first
  pub few : first < 2 ^ 32
  pub service_fits : service < 2 ^ 16

module _ (at : Host) (service nonce : ℕ) (from : Host) (epoch first : ℕ) (key : Option (List ℕ)) where
  abbrev pub the_ends : Ends
  the_ends =
      record {
        client = from;
        server = at;
        epoch = epoch;
        service = service;
        nonces = nonce;
        first = first;
        key = key;
      }

  abbrev pub c : CallName
  c = the_call the_ends

  -- ---- the stages behind them

  abbrev pub first_stage : Stage
  first_stage = begun (server_node at service default_limits key nonce)

  abbrev pub start : Stage
  start = record first_stage { nodes = the_nodes the_ends }

  two_start : Two the_ends at_start at_start [] [] start
  two_start = record { nodes = refl; server = refl; client = refl; callers = refl; jobs = refl }

  abbrev linked : Event
  linked = events.Linked at service first (Ok 4)

  abbrev pub linked_looks : Looks
  linked_looks = after (client_setup the_ends) linked at_start

  abbrev pub behind_link : Stage
  behind_link = with_event 1 linked start

  pub two_linked : Two the_ends at_start linked_looks [] [] behind_link
  two_linked = two_client the_ends at_start at_start [] [] start linked two_start

  pub connects_to : (t : Stage) (es : List Noted) → connects first 1 start es (To t)
      → (t ≡ behind_link) × LinkNumbers service first
  connects_to t es made =
      let is : Event → Type 0 = λ e. (to : Host) × (host_at start 0 ≡ Some to) × IsLinked to
      (service_of (slice_get start.nodes 0)) first e in
      let h = event_to 1 is start t es made in
      let both = at_client the_ends at_start at_start [] [] start is h.event two_start h.allowed in
      let to_at : both.0.0 ≡ at = sym (some_host at both.0.0 both.0.1) in
      let l = linked_is both.0.0 service first h.event both.0.2 in
      let e_is : h.event ≡ events.Linked at service first l.0 = l.1
      ∙ ap (λ (a : Host). events.Linked a service first l.0) to_at in
      let allowed : Allowed (client_setup the_ends) at_start (events.Linked at service first l.0) =
      subst (λ (e : Event). Allowed (client_setup the_ends) at_start e) e_is both.1 in
      let whole : h.event ≡ linked = e_is
      ∙ ap (λ (got : Result ℕ ConnFull). events.Linked at service first got) allowed.3 in (
        h.then_ ∙ ap (λ (e : Event). with_event 1 e start) whole,
        record
            { some = allowed.0; few = allowed.1; service_fits = allowed.2 },
      )

  -- ---- a call

  abbrev pub called : Event
  called = events.Called 4 (Ok c)

  pub call_is : call_answer (client_setup the_ends) from epoch linked_looks 4 ≡ Ok c
  call_is = simp (number_itself from.addr, number_itself from.port, number_itself epoch) refl

  -- there is no connection but that one
  pub call_none : (cid : ℕ) → cid ≢ 4
      → call_answer (client_setup the_ends) from epoch linked_looks cid ≡ Err crowds.NoConn
  call_none cid other =
      let differ : (4 == cid) ≡ false = ne_eqb 4 cid (λ (e : 4 ≡ cid). other (sym e)) in
      simp (number_itself from.addr, number_itself from.port, number_itself epoch, differ) refl

  abbrev pub client_has : CallLooks → Looks
  client_has k = node_of the_ends (from_client the_ends 0 0) [] 0 lives.Calling k

  pub called_looks : after (client_setup the_ends) called linked_looks ≡ client_has fresh
  called_looks = rw (number_itself from.addr, number_itself from.port, number_itself epoch) refl

-- ---- line by line

abbrev pub before : Stage → ℕ → Progress
before u place = record { stage = u; late = true; place = place }

pub fine_line : (g : Handlers) (line : PlanLine) (place : ℕ) (u : Stage) → Fine (line_part g place line u)
    → Fine (Then (line_part g place line u) (λ s. ends (To (before s (suc place)))))
fine_line g line place u fine =
    fine_then (line_part g place line u) (λ s. ends (To (before s (suc place)))) fine
    (λ s. fine_ends (before s (suc place)))

module _ (g : Handlers) (at : Host) (service nonce : ℕ) (from : Host) (epoch first : ℕ) (key : Option (List ℕ))
    (a2 a3 : ℕ) where
  abbrev pub l2 : Numbered
  l2 = record { line = a2; what = lines.Client from epoch default_limits key }

  abbrev pub l3 : Numbered
  l3 = record { line = a3; what = lines.Connect 1 first }

  abbrev pub at_first : Progress
  at_first = record { stage = first_stage at service nonce from epoch first key; late = false; place = 1 }

  abbrev at_second : Progress
  at_second = record { stage = start at service nonce from epoch first key; late = false; place = 2 }

  fine_client : Fine (next_part g l2.what at_first)
  fine_client es why (none, inl same) = cc
  fine_client es why (none, inr same) = cc

  added : (q : Progress) (fs : List Noted) → next_part g l2.what at_first fs (To q) → q ≡ at_second
  added q fs (none, inl same) = to_is q at_second same
  added q fs (none, inr off) = absurd cc

  -- what holds however the plan was cut off, and behind these lines, holds of how it went
  pub linked_go : (rest : List Numbered) (es : List Noted) (went : Went) (P : Went → Type 0) → P CutOff → P EndlessIn
      → Goes g (l2 ∷ l3 ∷ rest) at_first es went
      → ((fs : List Noted) → LinkNumbers service first
      → Goes g rest (before (behind_link at service nonce from epoch first key) 3) fs went → P went)
      → P went
  linked_go rest es went P is_cut is_endless made holds =
      goes_step g l2 (l3 ∷ rest) at_first es went P is_cut is_endless fine_client made
      (λ q2 f2 m2 p2 r2.
      goes_step g l3 rest at_second m2 went P is_cut is_endless
      (fine_line g l3.what 2 at_second.stage (fine_event 1 _ at_second.stage))
      (subst (λ (p : Progress). Goes g (l3 ∷ rest) p m2 went) (added q2 f2 p2) r2)
      (λ q3 f3 m3 p3 r3. (
      let t3 = line_to g 2 l3.what at_second q3 f3 refl p3 in
      let link = connects_to at service nonce from epoch first key t3.0 t3.2.es t3.2.made in
      holds m3 link.1
      (subst (λ (p : Progress). Goes g rest p m3 went) (t3.1 ∙ ap (λ (u : Stage). before u 3) link.0) r3))))
