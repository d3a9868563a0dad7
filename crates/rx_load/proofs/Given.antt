-- A load counts as many datagrams as its polls gave.
use Rattle.std.proofs.Common.{◌≡◌, ◌+◌, ◌-◌, ◌^◌, min, ℕ, suc, List, [], ◌∷◌, length, Option, Some, None}
use Rattle.std.proofs.Common.{true, refl, ap, sym, ◌∙◌, arith}
use Rattle.std.proofs.lemmas.List.{length-append}
use Rattle.rand_pcg.specs.Lcg.{Lcg}
use Rattle.rand_pcg.specs.Pcg.{pcg32}
use Rattle.rx_model.specs.declared.event.Event.{Event}
use Rattle.rx_model.specs.declared.event.Event.TheVariants as events
use Rattle.rx_model.specs.declared.names.CallName.{CallName}
use Rattle.rx_model.specs.declared.names.Host.{Host}
use Rattle.rx_law.specs.Worlds.{Datagram}
use Rattle.rx_events.specs.Events.{IsCalled, IsLinked, IsPolled}
use Rattle.rx_asks.specs.Asks.{Asking, Cancels, IsAsked, Offers, Reads, Shuts, begun, calling}
use Rattle.rx_asks.specs.declared.ask.TheConstants.{REPLY_BYTES}
use Rattle.rx_jobs.specs.Dispatching.{accepts, dispatching}
use Rattle.rx_jobs.specs.Jobs.{Ask, IsCall, accept, finish, read, write}
use Rattle.rx_script.specs.declared.outcome.PlanWhy.TheVariants as causes
use Rattle.rx_plan.specs.declared.fate.Fate.{Fate}
use Rattle.rx_plan.specs.declared.fate.Fate.TheVariants as fates
use Rattle.rx_plan.specs.declared.tally.Tally.{Tally}
use Rattle.rx_plan.specs.Finds.{at_client, client_at, found_or}
use Rattle.rx_plan.specs.Lines.{IsInvoked, connects, invokes, with_called, with_caller}
use Rattle.rx_plan.specs.Lossy.{fated}
use Rattle.rx_plan.specs.Parts.{Refused, To}
use Rattle.rx_plan.specs.Programs.{Turn}
use Rattle.rx_plan.specs.Rounds.{Polled, Polling, clients_first, heard_poll, polling, polls, polls_at, polls_out}
use Rattle.rx_plan.specs.Stages.{Stage, host_at, name_called, with_event}
use Rattle.rx_plan.specs.Tallies.{tallied, with_fate}
use Rattle.rx_plan.proofs.Leading.{Leads, each_lead, ends_lead, then_lead, turn_lead}
use Rattle.rx_plan.proofs.Shaped.{IsCarried, Shapes, event_lead}
use Rattle.rx_load.specs.Loads.{load_handlers}
use Rattle.rx_load.specs.Saying.{gave, givens}

-- ---- events that give nothing

gives_none : {is : Event → Type 0} → ((e : Event) → is e → gave e ≡ 0) → (c node : ℕ) (e : Event) (s : Stage) → is e
    → givens s.history ≡ c → givens (with_event node e s).history ≡ c
gives_none none c node e s there has = omega (arith, none e there, has)

carried_none : (e : Event) → IsCarried e → gave e ≡ 0
carried_none (events.Taken from bytes got) is = refl
carried_none (events.Clocked now) is = refl
carried_none e is = elim is [ ]

called_none : (cid : ℕ) (e : Event) → IsCalled cid e → gave e ≡ 0
called_none cid (events.Called its got) is = refl
called_none cid e is = elim is [ ]

linked_none : (to : Host) (service first : ℕ) (e : Event) → IsLinked to service first e → gave e ≡ 0
linked_none to service first (events.Linked host its low got) is = refl
linked_none to service first e is = elim is [ ]

call_none : (a : Ask) (e : Event) → IsCall a e → gave e ≡ 0
call_none accept e is = ap gave is.1
call_none (read c) e is = ap gave is.2
call_none (write c offer) e is = ap gave is.1
call_none (finish c code) e is = ap gave is.1

asked_none : (a : Asking) (e : Event) → IsAsked a e → gave e ≡ 0
asked_none (Offers c block) (events.Polled got) is = absurd is
asked_none (Shuts c) (events.Polled got) is = absurd is
asked_none (Reads c max) (events.Polled got) is = absurd is
asked_none (Cancels c code) (events.Polled got) is = absurd is
asked_none a e is = refl

-- ---- by the shape of plans

-- so many were given so far
abbrev pub HasGiven : ℕ → Stage → Type 0
HasGiven c s = givens s.history ≡ c

pub giving : (c : ℕ) → Shapes load_handlers (HasGiven c)
giving c = record {
  carried = λ s node e carried allowed so. gives_none carried_none c node e s carried so;
  serves = λ s so.
      then_lead (λ r. HasGiven c r.1 × ((dispatching load_handlers).asks r.0 ≡ None)) (HasGiven c)
      (Turn (dispatching load_handlers) 0 (accepts s.jobs) s) _
      (turn_lead (dispatching load_handlers) 0 (λ v t. HasGiven c t)
      (λ v t a e there asked is allowed. gives_none (call_none a) c 0 e t is there) (accepts s.jobs) s so)
      (λ r there. ends_lead (HasGiven c) _ there.0);
  calls = λ place k s at so.
      then_lead (λ r. HasGiven c r.1 × ((calling REPLY_BYTES).asks r.0 ≡ None)) (HasGiven c)
      (Turn (calling REPLY_BYTES) k.node (begun k.caller) s) _
      (turn_lead (calling REPLY_BYTES) k.node (λ v t. HasGiven c t)
      (λ v t a e there asked is allowed. gives_none (asked_none a) c k.node e t is there) (begun k.caller) s so)
      (λ r there. ends_lead (HasGiven c) _ there.0);
}

-- ---- openings

pub opens_give : (c client line cid : ℕ) (bytes : List ℕ) (s : Stage) → HasGiven c s
    → Leads (HasGiven c) (at_client client (invokes line cid bytes) s)
opens_give c client line cid bytes s so = of (client_at client s)
  where
    kept : (node : ℕ) (o : Option CallName) (t : Stage) → HasGiven c t → HasGiven c (with_caller node line bytes o t)
    kept node None t has = has
    kept node (Some name) t has = has

    of : (o : Option ℕ) → Leads (HasGiven c) (found_or causes.NoNode (invokes line cid bytes) o s)
    of None = ends_lead (HasGiven c) (Refused causes.NoNode) tt
    of (Some node) =
        event_lead (HasGiven c) s node (IsInvoked cid bytes)
        (λ e t. To (with_caller node line bytes (name_called e) (with_called node e t)))
        (λ e there allowed.
        kept node (name_called e) (with_called node e (with_event node e s))
        (gives_none (called_none cid) c node e s there.0 so))

pub connects_give : (c client : ℕ) (s : Stage) → HasGiven c s → Leads (HasGiven c) (at_client client (connects 1) s)
connects_give c client s so = of (client_at client s)
  where
    of : (o : Option ℕ) → Leads (HasGiven c) (found_or causes.NoNode (connects 1) o s)
    of None = ends_lead (HasGiven c) (Refused causes.NoNode) tt
    of (Some node) =
        event_lead (HasGiven c) s node _ (λ e t. To t)
        (λ e there allowed. gives_none (linked_none there.0 _ 1) c node e s there.2 so)

-- ---- polls

-- so many were given before these
abbrev Gave : ℕ → Polled → Type 0
Gave c p = givens p.stage.history ≡ c + length p.given

poll_gives : (c node : ℕ) (o : Option Host) (p : Polled) → Gave c p → Leads (Gave c) (polls_at node o p)
poll_gives c node None p so = ends_lead (Gave c) (To p) so
poll_gives c node (Some from) p so =
    then_lead (λ r. R r.0 r.1 × ((polling from).asks r.0 ≡ None)) (Gave c) _ _
    (turn_lead (polling from) node R (λ v t a e there asked is allowed. step v t e is there)
    (record { again = true; given = p.given }) p.stage so)
    (λ r there. ends_lead (Gave c) _ there.0)
  where
    R : Polling → Stage → Type 0
    R v t = givens t.history ≡ c + length v.given

    step : (v : Polling) (t : Stage) (e : Event) → IsPolled e → R v t
        → R (heard_poll from v e) (with_event node e t)
    step v t (events.Polled None) is there = omega (arith, there)
    step v t (events.Polled (Some (to, bytes))) is there =
        (let more = length-append v.given (record { from = from; to = to; bytes = bytes } ∷ []) in
        omega (arith, there, more))
    step v t e is there = elim is [ ]

pub polls_give : (c : ℕ) (s : Stage) → HasGiven c s → Leads (Gave c) (polls s)
polls_give c s so =
    each_lead (Gave c) polls_out (λ node p there. poll_gives c node (host_at p.stage node) p there) (clients_first s)
    (record { stage = s; given = [] }) (omega (arith, so))

-- ---- the tally

length-fated : (g : Lcg) (ds : List Datagram) → length (fated g ds) ≡ length ds
length-fated g [] = refl
length-fated g (d ∷ ds) = ap suc (length-fated (pcg32 g).1 ds)

fate_given : (f : Fate) (t : Tally) → (with_fate f t).given ≡ min (t.given + 1) (2 ^ 64 - 1)
fate_given fates.Lost t = refl
fate_given fates.Twice t = refl
fate_given fates.Held t = refl
fate_given fates.Once t = refl

tallied_given : (xs : List (Datagram × Fate)) (t : Tally) (n : ℕ) → t.given ≡ min n (2 ^ 64 - 1)
    → (tallied xs t).given ≡ min (n + length xs) (2 ^ 64 - 1)
tallied_given [] t n is = (let same : n + 0 ≡ n = omega arith in is ∙ ap (λ k. min k (2 ^ 64 - 1)) (sym same))
tallied_given (x ∷ xs) t n is =
    (let one : (with_fate x.1 t).given ≡ min (n + 1) (2 ^ 64 - 1) = omega (arith, fate_given x.1 t, is) in
    let same : n + 1 + length xs ≡ n + suc (length xs) = omega arith in
    tallied_given xs (with_fate x.1 t) (n + 1) one ∙ ap (λ k. min k (2 ^ 64 - 1)) same)

pub tally_given : (g : Lcg) (ds : List Datagram) (t : Tally) (n : ℕ) → t.given ≡ min n (2 ^ 64 - 1)
    → (tallied (fated g ds) t).given ≡ min (n + length ds) (2 ^ 64 - 1)
tally_given g ds t n is =
    tallied_given (fated g ds) t n is ∙ ap (λ k. min (n + k) (2 ^ 64 - 1)) (length-fated g ds)
