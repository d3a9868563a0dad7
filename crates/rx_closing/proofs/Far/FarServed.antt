-- What a server said of a call begins the reply that is served for the call's request, at every moment: also behind the
-- end of the call's job.
use Rattle.std.proofs.Common.{◌≡◌, ◌⊎◌, ◌++◌, cond, ℕ, Bool, true, false, List, [], ◌∷◌, Option, Some, None, refl, ◌∙◌}
use Rattle.std.proofs.Common.{ap, sym, subst, inl, inr}
use Rattle.rx_model.specs.declared.event.Event.{Event}
use Rattle.rx_model.specs.declared.names.CallName.{CallName}
use Rattle.rx_rules.specs.After.{looks}
use Rattle.rx_rules.specs.Looks.{CallRecord, call_at}
use Rattle.rx_rules.specs.Rules.{Legal}
use Rattle.rx_rules.specs.Setup.{Setup, IsServer}
use Rattle.rx_history.specs.Counts.{Once}
use Rattle.rx_history.specs.Starts.{StartsOnce}
use Rattle.rx_history.proofs.Laws.OnceLaw.{served}
use Rattle.rx_between.specs.Acknowledged.{received_by, sent_by}
use Rattle.rx_script.specs.Served.{bytes}
use Rattle.rx_jobs.specs.declared.job.Want.TheVariants as wants
use Rattle.rx_jobs.specs.Dispatching.{Turning, accepts, dispatching, over, serves}
use Rattle.rx_jobs.specs.Handlers.{Handlers, served_for}
use Rattle.rx_jobs.specs.History.{Drives, gives, handles, life_of}
use Rattle.rx_jobs.specs.Jobs.{Ask, accept, IsCall, Moving, serving}
use Rattle.rx_jobs.specs.Lives.{HasCount, Lives, Writes, bytes_read, bytes_written, has_end}
use Rattle.rx_jobs.specs.Lives as lives
use Rattle.rx_jobs.proofs.Driving.{Acts, drives_lived}
use Rattle.rx_jobs.proofs.LifeLaws.{lives_exact}
use Rattle.rx_plan.proofs.Finishing.{count_of, once_before, serves_drives}
use Rattle.rx_plan.proofs.Handling.{Serves, accepts_fresh, quiet-off, own-ask}
use Rattle.rx_plan.proofs.Handling as handling
use Rattle.rx_plan.proofs.Passed.{Passed, passed_of}
use Rattle.rx_plan.proofs.Passing.{passes_told, told_of}

-- ---- along a server's history

-- a life wrote nothing, or what begins the reply of its request
abbrev pub WroteServed : Handlers → List Event → Type 0
WroteServed g life = (bytes_written life ≡ []) ⊎ Writes g life

-- an accept is nobody's read, write or finish
accept_off : (e : Event) (c : CallName) → IsCall accept e → handles c e ≡ false
accept_off e c is = subst (λ (x : Event). handles c x ≡ false) (sym is.1) refl

-- an event that is of no other call leaves or begins the call's life
by_event : (g : Handlers) (e : Event) (life : List Event) (given on : Bool) → WroteServed g life
    → (on ≡ true → WroteServed g (e ∷ life)) → WroteServed g (cond given [] (cond on (e ∷ life) life))
by_event g e life true on before more = inl refl
by_event g e life false true before more = more refl
by_event g e life false false before more = before

-- a job's call
job_wrote : (g : Handlers) (h : List Event) (m : Moving) (a : Ask) (e : Event) (c : CallName) → Acts g h m
    → (serving g).asks m ≡ Some a → IsCall a e → HasCount e → handles c e ≡ true → WroteServed g (e ∷ life_of c h)
job_wrote g h m a e c acts asked is count on =
    let own : m.job.call ≡ c = sym (own-ask g m a e c asked is on) in
    let life : Lives g c (life_of c h) m = subst (λ (d : CallName). Lives g d (life_of d h) m) own acts in
    (lives_exact g c (e ∷ life_of c h) ((serving g).heard m e)
    (lives.calls (life_of c h) m a e life asked is count)).writes

turn_wrote : (g : Handlers) (t : Turning) (h : List Event) (a : Ask) (e : Event) (c : CallName)
    → (dispatching g).asks t ≡ Some a → IsCall a e → HasCount e → Drives g t h → handles c e ≡ true
    → WroteServed g (e ∷ life_of c h)
turn_wrote g (accepts jobs) h a e c asked is count drives on =
    (let same : accept ≡ a = cc in
    let off = accept_off e c (subst (λ (b : Ask). IsCall b e) (sym same) is) in
    absurd (cc (off, on)))
turn_wrote g (serves done m todo) h a e c asked is count drives on =
    job_wrote g h m a e c (drives_lived g (serves done m todo) h drives).1 asked is count on
turn_wrote g (over jobs) h a e c asked is count drives on = absurd cc

-- at each moment of a server whose calls are a dispatcher's
pub serves_wrote : (g : Handlers) (s : Setup) (c : CallName) {t : Turning} {h : List Event} → Serves g t h
    → IsServer s.kind → Legal s h → Once h → WroteServed g (life_of c h)
serves_wrote g s c handling.starts server legal once = inl refl
serves_wrote g s c (handling.begins jobs h sv) server legal once = serves_wrote g s c sv server legal once
serves_wrote g s c (handling.makes t a e h asked is sv) server legal once =
    by_event g e (life_of c h) (gives c e) (handles c e)
    (serves_wrote g s c sv server legal.1 (once_before e h once))
    (turn_wrote g t h a e c asked is (count_of s (looks s h) e (served s.kind s (looks s h) e server legal.0))
    (serves_drives g s sv server legal.1 (once_before e h once)))
serves_wrote g s c (handling.leaves t e h quiet sv) server legal once =
    by_event g e (life_of c h) (gives c e) (handles c e)
    (serves_wrote g s c sv server legal.1 (once_before e h once))
    (λ on. absurd (let off = quiet-off e c quiet in cc (off, on)))

-- ---- at the server

said_is : (o : Option CallRecord) → (passed_of o).said ≡ (sent_by o).said
said_is None = refl
said_is (Some k) = refl

read_is : (o : Option CallRecord) → (passed_of o).read ≡ (received_by o).read
read_is None = refl
read_is (Some k) = refl

ended_is : (o : Option CallRecord) → (passed_of o).ended ≡ (received_by o).ended
ended_is None = refl
ended_is (Some k) = refl

-- nothing was said, or this begins what is served for a request
abbrev pub BeginsServed : Handlers → List ℕ → List ℕ → Type 0
BeginsServed g request said = (said ≡ []) ⊎ ((rest : List ℕ) × (served_for g request ≡ bytes (said ++ rest)))

-- what a server said of a call begins what is served for its request, where that is what was read to its end
pub said_served : (g : Handlers) (s : Setup) (h : List Event) (c : CallName) (t : Turning) (request : List ℕ)
    → Serves g t h → IsServer s.kind → Legal s h → Once h → StartsOnce s h c
    → ((received_by (call_at (looks s h) c)).ended ≡ true → (received_by (call_at (looks s h) c)).read ≡ request)
    → BeginsServed g request (sent_by (call_at (looks s h) c)).said
said_served g s h c t request sv server legal once starts whole =
    subst (BeginsServed g request) (sym said)
    (of (serves_wrote g s c sv server legal once)
    (λ ended. sym read ∙ whole (sym (ended_is (call_at (looks s h) c)) ∙ ap (λ (x : Passed). x.ended) told ∙ ended)))
  where
    told : passed_of (call_at (looks s h) c) ≡ told_of (life_of c h)
    told = passes_told s h c server legal starts (accepts_fresh g c sv (once c))

    said : (sent_by (call_at (looks s h) c)).said ≡ bytes_written (life_of c h)
    said = sym (said_is (call_at (looks s h) c)) ∙ ap (λ (x : Passed). x.said) told

    read : (received_by (call_at (looks s h) c)).read ≡ bytes_read (life_of c h)
    read = sym (read_is (call_at (looks s h) c)) ∙ ap (λ (x : Passed). x.read) told

    of : WroteServed g (life_of c h) → (has_end (life_of c h) ≡ true → bytes_read (life_of c h) ≡ request)
        → BeginsServed g request (bytes_written (life_of c h))
    of (inl none) all = inl none
    of (inr writes) all =
        inr (
          writes.rest,
          subst (λ (xs : List ℕ). served_for g xs ≡ bytes (bytes_written (life_of c h) ++ writes.rest))
              (all writes.is.ended) writes.is.served,
        )
