-- Where a client gave an ABORT of a call, that call had ended.
use Rattle.std.proofs.Common.{◌≡◌, ◌⊎◌, ◌==◌, ◌&&◌, if◌then◌else◌, not, ℕ, ℤ, Bool, true, false, List, [], ◌∷◌}
use Rattle.std.proofs.Common.{Option, Some, None, option_map}
use Rattle.std.proofs.Common.{Result, Ok, Err, refl, inl, inr, ◌∙◌, ap, sym, subst}
use Rattle.rx_model.specs.declared.answers.BadMsg.{BadMsg}
use Rattle.rx_model.specs.declared.answers.End.{End}
use Rattle.rx_model.specs.declared.answers.End.TheVariants as ends
use Rattle.rx_model.specs.declared.answers.Took.{Took}
use Rattle.rx_model.specs.declared.answers.Took.TheVariants as tooks
use Rattle.rx_model.specs.declared.event.Event.{Event}
use Rattle.rx_model.specs.declared.event.Event.TheVariants as events
use Rattle.rx_model.specs.declared.names.CallName.{CallName}
use Rattle.rx_model.specs.declared.names.Host.{Host}
use Rattle.rx_model.specs.declared.wire.TheConstants.{CLIENT_INITIATED}
use Rattle.rx_model.specs.Body.{Body}
use Rattle.rx_model.specs.Body as bodies
use Rattle.rx_model.specs.Message.{Message, has_flag}
use Rattle.rx_model.specs.Names.{connection_of}
use Rattle.rx_model.specs.Reading.{reading_of}
use Rattle.rx_model.specs.Strays.{is_stray}
use Rattle.rx_rules.specs.After.{enters, looks, prepared, told_code}
use Rattle.rx_rules.specs.Judging.{client_outer, is_for_clients, is_peer, outer_row, took_of}
use Rattle.rx_rules.specs.Life.{Life, after_cancel, is_live}
use Rattle.rx_rules.specs.Life as lives
use Rattle.rx_rules.specs.Looks.{CallRecord, Looks, call_at, conn_at, is_call}
use Rattle.rx_rules.specs.Rules.{AllowedAt, AllowedClient, Legal}
use Rattle.rx_rules.specs.Setup.{Setup, Kind, Client, FitsSetup, is_client, named}
use Rattle.rx_history.specs.Sides.{GivesTo}
use Rattle.rx_history.specs.Streams.{end_at, end_by, end_of_life}
use Rattle.rx_law.specs.Worlds.{Gave}
use Rattle.rx_history.proofs.Data.{OwnName}
use Rattle.rx_history.proofs.Events.{call-by, calls-prepared}
use Rattle.rx_history.proofs.Fit.FitConnTaken.{may_abort}
use Rattle.rx_law.proofs.Joint.{gives-at, polled-is}
use Rattle.rx_history.proofs.Order.OrderlyHistory.{orderly_history}
use Rattle.rx_law.proofs.World.{Mine, gave-mine}
use Rattle.rx_asks.specs.History.{IsCalled}
use Rattle.rx_plan.proofs.Aborts.AbortCauses.{cancelled_live, live_latest, owed_weaker, ready_latest, taken_is}
use Rattle.rx_plan.proofs.Aborts.AbortsGiven.{IsOfCall, IsStray, poll_tells}
use Rattle.rx_plan.proofs.ClientEnds.{IsCalledOr, calls_called, end_stays}
use Rattle.rx_plan.proofs.Aborts.OwedCodes.{MayOwe, MayOweBy, MayOweFor, Owed, owed_after}
use Rattle.rx_plan.proofs.Passing.{own_changed}
use Rattle.rx_history.proofs.ClientHistory.{clients}

-- a call ended, whatever code is told of it
pub record HasEnded (l : Looks) (c : CallName) (code : ℤ) : Type 0 where
  pub end : End
  pub at : end_at l c ≡ Some end

-- a call that is given up ends
abbrev given_up : ℤ → CallRecord → CallRecord
given_up code k = record k { life = after_cancel code k.life }

cancelled_end : (code : ℤ) (o : Option CallRecord) → IsCalledOr o → is_call (λ k. is_live k.life) o ≡ true
    → end_by (option_map (given_up code) o) ≡ Some (ends.Cancelled code)
cancelled_end code None called living = absurd cc
cancelled_end code (Some k) called living = of k.life called living
  where
    of : (x : Life) → IsCalled x → is_live x ≡ true → end_of_life (after_cancel code x) ≡ Some (ends.Cancelled code)
    of lives.Calling called living = refl
    of (lives.Ended end) called living = absurd cc
    of lives.Waiting called living = absurd called
    of lives.Accepted called living = absurd called
    of lives.Finished called living = absurd called
    of (lives.Broken told) called living = absurd called
    of (lives.Over told) called living = absurd called

-- a client's call that tells a code ended
record Ending (x : Life) : Type 0 where
  end : End
  is : end_of_life x ≡ Some end

told_end : (code : ℤ) (x : Life) → IsCalled x → told_code x ≡ Some code → Ending x
told_end code lives.Calling called told = absurd cc
told_end code (lives.Ended end) called told = record { end = end; is = refl }
told_end code lives.Waiting called told = absurd called
told_end code lives.Accepted called told = absurd called
told_end code lives.Finished called told = absurd called
told_end code (lives.Broken before) called told = absurd called
told_end code (lives.Over before) called told = absurd called

-- no RESPONSE is for a client
no_response : (s : Setup) (l : Looks) (from : Host) (m : Message) (bytes : List ℕ) → client_outer s l from m ≡ None
    → m.body ≡ bodies.Response bytes → ⊥
no_response s l from m bytes front at =
    of (has_flag CLIENT_INITIATED m.flags) (is_peer from (conn_at l (connection_of (named s from m))))
    (m.index == s.class.index) (is_for_clients s.class.challenges m.body) front
    (ap (is_for_clients s.class.challenges) at)
  where
    of : (a b c d : Bool) → (if a then Some tooks.Foreign else if not b then Some tooks.Strange
        else if not (c && d) then Some tooks.Strange else None) ≡ None → d ≡ false → ⊥
    of true b c d is none = absurd cc
    of false false c d is none = absurd cc
    of false true false d is none = absurd cc
    of false true true false is none = absurd cc
    of false true true true is none = absurd cc

module _ (s : Setup) (host : Host) (epoch : ℕ) (kind : s.kind ≡ Client host epoch) (fits : FitsSetup s) where
  -- ---- a step

  later_ended : (e : Event) (h : List Event) (d : CallName) (code : ℤ) → Legal s (e ∷ h)
      → HasEnded (looks s h) d code → HasEnded (looks s (e ∷ h)) d code
  later_ended e h d code legal ended =
      record { end = ended.end; at = end_stays s host epoch kind fits e h d ended.end legal ended.at }

  cancel_owes : (h : List Event) (d : CallName) (code : ℤ) (done : Unit {0})
      → Legal s (events.Cancelled d code (Ok done) ∷ h)
      → MayOweBy (HasEnded (looks s (events.Cancelled d code (Ok done) ∷ h))) s (looks s h)
      (events.Cancelled d code (Ok done))
  cancel_owes h d code done legal =
      let l : Looks = looks s h in
      let living = cancelled_live s.kind s l d code done legal.0 in (
        live_latest s l d (orderly_history s h legal.1) living,
        record {
          end = ends.Cancelled code;
          at =
              ap end_by (own_changed d (given_up code) l (λ k. refl))
              ∙ cancelled_end code (call_at l d) (calls_called s host epoch kind fits h d legal.1) living;
        },
      )

  module _ (h : List Event) (from : Host) (bytes : List ℕ) (got : Took) (m : Message)
      (is : got ≡ took_of s (looks s h) from bytes) (reads : reading_of bytes ≡ Ok m)
      (front : outer_row s s.kind (looks s h) from m ≡ None) (legal : Legal s (events.Taken from bytes got ∷ h)) where
    abbrev d : CallName
    d = named s from m

    abbrev ready : Looks
    ready = prepared s got (connection_of d) (looks s h)

    abbrev K : CallName → ℤ → Type 0
    K = HasEnded (looks s (events.Taken from bytes got ∷ h))

    over_told : (k : CallRecord) → call_at ready d ≡ Some k → (code : ℤ) → told_code k.life ≡ Some code → K d code
    over_told k there code told =
        let at : call_at (looks s h) d ≡ Some k =
        sym (call-by d (looks s h) ready (calls-prepared s got (connection_of d) (looks s h))) ∙ there in
        let called : IsCalled k.life = subst IsCalledOr at (calls_called s host epoch kind fits h d legal.1) in
        let ended = told_end code k.life called told in
        later_ended (events.Taken from bytes got) h d code legal
        (record { end = ended.end; at = ap end_by at ∙ ended.is })

    with_body : (body : Body) → m.body ≡ body → MayOwe K tooks.Stopped d body ready
    with_body (bodies.Response text) at =
        absurd (no_response s (looks s h) from m text
        (ap (λ (q : Kind). outer_row s q (looks s h) from m) (sym kind) ∙ front) at)
    with_body _ at = tt

    with_got : (g : Took) → got ≡ g → MayOwe K g d m.body ready
    with_got tooks.Stopped same = with_body m.body refl
    with_got tooks.Over same = (
      ready_latest s h from bytes got m is reads front legal.1 (ap (λ (g : Took). may_abort g m.body) same)
          (ap enters same),
      over_told,
    )
    with_got _ same = tt

  taken_owes : (h : List Event) (from : Host) (bytes : List ℕ) (got : Took) (reading : Result Message BadMsg)
      → got ≡ took_of s (looks s h) from bytes → reading_of bytes ≡ reading
      → Legal s (events.Taken from bytes got ∷ h)
      → MayOweFor (HasEnded (looks s (events.Taken from bytes got ∷ h))) s (looks s h) from reading got
  taken_owes h from bytes got (Err bad) is reads legal = tt
  taken_owes h from bytes got (Ok m) is reads legal = λ front. with_got h from bytes got m is reads front legal got refl

  event_owes : (h : List Event) (e : Event) → AllowedClient s host epoch (looks s h) e → Legal s (e ∷ h)
      → MayOweBy (HasEnded (looks s (e ∷ h))) s (looks s h) e
  event_owes h (events.Cancelled d code (Ok done)) allowed legal = cancel_owes h d code done legal
  event_owes h (events.Cancelled d code (Err closed)) allowed legal = tt
  event_owes h (events.Taken from bytes got) allowed legal =
      taken_owes h from bytes got (reading_of bytes) (taken_is s.kind s (looks s h) from bytes got legal.0) refl legal
  event_owes h (events.Finished d code got) allowed legal = absurd allowed
  event_owes h (events.Accepted got) allowed legal = absurd allowed
  event_owes h (events.Polled got) allowed legal = tt
  event_owes h (events.Linked to service first got) allowed legal = tt
  event_owes h (events.Called cid got) allowed legal = tt
  event_owes h (events.Wrote d offered got bytes) allowed legal = tt
  event_owes h (events.Shut d got) allowed legal = tt
  event_owes h (events.HasRead d max got bytes) allowed legal = tt
  event_owes h (events.Ended d got) allowed legal = tt
  event_owes h (events.Clocked now) allowed legal = tt

  -- what a channel of a client owes is of a call that ended
  ended_owes : (h : List Event) → Legal s h → Owed (HasEnded (looks s h)) (looks s h)
  ended_owes [] legal = tt
  ended_owes (e ∷ h) legal =
      owed_after (HasEnded (looks s (e ∷ h))) s (looks s h) e
      (event_owes h e (clients s.kind s host epoch (looks s h) e kind legal.0) legal)
      (owed_weaker (HasEnded (looks s h)) (HasEnded (looks s (e ∷ h))) (looks s h).conns
      (λ c code ended. later_ended e h c code legal ended) (ended_owes h legal.1))

  -- ---- what it gives

  -- an ABORT has a call number, and its call ended
  pub record IsOfEnded (h : List Event) (to : Host) (m : Message) (code : ℤ) : Type 0 where
    pub some : is_stray m m.body ≡ false
    pub own : OwnName s.kind (named s to m)
    pub ended : HasEnded (looks s h) (named s to m) code

  no_stray : (h : List Event) (to : Host) (m : Message) (code : ℤ) → Mine s to m → IsStray s h to m code → ⊥
  no_stray h to m code mine stray =
      let none : has_flag CLIENT_INITIATED 0 ≡ is_client s.kind =
      ap (λ (n : Message). has_flag CLIENT_INITIATED n.flags) (sym stray.is) ∙ mine.flag in
      let client : is_client s.kind ≡ true = ap is_client kind in
      let never : false ≡ true = none ∙ client in
      cc

  pub client_aborts : (h : List Event) (to : Host) (bytes : List ℕ) (m : Message) (code : ℤ) → Legal s h
      → reading_of bytes ≡ Ok m → m.body ≡ bodies.Abort code → Gave to bytes h → IsOfEnded h to m code
  client_aborts [] to bytes m code legal reads aborts gave = absurd gave
  client_aborts (e ∷ h) to bytes m code legal reads aborts gave =
      by gave (λ before. client_aborts h to bytes m code legal.1 reads aborts before)
    where
      now : IsStray s h to m code ⊎ IsOfCall (HasEnded (looks s h)) s to m code → Mine s to m
          → IsOfEnded (e ∷ h) to m code
      now (inl stray) mine = absurd (no_stray h to m code mine stray)
      now (inr own) mine =
          record { some = own.some; own = own.own; ended = later_ended e h (named s to m) code legal own.has }

      by : GivesTo to bytes e ⊎ Gave to bytes h → (Gave to bytes h → IsOfEnded h to m code)
          → IsOfEnded (e ∷ h) to m code
      by (inl gives) earlier =
          (let g = gives-at to bytes e gives in
          let answer = polled-is s.kind s (looks s h) g.0
          (subst (λ (x : Event). AllowedAt s.kind s (looks s h) x) g.1 legal.0) in
          now (poll_tells (HasEnded (looks s h)) s h to bytes m code fits legal.1 (ended_owes h legal.1)
          (sym answer ∙ g.2) reads aborts) (gave-mine s (e ∷ h) to bytes m fits legal (inl gives) reads))
      by (inr gave) earlier =
          (let o = earlier gave in
          record { some = o.some; own = o.own; ended = later_ended e h (named s to m) code legal o.ended })
