-- A client's call that is found dead wasn't heard for 12,000 ms.
use Rattle.std.proofs.Common.{◌≡◌, ◌≤◌, ◌+◌, ◌-◌, ◌++◌, ◌&&◌, nat_le, cond, ℕ, Bool, true, false, ℤ, drop, List, []}
use Rattle.std.proofs.Common.{◌∷◌, Option, Some, None, option_map, Result, Ok, Err, refl, ap, sym, subst, ◌∙◌, ⊎_elim}
use Rattle.std.proofs.Common.{arith, if◌then◌else◌}
use Rattle.std.proofs.lemmas.Bool.Decides.{nat_tests}
use Rattle.rx_model.specs.declared.answers.BadMsg.{BadMsg}
use Rattle.rx_model.specs.declared.answers.End.{End}
use Rattle.rx_model.specs.declared.answers.End.TheVariants as ends
use Rattle.rx_model.specs.declared.event.Event.{Event}
use Rattle.rx_model.specs.declared.event.Event.TheVariants as events
use Rattle.rx_model.specs.declared.names.CallName.{CallName}
use Rattle.rx_model.specs.declared.names.Host.{Host}
use Rattle.rx_model.specs.declared.wire.TheConstants.{RX_CALL_DEAD, SILENCE_MS}
use Rattle.rx_model.specs.Body.{Body}
use Rattle.rx_model.specs.Body as bodies
use Rattle.rx_model.specs.Message.{Message}
use Rattle.rx_model.specs.Names.{connection_of, same_name}
use Rattle.rx_model.specs.Reading.{reading_of}
use Rattle.rx_model.specs.Strays.{is_stray}
use Rattle.rx_rules.specs.After.{after, counted, given_body, given_by, given_message, is_end, is_zero, looks}
use Rattle.rx_rules.specs.CallLooks.{CallLooks, after_ack_given, after_piece, is_delivered}
use Rattle.rx_rules.specs.Life.{Life, after_accept, after_acks, after_cancel, after_code, after_end, after_finish}
use Rattle.rx_rules.specs.Life.{after_gone, after_later, after_silence, is_active}
use Rattle.rx_rules.specs.Life as lives
use Rattle.rx_rules.specs.Looks.{CallRecord, Looks, call_at, on_looks}
use Rattle.rx_rules.specs.Records.{is_silent, silence_of, silenced, unless_silent}
use Rattle.rx_rules.specs.Rules.{Legal}
use Rattle.rx_rules.specs.Setup.{Setup, Client, FitsSetup, named}
use Rattle.rx_rules.proofs.CallsLaws.{call_at-on_calls}
use Rattle.rx_history.proofs.Calls.{call-changed}
use Rattle.rx_history.specs.Streams.{end_at, end_by, end_of_life}
use Rattle.rx_between.proofs.Each.EachEvent.{each_step}
use Rattle.rx_between.proofs.Each.EachStep.{CallStep, Goes, IsMade, LifeStep, Opens, Starts, accepted, cancelled}
use Rattle.rx_between.proofs.Each.EachStep.{finished}
use Rattle.rx_between.proofs.Each.EachStep.{gone, is_acked, is_busy, is_followed, is_stopped, lives_on, read_out}
use Rattle.rx_between.proofs.Each.EachStep as steps
use Rattle.rx_asks.specs.History.{IsCalled}
use Rattle.rx_plan.proofs.ClientEnds.{IsCalledOr, calls_called, end_stays}
use Rattle.rx_closing.proofs.Rounds.SpokeHolds.{HeardOn, heard_rises, now_rises}

-- ---- a poll leaves lives, but that silent calls end

abbrev life_of : Option CallRecord → Option Life
life_of o = option_map (λ (k : CallRecord). k.life) o

abbrev with-looks : (CallLooks → CallLooks) → CallRecord → CallRecord
with-looks change k = record k { looks = change k.looks }

module _ (s : Setup) (l : Looks) (c : CallName) where
  changed-life : (d : CallName) (change : CallLooks → CallLooks)
      → life_of (call_at (on_looks d change l) c) ≡ life_of (call_at l c)
  changed-life d change =
      ap life_of (call-changed c d (with-looks change) l (λ k. refl))
      ∙ of (same_name c d) (call_at l c)
    where
      of : (b : Bool) (o : Option CallRecord)
          → life_of (cond b (option_map (with-looks change) o) o) ≡ life_of o
      of true None = refl
      of true (Some k) = refl
      of false o = refl

  body-life : (d : CallName) (m : Message) (body : Body)
      → life_of (call_at (given_body d m body (counted (connection_of d) l)) c) ≡ life_of (call_at l c)
  body-life d m (bodies.Chunk payload) = changed-life d (after_piece l.now m.seq)
  body-life d m (bodies.Ack a) = changed-life d (after_ack_given l.now)
  body-life d m _ = refl

  given-life : (got : Option (Host × List ℕ)) → life_of (call_at (given_by s got l) c) ≡ life_of (call_at l c)
  given-life None = refl
  given-life (Some (to, bytes)) = of (reading_of bytes)
    where
      of : (r : Result Message BadMsg) → life_of (call_at (given_message s to r l) c) ≡ life_of (call_at l c)
      of (Err bad) = refl
      of (Ok m) = by (is_stray m m.body)
        where
          by : (b : Bool) → life_of (call_at (if b then record l { strays = drop 1 l.strays }
              else given_body (named s to m) m m.body (counted (connection_of (named s to m)) l)) c)
              ≡ life_of (call_at l c)
          by true = refl
          by false = body-life (named s to m) m m.body

-- ---- one event

some_life : (o : Option CallRecord) (b : CallRecord) (x : Life) → o ≡ Some b → life_of o ≡ Some x → b.life ≡ x
some_life o b x is lives =
    (let both : ◌≡◌ {A = Option Life} (Some b.life) (Some x) = sym (ap life_of is) ∙ lives in cc (both))

-- where both hold the second does
pub both_second : (a b : Bool) → (a && b) ≡ true → b ≡ true
both_second true b is = is
both_second false b is = absurd cc

-- a call that isn't silent doesn't end by a poll
poll_leaves : (s : Setup) (l : Looks) (c : CallName) (got : Option (Host × List ℕ)) (a b : CallRecord)
    → call_at l c ≡ Some a → call_at (after s (events.Polled got) l) c ≡ Some b → is_silent l.now a ≡ false
    → b.life ≡ a.life
poll_leaves s l c got a b there behind awake =
    some_life (call_at (after s (events.Polled got) l) c) b a.life behind
    (given-life s (silenced l) c got
    ∙ ap life_of (call_at-on_calls c (unless_silent l.now) l names ∙ ap (option_map (unless_silent l.now)) there)
    ∙ ap (λ (q : Bool). life_of
    (Some (cond q (record a { life = after_silence (silence_of l.now a) a.life }) a))) awake)
  where
    names : (k : CallRecord) → (unless_silent l.now k).name ≡ k.name
    names k = of (is_silent l.now k)
      where
        of : (q : Bool) → (cond q (record k { life = after_silence (silence_of l.now k) k.life }) k).name ≡ k.name
        of true = refl
        of false = refl

-- one that is found dead by an event was silent
pub dead_step : (s : Setup) (e : Event) (h : List Event) (c : CallName) (a : CallRecord) (silence : ℕ) → FitsSetup s
    → Legal s (e ∷ h) → call_at (looks s h) c ≡ Some a → a.life ≡ lives.Calling
    → end_at (looks s (e ∷ h)) c ≡ Some (ends.Dead silence) → a.looks.heard + 12000 ≤ (looks s h).now
dead_step s e h c a silence fits legal there calling dead =
    of (call_at (looks s (e ∷ h)) c) refl dead
    (subst (λ (o : Option CallRecord). CallStep s (looks s h) e c o (call_at (looks s (e ∷ h)) c)) there
    (each_step s h e c fits legal))
  where
    no_end : (x : Life) → end_of_life x ≡ None → end_of_life x ≡ Some (ends.Dead silence) → ⊥
    no_end x none is = (let both : ◌≡◌ {A = Option End} None (Some (ends.Dead silence)) = sym none ∙ is in cc (both))

    other : (x : Life) (end : End) → end_of_life x ≡ Some end → end_of_life x ≡ Some (ends.Dead silence)
        → end ≡ ends.Dead silence
    other x end one is =
        (let both : ◌≡◌ {A = Option End} (Some end) (Some (ends.Dead silence)) = sym one ∙ is in cc (both))

    ended : (q : Bool) → end_of_life (after_end q lives.Calling) ≡ Some (ends.Dead silence) → ⊥
    ended true is = (let both : ◌≡◌ {A = Option End} (Some ends.Ok) (Some (ends.Dead silence)) = is in cc (both))
    ended false is = no_end lives.Calling refl is

    fine : (q : Bool) (code : ℤ) → end_of_life (after_finish q code lives.Calling) ≡ Some (ends.Dead silence) → ⊥
    fine true code is = no_end lives.Calling refl is
    fine false code is = no_end lives.Calling refl is

    quiet : (q : Bool) → is_silent (looks s h).now a ≡ q → (b : CallRecord) (got : Option (Host × List ℕ))
        → e ≡ events.Polled got → call_at (looks s (e ∷ h)) c ≡ Some b → end_of_life b.life ≡ Some (ends.Dead silence)
        → a.looks.heard + 12000 ≤ (looks s h).now
    quiet true silent b got event is dead =
        (let size : SILENCE_MS ≡ 12000 = refl in
        let long : nat_le SILENCE_MS ((looks s h).now - a.looks.heard) ≡ true =
        both_second (is_active a.life) (nat_le SILENCE_MS ((looks s h).now - a.looks.heard)) silent in
        grind (arith, nat_tests))
    quiet false awake b got event is dead =
        absurd (let same = poll_leaves s (looks s h) c got a b there
        (ap (λ (x : Event). call_at (after s x (looks s h)) c) (sym event) ∙ is) awake in
        no_end b.life (ap end_of_life (same ∙ calling)) dead)

    goes : (b : CallRecord) → call_at (looks s (e ∷ h)) c ≡ Some b → end_of_life b.life ≡ Some (ends.Dead silence)
        → LifeStep s (looks s h) e c b.looks a.life b.life → a.looks.heard + 12000 ≤ (looks s h).now
    goes b is dead step = by step
      where
        at : (f : Life → Life) → b.life ≡ f a.life → end_of_life (f lives.Calling) ≡ Some (ends.Dead silence)
        at f same = ap (λ (x : Life). end_of_life (f x)) (sym calling) ∙ sym (ap end_of_life same) ∙ dead

        by : LifeStep s (looks s h) e c b.looks a.life b.life → a.looks.heard + 12000 ≤ (looks s h).now
        by (lives_on same) = absurd (no_end lives.Calling refl (at (λ x. x) same))
        by (is_stopped code stops same) =
            absurd (let end =
            other (lives.Ended (ends.Abort code)) (ends.Abort code) refl (at (after_code code) same) in cc (end))
        by (is_busy busy same) =
            absurd (let end = other (lives.Ended (ends.Abort RX_CALL_DEAD)) (ends.Abort RX_CALL_DEAD) refl
            (at (after_code RX_CALL_DEAD) same) in cc (end))
        by (is_followed later same) = absurd (no_end lives.Calling refl (at after_later same))
        by (is_acked m judges same) = absurd (no_end lives.Calling refl (at (after_acks (is_delivered b.looks)) same))
        by (steps.is_silent got long event same) =
            quiet (is_silent (looks s h).now a) refl b got event is dead
        by (accepted event same) = absurd (no_end lives.Calling refl (at after_accept same))
        by (finished code event same) = absurd (fine (is_zero code) code (at (after_finish (is_zero code) code) same))
        by (gone code told event same) = absurd (no_end lives.Calling refl (at after_gone same))
        by (read_out most got bytes event same) = absurd (ended (is_end got) (at (after_end (is_end got)) same))
        by (cancelled code event same) =
            absurd (let end = other (lives.Ended (ends.Cancelled code)) (ends.Cancelled code) refl
            (at (after_cancel code) same) in cc (end))

    of : (o : Option CallRecord) → call_at (looks s (e ∷ h)) c ≡ o → end_by o ≡ Some (ends.Dead silence)
        → CallStep s (looks s h) e c (Some a) o → a.looks.heard + 12000 ≤ (looks s h).now
    of None is dead step = absurd step
    of (Some b) is dead step =
        ⊎_elim (λ (g : Goes s (looks s h) e c a b). goes b is dead g.life)
        (λ (starts : Starts s (looks s h) e c b). ⊎_elim
        (λ (o : Opens s (looks s h) e c b). absurd (no_end b.life (ap end_of_life o.life) dead))
        (λ (m : IsMade s (looks s h) e c b). absurd (no_end b.life (ap end_of_life m.life) dead)) starts.1) step

-- ---- any events

module _ (s : Setup) (host : Host) (epoch : ℕ) where
  -- one that is found dead behind any events wasn't heard for long
  pub dies_silent : s.kind ≡ Client host epoch → FitsSetup s
      → (later h : List Event) (c : CallName) (a : CallRecord) (silence : ℕ) → Legal s (later ++ h)
      → call_at (looks s h) c ≡ Some a → a.life ≡ lives.Calling
      → end_at (looks s (later ++ h)) c ≡ Some (ends.Dead silence) → a.looks.heard + 12000 ≤ (looks s (later ++ h)).now
  dies_silent kind fits [] h c a silence legal there calling dead =
      absurd (let both : ◌≡◌ {A = Option End} None (Some (ends.Dead silence)) =
      sym (ap end_by there ∙ ap end_of_life calling) ∙ dead in cc (both))
  dies_silent kind fits (e ∷ later) h c a silence legal there calling dead =
      of (λ ended. dies_silent kind fits later h c a silence legal.1 there calling ended) (on.call.life) refl
      (subst IsCalledOr on.there (calls_called s host epoch kind fits (later ++ h) c legal.1))
    where
      on : HeardOn s (later ++ h) c a
      on = heard_rises s later h c a fits legal.1 there

      of : (end_at (looks s (later ++ h)) c ≡ Some (ends.Dead silence)
          → a.looks.heard + 12000 ≤ (looks s (later ++ h)).now) → (x : Life) → on.call.life ≡ x → IsCalled on.call.life
          → a.looks.heard + 12000 ≤ (looks s (e ∷ (later ++ h))).now
      of again lives.Calling is called =
          (let low = on.heard in
          let up = now_rises s (looks s (later ++ h)) e legal.0 in
          let long = dead_step s e (later ++ h) c on.call silence fits legal on.there is dead in
          omega (arith, low, up, long))
      of again (lives.Ended end) is called =
          (let before : end_at (looks s (later ++ h)) c ≡ Some end = ap end_by on.there ∙ ap end_of_life is in
          let behind = end_stays s host epoch kind fits e (later ++ h) c end legal before in
          let same : end ≡ ends.Dead silence =
          (let both : ◌≡◌ {A = Option End} (Some end) (Some (ends.Dead silence)) = sym behind ∙ dead in cc (both)) in
          let long = again (before ∙ ap (λ (x : End). Some x) same) in
          let up = now_rises s (looks s (later ++ h)) e legal.0 in
          omega (arith, long, up))
      of again _ is called = absurd (subst IsCalled is called)
