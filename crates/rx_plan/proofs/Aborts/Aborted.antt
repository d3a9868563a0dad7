-- What a server told a client's call is what is served for its request, or nothing was heard of it for too long, or the
-- two don't have one key.
use Rattle.std.proofs.Common.{◌≡◌, ◌⊎◌, ◌==◌, ◌++◌, cond, ℕ, ℤ, pos, Bool, true, false, List, [], ◌∷◌, Option}
use Rattle.std.proofs.Common.{Some, None, Ok, refl, inl, inr, ◌∙◌, ap, sym, subst, slice_get, append_assoc}
use Rattle.rx_model.specs.declared.answers.End.{End}
use Rattle.rx_model.specs.declared.answers.End.TheVariants as ends
use Rattle.rx_model.specs.declared.event.Event.TheVariants as events
use Rattle.rx_model.specs.declared.event.Noted.{Noted}
use Rattle.rx_model.specs.declared.names.CallName.{CallName}
use Rattle.rx_model.specs.declared.names.Host.{Host}
use Rattle.rx_model.specs.Body as bodies
use Rattle.rx_model.specs.Message.{Message}
use Rattle.rx_model.specs.Names.{Connection, connection_of, name_of}
use Rattle.rx_model.specs.Reading.{reading_of}
use Rattle.rx_model.specs.Strays.{is_stray}
use Rattle.rx_rules.specs.After.{is_zero, looks}
use Rattle.rx_rules.specs.Life.{is_live}
use Rattle.rx_rules.specs.Looks.{call_at, is_call}
use Rattle.rx_rules.specs.Rules.{Legal}
use Rattle.rx_rules.specs.Setup.{Setup, Server, Client, FitsSetup, named}
use Rattle.rx_rules.proofs.EveryLaws.{Every}
use Rattle.rx_law.specs.Promises.{EndsByAbort, at_client, ends_in}
use Rattle.rx_history.specs.Sides.{Node, side}
use Rattle.rx_history.specs.Starts.{StartsOnce}
use Rattle.rx_history.specs.Streams.{end_at, said}
use Rattle.rx_law.specs.Worlds.{Carried, Gave, IsFrom, TwoEnds, World, bag}
use Rattle.rx_history.proofs.Client.{StoppedBy}
use Rattle.rx_law.proofs.Joint.{Fed, fed-at, legal-before, not-both, server-name}
use Rattle.rx_law.proofs.Law.{law-of, side-split}
use Rattle.rx_law.proofs.World.{if-some}
use Rattle.rx_jobs.specs.Handlers.{Handlers, served_for}
use Rattle.rx_script.specs.Served.{refusal}
use Rattle.rx_wire.specs.Turns.{noted}
use Rattle.rx_plan.specs.Answering.{AbortsAs, EndsAsServed}
use Rattle.rx_plan.specs.Causes.{IsSilenced}
use Rattle.rx_plan.specs.Follows.{class_of}
use Rattle.rx_plan.proofs.Aborts.AbortCauses.{HasCode, LaterBy, WrongBy, taken_is}
use Rattle.rx_plan.proofs.Aborts.AbortComes.{abort_ended}
use Rattle.rx_plan.proofs.Aborts.AbortsGiven.{IsOfCall, IsStray, aborts_given}
use Rattle.rx_plan.proofs.Aborts.ClientAborts.{HasEnded}
use Rattle.rx_plan.proofs.ClientEnds.{IsThere, end_stays, lived, there_stays}
use Rattle.rx_plan.proofs.Told.From.{FinishedIn, ToldIn, Why, code_from, finished_over, silenced_over}
use Rattle.rx_plan.proofs.FirstEnd.{FirstEnd, first_end}
use Rattle.rx_plan.proofs.JointMoments.{legal_cut, starts_cut}
use Rattle.rx_plan.proofs.LaterComes.{later_there, none_later}
use Rattle.rx_plan.proofs.Keys.ServicesStay.{LinksTo}
use Rattle.rx_plan.proofs.Keys.StrayKeys.{stray_key}
use Rattle.rx_plan.proofs.Keys.WrongKeys.{keys_differ}
use Rattle.rx_jobs.proofs.Driving.{every-back}
use Rattle.rx_plan.proofs.Bags.{carried_before}

-- ---- earlier moments of a joint history

ended_over : (s : Setup) (host : Host) (epoch : ℕ) → s.kind ≡ Client host epoch → FitsSetup s → (j : ℕ)
    → (later now : List Noted) (c : CallName) (end : End) → Legal s (side j (later ++ now))
    → end_at (looks s (side j now)) c ≡ Some end → end_at (looks s (side j (later ++ now))) c ≡ Some end
ended_over s host epoch kind fits j [] now c end legal is = is
ended_over s host epoch kind fits j (e ∷ later) now c end legal is =
    of (e.node == j) legal
    (ended_over s host epoch kind fits j later now c end
    (legal-before s (e.node == j) e.event (side j (later ++ now)) legal) is)
  where
    of : (b : Bool) → Legal s (cond b (e.event ∷ side j (later ++ now)) (side j (later ++ now)))
        → end_at (looks s (side j (later ++ now))) c ≡ Some end
        → end_at (looks s (cond b (e.event ∷ side j (later ++ now)) (side j (later ++ now)))) c ≡ Some end
    of true legal at = end_stays s host epoch kind fits e.event (side j (later ++ now)) c end legal at
    of false legal at = at

there_over : (s : Setup) (host : Host) (epoch : ℕ) → s.kind ≡ Client host epoch → FitsSetup s → (j : ℕ)
    → (later now : List Noted) (c : CallName) → Legal s (side j (later ++ now)) → IsThere (looks s (side j now)) c
    → IsThere (looks s (side j (later ++ now))) c
there_over s host epoch kind fits j [] now c legal is = is
there_over s host epoch kind fits j (e ∷ later) now c legal is =
    of (e.node == j) legal
    (there_over s host epoch kind fits j later now c
    (legal-before s (e.node == j) e.event (side j (later ++ now)) legal) is)
  where
    of : (b : Bool) → Legal s (cond b (e.event ∷ side j (later ++ now)) (side j (later ++ now)))
        → IsThere (looks s (side j (later ++ now))) c
        → IsThere (looks s (cond b (e.event ∷ side j (later ++ now)) (side j (later ++ now)))) c
    of true legal at = there_stays s host epoch kind fits e.event (side j (later ++ now)) c legal at
    of false legal at = at

-- ---- an ABORT that ended a client's call has a cause

-- the keys of a client and a server, and that the client's connections are made for the server's service
pub record AreKeyed (own other : Option (List ℕ)) (k : ℕ) (h : List Noted) (client server : Node) : Type 0 where
  pub own_class : client.setup.class ≡ class_of own
  pub other_class : server.setup.class ≡ class_of other
  pub service : ℕ
  pub nonces : ℕ
  pub serving : server.setup.kind ≡ Server service nonces
  pub links : Every (LinksTo service) (side k h)

module _ (g : Handlers) (nodes : List Node) (h : List Noted) (w : World nodes h) (c : CallName) (k : ℕ)
    (client server : Node) (there : slice_get nodes k ≡ Some client)
    (kind : client.setup.kind ≡ Client c.host c.epoch) (first : slice_get nodes 0 ≡ Some server)
    (request : List ℕ) (code : ℤ) (fed : Fed (ends_in (connection_of c) k client server) h)
    (serves : (later before : List Noted) (with : ℤ) → h ≡ later ++ noted 0 (events.Finished c with (Ok tt)) ∷ before
    → EndsAsServed g request (said (looks server.setup (side 0 before)) c) with)
    (own other : Option (List ℕ)) (keyed : AreKeyed own other k h client server) where
  abbrev x : TwoEnds
  x = ends_in (connection_of c) k client server

  -- its handler's code is what is served
  finished : FinishedIn h c code → served_for g request ≡ refusal code
  finished f = of (serves f.later f.before code f.is)
    where
      of : EndsAsServed g request (said (looks server.setup (side 0 f.before)) c) code
          → served_for g request ≡ refusal code
      of (inl refused) = refused
      of (inr fine) =
          absurd (let never : is_zero (pos 0) ≡ false = subst (λ (n : ℤ). is_zero n ≡ false) fine.0 f.some in cc)

  -- while the client's call hadn't ended
  module _ (later before : List Noted) (cut : h ≡ later ++ before)
      (unended : end_at (looks client.setup (side k before)) c ≡ None)
      (living : is_call (λ k. is_live k.life) (call_at (looks client.setup (side k before)) c) ≡ true) where
    legal_at : (j : ℕ) (n : Node) → slice_get nodes j ≡ Some n → Legal n.setup (side j before)
    legal_at j n at =
        legal_cut n.setup j later before
        (subst (λ (es : List Noted). Legal n.setup (side j es)) cut
        (if-some (slice_get nodes j) n (λ m. Legal m.setup (side j h)) at (w.sides.legal j)))

    legal_client : Legal client.setup (side k before)
    legal_client = legal_at k client there

    -- what told the server
    module _ (t : ToldIn server.setup before c code) where
      abbrev told_at : Noted
      told_at = noted 0 (events.Taken t.from t.bytes t.got)

      abbrev rest : List Noted
      rest = told_at ∷ t.before

      carried : Carried nodes rest
      carried =
          carried_before nodes t.later rest
          (subst (Carried nodes) t.is (carried_before nodes later before (subst (Carried nodes) cut w.carried)))

      contains : IsFrom (bag nodes t.before) server.host (events.Taken t.from t.bytes t.got)
      contains =
          if-some (slice_get nodes 0) server
          (λ n. IsFrom (bag nodes t.before) n.host (events.Taken t.from t.bytes t.got)) first carried.0

      legal_rest : (j : ℕ) (n : Node) → slice_get nodes j ≡ Some n → Legal n.setup (side j rest)
      legal_rest j n at =
          legal_cut n.setup j t.later rest
          (subst (λ (es : List Noted). Legal n.setup (side j es)) t.is (legal_at j n at))

      legal_then : (j : ℕ) (n : Node) → slice_get nodes j ≡ Some n → Legal n.setup (side j t.before)
      legal_then j n at =
          legal-before n.setup (0 == j) (events.Taken t.from t.bytes t.got) (side j t.before) (legal_rest j n at)

      -- no ABORT
      untold : StoppedBy server.setup (looks server.setup (side 0 t.before)) t.from t.bytes c code → ⊥
      untold told =
          let ended : HasEnded (looks client.setup (side k t.before)) c code =
          abort_ended nodes k client server (connection_of c) there kind first w.sides.nodes_are w.apart t.before t.from
          t.bytes c code legal_then refl told fed.server_kind contains in
          let at : end_at (looks client.setup (side k before)) c ≡ Some ended.end =
          subst (λ (es : List Noted). end_at (looks client.setup (side k es)) c ≡ Some ended.end) (sym t.is)
          (ended_over client.setup c.host c.epoch kind fed.client_fits k t.later rest c ended.end
          (subst (λ (es : List Noted). Legal client.setup (side k es)) t.is legal_client)
          (ended_over client.setup c.host c.epoch kind fed.client_fits k
          (noted 0 (events.Taken t.from t.bytes t.got) ∷ []) t.before c ended.end (legal_rest k client there)
          ended.at)) in
          let never : None ≡ Some ended.end = sym unended ∙ at in
          cc

      -- no later call
      unfollowed : LaterBy server.setup (looks server.setup (side 0 t.before)) t.from t.bytes c code → ⊥
      unfollowed b =
          let d : CallName = named server.setup t.from b.message in
          let at : IsThere (looks client.setup (side k before)) d =
          subst (λ (es : List Noted). IsThere (looks client.setup (side k es)) d) (sym t.is)
          (there_over client.setup c.host c.epoch kind fed.client_fits k t.later rest d
          (subst (λ (es : List Noted). Legal client.setup (side k es)) t.is legal_client)
          (there_over client.setup c.host c.epoch kind fed.client_fits k
          (noted 0 (events.Taken t.from t.bytes t.got) ∷ []) t.before d (legal_rest k client there)
          (later_there nodes k client server (connection_of c) there kind first w.sides.nodes_are w.apart t.before
          t.from t.bytes c code legal_then refl b fed.server_kind contains))) in
          none_later client.setup c.host c.epoch kind fed.client_fits (side k before) c d legal_client living at b.on
          b.above

      -- so it was a wrong RESPONSE
      told_why : AbortsAs g own other server (side 0 h) c request code
      told_why = of t.by
        where
          of : StoppedBy server.setup (looks server.setup (side 0 t.before)) t.from t.bytes c code
              ⊎ (LaterBy server.setup (looks server.setup (side 0 t.before)) t.from t.bytes c code
              ⊎ WrongBy server.setup (looks server.setup (side 0 t.before)) t.from t.bytes t.got c code)
              → AbortsAs g own other server (side 0 h) c request code
          of (inl told) = absurd (untold told)
          of (inr (inl b)) = absurd (unfollowed b)
          of (inr (inr wrong)) =
              inr (inr (inl (
                wrong.code_is,
                keys_differ nodes k client server (connection_of c) there kind first w.sides.nodes_are w.apart t.before
                    fed.server_kind legal_then carried.1 own other keyed.own_class keyed.other_class t.from t.bytes
                    t.got c code refl
                    (starts_cut server.setup c (later ++ (t.later ++ told_at ∷ [])) t.before
                    (subst (λ (es : List Noted). StartsOnce server.setup (side 0 es) c)
                    (cut ∙ ap (λ (es : List Noted). later ++ es)
                    (t.is ∙ sym (append_assoc t.later (told_at ∷ []) t.before))
                    ∙ sym (append_assoc later (t.later ++ told_at ∷ []) t.before)) (fed.once c refl)))
                    (taken_is server.setup.kind server.setup (looks server.setup (side 0 t.before)) t.from t.bytes t.got
                    (legal_rest 0 server first).0) contains wrong,
              )))

    by_why : Why server.setup before (side 0 before) c code → AbortsAs g own other server (side 0 h) c request code
    by_why (inl f) = inl (finished (subst (λ (es : List Noted). FinishedIn es c code) (sym cut)
        (finished_over c code later before f)))
    by_why (inr (inl told)) = told_why told
    by_why (inr (inr silent)) =
        inr (inl (
          silent.0,
          subst (λ (es : List Noted). IsSilenced server.setup (side 0 es) c) (sym cut)
              (silenced_over server.setup c later before silent.1),
        ))

    -- what a stray abort means
    stray_why : (m : Message)
        → (name_of c.host m ≡ c) ⊎ ((m.number ≡ 0) × (connection_of (name_of c.host m) ≡ connection_of c))
        → IsStray server.setup (side 0 before) c.host m code → AbortsAs g own other server (side 0 h) c request code
    stray_why m named_c x =
        inr (inr (inr (
          x.code_is,
          stray_key nodes k client server (connection_of c) there kind first w.sides.nodes_are w.apart before
              keyed.service keyed.nonces keyed.serving legal_at
              (carried_before nodes later before (subst (Carried nodes) cut w.carried))
              (every-back (LinksTo keyed.service) (side k later) (side k before)
              (subst (Every (LinksTo keyed.service)) (ap (side k) cut ∙ side-split k later before) keyed.links)) own
              other keyed.own_class keyed.other_class x.stray x.host
              (sym (ap (λ (n : Message). n.epoch) x.is) ∙ its_epoch named_c) x.came,
        )))
      where
        its_epoch : (name_of c.host m ≡ c) ⊎ ((m.number ≡ 0) × (connection_of (name_of c.host m) ≡ connection_of c))
            → m.epoch ≡ c.epoch
        its_epoch (inl is) = ap (λ (d : CallName). d.epoch) is
        its_epoch (inr all) = ap (λ (z : Connection). z.epoch) all.1

    -- what the server gave till then
    given_why : (bytes : List ℕ) (m : Message) → reading_of bytes ≡ Ok m → m.body ≡ bodies.Abort code
        → (name_of c.host m ≡ c) ⊎ ((m.number ≡ 0) × (connection_of (name_of c.host m) ≡ connection_of c))
        → Gave c.host bytes (side 0 before) → AbortsAs g own other server (side 0 h) c request code
    given_why bytes m reads aborts named_c gave =
        of (aborts_given server.setup (side 0 before) c.host bytes m code fed.server_fits legal reads aborts gave)
      where
        legal : Legal server.setup (side 0 before)
        legal = legal_at 0 server first

        name : IsOfCall (HasCode server.setup (side 0 before)) server.setup c.host m code
            → (name_of c.host m ≡ c) ⊎ ((m.number ≡ 0) × (connection_of (name_of c.host m) ≡ connection_of c))
            → AbortsAs g own other server (side 0 h) c request code
        name told (inl is) =
            by_why (code_from server.setup before c code fed.server_kind legal
            (subst (λ (d : CallName). HasCode server.setup (side 0 before) d code)
            (server-name server.setup c.host m fed.server_kind ∙ is) told.has))
        name told (inr none) =
            absurd (let stray : is_stray m m.body ≡ true =
            ap (is_stray m) aborts ∙ ap (λ (n : ℕ). n == 0) none.0 in
            let never : true ≡ false = sym stray ∙ told.some in cc)

        of : IsStray server.setup (side 0 before) c.host m code
            ⊎ IsOfCall (HasCode server.setup (side 0 before)) server.setup c.host m code
            → AbortsAs g own other server (side 0 h) c request code
        of (inl stray) = stray_why m named_c stray
        of (inr told) = name told named_c

  -- of one that ended with the code
  pub aborted_as : end_at (at_client x h) c ≡ Some (ends.Abort code)
      → AbortsAs g own other server (side 0 h) c request code
  aborted_as ended =
      let f : FirstEnd x c (ends.Abort code) h = first_end x h c (ends.Abort code) fed ended in
      let then : Fed x (f.event ∷ f.before) = fed-at x f.later (f.event ∷ f.before) (subst (Fed x) f.is fed) in
      let a : EndsByAbort x c code (f.event ∷ f.before) =
      (law-of x (f.event ∷ f.before) c then refl).ends (ends.Abort code) f.now in
      given_why (f.later ++ (f.event ∷ [])) f.before (f.is ∙ sym (append_assoc f.later (f.event ∷ []) f.before))
      f.unended (living_then f.event f.before f.here then f.unended f.now) a.bytes a.message a.reads a.body a.name
      (given_before f.event f.before a.bytes (f.event.node == 0) refl f.here a.gave)
    where
      living_then : (e : Noted) (before : List Noted) → (e.node == k) ≡ true → Fed x (e ∷ before)
          → end_at (at_client x before) c ≡ None → end_at (at_client x (e ∷ before)) c ≡ Some (ends.Abort code)
          → is_call (λ k. is_live k.life) (call_at (looks client.setup (side k before)) c) ≡ true
      living_then e before here then none now =
          lived client.setup c.host c.epoch kind fed.client_fits e.event (side k before) c (ends.Abort code)
          (subst (λ (b : Bool). Legal client.setup (cond b (e.event ∷ side k before) (side k before))) here
          then.client_legal)
          none
          (subst (λ (b : Bool). end_at (looks client.setup (cond b (e.event ∷ side k before) (side k before))) c
          ≡ Some (ends.Abort code)) here now)

      given_before : (e : Noted) (before : List Noted) (bytes : List ℕ) (b : Bool) → (e.node == 0) ≡ b
          → (e.node == k) ≡ true → Gave c.host bytes (cond b (e.event ∷ side 0 before) (side 0 before))
          → Gave c.host bytes (side 0 before)
      given_before e before bytes true none here gave = absurd (not-both k 0 e.node fed.apart here none)
      given_before e before bytes false other here gave = gave
