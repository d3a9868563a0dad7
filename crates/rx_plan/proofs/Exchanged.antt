-- What a handler ends with is served for the request that the caller said.
use Rattle.std.proofs.Common.{◌≡◌, ◌⊎◌, ℕ, ℤ, pos}
use Rattle.std.proofs.Common.{Bool, true, false, List, [], ◌∷◌, ◌++◌, Option, Some, None, option_map, Result, Ok}
use Rattle.std.proofs.Common.{refl, inl, inr, ◌∙◌, ap, sym, subst, arith, append-nil, append_assoc, length, slice_get}
use Rattle.hex.specs.Hex.{IsBytes}
use Rattle.std.proofs.Math.Seq.{drop-append_seam}
use Rattle.xdr_code.proofs.Bytes.{IsBytes-drop}
use Rattle.rx_model.specs.declared.answers.ServeRefused.{ServeRefused}
use Rattle.rx_model.specs.declared.event.Event.{Event}
use Rattle.rx_model.specs.declared.event.Event.TheVariants as events
use Rattle.rx_model.specs.declared.event.Noted.{Noted}
use Rattle.rx_model.specs.declared.names.CallName.{CallName}
use Rattle.rx_model.specs.Names.{Connection, connection_of}
use Rattle.rx_rules.specs.After.{after, looks}
use Rattle.rx_rules.specs.CallLooks.{after_shut}
use Rattle.rx_rules.specs.Life.{after_finish}
use Rattle.rx_rules.specs.Looks.{CallRecord, Looks, call_at, on_looks}
use Rattle.rx_rules.specs.Rules.{AllowedServer, Legal, served_finish}
use Rattle.rx_rules.specs.Setup.{Setup, Client, IsServer}
use Rattle.rx_history.specs.Counts.{Once}
use Rattle.rx_law.specs.Promises.{EndsOk, RequestWhole, ServerForgotNone, ends_in}
use Rattle.rx_history.specs.Sides.{Node, side}
use Rattle.rx_history.specs.Starts.{StartsOnce}
use Rattle.rx_history.specs.Streams as streams
use Rattle.rx_law.specs.Times.{Timely}
use Rattle.rx_history.specs.Alone.{ForgotNone}
use Rattle.rx_law.specs.Worlds.{TwoEnds, World}
use Rattle.rx_history.proofs.Ends.{ends_of}
use Rattle.rx_law.proofs.Joint.{between, Fed, Grown, client-grown, fed-at, fed-before, server-grown}
use Rattle.rx_law.proofs.Law.{law-of, side-split, said-is, shut-is}
use Rattle.rx_history.proofs.Laws.OnceLaw.{served}
use Rattle.rx_law.proofs.StartsTimed.{starts-once}
use Rattle.rx_law.proofs.World.{if-some, world-fed, world-fed-by}
use Rattle.rx_law.proofs.WorldTimed.{world-lately}
use Rattle.rx_asks.specs.History.{Tells}
use Rattle.rx_asks.specs.View.{CallerState}
use Rattle.rx_jobs.specs.Dispatching.{Turning}
use Rattle.rx_jobs.specs.Handlers.{Handlers, served_for}
use Rattle.rx_jobs.specs.History.{life_of}
use Rattle.rx_jobs.specs.Lives.{CodeIs, MayFinish, bytes_read, bytes_written, has_end}
use Rattle.rx_script.specs.Served.{bytes, refusal}
use Rattle.rx_wire.specs.Turns.{noted}
use Rattle.rx_plan.specs.Answering.{EndsAsServed}
use Rattle.rx_plan.specs.Answers.{said}
use Rattle.rx_plan.proofs.Cuts.{FinishIn, finish_in, once_at, starts_at}
use Rattle.rx_plan.proofs.Finishing.{Finishing, finishes_exactly, finishing, once_before}
use Rattle.rx_plan.proofs.Callers.{side_other, side_own}
use Rattle.rx_plan.proofs.Handling.{Serves, accepts_fresh}
use Rattle.rx_plan.proofs.Passed.{Passed, passed_of}
use Rattle.rx_plan.proofs.Passing.{own_changed, passes_told, told_of}
use Rattle.rx_history.proofs.Laws.EnteredLaw.{legal-before}

-- ---- a shut stream stays as it is

pub said_passed : (o : Option CallRecord) → streams.said_by o ≡ (passed_of o).said
said_passed None = refl
said_passed (Some k) = refl

pub read_passed : (o : Option CallRecord) → streams.read_by o ≡ (passed_of o).read
read_passed None = refl
read_passed (Some k) = refl

pub stays_shut : (s : Setup) (c : CallName) (later before : List Event) → Grown s c (later ++ before)
    → (ends_of (call_at (looks s before) c)).shut ≡ true
    → ((ends_of (call_at (looks s (later ++ before)) c)).shut ≡ true)
    × ((ends_of (call_at (looks s (later ++ before)) c)).said ≡ (ends_of (call_at (looks s before) c)).said)
stays_shut s c [] before grown shut = (shut, refl)
stays_shut s c (e ∷ later) before grown shut =
    let old = stays_shut s c later before grown.2 shut in
    let stops = grown.0.stops old.0 in (
      stops.1,
      grown.0.joined ∙ ap (λ (xs : List ℕ). (ends_of (call_at (looks s (later ++ before)) c)).said ++ xs) stops.0
          ∙ append-nil (ends_of (call_at (looks s (later ++ before)) c)).said ∙ old.1,
    )

-- a finish with 0 that answers ok shuts the reply, and says nothing
pub shut_by_finish : (s : Setup) (l : Looks) (c : CallName) → AllowedServer s l (events.Finished c (pos 0) (Ok tt))
    → ((ends_of (call_at (after s (events.Finished c (pos 0) (Ok tt)) l) c)).shut ≡ true)
    × ((ends_of (call_at (after s (events.Finished c (pos 0) (Ok tt)) l) c)).said ≡ (ends_of (call_at l c)).said)
shut_by_finish s l c allowed =
    subst (λ (o : Option CallRecord). ((ends_of o).shut ≡ true) × ((ends_of o).said ≡ (ends_of (call_at l c)).said))
    (sym (own_changed c with_life (on_looks c after_shut l) (λ k. refl)
    ∙ ap (option_map with_life) (own_changed c with_shut l (λ k. refl))))
    (of (call_at l c) allowed.1)
  where
    with_life : CallRecord → CallRecord
    with_life k = record k { life = after_finish true (pos 0) k.life }

    with_shut : CallRecord → CallRecord
    with_shut k = record k { looks = after_shut k.looks }

    of : (o : Option CallRecord) → ◌≡◌ {A = Result (Unit {0}) ServeRefused} (Ok tt) (served_finish o (pos 0))
        → ((ends_of (option_map with_life (option_map with_shut o))).shut ≡ true)
        × ((ends_of (option_map with_life (option_map with_shut o))).said ≡ (ends_of o).said)
    of None is = absurd cc
    of (Some k) is = (refl, refl)

-- ---- at the server

pub ended_passed : (o : Option CallRecord) → (ends_of o).ended ≡ (passed_of o).ended
ended_passed None = refl
ended_passed (Some k) = refl

-- a request of which these bytes were read: more bytes may follow, but none behind its end
pub record IsReadOf (request read : List ℕ) (ended : Bool) : Type 0 where
  pub rest : List ℕ
  pub fits : IsBytes rest
  pub is : read ++ rest ≡ request
  pub whole : ended ≡ true → read ≡ request

code_served : (g : Handlers) (request read : List ℕ) (ended : Bool) (code : ℤ) → IsReadOf request read ended
    → CodeIs g read ended code → served_for g request ≡ refusal code
code_served g request read true code r is = subst (λ (xs : List ℕ). served_for g xs ≡ refusal code) (r.whole refl) is
code_served g request read false code r is =
    subst (λ (xs : List ℕ). served_for g xs ≡ refusal code) r.is (is r.rest r.fits)

module _ (g : Handlers) (s : Setup) (later before : List Event) (c : CallName) (code : ℤ) (t : Turning) where
  abbrev finish : Event
  finish = events.Finished c code (Ok tt)

  -- a handler ends with what is served for the request that it read
  pub server_ends : (request : List ℕ) → IsServer s.kind → Legal s (later ++ finish ∷ before)
      → Once (later ++ finish ∷ before) → StartsOnce s (later ++ finish ∷ before) c
      → Serves g t (later ++ finish ∷ before)
      → IsReadOf request (streams.read (looks s before) c) (ends_of (call_at (looks s before) c)).ended
      → EndsAsServed g request (streams.said (looks s before) c) code
  server_ends request server legal once starts serves r =
      let legal_now : Legal s (finish ∷ before) = legal-before s later (finish ∷ before) legal in
      let starts_now = (starts_at s later (finish ∷ before) c starts).1 in
      let once_now = once_before finish before (once_at later (finish ∷ before) once) in
      let f : Finishing g c code before = finishing g c code (Ok tt) before serves later refl in
      let told : passed_of (call_at (looks s before) c) ≡ told_of (life_of c before) =
      passes_told s before c server legal_now.1 starts_now (accepts_fresh g c f.serving_it (once_now c)) in
      by (finishes_exactly g s c code before server legal_now once_now starts_now f)
      (subst (λ (xs : List ℕ). IsReadOf request xs (has_end (life_of c before)))
      (read_passed (call_at (looks s before) c) ∙ ap (λ (x : Passed). x.read) told)
      (subst (IsReadOf request (streams.read (looks s before) c))
      (ended_passed (call_at (looks s before) c) ∙ ap (λ (x : Passed). x.ended) told) r))
      (said_passed (call_at (looks s before) c) ∙ ap (λ (x : Passed). x.said) told)
    where
      by : MayFinish g (life_of c before) code
          → IsReadOf request (bytes_read (life_of c before)) (has_end (life_of c before))
          → streams.said (looks s before) c ≡ bytes_written (life_of c before)
          → EndsAsServed g request (streams.said (looks s before) c) code
      by (inl is) r said =
          inl (code_served g request (bytes_read (life_of c before)) (has_end (life_of c before)) code r is)
      by (inr whole) r said =
          inr (
            whole.0,
            subst (λ (ys : List ℕ). served_for g request ≡ bytes ys) (sym said)
                (subst (λ (xs : List ℕ). served_for g xs ≡ bytes (bytes_written (life_of c before)))
                (r.whole whole.1.ended) whole.1.served),
          )

-- ---- at the client

-- what was said when the request was shut is all of it
pub request_said : (s : Setup) (c : CallName) (later before : List Event) (request : List ℕ) (v : CallerState)
    → v.call ≡ c → Grown s c (later ++ before) → Tells request v (looks s (later ++ before))
    → streams.is_shut (looks s before) c ≡ true → streams.said (looks s before) c ≡ request
request_said s c later before request v own grown tells shut =
    let stays = stays_shut s c later before grown (sym (shut-is (call_at (looks s before) c)) ∙ shut) in
    let shut_now : streams.is_shut (looks s (later ++ before)) c ≡ true =
    shut-is (call_at (looks s (later ++ before)) c) ∙ stays.0 in
    let whole : streams.said (looks s (later ++ before)) c ≡ request =
    subst (λ (n : CallName). streams.is_shut (looks s (later ++ before)) n ≡ true
    → streams.said (looks s (later ++ before)) n ≡ request) own tells.whole shut_now in
    said-is (call_at (looks s before) c) ∙ sym stays.1 ∙ sym (said-is (call_at (looks s (later ++ before)) c)) ∙ whole

-- what was said before is what was said first
said_first : (s : Setup) (c : CallName) (later before : List Event) → Grown s c (later ++ before)
    → streams.Begins (streams.said (looks s before) c) (streams.said (looks s (later ++ before)) c)
said_first s c [] before grown = ([], append-nil (streams.said (looks s before) c))
said_first s c (e ∷ later) before grown =
    let old = said_first s c later before grown.2 in
    let now : List Event = later ++ before in (
      old.0 ++ grown.0.more,
      sym (append_assoc (streams.said (looks s before) c) old.0 grown.0.more)
          ∙ ap (λ (xs : List ℕ). xs ++ grown.0.more) (old.1 ∙ said-is (call_at (looks s now) c)) ∙ sym grown.0.joined
          ∙ sym (said-is (call_at (looks s (e ∷ now)) c)),
    )

-- ---- one connection of a world, whichever premise holds

pub fed_in : (nodes : List Node) (h : List Noted) (k : ℕ) (client server : Node) (y : Connection) → World nodes h
    → ServerForgotNone nodes h ⊎ Timely nodes h → slice_get nodes k ≡ Some client
    → client.setup.kind ≡ Client y.host y.epoch → slice_get nodes 0 ≡ Some server → Fed (ends_in y k client server) h
fed_in nodes h k client server y w (inl kept) there kind first =
    world-fed nodes k client server y there kind first w.sides.nodes_are w.apart h w
    (if-some (slice_get nodes 0) server (λ n. ForgotNone n.setup (side 0 h)) first kept)
fed_in nodes h k client server y w (inr timely) there kind first =
    world-fed-by nodes k client server y there kind first w.sides.nodes_are w.apart h w
    (λ c on. starts-once (ends_in y k client server) h c
    (world-lately nodes k client server y there kind first w.sides.nodes_are w.apart h
    (λ j n is. if-some (slice_get nodes j) n (λ m. Legal m.setup (side j h)) is (w.sides.legal j)) timely.fresh
    timely.alike) on)

-- ---- between the two

behind_bytes : (xs ys : List ℕ) → IsBytes (xs ++ ys) → IsBytes ys
behind_bytes xs ys all = subst IsBytes (drop-append_seam xs ys) (IsBytes-drop (length xs) (xs ++ ys) all)

-- two ends of a connection, a call of which the server finished
module _ (g : Handlers) (h : List Noted) (t : Turning) (y : Connection) (k : ℕ) (client server : Node) (c : CallName)
    (fed : Fed (ends_in y k client server) h) (on : connection_of c ≡ y) (code : ℤ) (later before : List Noted)
    (is : h ≡ later ++ noted 0 (events.Finished c code (Ok tt)) ∷ before) where
  -- the server's side is cut there
  pub serves_split : side 0 h ≡ side 0 later ++ events.Finished c code (Ok tt) ∷ side 0 before
  serves_split =
      ap (side 0) is ∙ side-split 0 later (noted 0 (events.Finished c code (Ok tt)) ∷ before)
      ∙ ap (λ (es : List Event). side 0 later ++ es) (side_own 0 (events.Finished c code (Ok tt)) before)

  -- and so is the client's
  pub calls_split : side k h ≡ side k later ++ side k before
  calls_split =
      ap (side k) is ∙ side-split k later (noted 0 (events.Finished c code (Ok tt)) ∷ before)
      ∙ ap (λ (es : List Event). side k later ++ es)
      (side_other k 0 (events.Finished c code (Ok tt)) before (λ same. fed.apart (sym same)))

  -- what the client said grew
  pub calls_grown : Grown client.setup c (side k later ++ side k before)
  calls_grown =
      subst (Grown client.setup c) calls_split
      (client-grown client.setup y.host y.epoch (side k h) c fed.client_kind fed.client_fits fed.client_legal)

  -- it ends with what is served for the request that the handler read
  pub ends_of_read : (request : List ℕ) → Once (side 0 h) → Serves g t (side 0 h)
      → IsReadOf request (streams.read (looks server.setup (side 0 before)) c)
      (ends_of (call_at (looks server.setup (side 0 before)) c)).ended
      → EndsAsServed g request (streams.said (looks server.setup (side 0 before)) c) code
  ends_of_read request once serves r =
      server_ends g server.setup (side 0 later) (side 0 before) c code t request fed.server_kind
      (subst (Legal server.setup) serves_split fed.server_legal) (subst Once serves_split once)
      (subst (λ (es : List Event). StartsOnce server.setup es c) serves_split (fed.once c on))
      (subst (Serves g t) serves_split serves) r

  -- whatever the handler read, it is of the request that the caller says
  read_of_request : (v : CallerState) (request : List ℕ) → v.call ≡ c
      → Tells request v (looks client.setup (side k h)) → IsBytes request
      → IsReadOf request (streams.read (looks server.setup (side 0 before)) c)
      (ends_of (call_at (looks server.setup (side 0 before)) c)).ended
  read_of_request v request own tells fits =
      let x : TwoEnds = ends_in y k client server in
      let e : Noted = noted 0 (events.Finished c code (Ok tt)) in
      let then_fed : Fed x before =
      fed-before x e before (fed-at x later (e ∷ before) (subst (λ (past : List Noted). Fed x past) is fed)) in
      let part = (law-of x before c then_fed on).prefix.request in
      let told : Tells request v (looks client.setup (side k later ++ side k before)) =
      subst (λ (es : List Event). Tells request v (looks client.setup es)) calls_split tells in
      let grew = said_first client.setup c (side k later) (side k before) calls_grown in
      let said : streams.said (looks client.setup (side k later ++ side k before)) c ++ v.offering ≡ request =
      subst (λ (n : CallName). streams.said (looks client.setup (side k later ++ side k before)) n ++ v.offering
      ≡ request) own told.said in
      let read : List ℕ = streams.read (looks server.setup (side 0 before)) c in
      let all : read ++ (part.0 ++ (grew.0 ++ v.offering)) ≡ request =
      sym (append_assoc read part.0 (grew.0 ++ v.offering))
      ∙ ap (λ (xs : List ℕ). xs ++ (grew.0 ++ v.offering)) part.1
      ∙ sym (append_assoc (streams.said (looks client.setup (side k before)) c) grew.0 v.offering)
      ∙ ap (λ (xs : List ℕ). xs ++ v.offering) grew.1 ∙ said in
      record {
        rest = part.0 ++ (grew.0 ++ v.offering);
        fits = behind_bytes read (part.0 ++ (grew.0 ++ v.offering)) (subst IsBytes (sym all) fits);
        is = all;
        whole = λ ended. (
            let w = (between x before c then_fed on).request.ended ended in
            let shut : streams.is_shut (looks client.setup (side k before)) c ≡ true =
            shut-is (call_at (looks client.setup (side k before)) c) ∙ w.0 in
            read_ends (call_at (looks server.setup (side 0 before)) c) ∙ w.1
            ∙ sym (said-is (call_at (looks client.setup (side k before)) c))
            ∙ request_said client.setup c (side k later) (side k before) request v own calls_grown told shut);
      }
    where
      read_ends : (o : Option CallRecord) → streams.read_by o ≡ (ends_of o).read
      read_ends None = refl
      read_ends (Some r) = refl

  -- so it ends with what is served for that
  pub ends_as_served : (v : CallerState) (request : List ℕ) → v.call ≡ c
      → Tells request v (looks client.setup (side k h)) → IsBytes request → Once (side 0 h) → Serves g t (side 0 h)
      → EndsAsServed g request (streams.said (looks server.setup (side 0 before)) c) code
  ends_as_served v request own tells fits once serves =
      ends_of_read request once serves (read_of_request v request own tells fits)

-- this is served for a request, as a reply or as the code 0
abbrev pub Serving : Handlers → List ℕ → List ℕ → Type 0
Serving g request reply = (served_for g request ≡ bytes reply) ⊎ (served_for g request ≡ refusal (pos 0))

-- two ends of a connection of which the client's call ended Ok
module _ (g : Handlers) (h : List Noted) (t : Turning) (y : Connection) (k : ℕ) (client server : Node) (c : CallName)
    (fed : Fed (ends_in y k client server) h) (on : connection_of c ≡ y) where
  -- the reply that was read is served for the request that was said
  exchanged : (v : CallerState) (request : List ℕ) (later before : List Noted) → v.call ≡ c
      → Tells request v (looks client.setup (side k h)) → Once (side 0 h) → Serves g t (side 0 h)
      → h ≡ later ++ noted 0 (events.Finished c (pos 0) (Ok tt)) ∷ before
      → RequestWhole (ends_in y k client server) c before
      → streams.read (looks client.setup (side k h)) c ≡ streams.said (looks server.setup (side 0 h)) c
      → Serving g request v.reply
  exchanged v request later before own tells once serves is whole all_read =
      let s : Setup = server.setup in
      let finish : Event = events.Finished c (pos 0) (Ok tt) in
      let cut_server = serves_split g h t y k client server c fed on (pos 0) later before is in
      let cut_client = calls_split g h t y k client server c fed on (pos 0) later before is in
      let legal : Legal s (finish ∷ side 0 before) =
      legal-before s (side 0 later) (finish ∷ side 0 before) (subst (Legal s) cut_server fed.server_legal) in
      let shut = shut_by_finish s (looks s (side 0 before)) c
      (served s.kind s (looks s (side 0 before)) finish fed.server_kind legal.0) in
      let stays = stays_shut s c (side 0 later) (finish ∷ side 0 before)
      (subst (Grown s c) cut_server
      (server-grown s (side 0 h) c fed.server_kind fed.server_fits fed.server_legal (fed.once c on))) shut.0 in
      let said_then : streams.said (looks client.setup (side k before)) c ≡ request =
      request_said client.setup c (side k later) (side k before) request v own
      (calls_grown g h t y k client server c fed on (pos 0) later before is)
      (subst (λ (es : List Event). Tells request v (looks client.setup es)) cut_client tells) whole.shut in
      let read_all : streams.read (looks s (side 0 before)) c ≡ request = whole.read ∙ said_then in
      let said_same : streams.said (looks s (side 0 before)) c ≡ v.reply =
      said-is (call_at (looks s (side 0 before)) c) ∙ sym shut.1 ∙ sym stays.1
      ∙ sym (said-is (call_at (looks s (side 0 later ++ finish ∷ side 0 before)) c))
      ∙ ap (λ (es : List Event). streams.said (looks s es) c) (sym cut_server) ∙ sym all_read
      ∙ subst (λ (n : CallName). streams.read (looks client.setup (side k h)) n ≡ v.reply) own (sym tells.reply) in
      by (subst (λ (ys : List ℕ). EndsAsServed g request ys (pos 0)) said_same
      (ends_of_read g h t y k client server c fed on (pos 0) later before is request once serves
      (record {
        rest = [];
        fits = λ i. omega arith;
        is = append-nil (streams.read (looks s (side 0 before)) c) ∙ read_all;
        whole = λ ended. read_all;
      })))
    where
      by : EndsAsServed g request v.reply (pos 0) → Serving g request v.reply
      by (inl code) = inr code
      by (inr reply) = inl reply.1

  pub exchanged_by : (v : CallerState) (request : List ℕ) → v.call ≡ c
      → Tells request v (looks client.setup (side k h)) → Once (side 0 h) → Serves g t (side 0 h)
      → EndsOk (ends_in y k client server) c h → Serving g request v.reply
  exchanged_by v request own tells once serves e =
      let f : FinishIn h c = finish_in h c 0 e.finished in
      let at = e.at_finish f.later f.before f.code f.is in
      let is : h ≡ f.later ++ noted 0 (events.Finished c (pos 0) (Ok tt)) ∷ f.before =
      f.is ∙ ap (λ (code : ℤ). f.later ++ noted 0 (events.Finished c code (Ok tt)) ∷ f.before) at.0 in
      exchanged v request f.later f.before own tells once serves is at.1 e.read
