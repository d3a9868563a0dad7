-- The answer lines of a driven plan say what the script answers, and its handlers end as it says.
use Rattle.std.proofs.Common.{◌≡◌, ◌⊎◌, is_some, ℕ, ℤ}
use Rattle.std.proofs.Common.{Bool, true, List, reverse, Option, Some, None, option_map}
use Rattle.std.proofs.Common.{refl, inl, inr, ◌∙◌, ap, sym, subst, slice_get, string_bytes, All}
use Rattle.std.proofs.Common.{IfSome, IsSomeAnd}
use Rattle.std.specs.Option.{option_and_then}
use Rattle.std.proofs.lemmas.List.Elements.{All-weaker}
use Rattle.xdr_value.specs.Data.{Data, Procedure}
use Rattle.xdr_value.specs.View.{values_of}
use Rattle.rx_model.specs.declared.answers.End.{End}
use Rattle.rx_model.specs.declared.answers.End.TheVariants as ends
use Rattle.rx_model.specs.declared.event.Noted.{Noted}
use Rattle.rx_model.specs.declared.names.CallName.{CallName}
use Rattle.rx_model.specs.Names.{Connection, connection_of}
use Rattle.rx_rules.specs.After.{looks}
use Rattle.rx_rules.specs.Looks.{CallRecord, call_at}
use Rattle.rx_rules.specs.Rules.{Legal}
use Rattle.rx_rules.specs.Setup.{Setup, Kind, Client, Server, FitsSetup, IsServer}
use Rattle.rx_law.specs.Promises.{EndsAs}
use Rattle.rx_law.specs.Promises.{ServerForgotNone, ends_in}
use Rattle.rx_history.specs.Sides.{Node, side}
use Rattle.rx_history.specs.Streams as streams
use Rattle.rx_law.specs.Times.{Timely}
use Rattle.rx_law.specs.Worlds.{AreNodes, Sides, TwoEnds, World}
use Rattle.rx_history.proofs.ClientHistory.{client-calls}
use Rattle.rx_history.proofs.Data.{OwnName}
use Rattle.rx_law.proofs.Joint.{Fed}
use Rattle.rx_law.proofs.Law.{law-of}
use Rattle.rx_law.proofs.World.{if-some}
use Rattle.rx_law.proofs.WorldLaw.{world-law}
use Rattle.rx_asks.proofs.Driving.{tells_driven}
use Rattle.rx_asks.specs.History.{IsCalledAt, Tells}
use Rattle.rx_asks.specs.declared.ask.TheConstants.{CC_UNMARSHAL, REPLY_BYTES}
use Rattle.rx_jobs.specs.Dispatching.{Turning, over}
use Rattle.rx_jobs.specs.Handlers.{Handlers, served_for}
use Rattle.rx_reply.specs.Replies.{reply_line, reply_says}
use Rattle.rx_script.specs.Procs.{proc_named}
use Rattle.rx_script.specs.Served.{served_answer}
use Rattle.rx_script.specs.declared.plan.Numbered.{Numbered}
use Rattle.rx_script.specs.declared.plan.PlanLine.{PlanLine}
use Rattle.rx_script.specs.declared.plan.PlanLine.TheVariants as lines
use Rattle.rx_plan.specs.Answering.{AbortedAsServed, EndedByLaw, EndsByLaw, SaysAbort}
use Rattle.rx_plan.specs.Answering.{EndedAsServed, EndsAsServed, FinishesAsServed, AgreesOnStreams, AreDriven}
use Rattle.rx_plan.specs.Answering.{AreServable, Invoked, IsDriven, OkAsAnswered, SaysAnswer}
use Rattle.rx_plan.specs.Answering.{answer_for, invoked_at, invoked_by, request_for}
use Rattle.rx_plan.specs.Answers.{answer_of, asked_at, asked_by, asked_of, line_for, said, said_of}
use Rattle.rx_plan.specs.Causes.{key_at}
use Rattle.rx_plan.specs.Follows.{Whole, class_of, plan_goes}
use Rattle.rx_plan.specs.Lines.{IsWell}
use Rattle.rx_plan.specs.Promises.{AreDistinct, AreInRange, AreUnforged, IsUnforged, line_kind, plan_nodes}
use Rattle.rx_plan.specs.Stages.{InvokedState, Stage}
use Rattle.rx_plan.proofs.Aborts.Aborted.{AreKeyed, aborted_as}
use Rattle.rx_plan.proofs.DrivenPlan.{plan_follows}
use Rattle.rx_plan.proofs.Exchanged.{Serving, ends_as_served, exchanged_by, fed_in}
use Rattle.rx_plan.proofs.Driven.{seen}
use Rattle.rx_plan.proofs.Followed.{IsCaller, IsPlayed}
use Rattle.rx_plan.proofs.Handling.{Serves}
use Rattle.rx_plan.proofs.Keys.PlanKeys.{classes_are, served_side, service_at}
use Rattle.rx_plan.proofs.Givings.Promised.{plans_carry, plans_end, plans_whole}
use Rattle.rx_plan.proofs.Replying.{IsReturned, named_at, returned_said, served_invoke, served_nonzero}
use Rattle.rx_plan.proofs.Replying.{served_returned}
use Rattle.rx_plan.proofs.QuietEvents.{AreServed}
use Rattle.rx_plan.proofs.Soundness.SoundPlan.{lines_in_range}

-- ---- the line of a caller

-- the invoke of a line: its words, and the procedure that they name
record IsInvokeAt (g : Handlers) (ls : List Numbered) (place : ℕ) (i : Invoked) : Type 0 where
  name : List ℕ
  named : proc_named name g.procs ≡ Some i.proc
  asked : asked_at ls place ≡ Some (record { proc = name; down = i.down })

invoke_at : (g : Handlers) (ls : List Numbered) (place : ℕ) (i : Invoked) → invoked_at g ls place ≡ Some i
    → IsInvokeAt g ls place i
invoke_at g ls place i at = of (slice_get ls place) refl at
  where
    by_proc : (name : List ℕ) (args : Data) (up : Option (List ℕ)) (down : Bool)
        → asked_at ls place ≡ Some (record { proc = name; down = down }) → (o : Option Procedure)
        → proc_named name g.procs ≡ o
        → option_map (λ p. record { proc = p; args = args; up = up; down = down }) o ≡ Some i
        → IsInvokeAt g ls place i
    by_proc name args up down asked None found is = absurd cc
    by_proc name args up down asked (Some p) found is =
        (let same : record { proc = p; args = args; up = up; down = down } ≡ i = cc in
        subst (IsInvokeAt g ls place) same (record { name = name; named = found; asked = asked }))

    by_line : (line : PlanLine) → asked_at ls place ≡ asked_by line → invoked_by g line ≡ Some i
        → IsInvokeAt g ls place i
    by_line (lines.Invoke client cid proc up down args) asked is =
        by_proc (string_bytes proc) (values_of args.items) up down asked (proc_named (string_bytes proc) g.procs) refl
        is
    by_line line asked is = absurd cc

    of : (o : Option Numbered) → slice_get ls place ≡ o → option_and_then (λ l. invoked_by g l.what) o ≡ Some i
        → IsInvokeAt g ls place i
    of None there is = absurd cc
    of (Some l) there is = by_line l.what (ap asked_of there) is

-- what its line says of a reply
pub said_invoked : (g : Handlers) (ls : List Numbered) (place : ℕ) (reply : List ℕ) (i : Invoked)
    → invoked_at g ls place ≡ Some i
    → said g.types g.procs reply (asked_at ls place)
    ≡ option_map (reply_line g.types i.proc i.down) (reply_says g.types i.proc i.down reply)
said_invoked g ls place reply i at =
    let a = invoke_at g ls place i at in
    ap (said g.types g.procs reply) a.asked ∙ ap (said_of g.types i.down reply) a.named

-- its procedure has a place
invoked_place : (g : Handlers) (ls : List Numbered) (place : ℕ) (i : Invoked) → invoked_at g ls place ≡ Some i
    → (k : ℕ) × (slice_get g.procs k ≡ Some i.proc)
invoked_place g ls place i at =
    let a = invoke_at g ls place i at in named_at a.name g.procs i.proc a.named

-- ---- a caller of a world

-- the first node of a world
record IsFirst (nodes : List Node) : Type 0 where
  server : Node
  there : slice_get nodes 0 ≡ Some server

first_node : (nodes : List Node) → AreNodes nodes → IsFirst nodes
first_node nodes are = of (slice_get nodes 0) refl are.server
  where
    of : (o : Option Node) → slice_get nodes 0 ≡ o → IsSomeAnd o (λ n. IsServer n.setup.kind) → IsFirst nodes
    of None there server = elim server [ ]
    of (Some n) there server = record { server = n; there = there }

module _ (g : Handlers) (ls : List Numbered) (nodes : List Node) (h : List Noted) (w : World nodes h)
    (premise : ServerForgotNone nodes h ⊎ Timely nodes h) (t : Turning) (serves : Serves g t (side 0 h)) where
  -- a caller's connection, with the server, and what it tells
  pub record Connected (k : InvokedState) (i : IsCaller g ls nodes h k) : Type 0 where
    pub server : Node
    pub there : slice_get nodes 0 ≡ Some server
    pub fed : Fed (ends_in (connection_of k.caller.call) k.node i.node.client server) h
    pub tells : Tells (request_for g i.origin.invoke) k.caller (looks i.node.client.setup (side k.node h))

  pub connected : (k : InvokedState) → (i : IsCaller g ls nodes h k) → Connected k i
  connected k i =
      let c : CallName = k.caller.call in
      let y : Connection = connection_of c in
      let s : Setup = i.node.client.setup in
      let f : IsFirst nodes = first_node nodes w.sides.nodes_are in
      let fits : FitsSetup s =
      if-some (slice_get nodes k.node) i.node.client (λ m. FitsSetup m.setup) i.node.there
      (w.sides.nodes_are.fits k.node) in
      let legal : Legal s (side k.node h) =
      if-some (slice_get nodes k.node) i.node.client (λ m. Legal m.setup (side k.node h)) i.node.there
      (w.sides.legal k.node) in
      let tells : Tells (request_for g i.origin.invoke) k.caller (looks s (side k.node h)) =
      tells_driven s i.node.host i.node.epoch REPLY_BYTES (request_for g i.origin.invoke) k.caller (side k.node h)
      i.node.kind
      fits legal i.drives in
      let calls = client-calls s i.node.host i.node.epoch (side k.node h) i.node.kind fits legal in
      let own = subst (λ (kind : Kind). OwnName kind c) i.node.kind
      ((calls.standing.calls c).named (called_some (call_at (looks s (side k.node h)) c) tells.called)).own in
      let kind : s.kind ≡ Client y.host y.epoch =
      i.node.kind ∙ (λ j. Client (sym own.0 j) (sym own.1 j)) in
      record {
        server = f.server;
        there = f.there;
        fed = fed_in nodes h k.node i.node.client f.server y w premise i.node.there kind f.there;
        tells = tells;
      }
    where
      called_some : (o : Option CallRecord) → IsCalledAt o → is_some o ≡ true
      called_some None called = absurd called
      called_some (Some r) called = refl

  -- where it ended Ok, what it read is served for its request
  pub caller_served : (k : InvokedState) → (i : IsCaller g ls nodes h k) → k.caller.end ≡ Some ends.Ok
      → Serving g (request_for g i.origin.invoke) k.caller.reply
  caller_served k i ended =
      let c : CallName = k.caller.call in
      let n : Connected k i = connected k i in
      let x : TwoEnds = ends_in (connection_of c) k.node i.node.client n.server in
      let at_end : streams.end_at (looks i.node.client.setup (side k.node h)) c ≡ Some ends.Ok =
      by_end (n.tells.ended ends.Ok ended) in
      exchanged_by g h t (connection_of c) k.node i.node.client n.server c n.fed refl k.caller
      (request_for g i.origin.invoke)
      refl n.tells (world-law nodes h w premise).once serves ((law-of x h c n.fed refl).ends ends.Ok at_end)
    where
      by_end : {at : Option End} → (ends.Ok ≡ ends.Cancelled CC_UNMARSHAL) ⊎ (at ≡ Some ends.Ok) → at ≡ Some ends.Ok
      by_end (inl never) = absurd cc
      by_end (inr is) = is

  -- however it ended, its call did, or it gave up with its own code
  caller_caused : (k : InvokedState) → IsCaller g ls nodes h k → (end : End) → k.caller.end ≡ Some end
      → (end ≡ ends.Cancelled CC_UNMARSHAL) ⊎ EndsByLaw nodes h k.node k.caller.call end
  caller_caused k i end ended = by (connected k i) (n_tells (connected k i))
    where
      n_tells : Connected k i → (end ≡ ends.Cancelled CC_UNMARSHAL)
          ⊎ (streams.end_at (looks i.node.client.setup (side k.node h)) k.caller.call ≡ Some end)
      n_tells n = n.tells.ended end ended

      by : Connected k i → (end ≡ ends.Cancelled CC_UNMARSHAL)
          ⊎ (streams.end_at (looks i.node.client.setup (side k.node h)) k.caller.call ≡ Some end)
          → (end ≡ ends.Cancelled CC_UNMARSHAL) ⊎ EndsByLaw nodes h k.node k.caller.call end
      by n (inl own) = inl own
      by n (inr at_end) =
          (let c : CallName = k.caller.call in
          let x : TwoEnds = ends_in (connection_of c) k.node i.node.client n.server in
          inr (subst (λ (o : Option Node). IsSomeAnd o (λ client. IsSomeAnd (slice_get nodes 0)
          (λ server. EndsAs end (ends_in (connection_of c) k.node client server) c h))) (sym i.node.there)
          (subst (λ (o : Option Node). IsSomeAnd o
          (λ server. EndsAs end (ends_in (connection_of c) k.node i.node.client server) c h)) (sym n.there)
          ((law-of x h c n.fed refl).ends end at_end))))

  -- its handler ends with what is served for its request
  pub caller_ended : (k : InvokedState) → (i : IsCaller g ls nodes h k)
      → FinishesAsServed g nodes h k.caller.call (request_for g i.origin.invoke)
  caller_ended k i later before code is =
      let c : CallName = k.caller.call in
      let n : Connected k i = connected k i in
      subst (λ (o : Option Node). IfSome o (λ m. EndsAsServed g (request_for g i.origin.invoke)
      (streams.said (looks m.setup (side 0 before)) c) code)) (sym n.there)
      (ends_as_served g h t (connection_of c) k.node i.node.client n.server c n.fed refl code later before is k.caller
      (request_for g i.origin.invoke) refl n.tells i.fits (world-law nodes h w premise).once serves)

  -- where it ended with a code, it is one that the server told so
  caller_aborted : AreServed nodes h
      → ((j : ℕ) (n : Node) → slice_get nodes j ≡ Some n → n.setup.class ≡ class_of (key_at ls j))
      → (k : InvokedState) → (i : IsCaller g ls nodes h k) → (code : ℤ)
      → k.caller.end ≡ Some (ends.Abort code)
      → IsSomeAnd (slice_get nodes 0) (λ server. SaysAbort g ls server (side 0 h) k i.origin.invoke code)
  caller_aborted links classes k i code ended =
      let c : CallName = k.caller.call in
      let n : Connected k i = connected k i in
      let x : TwoEnds = ends_in (connection_of c) k.node i.node.client n.server in
      let at_end : streams.end_at (looks i.node.client.setup (side k.node h)) c ≡ Some (ends.Abort code) =
      by_end (n.tells.ended (ends.Abort code) ended) in
      subst (λ (o : Option Node). IsSomeAnd o (λ server. SaysAbort g ls server (side 0 h) k i.origin.invoke code))
      (sym n.there)
      (record {
        line = ap (λ (e : Option End). line_for k.call (answer_of (said g.types g.procs k.caller.reply
            (asked_at ls k.line)) e)) ended;
        cause =
            aborted_as g nodes h w c k.node i.node.client n.server i.node.there n.fed.client_kind n.there
            (request_for g i.origin.invoke) code n.fed
            (λ later before with is.
            ends_as_served g h t (connection_of c) k.node i.node.client n.server c n.fed refl with later before is
            k.caller (request_for g i.origin.invoke) refl n.tells i.fits (world-law nodes h w premise).once serves)
            (key_at ls k.node) (key_at ls 0)
            (keyed k.node i.node.client n.server i.node.there n.there n.fed.server_kind) at_end;
      })
    where
      by_end : {at : Option End} → (ends.Abort code ≡ ends.Cancelled CC_UNMARSHAL) ⊎ (at ≡ Some (ends.Abort code))
          → at ≡ Some (ends.Abort code)
      by_end (inl never) = absurd cc
      by_end (inr is) = is

      keyed : (node : ℕ) (client server : Node) → slice_get nodes node ≡ Some client → slice_get nodes 0 ≡ Some server
          → IsServer server.setup.kind → AreKeyed (key_at ls node) (key_at ls 0) node h client server
      keyed node client server there first serving = by server.setup.kind refl serving
        where
          by : (q : Kind) → server.setup.kind ≡ q → IsServer q
              → AreKeyed (key_at ls node) (key_at ls 0) node h client server
          by (Client host epoch) is serves = absurd serves
          by (Server service nonces) is serves =
              record {
                own_class = classes node client there;
                other_class = classes 0 server first;
                service = service;
                nonces = nonces;
                serving = is;
                links = served_side node service nodes h (service_at nodes server service nonces first is) links;
              }

  -- its line says the answer
  caller_says : AreServable g → (k : InvokedState) → (i : IsCaller g ls nodes h k) → AgreesOnStreams g i.origin.invoke
      → k.caller.end ≡ Some ends.Ok → SaysAnswer g ls k i.origin.invoke
  caller_says servable k i agrees ended =
      let index = invoked_place g ls k.line i.origin.invoke i.origin.at in
      by (served_invoke g i.origin.invoke index.0 servable index.1 i.origin.can agrees) (caller_served k i ended)
    where
      says : IsReturned g.types i.origin.invoke.proc i.origin.invoke.down (answer_for g i.origin.invoke) k.caller.reply
          → SaysAnswer g ls k i.origin.invoke
      says r =
          (let told : said g.types g.procs k.caller.reply (asked_at ls k.line)
          ≡ Some (reply_line g.types i.origin.invoke.proc i.origin.invoke.down r.says) =
          said_invoked g ls k.line k.caller.reply i.origin.invoke i.origin.at
          ∙ ap (option_map (reply_line g.types i.origin.invoke.proc i.origin.invoke.down))
          (returned_said g.types i.origin.invoke.proc i.origin.invoke.down (answer_for g i.origin.invoke) k.caller.reply
          r) in
          record {
            says = r.says;
            answers = r.answers;
            line = λ j. line_for k.call (answer_of (told j) (ended j));
          })

      by : served_for g (request_for g i.origin.invoke)
          ≡ served_answer g.types i.origin.invoke.proc i.origin.invoke.down (answer_for g i.origin.invoke)
          → Serving g (request_for g i.origin.invoke) k.caller.reply → SaysAnswer g ls k i.origin.invoke
      by is (inl reply) =
          says (served_returned g.types i.origin.invoke.proc i.origin.invoke.down (answer_for g i.origin.invoke)
          k.caller.reply
          (sym is ∙ reply))
      by is (inr none) = absurd (served_nonzero g i.origin.invoke servable (sym is ∙ none))

-- ---- a plan

driven_unforged : (line : PlanLine) → IsDriven line → IsUnforged (line_kind line)
driven_unforged (lines.Forge node host given) driven = absurd driven
driven_unforged line driven = tt

-- what a driven plan whose lines were all made has come to
module _ (g : Handlers) (ls : List Numbered) (es : List Noted) (s : Stage) (well : All (λ l. IsWell g l.what) ls)
    (driven : AreDriven ls) (distinct : AreDistinct (plan_nodes ls)) (goes : plan_goes g ls es (Whole s)) where
  in_range : AreInRange ls
  in_range = lines_in_range g ls well

  unforged : AreUnforged ls
  unforged =
      All-weaker (λ l. IsDriven l.what) (λ l. IsUnforged (line_kind l.what)) (λ l here. driven_unforged l.what here) ls
      driven

  pub nodes_are : (s.nodes ≡ plan_nodes ls) × Sides (plan_nodes ls) (reverse es)
  nodes_are = plans_whole g ls es s in_range goes

  pub world : World (plan_nodes ls) (reverse es)
  world =
      record {
        sides = nodes_are.1;
        carried = plans_carry g ls es (Whole s) in_range unforged goes;
        apart = distinct;
      }

  history_is : s.history ≡ reverse es
  history_is = plans_end g ls es s in_range goes

  played : IsPlayed g ls (seen s)
  played = (plan_follows g ls es s well driven goes).played (subst AreNodes (sym nodes_are.0) nodes_are.1.nodes_are)

  pub serves_all : Serves g (over s.jobs) (side 0 (reverse es))
  serves_all = subst (λ (h : List Noted). Serves g (over s.jobs) (side 0 h)) history_is played.serves

  pub caller_at : (place : ℕ) (k : InvokedState) → slice_get s.callers place ≡ Some k
      → IsCaller g ls (plan_nodes ls) (reverse es) k
  caller_at place k at =
      subst (λ (ns : List Node). IsCaller g ls ns (reverse es) k) nodes_are.0
      (subst (λ (h : List Noted). IsCaller g ls s.nodes h k) history_is (played.callers.each_is place k at))

  -- what holds of each caller with its invoke
  pub of_each : (P : InvokedState → Invoked → Type 0)
      → ((k : InvokedState) → (i : IsCaller g ls (plan_nodes ls) (reverse es) k) → P k i.origin.invoke) → (place : ℕ)
      → IfSome (slice_get s.callers place) (λ k. IsSomeAnd (invoked_at g ls k.line) (P k))
  of_each P each_one place = by (slice_get s.callers place) refl
    where
      by : (o : Option InvokedState) → slice_get s.callers place ≡ o
          → IfSome o (λ k. IsSomeAnd (invoked_at g ls k.line) (P k))
      by None at = tt
      by (Some k) at =
          (let i = caller_at place k at in
          subst (λ (o : Option Invoked). IsSomeAnd o (P k)) (sym i.origin.at) (each_one k i))

  module _ (premise : ServerForgotNone (plan_nodes ls) (reverse es) ⊎ Timely (plan_nodes ls) (reverse es)) where
    -- each caller that ended tells how its call did, or gave up with its own code
    pub plan_causes : EndedByLaw (plan_nodes ls) (reverse es) s
    plan_causes place = by (slice_get s.callers place) refl
      where
        by : (o : Option InvokedState) → slice_get s.callers place ≡ o
            → IfSome o (λ k. (end : End) → k.caller.end ≡ Some end
            → (end ≡ ends.Cancelled CC_UNMARSHAL) ⊎ EndsByLaw (plan_nodes ls) (reverse es) k.node k.caller.call end)
        by None at = tt
        by (Some k) at =
            caller_caused g ls (plan_nodes ls) (reverse es) world premise (over s.jobs) serves_all k
            (caller_at place k at)

    -- each caller that ended Ok has a line that says the answer
    pub plan_answers : AreServable g → OkAsAnswered g ls s
    plan_answers servable =
        of_each (λ k i. AgreesOnStreams g i → k.caller.end ≡ Some ends.Ok → SaysAnswer g ls k i)
        (caller_says g ls (plan_nodes ls) (reverse es) world premise (over s.jobs) serves_all servable)

    -- each invoke's call is ended by its handler with what is served for its request
    pub plan_ends : EndedAsServed g ls (plan_nodes ls) (reverse es) s
    plan_ends =
        of_each (λ k i. FinishesAsServed g (plan_nodes ls) (reverse es) k.caller.call (request_for g i))
        (caller_ended g ls (plan_nodes ls) (reverse es) world premise (over s.jobs) serves_all)

    -- each invoke's call that ended with a code had it from the server so
    pub plan_aborts : AbortedAsServed g ls (plan_nodes ls) (reverse es) s
    plan_aborts =
        of_each (λ k i. (code : ℤ) → k.caller.end ≡ Some (ends.Abort code)
        → IsSomeAnd (slice_get (plan_nodes ls) 0)
        (λ server. SaysAbort g ls server (side 0 (reverse es)) k i code))
        (caller_aborted g ls (plan_nodes ls) (reverse es) world premise (over s.jobs) serves_all served
        (classes_are ls))
      where
        served : AreServed (plan_nodes ls) (reverse es)
        served =
            subst (λ (ns : List Node). AreServed ns (reverse es)) nodes_are.0
            (subst (AreServed s.nodes) history_is (plan_follows g ls es s well driven goes).links)
