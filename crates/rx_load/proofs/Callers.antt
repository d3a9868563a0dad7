-- What the callers of a load know of their calls, at each stage of it.
use Rattle.std.proofs.Common.{◌≡◌, ◌≢◌, ◌==◌, ◌⊎◌, inl, inr, ℕ, Bool, true, false}
use Rattle.std.proofs.Common.{List}
use Rattle.std.proofs.Common.{◌∷◌, length, set, Some, None, refl, ap, sym, subst, ◌∙◌}
use Rattle.std.proofs.Common.{slice_get}
use Rattle.std.proofs.lemmas.List.{length-set}
use Rattle.rx_model.specs.declared.event.Event.{Event}
use Rattle.rx_model.specs.declared.event.Event.TheVariants as events
use Rattle.rx_model.specs.declared.event.Noted.{Noted}
use Rattle.rx_model.specs.declared.names.CallName.{CallName}
use Rattle.rx_model.specs.Names.{connection_of, same_name}
use Rattle.rx_model.proofs.NameLaws.{number_itself, same_number}
use Rattle.rx_rules.specs.After.{after, looks}
use Rattle.rx_rules.specs.Life.{is_live}
use Rattle.rx_rules.specs.Looks.{Looks, call_at, is_call}
use Rattle.rx_rules.specs.Rules.{Allowed, AllowedClient}
use Rattle.rx_history.specs.Sides.{Node, side}
use Rattle.rx_history.proofs.Dimensions.Dims.{Dims, dims_refl}
use Rattle.rx_history.proofs.Dimensions.DimsLeave.{numbers_stay}
use Rattle.rx_law.specs.Worlds.{AreNodes}
use Rattle.rx_law.proofs.World.{and-some}
use Rattle.rx_events.specs.Events.{IsPolled}
use Rattle.rx_events.specs.Joint.{IsAllowedAt}
use Rattle.rx_wire.specs.Turns.{noted}
use Rattle.rx_asks.specs.declared.ask.TheConstants.{REPLY_BYTES}
use Rattle.rx_asks.specs.Asks.{Asking, IsAsked, begun, calling, heard}
use Rattle.rx_asks.specs.View.{CallerState}
use Rattle.rx_asks.proofs.Asked.{asks_own, call_in}
use Rattle.rx_asks.proofs.CallerEvents.{asked_dims, asked_stays}
use Rattle.rx_jobs.specs.Dispatching.{accepts, dispatching}
use Rattle.rx_plan.specs.Parts.{Part}
use Rattle.rx_plan.specs.Programs.{Turn}
use Rattle.rx_plan.specs.Stages.{InvokedState, Stage, with_event}
use Rattle.rx_plan.specs.Turned.{dispatches, turns_of}
use Rattle.rx_plan.proofs.Callers.{IsClientNode, client_apart, heard_call, one_is, set_other, side_by, side_other}
use Rattle.rx_plan.proofs.Callers.{side_own}
use Rattle.rx_plan.proofs.ClientDims.{client_gives, client_takes}
use Rattle.rx_plan.proofs.ClientEnds.{onward_after}
use Rattle.rx_plan.proofs.Driven.{set_own, set_twice, with_view}
use Rattle.rx_plan.proofs.Driven as driven
use Rattle.rx_plan.proofs.Following.{Asks, IsFollowed, followed}
use Rattle.rx_plan.proofs.HasCaller.{NotCalled, starts_no}
use Rattle.rx_plan.proofs.Leading.{Leads, ends_lead, then_lead, turn_lead}
use Rattle.rx_plan.proofs.Shaped.{IsCarried, Shapes}
use Rattle.rx_load.specs.Loads.{load_handlers}
use Rattle.rx_load.proofs.Knowing.{Knows, KnowsTurn, begins_turn, idle_rests, knows_on, knows_own, knows_same}
use Rattle.rx_history.proofs.ClientHistory.{clients}

-- a call of a load is asked as it's opened, with the bytes of its request
abbrev pub Opened : ℕ → Type 0
Opened place = List ℕ

abbrev pub opened_with : (place : ℕ) → Opened place → List ℕ
opened_with place bytes = bytes

abbrev pub Follows : driven.Seen → Type 0
Follows = IsFollowed load_handlers Opened opened_with

-- ---- one caller

-- it knows of its call, at its client
pub record KnowsAt (nodes : List Node) (h : List Noted) (i : InvokedState) : Type 0 where
  pub node : IsClientNode nodes i.node
  pub knows : Knows (looks node.client.setup (side i.node h)) i.caller

-- and no turn of it is under way
pub record Waits (nodes : List Node) (h : List Noted) (i : InvokedState) : Type 0 where
  pub at : KnowsAt nodes h i
  pub idle : (calling REPLY_BYTES).asks i.caller ≡ None

-- while it knows of no end, its call lives
abbrev pub Notices : List Node → List Noted → InvokedState → Type 0
Notices nodes h i =
    (n : Node) → slice_get nodes i.node ≡ Some n → i.caller.end ≡ None
    → is_call (λ k. is_live k.life) (call_at (looks n.setup (side i.node h)) i.caller.call) ≡ true

-- ---- all of them

pub record AllKnow (s : Stage) : Type 0 where
  pub follows : Follows (driven.seen s)
  pub are : AreNodes s.nodes
  pub each : (j : ℕ) (i : InvokedState) → slice_get s.callers j ≡ Some i → Waits s.nodes s.history i

-- those at some places notice
abbrev pub SomeNotice : (ℕ → Type 0) → Stage → Type 0
SomeNotice At s = (j : ℕ) (i : InvokedState) → At j → slice_get s.callers j ≡ Some i → Notices s.nodes s.history i

abbrev pub AllNotice : Stage → Type 0
AllNotice s = (j : ℕ) (i : InvokedState) → slice_get s.callers j ≡ Some i → Notices s.nodes s.history i

both_lead : {A : Type 0} (P R : A → Type 0) (part : Part A) → Leads P part → Leads R part → Leads (λ a. P a × R a) part
both_lead P R part p r es a made = (p es a made, r es a made)

-- ---- an event at a client

-- the rules of a client allow it there
client_here : (nodes : List Node) (h : List Noted) (node : ℕ) (e : Event) (n : IsClientNode nodes node)
    → IsAllowedAt nodes h node e → AllowedClient n.client.setup n.host n.epoch (looks n.client.setup (side node h)) e
client_here nodes h node e n allowed =
    clients n.client.setup.kind n.client.setup n.host n.epoch (looks n.client.setup (side node h)) e n.kind
    (and-some (slice_get nodes node) n.client (λ m. Allowed m.setup (looks m.setup (side node h)) e) n.there allowed)

-- what the network and the clocks do, and a poll, leaves what a caller knows
knows_behind : (nodes : List Node) (h : List Noted) (node : ℕ) (e : Event) (i : InvokedState)
    → ((n : IsClientNode nodes node)
    → Dims (looks n.client.setup (side node h)) (looks n.client.setup (e ∷ side node h)))
    → NotCalled i.caller.call e → IsAllowedAt nodes h node e → Waits nodes h i → Waits nodes (noted node e ∷ h) i
knows_behind nodes h node e i dims other allowed w = record {
  at = record {
    node = n;
    knows = side_by (λ es. Knows (looks n.client.setup es) i.caller) i.node node e h (λ same k. own same k) w.at.knows;
  };
  idle = w.idle;
}
  where
    n : IsClientNode nodes i.node
    n = w.at.node

    l : Looks
    l = looks n.client.setup (side i.node h)

    own : node ≡ i.node → Knows l i.caller → Knows (after n.client.setup e l) i.caller
    own same k =
        (let here : AllowedClient n.client.setup n.host n.epoch l e =
        client_here nodes h i.node e n (subst (λ (j : ℕ). IsAllowedAt nodes h j e) same allowed) in
        let dims_here : (m : IsClientNode nodes i.node)
        → Dims (looks m.client.setup (side i.node h)) (looks m.client.setup (e ∷ side i.node h)) =
        subst (λ (j : ℕ). (m : IsClientNode nodes j)
        → Dims (looks m.client.setup (side j h)) (looks m.client.setup (e ∷ side j h))) same dims in
        knows_on l (after n.client.setup e l) i.caller
        (onward_after n.client.setup n.host n.epoch l i.caller.call e here
        (starts_no n.client.setup n.host n.epoch n.kind l e i.caller.call here other))
        (numbers_stay l (after n.client.setup e l) (connection_of i.caller.call) i.caller.call.chan (dims_here n)) k)

-- an event of the server leaves it too
pub knows_aside : (nodes : List Node) (h : List Noted) (node : ℕ) (e : Event) (i : InvokedState) → node ≢ i.node
    → Waits nodes h i → Waits nodes (noted node e ∷ h) i
knows_aside nodes h node e i apart w = record {
  at = record {
    node = w.at.node;
    knows = subst (λ es. Knows (looks w.at.node.client.setup es) i.caller) (sym (side_other i.node node e h apart))
        w.at.knows;
  };
  idle = w.idle;
}

pub notices_aside : (nodes : List Node) (h : List Noted) (node : ℕ) (e : Event) (i : InvokedState) → node ≢ i.node
    → Notices nodes h i → Notices nodes (noted node e ∷ h) i
notices_aside nodes h node e i apart notices n there open_ =
    subst (λ es. is_call (λ k. is_live k.life) (call_at (looks n.setup es) i.caller.call) ≡ true)
    (sym (side_other i.node node e h apart)) (notices n there open_)

-- and one of another caller of this client
knows_beside : (nodes : List Node) (h : List Noted) (node : ℕ) (a : Asking) (e : Event) (i : InvokedState) → IsAsked a e
    → (node ≡ i.node → same_name i.caller.call (call_in a) ≡ false) → Waits nodes h i → Waits nodes (noted node e ∷ h) i
knows_beside nodes h node a e i is other w = record {
  at = record {
    node = w.at.node;
    knows = side_by (λ es. Knows (looks w.at.node.client.setup es) i.caller) i.node node e h
        (λ same k.
        knows_same (looks w.at.node.client.setup (side i.node h)) (looks w.at.node.client.setup (e ∷ side i.node h))
        i.caller
        (asked_stays w.at.node.client.setup i.caller.call a e (looks w.at.node.client.setup (side i.node h)) is
        (other same))
        (numbers_stay (looks w.at.node.client.setup (side i.node h)) (looks w.at.node.client.setup (e ∷ side i.node h))
        (connection_of i.caller.call) i.caller.call.chan
        (asked_dims w.at.node.client.setup a e (looks w.at.node.client.setup (side i.node h)) is)) k) w.at.knows;
  };
  idle = w.idle;
}

notices_beside : (nodes : List Node) (h : List Noted) (node : ℕ) (a : Asking) (e : Event) (i : InvokedState)
    → IsAsked a e
    → (node ≡ i.node → same_name i.caller.call (call_in a) ≡ false) → Notices nodes h i
    → Notices nodes (noted node e ∷ h) i
notices_beside nodes h node a e i is other notices n there open_ =
    side_by (λ es. is_call (λ k. is_live k.life) (call_at (looks n.setup es) i.caller.call) ≡ true) i.node node e h
    (λ same was.
    ap (is_call (λ k. is_live k.life))
    (asked_stays n.setup i.caller.call a e (looks n.setup (side i.node h)) is (other same)) ∙ was)
    (notices n there open_)

-- ---- turns of the dispatcher

-- they are events of the server
serve_knows : (s : Stage) → AllKnow s → Leads AllKnow (dispatches load_handlers s)
serve_knows s so es t made = record { follows = both.0; are = both.1.0; each = both.1.1 }
  where
    Rest : Stage → Type 0
    Rest u = AreNodes u.nodes
        × ((j : ℕ) (i : InvokedState) → slice_get u.callers j ≡ Some i → Waits u.nodes u.history i)

    rest : Leads Rest (dispatches load_handlers s)
    rest =
        then_lead (λ r. Rest r.1 × ((dispatching load_handlers).asks r.0 ≡ None)) Rest
        (Turn (dispatching load_handlers) 0 (accepts s.jobs) s) _
        (turn_lead (dispatching load_handlers) 0 (λ v u. Rest u)
        (λ v u a e there asked is allowed. (
          there.0,
          λ j i at. knows_aside u.nodes u.history 0 e i
              (λ same. client_apart u.nodes i.node there.0 (there.1 j i at).at.node (sym same)) (there.1 j i at),
        )) (accepts s.jobs) s (so.are, so.each))
        (λ r there. ends_lead Rest _ there.0)

    both : Follows (driven.seen t) × Rest t
    both =
        both_lead (λ u. Follows (driven.seen u)) Rest (dispatches load_handlers s)
        ((driven.shaped load_handlers (Asks load_handlers Opened opened_with) Follows
        (followed load_handlers Opened opened_with)).serves s so.follows) rest es t made

-- ---- the turn of a caller

module _ (place : ℕ) (k : InvokedState) (s : Stage) (at : slice_get s.callers place ≡ Some k) (so : AllKnow s)
    (At : ℕ → Type 0) (notice : SomeNotice At s) where
  -- in its turn, with this view: it knows its call, and the others as much as before
  record InTurn (v : CallerState) (t : Stage) : Type 0 where
    follows : Follows (record (driven.seen t) { callers = set s.callers place (with_view k v) })
    are : AreNodes t.nodes
    call : v.call ≡ k.caller.call
    node : IsClientNode t.nodes k.node
    turn : KnowsTurn (looks node.client.setup (side k.node t.history)) v
    others : (j : ℕ) (i : InvokedState) → place ≢ j → slice_get s.callers j ≡ Some i → Waits t.nodes t.history i
    notices :
        (j : ℕ) (i : InvokedState) → place ≢ j → At j → slice_get s.callers j ≡ Some i → Notices t.nodes t.history i

  begins : InTurn (begun k.caller) s
  begins =
      (let w = so.each place k at in
      record {
        follows = (followed load_handlers Opened opened_with).offers_first (driven.seen s) place k at so.follows;
        are = so.are;
        call = refl;
        node = w.at.node;
        turn = begins_turn (looks w.at.node.client.setup (side k.node s.history)) k.caller w.idle w.at.knows;
        others = λ j i differ there. so.each j i there;
        notices = λ j i differ asked there. notice j i asked there;
      })

  step : (v : CallerState) (t : Stage) (a : Asking) (e : Event) → InTurn v t → (calling REPLY_BYTES).asks v ≡ Some a
      → IsAsked a e → IsAllowedAt t.nodes t.history k.node e → InTurn (heard v e) (with_event k.node e t)
  step v t a e i asked is allowed = record {
    follows = subst (λ (cs : List InvokedState). Follows
        (record (driven.seen_behind k.node e (driven.seen t)) { callers = cs }))
        (set_twice s.callers place (with_view k v) (with_view k (heard v e)))
        ((followed load_handlers Opened opened_with).calls
        (record (driven.seen t) { callers = set s.callers place (with_view k v) }) place (with_view k v) a e
        (set_own s.callers place k (with_view k v) at) asked is allowed i.follows);
    are = i.are;
    call = heard_call v e ∙ i.call;
    node = i.node;
    turn = subst (λ es. KnowsTurn (looks i.node.client.setup es) (heard v e)) (sym (side_own k.node e t.history))
        (knows_own i.node.client.setup i.node.host i.node.epoch (looks i.node.client.setup (side k.node t.history)) v a
        e
        asked is (client_here t.nodes t.history k.node e i.node allowed) i.turn);
    others = λ j m differ there.
        knows_beside t.nodes t.history k.node a e m is (apart j m differ there) (i.others j m differ there);
    notices = λ j m differ noticed there.
        notices_beside t.nodes t.history k.node a e m is (apart j m differ there) (i.notices j m differ noticed there);
  }
    where
      apart : (j : ℕ) (m : InvokedState) → place ≢ j → slice_get s.callers j ≡ Some m → k.node ≡ m.node
          → same_name m.caller.call (call_in a) ≡ false
      apart j m differ there same =
          ap (same_name m.caller.call) (asks_own REPLY_BYTES v a asked)
          ∙ (i.follows.played i.are).callers.apart j place m (with_view k v) (λ equal. differ (sym equal))
          (set_other s.callers place j (with_view k v) differ ∙ there) (set_own s.callers place k (with_view k v) at)
          (sym same)

  -- its turn is over
  over : (v : CallerState) (t : Stage) → InTurn v t → (calling REPLY_BYTES).asks v ≡ None
      → AllKnow (record t { callers = set s.callers place (with_view k v) })
      × SomeNotice (λ j. (j ≡ place) ⊎ At j) (record t { callers = set s.callers place (with_view k v) })
  over v t i idle = (
    record { follows = i.follows; are = i.are; each = λ j m is. each_of j m is (place == j) refl },
    λ j m which is. notice_of j m which is (place == j) refl,
  )
    where
      own_is : (j : ℕ) (m : InvokedState) → slice_get (set s.callers place (with_view k v)) j ≡ Some m → place ≡ j
          → with_view k v ≡ m
      own_is j m is same =
          one_is (with_view k v) m (sym (set_own s.callers place k (with_view k v) at)
          ∙ subst (λ (p : ℕ). slice_get (set s.callers place (with_view k v)) p ≡ Some m) (sym same) is)

      apart : (j : ℕ) → (place == j) ≡ false → place ≢ j
      apart j differ same =
          (let yes : (place == j) ≡ true = subst (λ (p : ℕ). (place == p) ≡ true) same (number_itself place) in cc)

      other_is : (j : ℕ) (m : InvokedState) → slice_get (set s.callers place (with_view k v)) j ≡ Some m → place ≢ j
          → slice_get s.callers j ≡ Some m
      other_is j m is differ = sym (set_other s.callers place j (with_view k v) differ) ∙ is

      each_of : (j : ℕ) (m : InvokedState) → slice_get (set s.callers place (with_view k v)) j ≡ Some m → (b : Bool)
          → (place == j) ≡ b → Waits t.nodes t.history m
      each_of j m is true same =
          subst (Waits t.nodes t.history) (own_is j m is (same_number place j same))
          (record { at = record { node = i.node; knows = i.turn.knows }; idle = idle })
      each_of j m is false differ = i.others j m (apart j differ) (other_is j m is (apart j differ))

      own_notices : Notices t.nodes t.history (with_view k v)
      own_notices n there open_ =
          (let one : n ≡ i.node.client = one_is n i.node.client (sym there ∙ i.node.there) in
          subst (λ (m : Node). is_call (λ r. is_live r.life) (call_at (looks m.setup (side k.node t.history)) v.call) ≡
          true)
          (sym one)
          (ap (is_call (λ r. is_live r.life)) i.turn.knows.there
          ∙ ap is_live (i.turn.rests open_ (idle_rests v idle open_).rests)))

      notice_of : (j : ℕ) (m : InvokedState) → (j ≡ place) ⊎ At j
          → slice_get (set s.callers place (with_view k v)) j ≡ Some m → (b : Bool) → (place == j) ≡ b
          → Notices t.nodes t.history m
      notice_of j m which is true same =
          subst (Notices t.nodes t.history) (own_is j m is (same_number place j same)) own_notices
      notice_of j m (inl here) is false differ = absurd (apart j differ (sym here))
      notice_of j m (inr noticed) is false differ =
          i.notices j m (apart j differ) noticed (other_is j m is (apart j differ))

  pub turn_knows : Leads
      (λ t. AllKnow t × SomeNotice (λ j. (j ≡ place) ⊎ At j) t × (length t.callers ≡ length s.callers))
      (turns_of place k s)
  turn_knows =
      then_lead (λ r. InTurn r.0 r.1 × ((calling REPLY_BYTES).asks r.0 ≡ None)) _
      (Turn (calling REPLY_BYTES) k.node (begun k.caller) s) _
      (turn_lead (calling REPLY_BYTES) k.node InTurn step (begun k.caller) s begins)
      (λ r there. (
      let behind = over r.0 r.1 there.0 there.1 in
      ends_lead _ _ (
        behind.0,
        behind.1,
        length-set s.callers place (with_view k r.0),
      )))

-- ---- by the shape of plans

pub carried_knows : (s : Stage) (node : ℕ) (e : Event) → IsCarried e → IsAllowedAt s.nodes s.history node e → AllKnow s
    → AllKnow (with_event node e s)
carried_knows s node e carried allowed so = record {
  follows = (driven.shaped load_handlers (Asks load_handlers Opened opened_with) Follows
      (followed load_handlers Opened opened_with)).carried s node e carried allowed so.follows;
  are = so.are;
  each = λ j i at. knows_behind s.nodes s.history node e i (λ n. dims n e carried allowed)
      (none i.caller.call e carried) allowed
      (so.each j i at);
}
  where
    none : (c : CallName) (e : Event) → IsCarried e → NotCalled c e
    none c (events.Taken from bytes got) carried = tt
    none c (events.Clocked now) carried = tt
    none c e carried = elim carried [ ]

    dims : (n : IsClientNode s.nodes node) (e : Event) → IsCarried e → IsAllowedAt s.nodes s.history node e
        → Dims (looks n.client.setup (side node s.history)) (looks n.client.setup (e ∷ side node s.history))
    dims n (events.Taken from bytes got) carried allowed =
        client_takes n.client.setup n.host n.epoch n.kind (looks n.client.setup (side node s.history)) from bytes got
        (client_here s.nodes s.history node (events.Taken from bytes got) n allowed)
    dims n (events.Clocked now) carried allowed =
        (let same = dims_refl (looks n.client.setup (side node s.history)) in
        record { calls = same.calls; conns = same.conns })
    dims n e carried allowed = elim carried [ ]

pub polled_knows : (s : Stage) (node : ℕ) (e : Event) → IsPolled e → IsAllowedAt s.nodes s.history node e → AllKnow s
    → AllKnow (with_event node e s)
polled_knows s node (events.Polled got) is allowed so = record {
  follows = (driven.line_shaped load_handlers (Asks load_handlers Opened opened_with) Follows
      (followed load_handlers Opened opened_with)).quiet s node (events.Polled got) (tt, tt) allowed so.follows;
  are = so.are;
  each = λ j i at. knows_behind s.nodes s.history node (events.Polled got) i
      (λ n. client_gives n.client.setup n.host n.epoch n.kind (looks n.client.setup (side node s.history)) got) tt
      allowed
      (so.each j i at);
}
polled_knows s node e is allowed so = elim is [ ]

pub knowing : Shapes load_handlers AllKnow
knowing = record {
  carried = carried_knows;
  serves = serve_knows;
  calls = λ place k s at so es t made. (turn_knows place k s at so (λ j. ⊥) (λ j i never. absurd never) es t made).0;
}
