-- What was driven at one node is a turn of the run of a plan, at each stage where the node's side is that history.
use Rattle.std.proofs.Common.{◌≡◌, ◌≢◌, ◌∙◌, ◌<◌, ◌-◌, ◌^◌, ◌≤◌, ℕ, suc, Bool, true, false, List, [], ◌∷◌, ◌++◌, Option}
use Rattle.std.proofs.Common.{Some, None, refl, sym, subst, ap, map, length, option_map, append_assoc}
use Rattle.std.proofs.Common.{append-nil}
use Rattle.std.specs.Prelude.{IsSomeAnd, if◌then◌else◌, slice_get}
use Rattle.rx_drive.specs.Carried as drive
use Rattle.rx_drive.specs.Carried.{Given}
use Rattle.rx_drive.specs.Nodes.{node_stages}
use Rattle.rx_drive.specs.Ran as ran
use Rattle.rx_drive.specs.Ran.{Fault, wants_memory, wire_failed}
use Rattle.rx_drive.specs.Tells as tells
use Rattle.rx_drive.specs.Tells.{Entry, Made, Step}
use Rattle.rx_drive.specs.Turned as turned
use Rattle.rx_drive.specs.declared.stop.Stop.{Stop as DriveStop}
use Rattle.rx_events.specs.Events.{IsPolled}
use Rattle.rx_events.specs.Joint.{IsAllowedAt}
use Rattle.rx_history.specs.Sides.{Node, side}
use Rattle.rx_joint.proofs.Standing.{other-side}
use Rattle.rx_joint.specs.Nodes.{NodesState}
use Rattle.rx_law.specs.Worlds.{AreOf, Datagram}
use Rattle.rx_model.proofs.NameLaws.{number_itself}
use Rattle.rx_model.specs.declared.event.Event.{Event}
use Rattle.rx_model.specs.declared.event.Event.TheVariants as events
use Rattle.rx_model.specs.declared.event.Noted.{Noted}
use Rattle.rx_model.specs.declared.names.Host.{Host}
use Rattle.rx_plan.specs.Finds.{where_true}
use Rattle.rx_plan.specs.Programs.{Turn, cut_there, goes, is_endless, is_over}
use Rattle.rx_plan.specs.Rounds.{Polling, heard_poll, polling}
use Rattle.rx_plan.specs.Stages.{Stage, with_event}
use Rattle.rx_rules.specs.After.{looks}
use Rattle.rx_rules.specs.Rules.{Allowed}
use Rattle.rx_rules.specs.Setup.{Setup}
use Rattle.rx_run.specs.Parts.{Came, Cut, Ended, Endless, To}
use Rattle.rx_script.specs.declared.outcome.PlanWhy.{PlanWhy}
use Rattle.rx_wire.specs.Turns.{Program, noted}
use Rattle.rx_stage.specs.Driving.{plan_stop}
use Rattle.rx_stage.specs.Giving.{Gives, GivingState, WantedAt, of_host}
use Rattle.rx_stage.specs.RoundsPlayed.{ended_with, more_from}
use Rattle.rx_stage.specs.Shown.{Shows, WorldState, stage_of}
use Rattle.rx_stage.specs.Tells.{event_line}
use Rattle.rx_stage.specs.TurnsPlayed.{Knows, PlaysTurn}
use Rattle.rx_stage.specs.declared.stop.Stop.{Stop}
use Rattle.rx_stage.proofs.Lending.{Lent}
use Rattle.rx_stage.proofs.Stepping.{nodes_shown, there_shown}
use Rattle.rx_stage.proofs.Plain.{Becomes, events_of, plain, ran_plan}

-- ---- stages

-- a node is so set up at a stage, and this is its side
pub record IsAt (setup : Setup) (node : ℕ) (s : Stage) (h : List Event) : Type 0 where
  pub own : side node s.history ≡ h
  pub there : IsSomeAnd (slice_get s.nodes node) (λ n. n.setup ≡ setup)
  pub within : node < length s.nodes
  pub of_nodes : AreOf s.nodes s.history

-- a joint history is that of a stage with more events of a node, whose side this is then
pub record Behind (node : ℕ) (s : Stage) (t : List Noted) (u : List Event) : Type 0 where
  pub own : side node t ≡ u
  pub others : (k : ℕ) → k ≢ node → side k t ≡ side k s.history
  pub of_nodes : AreOf s.nodes t

-- with no more
pub behind_none : (setup : Setup) (node : ℕ) (s : Stage) (h : List Event) → IsAt setup node s h
    → Behind node s s.history h
behind_none setup node s h at = record { own = at.own; others = λ k apart. refl; of_nodes = at.of_nodes }

-- with one more
pub behind_one : (setup : Setup) (node : ℕ) (s : Stage) (h : List Event) (e : Event) → IsAt setup node s h
    → Behind node s (noted node e ∷ s.history) (e ∷ h)
behind_one setup node s h e at =
    record {
      own = own ∙ ap (λ (g : List Event). e ∷ g) at.own;
      others = λ k apart. other-side node k e s.history (λ is. apart (sym is));
      of_nodes = (at.within, at.of_nodes);
    }
  where
    own : side node (noted node e ∷ s.history) ≡ e ∷ side node s.history
    own = rw (number_itself node) refl

-- with more behind that
pub behind_more : (node : ℕ) (s : Stage) (t t2 : List Noted) (u u2 : List Event) → Behind node s t u
    → Behind node (record s { history = t }) t2 u2 → Behind node s t2 u2
behind_more node s t t2 u u2 b more =
    record {
      own = more.own;
      others = λ k apart. more.others k apart ∙ b.others k apart;
      of_nodes = more.of_nodes;
    }

-- the node is there as before
pub at_behind : (setup : Setup) (node : ℕ) (s : Stage) (h : List Event) (t : List Noted) (u : List Event)
    → IsAt setup node s h → Behind node s t u → IsAt setup node (record s { history = t }) u
at_behind setup node s h t u at b =
    record { own = b.own; there = at.there; within = at.within; of_nodes = b.of_nodes }

-- what it may answer is allowed there
pub allowed_at : (setup : Setup) (node : ℕ) (s : Stage) (h : List Event) (e : Event) → IsAt setup node s h
    → Allowed setup (looks setup h) e → IsAllowedAt s.nodes s.history node e
allowed_at setup node s h e at allowed = of (slice_get s.nodes node) at.there
  where
    of : (o : Option Node) → IsSomeAnd o (λ n. n.setup ≡ setup)
        → IsSomeAnd o (λ n. Allowed n.setup (looks n.setup (side node s.history)) e)
    of None none = none
    of (Some n) is =
        subst (λ (t : Setup). Allowed t (looks t (side node s.history)) e) (sym is)
        (subst (λ (g : List Event). Allowed setup (looks setup g) e) (sym at.own) allowed)

-- ---- turns

-- the same events at a stage are those of a turn there
record Lifted {View Ask : Type 0} (p : Program View Ask) (node : ℕ) (v : View) (s : Stage) (ss : List Step) (w : View)
    (u : List Event) : Type 0 where
  pub history : List Noted
  pub leads : (came : Came PlanWhy (View × Stage)) → Turn p node w (record s { history = history }) [] came
      → Turn p node v s (events_of ss) came
  pub count : length (events_of ss) ≡ length ss
  pub behind : Behind node s history u

-- a program over one node, and one of a plan that asks the same and knows as much
module _ {V W Ask : Type 0} (p : Program V Ask) (q : Program W Ask) (f : V → W)
    (asks : (v : V) (a : Ask) → p.asks v ≡ Some a → q.asks (f v) ≡ Some a)
    (is_it : (a : Ask) (e : Event) → p.is a e → q.is a e)
    (hears : (v : V) (a : Ask) (e : Event) → p.is a e → f (p.heard v e) ≡ q.heard (f v) e) where
  lift : (setup : Setup) (node : ℕ) (v : V) (h : List Event) (ss : List Step) (w : V) (u : List Event)
      → drive.Onto (node_stages setup) p node v h ss w u → (s : Stage) → IsAt setup node s h
      → Lifted q node (f v) s ss (f w) u
  lift setup node v h ss w u (drive.here x y) s at =
      record {
        history = s.history;
        leads = λ came rest. rest;
        count = refl;
        behind = behind_none setup node s h at;
      }
  lift setup node v h ss w u (drive.onward x y a e es x2 y2 asked allowed rest) s at =
      (let one : Behind node s (noted node e ∷ s.history) (e ∷ h) = behind_one setup node s h e at in
      let l : Lifted q node (f (p.heard v e)) (with_event node e s) es (f w) u =
      lift setup node (p.heard v e) (e ∷ h) es w u rest (with_event node e s)
      (at_behind setup node s h (noted node e ∷ s.history) (e ∷ h) at one) in
      record {
        history = l.history;
        leads = λ came more. goes (f v) s a e (events_of es) came (asks v a asked)
            (is_it a e allowed.0, allowed_at setup node s h e at allowed.1)
            (subst (λ (x : W). Turn q node x (with_event node e s) (events_of es) came) (hears v a e allowed.0)
            (l.leads came more));
        count = ap suc l.count;
        behind = behind_more node s (noted node e ∷ s.history) l.history (e ∷ h) u one l.behind;
      })

-- ---- a node of a plan

module _ (m : WorldState) (new : NodesState) (node : ℕ) (setup : Setup) (stood stands : List Event → Type 0)
    (lent : Lent m.nodes new node setup stood stands) (s : Stage) (shown : Shows m s) where
  -- it is there, so set up
  pub at_lent : IsAt setup node s (side node s.history)
  at_lent =
      record {
        own = refl;
        there = subst (λ ns. IsSomeAnd (slice_get ns node) (λ n. n.setup ≡ setup)) (sym (nodes_shown m s shown))
            lent.is;
        within = there_shown m s node shown lent.there;
        of_nodes = shown.of_nodes;
      }

  -- the stage behind more of its events is shown
  pub shown_lent : (t : List Noted) (u : List Event) → Behind node s t u → stands u
      → Shows (record m { nodes = new }) (record s { history = t })
  shown_lent t u b there =
      record {
        is = ap (λ (x : Stage). record x { history = t }) shown.is
            ∙ ap (λ ns. record (stage_of m t) { nodes = ns }) (sym lent.nodes);
        standing = lent.lends s.history t shown.standing b.others (subst stands (sym b.own) there);
        service = shown.service;
        of_nodes = b.of_nodes;
        few = shown.few;
      }

  module _ {V W Ask : Type 0} (p : Program V Ask) (q : Program W Ask) (f : V → W)
      (asks : (v : V) (a : Ask) → p.asks v ≡ Some a → q.asks (f v) ≡ Some a)
      (is_it : (a : Ask) (e : Event) → p.is a e → q.is a e)
      (hears : (v : V) (a : Ask) (e : Event) → p.is a e → f (p.heard v e) ≡ q.heard (f v) e) where
    lifted : (v : V) (ss : List Step) (w : V) (u : List Event)
        → drive.Onto (node_stages setup) p node v (side node s.history) ss w u → Lifted q node (f v) s ss (f w) u
    lifted v ss w u onto =
        lift p q f asks is_it hears setup node v (side node s.history) ss w u onto s at_lent

    -- it is cut off
    cut_here : (v : V) (ss : List Step) (w : V) (u : List Event)
        → drive.Onto (node_stages setup) p node v (side node s.history) ss w u → Turn q node (f v) s (events_of ss) Cut
    cut_here v ss w u onto =
        (let l : Lifted q node (f v) s ss (f w) u = lifted v ss w u onto in
        l.leads Cut (cut_there (f w) (record s { history = l.history })))

    -- it counts as endless
    endless_here : (v : V) (ss : List Step) (w : V) (u : List Event)
        → drive.Onto (node_stages setup) p node v (side node s.history) ss w u → 2 ^ 64 - 1 ≤ length ss
        → Turn q node (f v) s (events_of ss) Endless
    endless_here v ss w u onto long =
        (let l : Lifted q node (f v) s ss (f w) u = lifted v ss w u onto in
        is_endless (f v) s (events_of ss) (cut_here v ss w u onto) (subst (λ n. 2 ^ 64 - 1 ≤ n) (sym l.count) long))

    -- it is over, and what it came to is shown
    over_here : (v : V) (ss : List Step) (w : V) (u : List Event) (known : W)
        → drive.Onto (node_stages setup) p node v (side node s.history) ss w u → q.asks (f w) ≡ None → f w ≡ known
        → stands u
        → (r : W × Stage) × Turn q node (f v) s (events_of ss) (To r) × Knows known (record m { nodes = new }) r.0 r.1
    over_here v ss w u known onto over is there =
        (let l : Lifted q node (f v) s ss (f w) u = lifted v ss w u onto in
        let t : Stage = record s { history = l.history } in (
          (f w, t),
          l.leads (To (f w, t)) (is_over (f w) t over),
          (is, shown_lent l.history u l.behind there),
        ))

-- ---- turns of a program

-- the nodes that a stage shows
pub lent_shown : (old new : NodesState) (node : ℕ) (setup : Setup) (stood stands : List Event → Type 0) (m : WorldState)
    → m.nodes ≡ old → Lent old new node setup stood stands → Lent m.nodes new node setup stood stands
lent_shown old new node setup stood stands m is lent =
    subst (λ n. Lent n new node setup stood stands) (sym is) lent

module _ {View Ask : Type 0} (p : Program View Ask) (wants : View → Type 0) (old new : NodesState) (node : ℕ)
    (setup : Setup) (stood stands : List Event → Type 0) where
  -- what was driven at the node is a turn of its program
  pub turn_driven : (v w : View) (stop : Option DriveStop) (result : Option Stop) (a b : tells.Told)
      → result ≡ option_map plan_stop stop → Lent old new node setup stood stands
      → ((h : List Event) → stood h → ran.Ran event_line (turned.turn (node_stages setup) p wants node v h)
      (λ r. (r.0 ≡ w) × stands r.1) stop a b)
      → PlaysTurn p node v w old new result (plain a) (plain b)
  turn_driven v w stop result a b ends lent driven m is s shown =
      ran_plan (turned.turn (node_stages setup) p wants node v (side node s.history)) (λ r. (r.0 ≡ w) × stands r.1)
      (Turn p node v s) (λ r. Knows w (record m { nodes = new }) r.0 r.1) stop result a b ends of
      (driven (side node s.history) (here.before s.history shown.standing))
    where
      here : Lent m.nodes new node setup stood stands
      here = lent_shown old new node setup stood stands m is lent

      of : (ss : List Step) (came : Came Fault (View × List Event))
          → turned.turn (node_stages setup) p wants node v (side node s.history) ss came
          → Becomes (λ r. (r.0 ≡ w) × stands r.1) (Turn p node v s)
          (λ r. Knows w (record m { nodes = new }) r.0 r.1) ss came
      of ss (To (x, u)) (onto, over) = λ there.
          over_here m new node setup stood stands here s shown p p (λ y. y) (λ y c asked. asked) (λ c e is. is)
          (λ y c e is. refl) v ss x u w onto over there.0 there.1
      of ss (Ended wants_memory) (x, u, onto, so) =
          cut_here m new node setup stood stands here s shown p p (λ y. y) (λ y c asked. asked) (λ c e is. is)
          (λ y c e is. refl) v ss x u onto
      of ss (Ended wire_failed) none = none
      of ss Cut (x, u, onto, so) =
          cut_here m new node setup stood stands here s shown p p (λ y. y) (λ y c asked. asked) (λ c e is. is)
          (λ y c e is. refl) v ss x u onto
      of ss Endless ((x, u, onto, so), long) =
          endless_here m new node setup stood stands here s shown p p (λ y. y) (λ y c asked. asked) (λ c e is. is)
          (λ y c e is. refl) v ss x u onto long

-- ---- polls

-- what polls came to, behind these datagrams
abbrev as_plan : Host → List Datagram → drive.Polling → Polling
as_plan from given v = record { again = v.again; given = given ++ map (of_host from) v.given }

map_push : (from : Host) (ds : List Given) (d : Given)
    → map (of_host from) (ds ++ d ∷ []) ≡ map (of_host from) ds ++ of_host from d ∷ []
map_push from [] d = refl
map_push from (x ∷ ds) d = ap (λ (xs : List Datagram). of_host from x ∷ xs) (map_push from ds d)

heard_same : (from : Host) (given : List Datagram) (v : drive.Polling) (e : Event) → IsPolled e
    → as_plan from given (drive.heard_poll v e) ≡ heard_poll from (as_plan from given v) e
heard_same from given v (events.Polled None) is = refl
heard_same from given v (events.Polled (Some (to, bytes))) is =
    ap (λ (ds : List Datagram). record { again = v.again; given = ds })
    (ap (λ (ds : List Datagram). given ++ ds) (map_push from v.given (to, bytes))
    ∙ sym (append_assoc given (map (of_host from) v.given) (of_host from (to, bytes) ∷ [])))
heard_same from given v _ is = absurd is

asked_same : (b : Bool) (a : Unit {0}) → (if b then Some tt else None) ≡ Some a → where_true b tt ≡ Some a
asked_same true a asked = asked
asked_same false a asked = asked

-- the events are those of all steps but the entries
events_made : (ss : List Step) → events_of (tells.made_of ss) ≡ events_of ss
events_made [] = refl
events_made (Made n ∷ ss) = ap (λ (es : List Noted). n ∷ es) (events_made ss)
events_made (Entry l ∷ ss) = events_made ss

-- what keeps what is given
abbrev pub carries : drive.Carrying GivingState
carries = record { carried = Gives; some = λ a xs ls. ls ≡ []; lost = λ why a xs ls. WantedAt why ls }

module _ (k l : GivingState) (more : List Datagram) (old new : NodesState) (node : ℕ) (setup : Setup)
    (stood stands : List Event → Type 0) where
  -- what was driven at the node is its turn of polls, whose datagrams are kept behind those before
  pub polls_driven : (stop : Option DriveStop) (result : Option Stop) (a b : tells.Told)
      → result ≡ option_map plan_stop stop → Lent old new node setup stood stands
      → ((h : List Event) → stood h
      → ran.Ran event_line (drive.polls_carried (node_stages setup) carries node k l h) stands stop a b)
      → more ≡ l.given
      → PlaysTurn (polling k.from) node (more_from k.given) (ended_with more) old new result (plain a) (plain b)
  polls_driven stop result a b ends lent driven same m is s shown =
      ran_plan (drive.polls_carried (node_stages setup) carries node k l (side node s.history)) stands
      (Turn (polling k.from) node (more_from k.given) s) (λ r. Knows (ended_with more) (record m { nodes = new }) r.0
      r.1) stop result a b ends of (driven (side node s.history) (here.before s.history shown.standing))
    where
      here : Lent m.nodes new node setup stood stands
      here = lent_shown old new node setup stood stands m is lent

      asked : (v : drive.Polling) (x : Unit {0}) → drive.polling.asks v ≡ Some x
          → (polling k.from).asks (as_plan k.from k.given v) ≡ Some x
      asked v x = asked_same v.again x

      -- a turn from the beginning on, behind what was given before
      begun : (ss : List Step) (came : Came PlanWhy (Polling × Stage))
          → Turn (polling k.from) node (as_plan k.from k.given drive.begin) s (events_of (tells.made_of ss)) came
          → Turn (polling k.from) node (more_from k.given) s (events_of ss) came
      begun ss came turn =
          subst (λ (es : List Noted). Turn (polling k.from) node (more_from k.given) s es came) (events_made ss)
          (subst (λ (ds : List Datagram). Turn (polling k.from) node (record { again = true; given = ds }) s
          (events_of (tells.made_of ss)) came) (append-nil k.given) turn)

      cut : (ss : List Step) (v : drive.Polling) (u : List Event)
          → drive.Onto (node_stages setup) drive.polling node drive.begin (side node s.history) (tells.made_of ss) v u
          → Turn (polling k.from) node (more_from k.given) s (events_of ss) Cut
      cut ss v u onto =
          begun ss Cut
          (cut_here m new node setup stood stands here s shown drive.polling (polling k.from) (as_plan k.from k.given)
          asked (λ x e is. is) (λ x y e is. heard_same k.from k.given x e is) drive.begin (tells.made_of ss) v u onto)

      whole : (ss : List Step) (v : drive.Polling) (u : List Event)
          → drive.Onto (node_stages setup) drive.polling node drive.begin (side node s.history) (tells.made_of ss) v u
          → v.again ≡ false → Gives k l v.given (tells.entries_of ss) → stands u
          → (r : Polling × Stage) × Turn (polling k.from) node (more_from k.given) s (events_of ss) (To r)
          × Knows (ended_with more) (record m { nodes = new }) r.0 r.1
      whole ss v u onto off carried there =
          (let is_it : as_plan k.from k.given v ≡ ended_with more =
          ap (λ (o : Bool). record { again = o; given = k.given ++ map (of_host k.from) v.given }) off
          ∙ ap (λ (ds : List Datagram). record { again = false; given = ds })
          (sym (same ∙ carried.kept)) in
          let r = over_here m new node setup stood stands here s shown drive.polling (polling k.from)
          (as_plan k.from k.given) asked (λ x e is. is) (λ x y e is. heard_same k.from k.given x e is) drive.begin
          (tells.made_of ss) v u (ended_with more) onto (ap (λ (o : Bool). where_true o tt) off) is_it there in
          (r.0, begun ss (To r.0) r.1, r.2))

      of : (ss : List Step) (came : Came Fault (List Event))
          → drive.polls_carried (node_stages setup) carries node k l (side node s.history) ss came
          → Becomes stands (Turn (polling k.from) node (more_from k.given) s)
          (λ r. Knows (ended_with more) (record m { nodes = new }) r.0 r.1) ss came
      of ss (To u) (v, onto, off, carried) = λ there. whole ss v u onto off carried there
      of ss (Ended wants_memory) (v, u, onto, so) = cut ss v u onto
      of ss (Ended wire_failed) (v, u, onto, so) = so
      of ss Cut (v, u, onto, so) = cut ss v u onto
      of ss Endless ((v, u, onto, so), long) =
          begun ss Endless
          (endless_here m new node setup stood stands here s shown drive.polling (polling k.from) (as_plan k.from
          k.given) asked (λ x e is. is) (λ x y e is. heard_same k.from k.given x e is) drive.begin (tells.made_of ss) v
          u onto long)
