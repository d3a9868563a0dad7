-- The turns of all callers leave the server, the nodes and the dispatcher's jobs.
use Rattle.std.proofs.Common.{◌≡◌, ◌==◌, not, ℕ, Bool, true, false, List, [], ◌∷◌, refl, ap, sym, ◌∙◌, Option, Some}
use Rattle.std.proofs.Common.{None, length, nat_lt, slice_get, ◌++◌, inl, set}
use Rattle.std.proofs.lemmas.Bool.{and_parts, eq-eqb}
use Rattle.rx_model.specs.declared.event.Event.{Event}
use Rattle.rx_model.specs.declared.event.Noted.{Noted}
use Rattle.rx_model.specs.declared.names.CallName.{CallName}
use Rattle.rx_model.specs.declared.names.Host.{Host}
use Rattle.rx_model.specs.Names.{same_name}
use Rattle.rx_model.proofs.NameLaws.{not_true}
use Rattle.rx_rules.specs.After.{looks}
use Rattle.rx_rules.specs.Looks.{call_at}
use Rattle.rx_rules.specs.CallLooks.{CallLooks}
use Rattle.rx_rules.specs.Setup.{Client}
use Rattle.rx_history.specs.Sides.{Node, side}
use Rattle.rx_wire.specs.Turns.{Program}
use Rattle.rx_asks.specs.declared.ask.TheConstants.{REPLY_BYTES}
use Rattle.rx_asks.specs.Asks.{begun, calling}
use Rattle.rx_asks.specs.View.{CallerState}
use Rattle.rx_plan.specs.Network.{below}
use Rattle.rx_plan.specs.Parts.{Came, To, by_test, each, ends}
use Rattle.rx_plan.specs.Programs.{Turn, cut_there, goes, is_endless, is_over}
use Rattle.rx_plan.specs.Stages.{InvokedState, Stage, is_client, with_event}
use Rattle.rx_plan.specs.Turned.{turns_all, turns_at, turns_of, turns_where}
use Rattle.rx_plan.proofs.Callers.{side_other}
use Rattle.rx_rounds.proofs.Making.{ends_to, then_to, to_is}
use Rattle.rx_rounds.proofs.Rounded.{Made}
use Rattle.rx_closing.proofs.Frame.{served_in}

-- ---- places

-- parts of two lists, one after another
pub each_split : {X : Type 0} (part : X → Stage → List Noted → Came Stage → Type 0) (xs ys : List X) (s t : Stage)
    → Made (each part (xs ++ ys)) s t
    → (u : Stage) × Made (each part xs) s u × Made (each part ys) u t
each_split part [] ys s t made = (s, ([], (refl, inl refl)), made)
each_split part (x ∷ xs) ys s t made =
    let b = then_to (part x s) (each part (xs ++ ys)) made.0 t made.1 in
    let r = each_split part xs ys b.between t (b.rest, b.goes) in (
      r.0,
      (
        b.front ++ r.1.0,
        record { front = b.front; rest = r.1.0; are = refl; came = To b.between; made = b.made; goes = r.1.1 },
      ),
      r.2,
    )

-- ---- one turn of a caller

-- the turn of the caller at a place
pub record TurnAt (place : ℕ) (i : InvokedState) (s t : Stage) : Type 0 where
  pub view : CallerState
  pub stage : Stage
  pub events : List Noted
  pub turn : Turn (calling REPLY_BYTES) i.node (begun i.caller) s events (To (view, stage))
  pub then_ : t ≡ record stage { callers = set s.callers place (record i { caller = view }) }

pub turn_of : (place : ℕ) (i : InvokedState) (s t : Stage) (es : List Noted) → turns_of place i s es (To t)
    → TurnAt place i s t
turn_of place i s t es made =
    let b = then_to (Turn (calling REPLY_BYTES) i.node (begun i.caller) s)
    (λ r. ends (To (record r.1 { callers = set s.callers place (record i { caller = r.0 }) }))) es t made in
    record {
      view = b.between.0;
      stage = b.between.1;
      events = b.front;
      turn = b.made;
      then_ =
          ends_to (record b.between.1 { callers = set s.callers place (record i { caller = b.between.0 }) }) t b.rest
          b.goes;
    }

-- ---- seen from one call

module _ (node : ℕ) (client : Node) (host : Host) (epoch : ℕ) (kind : client.setup.kind ≡ Client host epoch)
    (c : CallName) (now : ℕ) where
  -- ---- turns of other callers

  -- each caller of this client at another place has another call
  abbrev pub AreApart : ℕ → List InvokedState → Type 0
  AreApart place ks =
      (j : ℕ) (i : InvokedState) → (j ≡ place → ⊥) → slice_get ks j ≡ Some i → i.node ≡ node
      → same_name c i.caller.call ≡ false

  -- ---- the turn of its own caller

  -- a caller of the call, which lives: it isn't finished, and what was said and what it has to offer are its request
  pub record IsOn (request : List ℕ) (v : CallerState) (k : CallLooks) : Type 0 where
    pub call : v.call ≡ c
    pub open_ : v.end ≡ None
    pub shut : v.shut ≡ k.sent.shut
    pub none : v.shut ≡ true → v.offering ≡ []
    pub said : k.sent.said ++ v.offering ≡ request

-- ---- a turn of a program

-- it leaves any other node
pub turn_side : {View Ask : Type 0} (p : Program View Ask) (i j : ℕ) (v w : View) (s t : Stage) (es : List Noted)
    → (j ≡ i → ⊥) → Turn p j v s es (To (w, t)) → side i t.history ≡ side i s.history
turn_side {View = View} {Ask = Ask} p i j v w s t es apart turn = of v s es (To (w, t)) turn refl
  where
    of : (v : View) (s : Stage) (es : List Noted) (out : Came (View × Stage)) → Turn p j v s es out
        → out ≡ To (w, t) → side i t.history ≡ side i s.history
    of v s es out (cut_there a b) is = absurd cc
    of v s es out (is_over a b none) is =
        ap (λ (z : View × Stage). side i z.1.history) (sym (to_is (v, s) (w, t) is))
    of v s es out (goes a b ask e more o asked allowed rest) is =
        of (p.heard v e) (with_event j e s) more o rest is ∙ side_other i j e s.history apart
    of v s es out (is_endless a b fs turn_cut long) is = absurd cc

-- and what no event changes
turn_keeps : {View Ask X : Type 0} (F : Stage → X)
    → ((node : ℕ) (e : Event) (s : Stage) → F (with_event node e s) ≡ F s)
    → (p : Program View Ask) (j : ℕ) (v w : View) (s t : Stage) (es : List Noted) → Turn p j v s es (To (w, t))
    → F t ≡ F s
turn_keeps {View = View} {Ask = Ask} F same p j v w s t es turn = of v s es (To (w, t)) turn refl
  where
    of : (v : View) (s : Stage) (es : List Noted) (out : Came (View × Stage)) → Turn p j v s es out
        → out ≡ To (w, t) → F t ≡ F s
    of v s es out (cut_there a b) is = absurd cc
    of v s es out (is_over a b none) is = ap (λ (z : View × Stage). F z.1) (sym (to_is (v, s) (w, t) is))
    of v s es out (goes a b ask e more o asked allowed rest) is =
        of (p.heard v e) (with_event j e s) more o rest is ∙ same j e s
    of v s es out (is_endless a b fs turn_cut long) is = absurd cc

-- ---- all callers

-- what a stage has of these
pub record Leaves (s t : Stage) : Type 0 where
  pub server : side 0 t.history ≡ side 0 s.history
  pub nodes : t.nodes ≡ s.nodes
  pub jobs : t.jobs ≡ s.jobs

leaves_same : (s t : Stage) → t ≡ s → Leaves s t
leaves_same s t same =
    record {
      server = ap (λ (u : Stage). side 0 u.history) same;
      nodes = ap (λ (u : Stage). u.nodes) same;
      jobs = ap (λ (u : Stage). u.jobs) same;
    }

leaves_then : (s t u : Stage) → Leaves s t → Leaves t u → Leaves s u
leaves_then s t u p q =
    record { server = q.server ∙ p.server; nodes = q.nodes ∙ p.nodes; jobs = q.jobs ∙ p.jobs }

client_apart : (j : ℕ) (s : Stage) → is_client j s ≡ true → j ≡ 0 → ⊥
client_apart j s is same =
    let parts = and_parts (not (j == 0)) (nat_lt j (length s.nodes)) is in
    let other : (j == 0) ≡ false = not_true (j == 0) parts.0 in
    let zero_ : (j == 0) ≡ true = eq-eqb j 0 same in
    cc (other, zero_)

place_leaves : (place : ℕ) (s t : Stage) → Made (turns_at place) s t → Leaves s t
place_leaves place s t made = by (slice_get s.callers place) made.1
  where
    by : (o : Option InvokedState) → turns_where place o s made.0 (To t) → Leaves s t
    by None m = leaves_same s t (ends_to s t made.0 m)
    by (Some i) m = test (is_client i.node s) refl m
      where
        test : (b : Bool) → is_client i.node s ≡ b → by_test b (turns_of place i s) (ends (To s)) made.0 (To t)
            → Leaves s t
        test false is n = leaves_same s t (ends_to s t made.0 n)
        test true is n =
            (let u : TurnAt place i s t = turn_of place i s t made.0 n in
            record {
              server =
                  ap (λ (q : Stage). side 0 q.history) u.then_
                  ∙ turn_side (calling REPLY_BYTES) 0 i.node (begun i.caller) u.view s u.stage u.events
                  (client_apart i.node s is) u.turn;
              nodes =
                  ap (λ (q : Stage). q.nodes) u.then_
                  ∙ turn_keeps (λ (q : Stage). q.nodes) (λ k e q. refl) (calling REPLY_BYTES) i.node (begun i.caller)
                  u.view s u.stage u.events u.turn;
              jobs =
                  ap (λ (q : Stage). q.jobs) u.then_
                  ∙ turn_keeps (λ (q : Stage). q.jobs) (λ k e q. refl) (calling REPLY_BYTES) i.node (begun i.caller)
                  u.view s u.stage u.events u.turn;
            })

places_leave : (places : List ℕ) (s t : Stage) → Made (each turns_at places) s t → Leaves s t
places_leave [] s t made = leaves_same s t (ends_to s t made.0 made.1)
places_leave (p ∷ ps) s t made =
    let b = then_to (turns_at p s) (each turns_at ps) made.0 t made.1 in
    leaves_then s b.between t (place_leaves p s b.between (b.front, b.made))
    (places_leave ps b.between t (b.rest, b.goes))

-- the turns of all callers
pub callers_leave : (s t : Stage) → Made turns_all s t → Leaves s t
callers_leave s t made = places_leave (below (length s.callers)) s t made

-- so the server has the call as it had it
pub served_stays : (c : CallName) (server : Node) (s t : Stage) → Made turns_all s t
    → served_in c server t ≡ served_in c server s
served_stays c server s t made =
    ap (λ (h : List Event). call_at (looks server.setup h) c) (callers_leave s t made).server
