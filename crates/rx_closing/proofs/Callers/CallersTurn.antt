-- The turns of all callers seen from one call of a client, whatever other calls live: those of others leave it, and its
-- own caller has its turn once.
use Rattle.std.proofs.Common.{◌≡◌, ◌≤◌, ◌<◌, ◌==◌, ◌++◌, ◌&&◌, not, ℕ, suc, zero, Bool, true, false, List, [], ◌∷◌}
use Rattle.std.proofs.Common.{refl, ap, sym, subst, ◌∙◌, Option, Some, None, length, arith, append_assoc, inl, inr, set}
use Rattle.std.proofs.Common.{slice_get, nat_lt}
use Rattle.std.proofs.lemmas.Bool.{cases_eq, lt-ltb, ne_eqb}
use Rattle.std.proofs.lemmas.Option.{slice_get_within}
use Rattle.rx_model.specs.declared.event.Event.{Event}
use Rattle.rx_model.specs.declared.event.Noted.{Noted}
use Rattle.rx_model.specs.declared.names.CallName.{CallName}
use Rattle.rx_model.specs.declared.names.Host.{Host}
use Rattle.rx_model.specs.Names.{same_name}
use Rattle.rx_model.proofs.NameLaws.{number_itself, same_number}
use Rattle.rx_rules.specs.After.{looks}
use Rattle.rx_rules.specs.CallLooks.{CallLooks}
use Rattle.rx_rules.specs.Looks.{CallRecord, call_at}
use Rattle.rx_rules.specs.Rules.{Legal}
use Rattle.rx_rules.specs.Setup.{Client}
use Rattle.rx_history.specs.Sides.{Node, side}
use Rattle.rx_wire.specs.Turns.{noted}
use Rattle.rx_events.specs.Joint.{IsAllowedAt}
use Rattle.rx_asks.specs.declared.ask.Phase.TheVariants as phases
use Rattle.rx_asks.specs.declared.ask.TheConstants.{REPLY_BYTES}
use Rattle.rx_asks.specs.Asks.{Asking, IsAsked, begun, calling}
use Rattle.rx_asks.specs.View.{CallerState}
use Rattle.rx_asks.proofs.Asked.{asks_own, call_in}
use Rattle.rx_plan.specs.Network.{below}
use Rattle.rx_plan.specs.Parts.{Came, To, by_test, each, ends}
use Rattle.rx_plan.specs.Programs.{Turn, cut_there, goes, is_endless, is_over}
use Rattle.rx_plan.specs.Stages.{InvokedState, Stage, is_client, with_event}
use Rattle.rx_plan.specs.Turned.{turns_all, turns_at, turns_of, turns_where}
use Rattle.rx_plan.proofs.Callers.{heard_call, one_is, set_other, side_other}
use Rattle.rx_plan.proofs.Driven.{set_own}
use Rattle.rx_rounds.proofs.Making.{ends_to, then_to, to_is}
use Rattle.rx_rounds.proofs.Rounded.{Made}
use Rattle.rx_asks.proofs.CallerEvents.{asked_stays}
use Rattle.rx_closing.proofs.Callers.CallerSays.{turns_own}
use Rattle.rx_closing.proofs.Callers.CallerTurn.{At, CallerLeft, Goes, caller_on, calls, ended_now, event_at, looks_at}
use Rattle.rx_closing.proofs.Callers.CallerTurn.{reads_on}
use Rattle.rx_closing.proofs.Callers.CallersLeave.{AreApart, IsOn, TurnAt, each_split, turn_of}
use Rattle.rx_closing.proofs.Frame.{AreAmong}

-- ---- seen from one call

-- a client that is there
pub client_there : (k : ℕ) (n : Node) (s : Stage) → slice_get s.nodes (suc k) ≡ Some n → is_client (suc k) s ≡ true
client_there k n s there =
    ap (λ (b : Bool). not b && nat_lt (suc k) (length s.nodes)) (ne_eqb (suc k) 0 (λ (same : suc k ≡ 0). omega arith))
    ∙ lt-ltb (suc k) (length s.nodes) (slice_get_within s.nodes (suc k) n there)

-- ---- places

-- none of these is that place
abbrev NoneIs : ℕ → List ℕ → Type 0
NoneIs place [] = Unit {0}
NoneIs place (p ∷ ps) = (p ≡ place → ⊥) × NoneIs place ps

none_append : (place : ℕ) (xs ys : List ℕ) → NoneIs place xs → NoneIs place ys → NoneIs place (xs ++ ys)
none_append place [] ys none more = more
none_append place (x ∷ xs) ys none more = (none.0, none_append place xs ys none.1 more)

none_below : (place n : ℕ) → n ≤ place → NoneIs place (below n)
none_below place zero low = tt
none_below place (suc n) low =
    none_append place (below n) (n ∷ []) (none_below place n (omega arith)) ((λ same. omega arith), tt)

-- the first numbers, before one of them and behind it
record BelowSplit (place n : ℕ) : Type 0 where
  front : List ℕ
  back : List ℕ
  are : below n ≡ front ++ place ∷ back
  before : NoneIs place front
  behind : NoneIs place back

below_split : (place n : ℕ) → place < n → BelowSplit place n
below_split place zero low = absurd (omega arith)
below_split place (suc n) low =
    elim (cases_eq place n) as (λ o. BelowSplit place (suc n)) [
      | inl same ↦ record {
        front = below n;
        back = [];
        are = ap (λ (m : ℕ). below n ++ m ∷ []) (sym same);
        before = none_below place n (omega arith);
        behind = tt;
      }
      | inr apart ↦ (let b = below_split place n (omega arith) in
          record {
            front = b.front;
            back = b.back ++ n ∷ [];
            are = ap (λ (xs : List ℕ). xs ++ n ∷ []) b.are ∙ append_assoc b.front (place ∷ b.back) (n ∷ []);
            before = b.before;
            behind = none_append place b.back (n ∷ []) b.behind ((λ same. apart (sym same)), tt);
          })
    ]

-- ---- one turn of a caller

-- it keeps its call
turn_call : (j : ℕ) (v w : CallerState) (s t : Stage) (es : List Noted)
    → Turn (calling REPLY_BYTES) j v s es (To (w, t)) → w.call ≡ v.call
turn_call j v w s t es turn = of v s es (To (w, t)) turn refl
  where
    of : (v : CallerState) (s : Stage) (es : List Noted) (out : Came (CallerState × Stage))
        → Turn (calling REPLY_BYTES) j v s es out → out ≡ To (w, t) → w.call ≡ v.call
    of v s es out (cut_there x y) is = absurd cc
    of v s es out (is_over x y none) is = ap (λ (z : CallerState × Stage). z.0.call) (sym (to_is (v, s) (w, t) is))
    of v s es out (goes x y a e more o asked allowed rest) is =
        of ((calling REPLY_BYTES).heard v e) (with_event j e s) more o rest is ∙ heard_call v e
    of v s es out (is_endless x y fs cut long) is = absurd cc

-- ---- seen from one call

module _ (node : ℕ) (client : Node) (host : Host) (epoch : ℕ) (kind : client.setup.kind ≡ Client host epoch)
    (c : CallName) (cs : List CallName) (now : ℕ) where
  abbrev There : Stage → CallRecord → Type 0
  There s r = At node client host epoch kind c cs now s r

  -- whatever callers there are
  at_callers : (s : Stage) (ks : List InvokedState) (r : CallRecord) → There s r → There (record s { callers = ks }) r
  at_callers s ks r at =
      record { first = at.first; legal = at.legal; there = at.there; moment = at.moment; among = at.among }

  -- an event that another caller asked for
  other_at : (s : Stage) (r : CallRecord) (j : ℕ) (a : Asking) (e : Event)
      → (j ≡ node → same_name c (call_in a) ≡ false) → There s r → IsAsked a e → IsAllowedAt s.nodes s.history j e
      → There (with_event j e s) r
  other_at s r j a e other at is allowed = by (j == node) refl
    where
      by : (b : Bool) → (j == node) ≡ b → There (with_event j e s) r
      by true same =
          (let own : j ≡ node = same_number j node same in
          subst (λ (i : ℕ). There (with_event i e s) r) (sym own)
          (event_at node client host epoch kind c cs now s r r a e at is
          (subst (λ (i : ℕ). IsAllowedAt s.nodes s.history i e) own allowed)
          (asked_stays client.setup c a e (looks_at node client host epoch kind c cs now s) is (other own) ∙ at.there)))
      by false differ =
          (let stays : side node (noted j e ∷ s.history) ≡ side node s.history =
          side_other node j e s.history (λ same. (
          let yes : (j == node) ≡ true = subst (λ (i : ℕ). (j == i) ≡ true) same (number_itself j) in
          absurd cc)) in
          record {
            first = at.first;
            legal = subst (Legal client.setup) (sym stays) at.legal;
            there = ap (λ (h : List Event). call_at (looks client.setup h) c) stays ∙ at.there;
            moment = ap (λ (h : List Event). (looks client.setup h).now) stays ∙ at.moment;
            among = subst (λ (h : List Event). AreAmong cs (looks client.setup h)) (sym stays) at.among;
          })

  -- the turn of another caller
  other_turn : (j : ℕ) (v w : CallerState) (s t : Stage) (es : List Noted) (r : CallRecord)
      → (j ≡ node → same_name c v.call ≡ false) → There s r → Turn (calling REPLY_BYTES) j v s es (To (w, t))
      → There t r
  other_turn j v w s t es r other at turn = of v s es (To (w, t)) turn other at refl
    where
      of : (v : CallerState) (s : Stage) (es : List Noted) (out : Came (CallerState × Stage))
          → Turn (calling REPLY_BYTES) j v s es out → (j ≡ node → same_name c v.call ≡ false) → There s r
          → out ≡ To (w, t) → There t r
      of v s es out (cut_there x y) other at is = absurd cc
      of v s es out (is_over x y none) other at is =
          subst (λ (z : CallerState × Stage). There z.1 r) (to_is (v, s) (w, t) is) at
      of v s es out (goes x y a e more o asked allowed rest) other at is =
          of ((calling REPLY_BYTES).heard v e) (with_event j e s) more o rest
          (λ same. ap (same_name c) (heard_call v e) ∙ other same)
          (other_at s r j a e (λ same. ap (same_name c) (asks_own REPLY_BYTES v a asked) ∙ other same) at allowed.0
          allowed.1) is
      of v s es out (is_endless x y fs cut long) other at is = absurd cc

  -- ---- turns of other callers

  -- each caller of this client at another place has another call
  abbrev Apart : ℕ → List InvokedState → Type 0
  Apart place ks = AreApart node client host epoch kind c now place ks

  -- a caller of the call, which lives and isn't finished
  abbrev On : List ℕ → CallerState → CallLooks → Type 0
  On request v k = IsOn node client host epoch kind c now request v k

  -- the call as it was, and its caller at its place
  record Passed (place : ℕ) (k : InvokedState) (r : CallRecord) (t : Stage) : Type 0 where
    at : There t r
    own : slice_get t.callers place ≡ Some k
    others : Apart place t.callers

  -- behind a change of the caller at a place, which keeps its call
  apart_set : (place p : ℕ) (i : InvokedState) (v : CallerState) (ks : List InvokedState) → slice_get ks p ≡ Some i
      → v.call ≡ i.caller.call → Apart place ks → Apart place (set ks p (record i { caller = v }))
  apart_set place p i v ks there call others j q differ is of_node = by (p == j) refl
    where
      new : InvokedState
      new = record i { caller = v }

      by : (b : Bool) → (p == j) ≡ b → same_name c q.caller.call ≡ false
      by true same =
          (let at_p : p ≡ j = same_number p j same in
          let here : new ≡ q =
          one_is new q (sym (set_own ks p i new there)
          ∙ subst (λ (m : ℕ). slice_get (set ks p new) m ≡ Some q) (sym at_p) is) in
          ap (λ (m : InvokedState). same_name c m.caller.call) (sym here) ∙ ap (same_name c) call
          ∙ others p i (λ one. differ (sym at_p ∙ one)) there
          (ap (λ (m : InvokedState). m.node) here ∙ of_node))
      by false other =
          others j q differ
          (sym (set_other ks p j new (λ same. (
          let yes : (p == j) ≡ true = subst (λ (m : ℕ). (p == m) ≡ true) same (number_itself p) in
          absurd cc))) ∙ is) of_node

  other_place : (place p : ℕ) (k : InvokedState) (r : CallRecord) (s t : Stage) → (p ≡ place → ⊥)
      → Passed place k r s → Made (turns_at p) s t → Passed place k r t
  other_place place p k r s t apart was made = by (slice_get s.callers p) refl made.1
    where
      still : t ≡ s → Passed place k r t
      still same = subst (Passed place k r) (sym same) was

      by : (o : Option InvokedState) → slice_get s.callers p ≡ o → turns_where p o s made.0 (To t) → Passed place k r t
      by None is m = still (ends_to s t made.0 m)
      by (Some i) is m = test (is_client i.node s) m
        where
          test : (b : Bool) → by_test b (turns_of p i s) (ends (To s)) made.0 (To t) → Passed place k r t
          test false n = still (ends_to s t made.0 n)
          test true n =
              (let u = turn_of p i s t made.0 n in
              let new : InvokedState = record i { caller = u.view } in
              let at1 : There u.stage r =
              other_turn i.node (begun i.caller) u.view s u.stage u.events r
              (λ same. was.others p i apart is same) was.at
              u.turn in
              subst (Passed place k r) (sym u.then_)
              (record {
                at = at_callers u.stage (set s.callers p new) r at1;
                own = set_other s.callers p place new apart ∙ was.own;
                others =
                    apart_set place p i u.view s.callers is
                    (turn_call i.node (begun i.caller) u.view s u.stage u.events u.turn) was.others;
              }))

  other_places : (place : ℕ) (k : InvokedState) (r : CallRecord) (ps : List ℕ) (s t : Stage) → NoneIs place ps
      → Passed place k r s → Made (each turns_at ps) s t → Passed place k r t
  other_places place k r [] s t none was made = subst (Passed place k r) (sym (ends_to s t made.0 made.1)) was
  other_places place k r (p ∷ ps) s t none was made =
      let b = then_to (turns_at p s) (each turns_at ps) made.0 t made.1 in
      other_places place k r ps b.between t none.1
      (other_place place p k r s b.between none.0 was (b.front, b.made)) (b.rest, b.goes)

  -- ---- the turn of its own caller

  abbrev pub Left : List ℕ → CallLooks → Stage → Type 0
  Left request k t = CallerLeft node client host epoch kind c cs now request k t

  -- what the call comes to stays where the call does
  left_on : (request : List ℕ) (k : CallLooks) (s t : Stage) → ((r : CallRecord) → There s r → There t r)
      → Left request k s → Left request k t
  left_on request k s t on (reads_on name f at turn none part said) =
      reads_on name f (on (calls name f) at) turn none part said
  left_on request k s t on (ended_now name f end at turn) = ended_now name f end (on _ at) turn

  -- behind its turn
  record OwnTurn (request : List ℕ) (place : ℕ) (k : CallLooks) (t : Stage) : Type 0 where
    left : Left request k t
    new : InvokedState
    own : slice_get t.callers place ≡ Some new
    others : Apart place t.callers

  -- the stage behind a turn of its own caller
  own_behind : (request : List ℕ) (place : ℕ) (i : InvokedState) (view : CallerState) (k : CallLooks) (s u : Stage)
      → slice_get s.callers place ≡ Some i → Apart place s.callers → view.call ≡ i.caller.call → Left request k u
      → OwnTurn request place k (record u { callers = set s.callers place (record i { caller = view }) })
  own_behind request place i view k s u own others call left =
      let ks : List InvokedState = set s.callers place (record i { caller = view }) in
      record {
        left = left_on request k u (record u { callers = ks }) (λ r at. at_callers u ks r at) left;
        new = record i { caller = view };
        own = set_own s.callers place i (record i { caller = view }) own;
        others = apart_set place place i view s.callers own call others;
      }

  own_place : (request : List ℕ) (place : ℕ) (i : InvokedState) (name : CallName) (k : CallLooks) (s t : Stage)
      → is_client node s ≡ true → i.node ≡ node → On request i.caller k → Passed place i (calls name k) s
      → Made (turns_at place) s t → OwnTurn request place k t
  own_place request place i name k s t is_there of_node on was made =
      let here : turns_where place (Some i) s made.0 (To t) =
      subst (λ (o : Option InvokedState). turns_where place o s made.0 (To t)) was.own made.1 in
      let turned : turns_of place i s made.0 (To t) =
      subst (λ (b : Bool). by_test b (turns_of place i s) (ends (To s)) made.0 (To t))
      (ap (λ (j : ℕ). is_client j s) of_node ∙ is_there) here in
      by (turn_of place i s t made.0 turned)
    where
      by : TurnAt place i s t → OwnTurn request place k t
      by u =
          let begins : begun i.caller
          ≡ caller_on node client host epoch kind c cs now i.caller.offering i.caller.shut i.caller.reply
          phases.Offering =
          λ j. record {
            call = on.call j;
            offering = i.caller.offering;
            shut = i.caller.shut;
            reply = i.caller.reply;
            end = on.open_ j;
            phase = phases.Offering;
          } in
          let go : Goes node client host epoch kind c cs now
          (caller_on node client host epoch kind c cs now i.caller.offering i.caller.shut i.caller.reply
          phases.Offering) s u.view u.stage = (
            u.events,
            subst (λ (v : CallerState). Turn (calling REPLY_BYTES) node v s u.events (To (u.view, u.stage))) begins
                (subst (λ (j : ℕ). Turn (calling REPLY_BYTES) j (begun i.caller) s u.events (To (u.view, u.stage)))
                of_node u.turn),
          ) in
          let left : Left request k u.stage =
          turns_own node client host epoch kind c cs now request k name u.view u.stage i.caller.offering
          i.caller.shut i.caller.reply s on.shut on.none on.said was.at go in
          subst (OwnTurn request place k) (sym u.then_)
          (own_behind request place i u.view k s u.stage was.own was.others
          (turn_call i.node (begun i.caller) u.view s u.stage u.events u.turn) left)

  -- ---- all turns

  left_passed : (request : List ℕ) (place : ℕ) (k : CallLooks) (back : List ℕ) (s t : Stage) → NoneIs place back
      → OwnTurn request place k s → Made (each turns_at back) s t → Left request k t
  left_passed request place k back s t none o made =
      left_on request k s t
      (λ r at.
      (other_places place o.new r back s t none (record { at = at; own = o.own; others = o.others }) made).at)
      o.left

  -- the call's caller has its turn once
  pub callers_turn : (request : List ℕ) (place : ℕ) (i : InvokedState) (name : CallName) (k : CallLooks) (s t : Stage)
      → is_client node s ≡ true → slice_get s.callers place ≡ Some i → i.node ≡ node → On request i.caller k
      → Apart place s.callers → There s (calls name k) → Made turns_all s t → Left request k t
  callers_turn request place i name k s t is_there own of_node on others at made =
      let b = below_split place (length s.callers) (slice_get_within s.callers place i own) in
      let all : Made (each turns_at (b.front ++ place ∷ b.back)) s t = (
        made.0,
        subst (λ (ps : List ℕ). each turns_at ps s made.0 (To t)) b.are made.1,
      ) in
      let m = each_split turns_at b.front (place ∷ b.back) s t all in
      let was : Passed place i (calls name k) m.0 =
      other_places place i (calls name k) b.front s m.0 b.before (record { at = at; own = own; others = others }) m.1 in
      let n = then_to (turns_at place m.0) (each turns_at b.back) m.2.0 t m.2.1 in
      let there : is_client node m.0 ≡ true = client_is m.0 was.at.first in
      left_passed request place k b.back n.between t b.behind
      (own_place request place i name k m.0 n.between there of_node on was (n.front, n.made)) (n.rest, n.goes)
    where
      client_is : (u : Stage) → slice_get u.nodes node ≡ Some client → is_client node u ≡ true
      client_is u first =
          ap (λ (b : Bool). not (node == 0) && b)
          (lt-ltb node (length u.nodes) (slice_get_within u.nodes node client first)
          ∙ sym (lt-ltb node (length s.nodes) (slice_get_within s.nodes node client at.first)))
          ∙ is_there
