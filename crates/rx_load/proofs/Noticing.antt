-- At the end of each round of a load its callers know how their calls ended.
use Rattle.std.proofs.Common.{◌≡◌, ◌==◌, ◌<◌, ◌+◌, ◌⊎◌, inl, inr, not, ◌&&◌, ℕ, zero, suc, Bool, true, false, List}
use Rattle.std.proofs.Common.{[], ◌∷◌, ◌++◌, length, Option, Some, None, Ok, Err, refl, ap, sym, subst, ◌∙◌, slice_get}
use Rattle.std.proofs.Common.{arith, nat_lt}
use Rattle.std.proofs.lemmas.Bool.{lt-ltb, ltb-false, ltb-true, ne_eqb}
use Rattle.std.proofs.lemmas.Option.{slice_get_within}
use Rattle.hex.specs.Hex.{IsBytes}
use Rattle.rand_pcg.specs.Lcg.{Lcg}
use Rattle.rx_model.specs.declared.answers.CallRefused.{CallRefused}
use Rattle.rx_model.specs.declared.event.Event.{Event}
use Rattle.rx_model.specs.declared.event.Event.TheVariants as events
use Rattle.rx_model.specs.declared.names.CallName.{CallName}
use Rattle.rx_model.specs.Names.{same_name}
use Rattle.rx_rules.specs.After.{looks}
use Rattle.rx_rules.specs.CallLooks.{fresh_call}
use Rattle.rx_rules.specs.Life.{is_live}
use Rattle.rx_rules.specs.Life as lives
use Rattle.rx_rules.specs.Looks.{call_at, is_call}
use Rattle.rx_rules.specs.Rules.{Legal}
use Rattle.rx_rules.specs.Setup.{pace_of}
use Rattle.rx_rules.proofs.StartLaws.{call_at-other}
use Rattle.rx_history.specs.Sides.{Node, moment, side}
use Rattle.rx_history.proofs.Order.OrderlyHistory.{orderly_history}
use Rattle.rx_history.proofs.Takes.{call_at-any}
use Rattle.rx_law.specs.Worlds.{AreNodes, Datagram}
use Rattle.rx_events.specs.Events.{IsCalled, IsClocked}
use Rattle.rx_events.specs.Joint.{IsAllowedAt}
use Rattle.rx_events.specs.Waits.{least_wait}
use Rattle.rx_script.specs.declared.outcome.PlanWhy.TheVariants as causes
use Rattle.rx_plan.specs.Finds.{at_client, client_at, found_or}
use Rattle.rx_plan.specs.Lines.{IsInvoked, connects, invokes, with_called, with_caller}
use Rattle.rx_plan.specs.Lossy.{Lossy, carries, comes, fated, gathered}
use Rattle.rx_plan.specs.Network.{below, delivers}
use Rattle.rx_plan.specs.Parts.{Part, Refused, To, by_test, each, ends}
use Rattle.rx_plan.specs.Rounds.{may_move, moves_by, moves_on, clients_first, settles, turns}
use Rattle.rx_plan.specs.Stages.{InvokedState, Stage, event, is_client, name_called, with_event}
use Rattle.rx_plan.specs.Turned.{dispatches, turns_all, turns_at, turns_of, turns_where}
use Rattle.rx_plan.proofs.Callers.{IsClientNode, called_by, client_apart, side_by, side_own}
use Rattle.rx_plan.proofs.Allowed.{legal_side}
use Rattle.rx_plan.proofs.Driven.{invoked}
use Rattle.rx_plan.proofs.Driven as driven
use Rattle.rx_plan.proofs.Following.{Asks, followed}
use Rattle.rx_plan.proofs.HasCaller.{get_front, get_last}
use Rattle.rx_plan.proofs.Leading.{Leads, each_lead, ends_lead, test_lead, then_lead}
use Rattle.rx_plan.proofs.OldOrNew.{New, Old, OldOrNew, old_or_new}
use Rattle.rx_plan.proofs.QuietEvents.{quiet_linked}
use Rattle.rx_plan.proofs.Shaped.{deliveries_lead, event_lead}
use Rattle.rx_load.specs.Loads.{load_handlers}
use Rattle.rx_load.proofs.Callers.{AllKnow, AllNotice, Follows, Notices, Opened, SomeNotice, Waits}
use Rattle.rx_load.proofs.Callers.{carried_knows}
use Rattle.rx_load.proofs.Callers.{knowing, opened_with, turn_knows}
use Rattle.rx_load.proofs.Knowing.{Knows}

-- what holds of a stage between rounds
pub record IsKnown (s : Stage) : Type 0 where
  pub all : AllKnow s
  pub notice : AllNotice s

-- ---- the turns of all callers

-- one part more for the last of a list
snoc_lead : {A : Type 0} (part : ℕ → A → Part A) (xs : List ℕ) (y : ℕ) (Q R : A → Type 0) (a : A)
    → Leads Q (each part xs a) → ((b : A) → Q b → Leads R (part y b)) → Leads R (each part (xs ++ y ∷ []) a)
snoc_lead part [] y Q R a lead next =
    then_lead R R (part y a) (each part []) (next a (lead [] a (refl, inl refl))) (λ b so. ends_lead R (To b) so)
snoc_lead part (x ∷ xs) y Q R a lead next =
    then_lead (λ b. Leads Q (each part xs b)) R (part x a) (each part (xs ++ y ∷ []))
    (λ front b made rest c on.
    lead (front ++ rest) c (record { front = front; rest = rest; are = refl; came = To b; made = made; goes = on }))
    (λ b behind. snoc_lead part xs y Q R b behind next)

-- each part over the first numbers, one by one
below_lead : {A : Type 0} (P : ℕ → A → Type 0) (part : ℕ → A → Part A)
    → ((n : ℕ) (a : A) → P n a → Leads (P (suc n)) (part n a)) → (n : ℕ) (a : A) → P 0 a
    → Leads (P n) (each part (below n) a)
below_lead P part one zero a so = ends_lead (P 0) (To a) so
below_lead P part one (suc n) a so =
    snoc_lead part (below n) n (P n) (P (suc n)) a (below_lead P part one n a so) (one n)

-- a client that is there is found
client_is : (s : Stage) (node : ℕ) → AreNodes s.nodes → IsClientNode s.nodes node → is_client node s ≡ true
client_is s node are n =
    ap (λ (b : Bool). not b && nat_lt node (length s.nodes)) (ne_eqb node 0 (client_apart s.nodes node are n))
    ∙ lt-ltb node (length s.nodes) (slice_get_within s.nodes node n.client n.there)

-- the callers at the first places notice, of so many
record SoFar (many n : ℕ) (s : Stage) : Type 0 where
  all : AllKnow s
  some : SomeNotice (λ j. j < n) s
  count : length s.callers ≡ many

turn_notices : (count n : ℕ) (s : Stage) → SoFar count n s → Leads (SoFar count (suc n)) (turns_at n s)
turn_notices count n s so = of (slice_get s.callers n) refl
  where
    last : (j : ℕ) → j < suc n → (j ≡ n) ⊎ (j < n)
    last j low = by (nat_lt j n) refl
      where
        by : (b : Bool) → nat_lt j n ≡ b → (j ≡ n) ⊎ (j < n)
        by true is = inr (ltb-true j n is)
        by false is = inl (let high = ltb-false j n is in omega arith)

    of : (o : Option InvokedState) → slice_get s.callers n ≡ o → Leads (SoFar count (suc n)) (turns_where n o s)
    of None none =
        ends_lead (SoFar count (suc n)) (To s)
        (record {
          all = so.all;
          some = λ j i low at. by j i (last j low) at;
          count = so.count;
        })
      where
        by : (j : ℕ) (i : InvokedState) → (j ≡ n) ⊎ (j < n) → slice_get s.callers j ≡ Some i
            → Notices s.nodes s.history i
        by j i (inl here) at =
            absurd (let there : slice_get s.callers n ≡ Some i = subst (λ (p : ℕ). slice_get s.callers p ≡ Some i) here
            at in cc)
        by j i (inr before) at = so.some j i before at
    of (Some k) there = by (is_client k.node s) (client_is s k.node so.all.are (so.all.each n k there).at.node)
      where
        by : (b : Bool) → b ≡ true → Leads (SoFar count (suc n)) (by_test b (turns_of n k s) (ends (To s)))
        by true is = λ es t made. (
            let behind = turn_knows n k s there so.all (λ j. j < n) so.some es t made in
            record {
              all = behind.0;
              some = λ j i low at. behind.1 j i (last j low) at;
              count = behind.2 ∙ so.count;
            })
        by false is = absurd cc

pub turns_notice : (s : Stage) → AllKnow s → Leads IsKnown (turns_all s)
turns_notice s so es t made =
    (let behind = below_lead (SoFar (length s.callers)) turns_at (turn_notices (length s.callers)) (length s.callers) s
    (record { all = so; some = λ j i low. absurd (omega arith); count = refl }) es t made in
    record {
      all = behind.all;
      notice = λ j i at.
          behind.some j i (let within = slice_get_within t.callers j i at in omega (arith, behind.count, within)) at;
    })

-- ---- clocks

-- a clock that moves leaves all of that
clock_known : (node now : ℕ) (s : Stage) → IsKnown s → Leads IsKnown (event node (IsClocked now) s)
clock_known node now s so =
    event_lead IsKnown s node (IsClocked now) (λ e t. To t) (λ e there allowed. of e there allowed)
  where
    of : (e : Event) → IsClocked now e → IsAllowedAt s.nodes s.history node e → IsKnown (with_event node e s)
    of (events.Clocked moment) is allowed = record {
      all = carried_knows s node (events.Clocked moment) tt allowed so.all;
      notice = λ j i at n there open_.
          side_by (λ es. is_call (λ k. is_live k.life) (call_at (looks n.setup es) i.caller.call) ≡ true) i.node node
          (events.Clocked moment) s.history (λ same was. was) (so.notice j i at n there open_);
    }
    of e is allowed = elim is [ ]

moves_known : (o : Option ℕ) (s : Stage) → IsKnown s → Leads IsKnown (moves_by o s)
moves_known None s so = ends_lead IsKnown (To s) so
moves_known (Some time) s so =
    test_lead IsKnown (not (time == 0) && may_move time s) _ _
    (each_lead IsKnown (moves_on time) (λ node t there. clock_known node (moment node t.history + time) t there)
    (clients_first s) s so)
    (ends_lead IsKnown (To s) so)

-- ---- behind the polls of a round

pub carries_known : (words : Lcg) (held given : List Datagram) (s : Stage) → AllKnow s
    → Leads (λ m. IsKnown m.stage) (carries load_handlers words held given s)
carries_known words held given s so =
    then_lead AllKnow Known (each delivers (gathered comes (fated words given) ++ held) s) _
    (deliveries_lead load_handlers AllKnow knowing (gathered comes (fated words given) ++ held) s so)
    (λ t came.
    then_lead IsKnown Known (turns load_handlers t) _
    (then_lead AllKnow IsKnown (dispatches load_handlers t) turns_all (knowing.serves t came)
    (λ u served. turns_notice u served))
    (λ u turned.
    then_lead IsKnown Known (settles ((length given == 0) && (length held == 0)) u) _
    (test_lead IsKnown ((length given == 0) && (length held == 0)) _ _
    (moves_known (least_wait u.nodes u.history) u turned) (ends_lead IsKnown (To u) turned))
    (λ w settled. ends_lead Known _ settled)))
  where
    Known : Lossy → Type 0
    Known m = IsKnown m.stage

-- ---- calls that are opened

module _ (s : Stage) (node line cid : ℕ) (c : CallName) (bytes : List ℕ) (fits : IsBytes bytes)
    (allowed : IsAllowedAt s.nodes s.history node (events.Called cid (Ok c))) (so : IsKnown s) where
  abbrev e : Event
  e = events.Called cid (Ok c)

  abbrev new : InvokedState
  new = invoked (length (with_called node e (with_event node e s)).calls) node line c bytes

  abbrev opened : Stage
  opened = with_caller node line bytes (Some c) (with_called node e (with_event node e s))

  follows : Follows (driven.seen opened)
  follows =
      (followed load_handlers Opened opened_with).invokes (driven.seen s) new.call node line cid c bytes
      (record { origin = bytes; request = refl }) fits allowed so.all.follows

  -- a call of a client that lives is its channel's latest
  legal : (k : ℕ) (n : Node) → slice_get s.nodes k ≡ Some n → Legal n.setup (side k opened.history)
  legal k n there = legal_side s.nodes opened.history k n there follows.allowed

  -- an older caller has another call
  other : (j : ℕ) (i : InvokedState) → slice_get s.callers j ≡ Some i → node ≡ i.node
      → same_name i.caller.call c ≡ false
  other j i at same =
      (follows.played so.all.are).callers.apart j (length s.callers) i new
      (λ here. (let within = slice_get_within s.callers j i at in omega (arith, here, within)))
      (get_front s.callers (new ∷ []) j i at)
      (get_last s.callers new) (sym same)

  -- its call stays as it is
  stays : (j : ℕ) (i : InvokedState) → slice_get s.callers j ≡ Some i → (n : Node) → slice_get s.nodes i.node ≡ Some n
      → call_at (looks n.setup (side i.node opened.history)) i.caller.call
      ≡ call_at (looks n.setup (side i.node s.history)) i.caller.call
  stays j i at n there =
      side_by (λ es. call_at (looks n.setup es) i.caller.call ≡ call_at (looks n.setup (side i.node s.history))
      i.caller.call)
      i.node node e s.history
      (λ same was.
      call_at-other i.caller.call
      (record {
        name = c;
        life = lives.Calling;
        looks = fresh_call (pace_of n.setup)
            (looks n.setup (side i.node s.history)).now;
      })
      (looks n.setup (side i.node s.history)) (other j i at same)
      (call_at (looks n.setup (side i.node s.history)) i.caller.call) refl) refl

  old_notices : (j : ℕ) (i : InvokedState) → slice_get s.callers j ≡ Some i → Notices s.nodes opened.history i
  old_notices j i at n there open_ = ap (is_call (λ k. is_live k.life)) (stays j i at n there)
      ∙ so.notice j i at n there open_

  old_waits : (j : ℕ) (i : InvokedState) → slice_get s.callers j ≡ Some i → Waits s.nodes opened.history i
  old_waits j i at =
      (let w = so.all.each j i at in
      let n = w.at.node in
      let k = w.at.knows in
      record {
        at = record {
          node = n;
          knows = record {
            call = k.call;
            there = stays j i at n.client n.there ∙ k.there;
            called = k.called;
            ended = k.ended;
            latest = λ open_.
                ((orderly_history n.client.setup (side i.node opened.history) (legal i.node n.client n.there)).latest
                i.caller.call (old_notices j i at n.client n.there open_)).number;
          };
        };
        idle = w.idle;
      })

  -- the new one's call lives
  new_client : IsClientNode s.nodes node
  new_client = called_by s.nodes node cid c s.history allowed

  new_there : (n : Node) → call_at (looks n.setup (side node opened.history)) c
      ≡ Some (record {
        name = c;
        life = lives.Calling;
        looks = fresh_call (pace_of n.setup) (looks n.setup (side node s.history)).now;
      })
  new_there n =
      ap (λ es. call_at (looks n.setup es) c) (side_own node e s.history)
      ∙ call_at-any c
      (record {
        name = c;
        life = lives.Calling;
        looks = fresh_call (pace_of n.setup)
            (looks n.setup (side node s.history)).now;
      })
      (looks n.setup (side node s.history)) refl (call_at (looks n.setup (side node s.history)) c) refl

  new_notices : Notices s.nodes opened.history new
  new_notices n there open_ = ap (is_call (λ k. is_live k.life)) (new_there n)

  new_waits : Waits s.nodes opened.history new
  new_waits =
      (let n = new_client in
      record {
        at = record {
          node = n;
          knows = record {
            call = record {
              name = c;
              life = lives.Calling;
              looks = fresh_call (pace_of n.client.setup) (looks n.client.setup (side node s.history)).now;
            };
            there = new_there n.client;
            called = tt;
            ended = λ end known. absurd cc;
            latest = λ open_.
                ((orderly_history n.client.setup (side node opened.history) (legal node n.client n.there)).latest c
                (new_notices n.client n.there refl)).number;
          };
        };
        idle = refl;
      })

  pub opened_known : IsKnown opened
  opened_known = record {
    all = record {
      follows = follows;
      are = so.all.are;
      each = λ j i at. each_of j i
          (old_or_new s.callers new i j at);
    };
    notice = λ j i at. notice_of j i (old_or_new s.callers new i j at);
  }
    where
      each_of : (j : ℕ) (i : InvokedState) → OldOrNew s.callers new j i → Waits s.nodes opened.history i
      each_of j i (Old at) = old_waits j i at
      each_of j i (New place is) = subst (Waits s.nodes opened.history) is new_waits

      notice_of : (j : ℕ) (i : InvokedState) → OldOrNew s.callers new j i → Notices s.nodes opened.history i
      notice_of j i (Old at) = old_notices j i at
      notice_of j i (New place is) = subst (Notices s.nodes opened.history) is new_notices

-- a call that is refused changes nothing
refused_known : (s : Stage) (node cid : ℕ) (refused : CallRefused)
    → IsAllowedAt s.nodes s.history node (events.Called cid (Err refused))
    → IsKnown s → IsKnown (with_event node (events.Called cid (Err refused)) s)
refused_known s node cid refused allowed so = record {
  all = record {
    follows = (followed load_handlers Opened opened_with).quiet (driven.seen s) node (events.Called cid (Err refused))
        tt tt allowed
        so.all.follows;
    are = so.all.are;
    each = λ j i at. (
        let w = so.all.each j i at in
        record {
          at = record {
            node = w.at.node;
            knows = side_by (λ es. Knows (looks w.at.node.client.setup es) i.caller) i.node node
                (events.Called cid (Err refused)) s.history (λ same k. k) w.at.knows;
          };
          idle = w.idle;
        });
  };
  notice = λ j i at n there open_.
      side_by (λ es. is_call (λ k. is_live k.life) (call_at (looks n.setup es) i.caller.call) ≡ true) i.node node
      (events.Called cid (Err refused)) s.history (λ same was. was) (so.notice j i at n there open_);
}

-- a client opens a call
pub opens_known : (client line cid : ℕ) (bytes : List ℕ) (s : Stage) → IsKnown s
    → Leads IsKnown (at_client client (invokes line cid bytes) s)
opens_known client line cid bytes s so = of (client_at client s)
  where
    calls : (node : ℕ) (e : Event) → IsCalled cid e → IsBytes bytes → IsAllowedAt s.nodes s.history node e
        → IsKnown (with_caller node line bytes (name_called e) (with_called node e (with_event node e s)))
    calls node (events.Called its (Ok c)) there fits allowed = opened_known s node line its c bytes fits allowed so
    calls node (events.Called its (Err refused)) there fits allowed = refused_known s node its refused allowed so
    calls node e there fits allowed = elim there [ ]

    of : (o : Option ℕ) → Leads IsKnown (found_or causes.NoNode (invokes line cid bytes) o s)
    of None = ends_lead IsKnown (Refused causes.NoNode) tt
    of (Some node) =
        event_lead IsKnown s node (IsInvoked cid bytes)
        (λ e t. To (with_caller node line bytes (name_called e) (with_called node e t)))
        (λ e there allowed. calls node e there.0 there.1 allowed)

-- ---- connections, before any call

pub record IsFresh (s : Stage) : Type 0 where
  pub follows : Follows (driven.seen s)
  pub are : AreNodes s.nodes
  pub none : s.callers ≡ []

pub fresh_known : (s : Stage) → IsFresh s → IsKnown s
fresh_known s f = record {
  all = record { follows = f.follows; are = f.are; each = λ j i at. absurd (never j i at) };
  notice = λ j i at. absurd (never j i at);
}
  where
    never : (j : ℕ) (i : InvokedState) → slice_get s.callers j ≡ Some i → ⊥
    never j i at = (let none : slice_get [] j ≡ Some i = subst (λ (ks : List InvokedState). slice_get ks j ≡ Some i)
        f.none at in cc)

pub connects_fresh : (client : ℕ) (s : Stage) → IsFresh s → Leads IsFresh (at_client client (connects 1) s)
connects_fresh client s f = of (client_at client s)
  where
    of : (o : Option ℕ) → Leads IsFresh (found_or causes.NoNode (connects 1) o s)
    of None = ends_lead IsFresh (Refused causes.NoNode) tt
    of (Some node) =
        event_lead IsFresh s node _ (λ e t. To t)
        (λ e there allowed. record {
          follows = (driven.line_shaped load_handlers (Asks load_handlers Opened opened_with) Follows
              (followed load_handlers Opened opened_with)).quiet s node e
              (quiet_linked s.nodes there.0 1 e there.2) allowed f.follows;
          are = f.are;
          none = f.none;
        })
