-- Each call of each client has a caller, behind an event as before it, and behind a change of callers.
use Rattle.std.proofs.Common.{◌≡◌, ◌⊎◌, inl, inr, ◌==◌, ◌++◌, cond, ℕ, zero, suc, Bool, true, false, List, [], ◌∷◌}
use Rattle.std.proofs.Common.{refl, ap, sym}
use Rattle.std.proofs.Common.{subst, ◌∙◌, Option, Some, None, Ok, Err, length, set, slice_get}
use Rattle.std.specs.Prelude.{IsSomeAnd}
use Rattle.rx_model.specs.declared.event.Event.{Event}
use Rattle.rx_model.specs.declared.event.Event.TheVariants as events
use Rattle.rx_model.specs.declared.event.Noted.{Noted}
use Rattle.rx_model.specs.declared.names.CallName.{CallName}
use Rattle.rx_model.specs.declared.names.Host.{Host}
use Rattle.rx_model.specs.Names.{same_name}
use Rattle.rx_model.specs.Reading.{reading_of}
use Rattle.rx_model.proofs.NameLaws.{number_itself, same_number}
use Rattle.rx_rules.specs.After.{looks}
use Rattle.rx_rules.specs.Looks.{CallRecord, Looks, call_at}
use Rattle.rx_rules.specs.Rules.{Allowed, AllowedClient}
use Rattle.rx_rules.specs.Setup.{Client, Setup}
use Rattle.rx_history.specs.Sides.{Node, side}
use Rattle.rx_events.specs.Joint.{IsAllowedAt}
use Rattle.rx_wire.specs.Turns.{noted}
use Rattle.rx_asks.specs.Asks.{Asking, Cancels, IsAsked, Offers, Reads, Shuts}
use Rattle.rx_asks.specs.View.{CallerState}
use Rattle.rx_asks.proofs.KeptEvents.{StartsNoCall}
use Rattle.rx_jobs.specs.Jobs.{Ask, IsCall, accept, finish, read, write}
use Rattle.rx_plan.specs.Stages.{InvokedState}
use Rattle.rx_plan.proofs.Callers.{set_other}
use Rattle.rx_plan.proofs.ClientEnds.{IsThere, Onward, none_of, onward_after}
use Rattle.rx_plan.proofs.Driven.{set_own, with_view}
use Rattle.rx_plan.proofs.Handling.{IsQuiet}
use Rattle.rx_history.proofs.ClientHistory.{clients}

-- ---- events that start no call

abbrev pub StartsNone : Event → Type 0
StartsNone (events.Called cid (Ok c)) = ⊥
StartsNone _ = Unit {0}

pub quiet_none : (e : Event) → IsQuiet e → StartsNone e
quiet_none (events.Called cid (Ok c)) quiet = absurd quiet
quiet_none _ quiet = tt

pub asked_none : (a : Asking) (e : Event) → IsAsked a e → StartsNone e
asked_none (Offers c block) (events.Called cid got) is = absurd is
asked_none (Shuts c) (events.Called cid got) is = absurd is
asked_none (Reads c max) (events.Called cid got) is = absurd is
asked_none (Cancels c code) (events.Called cid got) is = absurd is
asked_none a e is = tt

pub served_none : (a : Ask) (e : Event) → IsCall a e → StartsNone e
served_none accept e is = subst StartsNone (sym is.1) tt
served_none (read c) e is = subst StartsNone (sym is.2) tt
served_none (write c offer) e is = subst StartsNone (sym is.1) tt
served_none (finish c code) e is = subst StartsNone (sym is.1) tt

-- it starts no call of this name
abbrev pub NotCalled : CallName → Event → Type 0
NotCalled c (events.Called cid (Ok d)) = same_name c d ≡ false
NotCalled c _ = Unit {0}

pub none_called : (c : CallName) (e : Event) → StartsNone e → NotCalled c e
none_called c (events.Called cid (Ok d)) none = absurd none
none_called c _ none = tt

module _ (s : Setup) (host : Host) (epoch : ℕ) (kind : s.kind ≡ Client host epoch) where
  pub starts_no : (l : Looks) (e : Event) (c : CallName) → AllowedClient s host epoch l e → NotCalled c e
      → StartsNoCall s l c e
  starts_no l (events.Called cid (Ok d)) c allowed other = other
  starts_no l (events.Called cid (Err refused)) c allowed other = tt
  starts_no l (events.Taken from bytes got) c allowed other =
      none_of s host epoch kind l from bytes got (reading_of bytes) c allowed.1 refl
  starts_no l _ c allowed other = tt

  -- a call that is there behind such an event was there before
  there_before : (h : List Event) (e : Event) (c : CallName) → AllowedClient s host epoch (looks s h) e
      → NotCalled c e → IsThere (looks s (e ∷ h)) c → IsThere (looks s h) c
  there_before h e c allowed other t =
      by (call_at (looks s h) c) refl
      (onward_after s host epoch (looks s h) c e allowed (starts_no (looks s h) e c allowed other))
    where
      none_on : (o : Option CallRecord) → o ≡ Some t.call → Onward None o → ⊥
      none_on None is on = cc
      none_on (Some k) is on = on

      by : (o : Option CallRecord) → call_at (looks s h) c ≡ o → Onward o (call_at (looks s (e ∷ h)) c)
          → IsThere (looks s h) c
      by None is on = absurd (none_on (call_at (looks s (e ∷ h)) c) t.there on)
      by (Some k) is on = record { call = k; there = is }

-- ---- the caller of a call

-- one of these callers is this client's, and of the call
pub record HasCaller (ks : List InvokedState) (client : ℕ) (c : CallName) : Type 0 where
  pub place : ℕ
  pub caller : InvokedState
  pub there : slice_get ks place ≡ Some caller
  pub of_node : caller.node ≡ client
  pub call : caller.caller.call ≡ c

pub get_front : {X : Type 0} (xs ys : List X) (i : ℕ) (y : X) → slice_get xs i ≡ Some y
    → slice_get (xs ++ ys) i ≡ Some y
get_front [] ys i y is = absurd cc
get_front (x ∷ xs) ys zero y is = is
get_front (x ∷ xs) ys (suc i) y is = get_front xs ys i y is

pub get_last : {X : Type 0} (xs : List X) (y : X) → slice_get (xs ++ y ∷ []) (length xs) ≡ Some y
get_last [] y = refl
get_last (x ∷ xs) y = get_last xs y

pub has_more : (ks : List InvokedState) (k : InvokedState) (j : ℕ) (c : CallName) → HasCaller ks j c
    → HasCaller (ks ++ k ∷ []) j c
has_more ks k j c has =
    record {
      place = has.place;
      caller = has.caller;
      there = get_front ks (k ∷ []) has.place has.caller has.there;
      of_node = has.of_node;
      call = has.call;
    }

-- behind a change of one that keeps its call
pub has_set : (ks : List InvokedState) (place : ℕ) (k : InvokedState) (v : CallerState) (j : ℕ) (c : CallName)
    → slice_get ks place ≡ Some k → v.call ≡ k.caller.call → HasCaller ks j c
    → HasCaller (set ks place (with_view k v)) j c
has_set ks place k v j c at own has = by (place == has.place) refl
  where
    by : (b : Bool) → (place == has.place) ≡ b → HasCaller (set ks place (with_view k v)) j c
    by true same =
        (let here : place ≡ has.place = same_number place has.place same in
        let is : k ≡ has.caller =
        (let both : Some k ≡ Some has.caller =
        sym at ∙ subst (λ (p : ℕ). slice_get ks p ≡ Some has.caller) (sym here) has.there in cc) in
        record {
          place = place;
          caller = with_view k v;
          there = set_own ks place k (with_view k v) at;
          of_node = ap (λ (m : InvokedState). m.node) is ∙ has.of_node;
          call = own ∙ ap (λ (m : InvokedState). m.caller.call) is ∙ has.call;
        })
    by false differ =
        record {
          place = has.place;
          caller = has.caller;
          there =
              set_other ks place has.place (with_view k v) (λ same. (
              let yes : (place == has.place) ≡ true =
              subst (λ (p : ℕ). (place == p) ≡ true) same (number_itself place) in
              absurd cc)) ∙ has.there;
          of_node = has.of_node;
          call = has.call;
        }

-- each call of each client has one
abbrev pub EachHas : List Node → List Noted → List InvokedState → Type 0
EachHas nodes h ks =
    (j : ℕ) (n : Node) (host : Host) (epoch : ℕ) → slice_get nodes j ≡ Some n → n.setup.kind ≡ Client host epoch
    → (c : CallName) → IsThere (looks n.setup (side j h)) c → HasCaller ks j c

-- behind an event
pub each_event : (nodes : List Node) (h : List Noted) (ks more : List InvokedState) (node : ℕ) (e : Event)
    → IsAllowedAt nodes h node e
    → ((j : ℕ) (c : CallName) → HasCaller ks j c → HasCaller more j c)
    → ((c : CallName) → NotCalled c e ⊎ HasCaller more node c) → EachHas nodes h ks
    → EachHas nodes (noted node e ∷ h) more
each_event nodes h ks more node e allowed on starts each j n host epoch there kind c t = by (node == j) refl t
  where
    before : IsThere (looks n.setup (side j h)) c → HasCaller more j c
    before was = on j c (each j n host epoch there kind c was)

    own : node ≡ j → IsThere (looks n.setup (e ∷ side j h)) c → HasCaller more j c
    own same behind = of (starts c)
      where
        here : Allowed n.setup (looks n.setup (side j h)) e
        here =
            subst (λ (o : Option Node). IsSomeAnd o (λ m. Allowed m.setup (looks m.setup (side j h)) e)) there
            (subst (λ (i : ℕ). IsAllowedAt nodes h i e) same allowed)

        of : NotCalled c e ⊎ HasCaller more node c → HasCaller more j c
        of (inl other) =
            before (there_before n.setup host epoch kind (side j h) e c
            (clients n.setup.kind n.setup host epoch (looks n.setup (side j h)) e kind here) other behind)
        of (inr has) = subst (λ (i : ℕ). HasCaller more i c) same has

    by : (b : Bool) → (node == j) ≡ b → IsThere (looks n.setup (cond b (e ∷ side j h) (side j h))) c
        → HasCaller more j c
    by true same behind = own (same_number node j same) behind
    by false differ behind = before behind
