-- Parts that leave a history sound: the rules allow each of its events and, where a run is honest, each datagram that
-- was taken had been given.
use Rattle.std.proofs.Common.{◌≡◌, ◌⊎◌, ℕ, List, [], ◌∷◌, Option, Some, None, refl, inl, inr, sym, subst, ap}
use Rattle.std.proofs.Common.{All, Contains, IfSome, slice_get}
use Rattle.std.proofs.lemmas.List.Elements.{All-head, All-tail, All-weaker}
use Rattle.rx_model.specs.declared.answers.Took.{Took}
use Rattle.rx_model.specs.declared.event.Event.{Event}
use Rattle.rx_model.specs.declared.event.Event.TheVariants as events
use Rattle.rx_model.specs.declared.event.Noted.{Noted}
use Rattle.rx_model.specs.declared.names.Host.{Host}
use Rattle.rx_history.specs.Sides.{Node}
use Rattle.rx_law.specs.Worlds.{Carried, Datagram, IsFrom, bag}
use Rattle.rx_events.specs.Joint.{IsAllowedAt}
use Rattle.rx_wire.specs.Turns.{noted}
use Rattle.rx_plan.specs.Parts.{Came, To, Refused, Cut, Endless, One, Part, Then, cut_behind, each, ends, goes_on}
use Rattle.rx_plan.specs.Parts.{makes, not_made}
use Rattle.rx_plan.specs.Stages.{IsAllowedNext, Stage, event, event_with, with_event}
use Rattle.rx_plan.proofs.Allowed.{AreAllowed}
use Rattle.rx_plan.proofs.Bags.{behind, behind_both, in_behind}

-- what was come to, if anything
abbrev pub IfTo : {A : Type 0} → (A → Type 0) → Came A → Type 0
IfTo P (To a) = P a
IfTo P (Refused why) = Unit {0}
IfTo P Cut = Unit {0}
IfTo P Endless = Unit {0}

-- an event that takes no datagram
abbrev pub IsCalm : Event → Type 0
IsCalm (events.Taken from bytes got) = ⊥
IsCalm _ = Unit {0}

calm_from : (ds : List Datagram) (at : Host) (e : Event) → IsCalm e → IsFrom ds at e
calm_from ds at (events.Taken from bytes got) calm = elim calm [ ]
calm_from ds at e calm = tt

-- no event of these takes a datagram
abbrev pub IsNoTake : (Event → Type 0) → Type 0
IsNoTake is = (from : Host) (bytes : List ℕ) (got : Took) → is (events.Taken from bytes got) → ⊥

pub calm_by : (is : Event → Type 0) → IsNoTake is → (e : Event) → is e → IsCalm e
calm_by is never (events.Taken from bytes got) i = never from bytes got i
calm_by is never e i = tt

module _ (Honest : Type 0) (nodes : List Node) where
  -- ---- histories

  -- the rules allow each event and, where the run is honest, the network invents nothing
  pub record Good (h : List Noted) : Type 0 where
    pub allowed : AreAllowed nodes h
    pub carried : Honest → Carried nodes h

  -- a datagram that was given
  abbrev pub In : List Noted → Datagram → Type 0
  In h d = Contains (bag nodes h) d

  -- an event of a node that takes only what was given, where the run is honest
  abbrev pub IsHonest : List Noted → ℕ → Event → Type 0
  IsHonest h node e = Honest → IfSome (slice_get nodes node) (λ n. IsFrom (bag nodes h) n.host e)

  pub calm_honest : (h : List Noted) (node : ℕ) (e : Event) → IsCalm e → IsHonest h node e
  calm_honest h node e calm honest = of (slice_get nodes node)
    where
      of : (o : Option Node) → IfSome o (λ n. IsFrom (bag nodes h) n.host e)
      of None = tt
      of (Some n) = calm_from (bag nodes h) n.host e calm

  pub good_more : (h : List Noted) (node : ℕ) (e : Event) → Good h → IsAllowedAt nodes h node e → IsHonest h node e
      → Good (noted node e ∷ h)
  good_more h node e g allowed honest =
      record { allowed = (allowed, g.allowed); carried = λ true. (honest true, g.carried true) }

  pub all_behind : (es h : List Noted) (ds : List Datagram) → All (In h) ds → All (In (behind es h)) ds
  all_behind es h ds there = All-weaker (In h) (In (behind es h)) (in_behind nodes es h) ds there

  -- ---- parts

  -- a good history, and what was come to is so
  pub record Ends {A : Type 0} (ok : List Noted → A → Type 0) (h : List Noted) (out : Came A) : Type 0 where
    pub good : Good h
    pub came : IfTo (ok h) out

  -- a part ends so from a history on
  abbrev pub Safe : {A : Type 0} → (List Noted → A → Type 0) → List Noted → Part A → Type 0
  Safe {A} ok h part = (es : List Noted) (out : Came A) → part es out → Ends ok (behind es h) out

  pub ends_safe : {A : Type 0} (ok : List Noted → A → Type 0) (h : List Noted) (came : Came A) → Good h
      → IfTo (ok h) came → Safe ok h (ends came)
  ends_safe {A} ok h came g there es out made =
      subst (λ xs. Ends ok (behind xs h) out) (sym made.0) (of made.1)
    where
      of : (out ≡ came) ⊎ (out ≡ Cut) → Ends ok h out
      of (inl same) = subst (λ c. Ends ok h c) (sym same) (record { good = g; came = there })
      of (inr same) = subst (λ c. Ends ok h c) (sym same) (record { good = g; came = tt })

  pub then_safe : {A B : Type 0} (first_ok : List Noted → A → Type 0) (ok : List Noted → B → Type 0) (h : List Noted)
      (first : Part A) (next : A → Part B) → Safe first_ok h first
      → ((es : List Noted) (a : A) → Good (behind es h) → first_ok (behind es h) a → Safe ok (behind es h) (next a))
      → Safe ok h (Then first next)
  then_safe {A} {B} first_ok ok h first next safe more es out t =
      subst (λ xs. Ends ok (behind xs h) out) (sym t.are)
      (subst (λ k. Ends ok k out) (sym (behind_both t.front t.rest h))
      (onward t.came (safe t.front t.came t.made) t.goes))
    where
      onward : (came : Came A) → Ends first_ok (behind t.front h) came → goes_on next came t.rest out
          → Ends ok (behind t.rest (behind t.front h)) out
      onward (To a) b goes = more t.front a b.good b.came t.rest out goes
      onward (Refused why) b goes = ends_safe ok (behind t.front h) (Refused why) b.good tt t.rest out goes
      onward Cut b goes = ends_safe ok (behind t.front h) Cut b.good tt t.rest out goes
      onward Endless b goes = ends_safe ok (behind t.front h) Endless b.good tt t.rest out goes

  pub each_safe : {A X : Type 0} (ok : List Noted → A → Type 0) (P : List Noted → X → Type 0) (part : X → A → Part A)
      → ((es h : List Noted) (x : X) → P h x → P (behind es h) x)
      → ((h : List Noted) (x : X) (a : A) → Good h → P h x → ok h a → Safe ok h (part x a))
      → (xs : List X) (h : List Noted) (a : A) → Good h → All (P h) xs → ok h a → Safe ok h (each part xs a)
  each_safe ok P part stays one [] h a g all there = ends_safe ok h (To a) g there
  each_safe ok P part stays one (x ∷ xs) h a g all there =
      then_safe ok ok h (part x a) (each part xs) (one h x a g (All-head (P h) x xs all) there)
      (λ es b good next.
      each_safe ok P part stays one xs (behind es h) b good
      (All-weaker (P h) (P (behind es h)) (stays es h) xs (All-tail (P h) x xs all)) next)

  -- ---- one event

  pub one_safe : (h : List Noted) (node : ℕ) (is : Event → Type 0) → Good h
      → ((e : Event) → is e → IsAllowedAt nodes h node e × IsHonest h node e)
      → Safe (λ k e. (k ≡ noted node e ∷ h) × is e) h (One node is)
  one_safe h node is g may es out made = of made
    where
      of : {es : List Noted} {out : Came Event} → One node is es out
          → Ends (λ k e. (k ≡ noted node e ∷ h) × is e) (behind es h) out
      of not_made = record { good = g; came = tt }
      of (cut_behind e i) = record { good = good_more h node e g (may e i).0 (may e i).1; came = tt }
      of (makes e i) = record { good = good_more h node e g (may e i).0 (may e i).1; came = (refl, i) }

  -- ---- stages

  -- a stage with these nodes and this history, of which each datagram was given
  pub record Is (h : List Noted) (s : Stage) : Type 0 where
    pub at : s.nodes ≡ nodes
    pub history : s.history ≡ h
    pub packets : All (In h) s.packets

  pub is_next : (h : List Noted) (s : Stage) (node : ℕ) (e : Event) → Is h s
      → Is (noted node e ∷ h) (with_event node e s)
  is_next h s node e i =
      record {
        at = i.at;
        history = ap (λ k. noted node e ∷ k) i.history;
        packets = all_behind (noted node e ∷ []) h s.packets i.packets;
      }

  pub allowed_in : (h : List Noted) (s : Stage) (node : ℕ) (e : Event) → Is h s
      → IsAllowedAt s.nodes s.history node e → IsAllowedAt nodes h node e
  allowed_in h s node e i allowed =
      subst (λ k. IsAllowedAt nodes k node e) i.history (subst (λ ns. IsAllowedAt ns s.history node e) i.at allowed)

  pub event_with_safe : (h : List Noted) (s : Stage) (node : ℕ) (is : Event → Type 0)
      (came : Event → Stage → Came Stage) → Good h → Is h s → ((e : Event) → is e → IsHonest h node e)
      → ((e : Event) → is e → IfTo (Is (noted node e ∷ h)) (came e (with_event node e s)))
      → Safe Is h (event_with node is came s)
  event_with_safe h s node is came g i honest next =
      then_safe (λ k e. (k ≡ noted node e ∷ h) × IsAllowedNext s node is e) Is h (One node (IsAllowedNext s node is))
      (λ e. ends (came e (with_event node e s)))
      (one_safe h node (IsAllowedNext s node is) g (λ e a. (allowed_in h s node e i a.1, honest e a.0)))
      (λ es e good there.
      ends_safe Is (behind es h) (came e (with_event node e s)) good
      (subst (λ k. IfTo (Is k) (came e (with_event node e s))) (sym there.0) (next e there.1.0)))

  -- an event of which nothing more is kept
  pub event_safe : (h : List Noted) (s : Stage) (node : ℕ) (is : Event → Type 0) → Good h → Is h s
      → ((e : Event) → is e → IsHonest h node e) → Safe Is h (event node is s)
  event_safe h s node is g i honest =
      event_with_safe h s node is (λ e t. To t) g i honest (λ e there. is_next h s node e i)

  -- and which takes nothing
  pub calm_safe : (h : List Noted) (s : Stage) (node : ℕ) (is : Event → Type 0) → Good h → Is h s
      → ((e : Event) → is e → IsCalm e) → Safe Is h (event node is s)
  calm_safe h s node is g i calm = event_safe h s node is g i (λ e there. calm_honest h node e (calm e there))
