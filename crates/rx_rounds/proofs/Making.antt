-- What a part that was made whole has made, part by part.
use Rattle.std.proofs.Common.{◌≡◌, ℕ, List, Option, Some, None, refl, inl, inr, ap, sym, subst, ◌∙◌}
use Rattle.rx_model.specs.declared.event.Event.{Event}
use Rattle.rx_model.specs.declared.event.Noted.{Noted}
use Rattle.rx_script.specs.declared.outcome.PlanWhy.{PlanWhy}
use Rattle.rx_wire.specs.Turns.{Program}
use Rattle.rx_plan.specs.Parts.{Came, To, Refused, Cut, Endless, Part, One, Then, ends, goes_on, makes}
use Rattle.rx_plan.specs.Programs.{Turn, cut_there, goes, is_endless, is_over}
use Rattle.rx_plan.specs.Stages.{IsAllowedNext, Stage, event, event_with, with_event}

-- what was come to is one thing
pub to_is : {A : Type 0} (a b : A) → ◌≡◌ {A = Came A} (To a) (To b) → a ≡ b
to_is a b same = cc

-- nothing is made
pub ends_to : {A : Type 0} (a b : A) (es : List Noted) → ends {Why = PlanWhy} (To a) es (To b) → b ≡ a
ends_to a b es (none, inl same) = sym (to_is a b (sym same))
ends_to a b es (none, inr cut) = absurd cc

pub ends_cut : {A : Type 0} (b : A) (es : List Noted) → ends {Why = PlanWhy} Cut es (To b) → ⊥
ends_cut b es (none, inl same) = cc
ends_cut b es (none, inr same) = cc

pub ends_refused : {A : Type 0} (why : PlanWhy) (b : A) (es : List Noted) → ends (Refused why) es (To b) → ⊥
ends_refused why b es (none, inl same) = cc
ends_refused why b es (none, inr same) = cc

pub ends_endless : {A : Type 0} (b : A) (es : List Noted) → ends {Why = PlanWhy} Endless es (To b) → ⊥
ends_endless b es (none, inl same) = cc
ends_endless b es (none, inr same) = cc

-- one part and then another
pub record Both {A B : Type 0} (first : Part A) (next : A → Part B) (b : B) : Type 0 where
  pub between : A
  pub front : List Noted
  pub made : first front (To between)
  pub rest : List Noted
  pub goes : next between rest (To b)

pub then_to : {A B : Type 0} (first : Part A) (next : A → Part B) (es : List Noted) (b : B) → Then first next es (To b)
    → Both first next b
then_to {A = A} {B = B} first next es b t = of t.came t.made t.goes
  where
    of : (came : Came A) → first t.front came → goes_on next came t.rest (To b) → Both first next b
    of (To a) made onward = record { between = a; front = t.front; made = made; rest = t.rest; goes = onward }
    of (Refused why) made onward = absurd (ends_refused why b t.rest onward)
    of Cut made onward = absurd (ends_cut b t.rest onward)
    of Endless made onward = absurd (ends_endless b t.rest onward)

pub one_to : (node : ℕ) (is : Event → Type 0) (es : List Noted) (e : Event) → One node is es (To e) → is e
one_to node is es e (makes f holds) = holds

-- an event of a node, of which something is kept
pub record EventIs (node : ℕ) (is : Event → Type 0) (came : Event → Stage → Came Stage) (s t : Stage) : Type 0 where
  pub event : Event
  pub allowed : IsAllowedNext s node is event
  pub comes : came event (with_event node event s) ≡ To t

pub event_with_to : (node : ℕ) (is : Event → Type 0) (came : Event → Stage → Came Stage) (s t : Stage) (es : List Noted)
    → event_with node is came s es (To t) → EventIs node is came s t
event_with_to node is came s t es made =
    let b = then_to (One node (IsAllowedNext s node is)) (λ e. ends (came e (with_event node e s))) es t made in
    record {
      event = b.between;
      allowed = one_to node (IsAllowedNext s node is) b.front b.between b.made;
      comes = of (came b.between (with_event node b.between s)) b.rest b.goes;
    }
  where
    of : (c : Came Stage) (fs : List Noted) → ends c fs (To t) → c ≡ To t
    of c fs (none, inl same) = sym same
    of c fs (none, inr same) = absurd cc

-- an event of a node
pub record Happens (node : ℕ) (is : Event → Type 0) (s t : Stage) : Type 0 where
  pub event : Event
  pub allowed : IsAllowedNext s node is event
  pub then_ : t ≡ with_event node event s

pub event_to : (node : ℕ) (is : Event → Type 0) (s t : Stage) (es : List Noted) → event node is s es (To t)
    → Happens node is s t
event_to node is s t es made =
    let e = event_with_to node is (λ e u. To u) s t es made in
    record { event = e.event; allowed = e.allowed; then_ = sym (to_is (with_event node e.event s) t e.comes) }

-- a turn of a program
pub turn_over : {View Ask : Type 0} (p : Program View Ask) (node : ℕ) (v w : View) (s t : Stage) (es : List Noted)
    → p.asks v ≡ None → Turn p node v s es (To (w, t)) → (w ≡ v) × (t ≡ s)
turn_over {View = View} {Ask = Ask} p node v w s t es over turn = of v s es (To (w, t)) turn over refl
  where
    of : (v : View) (s : Stage) (es : List Noted) (out : Came (View × Stage)) → Turn p node v s es out → p.asks v ≡ None
        → out ≡ To (w, t) → (w ≡ v) × (t ≡ s)
    of v s es out (cut_there x y) none is = absurd cc
    of v s es out (is_over x y asked) none is =
        let same = to_is (v, s) (w, t) is in (
          sym (ap (λ (z : View × Stage). z.0) same),
          sym
              (ap (λ (z : View × Stage). z.1) same),
        )
    of v s es out (goes x y a e more o asked allowed rest) none is = absurd cc
    of v s es out (is_endless x y fs turn_cut long) none is = absurd cc

pub record TurnGoes {View Ask : Type 0} (p : Program View Ask) (node : ℕ) (v w : View) (a : Ask)
    (s t : Stage) : Type 0 where
  pub event : Event
  pub allowed : IsAllowedNext s node (p.is a) event
  pub more : List Noted
  pub rest : Turn p node (p.heard v event) (with_event node event s) more (To (w, t))

pub turn_goes : {View Ask : Type 0} (p : Program View Ask) (node : ℕ) (v w : View) (a : Ask) (s t : Stage)
    (es : List Noted)
    → p.asks v ≡ Some a → Turn p node v s es (To (w, t)) → TurnGoes p node v w a s t
turn_goes {View = View} {Ask = Ask} p node v w a s t es asked turn = of v s es (To (w, t)) turn asked refl
  where
    some_is : (a b : Ask) → ◌≡◌ {A = Option Ask} (Some a) (Some b) → a ≡ b
    some_is a b same = cc

    of : (v : View) (s : Stage) (es : List Noted) (out : Came (View × Stage)) → Turn p node v s es out
        → p.asks v ≡ Some a
        → out ≡ To (w, t) → TurnGoes p node v w a s t
    of v s es out (cut_there x y) some is = absurd cc
    of v s es out (is_over x y none) some is = absurd cc
    of v s es out (goes x y b e more o some_b allowed rest) some is =
        record {
          event = e;
          allowed = subst (λ (c : Ask). IsAllowedNext s node (p.is c) e) (some_is b a (sym some_b ∙ some)) allowed;
          more = more;
          rest = subst (λ (c : Came (View × Stage)). Turn p node (p.heard v e) (with_event node e s) more c) is rest;
        }
    of v s es out (is_endless x y fs turn_cut long) some is = absurd cc
