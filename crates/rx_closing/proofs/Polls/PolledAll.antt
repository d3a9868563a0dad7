-- Behind the polls of a round each node was polled out.
use Rattle.std.proofs.Common.{◌≡◌, ◌≢◌, ◌<◌, ◌++◌, ℕ, suc, Bool, true, false, List, [], ◌∷◌, Option, Some, None, refl}
use Rattle.std.proofs.Common.{inl, inr, ◌∙◌, ap, sym, subst, length, option_map, arith}
use Rattle.std.proofs.lemmas.Option.{slice_get_within}
use Rattle.std.specs.Prelude.{slice_get, IfSome, IsSomeAnd}
use Rattle.rx_model.specs.declared.event.Event.{Event}
use Rattle.rx_model.specs.declared.event.Event.TheVariants as events
use Rattle.rx_model.specs.declared.event.Noted.{Noted}
use Rattle.rx_model.specs.declared.names.Host.{Host}
use Rattle.rx_rules.specs.After.{looks}
use Rattle.rx_rules.specs.Items.{poll_answer}
use Rattle.rx_rules.specs.Rules.{Allowed, AllowedAt}
use Rattle.rx_rules.specs.Setup.{Kind, Client, Server}
use Rattle.rx_history.specs.Sides.{Node, side}
use Rattle.rx_events.specs.Events.{IsPolled}
use Rattle.rx_events.specs.Joint.{IsAllowedAt}
use Rattle.rx_plan.specs.Parts.{To, each}
use Rattle.rx_plan.specs.Rounds.{Polled, Polling, heard_poll, polling, polls, polls_at, polls_out}
use Rattle.rx_plan.specs.Stages.{Stage, host_at, with_event}
use Rattle.rx_plan.proofs.Callers.{side_other, side_own}
use Rattle.rx_plan.proofs.Leading.{Leads, ends_lead, then_lead, turn_lead}
use Rattle.rx_rounds.proofs.Clocks.ClocksMove.{AreApart, IsNone, from_on, in_order, order_apart, order_is}
use Rattle.rx_between.proofs.Each.EachItem.{In}
use Rattle.rx_rounds.proofs.Making.{ends_to, then_to}
use Rattle.rx_rounds.proofs.Polls.PolledOut.{IsPolledOut, polled_out}
use Rattle.rx_rounds.proofs.Rounded.{Made}
use Rattle.rx_closing.specs.Living.{looks_of}

-- ---- one node

-- its last event is a poll that gave nothing
pub record IsOut (n : Node) (es : List Event) : Type 0 where
  pub before : List Event
  pub is : es ≡ events.Polled None ∷ before
  pub none : poll_answer n.setup (looks n.setup before) ≡ None

-- so it was polled out
pub out_polled : (n : Node) (es : List Event) → IsOut n es → IsPolledOut n.setup (looks n.setup es)
out_polled n es o =
    subst (λ (xs : List Event). IsPolledOut n.setup (looks n.setup xs)) (sym o.is)
    (polled_out n.setup (looks n.setup o.before) o.none)

answer_is : (kind : Kind) (n : Node) (es : List Event) → AllowedAt kind n.setup (looks n.setup es) (events.Polled None)
    → poll_answer n.setup (looks n.setup es) ≡ None
answer_is (Server service nonces) n es allowed = sym allowed
answer_is (Client host epoch) n es allowed = sym allowed

-- the node of this number, where it is there
abbrev OutAt : ℕ → List Node → List Noted → Type 0
OutAt k nodes h = IfSome (slice_get nodes k) (λ n. IsOut n (side k h))

-- behind the polls of one node
record Behind (k : ℕ) (s t : Stage) : Type 0 where
  nodes : t.nodes ≡ s.nodes
  out : OutAt k s.nodes t.history
  others : (j : ℕ) → k ≢ j → side j t.history ≡ side j s.history

-- while it is polled
record Among (k : ℕ) (s : Stage) (v : Polling) (t : Stage) : Type 0 where
  nodes : t.nodes ≡ s.nodes
  out : v.again ≡ false → OutAt k s.nodes t.history
  others : (j : ℕ) → k ≢ j → side j t.history ≡ side j s.history

out_now : (k : ℕ) (s t : Stage) → t.nodes ≡ s.nodes → IsAllowedAt t.nodes t.history k (events.Polled None)
    → OutAt k s.nodes (with_event k (events.Polled None) t).history
out_now k s t same allowed =
    of (slice_get s.nodes k)
    (subst (λ (ns : List Node). IsAllowedAt ns t.history k (events.Polled None)) same allowed)
  where
    of : (o : Option Node)
        → IsSomeAnd o (λ n. Allowed n.setup (looks n.setup (side k t.history)) (events.Polled None))
        → IfSome o (λ n. IsOut n (side k (with_event k (events.Polled None) t).history))
    of None none = tt
    of (Some n) here =
        record {
          before = side k t.history;
          is = side_own k (events.Polled None) t.history;
          none = answer_is n.setup.kind n (side k t.history) here;
        }

asked_again : (from : Host) (v : Polling) (a : Unit {0}) → (polling from).asks v ≡ Some a → v.again ≡ true
asked_again from v a asked = of v.again asked
  where
    of : (b : Bool) → (polling from).asks (record { again = b; given = v.given }) ≡ Some a → b ≡ true
    of true is = refl
    of false is = absurd cc

asked_none : (from : Host) (v : Polling) → (polling from).asks v ≡ None → v.again ≡ false
asked_none from v asked = of v.again asked
  where
    of : (b : Bool) → (polling from).asks (record { again = b; given = v.given }) ≡ None → b ≡ false
    of true is = absurd cc
    of false is = refl

heard_among : (k : ℕ) (s : Stage) (from : Host) (v : Polling) (t : Stage) (e : Event) → v.again ≡ true → IsPolled e
    → IsAllowedAt t.nodes t.history k e → Among k s v t → Among k s (heard_poll from v e) (with_event k e t)
heard_among k s from v t (events.Polled None) again polled allowed a =
    record {
      nodes = a.nodes;
      out = λ over. out_now k s t a.nodes allowed;
      others = λ j differ. side_other j k (events.Polled None) t.history differ ∙ a.others j differ;
    }
heard_among k s from v t (events.Polled (Some (to, bytes))) again polled allowed a =
    record {
      nodes = a.nodes;
      out = λ over. absurd (let no : false ≡ true = sym over ∙ again in cc);
      others = λ j differ.
          side_other j k (events.Polled (Some (to, bytes))) t.history differ ∙ a.others j differ;
    }
heard_among k s from v t e again polled allowed a = elim polled [ ]

node_out : (k : ℕ) (o : Option Host) (p : Polled) → host_at p.stage k ≡ o
    → Leads (λ (q : Polled). Behind k p.stage q.stage) (polls_at k o p)
node_out k None p at =
    ends_lead (λ (q : Polled). Behind k p.stage q.stage) (To p)
    (record { nodes = refl; out = of (slice_get p.stage.nodes k) at; others = λ j differ. refl })
  where
    of : (o : Option Node) → option_map (λ (n : Node). n.host) o ≡ None
        → IfSome o (λ n. IsOut n (side k p.stage.history))
    of None is = tt
    of (Some n) is = absurd cc
node_out k (Some from) p at =
    then_lead (λ r. Among k p.stage r.0 r.1 × ((polling from).asks r.0 ≡ None))
    (λ (q : Polled). Behind k p.stage q.stage) _ _
    (turn_lead (polling from) k (λ v t. Among k p.stage v t)
    (λ v t a e there asked is allowed.
    heard_among k p.stage from v t e (asked_again from v a asked) is allowed there)
    (record { again = true; given = p.given }) p.stage
    (record { nodes = refl; out = λ over. absurd cc; others = λ j differ. refl }))
    (λ r there.
    ends_lead (λ (q : Polled). Behind k p.stage q.stage) _
    (record {
      nodes = there.0.nodes;
      out = there.0.out (asked_none from r.0 there.1);
      others = there.0.others;
    }))

-- ---- all nodes

record AllBehind (ns : List ℕ) (s t : Stage) : Type 0 where
  nodes : t.nodes ≡ s.nodes
  outs : (j : ℕ) → In j ns → OutAt j s.nodes t.history
  others : (j : ℕ) → IsNone j ns → side j t.history ≡ side j s.history

nodes_out : (ns : List ℕ) → AreApart ns → (p q : Polled) → Made (each polls_out ns) p q
    → AllBehind ns p.stage q.stage
nodes_out [] apart p q made =
    (let same : q.stage ≡ p.stage = ap (λ (r : Polled). r.stage) (ends_to p q made.0 made.1) in
    record {
      nodes = ap (λ (u : Stage). u.nodes) same;
      outs = λ j there. absurd there;
      others = λ j none. ap (λ (u : Stage). side j u.history) same;
    })
nodes_out (k ∷ ns) apart p q made =
    (let b = then_to (polls_out k p) (each polls_out ns) made.0 q made.1 in
    let one : Behind k p.stage b.between.stage = node_out k (host_at p.stage k) p refl b.front b.between b.made in
    let rest : AllBehind ns b.between.stage q.stage = nodes_out ns apart.1 b.between q (b.rest, b.goes) in
    record {
      nodes = rest.nodes ∙ one.nodes;
      outs = λ j there. outs j there one rest;
      others = λ j none. rest.others j none.1 ∙ one.others j none.0;
    })
  where
    outs : {u : Stage} (j : ℕ) → In j (k ∷ ns) → Behind k p.stage u → AllBehind ns u q.stage
        → OutAt j p.stage.nodes q.stage.history
    outs {u = u} j (inl same) one rest =
        subst (λ (i : ℕ). OutAt i p.stage.nodes q.stage.history) (sym same)
        (subst (λ (es : List Event). IfSome (slice_get p.stage.nodes k) (λ n. IsOut n es)) (sym (rest.others k apart.0))
        one.out)
    outs {u = u} j (inr below) one rest =
        subst (λ (nodes : List Node). OutAt j nodes q.stage.history) one.nodes (rest.outs j below)

some_count : {X : Type 0} (xs : List X) (j : ℕ) → j < length xs → (count : ℕ) × (length xs ≡ suc count)
some_count [] j low = absurd (let no : ⊥ = omega arith in no)
some_count (x ∷ xs) j low = (length xs, refl)

-- behind the polls of a round each node was polled out
pub all_polled_out : (s : Stage) (p : Polled) → Made polls s p → (j : ℕ) (n : Node) → slice_get s.nodes j ≡ Some n
    → IsPolledOut n.setup (looks_of p.stage j n)
all_polled_out s p made j n there =
    (let low : j < length s.nodes = slice_get_within s.nodes j n there in
    let many = some_count s.nodes j low in
    let ns : List ℕ = from_on 1 many.0 ++ 0 ∷ [] in
    let start : Polled = record { stage = s; given = [] } in
    let go : each polls_out ns start made.0 (To p) =
    subst (λ (ms : List ℕ). each polls_out ms start made.0 (To p)) (order_is s many.0 many.1) made.1 in
    let all : AllBehind ns s p.stage = nodes_out ns (order_apart many.0) start p (made.0, go) in
    out_polled n (side j p.stage.history)
    (subst (λ (o : Option Node). IfSome o (λ m. IsOut m (side j p.stage.history))) there
    (all.outs j (in_order many.0 j (subst (λ (m : ℕ). j < m) many.1 low)))))
