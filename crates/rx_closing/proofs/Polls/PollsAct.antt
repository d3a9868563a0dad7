-- Each node that is there acted in the polls of a round: it did something since the clocks last moved.
use Rattle.std.proofs.Common.{◌≡◌, ◌<◌, ◌++◌, ◌==◌, length, zero, ℕ, suc, false, List, [], ◌∷◌}
use Rattle.std.proofs.Common.{Option, Some, None, refl, ◌∙◌, ap, sym, subst, inl, inr, arith, append_assoc, option_map}
use Rattle.std.specs.Prelude.{slice_get}
use Rattle.rx_model.specs.declared.event.Event.{Event}
use Rattle.rx_model.specs.declared.event.Event.TheVariants as events
use Rattle.rx_model.specs.declared.event.Noted.{Noted}
use Rattle.rx_model.specs.declared.names.Host.{Host}
use Rattle.rx_rules.proofs.EveryLaws.{Every, every-append}
use Rattle.rx_history.specs.Sides.{Node, moment}
use Rattle.rx_law.specs.Times.{is_clock}
use Rattle.rx_wire.specs.Turns.{noted}
use Rattle.rx_plan.specs.Parts.{Came, To, each}
use Rattle.rx_plan.specs.Programs.{Turn, cut_there, goes, is_endless, is_over}
use Rattle.rx_plan.specs.Rounds.{Polled, Polling, clients_first, polling, polls, polls_at, polls_out}
use Rattle.rx_plan.specs.Stages.{Stage, host_at, with_event}
use Rattle.rx_rounds.proofs.Clocks.ClocksMove.{in_order, order_is}
use Rattle.rx_between.proofs.Each.EachItem.{In}
use Rattle.rx_rounds.proofs.Making.{ends_to, then_to, to_is, turn_goes}
use Rattle.rx_rounds.proofs.Rounded.{Made}
use Rattle.rx_rounds.proofs.Two.{more, out_to, polled_is}
use Rattle.rx_law.proofs.Clocks.{moment-stays}

-- ---- a node that acted since the clocks last moved

-- none of these events moved a clock
abbrev pub AreStill : List Noted → Type 0
AreStill es = Every (λ (n : Noted). is_clock n.event ≡ false) es

-- the node acted, and since then no clock moved
pub record Acted (j : ℕ) (h : List Noted) : Type 0 where
  pub since : List Noted
  pub event : Event
  pub before : List Noted
  pub is : h ≡ since ++ noted j event ∷ before
  pub acts : is_clock event ≡ false
  pub still : AreStill since

-- it is so behind events that move no clock
pub acted_on : (j : ℕ) (es h : List Noted) → AreStill es → Acted j h → Acted j (es ++ h)
acted_on j es h still a =
    record {
      since = es ++ a.since;
      event = a.event;
      before = a.before;
      is = ap (λ (k : List Noted). es ++ k) a.is ∙ sym (append_assoc es a.since (noted j a.event ∷ a.before));
      acts = a.acts;
      still = every-append (λ (n : Noted). is_clock n.event ≡ false) es a.since still a.still;
    }

-- over all of them
pub moments_still : (j : ℕ) (es h : List Noted) → AreStill es → moment j (es ++ h) ≡ moment j h
moments_still j [] h still = refl
moments_still j (e ∷ es) h still = moment-stays j e (es ++ h) still.0 ∙ moments_still j es h still.1

-- ---- the polls of a round

-- a part of them: each event is a poll, and one of this node is among them
record PollsOn (p q : Stage) : Type 0 where
  more_ : List Noted
  is : q.history ≡ more_ ++ p.history
  still : AreStill more_
  nodes : q.nodes ≡ p.nodes

poll_still : (got : Option (Host × List ℕ)) (e : Event) → e ≡ events.Polled got → is_clock e ≡ false
poll_still got e is = ap is_clock is

turn_on : (from : Host) (node : ℕ) (v w : Polling) (s t : Stage) (es : List Noted)
    → Turn (polling from) node v s es (To (w, t)) → PollsOn s t
turn_on from node v w s t es turn = of v s es (To (w, t)) turn refl
  where
    of : (v : Polling) (s : Stage) (es : List Noted) (out : Came (Polling × Stage))
        → Turn (polling from) node v s es out
        → out ≡ To (w, t) → PollsOn s t
    of v s es out (cut_there a b) is = absurd cc
    of v s es out (is_over a b none) is =
        (let same : t ≡ s = ap (λ (z : Polling × Stage). z.1) (sym (to_is (v, s) (w, t) is)) in
        record {
          more_ = [];
          is = ap (λ (u : Stage). u.history) same;
          still = tt;
          nodes = ap (λ (u : Stage). u.nodes) same;
        })
    of v s es out (goes a b ask e rest o asked allowed turn_) is =
        (let r = of ((polling from).heard v e) (with_event node e s) rest o turn_ is in
        let p = polled_is e allowed.0 in
        record {
          more_ = r.more_ ++ noted node e ∷ [];
          is = r.is ∙ sym (append_assoc r.more_ (noted node e ∷ []) s.history);
          still =
              every-append (λ (n : Noted). is_clock n.event ≡ false) r.more_ (noted node e ∷ []) r.still
              (poll_still p.0 e p.1, tt);
          nodes = r.nodes;
        })
    of v s es out (is_endless a b fs turn_cut long) is = absurd cc

-- the polls of a node that is there
turn_acts : (from : Host) (node : ℕ) (v w : Polling) (s t : Stage) (es : List Noted) → (polling from).asks v ≡ Some tt
    → Turn (polling from) node v s es (To (w, t)) → Acted node t.history
turn_acts from node v w s t es asks turn =
    (let g = turn_goes (polling from) node v w tt s t es asks turn in
    let r = turn_on from node ((polling from).heard v g.event) w (with_event node g.event s) t g.more g.rest in
    let p = polled_is g.event g.allowed.0 in
    record {
      since = r.more_;
      event = g.event;
      before = s.history;
      is = r.is;
      acts = poll_still p.0 g.event p.1;
      still = r.still;
    })

out_on : (j : ℕ) (p q : Polled) (es : List Noted) → polls_out j p es (To q) → PollsOn p.stage q.stage
out_on j p q es made = by (host_at p.stage j) refl
  where
    by : (o : Option Host) → host_at p.stage j ≡ o → PollsOn p.stage q.stage
    by None none =
        (let same : q ≡ p = ends_to p q es (subst (λ (o : Option Host). polls_at j o p es (To q)) none made) in
        record {
          more_ = [];
          is = ap (λ (r : Polled). r.stage.history) same;
          still = tt;
          nodes = ap (λ (r : Polled). r.stage.nodes) same;
        })
    by (Some from) there =
        (let o = out_to j from p q es there made in turn_on from j (more p.given) o.0 p.stage q.stage o.2.0 o.2.1)

outs_on : (ns : List ℕ) (p q : Polled) → Made (each polls_out ns) p q → PollsOn p.stage q.stage
outs_on [] p q made =
    (let same = ends_to p q made.0 made.1 in
    record {
      more_ = [];
      is = ap (λ (r : Polled). r.stage.history) same;
      still = tt;
      nodes = ap (λ (r : Polled). r.stage.nodes) same;
    })
outs_on (n ∷ ns) p q made =
    (let b = then_to (polls_out n p) (each polls_out ns) made.0 q made.1 in
    let a = out_on n p b.between b.front b.made in
    let r = outs_on ns b.between q (b.rest, b.goes) in
    record {
      more_ = r.more_ ++ a.more_;
      is = r.is ∙ ap (λ (h : List Noted). r.more_ ++ h) a.is ∙ sym (append_assoc r.more_ a.more_ p.stage.history);
      still = every-append (λ (n : Noted). is_clock n.event ≡ false) r.more_ a.more_ r.still a.still;
      nodes = r.nodes ∙ a.nodes;
    })

outs_act : (ns : List ℕ) (j : ℕ) (n : Node) → In j ns → (p q : Polled) → Made (each polls_out ns) p q
    → slice_get p.stage.nodes j ≡ Some n → Acted j q.stage.history
outs_act [] j n none p q made there = absurd none
outs_act (m ∷ ns) j n in_ p q made there =
    (let b = then_to (polls_out m p) (each polls_out ns) made.0 q made.1 in
    by in_ b.between b.front b.made (outs_on ns b.between q (b.rest, b.goes))
    (λ low. outs_act ns j n low b.between q (b.rest, b.goes)
    (ap (λ (ms : List Node). slice_get ms j) (out_on m p b.between b.front b.made).nodes ∙ there)))
  where
    by : In j (m ∷ ns) → (u : Polled) (es : List Noted) → polls_out m p es (To u) → PollsOn u.stage q.stage
        → (In j ns → Acted j q.stage.history) → Acted j q.stage.history
    by (inl same) u es made_ rest onward =
        let host : host_at p.stage j ≡ Some n.host = ap (option_map (λ (x : Node). x.host)) there in
        let o = out_to j n.host p u es host (subst (λ (i : ℕ). polls_out i p es (To u)) (sym same) made_) in
        subst (Acted j) (sym rest.is)
        (acted_on j rest.more_ u.stage.history rest.still
        (turn_acts n.host j (more p.given) o.0 p.stage u.stage o.2.0 refl o.2.1))
    by (inr low) u es made_ rest onward = onward low

low : {X : Type 0} (zs : List X) (z x : X) (i : ℕ) → slice_get (z ∷ zs) i ≡ Some x → i < suc (length zs)
low zs z x zero is = omega arith
low [] z x (suc i) is = absurd cc
low (w ∷ zs) z x (suc i) is = (let rest = low zs w x i is in omega arith)

pub nth_many : {X : Type 0} (xs : List X) (k : ℕ) (x : X) → slice_get xs k ≡ Some x
    → (count : ℕ) × (length xs ≡ suc count) × (k < suc count)
nth_many [] k x there = absurd cc
nth_many (y ∷ xs) k x there = (length xs, refl, low xs y x k there)

-- each node that is there acted in the polls of a round
pub polls_act : (j : ℕ) (n : Node) (s : Stage) (p : Polled) → Made polls s p → slice_get s.nodes j ≡ Some n
    → Acted j p.stage.history
polls_act j n s p made there =
    (let m = nth_many s.nodes j n there in
    outs_act (clients_first s) j n
    (subst (In j) (sym (order_is s m.0 m.1)) (in_order m.0 j m.2))
    (record { stage = s; given = [] }) p made there)
