-- A polling of a round that gave nothing, of any number of nodes: each was asked once, and had nothing to give.
use Rattle.std.proofs.Common.{◌≡◌, ◌≢◌, ◌<◌, ℕ, zero, suc, false, List, [], ◌∷◌, ◌++◌}
use Rattle.std.proofs.Common.{append_assoc, append-nil, refl, ap, sym, subst, ◌∙◌, inl, inr, Option, Some, None}
use Rattle.std.proofs.Common.{option_map, length, arith}
use Rattle.std.specs.Prelude.{slice_get, IsSomeAnd}
use Rattle.rx_model.specs.declared.event.Event.{Event}
use Rattle.rx_model.specs.declared.event.Event.TheVariants as events
use Rattle.rx_model.specs.declared.names.Host.{Host}
use Rattle.rx_model.specs.declared.event.Noted.{Noted}
use Rattle.rx_rules.specs.After.{looks}
use Rattle.rx_rules.specs.Items.{poll_answer}
use Rattle.rx_rules.specs.Rules.{Allowed}
use Rattle.rx_law.proofs.Joint.{polled-is}
use Rattle.rx_history.specs.Sides.{Node, side}
use Rattle.rx_law.specs.Worlds.{Datagram}
use Rattle.rx_plan.proofs.Callers.{side_other, side_own}
use Rattle.rx_plan.specs.Parts.{Came, To, each}
use Rattle.rx_plan.specs.Programs.{Turn, cut_there, goes, is_endless, is_over}
use Rattle.rx_plan.specs.Rounds.{Polled, Polling, polling, polls, polls_at, polls_out}
use Rattle.rx_plan.specs.Stages.{Stage, host_at, with_event}
use Rattle.rx_rounds.proofs.Clocks.ClocksMove.{AreApart, IsNone, apart_from, in_order, low_order, order_apart, order_is}
use Rattle.rx_rounds.proofs.Clocks.ClocksMove.{from_on}
use Rattle.rx_between.proofs.Each.EachItem.{In}
use Rattle.rx_rounds.proofs.Making.{ends_to, then_to, to_is, turn_goes, turn_over}
use Rattle.rx_rounds.proofs.Rounded.{Made}
use Rattle.rx_rounds.proofs.Two.{more, out_to, polled_is, sent}

-- ---- what was given only grows

pub given_grows : (from : Host) (node : ℕ) (v w : Polling) (s t : Stage) (es : List Noted)
    → Turn (polling from) node v s es (To (w, t)) → (gs : List Datagram) × (w.given ≡ v.given ++ gs)
given_grows from node v w s t es turn = of v s es (To (w, t)) turn refl
  where
    one : (v : Polling) (got : Option (Host × List ℕ)) (gs : List Datagram)
        → w.given ≡ ((polling from).heard v (events.Polled got)).given ++ gs
        → (hs : List Datagram) × (w.given ≡ v.given ++ hs)
    one v None gs is = (gs, is)
    one v (Some d) gs is = (sent from d.0 d.1 ∷ gs, is ∙ append_assoc v.given (sent from d.0 d.1 ∷ []) gs)

    of : (v : Polling) (s : Stage) (es : List Noted) (out : Came (Polling × Stage))
        → Turn (polling from) node v s es out
        → out ≡ To (w, t) → (gs : List Datagram) × (w.given ≡ v.given ++ gs)
    of v s es out (cut_there a b) is = absurd cc
    of v s es out (is_over a b none) is =
        ([], ap (λ (z : Polling × Stage). z.0.given) (sym (to_is (v, s) (w, t) is)) ∙ sym (append-nil v.given))
    of v s es out (goes a b ask e rest o asked allowed turn_on) is =
        let r = of ((polling from).heard v e) (with_event node e s) rest o turn_on is in
        let p = polled_is e allowed.0 in
        one v p.0 r.0 (subst (λ (f : Event). w.given ≡ ((polling from).heard v f).given ++ r.0) p.1 r.1)
    of v s es out (is_endless a b fs turn_cut long) is = absurd cc

out_grows : (k : ℕ) (p q : Polled) (es : List Noted) → polls_out k p es (To q)
    → (gs : List Datagram) × (q.given ≡ p.given ++ gs)
out_grows k p q es made = by (host_at p.stage k) refl
  where
    by : (o : Option Host) → host_at p.stage k ≡ o → (gs : List Datagram) × (q.given ≡ p.given ++ gs)
    by None none =
        let same : q ≡ p = ends_to p q es (subst (λ (o : Option Host). polls_at k o p es (To q)) none made) in
        ([], ap (λ (r : Polled). r.given) same ∙ sym (append-nil p.given))
    by (Some from) there =
        let o = out_to k from p q es there made in
        let g = given_grows from k (more p.given) o.0 p.stage q.stage o.2.0 o.2.1 in
        (g.0, o.1 ∙ g.1)

outs_grow : (ns : List ℕ) (p q : Polled) → Made (each polls_out ns) p q
    → (gs : List Datagram) × (q.given ≡ p.given ++ gs)
outs_grow [] p q made =
    (let same = ends_to p q made.0 made.1 in
    ([], ap (λ (r : Polled). r.given) same ∙ sym (append-nil p.given)))
outs_grow (n ∷ ns) p q made =
    (let b = then_to (polls_out n p) (each polls_out ns) made.0 q made.1 in
    let first = out_grows n p b.between b.front b.made in
    let rest = outs_grow ns b.between q (b.rest, b.goes) in (
      first.0 ++ rest.0,
      rest.1 ∙ ap (λ (ds : List Datagram). ds ++ rest.0) first.1 ∙ append_assoc p.given first.0 rest.0,
    ))

none_front : {X : Type 0} (xs ys : List X) → xs ++ ys ≡ [] → xs ≡ []
none_front [] ys none = refl
none_front (x ∷ xs) ys none = absurd cc

none_more : {X : Type 0} (xs ys : List X) (x : X) → xs ≡ (xs ++ x ∷ []) ++ ys → ⊥
none_more [] ys x same = cc
none_more (z ∷ xs) ys x same = none_more xs ys x cc

-- ---- one node

-- it was asked once, and had nothing to give
asked_once : (k : ℕ) (n : Node) (p q : Polled) (es : List Noted) → slice_get p.stage.nodes k ≡ Some n
    → polls_out k p es (To q) → q.given ≡ p.given
    → (poll_answer n.setup (looks n.setup (side k p.stage.history)) ≡ None)
    × (q.stage ≡ with_event k (events.Polled None) p.stage)
asked_once k n p q es there made quiet =
    (let o = out_to k n.host p q es (ap (option_map (λ (m : Node). m.host)) there) made in
    let g = turn_goes (polling n.host) k (more p.given) o.0 tt p.stage q.stage o.2.0 refl o.2.1 in
    let e = polled_is g.event g.allowed.0 in
    let allowed : Allowed n.setup (looks n.setup (side k p.stage.history)) (events.Polled e.0) =
    subst (λ (f : Event). Allowed n.setup (looks n.setup (side k p.stage.history)) f) e.1
    (subst (λ (m : Option Node). IsSomeAnd m (λ (m : Node). Allowed m.setup (looks m.setup (side k p.stage.history))
    g.event)) there g.allowed.1) in
    let answer : e.0 ≡ poll_answer n.setup (looks n.setup (side k p.stage.history)) =
    polled-is n.setup.kind n.setup (looks n.setup (side k p.stage.history)) e.0 allowed in
    of e.0 answer o.0 (sym quiet ∙ o.1) g.more
    (subst (λ (f : Event). Turn (polling n.host) k ((polling n.host).heard (more p.given) f) (with_event k f p.stage)
    g.more (To (o.0, q.stage))) e.1 g.rest))
  where
    of : (got : Option (Host × List ℕ)) → got ≡ poll_answer n.setup (looks n.setup (side k p.stage.history))
        → (w : Polling) → p.given ≡ w.given → (fs : List Noted)
        → Turn (polling n.host) k ((polling n.host).heard (more p.given) (events.Polled got))
        (with_event k (events.Polled got) p.stage) fs (To (w, q.stage))
        → (poll_answer n.setup (looks n.setup (side k p.stage.history)) ≡ None)
        × (q.stage ≡ with_event k (events.Polled None) p.stage)
    of None answer w same fs rest =
        let over = turn_over (polling n.host) k (record { again = false; given = p.given }) w
        (with_event k (events.Polled None) p.stage) q.stage fs refl rest in
        (sym answer, over.1)
    of (Some d) answer w same fs rest =
        let g = given_grows n.host k ((polling n.host).heard (more p.given) (events.Polled (Some d))) w
        (with_event k (events.Polled (Some d)) p.stage) q.stage fs rest in
        absurd (none_more p.given g.0 (sent n.host d.0 d.1) (same ∙ g.1))

-- ---- all nodes

-- these were asked once and had nothing to give, and nothing else changed
pub record AskedOn (ns : List ℕ) (s t : Stage) : Type 0 where
  pub asked : (k : ℕ) → In k ns → side k t.history ≡ events.Polled None ∷ side k s.history
  pub none : (k : ℕ) (n : Node) → In k ns → slice_get s.nodes k ≡ Some n
      → poll_answer n.setup (looks n.setup (side k s.history)) ≡ None
  pub others : (k : ℕ) → IsNone k ns → side k t.history ≡ side k s.history
  pub rest : t ≡ record s { history = t.history }

-- each of these is a node that is there
abbrev pub AreThere : List ℕ → Stage → Type 0
AreThere ns s = (k : ℕ) → In k ns → (n : Node) × (slice_get s.nodes k ≡ Some n)

outs_asked : (ns : List ℕ) → AreApart ns → (p q : Polled) → Made (each polls_out ns) p q → p.given ≡ [] → q.given ≡ []
    → AreThere ns p.stage → AskedOn ns p.stage q.stage
outs_asked [] apart p q made first last there =
    (let same : q.stage ≡ p.stage = ap (λ (r : Polled). r.stage) (ends_to p q made.0 made.1) in
    record {
      asked = λ k no. absurd no;
      none = λ k n no. absurd no;
      others = λ k none. ap (λ (u : Stage). side k u.history) same;
      rest = same ∙ ap (λ (u : Stage). record p.stage { history = u.history }) (sym same);
    })
outs_asked (n ∷ ns) apart p q made first last there =
    (let b = then_to (polls_out n p) (each polls_out ns) made.0 q made.1 in
    let grown = outs_grow ns b.between q (b.rest, b.goes) in
    let still : b.between.given ≡ [] = none_front b.between.given grown.0 (sym grown.1 ∙ last) in
    let node = there n (inl refl) in
    let one = asked_once n node.0 p b.between b.front node.1 b.made (still ∙ sym first) in
    let other : (k : ℕ) → n ≢ k → side k b.between.stage.history ≡ side k p.stage.history =
    λ k differ. ap (λ (u : Stage). side k u.history) one.1
    ∙ side_other k n (events.Polled None) p.stage.history differ in
    let nodes : b.between.stage.nodes ≡ p.stage.nodes = ap (λ (u : Stage). u.nodes) one.1 in
    let later = outs_asked ns apart.1 b.between q (b.rest, b.goes) still last
    (λ k below. (let m = there k (inr below) in (m.0, ap (λ (ms : List Node). slice_get ms k) nodes ∙ m.1))) in
    let own : side n q.stage.history ≡ events.Polled None ∷ side n p.stage.history =
    later.others n apart.0 ∙ ap (λ (u : Stage). side n u.history) one.1
    ∙ side_own n (events.Polled None) p.stage.history in
    record {
      asked = λ k below. asks k below own later other;
      none = λ k m below is. nones k m below is node one.0 later other nodes;
      others = λ k none. later.others k none.1 ∙ other k none.0;
      rest = later.rest ∙ ap (λ (u : Stage). record u { history = q.stage.history }) one.1;
    })
  where
    asks : {u : Stage} (k : ℕ) → In k (n ∷ ns) → side n q.stage.history ≡ events.Polled None ∷ side n p.stage.history
        → AskedOn ns u q.stage → ((j : ℕ) → n ≢ j → side j u.history ≡ side j p.stage.history)
        → side k q.stage.history ≡ events.Polled None ∷ side k p.stage.history
    asks k (inl same) own later other =
        subst (λ (j : ℕ). side j q.stage.history ≡ events.Polled None ∷ side j p.stage.history) (sym same) own
    asks k (inr below) own later other =
        later.asked k below
        ∙ ap (λ (h : List Event). events.Polled None ∷ h)
        (other k (λ is. apart_from k n ns below apart.0 (sym is)))

    some_is : (a b : Node) → ◌≡◌ {A = Option Node} (Some a) (Some b) → a ≡ b
    some_is a b same = cc

    nones : {u : Stage} (k : ℕ) (m : Node) → In k (n ∷ ns) → slice_get p.stage.nodes k ≡ Some m
        → (node : (d : Node) × (slice_get p.stage.nodes n ≡ Some d))
        → poll_answer node.0.setup (looks node.0.setup (side n p.stage.history)) ≡ None
        → AskedOn ns u q.stage → ((j : ℕ) → n ≢ j → side j u.history ≡ side j p.stage.history)
        → u.nodes ≡ p.stage.nodes → poll_answer m.setup (looks m.setup (side k p.stage.history)) ≡ None
    nones k m (inl same) is node one later other nodes =
        let equal : m ≡ node.0 =
        some_is m node.0 (sym is ∙ ap (λ (j : ℕ). slice_get p.stage.nodes j) same ∙ node.1) in
        subst (λ (d : Node). poll_answer d.setup (looks d.setup (side k p.stage.history)) ≡ None) (sym equal)
        (subst (λ (j : ℕ). poll_answer node.0.setup (looks node.0.setup (side j p.stage.history)) ≡ None) (sym same)
        one)
    nones k m (inr below) is node one later other nodes =
        subst (λ (h : List Event). poll_answer m.setup (looks m.setup h) ≡ None)
        (other k (λ is. apart_from k n ns below apart.0 (sym is)))
        (later.none k m below (ap (λ (ms : List Node). slice_get ms k) nodes ∙ is))

pub nth_there : {X : Type 0} (xs : List X) (k : ℕ) → k < length xs → (x : X) × (slice_get xs k ≡ Some x)
nth_there [] k low = (let no : ⊥ = omega arith in absurd no)
nth_there (x ∷ xs) zero low = (x, refl)
nth_there (x ∷ xs) (suc k) low = nth_there xs k (omega arith)

-- each node was asked once and had nothing to give, and nothing else changed
pub record AskedAll (s t : Stage) : Type 0 where
  pub asked : (k : ℕ) → k < length s.nodes → side k t.history ≡ events.Polled None ∷ side k s.history
  pub none : (k : ℕ) (n : Node) → k < length s.nodes → slice_get s.nodes k ≡ Some n
      → poll_answer n.setup (looks n.setup (side k s.history)) ≡ None
  pub rest : t ≡ record s { history = t.history }

-- so is a polling that gave nothing
pub polls_asked : (count : ℕ) (s : Stage) (p : Polled) → length s.nodes ≡ suc count → Made polls s p → p.given ≡ []
    → AskedAll s p.stage
polls_asked count s p many made quiet =
    (let ns : List ℕ = from_on 1 count ++ 0 ∷ [] in
    let start : Polled = record { stage = s; given = [] } in
    let all : each polls_out ns start made.0 (To p) =
    subst (λ (ms : List ℕ). each polls_out ms start made.0 (To p)) (order_is s count many) made.1 in
    let there : AreThere ns s =
    λ k below. nth_there s.nodes k (subst (λ (n : ℕ). k < n) (sym many) (low_order count k below)) in
    let asked = outs_asked ns (order_apart count) start p (made.0, all) refl quiet there in
    let in_ns : (k : ℕ) → k < length s.nodes → In k ns =
    λ k low. in_order count k (subst (λ (n : ℕ). k < n) many low) in
    record {
      asked = λ k low. asked.asked k (in_ns k low);
      none = λ k n low is. asked.none k n (in_ns k low) is;
      rest = asked.rest;
    })
