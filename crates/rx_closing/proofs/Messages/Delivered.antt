-- What a delivery makes of each node of any number: one of the datagram's host takes it, with the answer that the rules
-- give, and nothing of any other changes.
use Rattle.std.proofs.Common.{◌≡◌, ◌≢◌, ◌<◌, ◌≤◌, ◌⊎◌, ◌++◌, ◌==◌, ℕ, zero, suc, Bool, true, false, List, [], ◌∷◌}
use Rattle.std.proofs.Common.{Option, Some, refl, ◌∙◌, ap, sym, subst, inl, inr, ⊎_elim, append_assoc, option_map}
use Rattle.std.proofs.Common.{length, arith}
use Rattle.std.specs.Prelude.{slice_get, IsSomeAnd, unwrap_or}
use Rattle.rx_model.specs.declared.event.Event.{Event}
use Rattle.rx_model.specs.declared.event.Event.TheVariants as events
use Rattle.rx_model.specs.declared.event.Noted.{Noted}
use Rattle.rx_model.specs.Names.{same_host}
use Rattle.rx_model.proofs.NameLaws.{number_itself, same_number}
use Rattle.rx_rules.specs.After.{looks}
use Rattle.rx_rules.specs.Judging.{took_of}
use Rattle.rx_rules.specs.Looks.{Looks}
use Rattle.rx_rules.specs.Rules.{Allowed}
use Rattle.rx_rules.specs.Setup.{Setup}
use Rattle.rx_history.specs.Sides.{Node, side}
use Rattle.rx_law.specs.Worlds.{Datagram}
use Rattle.rx_events.specs.Events.{IsTaken}
use Rattle.rx_wire.specs.Turns.{noted}
use Rattle.rx_plan.proofs.Callers.{side_other, side_own}
use Rattle.rx_plan.specs.Network.{all_nodes, below, comes_to, delivers, is_for}
use Rattle.rx_plan.specs.Parts.{To, by_test, each, ends}
use Rattle.rx_plan.specs.Stages.{Stage, event, with_event}
use Rattle.rx_plan.proofs.Aborts.AbortCauses.{taken_is as answer_is}
use Rattle.rx_rounds.proofs.Clocks.ClocksMove.{AreApart, IsNone, apart_from, apart_behind, none_behind}
use Rattle.rx_between.proofs.Each.EachItem.{In, in_behind, in_front}
use Rattle.rx_rounds.proofs.Making.{ends_to, event_to, then_to}
use Rattle.rx_rounds.proofs.Rounded.{Made}
use Rattle.rx_between.proofs.Within.{in_either}
use Rattle.rx_rounds.proofs.Clocks.GivesOrMoves.{nth_low}
use Rattle.rx_rounds.proofs.Two.{taken_is}
use Rattle.rx_rounds.proofs.Polls.QuietPolls.{AreThere, nth_there}

-- ---- the numbers of the nodes

none_below : (n k : ℕ) → n ≤ k → IsNone k (below n)
none_below zero k low = tt
none_below (suc n) k low = none_behind k n (below n) (none_below n k (omega arith)) (λ is. omega arith)

apart_below : (n : ℕ) → AreApart (below n)
apart_below zero = tt
apart_below (suc n) = apart_behind n (below n) (apart_below n) (none_below n n (omega arith))

in_below : (n k : ℕ) → k < n → In k (below n)
in_below zero k low = absurd (omega arith)
in_below (suc n) k low = of (λ less. in_below n k less) (k == n) refl
  where
    of : (k < n → In k (below n)) → (b : Bool) → (k == n) ≡ b → In k (below n ++ n ∷ [])
    of front true same = in_behind k (below n) (n ∷ []) (inl (same_number k n same))
    of front false other =
        in_front k (below n) (n ∷ []) (front (let apart : k ≢ n =
        λ is. (let yes : (k == n) ≡ true = ap (λ (i : ℕ). i == n) is ∙ number_itself n in
        let never : true ≡ false = sym yes ∙ other in cc) in omega arith))

-- ---- one node

-- a node takes a datagram, with the rules' answer
abbrev pub takes_from : Setup → Datagram → Looks → Event
takes_from s d l = events.Taken d.from d.bytes (took_of s l d.from d.bytes)

-- it took it along a history: at that moment nothing of the node had changed since an earlier one
pub record TookAt (k : ℕ) (n : Node) (d : Datagram) (before behind : List Noted) : Type 0 where
  pub later : List Noted
  pub at : List Noted
  pub mid : List Noted
  pub is : behind ≡ later ++ noted k (takes_from n.setup d (looks n.setup (side k before))) ∷ at
  pub front : at ≡ mid ++ before
  pub still : side k at ≡ side k before
  pub own : side k behind ≡ takes_from n.setup d (looks n.setup (side k before)) ∷ side k before

-- the node of a number where the datagram comes
pub record Comes (k : ℕ) (n : Node) (d : Datagram) (s t : Stage) : Type 0 where
  pub takes : same_host d.to n.host ≡ true → TookAt k n d s.history t.history
  pub passes : same_host d.to n.host ≡ false → side k t.history ≡ side k s.history

one_comes : (k : ℕ) (n : Node) (d : Datagram) (s t : Stage) (es : List Noted) → slice_get s.nodes k ≡ Some n
    → comes_to d k s es (To t)
    → ((same_host d.to n.host ≡ true) × (t ≡ with_event k (takes_from n.setup d (looks n.setup (side k s.history))) s))
    ⊎ ((same_host d.to n.host ≡ false) × (t ≡ s))
one_comes k n d s t es there made = of (same_host d.to n.host) refl
  where
    test : is_for d s k ≡ same_host d.to n.host
    test = ap (λ (o : Option Node). unwrap_or (option_map (same_host d.to) (option_map (λ (m : Node). m.host) o)) false)
        there

    of : (b : Bool) → same_host d.to n.host ≡ b
        → ((same_host d.to n.host ≡ true)
        × (t ≡ with_event k (takes_from n.setup d (looks n.setup (side k s.history))) s))
        ⊎ ((same_host d.to n.host ≡ false) × (t ≡ s))
    of true same =
        (let taken : event k (IsTaken d.from d.bytes) s es (To t) =
        subst (λ (b : Bool). by_test b (event k (IsTaken d.from d.bytes) s) (ends (To s)) es (To t))
        (test ∙ same) made in
        let h = event_to k (IsTaken d.from d.bytes) s t es taken in
        let e = taken_is d.from d.bytes h.event h.allowed.0 in
        let allowed : Allowed n.setup (looks n.setup (side k s.history)) (events.Taken d.from d.bytes e.0) =
        subst (λ (f : Event). Allowed n.setup (looks n.setup (side k s.history)) f) e.1
        (subst (λ (o : Option Node). IsSomeAnd o (λ (m : Node). Allowed m.setup (looks m.setup (side k s.history))
        h.event)) there h.allowed.1) in
        let answer : e.0 ≡ took_of n.setup (looks n.setup (side k s.history)) d.from d.bytes =
        answer_is n.setup.kind n.setup (looks n.setup (side k s.history)) d.from d.bytes e.0 allowed in
        inl (
          same,
          h.then_ ∙ ap (λ (f : Event). with_event k f s) (e.1 ∙ ap (events.Taken d.from d.bytes) answer),
        ))
    of false other =
        inr (
          other,
          ends_to s t es
              (subst (λ (b : Bool). by_test b (event k (IsTaken d.from d.bytes) s) (ends (To s)) es (To t))
              (test ∙ other) made),
        )

-- ---- several

pub record CameTo (ns : List ℕ) (d : Datagram) (s t : Stage) : Type 0 where
  pub comes : (k : ℕ) (n : Node) → In k ns → slice_get s.nodes k ≡ Some n → Comes k n d s t
  pub others : (k : ℕ) → IsNone k ns → side k t.history ≡ side k s.history
  pub more : List Noted
  pub grown : t.history ≡ more ++ s.history
  pub rest : t ≡ record s { history = t.history }

-- a node that is found twice is one
pub node_is : (a b : Node) → ◌≡◌ {A = Option Node} (Some a) (Some b) → a ≡ b
node_is a b same = cc

-- behind an earlier one that leaves it
earlier_took : (k : ℕ) (n : Node) (d : Datagram) (before mid behind more : List Noted) → TookAt k n d mid behind
    → mid ≡ more ++ before → side k mid ≡ side k before → TookAt k n d before behind
earlier_took k n d before mid behind more took grown still =
    (let e : side k mid ≡ side k before = still in
    record {
      later = took.later;
      at = took.at;
      mid = took.mid ++ more;
      is =
          subst (λ (h : List Event). behind ≡ took.later ++ noted k
          (takes_from n.setup d (looks n.setup h)) ∷ took.at) e
          took.is;
      front =
          took.front ∙ ap (λ (h : List Noted). took.mid ++ h) grown ∙ sym (append_assoc took.mid more before);
      still = took.still ∙ e;
      own =
          subst (λ (h : List Event). side k behind ≡ takes_from n.setup d (looks n.setup h) ∷ h) e took.own;
    })

-- what the others make of a stage
abbrev Goes : Datagram → List ℕ → Stage → Type 0
Goes d ns t = (u : Stage) → AreThere ns u → Made (each (comes_to d) ns) u t → CameTo ns d u t

comes_each : (d : Datagram) (ns : List ℕ) → AreApart ns → (s t : Stage) → AreThere ns s
    → Made (each (comes_to d) ns) s t
    → CameTo ns d s t
comes_each d [] apart s t there made =
    (let same : t ≡ s = ends_to s t made.0 made.1 in
    record {
      comes = λ k n no. absurd no;
      others = λ k none. ap (λ (u : Stage). side k u.history) same;
      more = [];
      grown = ap (λ (u : Stage). u.history) same;
      rest = same ∙ ap (λ (u : Stage). record s { history = u.history }) (sym same);
    })
comes_each d (n ∷ ns) apart s t there made =
    (let b = then_to (comes_to d n s) (each (comes_to d) ns) made.0 t made.1 in
    let m = there n (inl refl) in
    by (λ u are goes. comes_each d ns apart.1 u t are goes) b.between (b.rest, b.goes) m
    (one_comes n m.0 d s b.between b.front m.1 b.made))
  where
    -- where the first one changed nothing
    quiet : Goes d ns t → (u : Stage) → Made (each (comes_to d) ns) u t
        → (m : (x : Node) × (slice_get s.nodes n ≡ Some x))
        → same_host d.to m.0.host ≡ false → u ≡ s → CameTo (n ∷ ns) d s t
    quiet rest_ u goes m other same =
        let r : CameTo ns d s t =
        subst (λ (v : Stage). CameTo ns d v t) same
        (rest_ u (subst (AreThere ns) (sym same) (λ k below_. there k (inr below_))) goes) in
        record {
          comes = λ k x in_ is. first r k x in_ is;
          others = λ k none. r.others k none.1;
          more = r.more;
          grown = r.grown;
          rest = r.rest;
        }
      where
        first : CameTo ns d s t → (k : ℕ) (x : Node) → In k (n ∷ ns) → slice_get s.nodes k ≡ Some x → Comes k x d s t
        first r k x (inl own) is =
            let one : x ≡ m.0 = node_is x m.0 (sym is ∙ ap (slice_get s.nodes) own ∙ m.1) in
            record {
              takes = λ yes. absurd (let never : true ≡ false = sym yes
                  ∙ ap (λ (y : Node). same_host d.to y.host) one ∙ other in cc);
              passes = λ no. subst (λ (j : ℕ). side j t.history ≡ side j s.history) (sym own) (r.others n apart.0);
            }
        first r k x (inr below_) is = r.comes k x below_ is

    -- where it took the datagram
    taken : Goes d ns t → (u : Stage) → Made (each (comes_to d) ns) u t
        → (m : (x : Node) × (slice_get s.nodes n ≡ Some x))
        → same_host d.to m.0.host ≡ true
        → u ≡ with_event n (takes_from m.0.setup d (looks m.0.setup (side n s.history))) s → CameTo (n ∷ ns) d s t
    taken rest_ u goes m same is =
        let r : CameTo ns d v t =
        subst (λ (w : Stage). CameTo ns d w t) is
        (rest_ u (subst (AreThere ns) (sym is) (λ k below_. there k (inr below_))) goes) in
        let still : (k : ℕ) → n ≢ k → side k v.history ≡ side k s.history =
        λ k differ. side_other k n e s.history differ in
        record {
          comes = λ k x in_ there_is. first r still k x in_ there_is;
          others = λ k none. r.others k none.1 ∙ still k none.0;
          more = r.more ++ noted n e ∷ [];
          grown = r.grown ∙ sym (append_assoc r.more (noted n e ∷ []) s.history);
          rest = r.rest;
        }
      where
        e : Event
        e = takes_from m.0.setup d (looks m.0.setup (side n s.history))

        v : Stage
        v = with_event n e s

        first : CameTo ns d v t → ((k : ℕ) → n ≢ k → side k v.history ≡ side k s.history) → (k : ℕ) (x : Node)
            → In k (n ∷ ns) → slice_get s.nodes k ≡ Some x → Comes k x d s t
        first r still k x (inl own) there_is =
            let one : m.0 ≡ x = sym (node_is x m.0 (sym there_is ∙ ap (slice_get s.nodes) own ∙ m.1)) in
            let took : TookAt n m.0 d s.history t.history = record {
              later = r.more;
              at = s.history;
              mid = [];
              is = r.grown;
              front = refl;
              still = refl;
              own = r.others n apart.0 ∙ side_own n e s.history;
            } in
            record {
              takes = λ yes. subst (λ (j : ℕ). TookAt j x d s.history t.history) (sym own)
                  (subst (λ (y : Node). TookAt n y d s.history t.history) one took);
              passes = λ no. absurd (let never : true ≡ false = sym same
                  ∙ ap (λ (y : Node). same_host d.to y.host) one ∙ no in cc);
            }
        first r still k x (inr below_) there_is =
            let differ : n ≢ k = λ is. apart_from k n ns below_ apart.0 (sym is) in
            let c = r.comes k x below_ there_is in
            record {
              takes = λ yes.
                  earlier_took k x d s.history v.history t.history (noted n e ∷ []) (c.takes yes) refl (still k differ);
              passes = λ no. c.passes no ∙ still k differ;
            }

    by : Goes d ns t → (u : Stage) → Made (each (comes_to d) ns) u t → (m : (x : Node) × (slice_get s.nodes n ≡ Some x))
        → ((same_host d.to m.0.host ≡ true)
        × (u ≡ with_event n (takes_from m.0.setup d (looks m.0.setup (side n s.history))) s))
        ⊎ ((same_host d.to m.0.host ≡ false) × (u ≡ s)) → CameTo (n ∷ ns) d s t
    by rest_ u goes m (inl took) = taken rest_ u goes m took.0 took.1
    by rest_ u goes m (inr passed) = quiet rest_ u goes m passed.0 passed.1

low_of : (n k : ℕ) → In k (below n) → k < n
low_of zero k there = absurd there
low_of (suc n) k there =
    ⊎_elim (λ (front : In k (below n)). (let low = low_of n k front in omega arith)) last
    (in_either k (below n) (n ∷ []) there)
  where
    last : In k (n ∷ []) → k < suc n
    last (inl same) = omega arith
    last (inr none) = absurd none

-- ---- a delivery

pub record DeliveredBy (d : Datagram) (s t : Stage) : Type 0 where
  pub comes : (k : ℕ) (n : Node) → slice_get s.nodes k ≡ Some n → Comes k n d s t
  pub more : List Noted
  pub grown : t.history ≡ more ++ s.history
  pub rest : t ≡ record s { history = t.history }

pub delivered_one : (d : Datagram) (s t : Stage) → Made (delivers d) s t → DeliveredBy d s t
delivered_one d s t made =
    (let all = comes_each d (all_nodes s) (apart_below (length s.nodes)) s t
    (λ k there. nth_there s.nodes k (low_of (length s.nodes) k there)) made in
    record {
      comes = λ k n there. all.comes k n (in_below (length s.nodes) k (nth_low s.nodes k n there)) there;
      more = all.more;
      grown = all.grown;
      rest = all.rest;
    })

-- the first of several, and the others
pub record FirstOf (d : Datagram) (ds : List Datagram) (s t : Stage) : Type 0 where
  pub between : Stage
  pub first : DeliveredBy d s between
  pub others : Made (each delivers ds) between t

pub delivers_first : (d : Datagram) (ds : List Datagram) (s t : Stage) → Made (each delivers (d ∷ ds)) s t
    → FirstOf d ds s t
delivers_first d ds s t made =
    (let b = then_to (delivers d s) (each delivers ds) made.0 t made.1 in
    record { between = b.between; first = delivered_one d s b.between (b.front, b.made); others = (b.rest, b.goes) })

-- none
pub delivers_none : (s t : Stage) → Made (each delivers []) s t → t ≡ s
delivers_none s t made = ends_to s t made.0 made.1

-- a history only grows by deliveries, and nothing else of a stage changes
pub record GrewBy (s t : Stage) : Type 0 where
  pub more : List Noted
  pub is : t.history ≡ more ++ s.history
  pub rest : t ≡ record s { history = t.history }

pub delivers_grow : (ds : List Datagram) (s t : Stage) → Made (each delivers ds) s t → GrewBy s t
delivers_grow [] s t made =
    (let same : t ≡ s = delivers_none s t made in
    record {
      more = [];
      is = ap (λ (u : Stage). u.history) same;
      rest = same ∙ ap (λ (u : Stage). record s { history = u.history }) (sym same);
    })
delivers_grow (d ∷ ds) s t made =
    (let f = delivers_first d ds s t made in
    let r = delivers_grow ds f.between t f.others in
    record {
      more = r.more ++ f.first.more;
      is =
          r.is ∙ ap (λ (h : List Noted). r.more ++ h) f.first.grown ∙ sym (append_assoc r.more f.first.more s.history);
      rest = r.rest ∙ ap (λ (u : Stage). record u { history = t.history }) f.first.rest;
    })
