-- What a node owes, and which a poll that gives something gives or leaves owed, is given in the polls of the round.
use Rattle.std.proofs.Common.{◌≡◌, ◌≢◌, ◌⊎◌, ◌++◌, ◌==◌, ◌<◌, ℕ, zero, suc, Bool, true, false, List, [], ◌∷◌, Option}
use Rattle.std.proofs.Common.{Some, None, option_map, refl, ◌∙◌, ap, sym, subst, inl, inr, ⊎_elim, append_assoc}
use Rattle.std.proofs.Common.{append-nil, length, arith}
use Rattle.std.specs.Prelude.{slice_get, IsSomeAnd}
use Rattle.rx_model.specs.declared.event.Event.{Event}
use Rattle.rx_model.specs.declared.event.Event.TheVariants as events
use Rattle.rx_model.specs.declared.event.Noted.{Noted}
use Rattle.rx_model.specs.declared.names.Host.{Host}
use Rattle.rx_model.proofs.NameLaws.{number_itself, same_number}
use Rattle.rx_rules.specs.After.{looks}
use Rattle.rx_rules.specs.Items.{poll_answer}
use Rattle.rx_rules.specs.Rules.{Allowed, Legal}
use Rattle.rx_history.specs.Sides.{Node, side}
use Rattle.rx_law.proofs.Joint.{polled-is}
use Rattle.rx_law.specs.Worlds.{Datagram}
use Rattle.rx_plan.proofs.Callers.{side_own}
use Rattle.rx_plan.specs.Parts.{Came, To, each}
use Rattle.rx_plan.specs.Programs.{Turn, cut_there, goes, is_endless, is_over}
use Rattle.rx_plan.specs.Rounds.{Polled, Polling, clients_first, polling, polls, polls_at, polls_out}
use Rattle.rx_plan.specs.Stages.{Stage, host_at, with_event}
use Rattle.rx_rounds.proofs.Clocks.ClocksMove.{in_order, order_is}
use Rattle.rx_between.proofs.Each.EachItem.{In, in_behind, in_front}
use Rattle.rx_rounds.proofs.Keeping.{kept_turn}
use Rattle.rx_rounds.proofs.Making.{ends_to, then_to}
use Rattle.rx_rounds.proofs.Rounded.{Made}
use Rattle.rx_rounds.proofs.Two.{more, out_to, polled_is, sent}
use Rattle.rx_closing.proofs.Telling.AbortGiven.{turn_side}
use Rattle.rx_closing.proofs.Polls.PollsAct.{nth_many}
use Rattle.rx_rounds.proofs.Polls.QuietPolls.{given_grows}

nth_low : {X : Type 0} (xs : List X) (z x : X) (i : ℕ) → slice_get (z ∷ xs) i ≡ Some x → i < suc (length xs)
nth_low xs z x zero is = omega arith
nth_low [] z x (suc i) is = absurd cc
nth_low (w ∷ xs) z x (suc i) is = (let rest = nth_low xs w x i is in omega arith)

-- `Owes` holds of a node's side until a poll gives a datagram of which `Says` holds, and a node of which it holds gives
-- something
pub record IsGivenOnce (n : Node) (Owes : List Event → Type 0) (Says : Datagram → Type 0) : Type 0 where
  pub none : (h : List Event) → Legal n.setup h → Owes h → poll_answer n.setup (looks n.setup h) ≡ None → ⊥
  pub gives :
      (h : List Event) (to : Host) (bytes : List ℕ) → Legal n.setup (events.Polled (Some (to, bytes)) ∷ h) → Owes h
      → poll_answer n.setup (looks n.setup h) ≡ Some (to, bytes)
      → Says (sent n.host to bytes) ⊎ Owes (events.Polled (Some (to, bytes)) ∷ h)

module _ (j : ℕ) (n : Node) (Owes : List Event → Type 0) (Says : Datagram → Type 0)
    (once : IsGivenOnce n Owes Says) where
  -- what is found among what was given
  abbrev pub IsGiven : List Datagram → Type 0
  IsGiven ds = (d : Datagram) × In d ds × Says d × (d.from ≡ n.host)

  more_given : (ds es : List Datagram) → IsGiven ds → IsGiven (ds ++ es)
  more_given ds es f = (f.0, in_front f.0 ds es f.1, f.2, f.3)

  -- the polls of the node
  turn_gives : (v w : Polling) (s t : Stage) (es : List Noted) → Turn (polling n.host) j v s es (To (w, t))
      → v.again ≡ true → slice_get s.nodes j ≡ Some n → Legal n.setup (side j s.history) → Owes (side j s.history)
      → IsGiven w.given
  turn_gives v w s t es turn = of v s es (To (w, t)) turn refl
    where
      of : (v : Polling) (s : Stage) (es : List Noted) (out : Came (Polling × Stage))
          → Turn (polling n.host) j v s es out → out ≡ To (w, t) → v.again ≡ true
          → slice_get s.nodes j ≡ Some n → Legal n.setup (side j s.history) → Owes (side j s.history) → IsGiven w.given
      of v s es out (cut_there a b) is again there legal o = absurd cc
      of v s es out (is_over a b none) is again there legal o =
          absurd (let never : ◌≡◌ {A = Option (Unit {0})} (Some tt) None = rw again at none in cc)
      of v s es out (is_endless a b fs turn_cut long) is again there legal o = absurd cc
      of v s es out (goes a b ask e rest out_ asked allowed turn_on) is again there legal o =
          let p = polled_is e allowed.0 in
          let allows : Allowed n.setup (looks n.setup (side j s.history)) e =
          subst (λ (q : Option Node). IsSomeAnd q (λ (m : Node). Allowed m.setup (looks m.setup (side j s.history)) e))
          there allowed.1 in
          by v s e p.0 p.1 allows again legal o
          (given_grows n.host j ((polling n.host).heard v e) w (with_event j e s) t rest
          (subst (λ (z : Came (Polling × Stage)). Turn (polling n.host) j ((polling n.host).heard v e)
          (with_event j e s) rest z) is turn_on))
          (λ again_ legal_ o_.
          of ((polling n.host).heard v e) (with_event j e s) rest out_ turn_on is again_ there
          (subst (Legal n.setup) (sym (side_own j e s.history)) legal_)
          (subst Owes (sym (side_own j e s.history)) o_))
        where
          by : (v : Polling) (s : Stage) (e : Event) (got : Option (Host × List ℕ)) → e ≡ events.Polled got
              → Allowed n.setup (looks n.setup (side j s.history)) e → v.again ≡ true
              → Legal n.setup (side j s.history) → Owes (side j s.history)
              → ((gs : List Datagram) × (w.given ≡ ((polling n.host).heard v e).given ++ gs))
              → (((polling n.host).heard v e).again ≡ true → Legal n.setup (e ∷ side j s.history)
              → Owes (e ∷ side j s.history) → IsGiven w.given)
              → IsGiven w.given
          by v s e None polls_ allows again legal o grown onward =
              absurd (once.none (side j s.history) legal o
              (sym (polled-is n.setup.kind n.setup (looks n.setup (side j s.history)) None
              (subst (Allowed n.setup (looks n.setup (side j s.history))) polls_ allows))))
          by v s e (Some (to, bytes)) polls_ allows again legal o grown onward =
              let allowed_ : Allowed n.setup (looks n.setup (side j s.history)) (events.Polled (Some (to, bytes))) =
              subst (Allowed n.setup (looks n.setup (side j s.history))) polls_ allows in
              let answer : Some (to, bytes) ≡ poll_answer n.setup (looks n.setup (side j s.history)) =
              polled-is n.setup.kind n.setup (looks n.setup (side j s.history)) (Some (to, bytes)) allowed_ in
              ⊎_elim
              (λ (found : Says (sent n.host to bytes)).
              (let given_is : w.given ≡ (v.given ++ sent n.host to bytes ∷ []) ++ grown.0 =
              subst (λ (f : Event). w.given ≡ ((polling n.host).heard v f).given ++ grown.0) polls_ grown.1 in
              subst IsGiven (sym given_is)
              (more_given (v.given ++ sent n.host to bytes ∷ []) grown.0 (
                sent n.host to bytes,
                in_behind (sent n.host to bytes) v.given (sent n.host to bytes ∷ []) (inl refl),
                found,
                refl,
              ))))
              (λ (owes : Owes (events.Polled (Some (to, bytes)) ∷ side j s.history)).
              onward
              (subst (λ (f : Event). ((polling n.host).heard v f).again ≡ true) (sym polls_) again)
              (allows, legal)
              (subst (λ (f : Event). Owes (f ∷ side j s.history)) (sym polls_) owes))
              (once.gives (side j s.history) to bytes (allowed_, legal) o (sym answer))

  -- ---- all polls of a round

  -- the polls of another node
  record Passed (p q : Polled) : Type 0 where
    still : side j q.stage.history ≡ side j p.stage.history
    nodes : q.stage.nodes ≡ p.stage.nodes
    more_ : List Datagram
    given : q.given ≡ p.given ++ more_

  out_passes : (i : ℕ) (p q : Polled) (es : List Noted) → polls_out i p es (To q) → i ≢ j → Passed p q
  out_passes i p q es made apart = by (host_at p.stage i) refl
    where
      by : (o : Option Host) → host_at p.stage i ≡ o → Passed p q
      by None none =
          let same : q ≡ p = ends_to p q es (subst (λ (o : Option Host). polls_at i o p es (To q)) none made) in
          record {
            still = ap (λ (r : Polled). side j r.stage.history) same;
            nodes = ap (λ (r : Polled). r.stage.nodes) same;
            more_ = [];
            given = ap (λ (r : Polled). r.given) same ∙ sym (append-nil p.given);
          }
      by (Some from) there =
          let o = out_to i from p q es there made in
          let g = given_grows from i (more p.given) o.0 p.stage q.stage o.2.0 o.2.1 in
          record {
            still = turn_side from i j (more p.given) o.0 p.stage q.stage o.2.0 apart o.2.1;
            nodes =
                kept_turn (λ (u : Stage). u.nodes) (λ n e u. refl) (polling from) i (more p.given) o.0 p.stage q.stage
                o.2.0 o.2.1;
            more_ = g.0;
            given = o.1 ∙ g.1;
          }

  grows_on : (ns : List ℕ) (p q : Polled) → Made (each polls_out ns) p q
      → (gs : List Datagram) × (q.given ≡ p.given ++ gs)
  grows_on [] p q made =
      (let same = ends_to p q made.0 made.1 in
      ([], ap (λ (r : Polled). r.given) same ∙ sym (append-nil p.given)))
  grows_on (i ∷ ns) p q made =
      (let b = then_to (polls_out i p) (each polls_out ns) made.0 q made.1 in
      let first = one (host_at p.stage i) refl b.between b.front b.made in
      let rest = grows_on ns b.between q (b.rest, b.goes) in (
        first.0 ++ rest.0,
        rest.1 ∙ ap (λ (ds : List Datagram). ds ++ rest.0) first.1 ∙ append_assoc p.given first.0 rest.0,
      ))
    where
      one : (o : Option Host) → host_at p.stage i ≡ o → (u : Polled) (es : List Noted) → polls_out i p es (To u)
          → (gs : List Datagram) × (u.given ≡ p.given ++ gs)
      one None none u es made_ =
          let same : u ≡ p = ends_to p u es (subst (λ (o : Option Host). polls_at i o p es (To u)) none made_) in
          ([], ap (λ (r : Polled). r.given) same ∙ sym (append-nil p.given))
      one (Some from) there u es made_ =
          let o = out_to i from p u es there made_ in
          let g = given_grows from i (more p.given) o.0 p.stage u.stage o.2.0 o.2.1 in
          (g.0, o.1 ∙ g.1)

  outs_give : (ns : List ℕ) → In j ns → (p q : Polled) → Made (each polls_out ns) p q
      → slice_get p.stage.nodes j ≡ Some n → Legal n.setup (side j p.stage.history) → Owes (side j p.stage.history)
      → IsGiven q.given
  outs_give [] none p q made there legal o = absurd none
  outs_give (i ∷ ns) in_ p q made there legal o =
      (let b = then_to (polls_out i p) (each polls_out ns) made.0 q made.1 in
      by (i == j) refl in_ b.between b.front b.made (b.rest, b.goes)
      (λ low u goes_ there_ legal_ o_. outs_give ns low u q goes_ there_ legal_ o_))
    where
      by : (t : Bool) → (i == j) ≡ t → In j (i ∷ ns) → (u : Polled) (es : List Noted) → polls_out i p es (To u)
          → Made (each polls_out ns) u q
          → (In j ns → (u : Polled) → Made (each polls_out ns) u q → slice_get u.stage.nodes j ≡ Some n
          → Legal n.setup (side j u.stage.history) → Owes (side j u.stage.history) → IsGiven q.given)
          → IsGiven q.given
      by true same in_ u es made_ goes_ onward =
          let it_is : i ≡ j = same_number i j same in
          let host : host_at p.stage j ≡ Some n.host = ap (option_map (λ (m : Node). m.host)) there in
          let out = out_to j n.host p u es host (subst (λ (k : ℕ). polls_out k p es (To u)) it_is made_) in
          let found : IsGiven u.given =
          subst IsGiven (sym out.1)
          (turn_gives (more p.given) out.0 p.stage u.stage out.2.0 out.2.1 refl there legal o) in
          let g = grows_on ns u q goes_ in
          subst IsGiven (sym g.1) (more_given u.given g.0 found)
      by false other (inl same) u es made_ goes_ onward =
          absurd (let yes : (i == j) ≡ true = ap (λ (k : ℕ). k == j) (sym same) ∙ number_itself j in
          let never : true ≡ false = sym yes ∙ other in (let none : ⊥ = cc in none))
      by false other (inr low) u es made_ goes_ onward =
          let apart : i ≢ j =
          λ is. (let yes : (i == j) ≡ true = ap (λ (k : ℕ). k == j) is ∙ number_itself j in
          let never : true ≡ false = sym yes ∙ other in cc) in
          let r = out_passes i p u es made_ apart in
          onward low u goes_ (ap (λ (ms : List Node). slice_get ms j) r.nodes ∙ there)
          (subst (Legal n.setup) (sym r.still) legal) (subst Owes (sym r.still) o)

  -- in the polls of a round, where the node is there
  pub gives_in : (s : Stage) (p : Polled) → Made polls s p → slice_get s.nodes j ≡ Some n
      → Legal n.setup (side j s.history) → Owes (side j s.history) → IsGiven p.given
  gives_in s p made there legal o =
      (let m = nth_many s.nodes j n there in
      outs_give (clients_first s) (subst (In j) (sym (order_is s m.0 m.1)) (in_order m.0 j m.2))
      (record { stage = s; given = [] }) p made there legal o)
