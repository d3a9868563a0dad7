-- A server that owes an ABORT to the latest call of a channel gives it in the polls of the next round.
use Rattle.std.proofs.Common.{◌≡◌, ◌≢◌, ◌++◌, ◌==◌, ℕ, Bool, true, false, List, [], ◌∷◌, Option, Some, None, option_map}
use Rattle.std.proofs.Common.{refl, ◌∙◌, ap, sym, subst, inl, inr, ⊎_elim, append_assoc, append-nil}
use Rattle.std.specs.Prelude.{drop, slice_get, IsSomeAnd}
use Rattle.rx_model.specs.declared.event.Event.{Event}
use Rattle.rx_model.specs.declared.event.Event.TheVariants as events
use Rattle.rx_model.specs.declared.event.Noted.{Noted}
use Rattle.rx_model.specs.declared.names.CallName.{CallName}
use Rattle.rx_model.specs.declared.names.Host.{Host}
use Rattle.rx_model.proofs.NameLaws.{number_itself, same_number}
use Rattle.rx_rules.specs.After.{looks}
use Rattle.rx_rules.specs.Items.{poll_answer}
use Rattle.rx_rules.specs.Rules.{Allowed, Legal}
use Rattle.rx_rules.specs.Setup.{FitsSetup}
use Rattle.rx_history.specs.Sides.{Node, side}
use Rattle.rx_law.proofs.Joint.{polled-is}
use Rattle.rx_law.specs.Worlds.{Datagram}
use Rattle.rx_plan.proofs.Callers.{side_other}
use Rattle.rx_plan.specs.Parts.{Came, To, each}
use Rattle.rx_plan.specs.Programs.{Turn, cut_there, goes, is_endless, is_over}
use Rattle.rx_plan.specs.Network.{all_nodes}
use Rattle.rx_plan.specs.Rounds.{Polled, Polling, clients_first, polling, polls, polls_at, polls_out}
use Rattle.rx_plan.specs.Stages.{Stage, host_at, with_event}
use Rattle.rx_between.proofs.Each.EachItem.{In, in_behind, in_front}
use Rattle.rx_rounds.proofs.Keeping.{kept_turn}
use Rattle.rx_rounds.proofs.Making.{ends_to, then_to, to_is}
use Rattle.rx_rounds.proofs.Rounded.{Made}
use Rattle.rx_rounds.proofs.Two.{more, out_to, polled_is, sent}
use Rattle.rx_closing.proofs.Telling.AbortOwed.{AbortOf, Owing, owes_none, poll_owes}
use Rattle.rx_rounds.proofs.Polls.QuietPolls.{given_grows}

-- ---- the polls of the server

-- another node's side stays
pub turn_side : (from : Host) (node j : ℕ) (v w : Polling) (s t : Stage) (es : List Noted) → node ≢ j
    → Turn (polling from) node v s es (To (w, t)) → side j t.history ≡ side j s.history
turn_side from node j v w s t es apart turn = of v s es (To (w, t)) turn refl
  where
    of : (v : Polling) (s : Stage) (es : List Noted) (out : Came (Polling × Stage))
        → Turn (polling from) node v s es out
        → out ≡ To (w, t) → side j t.history ≡ side j s.history
    of v s es out (cut_there a b) is = absurd cc
    of v s es out (is_over a b none) is =
        ap (λ (z : Polling × Stage). side j z.1.history) (sym (to_is (v, s) (w, t) is))
    of v s es out (goes a b ask e rest o asked allowed turn_on) is =
        of ((polling from).heard v e) (with_event node e s) rest o turn_on is ∙ side_other j node e s.history apart
    of v s es out (is_endless a b fs turn_cut long) is = absurd cc

module _ (server : Node) (c : CallName) (fits : FitsSetup server.setup) where
  -- what is found among what was given
  abbrev pub Found : List Datagram → Type 0
  Found ds = (d : Datagram) × In d ds × AbortOf server.setup c d × (d.from ≡ server.host)

  more_found : (ds es : List Datagram) → Found ds → Found (ds ++ es)
  more_found ds es f = (f.0, in_front f.0 ds es f.1, f.2, f.3)

  -- a server that owes the ABORT gives it
  turn_aborts : (v w : Polling) (s t : Stage) (es : List Noted) → Turn (polling server.host) 0 v s es (To (w, t))
      → v.again ≡ true → slice_get s.nodes 0 ≡ Some server → Legal server.setup (side 0 s.history)
      → Owing c (looks server.setup (side 0 s.history)) → Found w.given
  turn_aborts v w s t es turn = of v s es (To (w, t)) turn refl
    where
      of : (v : Polling) (s : Stage) (es : List Noted) (out : Came (Polling × Stage))
          → Turn (polling server.host) 0 v s es out → out ≡ To (w, t) → v.again ≡ true
          → slice_get s.nodes 0 ≡ Some server → Legal server.setup (side 0 s.history)
          → Owing c (looks server.setup (side 0 s.history)) → Found w.given
      of v s es out (cut_there a b) is again there legal o = absurd cc
      of v s es out (is_over a b none) is again there legal o =
          absurd (let never : ◌≡◌ {A = Option (Unit {0})} (Some tt) None = rw again at none in cc)
      of v s es out (is_endless a b fs turn_cut long) is again there legal o = absurd cc
      of v s es out (goes a b ask e rest out_ asked allowed turn_on) is again there legal o =
          let p = polled_is e allowed.0 in
          let allows : Allowed server.setup (looks server.setup (side 0 s.history)) e =
          subst (λ (q : Option Node). IsSomeAnd q (λ (n : Node). Allowed n.setup (looks n.setup (side 0 s.history)) e))
          there allowed.1 in
          by v s e p.0 p.1 allows again legal o
          (given_grows server.host 0 ((polling server.host).heard v e) w (with_event 0 e s) t rest
          (subst (λ (z : Came (Polling × Stage)). Turn (polling server.host) 0 ((polling server.host).heard v e)
          (with_event 0 e s) rest z) is turn_on))
          (λ again_ legal_ o_.
          of ((polling server.host).heard v e) (with_event 0 e s) rest out_ turn_on is again_ there legal_ o_)
        where
          by : (v : Polling) (s : Stage) (e : Event) (got : Option (Host × List ℕ)) → e ≡ events.Polled got
              → Allowed server.setup (looks server.setup (side 0 s.history)) e → v.again ≡ true
              → Legal server.setup (side 0 s.history) → Owing c (looks server.setup (side 0 s.history))
              → ((gs : List Datagram) × (w.given ≡ ((polling server.host).heard v e).given ++ gs))
              → (((polling server.host).heard v e).again ≡ true → Legal server.setup (e ∷ side 0 s.history)
              → Owing c (looks server.setup (e ∷ side 0 s.history)) → Found w.given)
              → Found w.given
          by v s e None polls_ allows again legal o grown onward =
              absurd (owes_none server.setup (side 0 s.history) c legal
              (sym (polled-is server.setup.kind server.setup (looks server.setup (side 0 s.history)) None
              (subst (Allowed server.setup (looks server.setup (side 0 s.history))) polls_ allows))) o)
          by v s e (Some (to, bytes)) polls_ allows again legal o grown onward =
              let allowed_ : Allowed server.setup (looks server.setup (side 0 s.history))
              (events.Polled (Some (to, bytes))) =
              subst (Allowed server.setup (looks server.setup (side 0 s.history))) polls_ allows in
              let answer : Some (to, bytes) ≡ poll_answer server.setup (looks server.setup (side 0 s.history)) =
              polled-is server.setup.kind server.setup (looks server.setup (side 0 s.history)) (Some (to, bytes))
              allowed_ in
              ⊎_elim
              (λ (found : AbortOf server.setup c (sent server.host to bytes)).
              (let given_is : w.given ≡ (v.given ++ sent server.host to bytes ∷ []) ++ grown.0 =
              subst (λ (f : Event). w.given ≡ ((polling server.host).heard v f).given ++ grown.0) polls_ grown.1 in
              subst Found (sym given_is)
              (more_found (v.given ++ sent server.host to bytes ∷ []) grown.0 (
                sent server.host to bytes,
                in_behind (sent server.host to bytes) v.given (sent server.host to bytes ∷ []) (inl refl),
                found,
                refl,
              ))))
              (λ (owes : Owing c (looks server.setup (events.Polled (Some (to, bytes)) ∷ side 0 s.history))).
              onward
              (subst (λ (f : Event). ((polling server.host).heard v f).again ≡ true) (sym polls_) again)
              (allows, legal)
              (subst (λ (f : Event). Owing c (looks server.setup (f ∷ side 0 s.history))) (sym polls_) owes))
              (poll_owes server.setup (side 0 s.history) c server.host to bytes fits (allowed_, legal) (sym answer) o)

  -- ---- all polls of a round

  -- the polls of another node
  record Passed (p q : Polled) : Type 0 where
    still : side 0 q.stage.history ≡ side 0 p.stage.history
    nodes : q.stage.nodes ≡ p.stage.nodes
    more_ : List Datagram
    given : q.given ≡ p.given ++ more_

  out_passes : (j : ℕ) (p q : Polled) (es : List Noted) → polls_out j p es (To q) → j ≢ 0 → Passed p q
  out_passes j p q es made apart = by (host_at p.stage j) refl
    where
      by : (o : Option Host) → host_at p.stage j ≡ o → Passed p q
      by None none =
          let same : q ≡ p = ends_to p q es (subst (λ (o : Option Host). polls_at j o p es (To q)) none made) in
          record {
            still = ap (λ (r : Polled). side 0 r.stage.history) same;
            nodes = ap (λ (r : Polled). r.stage.nodes) same;
            more_ = [];
            given = ap (λ (r : Polled). r.given) same ∙ sym (append-nil p.given);
          }
      by (Some from) there =
          let o = out_to j from p q es there made in
          let g = given_grows from j (more p.given) o.0 p.stage q.stage o.2.0 o.2.1 in
          record {
            still = turn_side from j 0 (more p.given) o.0 p.stage q.stage o.2.0 apart o.2.1;
            nodes =
                kept_turn (λ (u : Stage). u.nodes) (λ n e u. refl) (polling from) j (more p.given) o.0 p.stage q.stage
                o.2.0 o.2.1;
            more_ = g.0;
            given = o.1 ∙ g.1;
          }

  grows_on : (ns : List ℕ) (p q : Polled) → Made (each polls_out ns) p q
      → (gs : List Datagram) × (q.given ≡ p.given ++ gs)
  grows_on [] p q made =
      (let same = ends_to p q made.0 made.1 in
      ([], ap (λ (r : Polled). r.given) same ∙ sym (append-nil p.given)))
  grows_on (n ∷ ns) p q made =
      (let b = then_to (polls_out n p) (each polls_out ns) made.0 q made.1 in
      let first = one (host_at p.stage n) refl b.between b.front b.made in
      let rest = grows_on ns b.between q (b.rest, b.goes) in (
        first.0 ++ rest.0,
        rest.1 ∙ ap (λ (ds : List Datagram). ds ++ rest.0) first.1 ∙ append_assoc p.given first.0 rest.0,
      ))
    where
      one : (o : Option Host) → host_at p.stage n ≡ o → (u : Polled) (es : List Noted) → polls_out n p es (To u)
          → (gs : List Datagram) × (u.given ≡ p.given ++ gs)
      one None none u es made_ =
          let same : u ≡ p = ends_to p u es (subst (λ (o : Option Host). polls_at n o p es (To u)) none made_) in
          ([], ap (λ (r : Polled). r.given) same ∙ sym (append-nil p.given))
      one (Some from) there u es made_ =
          let o = out_to n from p u es there made_ in
          let g = given_grows from n (more p.given) o.0 p.stage u.stage o.2.0 o.2.1 in
          (g.0, o.1 ∙ g.1)

  outs_abort : (ns : List ℕ) → In 0 ns → (p q : Polled) → Made (each polls_out ns) p q
      → slice_get p.stage.nodes 0 ≡ Some server → Legal server.setup (side 0 p.stage.history)
      → Owing c (looks server.setup (side 0 p.stage.history)) → Found q.given
  outs_abort [] none p q made there legal o = absurd none
  outs_abort (n ∷ ns) in_ p q made there legal o =
      (let b = then_to (polls_out n p) (each polls_out ns) made.0 q made.1 in
      by (n == 0) refl in_ b.between b.front b.made (b.rest, b.goes)
      (λ low u goes_ there_ legal_ o_. outs_abort ns low u q goes_ there_ legal_ o_))
    where
      by : (t : Bool) → (n == 0) ≡ t → In 0 (n ∷ ns) → (u : Polled) (es : List Noted) → polls_out n p es (To u)
          → Made (each polls_out ns) u q
          → (In 0 ns → (u : Polled) → Made (each polls_out ns) u q → slice_get u.stage.nodes 0 ≡ Some server
          → Legal server.setup (side 0 u.stage.history) → Owing c (looks server.setup (side 0 u.stage.history))
          → Found q.given)
          → Found q.given
      by true same in_ u es made_ goes_ onward =
          let zero_is : n ≡ 0 = same_number n 0 same in
          let host : host_at p.stage 0 ≡ Some server.host = ap (option_map (λ (m : Node). m.host)) there in
          let out = out_to 0 server.host p u es host (subst (λ (j : ℕ). polls_out j p es (To u)) zero_is made_) in
          let found : Found u.given =
          subst Found (sym out.1)
          (turn_aborts (more p.given) out.0 p.stage u.stage out.2.0 out.2.1 refl there legal o) in
          let g = grows_on ns u q goes_ in
          subst Found (sym g.1) (more_found u.given g.0 found)
      by false other (inl same) u es made_ goes_ onward =
          absurd (let yes : (n == 0) ≡ true = ap (λ (j : ℕ). j == 0) (sym same) ∙ number_itself 0 in
          let never : true ≡ false = sym yes ∙ other in (let none : ⊥ = cc in none))
      by false other (inr low) u es made_ goes_ onward =
          let apart : n ≢ 0 =
          λ is. (let yes : (n == 0) ≡ true = ap (λ (j : ℕ). j == 0) is ∙ number_itself 0 in
          let never : true ≡ false = sym yes ∙ other in cc) in
          let r = out_passes n p u es made_ apart in
          onward low u goes_ (ap (λ (ms : List Node). slice_get ms 0) r.nodes ∙ there)
          (subst (Legal server.setup) (sym r.still) legal)
          (subst (λ (h : List Event). Owing c (looks server.setup h)) (sym r.still) o)

  pub gives_abort : (s : Stage) (p : Polled) → Made polls s p → slice_get s.nodes 0 ≡ Some server
      → Legal server.setup (side 0 s.history) → Owing c (looks server.setup (side 0 s.history)) → Found p.given
  gives_abort s p made there legal o =
      outs_abort (clients_first s) (in_behind 0 (drop 1 (all_nodes s)) (0 ∷ []) (inl refl))
      (record { stage = s; given = [] }) p made there legal o
