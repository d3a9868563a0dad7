-- A turn of polls of one node: its events, and what is left of it.
use Rattle.std.proofs.Common.{◌≡◌, ◌≢◌, ◌==◌, ◌++◌, ℕ, Bool, true, false, cond, List, [], ◌∷◌, refl, ap, sym, subst}
use Rattle.std.proofs.Common.{◌∙◌, append_assoc, append-nil, inl, inr, Option, Some, None}
use Rattle.std.specs.Prelude.{slice_get, IsSomeAnd}
use Rattle.rx_model.specs.declared.event.Event.{Event}
use Rattle.rx_model.specs.declared.event.Event.TheVariants as events
use Rattle.rx_model.specs.declared.event.Noted.{Noted}
use Rattle.rx_model.specs.declared.names.Host.{Host}
use Rattle.rx_rules.specs.After.{looks}
use Rattle.rx_rules.specs.Items.{poll_answer, poll_with}
use Rattle.rx_rules.specs.Looks.{CallRecord, Looks}
use Rattle.rx_rules.specs.Records.{silenced}
use Rattle.rx_rules.specs.Rules.{Allowed, Legal}
use Rattle.rx_rules.specs.Setup.{Setup}
use Rattle.rx_rules.proofs.EveryLaws.{Every, every-append}
use Rattle.rx_history.specs.Sides.{Node, moment, side}
use Rattle.rx_law.proofs.Joint.{polled-is}
use Rattle.rx_law.specs.Worlds.{Datagram, Gave}
use Rattle.rx_events.specs.Events.{IsPolled}
use Rattle.rx_plan.proofs.Callers.{side_other, side_own}
use Rattle.rx_plan.specs.Finds.{where_true}
use Rattle.rx_plan.specs.Parts.{Came, To}
use Rattle.rx_plan.specs.Programs.{Turn, cut_there, goes, is_endless, is_over}
use Rattle.rx_plan.specs.Rounds.{Polling, polling}
use Rattle.rx_plan.specs.Stages.{Stage, with_event}
use Rattle.rx_rounds.proofs.Making.{turn_over}
use Rattle.rx_rounds.proofs.Polls.PolledOut.{IsPolledOut, polled_out, still_awake}
use Rattle.rx_rounds.proofs.Two.{polled_is, sent}

-- ---- a node that was polled out

-- it gives nothing again
pub out_again : (s : Setup) (l : Looks) → poll_answer s l ≡ None → poll_answer s (silenced l) ≡ None
out_again s l none =
    (let out = polled_out s l none in
    let same : silenced (silenced l) ≡ silenced l =
    ap (λ (ks : List CallRecord). record l { calls = ks }) (still_awake l.now (silenced l).calls out.awake) in
    ap (λ (m : Looks). poll_with s m l.strays) same ∙ none)

-- ---- events

-- from one side of a node to another each event was a poll, and nothing is due there at once
pub record OutAt (n : Node) (before behind : List Event) : Type 0 where
  pub polls : List Event
  pub are : Every IsPolled polls
  pub own : behind ≡ polls ++ before
  pub legal : Legal n.setup behind
  pub none : poll_answer n.setup (looks n.setup behind) ≡ None
  pub left : IsPolledOut n.setup (looks n.setup behind)

-- so it is of this node, and nothing else changed
pub record Out (k : ℕ) (n : Node) (s t : Stage) : Type 0 where
  pub at : OutAt n (side k s.history) (side k t.history)
  pub others : (j : ℕ) → k ≢ j → side j t.history ≡ side j s.history
  pub moments : (j : ℕ) → moment j t.history ≡ moment j s.history
  pub rest : t ≡ record s { history = t.history }

moment_polled : (k j : ℕ) (got : Option (Host × List ℕ)) (s : Stage)
    → moment j (with_event k (events.Polled got) s).history ≡ moment j s.history
moment_polled k j got s = by (k == j)
  where
    by : (b : Bool) → cond b (moment j s.history) (moment j s.history) ≡ moment j s.history
    by true = refl
    by false = refl

-- it was asked once
out_none : (k : ℕ) (n : Node) (s : Stage) → Legal n.setup (events.Polled None ∷ side k s.history)
    → poll_answer n.setup (looks n.setup (side k s.history)) ≡ None
    → Out k n s (with_event k (events.Polled None) s)
out_none k n s legal none =
    (let own = side_own k (events.Polled None) s.history in
    let l : Looks = looks n.setup (side k s.history) in
    record {
      at = record {
        polls = events.Polled None ∷ [];
        are = (tt, tt);
        own = own;
        legal = subst (Legal n.setup) (sym own) legal;
        none = ap (λ (h : List Event). poll_answer n.setup (looks n.setup h)) own ∙ out_again n.setup l none;
        left = subst (λ (h : List Event). IsPolledOut n.setup (looks n.setup h)) (sym own) (polled_out n.setup l none);
      };
      others = λ j apart. side_other j k (events.Polled None) s.history apart;
      moments = λ j. moment_polled k j None s;
      rest = refl;
    })

-- and before that for something else
out_more : (k : ℕ) (n : Node) (got : Option (Host × List ℕ)) (s t : Stage)
    → Out k n (with_event k (events.Polled got) s) t → Out k n s t
out_more k n got s t o =
    record {
      at = record {
        polls = o.at.polls ++ events.Polled got ∷ [];
        are = every-append IsPolled o.at.polls (events.Polled got ∷ []) o.at.are (tt, tt);
        own = o.at.own ∙ ap (λ (h : List Event). o.at.polls ++ h) (side_own k (events.Polled got) s.history)
            ∙ sym (append_assoc o.at.polls (events.Polled got ∷ []) (side k s.history));
        legal = o.at.legal;
        none = o.at.none;
        left = o.at.left;
      };
      others = λ j apart. o.others j apart ∙ side_other j k (events.Polled got) s.history apart;
      moments = λ j. o.moments j ∙ moment_polled k j got s;
      rest = o.rest;
    }

-- ---- a turn

-- what was given before was given
pub gave_behind : (to : Host) (bytes : List ℕ) (later h : List Event) → Gave to bytes h → Gave to bytes (later ++ h)
gave_behind to bytes [] h gave = gave
gave_behind to bytes (e ∷ later) h gave = inr (gave_behind to bytes later h gave)

-- a datagram of this host that one of these events gave
abbrev pub IsGivenBy : Host → List Event → Datagram → Type 0
IsGivenBy from h d = (d.from ≡ from) × Gave d.to d.bytes h

-- what the polls of a node make, from one history to another, of what they gave
pub record NodeTurn (Res : List Event → List Event → List Datagram → Type 0) (from : Host) (k : ℕ) (n : Node)
    (given final : List Datagram) (s t : Stage) : Type 0 where
  pub out : Out k n s t
  pub gave : List Datagram
  pub more : final ≡ given ++ gave
  pub given_by : Every (IsGivenBy from (side k t.history)) gave
  pub res : Res (side k s.history) (side k t.history) gave

module _ (from : Host) (k : ℕ) (n : Node) (w : Polling) (t : Stage)
    (Res : List Event → List Event → List Datagram → Type 0)
    (nothing : (h : List Event) → Legal n.setup h → poll_answer n.setup (looks n.setup h) ≡ None
    → Res h (events.Polled None ∷ h) [])
    (something : (h later : List Event) (to : Host) (bytes : List ℕ) (ds : List Datagram) → Legal n.setup h
    → poll_answer n.setup (looks n.setup h) ≡ Some (to, bytes)
    → Res (events.Polled (Some (to, bytes)) ∷ h) later ds → Res h later (sent from to bytes ∷ ds)) where
  -- from here on
  abbrev From : Polling → Stage → Type 0
  From v s = v.again ≡ true → slice_get s.nodes k ≡ Some n → Legal n.setup (side k s.history)
      → NodeTurn Res from k n v.given w.given s t

  one : (v : Polling) (s : Stage) (got : Option (Host × List ℕ)) (es : List Noted) → v.again ≡ true
      → slice_get s.nodes k ≡ Some n → Legal n.setup (events.Polled got ∷ side k s.history)
      → got ≡ poll_answer n.setup (looks n.setup (side k s.history))
      → From ((polling from).heard v (events.Polled got)) (with_event k (events.Polled got) s)
      → Turn (polling from) k ((polling from).heard v (events.Polled got)) (with_event k (events.Polled got) s) es
      (To (w, t)) → NodeTurn Res from k n v.given w.given s t
  one v s None es again there legal answer next turn =
      let over = turn_over (polling from) k ((polling from).heard v (events.Polled None)) w
      (with_event k (events.Polled None) s) t es refl turn in
      let own = side_own k (events.Polled None) s.history in
      subst (λ (u : Stage). NodeTurn Res from k n v.given w.given s u) (sym over.1)
      (record {
        out = out_none k n s legal (sym answer);
        gave = [];
        more = ap (λ (x : Polling). x.given) over.0 ∙ sym (append-nil v.given);
        given_by = tt;
        res = subst (λ (h : List Event). Res (side k s.history) h []) (sym own)
            (nothing (side k s.history) legal.1 (sym answer));
      })
  one v s (Some d) es again there legal answer next turn =
      let own = side_own k (events.Polled (Some d)) s.history in
      let rest = next again there (subst (Legal n.setup) (sym own) legal) in
      record {
        out = out_more k n (Some d) s t rest.out;
        gave = sent from d.0 d.1 ∷ rest.gave;
        more = rest.more ∙ append_assoc v.given (sent from d.0 d.1 ∷ []) rest.gave;
        given_by = (
          (
            refl,
            subst (Gave d.0 d.1) (sym (rest.out.at.own ∙ ap (λ (h : List Event). rest.out.at.polls ++ h) own))
                (gave_behind d.0 d.1 rest.out.at.polls (events.Polled (Some d) ∷ side k s.history) (inl (refl, refl))),
          ),
          rest.given_by,
        );
        res = something (side k s.history) (side k t.history) d.0 d.1 rest.gave legal.1 (sym answer)
            (subst (λ (h : List Event). Res h (side k t.history) rest.gave) own rest.res);
      }

  turn_from : (v : Polling) (s : Stage) (es : List Noted) (out : Came (Polling × Stage))
      → Turn (polling from) k v s es out → out ≡ To (w, t) → From v s
  turn_from v s es out (cut_there a b) is = λ again there legal. absurd cc
  turn_from v s es out (is_over a b none) is = λ again there legal. absurd (asks v.again again none)
    where
      asks : (b : Bool) → b ≡ true → ◌≡◌ {A = Option (Unit {0})} (where_true b tt) None → ⊥
      asks true is none = cc
      asks false is none = cc
  turn_from v s es out (goes a b ask e rest o asked allowed turn_on) is = λ again there legal.
      let p = polled_is e allowed.0 in
      let next : From ((polling from).heard v e) (with_event k e s) =
      turn_from ((polling from).heard v e) (with_event k e s) rest o turn_on is in
      let may : Allowed n.setup (looks n.setup (side k s.history)) (events.Polled p.0) =
      subst (λ (f : Event). Allowed n.setup (looks n.setup (side k s.history)) f) p.1
      (subst (λ (m : Option Node). IsSomeAnd m (λ (m : Node). Allowed m.setup (looks m.setup (side k s.history)) e))
      there allowed.1) in
      one v s p.0 rest again there (may, legal)
      (polled-is n.setup.kind n.setup (looks n.setup (side k s.history)) p.0 may)
      (subst (λ (f : Event). From ((polling from).heard v f) (with_event k f s)) p.1 next)
      (subst (λ (f : Event). Turn (polling from) k ((polling from).heard v f) (with_event k f s) rest (To (w, t))) p.1
      (subst (λ (x : Came (Polling × Stage)). Turn (polling from) k ((polling from).heard v e)
      (with_event k e s) rest x)
      is turn_on))
  turn_from v s es out (is_endless a b fs turn_cut long) is = λ again there legal. absurd cc

  -- a turn of polls, from the first on
  pub node_turn : (given : List Datagram) (s : Stage) (es : List Noted) → slice_get s.nodes k ≡ Some n
      → Legal n.setup (side k s.history)
      → Turn (polling from) k (record { again = true; given = given }) s es (To (w, t))
      → NodeTurn Res from k n given w.given s t
  node_turn given s es there legal turn =
      turn_from (record { again = true; given = given }) s es (To (w, t)) turn refl refl there legal
