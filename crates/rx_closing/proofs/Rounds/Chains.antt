-- Rounds one after another, in each of which a call lives: what rounds made behind which a client's call still lives.
use Rattle.std.specs.List.{find, list_any}
use Rattle.std.specs.Prelude.{slice_get}
use Rattle.std.proofs.Common.{◌≡◌, ◌+◌, ◌++◌, ◌||◌, nat_lt, ℕ, zero, suc, Bool, true, false, List, [], ◌∷◌, Option}
use Rattle.std.proofs.Common.{Some, None, refl, ap, sym, subst, ◌∙◌, append_assoc, arith, cond, ◌==◌, length}
use Rattle.std.proofs.lemmas.Bool.{lt-ltb}
use Rattle.rx_model.specs.declared.answers.End.{End}
use Rattle.rx_model.specs.declared.event.Event.{Event}
use Rattle.rx_model.specs.declared.event.Event.TheVariants as events
use Rattle.rx_model.specs.declared.event.Noted.{Noted}
use Rattle.rx_model.specs.declared.names.CallName.{CallName}
use Rattle.rx_model.specs.declared.names.Host.{Host}
use Rattle.rx_model.specs.Names.{same_name}
use Rattle.rx_rules.specs.After.{looks}
use Rattle.rx_rules.specs.Life.{Life, is_live}
use Rattle.rx_rules.specs.Life as lives
use Rattle.rx_rules.specs.Looks.{CallRecord, call_at, is_call}
use Rattle.rx_rules.specs.Rules.{Legal}
use Rattle.rx_rules.specs.Setup.{Setup, Client, FitsSetup}
use Rattle.rx_rules.specs.Slots.{count_live}
use Rattle.rx_rules.proofs.EveryLaws.{Every}
use Rattle.rx_history.specs.Sides.{Node, side}
use Rattle.rx_history.specs.Streams.{end_at, end_by, end_of_life}
use Rattle.rx_law.specs.Worlds.{Datagram}
use Rattle.rx_wire.specs.Turns.{noted}
use Rattle.rx_events.specs.Waits.{any_lives, lives_at, over_nodes}
use Rattle.rx_asks.specs.History.{IsCalled}
use Rattle.rx_jobs.specs.Handlers.{Handlers}
use Rattle.rx_plan.specs.Parts.{To, Then, by_test, ends}
use Rattle.rx_plan.specs.Rounds.{round, rounds}
use Rattle.rx_plan.specs.Stages.{Stage}
use Rattle.rx_plan.proofs.ClientEnds.{IsCalledOr, IsThere, calls_called, end_stays, there_stays}
use Rattle.rx_plan.proofs.Bags.{behind}
use Rattle.rx_rounds.proofs.Making.{ends_to, then_to}
use Rattle.rx_rounds.proofs.Rounded.{RoundMade, round_to}
use Rattle.rx_closing.specs.Living.{call_lives_at, looks_of}
use Rattle.rx_closing.proofs.Rounds.RoundEvents.{Carries, calls_lead, deliveries_lead, polls_lead, serve_lead}
use Rattle.rx_closing.proofs.Rounds.RoundEvents.{settles_lead}
use Rattle.rx_history.proofs.Laws.EnteredLaw.{legal-before}
use Rattle.rx_law.proofs.Law.{side-split}

-- ---- rounds one after another

-- so many rounds, from one stage to another
pub data Chain (g : Handlers) : ℕ → Stage → Stage → Type 0 where
  chain_none : (s : Stage) → Chain g 0 s s
  chain_more : (n : ℕ) (s t u : Stage) → RoundMade g s t → Chain g n t u → Chain g (suc n) s u

-- ---- a call that lives

-- one of the calls lives
live_some : (p : CallRecord → Bool) (ks : List CallRecord) (k : CallRecord) → find p ks ≡ Some k
    → is_live k.life ≡ true → nat_lt 0 (count_live ks) ≡ true
live_some p [] k there living = absurd cc
live_some p (j ∷ ks) k there living =
    by (p j) (is_live j.life) refl there (λ rest. live_some p ks k rest living)
  where
    some_is : (a b : CallRecord) → ◌≡◌ {A = Option CallRecord} (Some a) (Some b) → a ≡ b
    some_is a b same = cc

    by : (here alive : Bool) → is_live j.life ≡ alive → cond here (Some j) (find p ks) ≡ Some k
        → (find p ks ≡ Some k → nat_lt 0 (count_live ks) ≡ true)
        → nat_lt 0 (cond alive (suc (count_live ks)) (count_live ks)) ≡ true
    by here true is found again = lt-ltb 0 (suc (count_live ks)) (omega arith)
    by true false is found again =
        (let alive : is_live j.life ≡ true =
        subst (λ (r : CallRecord). is_live r.life ≡ true) (sym (some_is j k found)) living in
        absurd (let no : false ≡ true = sym is ∙ alive in cc))
    by false false is found again = again found

-- where a call lives at a node, the node has a live one
pub live_there : (s : Stage) (c : CallName) (k : ℕ) (n : Node) → call_lives_at s c k n ≡ true
    → lives_at s.history k n ≡ true
live_there s c k n living = of (call_at (looks_of s k n) c) refl living
  where
    of : (o : Option CallRecord) → call_at (looks_of s k n) c ≡ o → is_call (λ r. is_live r.life) o ≡ true
        → lives_at s.history k n ≡ true
    of None there living = absurd cc
    of (Some r) there living =
        live_some (λ j. same_name j.name c) (looks_of s k n).calls r there living

any_from : (f : ℕ → Node → Bool) (ns : List Node) (k j : ℕ) (n : Node) → slice_get ns j ≡ Some n
    → f (k + j) n ≡ true → list_any (λ b. b) (over_nodes f k ns) ≡ true
any_from f [] k j n there holds = absurd cc
any_from f (m ∷ ns) k zero n there holds =
    (let same : m ≡ n = cc in
    let at : k + 0 ≡ k = omega arith in
    let here : f k m ≡ true = (λ i. f (sym at i) (same i)) ∙ holds in
    rw here refl)
any_from f (m ∷ ns) k (suc j) n there holds =
    (let at : suc k + j ≡ k + suc j = omega arith in
    let rest : list_any (λ b. b) (over_nodes f (suc k) ns) ≡ true =
    any_from f ns (suc k) j n there (ap (λ (i : ℕ). f i n) at ∙ holds) in
    by (f k m) rest)
  where
    by : (b : Bool) → list_any (λ b. b) (over_nodes f (suc k) ns) ≡ true
        → (b || list_any (λ b. b) (over_nodes f (suc k) ns)) ≡ true
    by true rest = refl
    by false rest = rest

-- so a call lives at some node
pub any_there : (s : Stage) (c : CallName) (k : ℕ) (n : Node) → slice_get s.nodes k ≡ Some n
    → call_lives_at s c k n ≡ true → any_lives s.nodes s.history ≡ true
any_there s c k n there living =
    (let at : 0 + k ≡ k = omega arith in
    any_from (lives_at s.history) s.nodes 0 k n there
    (ap (λ (i : ℕ). lives_at s.history i n) at ∙ live_there s c k n living))

-- ---- what rounds made

-- rounds behind which a call lives were all made
pub chain_of : (g : Handlers) (n : ℕ) (s t : Stage) (fs : List Noted) → rounds g n s fs (To t)
    → (c : CallName) (k : ℕ) (client : Node) → slice_get t.nodes k ≡ Some client → call_lives_at t c k client ≡ true
    → Chain g n s t
chain_of g zero s t fs made c k client there living =
    subst (λ (u : Stage). Chain g 0 s u) (sym (ends_to s t fs made)) (chain_none s)
chain_of g (suc n) s t fs made c k client there living =
    by (any_lives s.nodes s.history) refl made (λ u es m. chain_of g n u t es m c k client there living)
  where
    by : (b : Bool) → any_lives s.nodes s.history ≡ b
        → by_test b (Then (round g s) (rounds g n)) (ends (To s)) fs (To t)
        → ((u : Stage) (es : List Noted) → rounds g n u es (To t) → Chain g n u t) → Chain g (suc n) s t
    by false none m again =
        (let same : t ≡ s = ends_to s t fs m in
        let some : any_lives s.nodes s.history ≡ true =
        subst (λ (u : Stage). any_lives u.nodes u.history ≡ true) same (any_there t c k client there living) in
        absurd (let no : false ≡ true = sym none ∙ some in cc))
    by true some m again =
        (let b = then_to (round g s) (rounds g n) fs t m in
        chain_more n s b.between t (round_to g s b.between b.front b.made) (again b.between b.rest b.goes))

-- a chain in two parts
pub record ChainSplit (g : Handlers) (m n : ℕ) (s t : Stage) : Type 0 where
  pub middle : Stage
  pub front : Chain g m s middle
  pub rest : Chain g n middle t

pub chain_split : (g : Handlers) (m n all : ℕ) (s t : Stage) → all ≡ m + n → Chain g all s t → ChainSplit g m n s t
chain_split g zero n all s t is chain =
    (let same : all ≡ n = omega arith in
    record { middle = s; front = chain_none s; rest = subst (λ (k : ℕ). Chain g k s t) same chain })
chain_split g (suc m) n all s t is (chain_none z) = absurd (omega arith)
chain_split g (suc m) n all s t is (chain_more k v u w first others) =
    (let less : k ≡ m + n = omega arith in
    let b = chain_split g m n k u w less others in
    record { middle = b.middle; front = chain_more m v u b.middle first b.front; rest = b.rest })

-- and two parts as one
pub chain_both : (g : Handlers) (m n : ℕ) (s t u : Stage) → Chain g m s t → Chain g n t u → Chain g (m + n) s u
chain_both g m n s t u (chain_none z) rest =
    (let same : n ≡ 0 + n = omega arith in subst (λ (k : ℕ). Chain g k z u) same rest)
chain_both g m n s t u (chain_more k w v z first others) rest =
    (let same : suc (k + n) ≡ suc k + n = omega arith in
    subst (λ (j : ℕ). Chain g j w u) same (chain_more (k + n) w v u first (chain_both g k n v z u others rest)))

-- ---- histories grow

-- events were added
pub record Adds (h later : List Noted) : Type 0 where
  pub more : List Noted
  pub is : later ≡ more ++ h

pub adds_none : (h : List Noted) → Adds h h
adds_none h = record { more = []; is = refl }

pub adds_one : (h later : List Noted) (e : Noted) → Adds h later → Adds h (e ∷ later)
adds_one h later e a = record { more = e ∷ a.more; is = ap (λ (es : List Noted). e ∷ es) a.is }

pub adds_both : (h i j : List Noted) → Adds h i → Adds i j → Adds h j
adds_both h i j a b =
    record {
      more = b.more ++ a.more;
      is = b.is ∙ ap (λ (es : List Noted). b.more ++ es) a.is ∙ sym (append_assoc b.more a.more h);
    }

-- nothing is said of datagrams
abbrev pub AnyAt : List Noted → Datagram → Type 0
AnyAt h d = Unit {0}

pub any_all : (h : List Noted) (ds : List Datagram) → Every (AnyAt h) ds
any_all h [] = tt
any_all h (d ∷ ds) = (tt, any_all h ds)

-- each event is only added
pub adds_carried : (nodes : List Node) (h : List Noted) → Carries nodes AnyAt (Adds h)
adds_carried nodes h =
    record {
      stays = λ i e d there. tt;
      polls = λ i node n got next a. adds_one h i (noted node (events.Polled got)) a;
      gives = λ i node n to bytes next a. tt;
      takes = λ i node n d e next is to there a. adds_one h i (noted node e) a;
      clocks = λ i node n now e next is a. adds_one h i (noted node e) a;
      serves = λ i n asked e next is a. adds_one h i (noted 0 e) a;
      calls = λ i node n asked e next is a. adds_one h i (noted node e) a;
    }

-- the parts of a round add events, and leave the nodes
pub record RoundAdds (g : Handlers) (s t : Stage) (r : RoundMade g s t) : Type 0 where
  pub polled : Adds s.history r.polled.stage.history
  pub delivered : Adds r.polled.stage.history r.delivered.history
  pub served : Adds r.delivered.history r.served.history
  pub called : Adds r.served.history r.called.history
  pub over : Adds r.called.history t.history
  pub polled_nodes : r.polled.stage.nodes ≡ s.nodes
  pub delivered_nodes : r.delivered.nodes ≡ s.nodes
  pub served_nodes : r.served.nodes ≡ s.nodes
  pub called_nodes : r.called.nodes ≡ s.nodes
  pub nodes : t.nodes ≡ s.nodes

pub round_adds : (g : Handlers) (s t : Stage) (r : RoundMade g s t) → RoundAdds g s t r
round_adds g s t r =
    let a = polls_lead s.nodes AnyAt (Adds s.history) (adds_carried s.nodes s.history) s
    (record { nodes_are = refl; so = adds_none s.history }) r.polls_are.0 r.polled r.polls_are.1 in
    let b = deliveries_lead s.nodes AnyAt (Adds r.polled.stage.history)
    (adds_carried s.nodes r.polled.stage.history) r.polled.given r.polled.stage
    (record {
      at = record { nodes_are = a.at.nodes_are; so = adds_none r.polled.stage.history };
      given = any_all r.polled.stage.history r.polled.given;
    }) r.delivers_are.0 r.delivered r.delivers_are.1 in
    let d = serve_lead s.nodes AnyAt (Adds r.delivered.history) (adds_carried s.nodes r.delivered.history) g r.delivered
    (record { nodes_are = b.at.nodes_are; so = adds_none r.delivered.history }) r.serves_are.0 r.served
    r.serves_are.1 in
    let e = calls_lead s.nodes AnyAt (Adds r.served.history) (adds_carried s.nodes r.served.history) r.served
    (record { nodes_are = d.nodes_are; so = adds_none r.served.history }) r.calls_are.0 r.called r.calls_are.1 in
    let f = settles_lead s.nodes AnyAt (Adds r.called.history) (adds_carried s.nodes r.called.history)
    (length r.polled.given == 0) r.called (record { nodes_are = e.nodes_are; so = adds_none r.called.history })
    r.settles_are.0 t r.settles_are.1 in
    record {
      polled = a.at.so;
      delivered = b.at.so;
      served = d.so;
      called = e.so;
      over = f.so;
      polled_nodes = a.at.nodes_are;
      delivered_nodes = b.at.nodes_are;
      served_nodes = d.nodes_are;
      called_nodes = e.nodes_are;
      nodes = f.nodes_are;
    }

-- all of it
pub round_more : (g : Handlers) (s t : Stage) (r : RoundMade g s t) → Adds s.history t.history
round_more g s t r =
    let a = round_adds g s t r in
    adds_both s.history r.called.history t.history
    (adds_both s.history r.served.history r.called.history
    (adds_both s.history r.delivered.history r.served.history
    (adds_both s.history r.polled.stage.history r.delivered.history a.polled a.delivered) a.served) a.called) a.over

pub chain_nodes : (g : Handlers) (n : ℕ) (s t : Stage) → Chain g n s t → t.nodes ≡ s.nodes
chain_nodes g n s t (chain_none z) = refl
chain_nodes g n s t (chain_more k v u w first others) =
    chain_nodes g k u w others ∙ (round_adds g v u first).nodes

pub chain_adds : (g : Handlers) (n : ℕ) (s t : Stage) → Chain g n s t → Adds s.history t.history
chain_adds g n s t (chain_none z) = adds_none z.history
chain_adds g n s t (chain_more k v u w first others) =
    adds_both v.history u.history w.history (round_more g v u first) (chain_adds g k u w others)

-- ---- a client's call between two moments at which it lives

module _ (s : Setup) (host : Host) (epoch : ℕ) (kind : s.kind ≡ Client host epoch) (fits : FitsSetup s)
    (c : CallName) where
  stays_there : (more h : List Event) → Legal s (more ++ h) → IsThere (looks s h) c → IsThere (looks s (more ++ h)) c
  stays_there [] h legal t = t
  stays_there (e ∷ more) h legal t =
      there_stays s host epoch kind fits e (more ++ h) c legal (stays_there more h legal.1 t)

  stays_ended : (more h : List Event) (end : End) → Legal s (more ++ h) → end_at (looks s h) c ≡ Some end
      → end_at (looks s (more ++ h)) c ≡ Some end
  stays_ended [] h end legal is = is
  stays_ended (e ∷ more) h end legal is =
      end_stays s host epoch kind fits e (more ++ h) c end legal (stays_ended more h end legal.1 is)

  -- one that is there and doesn't live has ended
  ended_there : (h : List Event) → Legal s h → (t : IsThere (looks s h) c) → is_live t.call.life ≡ false
      → (end : End) × (end_at (looks s h) c ≡ Some end)
  ended_there h legal t dead =
      of t.call.life dead
      (subst IsCalledOr t.there (calls_called s host epoch kind fits h c legal))
      (ap end_by t.there)
    where
      of : (x : Life) → is_live x ≡ false → IsCalled x → end_at (looks s h) c ≡ end_of_life x
          → (end : End) × (end_at (looks s h) c ≡ Some end)
      of (lives.Ended end) dead called is = (end, is)
      of (lives.Over code) dead called is = absurd called
      of _ dead called is = absurd cc

  abbrev lives_in : List Event → Bool
  lives_in h = is_call (λ r. is_live r.life) (call_at (looks s h) c)

  no_end : (h : List Event) (end : End) → lives_in h ≡ true → end_at (looks s h) c ≡ Some end → ⊥
  no_end h end living is = of (call_at (looks s h) c) living is
    where
      at : (x : Life) → is_live x ≡ true → end_of_life x ≡ Some end → ⊥
      at (lives.Ended other) living is = absurd cc
      at (lives.Over code) living is = absurd cc
      at lives.Calling living is = absurd cc
      at lives.Waiting living is = absurd cc
      at lives.Accepted living is = absurd cc
      at lives.Finished living is = absurd cc
      at (lives.Broken code) living is = absurd cc

      of : (o : Option CallRecord) → is_call (λ r. is_live r.life) o ≡ true → end_by o ≡ Some end → ⊥
      of None living is = absurd cc
      of (Some r) living is = at r.life living is

  there_living : (h : List Event) → lives_in h ≡ true → IsThere (looks s h) c
  there_living h living = of (call_at (looks s h) c) refl living
    where
      of : (o : Option CallRecord) → call_at (looks s h) c ≡ o → is_call (λ r. is_live r.life) o ≡ true
          → IsThere (looks s h) c
      of None at living = absurd cc
      of (Some r) at living = record { call = r; there = at }

  pub lived_between : (later more h : List Event) → Legal s (later ++ (more ++ h)) → lives_in h ≡ true
      → lives_in (later ++ (more ++ h)) ≡ true → lives_in (more ++ h) ≡ true
  lived_between later more h legal first last = by (is_live t.call.life) refl
    where
      then_ : Legal s (more ++ h)
      then_ = legal-before s later (more ++ h) legal

      t : IsThere (looks s (more ++ h)) c
      t = stays_there more h then_ (there_living h first)

      by : (b : Bool) → is_live t.call.life ≡ b → lives_in (more ++ h) ≡ true
      by true living = ap (is_call (λ r. is_live r.life)) t.there ∙ living
      by false dead =
          (let e = ended_there (more ++ h) then_ t dead in
          absurd (no_end (later ++ (more ++ h)) e.0 last (stays_ended later (more ++ h) e.0 legal e.1)))

module _ (c : CallName) (k : ℕ) (client : Node) (host : Host) (epoch : ℕ) (s u t : Stage) where
  -- so it is of stages
  pub lives_between : client.setup.kind ≡ Client host epoch → FitsSetup client.setup
      → Legal client.setup (side k t.history) → Adds s.history u.history → Adds u.history t.history
      → call_lives_at s c k client ≡ true → call_lives_at t c k client ≡ true → call_lives_at u c k client ≡ true
  lives_between kind fits legal a b first last =
      subst (λ (h : List Event). is_call (λ r. is_live r.life) (call_at (looks client.setup h) c) ≡ true) (sym middle)
      (lived_between client.setup host epoch kind fits c (side k b.more) (side k a.more) (side k s.history)
      (subst (Legal client.setup) whole legal) first
      (subst (λ (h : List Event). is_call (λ r. is_live r.life) (call_at (looks client.setup h) c) ≡ true) whole last))
    where
      middle : side k u.history ≡ side k a.more ++ side k s.history
      middle = ap (side k) a.is ∙ side-split k a.more s.history

      whole : side k t.history ≡ side k b.more ++ (side k a.more ++ side k s.history)
      whole =
          ap (side k) b.is ∙ side-split k b.more u.history ∙ ap (λ (h : List Event). side k b.more ++ h) middle

-- events are added behind a history
pub behind_adds_all : (es h : List Noted) → Adds h (behind es h)
behind_adds_all [] h = adds_none h
behind_adds_all (e ∷ es) h =
    adds_both h (e ∷ h) (behind es (e ∷ h)) (adds_one h h e (adds_none h)) (behind_adds_all es (e ∷ h))
