-- What was driven of a turn, as a part of passes: its steps are events of the node, each told with its line.
use Rattle.std.proofs.Common.{◌≡◌, ◌∙◌, ◌≤◌, ◌-◌, ◌^◌, ℕ, List, [], ◌∷◌, ◌++◌, Option, Some, None, refl, sym, ap, subst}
use Rattle.std.proofs.Common.{length, map}
use Rattle.std.proofs.lemmas.List.{append-nil, length-map}
use Rattle.rx_base.specs.Sink.{Gained, GainedSome, HasRisen}
use Rattle.rx_dispatch.specs.Wanting.{IsWanting}
use Rattle.rx_jobs.specs.Dispatching.{Turning, accepts, dispatching, over}
use Rattle.rx_jobs.specs.Handlers.{Handlers}
use Rattle.rx_jobs.specs.Jobs.{JobState, accept, finish, read, write}
use Rattle.rx_model.specs.declared.event.Event.{Event}
use Rattle.rx_model.specs.declared.event.Noted.{Noted}
use Rattle.rx_history.proofs.Moments.{now-after}
use Rattle.rx_history.specs.Sides.{with_clock}
use Rattle.rx_rules.specs.After.{looks}
use Rattle.rx_rules.specs.Rules.{Legal}
use Rattle.rx_rules.specs.Setup.{Setup}
use Rattle.rx_run.specs.Parts as run_parts
use Rattle.rx_run.specs.Tells as run
use Rattle.rx_wire.specs.Turns.{HasNotedAll, Program, Runs, Turns, after_all, goes, noted, stays}
use Rattle.rx_drive.specs.Carried.{Onto, here, onward}
use Rattle.rx_drive.specs.Nodes.{node_stages}
use Rattle.rx_drive.specs.Ran as driven
use Rattle.rx_drive.specs.Tells as drive
use Rattle.rx_drive.specs.Tells.{EndsTold, Grows, IsTold, IsWhole, Made, Step, telling}
use Rattle.rx_drive.specs.Turned.{turn}
use Rattle.rx_drive.specs.declared.stop.Stop.{Stop}
use Rattle.rx_drive.specs.declared.stop.Stop.TheVariants as stops
use Rattle.rx_drive.proofs.Gaining.{grows_same}
use Rattle.rx_wire_loop.specs.Parts.{Cut, Part, Place, To}
use Rattle.rx_wire_loop.specs.Runs.{IsAt, Plays, Ran, Stops, change}
use Rattle.rx_wire_loop.specs.Serves.{CutsTurn, dispatches}
use Rattle.rx_wire_loop.specs.Tells.{Gains, SinkTells, Told, WireTells, outside, sink_tells, told}
use Rattle.rx_wire_loop.specs.Texts.{event_line, lines, noted_line}
use Rattle.rx_wire_loop.proofs.Running.{plays_as, stops_behind}
use Rattle.rx_wire_loop.proofs.Telling.{gained_none, gains_both, gains_none, gains_same, logged_none}

-- ---- what is told of events

line_of : (e : Event) → lines (e ∷ []) ≡ event_line e
line_of e = append-nil (event_line e)

put_all : (a b : Option (List ℕ)) (xs : List ℕ) → Grows a b xs → Gained a b xs
put_all None b xs is = is
put_all (Some old) b xs is = is

-- these events of a node, as steps
abbrev pub steps_of : ℕ → List Event → List Step
steps_of n es = map (λ e. Made (noted n e)) es

-- what a journal and a sink tell, beside what a wire tells
abbrev pub beside : drive.Told → WireTells → Told
beside t wire = told t.noted (sink_tells t.put t.puts) wire

module _ (n : ℕ) (wire : WireTells) where
  noted_all : (a b : Option (List Noted)) (es : List Event) → Grows a b (map (noted n) es) → HasNotedAll a b n es
  noted_all None b es is = is
  noted_all (Some old) b es is = is

  -- one event
  gains_whole : (a b : drive.Told) (e : Event) → IsTold noted_line None a b (noted n e)
      → Gains n (beside a wire) (beside b wire) (e ∷ []) []
  gains_whole a b e is =
      record {
        noted = noted_all a.noted b.noted (e ∷ []) is.1.noted;
        put = subst (λ (xs : List ℕ). Gained a.put b.put xs) (sym (line_of e))
            (put_all a.put b.put (event_line e) is.1.put);
        log = logged_none wire.traffic;
        puts = is.1.puts;
        calls = refl;
      }

  -- several of them
  pub gains_all : (es : List Event) (a b : drive.Told) (ss : List Step) → ss ≡ steps_of n es
      → run.Gains (telling noted_line) a b ss → Gains n (beside a wire) (beside b wire) es []
  gains_all [] a b ss are (run.gains_none x) = gains_none n (beside a wire)
  gains_all (e ∷ es) a b ss are (run.gains_none x) = absurd (cc (are))
  gains_all [] a b ss are (run.gains_one x mid y m ts one rest) = absurd (cc (are))
  gains_all (e ∷ es) a b ss are (run.gains_one x mid y m ts one rest) =
      (let first : m ≡ Made (noted n e) = cc (are) in
      let later : ts ≡ steps_of n es = cc (are) in
      gains_both n (beside a wire) (beside mid wire) (beside b wire) (e ∷ []) es [] []
      (gains_whole a mid e (subst (λ (t : Step). IsWhole noted_line a mid t) first one))
      (gains_all es mid b ts later rest))

  -- the last one, where it ends passes
  stops_last : (s : Setup) (s0 s1 : List Event → Type 0) (a b : drive.Told) (e : Event) (stop : Stop)
      → IsTold noted_line (Some stop) a b (noted n e)
      → Stops (change n s s0 s1 (beside a wire) (beside b wire)) (e ∷ []) [] stop
  stops_last s s0 s1 a b e stops.SinkFault (fits, f) =
      record {
        noted = noted_all a.noted b.noted (e ∷ [])
            (subst (λ (o : Option (List Noted)). Grows a.noted o (noted n e ∷ []))
            (sym (ap (λ (t : drive.Told). t.noted) f.same)) f.noted.noted);
        put = (
          [],
          e,
          a.put,
          refl,
          gained_none a.put,
          subst (λ (o : Option (List ℕ)). GainedSome o b.put (event_line e))
              (grows_same a.put f.between.put f.noted.put) f.put,
          f.some,
        );
        log = logged_none wire.traffic;
        puts = subst (λ (k : ℕ). HasRisen k b.puts) f.noted.puts f.puts;
        calls = refl;
      }
  stops_last s s0 s1 a b e stops.Unformatted (fits, (g, some)) =
      record {
        early = [];
        last = e;
        are = refl;
        noted = noted_all a.noted b.noted (e ∷ []) g.noted;
        put = put_all a.put b.put [] g.put;
        lined = some;
        log = logged_none wire.traffic;
        puts = g.puts;
        calls = refl;
      }
  stops_last s s0 s1 a b e stops.Unnoted (fits, same) =
      record {
        early = [];
        last = e;
        are = refl;
        gains = gains_same n (beside a wire) (beside b wire) (ap (λ (t : drive.Told). beside t wire) same);
      }
  stops_last s s0 s1 a b e stops.WireFault (fits, none) = absurd none
  stops_last s s0 s1 a b e stops.OutOfMemory (fits, none) = absurd none
  stops_last s s0 s1 a b e stops.Endless (fits, none) = absurd none

-- ---- events of which the last one is another step

pub record LastOf (n : ℕ) (es : List Event) (early : List Step) (last : Step) : Type 0 where
  pub front : List Event
  pub one : Event
  pub whole : es ≡ front ++ one ∷ []
  pub early_is : early ≡ steps_of n front
  pub last_is : last ≡ Made (noted n one)

no_more : (n : ℕ) (es : List Event) → steps_of n es ≡ [] → es ≡ []
no_more n [] none = refl
no_more n (e ∷ es) none = absurd (cc (none))

pub last_of : (n : ℕ) (es : List Event) (early : List Step) (last : Step) → steps_of n es ≡ early ++ last ∷ []
    → LastOf n es early last
last_of n [] [] last are = absurd (cc (are))
last_of n [] (x ∷ xs) last are = absurd (cc (are))
last_of n (e ∷ es) [] last are =
    (let same : last ≡ Made (noted n e) = cc (are) in
    let none : steps_of n es ≡ [] = cc (are) in
    record {
      front = [];
      one = e;
      whole = ap (λ (xs : List Event). e ∷ xs) (no_more n es none);
      early_is = refl;
      last_is = same;
    })
last_of n (e ∷ es) (x ∷ xs) last are =
    (let same : x ≡ Made (noted n e) = cc (are) in
    let rest : steps_of n es ≡ xs ++ last ∷ [] = cc (are) in
    let l : LastOf n es xs last = last_of n es xs last rest in
    record {
      front = e ∷ l.front;
      one = l.one;
      whole = ap (λ (fs : List Event). e ∷ fs) l.whole;
      early_is = ap (λ (y : Step). y ∷ xs) same ∙ ap (λ (ys : List Step). Made (noted n e) ∷ ys) l.early_is;
      last_is = l.last_is;
    })

-- ---- a program that doesn't move the clock

abbrev pub IsStill : {View Ask : Type 0} → Program View Ask → Type 0
IsStill {View} {Ask} p = (a : Ask) (e : Event) → p.is a e → (m : ℕ) → with_clock e m ≡ m

still : {View Ask : Type 0} (p : Program View Ask) (s : Setup) (h : List Event) (v w : View) (es : List Event)
    → IsStill p → Runs p v es w → (looks s (after_all es h)).now ≡ (looks s h).now
still p s h v w es quiet (stays at) = refl
still p s h v w es quiet (goes at a e rest to asked is more) =
    still p s (e ∷ h) (p.heard at e) to rest quiet more
    ∙ now-after s (looks s h) e ∙ quiet a e is ((looks s h).now)

-- ---- a turn

-- a turn of a program, unless passes end in it
abbrev pub turns : {View Ask : Type 0} → Program View Ask → (View → Type 0) → View → Part View
turns p wants v at es ls (To w) = (ls ≡ []) × Turns p v es w
turns {View} p wants v at es ls (Cut stop) = (ls ≡ []) × ((w : View) × Runs p v es w × CutsTurn wants stop es w)

-- where the run ends at a step, it ends at what is told of an event
cuts_told : {View : Type 0} (wants : View → Type 0) (stop : Stop) (a b : drive.Told) (t : Step) (es : List Event)
    (w : View) → EndsTold noted_line stop a b t → CutsTurn wants stop es w
cuts_told wants stops.Unformatted a b (Made m) es w ends = tt
cuts_told wants stops.SinkFault a b (Made m) es w ends = tt
cuts_told wants stops.Unnoted a b (Made m) es w ends = tt
cuts_told wants stops.WireFault a b (Made m) es w ends = absurd ends.1
cuts_told wants stops.OutOfMemory a b (Made m) es w ends = absurd ends.1
cuts_told wants stops.Endless a b (Made m) es w ends = absurd ends.1
cuts_told wants stop a b (drive.Entry l) es w ends = absurd ends

module _ {View Ask : Type 0} (p : Program View Ask) (n : ℕ) (s : Setup) where
  -- steps of a turn are events of the node, which leave a legal history legal
  record Stepped (v : View) (h : List Event) (ss : List Step) (w : View) (u : List Event) : Type 0 where
    pub events : List Event
    pub are : ss ≡ steps_of n events
    pub runs : Runs p v events w
    pub history : u ≡ after_all events h
    pub legal : Legal s h → Legal s (after_all events h)

  stepped : (v : View) (h : List Event) (ss : List Step) (w : View) (u : List Event)
      → Onto (node_stages s) p n v h ss w u → Stepped v h ss w u
  stepped v h ss w u (here x y) =
      record { events = []; are = refl; runs = stays v; history = refl; legal = λ is. is }
  stepped v h ss w u (onward x y a e es x2 y2 asked next rest) =
      (let m : Stepped (p.heard v e) (e ∷ h) es w u = stepped (p.heard v e) (e ∷ h) es w u rest in
      record {
        events = e ∷ m.events;
        are = ap (λ (ts : List Step). Made (noted n e) ∷ ts) m.are;
        runs = goes v a e m.events w asked next.0 m.runs;
        history = m.history;
        legal = λ is. m.legal (next.1, is);
      })

  module _ (wants : View → Type 0) (v last : View) (s0 s1 : List Event → Type 0) (a b : drive.Told) (wire : WireTells)
      (quiet : IsStill p) where
    abbrev Shown : View × List Event → Type 0
    Shown r = (r.0 ≡ last) × s1 r.1

    abbrev Passed : Option Stop → Place → Type 0
    Passed stop q = Ran (change n s s0 s1 (beside a wire) (beside b wire)) (turns p wants v) (λ w. w ≡ last) stop q

    -- it was made whole
    turned : (q : Place) → IsAt s s0 (beside a wire) q → (ss : List Step) (w : View) (u : List Event)
        → Stepped v q.history ss w u → p.asks w ≡ None → Shown (w, u) → run.Gains (telling noted_line) a b ss
        → Passed None q
    turned q at ss w u m none there gains =
        record {
          events = m.events;
          log = [];
          came = To w;
          made = (refl, record { runs = m.runs; over = none });
          legal = m.legal;
          fits = (
            there.0,
            gains_all n wire m.events a b ss m.are gains,
            record {
              standing = subst s1 m.history there.1;
              now = at.now;
              later = subst (λ (t : ℕ). t ≤ q.now) (sym (still p s q.history v w m.events quiet m.runs)) at.later;
            },
          );
        }

    -- passes end in it, behind what was told whole
    cut_off : (q : Place) (ss : List Step) (w : View) (u : List Event) (stop : Stop) → Stepped v q.history ss w u
        → ((es : List Event) → length ss ≡ length es → CutsTurn wants stop es w)
        → ((es : List Event) → ss ≡ steps_of n es
        → Stops (change n s s0 s1 (beside a wire) (beside b wire)) es [] stop)
        → Passed (Some stop) q
    cut_off q ss w u stop m cuts ends =
        record {
          events = m.events;
          log = [];
          came = Cut stop;
          made = (
            refl,
            (
              w,
              m.runs,
              cuts m.events (ap (λ (ts : List Step). length ts) m.are
                  ∙ length-map m.events (λ e. Made (noted n e))),
            ),
          );
          legal = m.legal;
          fits = (refl, ends m.events m.are);
        }

    -- what was told where it was cut off as that was told
    ends_last : (stop : Stop) (ss : List Step) (es : List Event) → ss ≡ steps_of n es
        → driven.ButLast noted_line stop a b ss
        → Stops (change n s s0 s1 (beside a wire) (beside b wire)) es [] stop
    ends_last stop ss es are l =
        (let m : LastOf n es l.early l.last = last_of n es l.early l.last (sym are ∙ l.are) in
        subst (λ (fs : List Event). Stops (change n s s0 s1 (beside a wire) (beside b wire)) fs [] stop) (sym m.whole)
        (stops_behind n s s0 s0 s1 (beside a wire) (beside l.between wire) (beside b wire) m.front (m.one ∷ []) [] []
        stop (gains_all n wire m.front a l.between l.early m.early_is l.told)
        (stops_last n wire s s0 s1 l.between b m.one stop
        (subst (λ (t : Step). EndsTold noted_line stop l.between b t) m.last_is l.ends))))

    -- what was driven of a turn is a turn of passes
    pub plays_turn : (stop : Option Stop)
        → ((h : List Event) → s0 h
        → driven.Ran noted_line (turn (node_stages s) p wants n v h) Shown stop a b)
        → Plays (change n s s0 s1 (beside a wire) (beside b wire)) (turns p wants v) (λ w. w ≡ last) stop
    plays_turn stop ran q at = of r.steps r.came stop r.fits r.made
      where
        r : driven.Ran noted_line (turn (node_stages s) p wants n v q.history) Shown stop a b
        r = ran q.history at.standing

        of : (ss : List Step) (came : run_parts.Came driven.Fault (View × List Event)) (why : Option Stop)
            → driven.Fits noted_line Shown came why a b ss → turn (node_stages s) p wants n v q.history ss came
            → Passed why q
        of ss came why (driven.fits_to (w, u) x y ts there gains) (onto, none) =
            turned q at ss w u (stepped v q.history ss w u onto) none there gains
        of ss came why (driven.fits_failed x mid y ts gains breaks) made = absurd made
        of ss came why (driven.fits_wants x y ts gains) (w, u, onto, want) =
            cut_off q ss w u stops.OutOfMemory (stepped v q.history ss w u onto) (λ es count. want)
            (λ es are. gains_all n wire es a b ss are gains)
        of ss came why (driven.fits_last end x y ts l) (w, u, onto, any) =
            cut_off q ss w u end (stepped v q.history ss w u onto)
            (λ es count. cuts_told wants end l.between b l.last es w l.ends)
            (λ es are. ends_last end ss es are l)
        of ss came why (driven.fits_endless x y ts gains) ((w, u, onto, any), long) =
            cut_off q ss w u stops.Endless (stepped v q.history ss w u onto)
            (λ es count. subst (λ (k : ℕ). 2 ^ 64 - 1 ≤ k) count long)
            (λ es are. gains_all n wire es a b ss are gains)

-- ---- a turn of the handlers

-- its calls don't move the clock
dispatching_still : (g : Handlers) → IsStill (dispatching g)
dispatching_still g accept e is m = ap (λ (x : Event). with_clock x m) is.1
dispatching_still g (read c) e is m = ap (λ (x : Event). with_clock x m) is.2
dispatching_still g (write c offer) e is m = ap (λ (x : Event). with_clock x m) is.1
dispatching_still g (finish c code) e is m = ap (λ (x : Event). with_clock x m) is.1

module _ (s : Setup) (g : Handlers) (jobs after : List JobState) (s0 s1 : List Event → Type 0)
    (a b : Option (List Noted)) (k l : SinkTells) (wire : WireTells) (stop : Option Stop) where
  -- what was driven of it
  pub dispatches_driven : ((h : List Event) → s0 h → driven.Ran noted_line (turn (node_stages s) (dispatching g)
      (IsWanting g) 0 (accepts jobs) h) (λ r. (r.0 ≡ over after) × s1 r.1) stop (outside a k) (outside b l))
      → Plays (change 0 s s0 s1 (told a k wire) (told b l wire)) (dispatches g jobs) (λ js. js ≡ after) stop
  dispatches_driven ran =
      plays_as 0 s s0 s1 (told a k wire) (told b l wire) (turns (dispatching g) (IsWanting g) (accepts jobs))
      (dispatches g jobs) (λ w. after) (λ w. w ≡ over after) (λ js. js ≡ after) stop
      (λ p es ls w is made. (
        made.0,
        record {
          runs = subst (λ (t : Turning). Runs (dispatching g) (accepts jobs) es t) is made.1.runs;
          over = refl;
        },
      )) (λ p es ls why made. made) (λ w is. refl)
      (plays_turn (dispatching g) 0 s (IsWanting g) (accepts jobs) (over after) s0 s1 (outside a k) (outside b l) wire
      (dispatching_still g) stop ran)
