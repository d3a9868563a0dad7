-- Passes of a node, part by part, and of a server, pass by pass.
use Rattle.std.proofs.Common.{◌≡◌, ◌∙◌, ◌<◌, ◌≤◌, ℕ, suc, List, [], ◌++◌, Option, Some, None, Ok, Err, refl}
use Rattle.std.proofs.Common.{inl, inr, sym, ap, subst}
use Rattle.rx_jobs.specs.Handlers.{handlers_of}
use Rattle.rx_jobs.specs.Jobs.{JobState}
use Rattle.rx_model.specs.declared.event.Event.{Event}
use Rattle.rx_model.specs.declared.event.Noted.{Noted}
use Rattle.rx_model.specs.declared.names.Host.{Host}
use Rattle.rx_rules.specs.Rules.{Legal}
use Rattle.rx_rules.specs.Setup.{Setup}
use Rattle.rx_script.specs.Saying.{Answering}
use Rattle.rx_wire.specs.Wire.{Logged}
use Rattle.xdr_value.specs.declared.interface.Interface.{Interface}
use Rattle.rx_wire.specs.Turns.{after_all}
use Rattle.rx_wire.proofs.TurnLaws.{after_all-append}
use Rattle.rx_wire_loop.specs.declared.serving.ServeEnd.TheVariants as serve_ends
use Rattle.rx_drive.specs.declared.stop.Stop.{Stop}
use Rattle.rx_drive.specs.declared.stop.Stop.TheVariants as stops
use Rattle.rx_wire_loop.specs.Lines.{PutsLine, PutsText}
use Rattle.rx_wire_loop.specs.Parts.{Came, Cut, Part, Place, Then, To, behind, ends}
use Rattle.rx_wire_loop.specs.Ports.{clocks, polls, takes, takes_until, until_of}
use Rattle.rx_wire_loop.specs.Runs.{Fits, IsAt, Plays, Ran, Stops, change}
use Rattle.rx_wire_loop.specs.Serves.{IsCut, IsSpent, IsUp, ServePassed, Terms, dispatches, pass, passed_more}
use Rattle.rx_wire_loop.specs.Serves.{passed_none, plays, serve_play, serve_take, serves_cut, serves_cut_last}
use Rattle.rx_wire_loop.specs.Serves.{serves_spent, serves_up}
use Rattle.rx_wire_loop.specs.Serving.{ServeEnds, Serving, ServesBound}
use Rattle.rx_wire_loop.specs.Tells.{Gains, SinkTells, Told, WireTells, told}
use Rattle.rx_wire_loop.specs.Texts.{lines, ready_line, time_up_line}
use Rattle.rx_wire_loop.proofs.Placing.{behind_both}
use Rattle.rx_wire_loop.proofs.Polling.{Anyhow}
use Rattle.rx_wire_loop.proofs.Running.{plays_at, plays_stops, plays_then, plays_to}
use Rattle.rx_wire_loop.proofs.Telling.{breaks_behind, fails_behind, gained_both, gains_both, gains_none}
use Rattle.rx_wire_loop.proofs.Telling.{refuses_behind, wants_behind}

module _ {A : Type 0} (n : ℕ) (s : Setup) (s0 s1 : List Event → Type 0) (a b : Told) (part : Part (Unit {0}))
    (shows : A → Type 0) where
  -- a last part, behind which something is known already
  pub plays_tail : (w : A) (stop : Option Stop) → shows w → Plays (change n s s0 s1 a b) part Anyhow stop
      → Plays (change n s s0 s1 a b) (Then part (λ u. ends (To w))) shows stop
  plays_tail w None there plays =
      plays_then n s s0 s1 s1 a b b part (λ u. ends (To w)) Anyhow shows None plays
      (λ u i. plays_to n s s1 b shows w there)
  plays_tail w (Some stop) there plays =
      plays_stops n s s0 s1 a b part (λ u. ends (To w)) Anyhow shows stop plays

-- ---- a pass up to its take

module _ {V : Type 0} (n : ℕ) (s : Setup) (most : ℕ) (turn : V → Part V) (v : V) (shows : V → Type 0) where
  abbrev rest : V → Part V
  rest w = Then (polls most) (λ u. ends (To w))

  abbrev middle : Unit {0} → Part V
  middle u = Then (turn v) rest

  abbrev later : Unit {0} → Part V
  later u = Then (polls most) middle

  -- it ended at the clock
  pub play_clock : (s0 s1 : List Event → Type 0) (a b : Told) (stop : Stop)
      → Plays (change n s s0 s1 a b) clocks Anyhow (Some stop)
      → Plays (change n s s0 s1 a b) (plays most turn v) shows (Some stop)
  play_clock s0 s1 a b stop first = plays_stops n s s0 s1 a b clocks later Anyhow shows stop first

  -- at the first polling
  pub play_first : (s0 s1 s2 : List Event → Type 0) (a b c : Told) (stop : Stop)
      → Plays (change n s s0 s1 a b) clocks Anyhow None
      → Plays (change n s s1 s2 b c) (polls most) Anyhow (Some stop)
      → Plays (change n s s0 s2 a c) (plays most turn v) shows (Some stop)
  play_first s0 s1 s2 a b c stop first second =
      plays_then n s s0 s1 s2 a b c clocks later Anyhow shows (Some stop) first
      (λ t i. plays_stops n s s1 s2 b c (polls most) middle Anyhow shows stop second)

  -- in the turn
  pub play_turn : (s0 s1 s2 s3 : List Event → Type 0) (a b c d : Told) (stop : Stop) (after : V → Type 0)
      → Plays (change n s s0 s1 a b) clocks Anyhow None
      → Plays (change n s s1 s2 b c) (polls most) Anyhow None
      → Plays (change n s s2 s3 c d) (turn v) after (Some stop)
      → Plays (change n s s0 s3 a d) (plays most turn v) shows (Some stop)
  play_turn s0 s1 s2 s3 a b c d stop after first second third =
      plays_then n s s0 s1 s3 a b d clocks later Anyhow shows (Some stop) first
      (λ t i. plays_then n s s1 s2 s3 b c d (polls most) middle Anyhow shows (Some stop) second
      (λ u j. plays_stops n s s2 s3 c d (turn v) rest after shows stop third))

  -- at the second polling, or behind it
  pub play_last : (s0 s1 s2 s3 s4 : List Event → Type 0) (a b c d f : Told) (stop : Option Stop)
      → Plays (change n s s0 s1 a b) clocks Anyhow None
      → Plays (change n s s1 s2 b c) (polls most) Anyhow None
      → Plays (change n s s2 s3 c d) (turn v) shows None
      → Plays (change n s s3 s4 d f) (polls most) Anyhow stop
      → Plays (change n s s0 s4 a f) (plays most turn v) shows stop
  play_last s0 s1 s2 s3 s4 a b c d f stop first second third fourth =
      plays_then n s s0 s1 s4 a b f clocks later Anyhow shows stop first
      (λ t i. plays_then n s s1 s2 s4 b c f (polls most) middle Anyhow shows stop second
      (λ u j. plays_then n s s2 s3 s4 c d f (turn v) rest shows shows stop third
      (λ w there. plays_tail n s s3 s4 d f (polls most) shows w stop there fourth)))

-- ---- whole passes

module _ {V : Type 0} (n : ℕ) (s : Setup) (play : V → Part V) (take : Part (Unit {0})) (v : V) (shows : V → Type 0)
  where
    abbrev take_then : V → Part V
    take_then w = Then take (λ u. ends (To w))

    -- it ended before its take
    pub pass_early : (s0 s1 : List Event → Type 0) (a b : Told) (stop : Stop)
        → Plays (change n s s0 s1 a b) (play v) shows (Some stop)
        → Plays (change n s s0 s1 a b) (pass play take v) shows (Some stop)
    pass_early s0 s1 a b stop first = plays_stops n s s0 s1 a b (play v) take_then shows shows stop first

    -- it ended in its take, or behind it
    pub pass_take : (s0 s1 s2 : List Event → Type 0) (a b c : Told) (stop : Option Stop)
        → Plays (change n s s0 s1 a b) (play v) shows None → Plays (change n s s1 s2 b c) take Anyhow stop
        → Plays (change n s s0 s2 a c) (pass play take v) shows stop
    pass_take s0 s1 s2 a b c stop first second =
        plays_then n s s0 s1 s2 a b c (play v) take_then shows shows stop first
        (λ w there. plays_tail n s s1 s2 b c take shows w stop there second)

-- ---- a server, so far

-- so many passes were made and told, and the node is behind them
pub record SoFar (t : Terms) (p : Place) (n : ℕ) (jobs : List JobState) (stands : List Event → Type 0)
    (before now : Told) : Type 0 where
  pub events : List Event
  pub log : List Logged
  pub passed : ServePassed t p n events log jobs
  pub told : Gains 0 before now events log
  pub at : IsAt t.setup stands now (behind events log p)

pub so_none : (t : Terms) (p : Place) (stands : List Event → Type 0) (before : Told) → IsAt t.setup stands before p
    → SoFar t p 0 [] stands before before
so_none t p stands before at =
    record { events = []; log = []; passed = passed_none; told = gains_none 0 before; at = at }

module _ (t : Terms) (p : Place) (n : ℕ) (jobs next : List JobState) (s1 s2 : List Event → Type 0)
    (before mid after : Told) (x : SoFar t p n jobs s1 before mid) where
  abbrev whole_pass : Part (List JobState)
  whole_pass = pass (serve_play t) (serve_take t) jobs

  abbrev here : Place
  here = behind x.events x.log p

  -- one pass more
  pub so_more : Plays (change 0 t.setup s1 s2 mid after) whole_pass (λ js. js ≡ next) None
      → after.wire.moment < t.until → SoFar t p (suc n) next s2 before after
  so_more plays early = of r.came r.made r.fits
    where
      r : Ran (change 0 t.setup s1 s2 mid after) whole_pass (λ js. js ≡ next) None here
      r = plays here x.at

      of : (came : Came (List JobState)) → whole_pass here r.events r.log came
          → Fits (change 0 t.setup s1 s2 mid after) (λ js. js ≡ next) here r.events r.log came None
          → SoFar t p (suc n) next s2 before after
      of (To js) made (is, gained, there) =
          record {
            events = x.events ++ r.events;
            log = x.log ++ r.log;
            passed = subst (λ (ks : List JobState). ServePassed t p (suc n) (x.events ++ r.events) (x.log ++ r.log) ks)
                is
                (passed_more n x.events r.events x.log r.log jobs js x.passed made
                (subst (λ (q : Place). q.now < t.until) (sym (behind_both x.events r.events x.log r.log p))
                (subst (λ (m : ℕ). m < t.until) (sym there.now) early)));
            told = gains_both 0 before mid after x.events r.events x.log r.log x.told gained;
            at = subst (λ (q : Place). IsAt t.setup s2 after q) (sym (behind_both x.events r.events x.log r.log p))
                there;
          }
      of (Cut why) made fits = absurd fits

  -- what was told where passes ended behind those so far
  stopped_ends : (es : List Event) (ls : List Logged) (stop : Stop)
      → Stops (change 0 t.setup s1 s2 mid after) es ls stop
      → ServeEnds 0 (Err stop) (IsCut stop) before after (x.events ++ es) (x.log ++ ls)
  stopped_ends es ls stops.OutOfMemory told = gains_both 0 before mid after x.events es x.log ls x.told told
  stopped_ends es ls stops.Unformatted told = wants_behind 0 before mid after x.events es x.log ls x.told told
  stopped_ends es ls stops.SinkFault told = fails_behind 0 before mid after x.events es x.log ls x.told told
  stopped_ends es ls stops.WireFault told = breaks_behind 0 before mid after x.events es x.log ls x.told told
  stopped_ends es ls stops.Unnoted told = refuses_behind 0 before mid after x.events es x.log ls x.told told
  stopped_ends es ls stops.Endless told = gains_both 0 before mid after x.events es x.log ls x.told told

  -- a history with more events is legal
  legal_behind : (es : List Event) → ((h : List Event) → s1 h → Legal t.setup h)
      → (Legal t.setup here.history → Legal t.setup (after_all es here.history))
      → Legal t.setup (after_all (x.events ++ es) p.history)
  legal_behind es law with_them =
      subst (λ (h : List Event). Legal t.setup h) (sym (after_all-append x.events es p.history))
      (with_them (law here.history x.at.standing))

  -- passes ended in one of them
  pub serving_stopped : (shows : List JobState → Type 0) (stop : Stop)
      → Plays (change 0 t.setup s1 s2 mid after) whole_pass shows (Some stop) → n < t.turns
      → ((h : List Event) → s1 h → Legal t.setup h) → Serving t p (Err stop) before after
  serving_stopped shows stop plays low law = of r.came r.made r.fits
    where
      r : Ran (change 0 t.setup s1 s2 mid after) whole_pass shows (Some stop) here
      r = plays here x.at

      of : (came : Came (List JobState)) → whole_pass here r.events r.log came
          → Fits (change 0 t.setup s1 s2 mid after) shows here r.events r.log came (Some stop)
          → Serving t p (Err stop) before after
      of (To js) made fits = absurd fits
      of (Cut why) made fits =
          record {
            events = x.events ++ r.events;
            log = x.log ++ r.log;
            came = IsCut stop;
            serves = serves_cut stop n x.events r.events x.log r.log jobs low x.passed
                (subst (λ (k : Stop). whole_pass here r.events r.log (Cut k)) fits.0 made);
            legal = legal_behind r.events law r.legal;
            ends = stopped_ends r.events r.log stop fits.1;
          }

  -- the last of them came to the end
  pub serving_up : Plays (change 0 t.setup s1 s2 mid after) whole_pass (λ js. js ≡ next) None → n < t.turns
      → t.until ≤ after.wire.moment → ((h : List Event) → s1 h → Legal t.setup h) → (last : SinkTells)
      → PutsText after.sink last time_up_line None
      → Serving t p (Ok serve_ends.TimeUp) before (told after.noted last after.wire)
  serving_up plays low late law last puts = of r.came r.made r.fits
    where
      r : Ran (change 0 t.setup s1 s2 mid after) whole_pass (λ js. js ≡ next) None here
      r = plays here x.at

      of : (came : Came (List JobState)) → whole_pass here r.events r.log came
          → Fits (change 0 t.setup s1 s2 mid after) (λ js. js ≡ next) here r.events r.log came None
          → Serving t p (Ok serve_ends.TimeUp) before (told after.noted last after.wire)
      of (To js) made (is, gained, there) =
          (let all = gains_both 0 before mid after x.events r.events x.log r.log x.told gained in
          record {
            events = x.events ++ r.events;
            log = x.log ++ r.log;
            came = IsUp;
            serves = serves_up n x.events r.events x.log r.log jobs js low x.passed made
                (subst (λ (q : Place). t.until ≤ q.now) (sym (behind_both x.events r.events x.log r.log p))
                (subst (λ (m : ℕ). t.until ≤ m) (sym there.now) late));
            legal = legal_behind r.events law r.legal;
            ends = record {
              noted = all.noted;
              put = gained_both before.sink.put after.sink.put last.put (lines (x.events ++ r.events)) time_up_line
                  all.put
                  puts.0;
              log = all.log;
              puts = puts.1 ∙ all.puts;
              calls = all.calls;
            };
          })
      of (Cut why) made fits = absurd fits

  -- the sink failed as that was put
  pub serving_up_failed : Plays (change 0 t.setup s1 s2 mid after) whole_pass (λ js. js ≡ next) None → n < t.turns
      → t.until ≤ after.wire.moment → ((h : List Event) → s1 h → Legal t.setup h) → (last : SinkTells) (stop : Stop)
      → PutsText after.sink last time_up_line (Some stop)
      → Serving t p (Err stop) before (told after.noted last after.wire)
  serving_up_failed plays low late law last stops.SinkFault puts = of r.came r.made r.fits
    where
      r : Ran (change 0 t.setup s1 s2 mid after) whole_pass (λ js. js ≡ next) None here
      r = plays here x.at

      of : (came : Came (List JobState)) → whole_pass here r.events r.log came
          → Fits (change 0 t.setup s1 s2 mid after) (λ js. js ≡ next) here r.events r.log came None
          → Serving t p (Err stops.SinkFault) before (told after.noted last after.wire)
      of (To js) made (is, gained, there) =
          (let all = gains_both 0 before mid after x.events r.events x.log r.log x.told gained in
          record {
            events = x.events ++ r.events;
            log = x.log ++ r.log;
            came = IsUp;
            serves = serves_up n x.events r.events x.log r.log jobs js low x.passed made
                (subst (λ (q : Place). t.until ≤ q.now) (sym (behind_both x.events r.events x.log r.log p))
                (subst (λ (m : ℕ). t.until ≤ m) (sym there.now) late));
            legal = legal_behind r.events law r.legal;
            ends = record {
              noted = all.noted;
              between = after.sink.put;
              put = all.put;
              some = puts.0;
              log = all.log;
              puts = subst (λ (k : ℕ). Rattle.rx_base.specs.Sink.HasRisen k last.faults) all.puts puts.1;
              calls = all.calls;
            };
          })
      of (Cut why) made fits = absurd fits
  serving_up_failed plays low late law last stops.OutOfMemory puts = absurd puts
  serving_up_failed plays low late law last stops.WireFault puts = absurd puts
  serving_up_failed plays low late law last stops.Unnoted puts = absurd puts
  serving_up_failed plays low late law last stops.Endless puts = absurd puts
  serving_up_failed plays low late law last stops.Unformatted puts = absurd puts

  -- all takes were made: the last pass was made up to its take
  pub serving_spent : Plays (change 0 t.setup s1 s2 mid after) (serve_play t jobs) (λ js. js ≡ next) None
      → n ≡ t.turns → ((h : List Event) → s1 h → Legal t.setup h)
      → Serving t p (Ok serve_ends.TurnsSpent) before after
  serving_spent plays all law = of r.came r.made r.fits
    where
      r : Ran (change 0 t.setup s1 s2 mid after) (serve_play t jobs) (λ js. js ≡ next) None here
      r = plays here x.at

      of : (came : Came (List JobState)) → serve_play t jobs here r.events r.log came
          → Fits (change 0 t.setup s1 s2 mid after) (λ js. js ≡ next) here r.events r.log came None
          → Serving t p (Ok serve_ends.TurnsSpent) before after
      of (To js) made (is, gained, there) =
          record {
            events = x.events ++ r.events;
            log = x.log ++ r.log;
            came = IsSpent;
            serves = serves_spent x.events r.events x.log r.log jobs js
                (subst (λ (k : ℕ). ServePassed t p k x.events x.log jobs) all x.passed) made;
            legal = legal_behind r.events law r.legal;
            ends = gains_both 0 before mid after x.events r.events x.log r.log x.told gained;
          }
      of (Cut why) made fits = absurd fits

  -- passes ended in the last one
  pub serving_stopped_last : (shows : List JobState → Type 0) (stop : Stop)
      → Plays (change 0 t.setup s1 s2 mid after) (serve_play t jobs) shows (Some stop) → n ≡ t.turns
      → ((h : List Event) → s1 h → Legal t.setup h) → Serving t p (Err stop) before after
  serving_stopped_last shows stop plays all law = of r.came r.made r.fits
    where
      r : Ran (change 0 t.setup s1 s2 mid after) (serve_play t jobs) shows (Some stop) here
      r = plays here x.at

      of : (came : Came (List JobState)) → serve_play t jobs here r.events r.log came
          → Fits (change 0 t.setup s1 s2 mid after) shows here r.events r.log came (Some stop)
          → Serving t p (Err stop) before after
      of (To js) made fits = absurd fits
      of (Cut why) made fits =
          record {
            events = x.events ++ r.events;
            log = x.log ++ r.log;
            came = IsCut stop;
            serves = serves_cut_last stop x.events r.events x.log r.log jobs
                (subst (λ (k : ℕ). ServePassed t p k x.events x.log jobs) all x.passed)
                (subst (λ (k : Stop). serve_play t jobs here r.events r.log (Cut k)) fits.0 made);
            legal = legal_behind r.events law r.legal;
            ends = stopped_ends r.events r.log stop fits.1;
          }

-- ---- the same under other names

module _ (n m : ℕ) (s : Setup) where
  -- a polling of a node with another name for its number, its setup and what it joins
  pub polls_at : (t : Setup) (s0 s1 : List Event → Type 0) (a b : Told) (k most : ℕ) (stop : Option Stop) → m ≡ n
      → t ≡ s → k ≡ most → Plays (change m t s0 s1 a b) (polls k) Anyhow stop
      → Plays (change n s s0 s1 a b) (polls most) Anyhow stop
  polls_at t s0 s1 a b k most stop number setup joins plays =
      plays_at n m s t s0 s1 a b (polls most) Anyhow stop number setup
      (subst (λ (x : ℕ). Plays (change m t s0 s1 a b) (polls x) Anyhow stop) joins plays)

  -- a take up to a moment that is known
  pub takes_known : (s0 s1 : List Event → Type 0) (a b : Told) (until : ℕ) (end : Option ℕ) (stop : Option Stop) → m ≡ n
      → ((h : List Event) → s0 h → until ≡ until_of s end h)
      → Plays (change m s s0 s1 a b) (takes_until until) Anyhow stop
      → Plays (change n s s0 s1 a b) (takes s end) Anyhow stop
  takes_known s0 s1 a b until end stop number exact plays =
      plays_at n m s s s0 s1 a b (takes s end) Anyhow stop number refl
      (λ p at. (
      let r : Ran (change m s s0 s1 a b) (takes_until until) Anyhow stop p = plays p at in
      record {
        events = r.events;
        log = r.log;
        came = r.came;
        made = subst (λ (u : ℕ). takes_until u p r.events r.log r.came) (exact p.history at.standing) r.made;
        legal = r.legal;
        fits = r.fits;
      }))

-- a take of a node whose setup has another name
pub takes_at : (n : ℕ) (s t : Setup) (s0 s1 : List Event → Type 0) (a b : Told) (end : Option ℕ) (stop : Option Stop)
    → t ≡ s → Plays (change n t s0 s1 a b) (takes t end) Anyhow stop
    → Plays (change n s s0 s1 a b) (takes s end) Anyhow stop
takes_at n s t s0 s1 a b end stop setup plays =
    subst (λ (u : Setup). Plays (change n u s0 s1 a b) (takes u end) Anyhow stop) setup plays

-- what a server serves by, by an interface, with names for its script, its setup and what it joins
abbrev pub terms_by : Interface → List Answering → Setup → ℕ → ℕ → ℕ → Terms
terms_by iface script s most turns end =
    record { handlers = handlers_of iface script; setup = s; most = most; turns = turns; until = end }

abbrev pub pass_by : Interface → List Answering → Setup → ℕ → ℕ → List JobState → Part (List JobState)
pass_by iface script s most end jobs =
    pass (plays most (dispatches (handlers_of iface script))) (takes s (Some end)) jobs

module _ (iface : Interface) (x y : List Answering) (s t : Setup) (k most end : ℕ) (jobs : List JobState)
    (s0 s1 : List Event → Type 0) (a b : Told) (shows : List JobState → Type 0) (stop : Option Stop) where
  -- a pass of it under other names
  pub pass_at : x ≡ y → t ≡ s → k ≡ most → Plays (change 0 t s0 s1 a b) (pass_by iface x t k end jobs) shows stop
      → Plays (change 0 s s0 s1 a b) (pass_by iface y s most end jobs) shows stop
  pass_at script setup joins plays =
      subst (λ (z : List Answering). Plays (change 0 s s0 s1 a b) (pass_by iface z s most end jobs) shows stop) script
      (subst (λ (u : Setup). Plays (change 0 u s0 s1 a b) (pass_by iface x u most end jobs) shows stop) setup
      (subst (λ (m : ℕ). Plays (change 0 t s0 s1 a b) (pass_by iface x t m end jobs) shows stop) joins plays))

abbrev pub play_by : Interface → List Answering → ℕ → List JobState → Part (List JobState)
play_by iface script most jobs = plays most (dispatches (handlers_of iface script)) jobs

module _ (iface : Interface) (x y : List Answering) (s t : Setup) (k most : ℕ) (jobs : List JobState)
    (s0 s1 : List Event → Type 0) (a b : Told) (shows : List JobState → Type 0) (stop : Option Stop) where
  pub play_at : x ≡ y → t ≡ s → k ≡ most → Plays (change 0 t s0 s1 a b) (play_by iface x k jobs) shows stop
      → Plays (change 0 s s0 s1 a b) (play_by iface y most jobs) shows stop
  play_at script setup joins plays =
      subst (λ (z : List Answering). Plays (change 0 s s0 s1 a b) (play_by iface z most jobs) shows stop) script
      (subst (λ (u : Setup). Plays (change 0 u s0 s1 a b) (play_by iface x most jobs) shows stop) setup
      (subst (λ (m : ℕ). Plays (change 0 t s0 s1 a b) (play_by iface x m jobs) shows stop) joins plays))

-- the setup of a server is the same: what it stands for is legal by it
pub legal_as : (s t : Setup) (stands : List Event → Type 0) → t ≡ s → ((h : List Event) → stands h → Legal t h)
    → (h : List Event) → stands h → Legal s h
legal_as s t stands same law h is = subst (λ (u : Setup). Legal u h) same (law h is)

-- ---- the line that it is ready

-- no note is refused where a line is put
pub line_noted : (line : List ℕ) (stop : Stop) (s0 s1 : SinkTells) → stop ≡ stops.Unnoted
    → PutsLine s0 s1 line (Some stop) → ⊥
line_noted line stop s0 s1 is puts = subst (λ (s : Stop). PutsLine s0 s1 line (Some s)) is puts

-- it wasn't put whole
pub ready_stopped : (terms : Setup → ℕ → Terms) (setup : Setup) (host : Host) (stop : Stop)
    (noted : Option (List Noted)) (s0 s1 : SinkTells) (wire : WireTells)
    → PutsLine s0 s1 (ready_line host) (Some stop)
    → ServesBound terms setup host (Err stop) (told noted s0 wire) (told noted s1 wire)
ready_stopped terms setup host stops.OutOfMemory noted s0 s1 wire puts = absurd puts
ready_stopped terms setup host stops.Unformatted noted s0 s1 wire puts =
    inl (inr refl, ap (λ (s : SinkTells). told noted s wire) puts.0)
ready_stopped terms setup host stops.SinkFault noted s0 s1 wire puts =
    inr (inl (refl, refl, refl, puts.0, puts.1))
ready_stopped terms setup host stops.WireFault noted s0 s1 wire puts = absurd puts
ready_stopped terms setup host stops.Unnoted noted s0 s1 wire puts = absurd puts
ready_stopped terms setup host stops.Endless noted s0 s1 wire puts = absurd puts
