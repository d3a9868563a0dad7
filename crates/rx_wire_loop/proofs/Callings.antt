-- Passes of a client that makes a call.
use Rattle.std.proofs.Common.{◌≡◌, ◌∙◌, ◌<◌, ◌≤◌, ℕ, suc, true, false, List, [], ◌∷◌, ◌++◌, Option, Some, None, Ok, Err}
use Rattle.std.proofs.Common.{refl}
use Rattle.std.proofs.Common.{◌-◌, ◌^◌, arith, length, inl, inr, sym, ap, subst, rules}
use Rattle.std.proofs.lemmas.List.{append-nil}
use Rattle.std.specs.Prelude.{is_some}
use Rattle.rx_base.specs.Sink.{HasRisen}
use Rattle.rx_asks.specs.Asks.{Asking, Cancels, IsAsked, Offers, Reads, Shuts, begun, calling, heard}
use Rattle.rx_caller.specs.Turn.{CallerWants}
use Rattle.rx_asks.specs.View.{CallerState}
use Rattle.rx_asks.specs.declared.ask.TheConstants.{REPLY_BYTES}
use Rattle.rx_history.specs.Sides.{with_clock}
use Rattle.rx_model.specs.declared.event.Event.{Event}
use Rattle.rx_model.specs.declared.event.Event.TheVariants as events
use Rattle.rx_model.specs.declared.event.Noted.{Noted}
use Rattle.rx_rules.specs.Rules.{Legal}
use Rattle.rx_rules.specs.Setup.{Setup}
use Rattle.rx_wire.specs.Wire.{Logged}
use Rattle.rx_wire.specs.Turns.{Program, Runs, after_all, goes, stays}
use Rattle.rx_wire.proofs.TurnLaws.{after_all-append}
use Rattle.rx_drive.specs.Nodes.{node_stages}
use Rattle.rx_drive.specs.Ran as driven
use Rattle.rx_drive.specs.Turned.{turn}
use Rattle.rx_wire_loop.specs.Calls.{CallEnds, CallMade, CallPassed, CallTerms, IsCut, IsEnded, IsSpent, call_play}
use Rattle.rx_wire_loop.specs.Calls.{call_take}
use Rattle.rx_wire_loop.specs.Calls.{calls, calls_cut, calls_cut_last, calls_ended, calls_spent}
use Rattle.rx_wire_loop.specs.declared.calling.CallEnd.TheVariants as call_ends
use Rattle.rx_drive.specs.declared.stop.Stop.{Stop}
use Rattle.rx_drive.specs.declared.stop.Stop.TheVariants as stops
use Rattle.rx_wire_loop.specs.Parts.{Came, Cut, Part, Place, To, behind}
use Rattle.rx_wire_loop.specs.Ports.{takes}
use Rattle.rx_wire_loop.specs.Runs.{Change, Fits, IsAt, Plays, Ran, Stops, change}
use Rattle.rx_wire_loop.specs.Serves.{pass, passed_more, passed_none, plays}
use Rattle.rx_wire_loop.specs.Tells.{Gains, SinkTells, Told, WireTells, outside, sink_tells, told}
use Rattle.rx_wire_loop.specs.Texts.{event_line, lines, noted_line}
use Rattle.rx_wire_loop.proofs.Lineless.{pass_lineless, play_lineless}
use Rattle.rx_wire_loop.proofs.Placing.{behind_both}
use Rattle.rx_wire_loop.proofs.Telling.{back_none, breaks_behind, front_none, gains_any, gains_both, gains_none}
use Rattle.rx_wire_loop.proofs.Telling.{lines_last, refuses_behind}
use Rattle.rx_wire_loop.proofs.Driven.{plays_turn, turns}
use Rattle.rx_wire_loop.proofs.Measure.{turn_few}

-- ---- what the calls of a caller are

-- they have no line, and don't move the clock
pub asked_quiet : (a : Asking) (e : Event) → IsAsked a e → (event_line e ≡ []) × ((m : ℕ) → with_clock e m ≡ m)
asked_quiet (Offers c block) (events.Accepted got) is = absurd is
asked_quiet (Shuts c) (events.Accepted got) is = absurd is
asked_quiet (Reads c most) (events.Accepted got) is = absurd is
asked_quiet (Cancels c said) (events.Accepted got) is = absurd is
asked_quiet (Offers c block) (events.Finished d code got) is = absurd is
asked_quiet (Shuts c) (events.Finished d code got) is = absurd is
asked_quiet (Reads c most) (events.Finished d code got) is = absurd is
asked_quiet (Cancels c said) (events.Finished d code got) is = absurd is
asked_quiet (Offers c block) (events.Clocked now) is = absurd is
asked_quiet (Shuts c) (events.Clocked now) is = absurd is
asked_quiet (Reads c most) (events.Clocked now) is = absurd is
asked_quiet (Cancels c said) (events.Clocked now) is = absurd is
asked_quiet a (events.Linked to service first got) is = (refl, λ m. refl)
asked_quiet a (events.Called cid got) is = (refl, λ m. refl)
asked_quiet a (events.Wrote d offered got bytes) is = (refl, λ m. refl)
asked_quiet a (events.Shut d got) is = (refl, λ m. refl)
asked_quiet a (events.HasRead d max got bytes) is = (refl, λ m. refl)
asked_quiet a (events.Ended d got) is = (refl, λ m. refl)
asked_quiet a (events.Cancelled d code got) is = (refl, λ m. refl)
asked_quiet a (events.Taken from bytes got) is = (refl, λ m. refl)
asked_quiet a (events.Polled got) is = (refl, λ m. refl)

pub lines_quiet : (limit : ℕ) (v w : CallerState) (es : List Event) → Runs (calling limit) v es w → lines es ≡ []
lines_quiet limit v w es (stays at) = refl
lines_quiet limit v w es (goes at a e rest to asked is more) =
    ap (λ (xs : List ℕ). xs ++ lines rest) (asked_quiet a e is).0 ∙ lines_quiet limit (heard at e) to rest more

-- no sink failed that is the same behind
no_rise : HasRisen 0 0 → ⊥
no_rise (inl low) = search rules
no_rise (inr most) = search rules

-- ---- its turns

module _ (s : Setup) (v w : CallerState) (s0 s1 : List Event → Type 0) (before after : Option (List Noted))
    (wire : WireTells) (sink : SinkTells) where
  abbrev no_sink : SinkTells
  no_sink = sink_tells None 0

  abbrev first : Program CallerState Asking
  first = calling REPLY_BYTES

  abbrev moved : SinkTells → Change
  moved k = change 1 s s0 s1 (told before k wire) (told after k wire)

  abbrev Passed : Option Stop → Place → Type 0
  Passed stop p = Ran (moved sink) (calls v) (λ u. u ≡ w) stop p

  -- passes end in a turn
  call_cut : (few : length v.offering < 2 ^ 63) (p : Place) (es : List Event) (ls : List Logged) (stop : Stop)
      → turns first (CallerWants REPLY_BYTES) (begun v) p es ls (Cut stop) → Stops (moved no_sink) es ls stop
      → (Legal s p.history → Legal s (behind es ls p).history) → Passed (Some stop) p
  call_cut few p es ls stops.OutOfMemory (none, (u, runs, want)) told legal =
      record {
        events = es;
        log = ls;
        came = Cut stops.OutOfMemory;
        made = (none, (u, runs, want));
        legal = legal;
        fits = (
          refl,
          gains_any 1 before after no_sink no_sink sink wire es ls (lines_quiet REPLY_BYTES (begun v) u es runs) told,
        );
      }
  call_cut few p es ls stops.Unnoted (none, (u, runs, any)) told legal =
      record {
        events = es;
        log = ls;
        came = Cut stops.Unnoted;
        made = (none, (u, runs, tt));
        legal = legal;
        fits = (
          refl,
          record {
            early = told.early;
            last = told.last;
            are = told.are;
            gains = gains_any 1 before after no_sink no_sink sink wire told.early ls
                (front_none (lines told.early) (lines (told.last ∷ []))
                (lines_last es told.early told.last told.are (lines_quiet REPLY_BYTES (begun v) u es runs)))
                told.gains;
          },
        );
      }
  call_cut few p es ls stops.SinkFault made told legal = absurd (no_rise told.puts)
  call_cut few p es ls stops.Unformatted (none, (u, runs, any)) told legal =
      absurd (told.lined (sym (append-nil (event_line told.last))
      ∙ back_none (lines told.early) (lines (told.last ∷ []))
      (lines_last es told.early told.last told.are (lines_quiet REPLY_BYTES (begun v) u es runs))))
  call_cut few p es ls stops.Endless (none, (u, runs, long)) told legal =
      absurd (let low : length es < 2 ^ 64 - 1 = turn_few v u es few runs in omega (arith, low, long))
  call_cut few p es ls stops.WireFault (none, (u, runs, never)) told legal = absurd never

  -- a turn of a caller that was made and told, whatever a sink has
  call_any : (stop : Option Stop) → length v.offering < 2 ^ 63
      → Plays (moved no_sink) (turns first (CallerWants REPLY_BYTES) (begun v)) (λ u. u ≡ w) stop
      → Plays (moved sink) (calls v) (λ u. u ≡ w) stop
  call_any stop few plays p at = of r.events r.log r.came stop r.made r.fits r.legal
    where
      r : Ran (moved no_sink) (turns first (CallerWants REPLY_BYTES) (begun v)) (λ u. u ≡ w) stop p
      r = plays p (record { standing = at.standing; now = at.now; later = at.later })

      of : (es : List Event) (ls : List Logged) (came : Came CallerState) (why : Option Stop)
          → turns first (CallerWants REPLY_BYTES) (begun v) p es ls came
          → Fits (moved no_sink) (λ u. u ≡ w) p es ls came why
          → (Legal s p.history → Legal s (behind es ls p).history) → Passed why p
      of es ls (To u) None made (is, told, there) legal =
          record {
            events = es;
            log = ls;
            came = To u;
            made = made;
            legal = legal;
            fits = (
              is,
              gains_any 1 before after no_sink no_sink sink wire es ls
                  (lines_quiet REPLY_BYTES (begun v) u es made.1.runs) told,
              record { standing = there.standing; now = there.now; later = there.later },
            );
          }
      of es ls (To u) (Some why) made fits legal = absurd fits
      of es ls (Cut why) None made fits legal = absurd fits
      of es ls (Cut why) (Some end) made fits legal =
          subst (λ (k : Stop). Passed (Some k) p) fits.0
          (call_cut few p es ls why made
          (subst (λ (k : Stop). Stops (moved no_sink) es ls k) (sym fits.0) fits.1) legal)

  -- what was driven of a turn of a caller
  pub call_driven : (stop : Option Stop) → length v.offering < 2 ^ 63
      → ((h : List Event) → s0 h
      → driven.Ran noted_line (turn (node_stages s) first (CallerWants REPLY_BYTES) 1 (begun v) h)
      (λ r. (r.0 ≡ w) × s1 r.1) stop (outside before no_sink) (outside after no_sink))
      → Plays (moved sink) (calls v) (λ u. u ≡ w) stop
  call_driven stop few ran =
      call_any stop few
      (plays_turn first 1 s (CallerWants REPLY_BYTES) (begun v) w s0 s1 (outside before no_sink)
      (outside after no_sink) wire (λ a e is. (asked_quiet a e is).1) stop ran)

-- ---- its passes, so far

-- so many were made and told, and the client is behind them
pub record CallSoFar (t : CallTerms) (v : CallerState) (p : Place) (n : ℕ) (w : CallerState)
    (stands : List Event → Type 0) (before now : Told) : Type 0 where
  pub events : List Event
  pub log : List Logged
  pub passed : CallPassed t v p n events log w
  pub told : Gains 1 before now events log
  pub at : IsAt t.setup stands now (behind events log p)

pub call_so_none : (t : CallTerms) (v : CallerState) (p : Place) (stands : List Event → Type 0) (before : Told)
    → IsAt t.setup stands before p → CallSoFar t v p 0 v stands before before
call_so_none t v p stands before at =
    record { events = []; log = []; passed = passed_none; told = gains_none 1 before; at = at }

module _ (t : CallTerms) (v : CallerState) (p : Place) (n : ℕ) (w : CallerState) (s1 s2 : List Event → Type 0)
    (n0 nb na : Option (List Noted)) (w0 wb wa : WireTells)
    (x : (sink : SinkTells) → CallSoFar t v p n w s1 (told n0 sink w0) (told nb sink wb)) where
  abbrev whole_pass : Part CallerState
  whole_pass = pass (call_play t) (call_take t) w

  abbrev here : SinkTells → Place
  here sink = behind (x sink).events (x sink).log p

  abbrev moves : SinkTells → Change
  moves sink = change 1 t.setup s1 s2 (told nb sink wb) (told na sink wa)

  -- one pass more
  pub call_more : (next : CallerState) (sink : SinkTells) → Plays (moves sink) whole_pass (λ u. u ≡ next) None
      → next.end ≡ None → CallSoFar t v p (suc n) next s2 (told n0 sink w0) (told na sink wa)
  call_more next sink plays unended = of r.came r.made r.fits
    where
      r : Ran (moves sink) whole_pass (λ u. u ≡ next) None (here sink)
      r = plays (here sink) (x sink).at

      of : (came : Came CallerState) → whole_pass (here sink) r.events r.log came
          → Fits (moves sink) (λ u. u ≡ next) (here sink) r.events r.log came None
          → CallSoFar t v p (suc n) next s2 (told n0 sink w0) (told na sink wa)
      of (To u) made (is, gained, there) =
          record {
            events = (x sink).events ++ r.events;
            log = (x sink).log ++ r.log;
            passed = subst (λ (k : CallerState).
                CallPassed t v p (suc n) ((x sink).events ++ r.events) ((x sink).log ++ r.log) k) is
                (passed_more n (x sink).events r.events (x sink).log r.log w u (x sink).passed made
                (subst (λ (k : CallerState). k.end ≡ None) (sym is) unended));
            told = gains_both 1 (told n0 sink w0) (told nb sink wb) (told na sink wa) (x sink).events r.events
                (x sink).log r.log (x sink).told gained;
            at = subst (λ (q : Place). IsAt t.setup s2 (told na sink wa) q)
                (sym (behind_both (x sink).events r.events (x sink).log r.log p)) there;
          }
      of (Cut why) made fits = absurd fits

  -- a history with more events is legal
  legal_behind : (sink : SinkTells) (es : List Event) → ((h : List Event) → s1 h → Legal t.setup h)
      → (Legal t.setup (here sink).history → Legal t.setup (after_all es (here sink).history))
      → Legal t.setup (after_all ((x sink).events ++ es) p.history)
  legal_behind sink es law with_them =
      subst (λ (h : List Event). Legal t.setup h) (sym (after_all-append (x sink).events es p.history))
      (with_them (law (here sink).history (x sink).at.standing))

  -- what was told where passes ended behind those so far
  stopped_ends : (sink : SinkTells) (es : List Event) (ls : List Logged) (stop : Stop)
      → (stop ≡ stops.SinkFault → ⊥) → (stop ≡ stops.Unformatted → ⊥) → Stops (moves sink) es ls stop
      → CallEnds 1 (Err stop) (IsCut stop) (told n0 sink w0) (told na sink wa) ((x sink).events ++ es)
      ((x sink).log ++ ls)
  stopped_ends sink es ls stops.OutOfMemory none unlined ends =
      gains_both 1 (told n0 sink w0) (told nb sink wb) (told na sink wa) (x sink).events es (x sink).log ls
      (x sink).told ends
  stopped_ends sink es ls stops.SinkFault none unlined ends = absurd (none refl)
  stopped_ends sink es ls stops.Unformatted none unlined ends = absurd (unlined refl)
  stopped_ends sink es ls stops.WireFault none unlined ends =
      breaks_behind 1 (told n0 sink w0) (told nb sink wb) (told na sink wa) (x sink).events es (x sink).log ls
      (x sink).told ends
  stopped_ends sink es ls stops.Unnoted none unlined ends =
      refuses_behind 1 (told n0 sink w0) (told nb sink wb) (told na sink wa) (x sink).events es (x sink).log ls
      (x sink).told ends
  stopped_ends sink es ls stops.Endless none unlined ends =
      gains_both 1 (told n0 sink w0) (told nb sink wb) (told na sink wa) (x sink).events es (x sink).log ls
      (x sink).told ends

  -- no sink fails
  sinks_hold : (part : Part CallerState) (shows : CallerState → Type 0) (stop : Stop)
      → ((sink : SinkTells) → Plays (moves sink) part shows (Some stop)) → stop ≡ stops.SinkFault → ⊥
  sinks_hold part shows stops.OutOfMemory plays is = search rules
  sinks_hold part shows stops.WireFault plays is = search rules
  sinks_hold part shows stops.Unnoted plays is = search rules
  sinks_hold part shows stops.Endless plays is = search rules
  sinks_hold part shows stops.Unformatted plays is = search rules
  sinks_hold part shows stops.SinkFault plays is = of r.came r.fits
    where
      none : SinkTells
      none = sink_tells None 0

      r : Ran (moves none) part shows (Some stops.SinkFault) (here none)
      r = plays none (here none) (x none).at

      of : (came : Came CallerState) → Fits (moves none) shows (here none) r.events r.log came (Some stops.SinkFault)
          → ⊥
      of (To u) fits = absurd fits
      of (Cut why) fits = no_rise fits.1.puts

  -- passes ended in one of them
  pub call_stopped : (shows : CallerState → Type 0) (stop : Stop)
      → ((sink : SinkTells) → Plays (moves sink) whole_pass shows (Some stop)) → n < t.turns
      → ((h : List Event) → s1 h → Legal t.setup h) → (sink : SinkTells)
      → CallMade t v p (Err stop) (told n0 sink w0) (told na sink wa)
  call_stopped shows stop plays low law sink = of r.came r.made r.fits
    where
      r : Ran (moves sink) whole_pass shows (Some stop) (here sink)
      r = plays sink (here sink) (x sink).at

      of : (came : Came CallerState) → whole_pass (here sink) r.events r.log came
          → Fits (moves sink) shows (here sink) r.events r.log came (Some stop)
          → CallMade t v p (Err stop) (told n0 sink w0) (told na sink wa)
      of (To u) made fits = absurd fits
      of (Cut why) made fits =
          record {
            events = (x sink).events ++ r.events;
            log = (x sink).log ++ r.log;
            came = IsCut stop;
            calls = calls_cut stop n (x sink).events r.events (x sink).log r.log w low (x sink).passed
                (subst (λ (k : Stop). whole_pass (here sink) r.events r.log (Cut k)) fits.0 made);
            legal = legal_behind sink r.events law r.legal;
            ends = stopped_ends sink r.events r.log stop (sinks_hold whole_pass shows stop plays)
                (λ is. pass_lineless t.most t.setup None w (here sink) r.events r.log
                (subst (λ (k : Stop). whole_pass (here sink) r.events r.log (Cut k)) (fits.0 ∙ is) made)) fits.1;
          }

  -- passes ended in the last one
  pub call_stopped_last : (shows : CallerState → Type 0) (stop : Stop)
      → ((sink : SinkTells) → Plays (moves sink) (call_play t w) shows (Some stop)) → n ≡ t.turns
      → ((h : List Event) → s1 h → Legal t.setup h) → (sink : SinkTells)
      → CallMade t v p (Err stop) (told n0 sink w0) (told na sink wa)
  call_stopped_last shows stop plays all law sink = of r.came r.made r.fits
    where
      r : Ran (moves sink) (call_play t w) shows (Some stop) (here sink)
      r = plays sink (here sink) (x sink).at

      of : (came : Came CallerState) → call_play t w (here sink) r.events r.log came
          → Fits (moves sink) shows (here sink) r.events r.log came (Some stop)
          → CallMade t v p (Err stop) (told n0 sink w0) (told na sink wa)
      of (To u) made fits = absurd fits
      of (Cut why) made fits =
          record {
            events = (x sink).events ++ r.events;
            log = (x sink).log ++ r.log;
            came = IsCut stop;
            calls = calls_cut_last stop (x sink).events r.events (x sink).log r.log w
                (subst (λ (k : ℕ). CallPassed t v p k (x sink).events (x sink).log w) all (x sink).passed)
                (subst (λ (k : Stop). call_play t w (here sink) r.events r.log (Cut k)) fits.0 made);
            legal = legal_behind sink r.events law r.legal;
            ends = stopped_ends sink r.events r.log stop (sinks_hold (call_play t w) shows stop plays)
                (λ is. play_lineless t.most w (here sink) r.events r.log
                (subst (λ (k : Stop). call_play t w (here sink) r.events r.log (Cut k)) (fits.0 ∙ is) made)) fits.1;
          }

  -- the call ended in a pass
  pub call_ended : (next : CallerState) (sink : SinkTells) → Plays (moves sink) (call_play t w) (λ u. u ≡ next) None
      → n ≤ t.turns → is_some next.end ≡ true → ((h : List Event) → s1 h → Legal t.setup h)
      → CallMade t v p (Ok (call_ends.Ended next)) (told n0 sink w0) (told na sink wa)
  call_ended next sink plays low done law = of r.came r.made r.fits
    where
      r : Ran (moves sink) (call_play t w) (λ u. u ≡ next) None (here sink)
      r = plays (here sink) (x sink).at

      of : (came : Came CallerState) → call_play t w (here sink) r.events r.log came
          → Fits (moves sink) (λ u. u ≡ next) (here sink) r.events r.log came None
          → CallMade t v p (Ok (call_ends.Ended next)) (told n0 sink w0) (told na sink wa)
      of (To u) made (is, gained, there) =
          record {
            events = (x sink).events ++ r.events;
            log = (x sink).log ++ r.log;
            came = IsEnded u;
            calls = calls_ended n (x sink).events r.events (x sink).log r.log w u low (x sink).passed made
                (subst (λ (k : CallerState). is_some k.end ≡ true) (sym is) done);
            legal = legal_behind sink r.events law r.legal;
            ends = (
              sym is,
              gains_both 1 (told n0 sink w0) (told nb sink wb) (told na sink wa) (x sink).events r.events
                  (x sink).log r.log (x sink).told gained,
            );
          }
      of (Cut why) made fits = absurd fits

  -- all takes were made: the last pass was made up to its take
  pub call_spent : (next : CallerState) (sink : SinkTells) → Plays (moves sink) (call_play t w) (λ u. u ≡ next) None
      → n ≡ t.turns → next.end ≡ None → ((h : List Event) → s1 h → Legal t.setup h)
      → CallMade t v p (Ok call_ends.TurnsSpent) (told n0 sink w0) (told na sink wa)
  call_spent next sink plays all unended law = of r.came r.made r.fits
    where
      r : Ran (moves sink) (call_play t w) (λ u. u ≡ next) None (here sink)
      r = plays (here sink) (x sink).at

      of : (came : Came CallerState) → call_play t w (here sink) r.events r.log came
          → Fits (moves sink) (λ u. u ≡ next) (here sink) r.events r.log came None
          → CallMade t v p (Ok call_ends.TurnsSpent) (told n0 sink w0) (told na sink wa)
      of (To u) made (is, gained, there) =
          record {
            events = (x sink).events ++ r.events;
            log = (x sink).log ++ r.log;
            came = IsSpent;
            calls = calls_spent (x sink).events r.events (x sink).log r.log w u
                (subst (λ (k : ℕ). CallPassed t v p k (x sink).events (x sink).log w) all (x sink).passed) made
                (subst (λ (k : CallerState). k.end ≡ None) (sym is) unended);
            legal = legal_behind sink r.events law r.legal;
            ends = gains_both 1 (told n0 sink w0) (told nb sink wb) (told na sink wa) (x sink).events r.events
                (x sink).log r.log (x sink).told gained;
          }
      of (Cut why) made fits = absurd fits

-- ---- the same under other names

abbrev pub call_pass_by : Setup → ℕ → CallerState → Part CallerState
call_pass_by s most v = pass (plays most calls) (takes s None) v

module _ (s t : Setup) (k most : ℕ) (v : CallerState) (s0 s1 : List Event → Type 0) (a b : Told)
    (shows : CallerState → Type 0) (stop : Option Stop) where
  -- a pass of it under other names
  pub call_pass_at : t ≡ s → k ≡ most → Plays (change 1 t s0 s1 a b) (call_pass_by t k v) shows stop
      → Plays (change 1 s s0 s1 a b) (call_pass_by s most v) shows stop
  call_pass_at setup joins made =
      subst (λ (u : Setup). Plays (change 1 u s0 s1 a b) (call_pass_by u most v) shows stop) setup
      (subst (λ (m : ℕ). Plays (change 1 t s0 s1 a b) (call_pass_by t m v) shows stop) joins made)

  pub call_play_at : t ≡ s → k ≡ most → Plays (change 1 t s0 s1 a b) (plays k calls v) shows stop
      → Plays (change 1 s s0 s1 a b) (plays most calls v) shows stop
  call_play_at setup joins made =
      subst (λ (u : Setup). Plays (change 1 u s0 s1 a b) (plays most calls v) shows stop) setup
      (subst (λ (m : ℕ). Plays (change 1 t s0 s1 a b) (plays m calls v) shows stop) joins made)

-- what a call is made by, with names for its setup and what it joins
abbrev pub call_terms_by : Setup → ℕ → ℕ → CallTerms
call_terms_by s most turns = record { setup = s; most = most; turns = turns }

-- there is none
pub none_of : {A : Type 0} (o : Option A) → is_some o ≡ false → o ≡ None
none_of None is = refl
none_of (Some x) is = search rules

-- the place of a client is the same whatever the sink has
pub at_any : (s : Setup) (stands : List Event → Type 0) (noted : Option (List Noted)) (wire : WireTells)
    (one other : SinkTells) (p : Place) → IsAt s stands (told noted one wire) p → IsAt s stands (told noted other wire)
    p
at_any s stands noted wire one other p at = record { standing = at.standing; now = at.now; later = at.later }
