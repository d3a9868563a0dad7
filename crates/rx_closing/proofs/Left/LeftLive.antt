-- Three plans whose rounds close the one call that lives as they begin, and what four wrong bodies leave of it behind
-- them: it isn't what such a plan leaves, by what is said of its rounds alone. Each body was written into the code, and
-- each plan was run: the traces that the right code prints stand in examples/.
use Rattle.std.proofs.Common.{◌≡◌, ◌≤◌, ◌*◌, ◌++◌, ℕ, pos, negsuc, zero, suc, Bool, true, false, List, [], ◌∷◌, length}
use Rattle.std.proofs.Common.{replicate, reverse, refl, sym, subst, inl, Some, None, Ok, Err, String, Vec, arith}
use Rattle.std.proofs.Common.{string_bytes}
use Rattle.std.specs.Global.{Global}
use Rattle.std.proofs.lemmas.List.Elements.{All-from_recursion}
use Rattle.xdr_value.specs.Data.{Procedure}
use Rattle.xdr_value.specs.declared.value.Value.{Value}
use Rattle.rx_model.specs.declared.answers.End.TheVariants as ends
use Rattle.rx_model.specs.declared.answers.ReadAns.TheVariants as answers
use Rattle.rx_model.specs.declared.answers.ServeRefused.TheVariants as refusals
use Rattle.rx_model.specs.declared.answers.Took.TheVariants as tooks
use Rattle.rx_model.specs.declared.answers.WroteGot.TheVariants as writers
use Rattle.rx_model.specs.declared.event.Event.TheVariants as events
use Rattle.rx_model.specs.declared.event.Noted.{Noted}
use Rattle.rx_rules.specs.After.{looks}
use Rattle.rx_history.specs.Sides.{side}
use Rattle.rx_history.specs.Streams.{end_at}
use Rattle.rx_law.specs.Promises.{ServerForgotNone}
use Rattle.rx_script.specs.Served.{as_counted, bytes}
use Rattle.rx_script.specs.declared.plan.Numbered.{Numbered}
use Rattle.rx_script.specs.declared.plan.PlanLine.TheVariants as lines
use Rattle.rx_asks.specs.declared.ask.Phase.TheVariants as phases
use Rattle.rx_jobs.specs.Handlers.{served_for}
use Rattle.rx_plan.specs.Answering.{AreDriven, IsDriven, invoked_at, request_for}
use Rattle.rx_plan.specs.Stages.{Stage}
use Rattle.rx_rounds.specs.Bounds.{default_limits}
use Rattle.rx_rounds.proofs.Rounded.{caller_at}
use Rattle.rx_closing.specs.Work.{work_of}
use Rattle.rx_closing.specs.Closing.{RepliesFit}
use Rattle.rx_closing.specs.Ended.{AreFair, ClosesFrom, SilentFrom}
use Rattle.rx_closing.proofs.Left.LeftScene.{EndsNone, accepted, ack_of, are_low, are_open, asked, asks_till_dead}
use Rattle.rx_closing.proofs.Left.LeftScene.{at_s, called, client, clocks_to, data_of, distinct}
use Rattle.rx_closing.proofs.Left.LeftScene.{finished}
use Rattle.rx_closing.proofs.Left.LeftScene.{four, g, get, get_serves, get_work, gives_c, gives_s, invoke, late}
use Rattle.rx_closing.proofs.Left.LeftScene.{late_serves}
use Rattle.rx_closing.proofs.Left.LeftScene.{lives_in, lives_on, low_moment, nodes, none_c, none_full, none_s}
use Rattle.rx_closing.proofs.Left.LeftScene.{none_waits}
use Rattle.rx_closing.proofs.Left.LeftScene.{quiet_to, reads_c, sent, takes_c, takes_s, touch, touch_serves, touch_work}
use Rattle.rx_closing.proofs.Left.NoMore.{none_dies_heard, none_lives_on}
use Rattle.rx_rounds.proofs.LeftOpen.{at_client, at_server, call}

module _ (any : Stage) (proc : Procedure → String Global)
    (named : (p : Procedure) → string_bytes (proc p) ≡ p.name) (args : Vec Value Global) (none : args.items ≡ []) where
  -- ---- stages

  -- a stage with these events, and a caller that has so much of its request to say
  abbrev stage : List Noted → List ℕ → Bool → Stage
  stage es offering shut =
      record any {
        nodes = nodes;
        history = reverse es;
        callers = caller_at 1 3
            (record {
              call = call;
              offering = offering;
              shut = shut;
              reply = [];
              end = None;
              phase = phases.Resting;
            }) ∷ [];
      }

  -- server 10.0.0.1:7000
  -- client 10.0.0.2:7001 epoch=1
  -- connect c1
  -- invoke c1 4 .. []
  abbrev invokes : Procedure → List Numbered → List Numbered
  invokes p more =
      record { line = 1; what = lines.Server at_server 1 default_limits None 0 }
      ∷ record { line = 2; what = lines.Client at_client 1 default_limits None }
      ∷ record { line = 3; what = lines.Connect 1 1 }
      ∷ record { line = 4; what = lines.Invoke 1 4 (proc p) None p.split args } ∷ more

  abbrev Driven : Numbered → Type 0
  Driven l = IsDriven l.what

  -- what is asked of such a plan's lines, and of a stage that they come to
  fair : (p : Procedure) (more : List Numbered) (es : List Noted) (offering : List ℕ) (shut : Bool) (t : Stage)
      → invoked_at g (invokes p more) 3 ≡ Some (invoke p) → (reply : List ℕ)
      → served_for g (request_for g (invoke p)) ≡ bytes reply → length reply ≤ 65536 → AreDriven (invokes p more)
      → are_low (reverse es) ≡ true → ServerForgotNone nodes t.history
      → AreFair g (invokes p more) (stage es offering shut) t
  fair p more es offering shut t invoked reply serves brief driven low kept =
      record {
        driven = driven;
        distinct = distinct;
        open_ = are_open;
        kept = inl kept;
        early = λ k. omega (arith, low_moment (reverse es) low k);
        replies = replies;
      }
    where
      replies : RepliesFit g (invokes p more) (stage es offering shut)
      replies zero = rw (invoked, serves) (omega (arith, brief))
      replies (suc place) = tt

  -- ---- a reply that is lost twice before the rounds (examples/twice-lost-reply.plan)

  abbrev lost_lines : List Numbered
  lost_lines =
      invokes touch
      (record { line = 5; what = lines.Turn 1 } ∷ record { line = 6; what = lines.Poll 1 }
      ∷ record { line = 7; what = lines.Deliver 1 } ∷ record { line = 8; what = lines.Turn 0 }
      ∷ record { line = 9; what = lines.Poll 0 } ∷ record { line = 10; what = lines.Poll 0 }
      ∷ record { line = 11; what = lines.Clock None 1000 } ∷ record { line = 12; what = lines.Poll 0 } ∷ [])

  abbrev lost_before : List Noted
  lost_before =
      called ++ asked 1 ++ gives_c (data_of 1 1 7 (four 1)) ∷ accepted 1 ++ finished ∷ gives_s (data_of 1 1 6 [])
      ∷ gives_s (ack_of 2 0 2 1 1 1 []) ∷ clocks_to 1000 ++ gives_s (data_of 1 3 6 []) ∷ []

  -- an end that gives a lost piece again only once: in 20,000 rounds the client asks for signs of life and hears them,
  -- and nothing ends its call
  given_once_more : (t : Stage) (later : List Noted) → t.history ≡ later ++ reverse lost_before
      → EndsNone (reverse lost_before) later → ServerForgotNone nodes t.history
      → ClosesFrom g lost_lines 20000 (stage lost_before [] true) t → ⊥
  given_once_more t later are none_ends kept closes =
      none_lives_on g lost_lines 20000 (stage lost_before [] true) t closes
      (fair touch _ lost_before [] true t invoked [] touch_serves (omega arith) driven refl kept) call refl enough
      (record {
        client = 0;
        node = client;
        there = refl;
        lived = refl;
        lives =
            subst (λ (h : List Noted). lives_in h ≡ true) (sym are)
            (lives_on (reverse lost_before) later none_ends refl);
      })
    where
      invoked : invoked_at g lost_lines 3 ≡ Some (invoke touch)
      invoked = rw (named touch, none) refl

      enough : 2000 * work_of g lost_lines (stage lost_before [] true) call ≤ 20000
      enough = rw (invoked, touch_work) (omega arith)

      driven : AreDriven lost_lines
      driven =
          All-from_recursion Driven lost_lines
          (tt, (tt, (tt, (tt, (tt, (tt, (tt, (tt, (tt, (tt, (tt, (tt, tt))))))))))))

  -- ---- a handler that waits (examples/waiting-handler.plan)

  abbrev waiting_lines : List Numbered
  waiting_lines = invokes late []

  -- in the rounds: the request is said, comes, and is acknowledged, and that is heard
  abbrev waiting_first : List Noted
  waiting_first =
      none_c ∷ none_s ∷ none_waits ∷ asked 2
      ++ gives_c (data_of 1 1 7 (four 2)) ∷ none_c ∷ none_s ∷ accepted 2
      ++ reads_c answers.NotYet ∷ none_c ∷ gives_s (ack_of 1 0 2 1 1 1 []) ∷ none_s ∷ []

  -- then nothing is due before the call is silent at both ends
  abbrev waiting_last : List Noted
  waiting_last =
      none_waits ∷ reads_c answers.NotYet ∷ quiet_to 12000
      ++ none_c ∷ none_s ∷ none_waits ∷ at_s (events.Finished call (pos 0) (Err (refusals.Gone (negsuc 0))))
      ∷ reads_c (answers.Gone (ends.Dead 12000)) ∷ []

  abbrev waiting_rounds : List Noted
  waiting_rounds = waiting_first ++ takes_c (ack_of 1 0 2 1 1 1 []) tooks.Heard ∷ waiting_last

  -- a client that asks for no sign of life
  never_asked : (t : Stage) → t.history ≡ reverse (called ++ waiting_rounds)
      → SilentFrom g waiting_lines (stage called (request_for g (invoke late)) false) waiting_rounds t → ⊥
  never_asked t are silent =
      none_dies_heard g waiting_lines (stage called (request_for g (invoke late)) false) waiting_rounds t silent
      (fair late [] called (request_for g (invoke late)) false t (rw (named late, none) refl) [] late_serves
      (omega arith)
      (All-from_recursion Driven waiting_lines (tt, (tt, (tt, (tt, tt))))) refl
      (subst (ServerForgotNone nodes) (sym are) refl)) call refl
      (record {
        client = 0;
        node = client;
        there = refl;
        lived = refl;
        silence = 12000;
        dead =
            subst (λ (h : List Noted). end_at (looks client.setup (side 1 h)) call ≡ Some (ends.Dead 12000)) (sym are)
            refl;
        heard =
            record {
              before = waiting_first;
              event = events.Taken at_server (ack_of 1 0 2 1 1 1 []) tooks.Heard;
              later = waiting_last;
              are = refl;
              comes =
                  record {
                    from = at_server;
                    datagram = ack_of 1 0 2 1 1 1 [];
                    got = tooks.Heard;
                    is = refl;
                    message = _;
                    reads = refl;
                    of = refl;
                    such = refl;
                  };
            };
        placed = none_full waiting_rounds refl;
      })

  -- ---- a reply whose first piece is lost before the rounds (examples/marked-reply.plan)

  abbrev marked_lines : List Numbered
  marked_lines =
      invokes get
      (record { line = 5; what = lines.Turn 1 } ∷ record { line = 6; what = lines.Poll 1 }
      ∷ record { line = 7; what = lines.Deliver 1 } ∷ record { line = 8; what = lines.Turn 0 }
      ∷ record { line = 9; what = lines.Poll 0 } ∷ [])

  abbrev marked_before : List Noted
  marked_before =
      called ++ asked 3 ++ gives_c (data_of 1 1 7 (four 3)) ∷ accepted 3
      ++ at_s (events.Wrote call 1504 (writers.Server (Ok 1504)) (0 ∷ 0 ∷ 5 ∷ 220 ∷ sent)) ∷ finished
      ∷ gives_s (data_of 1 1 0 (0 ∷ 0 ∷ 5 ∷ 220 ∷ replicate 1408 90)) ∷ []

  invoked_get : invoked_at g marked_lines 3 ≡ Some (invoke get)
  invoked_get = rw (named get, none) refl

  marked_fair : (t : Stage) → ServerForgotNone nodes t.history → AreFair g marked_lines (stage marked_before [] true) t
  marked_fair t kept =
      fair get _ marked_before [] true t invoked_get (as_counted sent) get_serves (omega arith) driven refl kept
    where
      driven : AreDriven marked_lines
      driven = All-from_recursion Driven marked_lines (tt, (tt, (tt, (tt, (tt, (tt, (tt, (tt, (tt, tt)))))))))

  -- a server that takes what lies below a mark for acknowledged: it hears the client's pings for 22,000 rounds, and
  -- answers them
  taken_below_a_mark : (t : Stage) (later : List Noted) → t.history ≡ later ++ reverse marked_before
      → EndsNone (reverse marked_before) later → ServerForgotNone nodes t.history
      → ClosesFrom g marked_lines 22000 (stage marked_before [] true) t → ⊥
  taken_below_a_mark t later are none_ends kept closes =
      none_lives_on g marked_lines 22000 (stage marked_before [] true) t closes (marked_fair t kept) call refl enough
      (record {
        client = 0;
        node = client;
        there = refl;
        lived = refl;
        lives =
            subst (λ (h : List Noted). lives_in h ≡ true) (sym are)
            (lives_on (reverse marked_before) later none_ends refl);
      })
    where
      enough : 2000 * work_of g marked_lines (stage marked_before [] true) call ≤ 22000
      enough = rw (invoked_get, get_work) (omega arith)

  -- the second piece, which the client hears in the rounds
  abbrev second_piece : List ℕ
  second_piece = data_of 2 2 6 (replicate 92 90)

  abbrev marked_last : List Noted
  marked_last =
      takes_c (ack_of 3 0 2 1 1 1 []) tooks.Heard ∷ none_waits ∷ reads_c answers.NotYet
      ∷ gives_c (ack_of 2 1 1 2 2 3 (0 ∷ 1 ∷ [])) ∷ none_c ∷ none_s
      ∷ takes_s (ack_of 2 1 1 2 2 3 (0 ∷ 1 ∷ [])) tooks.Heard ∷ none_waits ∷ reads_c answers.NotYet ∷ asks_till_dead

  abbrev marked_rounds : List Noted
  marked_rounds =
      none_c ∷ gives_s second_piece ∷ gives_s (ack_of 3 0 2 1 1 1 []) ∷ none_s
      ∷ takes_c second_piece tooks.Kept ∷ marked_last

  -- a server that forgets a reply of which a part is marked
  forgotten_at_a_mark : (t : Stage) → t.history ≡ reverse (marked_before ++ marked_rounds)
      → SilentFrom g marked_lines (stage marked_before [] true) marked_rounds t → ⊥
  forgotten_at_a_mark t are silent =
      none_dies_heard g marked_lines (stage marked_before [] true) marked_rounds t silent
      (marked_fair t (subst (ServerForgotNone nodes) (sym are) refl)) call refl
      (record {
        client = 0;
        node = client;
        there = refl;
        lived = refl;
        silence = 12000;
        dead =
            subst (λ (h : List Noted). end_at (looks client.setup (side 1 h)) call ≡ Some (ends.Dead 12000)) (sym are)
            refl;
        heard =
            record {
              before =
                  none_c ∷ gives_s second_piece ∷ gives_s (ack_of 3 0 2 1 1 1 []) ∷ none_s ∷ [];
              event = events.Taken at_server second_piece tooks.Kept;
              later = marked_last;
              are = refl;
              comes =
                  record {
                    from = at_server;
                    datagram = second_piece;
                    got = tooks.Kept;
                    is = refl;
                    message = _;
                    reads = refl;
                    of = refl;
                    such = refl;
                  };
            };
        placed = none_full marked_rounds refl;
      })
