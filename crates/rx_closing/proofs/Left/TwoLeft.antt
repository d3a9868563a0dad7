-- Three plans whose rounds close the two calls that live as they begin, and what three wrong bodies leave of one behind
-- them: it isn't what such a plan leaves, by what is said of its rounds alone. Each body was written into the code, and
-- each plan was run: the traces that the right code prints stand in examples/.
use Rattle.std.proofs.Common.{◌≡◌, ◌≤◌, ◌++◌, ℕ, pos, negsuc, zero, suc, true, false, List, [], ◌∷◌, reverse}
use Rattle.std.proofs.Common.{refl, sym, subst, inl, Some, None, Ok, Err, String, Vec, arith, string_bytes}
use Rattle.std.specs.Global.{Global}
use Rattle.std.proofs.lemmas.List.Elements.{All-from_recursion}
use Rattle.xdr_value.specs.Data.{Procedure}
use Rattle.xdr_value.specs.declared.value.Value.{Value}
use Rattle.rx_model.specs.declared.answers.End.TheVariants as ends
use Rattle.rx_model.specs.declared.answers.ReadAns.TheVariants as answers
use Rattle.rx_model.specs.declared.answers.ReadGot.TheVariants as readers
use Rattle.rx_model.specs.declared.answers.ServeRead.TheVariants as reads
use Rattle.rx_model.specs.declared.answers.ServeRefused.TheVariants as refusals
use Rattle.rx_model.specs.declared.answers.Took.TheVariants as tooks
use Rattle.rx_model.specs.declared.event.Event.TheVariants as events
use Rattle.rx_model.specs.declared.event.Noted.{Noted}
use Rattle.rx_rules.specs.After.{looks}
use Rattle.rx_history.specs.Sides.{side}
use Rattle.rx_history.specs.Streams.{end_at}
use Rattle.rx_law.specs.Promises.{ServerForgotNone}
use Rattle.rx_script.specs.Served.{bytes}
use Rattle.rx_script.specs.declared.plan.Numbered.{Numbered}
use Rattle.rx_script.specs.declared.plan.PlanLine.TheVariants as lines
use Rattle.rx_jobs.specs.Handlers.{Handlers, served_for}
use Rattle.rx_plan.specs.Answering.{AreDriven, IsDriven, invoked_at, request_for}
use Rattle.rx_plan.specs.Stages.{InvokedState, Stage}
use Rattle.rx_rounds.specs.Bounds.{default_limits}
use Rattle.rx_closing.specs.Closing.{RepliesFit}
use Rattle.rx_closing.specs.Ended.{AreFair}
use Rattle.rx_closing.proofs.Left.LeftScene.{accepted, ack_of, are_low, are_open, asked, at_c, at_s}
use Rattle.rx_closing.proofs.Left.LeftScene.{called, client, clocks_to, data_of, datagram, distinct, finished}
use Rattle.rx_closing.proofs.Left.LeftScene.{four}
use Rattle.rx_closing.proofs.Left.LeftScene.{g, gives_c, gives_s, invoke, late, low_moment, nodes, none_c, none_s}
use Rattle.rx_closing.proofs.Left.LeftScene.{none_waits, reads_c, server, takes_c, takes_s, touch, touch_serves}
use Rattle.rx_closing.proofs.Left.LeftScene.{touch_work}
use Rattle.rx_closing.specs.EndedAll.{ClosesAllFrom, SilentAllFrom}
use Rattle.rx_closing.specs.Several.{enough_for}
use Rattle.rx_closing.proofs.Left.NoneLeft.{none_of_all_dies_heard, none_of_all_lives_on}
use Rattle.rx_closing.proofs.Left.TwoCalls.{EndsNone, asked_of, beside, caller_of, calls, far, far_datagram, has_room}
use Rattle.rx_closing.proofs.Left.TwoCalls.{lives_in, lives_on, long, long_serves, never_full, reads_of, second}
use Rattle.rx_rounds.proofs.LeftOpen.{at_client, at_server, call}

module _ (any : Stage) (proc : Procedure → String Global)
    (named : (p : Procedure) → string_bytes (proc p) ≡ p.name) (args : Vec Value Global) (none : args.items ≡ []) where
  -- ---- plans

  -- server 10.0.0.1:7000
  -- client 10.0.0.2:7001 epoch=1
  -- connect c1
  abbrev opened : List Numbered → List Numbered
  opened more =
      record { line = 1; what = lines.Server at_server 1 default_limits None 0 }
      ∷ record { line = 2; what = lines.Client at_client 1 default_limits None }
      ∷ record { line = 3; what = lines.Connect 1 1 } ∷ more

  -- invoke c1 .. .. []
  abbrev invokes : ℕ → ℕ → Procedure → Numbered
  invokes line cid p = record { line = line; what = lines.Invoke 1 cid (proc p) None p.split args }

  abbrev Driven : Numbered → Type 0
  Driven l = IsDriven l.what

  -- ---- stages

  -- a stage with these events, and with two callers
  abbrev stage : List Noted → InvokedState → InvokedState → Stage
  stage es a b = record any { nodes = nodes; history = reverse es; callers = a ∷ b ∷ [] }

  -- what is asked of such a plan's lines, and of a stage that they come to, where both invokes are of one procedure
  fair : (h : Handlers) (p : Procedure) (more : List Numbered) (es : List Noted) (a b : InvokedState) (t : Stage)
      → invoked_at h (opened more) a.line ≡ Some (invoke p) → invoked_at h (opened more) b.line ≡ Some (invoke p)
      → served_for h (request_for h (invoke p)) ≡ bytes [] → AreDriven (opened more) → are_low (reverse es) ≡ true
      → ServerForgotNone nodes t.history → AreFair h (opened more) (stage es a b) t
  fair h p more es a b t one two serves driven low kept =
      record {
        driven = driven;
        distinct = distinct;
        open_ = are_open;
        kept = inl kept;
        early = λ k. omega (arith, low_moment (reverse es) low k);
        replies = replies;
      }
    where
      replies : RepliesFit h (opened more) (stage es a b)
      replies zero = rw (one, serves) (omega arith)
      replies (suc zero) = rw (two, serves) (omega arith)
      replies (suc (suc place)) = tt

  -- ---- a request that is lost on the first channel, and one that waits on the next (examples/one-of-two-lost.plan)

  abbrev lost_lines : List Numbered
  lost_lines =
      opened
      (invokes 4 4 touch ∷ invokes 5 4 touch ∷ record { line = 6; what = lines.Turn 1 }
      ∷ record { line = 7; what = lines.Poll 1 } ∷ [])

  abbrev lost_before : List Noted
  lost_before = called ++ calls beside ∷ asked 1 ++ asked_of beside 1 ++ gives_c (data_of 1 1 7 (four 1)) ∷ []

  abbrev lost_stage : Stage
  lost_stage = stage lost_before (caller_of 1 3 call [] true None) (caller_of 2 4 beside [] true None)

  -- rounds in which nothing is given and no clock moves, the newest event first
  abbrev quiet : ℕ → List Noted
  quiet zero = []
  quiet (suc n) =
      reads_of beside answers.NotYet ∷ reads_c answers.NotYet ∷ none_waits ∷ none_s ∷ none_c ∷ quiet n

  -- the client stands in them as it stood, and so does the server
  client_stands : (n : ℕ) → looks client.setup (side 1 (quiet n ++ reverse lost_before))
      ≡ looks client.setup (side 1 (reverse lost_before))
  client_stands zero = refl
  client_stands (suc n) = rw (client_stands n) refl

  server_stands : (n : ℕ) → looks server.setup (side 0 (quiet n ++ reverse lost_before))
      ≡ looks server.setup (side 0 (reverse lost_before))
  server_stands zero = refl
  server_stands (suc n) = rw (server_stands n) refl

  -- a poll that waits for its node's first channel as long as that owes anything: what the client's second channel
  -- owes is due at once and isn't given, so no clock moves, and the first channel's piece never comes to its time
  waits_for_the_first_channel : (n : ℕ) (t : Stage) → 60000 ≤ n → t.history ≡ quiet n ++ reverse lost_before
      → ClosesAllFrom g lost_lines n lost_stage t → ⊥
  waits_for_the_first_channel n t many are closes =
      none_of_all_lives_on g lost_lines n lost_stage t closes
      (fair g touch _ lost_before _ _ t first other touch_serves driven refl
      (subst (ServerForgotNone nodes) (sym are) (rw (server_stands n) refl)))
      (has_room lost_stage refl refl) enough beside
      (record {
        client = 0;
        node = client;
        there = refl;
        lived = refl;
        lives =
            subst (λ (h : List Noted). lives_in beside h ≡ true) (sym are) (rw (client_stands n) refl);
      })
    where
      first : invoked_at g lost_lines 3 ≡ Some (invoke touch)
      first = rw (named touch, none) refl

      other : invoked_at g lost_lines 4 ≡ Some (invoke touch)
      other = rw (named touch, none) refl

      enough : enough_for g lost_lines lost_stage ≤ n
      enough = rw (first, touch_work) (omega (arith, many))

      driven : AreDriven lost_lines
      driven = All-from_recursion Driven lost_lines (tt, (tt, (tt, (tt, (tt, (tt, (tt, tt)))))))

  -- ---- the next call of a channel, whose call before ended at its client alone (examples/next-of-a-channel.plan)

  abbrev next_lines : List Numbered
  next_lines =
      opened
      (invokes 4 4 touch ∷ record { line = 5; what = lines.Turn 1 } ∷ record { line = 6; what = lines.Poll 1 }
      ∷ record { line = 7; what = lines.Deliver 1 } ∷ record { line = 8; what = lines.Turn 0 }
      ∷ record { line = 9; what = lines.Poll 0 } ∷ record { line = 10; what = lines.Deliver 2 }
      ∷ record { line = 11; what = lines.Turn 1 } ∷ record { line = 12; what = lines.Poll 1 } ∷ invokes 13 4 touch ∷ [])

  abbrev next_before : List Noted
  next_before =
      called ++ asked 1 ++ gives_c (data_of 1 1 7 (four 1)) ∷ accepted 1 ++ finished ∷ gives_s (data_of 1 1 6 [])
      ∷ takes_c (data_of 1 1 6 []) tooks.Kept ∷ reads_c answers.End ∷ gives_c (datagram 0 2 5 1 []) ∷ calls second ∷ []

  abbrev next_stage : Stage
  next_stage =
      stage next_before (caller_of 1 3 call [] true (Some ends.Ok))
      (caller_of 2 12 second (request_for g (invoke touch)) false None)

  -- a server that is busy for each later call of a channel that had one: its client hears so for 60,000 rounds, and
  -- says its request again
  is_busy_behind_any_call : (t : Stage) (later : List Noted) → t.history ≡ later ++ reverse next_before
      → EndsNone second (reverse next_before) later → ServerForgotNone nodes t.history
      → ClosesAllFrom g next_lines 60000 next_stage t → ⊥
  is_busy_behind_any_call t later are none_ends kept closes =
      none_of_all_lives_on g next_lines 60000 next_stage t closes
      (fair g touch _ next_before _ _ t first other touch_serves driven refl kept) (has_room next_stage refl refl)
      enough second
      (record {
        client = 0;
        node = client;
        there = refl;
        lived = refl;
        lives =
            subst (λ (h : List Noted). lives_in second h ≡ true) (sym are)
            (lives_on second (reverse next_before) later none_ends refl);
      })
    where
      first : invoked_at g next_lines 3 ≡ Some (invoke touch)
      first = rw (named touch, none) refl

      other : invoked_at g next_lines 12 ≡ Some (invoke touch)
      other = rw (named touch, none) refl

      enough : enough_for g next_lines next_stage ≤ 60000
      enough = rw (first, touch_work) (omega arith)

      driven : AreDriven next_lines
      driven =
          All-from_recursion Driven next_lines
          (tt, (tt, (tt, (tt, (tt, (tt, (tt, (tt, (tt, (tt, (tt, (tt, (tt, tt)))))))))))))

  -- ---- two handlers that wait (examples/two-handlers-wait.plan)

  abbrev waiting_lines : List Numbered
  waiting_lines =
      opened
      (record { line = 4; what = lines.Connect 1 1 } ∷ invokes 5 8 late ∷ record { line = 6; what = lines.Turn 1 }
      ∷ record { line = 7; what = lines.Poll 1 } ∷ record { line = 8; what = lines.Deliver 1 }
      ∷ record { line = 9; what = lines.Turn 0 } ∷ invokes 10 4 late ∷ [])

  abbrev waiting_before : List Noted
  waiting_before =
      at_c (events.Linked at_server 1 1 (Ok 4)) ∷ at_c (events.Linked at_server 1 1 (Ok 8)) ∷ calls far ∷ asked_of far 2
      ++ gives_c (far_datagram 1 1 1 7 (four 2)) ∷ takes_s (far_datagram 1 1 1 7 (four 2)) tooks.Kept
      ∷ at_s (events.Accepted (Some far)) ∷ none_waits
      ∷ at_s (events.HasRead far 4096 (readers.Server (reads.Got 4)) (four 2))
      ∷ at_s (events.HasRead far 4096 (readers.Server reads.End) []) ∷ calls call ∷ []

  abbrev waiting_stage : Stage
  waiting_stage =
      stage waiting_before (caller_of 1 4 far [] true None)
      (caller_of 2 9 call (request_for long (invoke late)) false None)

  -- the acknowledgement of the far call's request, which is the last message of it that its client hears
  abbrev far_ack : List ℕ
  far_ack = far_datagram 0 1 2 0 (four 0 ++ four 2 ++ four 1 ++ four 1 ++ 1 ∷ 0 ∷ 0 ∷ 0 ∷ 0 ∷ 0 ∷ 0 ∷ 5 ∷ 164 ∷ 0 ∷ 0
      ∷ 5 ∷ 164 ∷ 0 ∷ 0 ∷ 0 ∷ 32 ∷ four 1)

  abbrev read_none : List Noted
  read_none = none_waits ∷ reads_of far answers.NotYet ∷ reads_c answers.NotYet ∷ []

  -- the near call's request is said, comes and is acknowledged
  abbrev near_asked : List Noted
  near_asked =
      none_waits ∷ reads_of far answers.NotYet ∷ asked 2
      ++ gives_c (data_of 1 1 7 (four 2)) ∷ none_c ∷ none_s ∷ accepted 2
      ++ reads_of far answers.NotYet ∷ reads_c answers.NotYet
      ∷ none_c ∷ gives_s (ack_of 1 0 2 1 1 1 []) ∷ none_s ∷ takes_c (ack_of 1 0 2 1 1 1 []) tooks.Heard ∷ read_none

  -- behind a round in which nothing is given the client asks for a sign of life of the near call alone
  abbrev asks_near : ℕ → ℕ → List Noted
  asks_near now serial =
      none_c ∷ none_s ∷ read_none ++ clocks_to now
      ++ gives_c (ack_of serial 3 1 0 0 6 []) ∷ none_c ∷ none_s ∷ takes_s (ack_of serial 3 1 0 0 6 []) tooks.Heard
      ∷ none_waits ∷ []

  -- and has it
  abbrev hears_near : ℕ → List Noted
  hears_near serial =
      none_c ∷ gives_s (ack_of serial 0 2 1 serial 7 []) ∷ none_s
      ∷ takes_c (ack_of serial 0 2 1 serial 7 []) tooks.Heard ∷ none_waits ∷ []

  abbrev asks_and_hears : ℕ → ℕ → List Noted
  asks_and_hears now serial =
      asks_near now serial
      ++ reads_of far answers.NotYet ∷ reads_c answers.NotYet ∷ hears_near serial
      ++ reads_of far answers.NotYet ∷ reads_c answers.NotYet ∷ []

  -- 12,000 ms later the far call is silent at both ends, and the near one goes on
  abbrev waiting_last : List Noted
  waiting_last =
      near_asked ++ asks_and_hears 2000 2 ++ asks_and_hears 4000 3 ++ asks_and_hears 6000 4 ++ asks_and_hears 8000 5
      ++ asks_and_hears 10000 6 ++ asks_near 12000 7
      ++ at_s (events.Finished far (pos 0) (Err (refusals.Gone (negsuc 0))))
      ∷ reads_of far (answers.Gone (ends.Dead 12000)) ∷ reads_c answers.NotYet ∷ hears_near 7
      ++ reads_c answers.NotYet ∷ none_c ∷ none_s ∷ none_waits ∷ finished ∷ reads_c answers.NotYet
      ∷ none_c ∷ gives_s (data_of 1 8 6 []) ∷ none_s ∷ takes_c (data_of 1 8 6 []) tooks.Kept ∷ none_waits
      ∷ reads_c answers.End ∷ gives_c (datagram 0 8 5 1 []) ∷ none_c ∷ none_s
      ∷ takes_s (datagram 0 8 5 1 []) tooks.Heard ∷ none_waits ∷ []

  abbrev waiting_rounds : List Noted
  waiting_rounds = none_c ∷ gives_s far_ack ∷ none_s ∷ takes_c far_ack tooks.Heard ∷ waiting_last

  -- a node that looks at its first channel alone as long as that owes anything: the client asks for no sign of life of
  -- the far call
  looks_at_the_first_channel_alone : (t : Stage) → t.history ≡ reverse (waiting_before ++ waiting_rounds)
      → SilentAllFrom long waiting_lines waiting_stage waiting_rounds t → ⊥
  looks_at_the_first_channel_alone t are silent =
      none_of_all_dies_heard long waiting_lines waiting_stage waiting_rounds t silent
      (fair long late _ waiting_before _ _ t (rw (named late, none) refl) (rw (named late, none) refl) long_serves
      driven refl (subst (ServerForgotNone nodes) (sym are) refl)) (has_room waiting_stage refl refl) far
      (record {
        client = 0;
        node = client;
        there = refl;
        lived = refl;
        silence = 12000;
        dead =
            subst (λ (h : List Noted). end_at (looks client.setup (side 1 h)) far ≡ Some (ends.Dead 12000)) (sym are)
            refl;
        heard =
            record {
              before = none_c ∷ gives_s far_ack ∷ none_s ∷ [];
              event = events.Taken at_server far_ack tooks.Heard;
              later = waiting_last;
              are = refl;
              comes =
                  record {
                    from = at_server;
                    datagram = far_ack;
                    got = tooks.Heard;
                    is = refl;
                    message = _;
                    reads = refl;
                    of = refl;
                    such = refl;
                  };
            };
        placed = never_full far waiting_rounds refl;
      })
    where
      driven : AreDriven waiting_lines
      driven =
          All-from_recursion Driven waiting_lines (tt, (tt, (tt, (tt, (tt, (tt, (tt, (tt, (tt, (tt, tt))))))))))
