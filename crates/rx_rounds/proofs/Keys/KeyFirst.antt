-- The first rounds of a request that is said and shut, where both nodes have a key: pieces pass, the CHALLENGE and an
-- ACK that marks them, and the RESPONSE with more pieces, behind which the call is accepted.
use Rattle.std.proofs.Common.{◌≡◌, ◌<◌, ◌≤◌, ◌+◌, ◌-◌, ◌*◌, ◌^◌, ◌%◌, ◌==◌, ◌⊎◌, ◌++◌, ℕ, suc, zero, Bool, true, false}
use Rattle.std.proofs.Common.{List, [], ◌∷◌, refl, ap, sym, subst, ◌∙◌, inl, inr, ⊎_elim, Option, Some, None, is_some}
use Rattle.std.proofs.Common.{arith}
use Rattle.std.proofs.Common.{length, replicate}
use Rattle.std.proofs.lemmas.Bool.{cases_lt, ne_eqb}
use Rattle.rx_model.specs.declared.answers.Took.{Took}
use Rattle.rx_model.specs.declared.event.Event.TheVariants as events
use Rattle.rx_model.specs.declared.names.CallName.{CallName}
use Rattle.rx_model.specs.declared.wire.TheConstants.{ACK_REQUESTED}
use Rattle.rx_model.specs.Body.{AckBody}
use Rattle.rx_model.specs.Message.{Message}
use Rattle.rx_model.specs.Spelling.{made, IsPlain}
use Rattle.rx_rules.specs.After.{after}
use Rattle.rx_rules.specs.CallItems.{Ack}
use Rattle.rx_rules.specs.CallLooks.{CallLooks}
use Rattle.rx_rules.specs.Items.{poll_answer}
use Rattle.rx_rules.specs.Judging.{took_of}
use Rattle.rx_rules.specs.Life as lives
use Rattle.rx_rules.specs.Looks.{Looks}
use Rattle.rx_rules.specs.Owing.{Owed, at_once}
use Rattle.rx_rules.specs.Sent.{is_marked}
use Rattle.rx_law.specs.Worlds.{Datagram}
use Rattle.rx_jobs.specs.Dispatching.{Turning, accepts, over}
use Rattle.rx_jobs.specs.Handlers.{Handlers}
use Rattle.rx_jobs.specs.Jobs.{JobState}
use Rattle.rx_plan.specs.Network.{delivers}
use Rattle.rx_plan.specs.Parts.{To, each}
use Rattle.rx_plan.specs.Rounds.{Polled, polls, rounds}
use Rattle.rx_plan.specs.Stages.{Stage}
use Rattle.rx_plan.specs.Turned.{dispatches, jobs_left}
use Rattle.rx_rounds.proofs.Flow.{Marked, Speed, asks_end, hears_marks, next_none, quicker_marks, row_marks, told_marks}
use Rattle.rx_rounds.proofs.Flow.{total}
use Rattle.rx_rounds.proofs.Flow.{newly_marks, waits, writer_at}
use Rattle.rx_rounds.proofs.Keys.KeyClass.{index_small}
use Rattle.rx_rounds.proofs.Keys.KeySteps.{IsAnswer, challenge_gave, challenge_gives, challenge_heard, challenge_of}
use Rattle.rx_rounds.proofs.Keys.KeySteps.{challenge_took}
use Rattle.rx_rounds.proofs.Keys.KeySteps.{plain_challenge, plain_response, response_gave, response_gives}
use Rattle.rx_rounds.proofs.Keys.KeySteps.{response_heard}
use Rattle.rx_rounds.proofs.Keys.KeySteps.{response_of, response_took, unproved_none}
use Rattle.rx_rounds.proofs.Keeper.{keeper_at}
use Rattle.rx_rounds.proofs.Making.{ends_to, then_to}
use Rattle.rx_rounds.proofs.One.OneBurst.{burst, delivers_more, owes, owes_now, polls_burst}
use Rattle.rx_rounds.proofs.One.OneCall.{Ends, answering_link, client_place, client_poll, client_setup, datagram}
use Rattle.rx_rounds.proofs.One.OneCall.{from_server, header_of, link_poll, node_of, served_link, server_place}
use Rattle.rx_rounds.proofs.One.OneCall.{server_setup, the_call}
use Rattle.rx_rounds.proofs.One.OneFields.{FitsEnds}
use Rattle.rx_rounds.proofs.One.OneFirst.{FirstPassed, first_passes, goes_on, writing_all}
use Rattle.rx_rounds.proofs.One.OneFirst.{hard as first_hard, soft as first_soft, some as first_some, v as first_v}
use Rattle.rx_rounds.proofs.One.OneProgress.{no_calls}
use Rattle.rx_rounds.proofs.One.OneRequest.{Next, WentFurther, next_pieces}
use Rattle.rx_rounds.proofs.One.OneSteps.{ack_of, answering_heard_ack, answering_took_ack, client_none, empty_at}
use Rattle.rx_rounds.proofs.One.OneSteps.{link_gave, link_none}
use Rattle.rx_rounds.proofs.One.OneTurn.{Keeps, turn_first}
use Rattle.rx_rounds.proofs.Pair.{message_of, view_of}
use Rattle.rx_rounds.proofs.Rounded.{Made, RoundMade, dispatch_to, rounds_more, settles_not}
use Rattle.rx_rounds.proofs.Turned.{Serves, Serves_, serves_accept, serves_over}
use Rattle.rx_rounds.proofs.Two.{AreApart, Two, any_two, client_polls_none, client_polls_some, delivered_client}
use Rattle.rx_rounds.proofs.Two.{delivered_server, host_server, out_to, polls_to, sent, server_polls_none}
use Rattle.rx_rounds.proofs.Two.{server_polls_some}
use Rattle.rx_rounds.proofs.Two.{two_as, two_jobs}
use Rattle.rx_rounds.proofs.Keys.KeyMarks.{used_none, marks_all, all_marked, marks_given, length_marks}

module _ (x : Ends) (g : Handlers) (fits : FitsEnds x) (apart : AreApart x) (bytes answer : List ℕ)
    (a : IsAnswer x answer) (keyed : is_some x.key ≡ true) where
  abbrev c : CallName
  c = the_call x

  -- the server, to which the client didn't show the key yet, or did
  abbrev server_with : Bool → Bool → ℕ → CallLooks → Looks
  server_with proved owing gs k = node_of x (served_link x proved owing gs 0) (c ∷ []) 0 lives.Waiting k

  abbrev writing : ℕ → ℕ → Looks
  writing = writing_all x g fits apart bytes

  some_first : 1 < x.first + 1
  some_first = let some : 1 ≤ x.first = fits.some in omega arith

  -- no handler has the call yet
  idle : (owing : Bool) (gs : ℕ) (k : CallLooks) (lc : Looks) (s t : Stage) → k.heard ≡ 0
      → Two x (server_with false owing gs k) lc [] [] s → Made (dispatches g) s t
      → Two x (server_with false owing gs k) lc [] [] t
  idle owing gs k lc s t heard two made_ =
      let ls : Looks = server_with false owing gs k in
      let d = dispatch_to g s t made_ in
      let from : Serves g (accepts []) s d.view d.stage = subst
      (λ (js : List JobState). Serves g (accepts js) s d.view d.stage) two.jobs d.serves in
      let e = subst (λ (got : Option CallName). Serves_ x g ls lc [] [] (accepts []) (events.Accepted got) d.view
      d.stage) (unproved_none x [] 0 gs k heard owing a.challenges)
      (serves_accept x g ls lc [] [] (accepts []) d.view s d.stage two refl from) in
      let o = serves_over g (over []) d.view e.stage d.stage refl e.goes in
      two_jobs x ls lc [] [] [] d.stage t
      (d.then_ ∙ ap (λ (v : Turning). record d.stage { jobs = jobs_left v }) o.0)
      (subst (λ (u : Stage). Two x ls lc [] [] u) (sym o.1) e.two)

  -- the rest of a round in which something was given
  rests : (owing : Bool) (gs : ℕ) (k : CallLooks) (lc : Looks) (s t : Stage) (m : RoundMade g s t) → k.heard ≡ 0
      → (length m.polled.given == 0) ≡ false → Two x (server_with false owing gs k) lc [] [] m.delivered
      → Two x (server_with false owing gs k) lc [] [] t
  rests owing gs k lc s t m heard loud two =
      let ls : Looks = server_with false owing gs k in
      let served = idle owing gs k lc m.delivered m.served heard two m.serves_are in
      two_as x ls lc ls lc [] [] m.served t refl refl
      (sym (settles_not m.called t (length m.polled.given == 0) loud m.settles_are
      ∙ no_calls x ls lc [] m.served m.called served m.calls_are)) served

  -- ---- the second round: the CHALLENGE, and an ACK that marks what was kept

  abbrev soft : ℕ → Bool
  soft = first_soft x g fits apart bytes

  abbrev hard : Marked 0 soft
  hard = first_hard x g fits apart bytes

  abbrev v : Speed
  v = first_v x g fits apart bytes

  abbrev some : 0 < v.rtt.rto
  some = first_some x g fits apart bytes

  abbrev kept : Option Owed → ℕ → ℕ → CallLooks
  kept o p n = keeper_at bytes [] o p n

  abbrev tells : ℕ → ℕ → ℕ → AckBody
  tells n p serial =
      told_marks bytes 0 soft hard (header_of x) v some (replicate n true) 0 p serial ACK_REQUESTED

  ack_is : (n p serial : ℕ)
      → message_of (server_place x 0) (record { looks = kept (at_once ACK_REQUESTED serial) p n; given = 1 })
      (Ack ACK_REQUESTED serial)
      ≡ ack_of x (suc 1 % 2 ^ 32) (tells n p serial)
  ack_is n p serial = rw (marks_all bytes p n) (rw (used_none bytes p n) refl)

  plain_ack : (n p serial : ℕ) → n ≤ 2 → p < 2 ^ 32 → serial < 2 ^ 32
      → IsPlain (ack_of x (suc 1 % 2 ^ 32) (tells n p serial))
  plain_ack n p serial small low few =
      record {
        epoch = fits.epoch;
        cid = omega arith;
        number = fits.first;
        seq = omega arith;
        serial = omega arith;
        flags = omega arith;
        status = refl;
        index = index_small x.key;
        spare = refl;
        service = fits.service;
        body = record {
          first = omega arith;
          previous = low;
          serial = few;
          reason_low = omega arith;
          reason_high = omega arith;
          marks = omega (arith, length_marks n);
          window = omega arith;
        };
      }

  abbrev asks : Datagram
  asks = sent x.server x.client (made (challenge_of x (suc 0 % 2 ^ 32)))

  abbrev acks : ℕ → ℕ → ℕ → Datagram
  acks n p serial = sent x.server x.client (made (ack_of x (suc 1 % 2 ^ 32) (tells n p serial)))

  polls_second : (n p serial : ℕ) (s : Stage) (q : Polled) → (total bytes ≤ n) ⊎ (2 ≤ n) → n ≤ 2 → p < 2 ^ 32
      → serial < 2 ^ 32
      → Two x (server_with false true 0 (kept (at_once ACK_REQUESTED serial) p n)) (writing n n) [] [] s
      → Made polls s q
      → (q.given ≡ asks ∷ acks n p serial ∷ []) × Two x (server_with false false 2 (kept None p n))
      (writing n n) [] [] q.stage
  polls_second n p serial s q stop small low few two made_ =
      let k : CallLooks = kept (at_once ACK_REQUESTED serial) p n in
      let ls : Looks = server_with false true 0 k in
      let lc : Looks = writing n n in
      let r = polls_to x ls lc [] [] s q made_.0 two made_.1 in
      let silent : poll_answer (client_setup x) lc ≡ None =
      client_poll x 0 0 n (writer_at bytes v hard.h soft n) refl
      ∙ ap (datagram (client_place x 0) x.server (record { looks = writer_at bytes v hard.h soft n; given = n }))
      (next_none bytes 0 soft hard (header_of x) v some n n (omega arith) stop) in
      let c1 = client_polls_none x ls lc [] [] s r.0.stage x.client [] r.2 two silent r.4 in
      let two1 : Two x ls lc [] [] r.0.stage = two_as x ls (after (client_setup x) (events.Polled None) lc) ls lc []
      [] r.0.stage r.0.stage refl (client_none x 0 0 n (writer_at bytes v hard.h soft n) refl) refl c1.1 in
      let o = out_to 0 x.server r.0 q r.1 (host_server x ls lc [] [] r.0.stage two1) r.5 in
      let e1 = server_polls_some x ls lc [] [] r.0.stage q.stage x.server x.client
      (made (challenge_of x (suc 0 % 2 ^ 32))) r.0.given o.0 two1 (challenge_gives x (c ∷ []) 0 0 k refl) o.2 in
      let ls1 : Looks = server_with false false 1 k in
      let two2 : Two x ls1 lc [] [] e1.0 = two_as x _ lc ls1 lc [] [] e1.0 e1.0
      (challenge_gave x (c ∷ []) 0 0 k refl (plain_challenge x (suc 0 % 2 ^ 32) answer fits a (omega arith))) refl refl
      e1.1 in
      let m : Message = message_of (server_place x 0) (record { looks = k; given = 1 }) (Ack ACK_REQUESTED serial) in
      let gives : poll_answer (server_setup x) ls1 ≡ Some (x.client, made m) =
      link_poll x false (c ∷ []) 0 0 1 lives.Waiting k refl refl refl in
      let given1 : List Datagram = r.0.given ++ asks ∷ [] in
      let e2 = server_polls_some x ls1 lc [] [] e1.0 q.stage x.server x.client (made m) given1 o.0 two2 gives e1.2 in
      let ls2 : Looks = server_with false false 2 (kept None p n) in
      let two3 : Two x ls2 lc [] [] e2.0 = two_as x _ lc ls2 lc [] [] e2.0 e2.0
      (link_gave x false (c ∷ []) 0 0 1 lives.Waiting k (Ack ACK_REQUESTED serial) refl refl
      (subst IsPlain (sym (ack_is n p serial)) (plain_ack n p serial small low few))) refl refl e2.1 in
      let over_ : poll_answer (server_setup x) ls2 ≡ None =
      link_poll x false (c ∷ []) 0 0 2 lives.Waiting (kept None p n) refl refl refl in
      let h = server_polls_none x ls2 lc [] [] e2.0 q.stage x.server (given1 ++ sent x.server x.client (made m) ∷ [])
      o.0 two3 over_ e2.2 in
      let start : r.0.given ≡ [] = r.3 ∙ c1.0 in (
        o.1 ∙ h.0 ∙ ap (λ (ds : List Datagram). (ds ++ asks ∷ []) ++ sent x.server x.client (made m) ∷ []) start
            ∙ ap (λ (f : Message). asks ∷ sent x.server x.client (made f) ∷ []) (ack_is n p serial),
        two_as x (after (server_setup x) (events.Polled None) ls2) lc ls2 lc [] [] q.stage q.stage
            (link_none x false (c ∷ []) 0 0 2 lives.Waiting (kept None p n) refl) refl refl h.1,
      )

  -- the client behind it
  abbrev marked : ℕ → ℕ → Bool
  marked n = is_marked (0 + 1) (replicate n true)

  abbrev faster : ℕ → Speed
  faster n = quicker_marks bytes 0 soft hard (header_of x) v some (replicate n true) 0 n

  faster_some : (n : ℕ) → 0 < (faster n).rtt.rto
  faster_some n = waits (newly_marks bytes 0 soft hard (header_of x) v some (replicate n true) 0 n).sample v.rtt some

  abbrev answering : Option (List ℕ) → ℕ → CallLooks → Looks
  answering o given k = node_of x (answering_link x o given 0) [] 0 lives.Calling k

  abbrev marked_writer : ℕ → ℕ → CallLooks
  marked_writer n m = writer_at bytes (faster n) 0 (marked n) m

  hears_second : (n p serial : ℕ) (ls : Looks) (s t : Stage) → n ≤ 2 → p < 2 ^ 32 → serial < 2 ^ 32
      → Two x ls (writing n n) [] [] s → Made (each delivers (asks ∷ acks n p serial ∷ [])) s t
      → Two x ls (answering (Some answer) n (marked_writer n n)) [] [] t
  hears_second n p serial ls s t small low few two made_ =
      let k : CallLooks = writer_at bytes v hard.h soft n in
      let lc : Looks = writing n n in
      let ch : Message = challenge_of x (suc 0 % 2 ^ 32) in
      let ack : Message = ack_of x (suc 1 % 2 ^ 32) (tells n p serial) in
      let plain1 : IsPlain ch = plain_challenge x (suc 0 % 2 ^ 32) answer fits a (omega arith) in
      let plain2 : IsPlain ack = plain_ack n p serial small low few in
      let b1 = then_to (delivers asks s) (each delivers (acks n p serial ∷ [])) made_.0 t made_.1 in
      let d1 = delivered_client x ls lc [] [] s b1.between x.server (made ch) b1.front apart two b1.made in
      let l1 : Looks = answering (Some answer) n k in
      let next1 : after (client_setup x)
      (events.Taken x.server (made ch) (took_of (client_setup x) lc x.server (made ch))) lc ≡ l1 =
      ap (λ (got : Took). after (client_setup x) (events.Taken x.server (made ch) got) lc)
      (challenge_took x 0 n k refl (suc 0 % 2 ^ 32) answer some_first a plain1)
      ∙ challenge_heard x 0 n k refl (suc 0 % 2 ^ 32) answer a plain1 in
      let two1 : Two x ls l1 [] [] b1.between = two_as x ls _ ls l1 [] [] b1.between b1.between refl next1 refl d1 in
      let b2 = then_to (delivers (acks n p serial) b1.between) (each delivers []) b1.rest t b1.goes in
      let d2 = delivered_client x ls l1 [] [] b1.between b2.between x.server (made ack) b2.front apart two1 b2.made in
      let l2 : Looks = answering (Some answer) n (marked_writer n n) in
      let next2 : after (client_setup x)
      (events.Taken x.server (made ack) (took_of (client_setup x) l1 x.server (made ack))) l1 ≡ l2 =
      ap (λ (got : Took). after (client_setup x) (events.Taken x.server (made ack) got) l1)
      (answering_took_ack x (Some answer) [] 0 0 n k (suc 1 % 2 ^ 32) (tells n p serial) some_first plain2
      ∙ row_marks bytes 0 soft hard (header_of x) v some (header_of x) (replicate n true) 0 n p (suc 1 % 2 ^ 32) serial
      ACK_REQUESTED (omega arith) (marks_given n (0 + 1) n (omega arith)))
      ∙ answering_heard_ack x (Some answer) [] 0 0 n k (suc 1 % 2 ^ 32) (tells n p serial) plain2
      ∙ ap (answering (Some answer) n)
      (hears_marks bytes 0 soft hard (header_of x) v some (view_of (client_place x 0) k) (header_of x)
      (replicate n true) 0 n p (suc 1 % 2 ^ 32) serial ACK_REQUESTED refl (omega arith) refl) in
      two_as x ls _ ls l2 [] [] b2.between t refl next2 (sym (ends_to b2.between t b2.rest b2.goes)) d2

  -- ---- the third: the RESPONSE, and more pieces

  abbrev answers_it : ℕ → Datagram
  answers_it n = sent x.client x.server (made (response_of x (suc n % 2 ^ 32) answer))

  abbrev more : ℕ → ℕ → List Datagram
  more n e = burst x fits apart bytes [] [] n (marked n) (all_marked n) (faster n) (faster_some n) e n (suc n)

  polls_third : (n e p : ℕ) (s : Stage) (q : Polled) → n + e ≤ total bytes → e ≤ (faster n).window → n + e ≤ 32
      → (total bytes ≡ n + e) ⊎ ((faster n).window ≤ e)
      → Two x (server_with false false 2 (kept None p n)) (answering (Some answer) n (marked_writer n n)) [] [] s
      → Made polls s q
      → (q.given ≡ answers_it n ∷ more n e) × Two x (server_with false false 2 (kept None p n))
      (answering None (suc n + e) (marked_writer n (n + e))) [] [] q.stage
  polls_third n e p s q below slow small stop two made_ =
      let k : CallLooks = marked_writer n n in
      let ls : Looks = server_with false false 2 (kept None p n) in
      let lc : Looks = answering (Some answer) n k in
      let r = polls_to x ls lc [] [] s q made_.0 two made_.1 in
      let resp : Message = response_of x (suc n % 2 ^ 32) answer in
      let c1 = client_polls_some x ls lc [] [] s r.0.stage x.client x.server (made resp) [] r.2 two
      (response_gives x 0 n k refl answer) r.4 in
      let two1 : Two x ls (answering None (suc n) k) [] [] c1.0 = two_as x ls _ ls (answering None (suc n) k) [] []
      c1.0 c1.0 refl (response_gave x 0 n k refl answer
      (plain_response x (suc n % 2 ^ 32) answer fits a (omega arith))) refl c1.1 in
      let b = polls_burst x fits apart bytes [] [] n (marked n) (all_marked n) (faster n) (faster_some n) e 0 n (suc n)
      ls c1.0 r.0.stage (answers_it n ∷ []) r.2 (omega arith) below (omega arith) small (omega arith)
      (⊎_elim (λ (h : total bytes ≡ n + e). inl h) (λ (h : (faster n).window ≤ e). inr (omega arith)) stop)
      two1 c1.2 in
      let lc2 : Looks = answering None (suc n + e) (marked_writer n (n + e)) in
      let o = out_to 0 x.server r.0 q r.1 (host_server x ls lc2 [] [] r.0.stage b.1) r.5 in
      let over_ : poll_answer (server_setup x) ls ≡ None =
      link_poll x false (c ∷ []) 0 0 2 lives.Waiting (kept None p n) refl refl refl in
      let h = server_polls_none x ls lc2 [] [] r.0.stage q.stage x.server r.0.given o.0 b.1 over_ o.2 in (
        o.1 ∙ h.0 ∙ r.3 ∙ b.0,
        two_as x (after (server_setup x) (events.Polled None) ls) lc2 ls lc2 [] [] q.stage q.stage
            (link_none x false (c ∷ []) 0 0 2 lives.Waiting (kept None p n) refl) refl refl h.1,
      )

  takes_third : (n e p : ℕ) (lc : Looks) (s t : Stage) → 1 ≤ n → n + e ≤ total bytes → n + e ≤ 32 → p < 2 ^ 32
      → Two x (server_with false false 2 (kept None p n)) lc [] [] s
      → Made (each delivers (answers_it n ∷ more n e)) s t
      → (q : ℕ) × (q < 2 ^ 32) × Two x (node_of x (from_server x 2 0) (c ∷ []) 0 lives.Waiting
      (kept (owes x fits apart bytes [] [] n (marked n) (all_marked n) (faster n) (faster_some n) [] None e n (suc n)) q
      (n + e))) lc [] [] t
  takes_third n e p lc s t known below small low two made_ =
      let k : CallLooks = kept None p n in
      let ls : Looks = server_with false false 2 k in
      let resp : Message = response_of x (suc n % 2 ^ 32) answer in
      let plain : IsPlain resp = plain_response x (suc n % 2 ^ 32) answer fits a (omega arith) in
      let b = then_to (delivers (answers_it n) s) (each delivers (more n e)) made_.0 t made_.1 in
      let d = delivered_server x ls lc [] [] s b.between x.client (made resp) b.front apart two b.made in
      let ls1 : Looks = node_of x (from_server x 2 0) (c ∷ []) 0 lives.Waiting k in
      let next : after (server_setup x)
      (events.Taken x.client (made resp) (took_of (server_setup x) ls x.client (made resp))) ls ≡ ls1 =
      ap (λ (got : Took). after (server_setup x) (events.Taken x.client (made resp) got) ls)
      (response_took x (c ∷ []) 0 2 k refl (suc n % 2 ^ 32) answer some_first a plain)
      ∙ response_heard x (c ∷ []) 0 2 k refl (suc n % 2 ^ 32) answer a plain
      ∙ ap (λ (b1 : Bool). node_of x (served_link x b1 false 2 0) (c ∷ []) 0 lives.Waiting k) (sym keyed) in
      let two1 : Two x ls1 lc [] [] b.between = two_as x _ lc ls1 lc [] [] b.between b.between next refl refl d in
      delivers_more x fits apart bytes [] [] n (marked n) (all_marked n) (faster n) (faster_some n) e n (suc n) 2 p
      lives.Waiting [] None lc b.between t low refl known below (omega arith) (λ p1 n1 inside. omega arith) two1
      (b.rest, b.goes)

  -- the call is accepted, and goes on as any other
  third : (n e p m : ℕ) (s u t : Stage) (r : RoundMade g s u) → 1 ≤ n → n + e ≤ total bytes
      → e ≤ (faster n).window → total bytes ≤ 32 → p < 2 ^ 32 → (total bytes ≡ n + e) ⊎ ((faster n).window ≤ e)
      → 2 * (total bytes - (n + e)) ≤ m
      → (serial : ℕ) → serial < 2 ^ 32
      → (n + e < total bytes → owes x fits apart bytes [] [] n (marked n) (all_marked n) (faster n) (faster_some n) []
      None e n (suc n) ≡ at_once ACK_REQUESTED serial)
      → Two x (server_with false false 2 (kept None p n)) (answering (Some answer) n (marked_writer n n)) [] [] s
      → Made (rounds g (suc m)) u t → WentFurther x g bytes t
  third n e p m s u t r known below slow small low stop enough serial few is two others =
      let q = polls_third n e p s r.polled below slow (omega arith) stop two r.polls_are in
      let lc : Looks = answering None (suc n + e) (marked_writer n (n + e)) in
      let all : Made (each delivers (answers_it n ∷ more n e)) r.polled.stage
      r.delivered = (
        r.delivers_are.0,
        subst (λ (xs : List Datagram). each delivers xs r.polled.stage r.delivers_are.0 (To r.delivered)) q.0
            r.delivers_are.1,
      ) in
      let d = takes_third n e p lc r.polled.stage r.delivered known below (omega arith) low q.1 all in
      let owed : Option Owed = owes x fits apart bytes [] [] n (marked n) (all_marked n) (faster n) (faster_some n) []
      None e n (suc n) in
      let good : Keeps x g lc [] bytes 2 d.0 (n + e) owed (kept owed d.0 (n + e)) =
      record { read = []; owed = owed; is = refl; owes = λ o1 is1. is1; calm = λ calm_. calm_ } in
      let turn = turn_first x g lc [] bytes 2 d.0 (n + e) owed (kept owed d.0 (n + e)) r.delivered r.served good d.2
      r.serves_are in
      let still : u ≡ r.called = settles_not r.called u (length r.polled.given == 0)
      (ap (λ (ds : List Datagram). length ds == 0) q.0
      ∙ ne_eqb (suc (length (more n e))) 0 (λ (none : suc (length (more n e)) ≡ 0). omega arith)) r.settles_are in
      goes_on x g fits apart bytes n (marked n) (all_marked n) (faster n) (faster_some n) e m (suc n + e) 2 s u t r d.0
      owed serial (omega arith) d.1 few is (omega arith) below small enough still turn others stop

  pub begins_keyed : (n : ℕ) (s t : Stage) → total bytes ≤ 32 → 2 * total bytes + 2 ≤ n
      → Two x (empty_at 0) (writing 0 0) [] [] s → Made (rounds g n) s t → WentFurther x g bytes t
  begins_keyed zero s t small enough two made_ = absurd (omega arith)
  begins_keyed (suc zero) s t small enough two made_ = absurd (omega arith)
  begins_keyed (suc (suc zero)) s t small enough two made_ = absurd (omega arith)
  begins_keyed (suc (suc (suc zero))) s t small enough two made_ = absurd (omega arith)
  begins_keyed (suc (suc (suc (suc m)))) s t small enough two made_ =
      let r1 = rounds_more g (suc (suc (suc m))) s t made_.0 (any_two x (empty_at 0) (writing 0 0) [] [] s two)
      made_.1 in
      let f : FirstPassed x g fits apart bytes s r1.behind r1.first =
      first_passes x g fits apart bytes s r1.behind r1.first small two in
      let n : ℕ = suc f.but_one in
      let p : ℕ = f.previous in
      let k : CallLooks = kept (at_once ACK_REQUESTED f.serial) p n in
      let l1 : Looks = server_with false true 0 k in
      let begun_ : Two x l1 (writing n n) [] [] r1.first.delivered = two_as x _ (writing n n) l1 (writing n n) [] []
      r1.first.delivered r1.first.delivered
      (ap (λ (b : Bool). node_of x (served_link x false b 0 0) (c ∷ []) 0 lives.Waiting k) keyed) refl refl f.two in
      let two1 = rests true 0 k (writing n n) s r1.behind r1.first refl f.loud begun_ in
      let r2 = rounds_more g (suc (suc m)) r1.behind t r1.others.0
      (any_two x l1 (writing n n) [] [] r1.behind two1) r1.others.1 in
      let slow : n ≤ 2 = f.slow in
      let stop : (total bytes ≤ n) ⊎ (2 ≤ n) = ⊎_elim (λ (h : total bytes ≡ n). inl (omega arith))
      (λ (h : 2 ≤ n). inr h) f.stop in
      let q = polls_second n p f.serial r1.behind r2.first.polled stop slow f.low f.few two1 r2.first.polls_are in
      let all : Made (each delivers (asks ∷ acks n p f.serial ∷ [])) r2.first.polled.stage
      r2.first.delivered = (
        r2.first.delivers_are.0,
        subst (λ (xs : List Datagram). each delivers xs r2.first.polled.stage r2.first.delivers_are.0
            (To r2.first.delivered)) q.0 r2.first.delivers_are.1,
      ) in
      let l2 : Looks = server_with false false 2 (kept None p n) in
      let lc : Looks = answering (Some answer) n (marked_writer n n) in
      let heard = hears_second n p f.serial l2 r2.first.polled.stage r2.first.delivered slow f.low f.few q.1 all in
      let two2 = rests false 2 (kept None p n) lc r1.behind r2.behind r2.first refl
      (ap (λ (ds : List Datagram). length ds == 0) q.0) heard in
      let r3 = rounds_more g (suc m) r2.behind t r2.others.0 (any_two x l2 lc [] [] r2.behind two2) r2.others.1 in
      let inside : n ≤ total bytes = f.within in
      of n p r2.behind r3.behind r3.first (omega arith) inside f.low two2 r3.others (cases_lt n (total bytes))
    where
      of : (n p : ℕ) (u w : Stage) (r : RoundMade g u w) → 1 ≤ n → n ≤ total bytes → p < 2 ^ 32
          → Two x (server_with false false 2 (kept None p n)) (answering (Some answer) n (marked_writer n n)) [] [] u
          → Made (rounds g (suc m)) w t → (n < total bytes) ⊎ (total bytes ≤ n) → WentFurther x g bytes t
      of n p u w r known inside low two2 others (inl less) =
          let e : Next bytes (faster n).window n = next_pieces bytes (faster n).window n less (omega arith) in
          let k : ℕ = e.but_one in
          let within : n + suc k ≤ total bytes = e.within in
          let o = owes_now x fits apart bytes [] [] n (marked n) (all_marked n) (faster n) (faster_some n) k n (suc n)
          []
          None
          (asks_end bytes n (marked n) (all_marked n) (header_of x) (faster n) (faster_some n) (n + k) k refl
          (⊎_elim (λ (h : total bytes ≡ n + suc k). inl (omega arith)) (λ (h : (faster n).window ≤ suc k). inr h)
          e.stop)) in
          third n (suc k) p m u w t r known within e.slow small low e.stop (omega arith) o.0 o.1 (λ part. o.2) two2
          others
      of n p u w r known inside low two2 others (inr all) =
          third n 0 p m u w t r known (omega arith) (omega arith) small low (inl (omega arith)) (omega arith) 0
          (omega arith) (λ part. absurd (omega arith)) two2 others
