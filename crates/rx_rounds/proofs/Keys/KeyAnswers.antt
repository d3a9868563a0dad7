-- The fourth round of an invoke where there is a key: the RESPONSE passes, and more pieces, if any may go; then a
-- handler has the call, and reads what came.
use Rattle.std.proofs.Common.{◌≡◌, ◌≢◌, ◌<◌, ◌≤◌, ◌⊎◌, inl, inr, ⊎_elim, ◌+◌, ◌-◌, ◌*◌, ◌^◌, ◌%◌, ◌==◌, ◌++◌, ℕ, ℤ, pos}
use Rattle.std.proofs.Common.{suc}
use Rattle.std.proofs.Common.{Bool, true, false, List, [], ◌∷◌, refl, ap, sym, subst, ◌∙◌, Option, Some, None, is_some}
use Rattle.std.proofs.Common.{length}
use Rattle.std.proofs.Common.{arith, append-nil, nat_le}
use Rattle.std.proofs.lemmas.Bool.{both_ways, lt-leb, ne_eqb}
use Rattle.std.specs.Prelude.{IfSome, IsSomeAnd}
use Rattle.rx_model.specs.declared.answers.Took.{Took}
use Rattle.rx_model.specs.declared.event.Event.TheVariants as events
use Rattle.rx_model.specs.declared.names.CallName.{CallName}
use Rattle.rx_model.specs.Message.{IsBytes, Message}
use Rattle.rx_model.specs.Spelling.{made, IsPlain}
use Rattle.rx_rules.specs.After.{after}
use Rattle.rx_rules.specs.CallLooks.{CallLooks}
use Rattle.rx_rules.specs.Items.{poll_answer}
use Rattle.rx_rules.specs.Judging.{took_of}
use Rattle.rx_rules.specs.Life as lives
use Rattle.rx_rules.specs.Looks.{Looks}
use Rattle.rx_rules.specs.Owing.{Owed}
use Rattle.rx_rules.specs.Received.{Received, used_of}
use Rattle.rx_rules.specs.Sent.{Sent, counting_of, held_pieces, nothing_sent}
use Rattle.rx_script.specs.Served.{refusal}
use Rattle.rx_asks.specs.declared.ask.Phase.TheVariants as phases
use Rattle.rx_jobs.specs.Handlers.{Handlers, served_for}
use Rattle.rx_law.specs.Worlds.{Datagram}
use Rattle.rx_plan.specs.Network.{delivers}
use Rattle.rx_plan.specs.Parts.{To, each}
use Rattle.rx_plan.specs.Stages.{InvokedState, Stage}
use Rattle.rx_rounds.proofs.Arriving.ArrivingRound.{tells_none}
use Rattle.rx_rounds.proofs.Between.{client_at, server_at}
use Rattle.rx_rounds.proofs.Polls.PolledEnd.{PolledOut, polled_out, sends_told}
use Rattle.rx_rounds.proofs.Serving.SendsLaws.{counts_within, tells}
use Rattle.rx_rounds.proofs.Flow.{total}
use Rattle.rx_rounds.proofs.Keeper.{part_read}
use Rattle.rx_rounds.proofs.Keys.KeyAsks.{Answering, awake, server_next, some_first}
use Rattle.rx_rounds.proofs.Keys.KeyChallenges.{answering_at, calls_with, unproved_at}
use Rattle.rx_rounds.proofs.Keys.KeyMarks.{used_none}
use Rattle.rx_rounds.proofs.Keys.KeySteps.{IsAnswer, plain_response, response_gave, response_gives, response_heard}
use Rattle.rx_rounds.proofs.Keys.KeySteps.{response_of}
use Rattle.rx_rounds.proofs.Keys.KeySteps.{response_took}
use Rattle.rx_rounds.proofs.Making.{then_to}
use Rattle.rx_rounds.proofs.One.OneCall.{Ends, client_place, datagram, header_of, link_poll, node_of, served_link}
use Rattle.rx_rounds.proofs.One.OneCall.{server_place, server_setup, the_call}
use Rattle.rx_rounds.proofs.One.OneFields.{FitsEnds}
use Rattle.rx_rounds.proofs.One.OneNode.{ArePlain, client_polled_out, datagrams, plain_acks, plain_both, plain_burst}
use Rattle.rx_rounds.proofs.One.OneSteps.{link_none}
use Rattle.rx_rounds.proofs.One.OneTaken.{later_burst, server_takes}
use Rattle.rx_rounds.proofs.One.OneWay.{IsOwedBy, IsPlainOwed, IsSteady, Sends}
use Rattle.rx_rounds.proofs.Pair.{CallEnd}
use Rattle.rx_rounds.proofs.Reading.ReadOn.{begins_read}
use Rattle.rx_rounds.proofs.Reading.ReadsNext.{Came, TurnsNext, turns_next}
use Rattle.rx_rounds.proofs.Rounded.{Made, RoundMade, settles_not}
use Rattle.rx_rounds.proofs.Serving.ServeTurns.{turn_begins}
use Rattle.rx_rounds.proofs.Takes.Taking.{TookPieces, Takes, came_behind, none_came, some_came, takes_burst, takes_none}
use Rattle.rx_rounds.proofs.Two.{AreApart, Two, client_polls_some, delivered_server, host_server, out_to, polls_to}
use Rattle.rx_rounds.proofs.Two.{sent}
use Rattle.rx_rounds.proofs.Two.{server_polls_none, two_as}

module _ (x : Ends) (g : Handlers) (fits : FitsEnds x) (apart : AreApart x) (answer : List ℕ) (a : IsAnswer x answer)
    (keyed : is_some x.key ≡ true) (request : List ℕ) (call line : ℕ) (small : total request ≤ 1000000)
    (are_bytes : IsBytes request) (coded : (code : ℤ) → served_for g request ≡ refusal code → code ≢ pos 0) where
  abbrev c : CallName
  c = the_call x

  abbrev Asked : Stage → Type 0
  Asked = Answering x answer request call line

  module _ (s t : Stage) (h : Asked s) (m : RoundMade g s t) where
    abbrev cs : List InvokedState
    cs = calls_with x call line h.offering h.shut

    abbrev ls : Looks
    ls = unproved_at x false h.given_server h.used_server h.ks

    abbrev lc : Looks
    lc = answering_at x (Some answer) h.given h.used h.kc

    awake_of : (k : CallLooks) → k.heard ≡ 0 → nat_le 12000 (0 - k.heard) ≡ false
    awake_of = awake

    -- ---- what is given

    abbrev response : Message
    response = response_of x (suc h.given % 2 ^ 32) answer

    plain1 : IsPlain response
    plain1 = plain_response x (suc h.given % 2 ^ 32) answer fits a (omega arith)

    abbrev answers_it : Datagram
    answers_it = sent x.client x.server (made response)

    -- the client behind it
    abbrev e : CallEnd
    e = record { looks = h.kc; given = suc h.given }

    abbrev p : PolledOut (client_place x 0) request 0 0 h.last 0 e
    p = polled_out (client_place x 0) request 0 0 h.last 0 e refl (λ less. omega arith) h.has.up
        (tells_none h.kc h.has.quiet h.has.none)

    abbrev last : ℕ
    last = p.pieces.last

    no_acks : p.acks ≡ []
    no_acks = p.quiet h.has.none (λ is. omega (arith, h.has.spoke))

    up1 : Sends request 0 0 last p.pieces.behind.looks
    up1 = p.pieces.sends 0 (omega arith) (λ less. omega arith)

    last_more : h.last ≤ last
    last_more = p.pieces.more

    last_within : last ≤ total request
    last_within =
        let counts : last ≤ counting_of p.pieces.behind.looks.sent = up1.counted in
        let all = counts_within request 0 0 last p.pieces.behind.looks up1 in omega arith

    last_near : last ≤ 32
    last_near = let near : last ≤ 0 + 32 = up1.near in omega arith

    -- the server tells nothing
    rests_server : poll_answer (server_setup x) ls ≡ None
    rests_server =
        link_poll x false (c ∷ []) 0 h.used_server h.given_server lives.Waiting h.ks refl refl (awake_of h.ks h.heard)
        ∙ ap (datagram (server_place x 0) x.client (record { looks = h.ks; given = h.given_server }))
        (server_next x h.ks h.new h.steady
        ∙ of h.ks.owed_ack h.later)
      where
        of : (o : Option Owed) → IfSome o (λ z. 0 < z.rank) → tells false 0 h.ks.spoke o ≡ None
        of None later = refl
        of (Some o) later = rw (lt-leb o.rank 0 later) refl

    record PolledFourth : Type 0 where
      used : ℕ
      given_is : m.polled.given ≡ answers_it ∷ datagrams x.client x.server p.pieces.messages
      two : Two x ls (client_at x p.behind.given used [] 0 p.behind.looks) cs [] m.polled.stage

    polls_fourth : PolledFourth
    polls_fourth =
        let r = polls_to x ls lc cs [] s m.polled m.polls_are.0 h.two m.polls_are.1 in
        let c1 = client_polls_some x ls lc cs [] s r.0.stage x.client x.server (made response) [] r.2 h.two
        (response_gives x h.used h.given h.kc h.has.heard answer) r.4 in
        let two1 : Two x ls (client_at x (suc h.given) 0 [] 0 h.kc) cs [] c1.0 =
        two_as x ls _ ls (client_at x (suc h.given) 0 [] 0 h.kc) cs [] c1.0 c1.0 refl
        (response_gave x h.used h.given h.kc h.has.heard answer plain1) refl c1.1 in
        let plain : ArePlain (p.pieces.messages ++ p.acks) = plain_both x fits p.pieces.messages p.acks
        (plain_burst x fits true request h.last last p.pieces.messages (omega (arith, last_near)) p.pieces.burst)
        (plain_acks x fits true 0 p.acks (omega arith) p.tells) in
        let b = client_polled_out x 0 cs [] [] ls e p.behind (p.pieces.messages ++ p.acks) p.polls plain
        (awake_of h.kc h.has.heard) 0 (answers_it ∷ []) c1.0 r.0.stage r.2 two1 c1.2 in
        let lc2 : Looks = client_at x p.behind.given b.1.0 [] 0 p.behind.looks in
        let o = out_to 0 x.server r.0 m.polled r.1 (host_server x ls lc2 cs [] r.0.stage b.1.1) r.5 in
        let f = server_polls_none x ls lc2 cs [] r.0.stage m.polled.stage x.server r.0.given o.0 b.1.1 rests_server
        o.2 in
        record {
          used = b.1.0;
          given_is =
              o.1 ∙ f.0 ∙ r.3 ∙ b.0
              ∙ ap (λ (ms : List Message). answers_it ∷ datagrams x.client x.server (p.pieces.messages ++ ms)) no_acks
              ∙ ap (λ (ms : List Message). answers_it ∷ datagrams x.client x.server ms) (append-nil p.pieces.messages);
          two = two_as x (after (server_setup x) (events.Polled None) ls) lc2 ls lc2 cs [] m.polled.stage m.polled.stage
              (link_none x false (c ∷ []) 0 h.used_server h.given_server lives.Waiting h.ks (awake_of h.ks h.heard))
              refl refl
              f.1;
        }

    abbrev kc2 : CallLooks
    kc2 = p.behind.looks

    abbrev lc3 : Looks
    lc3 = client_at x p.behind.given polls_fourth.used [] 0 kc2

    -- ---- the server takes it

    abbrev ks1 : CallLooks
    ks1 = record h.ks { heard = 0 }

    hears_response : (rest : List Datagram) (u v : Stage) → Two x ls lc3 cs [] u
        → Made (each delivers (answers_it ∷ rest)) u v
        → (w : Stage) × Two x (server_at x h.given_server 0 0 lives.Waiting ks1) lc3 cs [] w
        × Made (each delivers rest) w v
    hears_response rest u v two made_ =
        let b = then_to (delivers answers_it u) (each delivers rest) made_.0 v made_.1 in
        let d = delivered_server x ls lc3 cs [] u b.between x.client (made response) b.front apart two b.made in
        let next : after (server_setup x)
        (events.Taken x.client (made response) (took_of (server_setup x) ls x.client (made response))) ls
        ≡ server_at x h.given_server 0 0 lives.Waiting ks1 =
        ap (λ (got : Took). after (server_setup x) (events.Taken x.client (made response) got) ls)
        (response_took x (c ∷ []) h.used_server h.given_server h.ks h.heard (suc h.given % 2 ^ 32) answer
        (some_first x fits) a plain1)
        ∙ response_heard x (c ∷ []) h.used_server h.given_server h.ks h.heard (suc h.given % 2 ^ 32) answer a plain1
        ∙ ap (λ (q : Bool). node_of x (served_link x q false h.given_server 0) (c ∷ []) 0 lives.Waiting ks1)
        (sym keyed) in (
          b.between,
          two_as x _ lc3 (server_at x h.given_server 0 0 lives.Waiting ks1) lc3 cs [] b.between b.between next refl
              refl d,
          (b.rest, b.goes),
        )

    -- and the pieces
    record TakenFourth (u : Stage) : Type 0 where
      ks : CallLooks
      received : ks.received ≡ part_read request [] last last
      new : ks.sent ≡ nothing_sent
      steady : IsSteady ks
      plain : IfSome ks.owed_ack IsPlainOwed
      late : IfSome ks.owed_ack (λ o. o.rank ≤ 0 + 100)
      heard : ks.heard ≡ 0
      used : ℕ
      two : Two x (server_at x h.given_server used 0 lives.Waiting ks) lc3 cs [] u

    takes_fourth : (w v : Stage) → Two x (server_at x h.given_server 0 0 lives.Waiting ks1) lc3 cs [] w
        → Made (each delivers (datagrams x.client x.server p.pieces.messages)) w v → TakenFourth v
    takes_fourth w v two made_ =
        by (takes_burst false 0 (header_of x) request [] h.last h.last last 0 ks1 p.pieces.messages p.pieces.burst
        h.received (omega arith) (omega (arith, last_near)) last_within (omega arith)
        (subst (λ (z : Sent). held_pieces z ≤ 32) (sym h.new) (omega arith)) h.steady.steady (λ is. absurd cc) h.plain
        h.soon)
      where
        takes_with : (ks : CallLooks) → Takes (server_place x 0) ks1 p.pieces.messages ks
            → (used : ℕ) × Two x (server_at x h.given_server used 0 lives.Waiting ks) lc3 cs [] v
        takes_with ks takes =
            server_takes x fits apart 0 cs [] lc3 lives.Waiting ks1 ks p.pieces.messages refl (λ b. refl) takes
            (later_burst (header_of x) true request h.last last p.pieces.messages h.some p.pieces.burst) h.given_server
            0 w v
            two made_

        steady1 : IsSteady ks1
        steady1 =
            record {
              wide = h.steady.wide;
              most = h.steady.most;
              steady = h.steady.steady;
              even = h.steady.even;
              slow = h.steady.slow;
            }

        by : TookPieces false 0 (header_of x) request [] h.last last ks1 p.pieces.messages → TakenFourth v
        by (none_came same none) =
            let r = takes_with ks1 (subst (λ (ms : List Message). Takes (server_place x 0) ks1 ms ks1) (sym none)
            (takes_none ks1)) in
            record {
              ks = ks1;
              received = h.received ∙ ap (λ (i : ℕ). part_read request [] i i) same;
              new = h.new;
              steady = steady1;
              plain = h.plain;
              late = h.soon;
              heard = refl;
              used = r.0;
              two = r.1;
            }
        by (some_came less owed plain soon sooner ended behind) =
            let l : CallLooks = came_behind false 0 request [] last owed ks1 in
            let r = takes_with l (subst (λ (ms : List Message). Takes (server_place x 0) ks1 ms l)
            (append-nil p.pieces.messages) (behind [] l (takes_none l))) in
            record {
              ks = l;
              received = refl;
              new = h.new;
              steady = record {
                wide = h.steady.wide;
                most = h.steady.most;
                steady = h.steady.steady;
                even = h.steady.even;
                slow = h.steady.slow;
              };
              plain = plain;
              late = soon;
              heard = refl;
              used = r.0;
              two = r.1;
            }

    abbrev taken : TakenFourth m.delivered
    taken =
        (let r = hears_response (datagrams x.client x.server p.pieces.messages) m.polled.stage m.delivered
        polls_fourth.two (
          m.delivers_are.0,
          subst (λ (ds : List Datagram). each delivers ds m.polled.stage m.delivers_are.0 (To m.delivered))
              polls_fourth.given_is m.delivers_are.1,
        ) in takes_fourth r.0 m.delivered r.1 r.2)

    -- ---- the turns

    abbrev ks2 : CallLooks
    ks2 = taken.ks

    owes : IsOwedBy (0 + 100) ks2 ⊎ ((◌≡◌ {A = ℕ} 0 0) × (used_of ks2.received < last))
    owes = of ks2.owed_ack refl taken.late
      where
        of : (o : Option Owed) → ks2.owed_ack ≡ o → IfSome o (λ z. z.rank ≤ 0 + 100)
            → IsOwedBy (0 + 100) ks2 ⊎ ((◌≡◌ {A = ℕ} 0 0) × (used_of ks2.received < last))
        of None is low =
            inr (
              refl,
              (let some : 1 ≤ h.last = h.some in
                  let none : used_of ks2.received ≡ 0 = ap (λ (r : Received). used_of r) taken.received
                  ∙ used_none request last last in omega (arith, last_more)),
            )
        of (Some o) is low =
            inl (subst (λ (z : Option Owed). IsSomeAnd z (λ w. w.rank ≤ 0 + 100)) (sym is) low)

    came : Came x request 0 0 last 0 kc2 ks2 h.offering h.shut
    came =
        record {
          known = (let some : 1 ≤ h.last = h.some in omega (arith, last_more));
          within = last_within;
          less = (let some : 1 ≤ h.last = h.some in omega (arith, last_more));
          up = sends_told (client_place x 0) request 0 0 h.last 0 e p 0 up1;
          quiet = ap (λ (k : CallLooks). k.received) p.is ∙ h.has.quiet;
          none = ap (λ (k : CallLooks). k.owed_ack) p.is ∙ ⊎_elim
              (λ (w : (p.owed ≡ None) × (p.spoke ≡ 0) × (1 ≤ length p.acks)). w.0)
              (λ (w : (p.acks ≡ []) × (p.owed ≡ h.kc.owed_ack) × (p.spoke ≡ p.pieces.spoke)
              × ((z : Owed) → p.owed ≡ Some z → 0 < z.rank) × (true ≡ true → 0 < p.spoke + 2000)). w.1 ∙ h.has.none)
              p.told;
          offers = h.has.offers
              ∙ ap (λ (ys : List ℕ). ys ++ h.offering) (sym (ap (λ (k : CallLooks). k.sent.said) p.is));
          closed = ap (λ (k : CallLooks). k.sent.shut) p.is ∙ h.has.closed;
          done = λ closed. ⊎_elim (λ (w : (h.offering ≡ []) × (h.shut ≡ true)). w.0)
              (λ (w : (h.shut ≡ false) × (0 < length h.offering) × (length h.kc.sent.said ≡ 1412 * (0 + 32))).
              absurd (both_ways h.shut w.0 closed)) h.has.out;
          new = taken.new;
          steady = taken.steady;
          plain = taken.plain;
          late = taken.late;
          owes = owes;
          heard = taken.heard;
          past = omega arith;
          soon = omega arith;
          spoke = ap (λ (k : CallLooks). k.spoke) p.is ∙ ⊎_elim
              (λ (w : (p.owed ≡ None) × (p.spoke ≡ 0) × (1 ≤ length p.acks)). w.1)
              (λ (w : (p.acks ≡ []) × (p.owed ≡ h.kc.owed_ack) × (p.spoke ≡ p.pieces.spoke)
              × ((z : Owed) → p.owed ≡ Some z → 0 < z.rank) × (true ≡ true → 0 < p.spoke + 2000)).
              w.2 ∙ ⊎_elim (λ (z : p.pieces.spoke ≡ 0). z)
              (λ (z : (p.pieces.spoke ≡ h.kc.spoke) × (p.pieces.last ≡ h.last)). z.0 ∙ h.has.spoke) p.pieces.spoke_is)
              p.told;
          touch = omega arith;
        }

    turned : TurnsNext x g request call line 0 0 last m.called
    turned =
        turns_next x g request call line small 0 0 last 0 p.behind.given polls_fourth.used h.given_server taken.used kc2
        ks2
        h.offering h.shut phases.Resting came m.served m.called m.calls_are
        (turn_begins x g request lc3 cs 0 h.given_server taken.used last last ks2 [] m.delivered m.served are_bytes
        coded
        taken.new last_within refl
        (begins_read request 0 last last ks2 [] 0 taken.received (omega arith) refl taken.steady.steady) taken.two
        m.serves_are)

    pub fourth : (n : ℕ) × (1 ≤ n) × TurnsNext x g request call line 0 0 n t
    fourth = (
      last,
      (let some : 1 ≤ h.last = h.some in omega (arith, last_more)),
      subst (TurnsNext x g request call line 0 0 last)
          (sym (settles_not m.called t (length m.polled.given == 0)
          (ap (λ (ds : List Datagram). length ds == 0) polls_fourth.given_is
          ∙ ne_eqb (suc (length (datagrams x.client x.server p.pieces.messages))) 0
          (λ (none : suc (length (datagrams x.client x.server p.pieces.messages)) ≡ 0). omega arith)) m.settles_are))
          turned,
    )
