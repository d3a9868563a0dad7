-- The round behind a code: the server's ABORT comes to the client, whatever the client gives, and its caller is told.
use Rattle.std.proofs.Common.{◌≡◌, ◌<◌, ◌≤◌, ◌+◌, ◌-◌, ◌%◌, ◌^◌, ◌++◌, ◌==◌, ℕ, ℤ, suc, Bool, true, false, List, []}
use Rattle.std.proofs.Common.{◌∷◌}
use Rattle.std.proofs.Common.{refl, ap, sym, subst, ◌∙◌, Option, Some, None, length, append_assoc, arith, nat_le}
use Rattle.std.proofs.lemmas.Bool.{lt-leb}
use Rattle.rx_model.proofs.NameLaws.{number_itself}
use Rattle.rx_model.specs.declared.answers.End.TheVariants as ends
use Rattle.rx_model.specs.declared.answers.Took.{Took}
use Rattle.rx_model.specs.declared.event.Event.TheVariants as events
use Rattle.rx_model.specs.declared.names.Host.{Host}
use Rattle.rx_model.specs.declared.wire.TheConstants.{ACK_PING, CLIENT_INITIATED, SILENCE_MS}
use Rattle.rx_model.specs.Message.{Message, has_flag}
use Rattle.rx_model.specs.Spelling.{made, IsCode, IsPlain}
use Rattle.rx_rules.specs.After.{after}
use Rattle.rx_rules.specs.CallLooks.{CallLooks}
use Rattle.rx_rules.specs.Judging.{took_of}
use Rattle.rx_rules.specs.Looks.{Looks}
use Rattle.rx_rules.specs.Rules.{accept_answer}
use Rattle.rx_rules.specs.Sent.{counting_of}
use Rattle.rx_law.specs.Worlds.{Datagram}
use Rattle.rx_script.specs.Served.{Served}
use Rattle.rx_asks.specs.declared.ask.Phase.{Phase}
use Rattle.rx_asks.specs.View.{CallerState}
use Rattle.rx_jobs.specs.Handlers.{Handlers}
use Rattle.rx_jobs.specs.Jobs.{JobState}
use Rattle.rx_plan.specs.Network.{delivers}
use Rattle.rx_plan.specs.Parts.{To, each}
use Rattle.rx_plan.specs.Rounds.{Polling, settles}
use Rattle.rx_plan.specs.Stages.{InvokedState, Stage}
use Rattle.rx_plan.specs.Turned.{dispatches, turns_all}
use Rattle.rx_rounds.proofs.Arriving.ArrivingRound.{tells_none}
use Rattle.rx_rounds.proofs.Between.{EndsWith, HasCome, Refusing, caller_with, client_at}
use Rattle.rx_rounds.proofs.Exchange.{Acks, Burst, a_piece, ack_with, an_ack, no_ack, no_piece, piece_with}
use Rattle.rx_rounds.proofs.Polls.PolledEnd.{PolledOut}
use Rattle.rx_rounds.proofs.Serving.SendsLaws.{counts_within}
use Rattle.rx_rounds.proofs.Polls.PolledEnd.{polled_out}
use Rattle.rx_rounds.proofs.Exchange.{tells_of}
use Rattle.rx_rounds.proofs.Flow.{total}
use Rattle.rx_rounds.proofs.Keeper.{piece}
use Rattle.rx_rounds.proofs.Keeping.{HasEnded, kept_settles}
use Rattle.rx_rounds.proofs.Making.{ends_to, then_to}
use Rattle.rx_rounds.proofs.One.OneCall.{Ends, client_place, client_setup, header_of, server_setup}
use Rattle.rx_rounds.proofs.One.OneFields.{FitsEnds}
use Rattle.rx_rounds.proofs.One.OneNode.{ArePlain, client_polled_out, datagrams, plain_ack, plain_acks, plain_burst}
use Rattle.rx_rounds.proofs.One.OneNode.{plain_both}
use Rattle.rx_rounds.proofs.One.OneNode.{plain_piece, side_flags}
use Rattle.rx_rounds.proofs.RoundParts.{idle_dispatch}
use Rattle.rx_rounds.proofs.Pair.{CallEnd}
use Rattle.rx_rounds.proofs.Refusals.RefuseCode.{abort_of, abort_polls, aborted_at, client_aborted, client_took_abort}
use Rattle.rx_rounds.proofs.Refusals.RefuseCode.{over_after_ack}
use Rattle.rx_rounds.proofs.Refusals.RefuseCode.{over_after_data, over_at, over_took_ack, over_took_data, plain_abort}
use Rattle.rx_rounds.proofs.Refusals.RefuseTurn.{caller_aborted}
use Rattle.rx_rounds.proofs.RoundParts.{delivers_split}
use Rattle.rx_rounds.proofs.Rounded.{Made, RoundMade, caller_at}
use Rattle.rx_rounds.proofs.Takes.Taking.{burst_more}
use Rattle.rx_rounds.proofs.Two.{AreApart, Polls, Two, delivered_client, delivered_server, host_server, out_to}
use Rattle.rx_rounds.proofs.Two.{polls_to, sent, two_as}

-- the datagrams of some messages and of others
pub datagrams_both : (from to : Host) (ms ns : List Message) → datagrams from to (ms ++ ns)
    ≡ datagrams from to ms ++ datagrams from to ns
datagrams_both from to [] ns = refl
datagrams_both from to (m ∷ ms) ns =
    ap (λ (ds : List Datagram). sent from to (made m) ∷ ds) (datagrams_both from to ms ns)

module _ (x : Ends) (fits : FitsEnds x) (apart : AreApart x) (now : ℕ) (code : ℤ) (cs : List InvokedState)
    (js : List JobState) (lc : Looks) (k : CallLooks) where
  some_first : 1 < x.first + 1
  some_first = let some : 1 ≤ x.first = fits.some in omega arith

  -- the server, whatever it owes
  abbrev IsOver : Stage → Type 0
  IsOver s = (o : Option ℤ) × (given : ℕ) × (used : ℕ) × Two x (over_at x code o given used now k) lc cs js s

  over_burst : (whole : List ℕ) (n m : ℕ) (ms : List Message) → m < 2 ^ 32 → Burst (header_of x) true whole n m ms
      → (s t : Stage) → IsOver s → Made (each delivers (datagrams x.client x.server ms)) s t → IsOver t
  over_burst whole n m ms small (no_piece i) s t over made_ =
      subst IsOver (sym (ends_to s t made_.0 made_.1)) over
  over_burst whole n m ms small (a_piece i j serial asking others low asks rest) s t over made_ =
      let more : suc n ≤ m = burst_more (header_of x) true whole (suc n) m others rest in
      let p : Message = piece_with (header_of x) true whole (suc n) serial asking in
      let plain : IsPlain p = plain_piece x fits true whole (suc n) serial asking (omega arith) low in
      let ours : has_flag CLIENT_INITIATED p.flags ≡ true = side_flags true asking (suc n == total whole) in
      let ls : Looks = over_at x code over.0 over.1 over.2 now k in
      let b = then_to (delivers (sent x.client x.server (made p)) s)
      (each delivers (datagrams x.client x.server others))
      made_.0 t made_.1 in
      let d = delivered_server x ls lc cs js s b.between x.client (made p) b.front apart over.3 b.made in
      let next : after (server_setup x) (events.Taken x.client (made p) (took_of (server_setup x) ls x.client (made p)))
      ls ≡ over_at x code (Some code) over.1 now now k =
      ap (λ (got : Took). after (server_setup x) (events.Taken x.client (made p) got) ls)
      (over_took_data x code over.0 over.1 over.2 now k (suc n) serial p.flags (piece whole (suc n)).payload some_first
      plain ours)
      ∙ over_after_data x code over.0 over.1 over.2 now k (suc n) serial p.flags (piece whole (suc n)).payload plain
      ours
      in
      over_burst whole (suc n) m others small rest b.between t (
        Some code,
        over.1,
        now,
        two_as x _ lc (over_at x code (Some code) over.1 now now k) lc cs js b.between b.between
            next refl refl d,
      ) (b.rest, b.goes)

  over_acks : (n : ℕ) (ms : List Message) → n < 2 ^ 32 - 1 → Acks (header_of x) true n ms → (s t : Stage) → IsOver s
      → Made (each delivers (datagrams x.client x.server ms)) s t → IsOver t
  over_acks n ms small no_ack s t over made_ = subst IsOver (sym (ends_to s t made_.0 made_.1)) over
  over_acks n ms small (an_ack serial previous caused reason f1 f2 f3 low high kind) s t over made_ =
      let p : Message = ack_with (header_of x) true n serial previous caused reason in
      let plain : IsPlain p = plain_ack x fits true n serial previous caused reason small f1 f2 f3 low high in
      let ours : has_flag CLIENT_INITIATED p.flags ≡ true = side_flags true (reason == ACK_PING) false in
      let ls : Looks = over_at x code over.0 over.1 over.2 now k in
      let b = then_to (delivers (sent x.client x.server (made p)) s) (each delivers []) made_.0 t made_.1 in
      let d = delivered_server x ls lc cs js s b.between x.client (made p) b.front apart over.3 b.made in
      let next : after (server_setup x) (events.Taken x.client (made p) (took_of (server_setup x) ls x.client (made p)))
      ls ≡ over_at x code (Some code) over.1 now now k =
      ap (λ (got : Took). after (server_setup x) (events.Taken x.client (made p) got) ls)
      (over_took_ack x code over.0 over.1 over.2 now k serial p.flags (tells_of n previous caused reason) some_first
      plain
      ours)
      ∙ over_after_ack x code over.0 over.1 over.2 now k serial p.flags (tells_of n previous caused reason) plain
      ours in (
        Some code,
        over.1,
        now,
        two_as x _ lc (over_at x code (Some code) over.1 now now k) lc cs js b.between t
            next refl (sym (ends_to b.between t b.rest b.goes)) d,
      )

-- nothing waits to be accepted
over_accepts : (x : Ends) (code : ℤ) (o : Option ℤ) (given used now : ℕ) (k : CallLooks)
    → accept_answer (server_setup x) (over_at x code o given used now k) ≡ None
over_accepts x code o given used now k =
    simp (number_itself x.client.addr, number_itself x.client.port, number_itself x.epoch, number_itself x.first) refl

-- a caller that ended stays so as clocks move
pub ended_settled : (call line : ℕ) (w : CallerState) (s t : Stage) (quiet : Bool) → Made (settles quiet) s t
    → HasEnded call line w s → HasEnded call line w t
ended_settled call line w s t quiet made_ h =
    record {
      phase = h.phase;
      is = kept_settles (λ (u : Stage). u.callers) (λ node e u. refl) quiet s t made_ ∙ h.is;
    }

-- the ABORT came: the client's call ended with the code
record AbortCame (x : Ends) (code : ℤ) (now : ℕ) (cs : List InvokedState) (s : Stage) : Type 0 where
  owed : Option ℤ
  given_server : ℕ
  used_server : ℕ
  server : CallLooks
  given_client : ℕ
  used_client : ℕ
  client : CallLooks
  two : Two x (over_at x code owed given_server used_server now server)
      (aborted_at x code given_client used_client [] now client) cs [] s

-- what the client gives comes to the server
module _ (x : Ends) (fits : FitsEnds x) (apart : AreApart x) (now : ℕ) (code : ℤ) (cs : List InvokedState)
    (request : List ℕ) (few : total request < 2 ^ 32 - 1) where
  -- the ABORT is given behind what the client gives, and all is taken
  abort_takes : (n last : ℕ) (pieces acks : List Message) (f : CallEnd) (used_client given used : ℕ) (ks : CallLooks)
      (between : Stage) (before : List Datagram) (polled delivered : Stage) (all : List Datagram) (w : Polling)
      → last ≤ total request → Burst (header_of x) true request n last pieces → Acks (header_of x) true 0 acks
      → IsCode code
      → Two x (over_at x code (Some code) given used now ks) (client_at x f.given used_client [] now f.looks) cs []
      between
      → before ≡ datagrams x.client x.server (pieces ++ acks) → Polls 0 x.server before between w polled
      → all ≡ w.given → Made (each delivers all) polled delivered
      → AbortCame x code now cs delivered
  abort_takes n last pieces acks f used_client given used ks between before polled delivered all w within burst tells
      is_code two front polls all_are made_ =
      let lc : Looks = client_at x f.given used_client [] now f.looks in
      let ab = abort_polls x code given used now ks lc cs [] between polled before w fits is_code two polls in
      let told : Message = abort_of x (suc given % 2 ^ 32) code in
      let abort : Datagram = sent x.server x.client (made told) in
      let whole : all ≡ datagrams x.client x.server pieces ++ (datagrams x.client x.server acks ++ abort ∷ []) =
      all_are ∙ ab.0 ∙ ap (λ (ds : List Datagram). ds ++ abort ∷ []) (front ∙ datagrams_both x.client x.server pieces
      acks)
      ∙ append_assoc (datagrams x.client x.server pieces) (datagrams x.client x.server acks) (abort ∷ []) in
      let a = delivers_split (datagrams x.client x.server pieces) (datagrams x.client x.server acks ++ abort ∷ [])
      polled
      delivered (
        made_.0,
        subst (λ (ds : List Datagram). each delivers ds polled made_.0 (To delivered)) whole made_.1,
      ) in
      let b = delivers_split (datagrams x.client x.server acks) (abort ∷ []) a.0 delivered a.2 in
      let over1 = over_burst x fits apart now code cs [] lc ks request n last pieces (omega arith) burst polled a.0
      (None, suc given, now, ab.1) a.1 in
      let over2 = over_acks x fits apart now code cs [] lc ks 0 acks (omega arith) tells a.0 b.0 over1 b.1 in
      let ls : Looks = over_at x code over2.0 over2.1 over2.2 now ks in
      let c = then_to (delivers abort b.0) (each delivers []) b.2.0 delivered b.2.1 in
      let d = delivered_client x ls lc cs [] b.0 c.between x.server (made told) c.front apart over2.3 c.made in
      let one : 1 < x.first + 1 = (let some : 1 ≤ x.first = fits.some in omega arith) in
      let plain : IsPlain told = plain_abort x (suc given % 2 ^ 32) code fits (omega arith) is_code in
      let lc2 : Looks = aborted_at x code f.given now [] now f.looks in
      let next : after (client_setup x) (events.Taken x.server (made told)
      (took_of (client_setup x) lc x.server (made told))) lc ≡ lc2 =
      ap (λ (got : Took). after (client_setup x) (events.Taken x.server (made told) got) lc)
      (client_took_abort x code f.given used_client now (suc given % 2 ^ 32) [] f.looks one plain)
      ∙ client_aborted x code f.given used_client now (suc given % 2 ^ 32) [] f.looks one plain in
      record {
        owed = over2.0;
        given_server = over2.1;
        used_server = over2.2;
        server = ks;
        given_client = f.given;
        used_client = now;
        client = f.looks;
        two = two_as x ls (after (client_setup x) (events.Taken x.server (made told)
            (took_of (client_setup x) lc x.server (made told))) lc) ls lc2 cs [] c.between delivered refl next
            (sym (ends_to c.between delivered c.rest c.goes)) d;
      }

module _ (x : Ends) (g : Handlers) (request : List ℕ) (call line now : ℕ) (code : ℤ) (s t : Stage) where
  -- the polls and the deliveries of the round
  abort_comes : FitsEnds x → AreApart x → total request < 2 ^ 32 - 1 → (r : Refusing x g request call line now code s)
      → (m : RoundMade g s t)
      → AbortCame x code now (caller_at call line (caller_with x r.offering r.shut [] r.phase) ∷ []) m.delivered
  abort_comes fits apart few r m =
      let e : CallEnd = record { looks = r.kc; given = r.given_client } in
      let cs : List InvokedState = caller_at call line (caller_with x r.offering r.shut [] r.phase) ∷ [] in
      let ls : Looks = over_at x code (Some code) r.given_server r.used_server now r.ks in
      let lc : Looks = client_at x r.given_client r.used_client [] now r.kc in
      let o : PolledOut (client_place x now) request r.since r.a r.n 0 e =
      polled_out (client_place x now) request r.since r.a r.n 0 e refl r.soon r.up
      (tells_none r.kc r.quiet r.owes_none) in
      let within : o.pieces.last ≤ total request =
      (let h = o.pieces.sends 0 (omega arith) (λ less. omega arith) in
      let most : counting_of o.pieces.behind.looks.sent ≤ total request =
      counts_within request 0 r.a o.pieces.last o.pieces.behind.looks h in
      let counted : o.pieces.last ≤ counting_of o.pieces.behind.looks.sent = h.counted in omega arith) in
      let plain : ArePlain (o.pieces.messages ++ o.acks) = plain_both x fits o.pieces.messages o.acks
      (plain_burst x fits true request r.n o.pieces.last o.pieces.messages (omega arith) o.pieces.burst)
      (plain_acks x fits true 0 o.acks (omega arith) o.tells) in
      let awake : nat_le SILENCE_MS (now - r.kc.heard) ≡ false =
      lt-leb SILENCE_MS (now - r.kc.heard) (let near : now ≤ r.kc.heard + 4100 = r.awake in omega arith) in
      let q = polls_to x ls lc cs [] s m.polled m.polls_are.0 r.two m.polls_are.1 in
      let c = client_polled_out x now cs [] [] ls e o.behind (o.pieces.messages ++ o.acks) o.polls plain awake
      r.used_client [] s q.0.stage q.2 r.two q.4 in
      let lc2 : Looks = client_at x o.behind.given c.1.0 [] now o.behind.looks in
      let od = out_to 0 x.server q.0 m.polled q.1 (host_server x ls lc2 cs [] q.0.stage c.1.1) q.5 in
      abort_takes x fits apart now code cs request few r.n o.pieces.last o.pieces.messages o.acks o.behind c.1.0
      r.given_server r.used_server r.ks q.0.stage q.0.given m.polled.stage m.delivered m.polled.given od.0 within
      o.pieces.burst o.tells r.fits c.1.1 (q.3 ∙ c.0) od.2 od.1 m.delivers_are

module _ (x : Ends) (g : Handlers) (call line now : ℕ) (code : ℤ) (offering : List ℕ) (shut : Bool) (phase : Phase)
    (s u v t : Stage) (quiet : Bool) where
  -- the turns behind it
  abort_told : AbortCame x code now (caller_at call line (caller_with x offering shut [] phase) ∷ []) s
      → Made (dispatches g) s u → Made turns_all u v → Made (settles quiet) v t
      → (w : CallerState) × HasEnded call line w t × (w.end ≡ Some (ends.Abort code))
  abort_told a served called settled =
      let cs : List InvokedState = caller_at call line (caller_with x offering shut [] phase) ∷ [] in
      let ls : Looks = over_at x code a.owed a.given_server a.used_server now a.server in
      let lc : Looks = aborted_at x code a.given_client a.used_client [] now a.client in
      let two = idle_dispatch x g ls lc cs s u a.two
      (over_accepts x code a.owed a.given_server a.used_server now a.server) served in
      let w = caller_aborted x ls [] call line code a.given_client a.used_client now [] a.client offering shut phase u v
      two
      called in
      (w.0, ended_settled call line w.0 v t quiet settled w.1, w.2)

module _ (x : Ends) (g : Handlers) (request : List ℕ) (call line now : ℕ) (code : ℤ) (s t : Stage) where
  pub refused_comes : FitsEnds x → AreApart x → total request < 2 ^ 32 - 1
      → (r : Refusing x g request call line now code s) → RoundMade g s t → HasCome x g request call line t
  refused_comes fits apart few r m =
      let w = abort_told x g call line now code r.offering r.shut r.phase m.delivered m.served m.called t
      (length m.polled.given == 0) (abort_comes x g request call line now code s t fits apart few r m)
      m.serves_are m.calls_are m.settles_are in
      record {
        caller = w.0;
        ended = w.1;
        with = subst (λ (v : Served). EndsWith x v w.0) (sym r.served) w.2;
      }
