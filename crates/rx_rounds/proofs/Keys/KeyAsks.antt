-- The third round of an invoke where there is a key: the CHALLENGE passes, and an ACK that marks what came, if it is
-- due.
use Rattle.std.proofs.Common.{◌≡◌, ◌<◌, ◌≤◌, ◌+◌, ◌-◌, ◌^◌, ◌%◌, ◌==◌, ◌++◌, ℕ, suc, Bool, true}
use Rattle.std.proofs.Common.{false, List, [], ◌∷◌, refl, ap, sym, subst, ◌∙◌, Option, Some, None, length}
use Rattle.std.proofs.Common.{arith, nat_le}
use Rattle.std.specs.Prelude.{IfSome}
use Rattle.rx_model.specs.declared.answers.Took.{Took}
use Rattle.rx_model.specs.declared.event.Event.TheVariants as events
use Rattle.rx_model.specs.declared.names.CallName.{CallName}
use Rattle.rx_model.specs.declared.wire.TheConstants.{ACK_PING, SILENCE_MS}
use Rattle.rx_model.specs.Message.{Message}
use Rattle.rx_model.specs.Spelling.{made, IsPlain}
use Rattle.rx_rules.specs.After.{after}
use Rattle.rx_rules.specs.CallItems.{Ack, can_give}
use Rattle.rx_rules.specs.CallLooks.{CallLooks}
use Rattle.rx_rules.specs.Items.{poll_answer}
use Rattle.rx_rules.specs.Judging.{took_of}
use Rattle.rx_rules.specs.Life as lives
use Rattle.rx_rules.specs.Looks.{Looks}
use Rattle.rx_rules.specs.Owing.{Owed}
use Rattle.rx_rules.specs.Sent.{nothing_sent}
use Rattle.rx_jobs.specs.Handlers.{Handlers}
use Rattle.rx_law.specs.Worlds.{Datagram}
use Rattle.rx_plan.specs.Network.{delivers}
use Rattle.rx_plan.specs.Parts.{To, each}
use Rattle.rx_plan.specs.Rounds.{Polled, Polling, polls}
use Rattle.rx_plan.specs.Stages.{InvokedState, Stage}
use Rattle.rx_rounds.proofs.Arriving.ArrivingRound.{nothing_gives, nothing_sends}
use Rattle.rx_rounds.proofs.Polls.PolledEnd.{Told, nothing_told, something_told, told_by}
use Rattle.rx_rounds.proofs.Serving.SendsLaws.{next_rest, tells}
use Rattle.rx_rounds.proofs.Flow.{total}
use Rattle.rx_rounds.proofs.Keeper.{part_read}
use Rattle.rx_rounds.proofs.Keys.KeyClass.{index_small}
use Rattle.rx_rounds.proofs.Keys.KeyMarks.{length_marks, marks_all, used_none}
use Rattle.rx_rounds.proofs.Keys.KeySteps.{IsAnswer, challenge_gave, challenge_gives, challenge_heard, challenge_of}
use Rattle.rx_rounds.proofs.Keys.KeySteps.{challenge_took}
use Rattle.rx_rounds.proofs.Keys.KeySteps.{plain_challenge}
use Rattle.rx_rounds.proofs.Making.{ends_to, then_to}
use Rattle.rx_rounds.proofs.One.OneCall.{Ends, client_place, client_poll, client_setup, datagram, link_poll}
use Rattle.rx_rounds.proofs.One.OneCall.{server_place, server_setup, the_call}
use Rattle.rx_rounds.proofs.One.OneFields.{FitsEnds, fresh}
use Rattle.rx_rounds.proofs.One.OneSteps.{ack_of, answering_heard_ack, answering_took_ack, client_none, link_gave}
use Rattle.rx_rounds.proofs.One.OneSteps.{link_none}
use Rattle.rx_rounds.proofs.One.OneWay.{IsPlainOwed, IsSteady}
use Rattle.rx_rounds.proofs.Pair.{message_of, next_of}
use Rattle.rx_rounds.proofs.Rounded.{Made, RoundMade}
use Rattle.rx_rounds.proofs.Takes.Taking.{came_behind}
use Rattle.rx_rounds.proofs.Two.{AreApart, Polls, Two, client_polls_none, delivered_client, host_server, out_to}
use Rattle.rx_rounds.proofs.Two.{polls_to, sent}
use Rattle.rx_rounds.proofs.Two.{server_polls_none, server_polls_some, two_as}
use Rattle.rx_rounds.proofs.MarksHeard.{all_marks, heard_marks, sends_marked, marks_row, marks_heard}
use Rattle.rx_rounds.proofs.Keys.KeyChallenges.{Challenged, Gave, answering_at, calls_with, rests, unproved_at}

-- the client answers the CHALLENGE
pub record Answering (x : Ends) (answer request : List ℕ) (call line : ℕ) (t : Stage) : Type 0 where
  pub last : ℕ
  pub some : 1 ≤ last
  pub near : last ≤ 32
  pub within : last ≤ total request
  pub kc : CallLooks
  pub offering : List ℕ
  pub shut : Bool
  pub has : Gave request last kc offering shut
  pub ks : CallLooks
  pub received : ks.received ≡ part_read request [] last last
  pub new : ks.sent ≡ nothing_sent
  pub steady : IsSteady ks
  pub heard : ks.heard ≡ 0
  pub plain : IfSome ks.owed_ack IsPlainOwed
  pub later : IfSome ks.owed_ack (λ o. 0 < o.rank)
  pub soon : IfSome ks.owed_ack (λ o. o.rank ≤ 100)
  pub given : ℕ
  pub used : ℕ
  pub given_server : ℕ
  pub used_server : ℕ
  pub two : Two x (unproved_at x false given_server used_server ks) (answering_at x (Some answer) given used kc)
      (calls_with x call line offering shut) [] t

pub some_first : (x : Ends) → FitsEnds x → 1 < x.first + 1
some_first x fits = let known : 1 ≤ x.first = fits.some in omega arith

-- nothing is due of an end that owes nothing and may give nothing
rests_client : (x : Ends) (request : List ℕ) (last : ℕ) (kc : CallLooks) (offering : List ℕ) (shut : Bool)
    → Gave request last kc offering shut
    → can_give kc.cwnd kc.sent ≡ false → next_of (client_place x 0) kc ≡ None
rests_client x request last kc offering shut h over =
    next_rest request 0 0 last kc h.up (client_place x 0) over (λ less. omega arith)
    ∙ ap (λ (o : Option Owed). tells true 0 kc.spoke o) h.none ∙ ap (λ (n : ℕ). tells true 0 n None) h.spoke

pub awake : (k : CallLooks) → k.heard ≡ 0 → nat_le SILENCE_MS (0 - k.heard) ≡ false
awake k heard = ap (λ (i : ℕ). nat_le SILENCE_MS (0 - i)) heard

-- what the server's end tells, which said nothing
pub server_next : (x : Ends) (ks : CallLooks) → ks.sent ≡ nothing_sent → IsSteady ks
    → next_of (server_place x 0) ks ≡ tells false 0 ks.spoke ks.owed_ack
server_next x ks new steady =
    next_rest [] 0 0 0 ks (nothing_sends 0 ks new steady) (server_place x 0) (nothing_gives ks new)
    (λ less. absurd (omega arith))

module _ (x : Ends) (g : Handlers) (fits : FitsEnds x) (apart : AreApart x) (answer : List ℕ) (a : IsAnswer x answer)
    (request : List ℕ) (call line : ℕ) where
  abbrev c : CallName
  c = the_call x

  module _ (s t : Stage) (h : Challenged x request call line s) (m : RoundMade g s t) where
    abbrev cs : List InvokedState
    cs = calls_with x call line h.offering h.shut

    abbrev ks0 : CallLooks
    ks0 = came_behind false 0 request [] h.last h.owed fresh

    abbrev lc : Looks
    lc = answering_at x None h.given h.used h.kc

    abbrev challenge : Message
    challenge = challenge_of x (suc 0 % 2 ^ 32)

    plain1 : IsPlain challenge
    plain1 = plain_challenge x (suc 0 % 2 ^ 32) answer fits a (omega arith)

    abbrev asks : Datagram
    asks = sent x.server x.client (made challenge)

    -- the ACK, if it is due
    abbrev ack : ℕ → ℕ → Message
    ack reason serial = ack_of x (suc 1 % 2 ^ 32) (all_marks h.last reason serial)

    abbrev acks : ℕ → ℕ → Datagram
    acks reason serial = sent x.server x.client (made (ack reason serial))

    plain2 : (reason serial : ℕ) → 1 ≤ reason → reason ≤ 8 → serial < 2 ^ 32 → IsPlain (ack reason serial)
    plain2 reason serial low high few =
        record {
          epoch = fits.epoch;
          cid = omega arith;
          number = fits.first;
          seq = omega arith;
          serial = omega arith;
          flags = omega arith;
          status = refl;
          index = index_small x.key;
          spare = refl;
          service = fits.service;
          body = record {
            first = omega arith;
            previous = (let near : h.last ≤ 32 = h.near in omega arith);
            serial = few;
            reason_low = low;
            reason_high = high;
            marks = (let near : h.last ≤ 32 = h.near in omega (arith, length_marks h.last));
            window = omega arith;
          };
        }

    ack_is : (reason serial : ℕ) → (reason == ACK_PING) ≡ false
        → message_of (server_place x 0) (record { looks = ks0; given = 1 }) (Ack reason serial) ≡ ack reason serial
    ack_is reason serial kind =
        rw (kind, marks_all request h.last h.last) (rw (used_none request h.last h.last) refl)

    steady0 : IsSteady ks0
    steady0 = record { wide = omega arith; most = refl; steady = refl; even = refl; slow = omega arith }

    -- behind the ACK
    abbrev ks2 : CallLooks
    ks2 = record ks0 { owed_ack = None; spoke = 0 }

    data PolledThird (q : Polled) : Type 0 where
      asks_alone : 0 < h.owed.rank → q.given ≡ asks ∷ [] → Two x (unproved_at x false 1 0 ks0) lc cs [] q.stage
          → PolledThird q
      asks_told : (reason serial : ℕ) → 1 ≤ reason → reason ≤ 8 → serial < 2 ^ 32 → (reason == ACK_PING) ≡ false
          → q.given ≡ asks ∷ acks reason serial ∷ [] → Two x (unproved_at x false 2 0 ks2) lc cs [] q.stage
          → PolledThird q

    polls_third : (q : Polled) → Made polls s q → PolledThird q
    polls_third q made_ =
        let ls : Looks = unproved_at x true 0 h.used_server ks0 in
        let r = polls_to x ls lc cs [] s q made_.0 h.two made_.1 in
        let silent : poll_answer (client_setup x) lc ≡ None =
        client_poll x 0 h.used h.given h.kc (awake h.kc h.has.heard)
        ∙ ap (datagram (client_place x 0) x.server (record { looks = h.kc; given = h.given }))
        (rests_client x request h.last h.kc h.offering h.shut h.has h.over) in
        let c1 = client_polls_none x ls lc cs [] s r.0.stage x.client [] r.2 h.two silent r.4 in
        let two1 : Two x ls lc cs [] r.0.stage = two_as x ls (after (client_setup x) (events.Polled None) lc) ls lc cs
        []
        r.0.stage r.0.stage refl (client_none x 0 h.used h.given h.kc (awake h.kc h.has.heard)) refl c1.1 in
        let o = out_to 0 x.server r.0 q r.1 (host_server x ls lc cs [] r.0.stage two1) r.5 in
        let e1 = server_polls_some x ls lc cs [] r.0.stage q.stage x.server x.client (made challenge) r.0.given o.0 two1
        (challenge_gives x (c ∷ []) h.used_server 0 ks0 refl) o.2 in
        let ls1 : Looks = unproved_at x false 1 0 ks0 in
        let two2 : Two x ls1 lc cs [] e1.0 = two_as x _ lc ls1 lc cs [] e1.0 e1.0
        (challenge_gave x (c ∷ []) h.used_server 0 ks0 refl plain1) refl refl e1.1 in
        let start : r.0.given ≡ [] = r.3 ∙ c1.0 in
        by r.0.given o.0 e1.0 start o.1 two2 e1.2 (told_by false 0 0 (Some h.owed) h.plain)
      where
        by : (given : List Datagram) (w : Polling) (u : Stage) → given ≡ [] → q.given ≡ w.given
            → Two x (unproved_at x false 1 0 ks0) lc cs [] u
            → Polls 0 x.server (given ++ asks ∷ []) u w q.stage → Told false 0 0 (Some h.owed) → PolledThird q
        by given w u start is two goes (nothing_told none late early) =
            let ls1 : Looks = unproved_at x false 1 0 ks0 in
            let over : poll_answer (server_setup x) ls1 ≡ None =
            link_poll x false (c ∷ []) 0 0 1 lives.Waiting ks0 refl refl refl
            ∙ ap (datagram (server_place x 0) x.client (record { looks = ks0; given = 1 }))
            (server_next x ks0 refl steady0 ∙ none) in
            let e = server_polls_none x ls1 lc cs [] u q.stage x.server (given ++ asks ∷ []) w two over goes in
            asks_alone (late h.owed refl) (is ∙ e.0 ∙ ap (λ (ds : List Datagram). ds ++ asks ∷ []) start)
            (two_as x (after (server_setup x) (events.Polled None) ls1) lc ls1 lc cs [] q.stage q.stage
            (link_none x false (c ∷ []) 0 0 1 lives.Waiting ks0 refl) refl refl e.1)
        by given w u start is two goes (something_told reason serial some low high few kind why ping) =
            let ls1 : Looks = unproved_at x false 1 0 ks0 in
            let m2 : Message = message_of (server_place x 0) (record { looks = ks0; given = 1 }) (Ack reason serial) in
            let gives : poll_answer (server_setup x) ls1 ≡ Some (x.client, made m2) =
            link_poll x false (c ∷ []) 0 0 1 lives.Waiting ks0 refl refl refl
            ∙ ap (datagram (server_place x 0) x.client (record { looks = ks0; given = 1 }))
            (server_next x ks0 refl steady0 ∙ some) in
            let e = server_polls_some x ls1 lc cs [] u q.stage x.server x.client (made m2) (given ++ asks ∷ []) w two
            gives
            goes in
            let same : m2 ≡ ack reason serial = ack_is reason serial (kind refl) in
            let ls2 : Looks = unproved_at x false 2 0 ks2 in
            let two3 : Two x ls2 lc cs [] e.0 = two_as x _ lc ls2 lc cs [] e.0 e.0
            (link_gave x false (c ∷ []) 0 0 1 lives.Waiting ks0 (Ack reason serial) refl refl
            (subst IsPlain (sym same) (plain2 reason serial low high few))) refl refl e.1 in
            let over : poll_answer (server_setup x) ls2 ≡ None =
            link_poll x false (c ∷ []) 0 0 2 lives.Waiting ks2 refl refl refl
            ∙ ap (datagram (server_place x 0) x.client (record { looks = ks2; given = 2 }))
            (server_next x ks2 refl
            (record { wide = omega arith; most = refl; steady = refl; even = refl; slow = omega arith })) in
            let f = server_polls_none x ls2 lc cs [] e.0 q.stage x.server
            ((given ++ asks ∷ []) ++ sent x.server x.client (made m2) ∷ []) w two3 over e.2 in
            asks_told reason serial low high few (kind refl)
            (is ∙ f.0 ∙ ap (λ (ds : List Datagram). (ds ++ asks ∷ []) ++ sent x.server x.client (made m2) ∷ []) start
            ∙ ap (λ (z : Message). asks ∷ sent x.server x.client (made z) ∷ []) same)
            (two_as x (after (server_setup x) (events.Polled None) ls2) lc ls2 lc cs [] q.stage q.stage
            (link_none x false (c ∷ []) 0 0 2 lives.Waiting ks2 refl) refl refl f.1)

    -- ---- the client hears of it

    abbrev kc1 : CallLooks
    kc1 = record h.kc { heard = 0 }

    same1 : h.kc ≡ kc1
    same1 = ap (λ (i : ℕ). record h.kc { heard = i }) h.has.heard

    has1 : Gave request h.last kc1 h.offering h.shut
    has1 = subst (λ (k : CallLooks). Gave request h.last k h.offering h.shut) same1 h.has

    hears_challenge : (ls : Looks) (rest : List Datagram) (u v : Stage) → Two x ls lc cs [] u
        → Made (each delivers (asks ∷ rest)) u v
        → (w : Stage) × Two x ls (answering_at x (Some answer) h.given 0 kc1) cs [] w × Made (each delivers rest) w v
    hears_challenge ls rest u v two made_ =
        let b = then_to (delivers asks u) (each delivers rest) made_.0 v made_.1 in
        let d = delivered_client x ls lc cs [] u b.between x.server (made challenge) b.front apart two b.made in
        let next : after (client_setup x)
        (events.Taken x.server (made challenge) (took_of (client_setup x) lc x.server (made challenge))) lc
        ≡ answering_at x (Some answer) h.given 0 kc1 =
        ap (λ (got : Took). after (client_setup x) (events.Taken x.server (made challenge) got) lc)
        (challenge_took x h.used h.given h.kc h.has.heard (suc 0 % 2 ^ 32) answer (some_first x fits) a plain1)
        ∙ challenge_heard x h.used h.given h.kc h.has.heard (suc 0 % 2 ^ 32) answer a plain1 in (
          b.between,
          two_as x ls _ ls (answering_at x (Some answer) h.given 0 kc1) cs [] b.between b.between refl next refl d,
          (b.rest, b.goes),
        )

    -- the ACK marks all that it gave
    abbrev kc2 : CallLooks
    kc2 = heard_marks h.last kc1

    has2 : Gave request h.last kc2 h.offering h.shut
    has2 =
        record {
          up = sends_marked request h.last kc1 has1.up;
          quiet = has1.quiet;
          none = has1.none;
          heard = refl;
          spoke = has1.spoke;
          offers = has1.offers;
          closed = has1.closed;
          out = has1.out;
        }

    hears_ack : (ls : Looks) (reason serial : ℕ) (u v : Stage) → 1 ≤ reason → reason ≤ 8 → serial < 2 ^ 32
        → (reason == ACK_PING) ≡ false
        → Two x ls (answering_at x (Some answer) h.given 0 kc1) cs [] u
        → Made (each delivers (acks reason serial ∷ [])) u v
        → Two x ls (answering_at x (Some answer) h.given 0 kc2) cs [] v
    hears_ack ls reason serial u v low high few kind two made_ =
        let m2 : Message = ack reason serial in
        let l1 : Looks = answering_at x (Some answer) h.given 0 kc1 in
        let plain : IsPlain m2 = plain2 reason serial low high few in
        let b = then_to (delivers (acks reason serial) u) (each delivers []) made_.0 v made_.1 in
        let d = delivered_client x ls l1 cs [] u b.between x.server (made m2) b.front apart two b.made in
        let next : after (client_setup x)
        (events.Taken x.server (made m2) (took_of (client_setup x) l1 x.server (made m2))) l1
        ≡ answering_at x (Some answer) h.given 0 kc2 =
        ap (λ (got : Took). after (client_setup x) (events.Taken x.server (made m2) got) l1)
        (answering_took_ack x (Some answer) [] 0 0 h.given kc1 (suc 1 % 2 ^ 32) (all_marks h.last reason serial)
        (some_first x fits)
        plain ∙ marks_row request h.last kc1 has1.up x (suc 1 % 2 ^ 32) reason serial)
        ∙ answering_heard_ack x (Some answer) [] 0 0 h.given kc1 (suc 1 % 2 ^ 32) (all_marks h.last reason serial) plain
        ∙ ap (answering_at x (Some answer) h.given 0)
        (marks_heard request h.last kc1 has1.up x (suc 1 % 2 ^ 32) reason serial kind) in
        two_as x ls _ ls (answering_at x (Some answer) h.given 0 kc2) cs [] b.between v refl next
        (sym (ends_to b.between v b.rest b.goes)) d

    -- ---- the round

    gave_in : (ds : List Datagram) → m.polled.given ≡ ds → Made (each delivers ds) m.polled.stage m.delivered
    gave_in ds is = (
      m.delivers_are.0,
      subst (λ (xs : List Datagram). each delivers xs m.polled.stage m.delivers_are.0 (To m.delivered)) is
          m.delivers_are.1,
    )

    pub answering_then : Answering x answer request call line t
    answering_then = by (polls_third m.polled m.polls_are)
      where
        by : PolledThird m.polled → Answering x answer request call line t
        by (asks_alone late is two) =
            let d = hears_challenge (unproved_at x false 1 0 ks0) [] m.polled.stage m.delivered two
            (gave_in (asks ∷ []) is) in
            let two1 = subst (λ (u : Stage). Two x (unproved_at x false 1 0 ks0)
            (answering_at x (Some answer) h.given 0 kc1) cs [] u)
            (sym (ends_to d.0 m.delivered d.2.0 d.2.1)) d.1 in
            record {
              last = h.last;
              some = h.some;
              near = h.near;
              within = h.within;
              kc = kc1;
              offering = h.offering;
              shut = h.shut;
              has = has1;
              ks = ks0;
              received = refl;
              new = refl;
              steady = steady0;
              heard = refl;
              plain = h.plain;
              later = late;
              soon = h.soon;
              given = h.given;
              used = 0;
              given_server = 1;
              used_server = 0;
              two = rests x g answer a request call line false 1 0 ks0 (Some answer) h.given 0 h.last kc1 h.offering
                  h.shut s t m refl has1
                  (ap (λ (ds : List Datagram). length ds == 0) is) two1;
            }
        by (asks_told reason serial low high few kind is two) =
            let d = hears_challenge (unproved_at x false 2 0 ks2) (acks reason serial ∷ []) m.polled.stage m.delivered
            two
            (gave_in (asks ∷ acks reason serial ∷ []) is) in
            let two1 = hears_ack (unproved_at x false 2 0 ks2) reason serial d.0 m.delivered low high few kind d.1
            d.2 in
            record {
              last = h.last;
              some = h.some;
              near = h.near;
              within = h.within;
              kc = kc2;
              offering = h.offering;
              shut = h.shut;
              has = has2;
              ks = ks2;
              received = refl;
              new = refl;
              steady = record { wide = omega arith; most = refl; steady = refl; even = refl; slow = omega arith };
              heard = refl;
              plain = tt;
              later = tt;
              soon = tt;
              given = h.given;
              used = 0;
              given_server = 2;
              used_server = 0;
              two = rests x g answer a request call line false 2 0 ks2 (Some answer) h.given 0 h.last kc2 h.offering
                  h.shut s t m refl has2
                  (ap (λ (ds : List Datagram). length ds == 0) is) two1;
            }
