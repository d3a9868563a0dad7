-- A round in which a reply comes, as far as its turns: what both ends are behind them.
use Rattle.std.proofs.Common.{◌≡◌, ◌<◌, ◌≤◌, ◌⊎◌, inl, inr, ⊎_elim, ◌+◌, ◌-◌, ◌*◌, ◌/◌, ◌^◌, ◌++◌, ◌==◌, ℕ}
use Rattle.std.proofs.Common.{Bool, true, false, List, [], ◌∷◌, refl, ap, sym, subst, ◌∙◌, Option, Some, None}
use Rattle.std.proofs.Common.{length, arith, append-nil, append_assoc, nat_le}
use Rattle.std.proofs.lemmas.Bool.{cases_lt, lt-leb, ne_eqb}
use Rattle.std.proofs.lemmas.List.{length-append}
use Rattle.std.specs.Prelude.{IfSome}
use Rattle.rx_model.specs.declared.wire.TheConstants.{SILENCE_MS}
use Rattle.rx_model.specs.Message.{Message}
use Rattle.rx_rules.specs.CallLooks.{CallLooks}
use Rattle.rx_rules.specs.Looks.{Looks}
use Rattle.rx_rules.specs.Owing.{Owed}
use Rattle.rx_rules.specs.Received.{Received, marks_of}
use Rattle.rx_rules.specs.Sent.{counting_by, counting_of, opened, pieces_by}
use Rattle.rx_jobs.specs.Handlers.{Handlers}
use Rattle.rx_plan.specs.Stages.{InvokedState, Stage}
use Rattle.rx_rounds.proofs.Arriving.ArrivingRound.{tells_read}
use Rattle.rx_rounds.proofs.Between.{Answering_, InTouch, Owing, Replying, caller_with, client_at, owes_any, owes_none}
use Rattle.rx_rounds.proofs.Between.{owes_now}
use Rattle.rx_rounds.proofs.Between.{server_at}
use Rattle.rx_rounds.proofs.Polls.PolledEnd.{PolledOut, polled_out}
use Rattle.rx_rounds.proofs.Serving.SendsLaws.{counts_within, must_go}
use Rattle.rx_rounds.proofs.Flow.{total}
use Rattle.rx_rounds.proofs.One.OneCall.{Ends, client_place, server_place}
use Rattle.rx_rounds.proofs.One.OneFields.{FitsEnds}
use Rattle.rx_rounds.proofs.One.OneNode.{length_both}
use Rattle.rx_rounds.proofs.One.OneWay.{IsPlainOwed, Sends}
use Rattle.rx_rounds.proofs.Pair.{CallEnd}
use Rattle.rx_rounds.proofs.Reading.ReadOn.{begins_read}
use Rattle.rx_rounds.proofs.Replies.ReplyComes.{ReplyCame, reply_came}
use Rattle.rx_rounds.proofs.Replies.ReplyReads.{ReplyRead, reply_read}
use Rattle.rx_rounds.proofs.Rounded.{RoundMade, caller_at, settles_not}
use Rattle.rx_rounds.proofs.Serving.SaidMore.{few_kept, said_more}
use Rattle.rx_rounds.proofs.Serving.ServeTurns.{WroteOn, turn_writes}
use Rattle.rx_rounds.proofs.Serving.ServeWrites.{CanWrite}
use Rattle.rx_rounds.proofs.Two.{AreApart, Two}
use Rattle.rx_rounds.proofs.Replies.ReplyParts.{answering_ends, answering_lives, answering_shut}
use Rattle.rx_rounds.proofs.Replies.ReplyParts.{room_held, sends_on}

module _ (x : Ends) (g : Handlers) (fits : FitsEnds x) (apart : AreApart x) (request reply : List ℕ) (call line : ℕ)
    (few1 : total request < 2 ^ 32 - 1) (now a n q : ℕ) (s t : Stage)
    (r : Replying x g request reply call line now a n q s) (m : RoundMade g s t) (early : now + 2000 < 2 ^ 62) where
  abbrev pub e : CallEnd
  e = record { looks = r.kc; given = r.given_client }

  abbrev pub d : CallEnd
  d = record { looks = r.ks; given = r.given_server }

  pub in_time : r.has.a < total request → now ≤ r.has.since + 100
  in_time less = ⊎_elim (λ (h : r.has.a ≡ total request). absurd (omega arith))
      (λ (h : (n ≡ 0) × (now ≤ r.has.since + 100)). h.1) r.acks

  abbrev pub p : PolledOut (client_place x now) request r.has.since r.has.a (total request) n e
  p = polled_out (client_place x now) request r.has.since r.has.a (total request) n e refl in_time r.has.all
      (tells_read reply n r.kc r.reads)

  abbrev pub o : PolledOut (server_place x now) reply r.since a n (total request) d
  o = polled_out (server_place x now) reply r.since a n (total request) d refl (λ less. r.time.soon) r.down r.has.tells

  pub touch : InTouch 4000 r.since r.kc r.ks
  touch = r.time.touch

  pub past : r.since ≤ now
  past = r.time.past

  pub soon : now ≤ r.since + 100
  soon = r.time.soon

  pub few2 : total reply < 2 ^ 32 - 1
  few2 = (let most : length reply ≤ 16842756 = r.fits in omega arith)

  pub awake : nat_le SILENCE_MS (now - r.kc.heard) ≡ false
  awake = let near : r.since ≤ r.kc.heard + 4000 = touch.client in lt-leb SILENCE_MS (now - r.kc.heard) (omega arith)

  pub awake2 : nat_le SILENCE_MS (now - r.ks.heard) ≡ false
  awake2 = let near : r.since ≤ r.ks.heard + 1000 = touch.server in lt-leb SILENCE_MS (now - r.ks.heard) (omega arith)

  pub no_ping : now < r.kc.spoke + 2000
  no_ping = let near : r.since ≤ r.kc.spoke + 1000 = touch.spoke in omega arith

  abbrev pub cs : List InvokedState
  cs = caller_at call line (caller_with x [] true r.kc.received.read r.phase) ∷ []

  -- the polls and the deliveries
  abbrev pub came : ReplyCame x g fits apart request reply now r.since r.has.since r.has.a a n e d p o r.has.all
      r.has.shut
      in_time no_ping r.reads.plain r.life cs r.jobs r.reads.read m.polled.given m.delivered
  came = reply_came x g fits apart request reply now r.since r.has.since r.has.a a n e d p o r.has.all r.has.shut
      in_time
      no_ping r.reads.plain past few1 few2 r.down r.reads r.life cs r.jobs
      (answering_lives x g request r.ks.sent.said r.ks.sent.shut r.rest r.life r.jobs r.job).0
      (answering_lives x g request r.ks.sent.said r.ks.sent.shut r.rest r.life r.jobs r.job).1 awake awake2 r.late
      r.used_client r.used_server r.firsts s t m r.two

  -- ---- the server's turn

  abbrev pub k1 : CallLooks
  k1 = came.k

  abbrev pub last : ℕ
  last = o.pieces.last

  pub last_more : n ≤ last
  last_more = o.pieces.more

  pub counted1 : last ≤ counting_of k1.sent
  counted1 = came.down.counted

  pub last_within : last ≤ total reply
  last_within = (let most : counting_of k1.sent ≤ total reply =
      counts_within reply came.since1 came.a1 last k1 came.down in omega (arith, counted1))

  pub said_within : length reply ≡ length k1.sent.said + length came.down.rest
  said_within = ap (λ (ys : List ℕ). length ys) came.down.said ∙ length-append k1.sent.said came.down.rest

  pub room1 : length k1.sent.said ≤ 1412 * (came.a1 + 32)
  room1 = room_held k1.sent came.a1 came.down.acked came.down.held

  pub job1 : Answering_ x g request k1.sent.said k1.sent.shut r.rest r.life r.jobs
  job1 = subst (λ (b : Bool). Answering_ x g request k1.sent.said b r.rest r.life r.jobs) (sym came.shut)
      (subst (λ (ys : List ℕ). Answering_ x g request ys r.ks.sent.shut r.rest r.life r.jobs) (sym came.said) r.job)

  pub can1 : k1.sent.shut ≡ false → CanWrite came.a1 k1
  can1 going =
      let counts : last ≤ (length k1.sent.said - 1) / 1412 =
      subst (λ (b : Bool). last ≤ counting_by (length k1.sent.said) b) going counted1 in
      let holds : opened (length k1.sent.said) - k1.sent.acked ≤ 32 =
      subst (λ (b : Bool). pieces_by (length k1.sent.said) b - k1.sent.acked ≤ 32) going came.down.held in
      let known : came.a1 ≤ last = came.down.known in
      let most : length reply ≤ 16842756 = r.fits in
      record {
        ended = ap (λ (v : Received). v.ended) came.received ∙ r.has.ended;
        acked = came.down.acked;
        going = going;
        few = omega (arith, few_kept k1 (ap (λ (v : Received). marks_of v) came.received ∙ r.has.tells.marks));
        known = omega arith;
        near = omega (arith, came.down.acked);
        small = omega (arith, said_within);
      }

  abbrev pub lc1 : Looks
  lc1 = client_at x p.behind.given came.used_client came.names now came.l

  abbrev pub wrote : WroteOn x g request lc1 cs now o.behind.given came.used_server came.a1 k1 r.rest m.served
  wrote = turn_writes x g request lc1 cs now o.behind.given came.used_server r.life r.jobs came.a1 k1 r.rest m.delivered
      m.served job1 can1 room1 came.two m.serves_are

  abbrev pub k2 : CallLooks
  k2 = said_more wrote.more wrote.shut k1

  -- ---- the caller's turn

  abbrev pub ls2 : Looks
  ls2 = server_at x o.behind.given came.used_server now wrote.life k2

  pub read_is : r.kc.received.read ≡ r.reads.read
  read_is = ap (λ (v : Received). v.read) r.reads.kept

  pub two2 : Two x ls2 lc1 (caller_at call line (caller_with x [] true r.reads.read r.phase) ∷ []) wrote.jobs m.served
  two2 = subst (λ (ys : List ℕ). Two x ls2 lc1 (caller_at call line (caller_with x [] true ys r.phase) ∷ []) wrote.jobs
      m.served) read_is wrote.two

  abbrev pub turned : ReplyRead x reply ls2 wrote.jobs call line p.behind.given came.used_client now came.got.previous
      last
      came.names came.l r.fits m.called
  turned = reply_read x reply ls2 wrote.jobs call line p.behind.given came.used_client now came.got.previous last
      came.names
      came.l r.fits came.l r.reads.read r.phase m.served m.called last_within
      (begins_read reply now came.got.previous last came.l r.reads.read n came.got.received last_more r.reads.exact
      came.got.all.sends.rates.steady) two2
      m.calls_are

  -- ---- where the server has pieces to give it gives some

  pub can_go : a ≡ n → n < last
  can_go same = o.pieces.some (must_go reply r.since a n r.ks r.down same (r.more same))

  -- behind its polls it owes nothing, or what it owed, which isn't due
  pub owes2 : ((k2.owed_ack ≡ None) × (1 ≤ length o.acks))
      ⊎ ((k2.owed_ack ≡ r.ks.owed_ack) × (o.acks ≡ []) × ((z : Owed) → r.ks.owed_ack ≡ Some z → now < z.rank))
  owes2 = ⊎_elim
      (λ (w : (o.owed ≡ None) × (o.spoke ≡ now) × (1 ≤ length o.acks)). inl (came.owed ∙ w.0, w.2))
      (λ (w : (o.acks ≡ []) × (o.owed ≡ r.ks.owed_ack) × (o.spoke ≡ o.pieces.spoke)
      × ((z : Owed) → o.owed ≡ Some z → now < z.rank) × (false ≡ true → now < o.spoke + 2000)).
      inr (came.owed ∙ w.1, w.0, λ z is. w.3 z (w.1 ∙ is))) o.told

  pub plain2 : IfSome k2.owed_ack IsPlainOwed
  plain2 = ⊎_elim
      (λ (w : (k2.owed_ack ≡ None) × (1 ≤ length o.acks)). subst (λ (z : Option Owed). IfSome z IsPlainOwed) (sym w.0)
      tt)
      (λ (w : (k2.owed_ack ≡ r.ks.owed_ack) × (o.acks ≡ []) × ((z : Owed) → r.ks.owed_ack ≡ Some z → now < z.rank)).
      subst (λ (z : Option Owed). IfSome z IsPlainOwed) (sym w.0) r.has.tells.plain) owes2

  -- what it owes is none where only what is due was owed
  pub none_due : (z : Option Owed) → IfSome z (λ w. w.rank ≤ now) → ((w : Owed) → z ≡ Some w → now < w.rank) → z ≡ None
  none_due None low later = refl
  none_due (Some w) low later = absurd (let high : now < w.rank = later w refl in omega arith)

  -- it counts no more than before
  pub owing2 : (more : ℕ) × (more ≤ r.owing) × Owing now k2.owed_ack more
  owing2 = of r.passes owes2
    where
      of : Owing now r.ks.owed_ack r.owing → ((k2.owed_ack ≡ None) × (1 ≤ length o.acks))
          ⊎ ((k2.owed_ack ≡ r.ks.owed_ack) × (o.acks ≡ []) × ((z : Owed) → r.ks.owed_ack ≡ Some z → now < z.rank))
          → (more : ℕ) × (more ≤ r.owing) × Owing now k2.owed_ack more
      of passes (inl w) = (0, omega arith, owes_none w.0)
      of (owes_none none) (inr w) = (0, omega arith, owes_none (w.0 ∙ none))
      of (owes_now some low) (inr w) = (0, omega arith, owes_none (w.0 ∙ none_due r.ks.owed_ack low w.2))
      of (owes_any some) (inr w) = (r.owing, omega arith, owes_any some)

  -- the client's end behind its polls
  pub heard_p : p.behind.looks.heard ≡ r.kc.heard
  heard_p = ap (λ (i : CallLooks). i.heard) p.is

  pub spoke_p : (p.behind.looks.spoke ≡ now) ⊎ ((p.behind.looks.spoke ≡ r.kc.spoke) × (p.acks ≡ []))
  spoke_p = ⊎_elim
      (λ (w : (p.owed ≡ None) × (p.spoke ≡ now) × (1 ≤ length p.acks)). inl (is ∙ w.1))
      (λ (w : (p.acks ≡ []) × (p.owed ≡ r.kc.owed_ack) × (p.spoke ≡ p.pieces.spoke)
      × ((z : Owed) → p.owed ≡ Some z → now < z.rank) × (true ≡ true → now < p.spoke + 2000)).
      ⊎_elim (λ (z : p.pieces.spoke ≡ now). inl (is ∙ w.2 ∙ z))
      (λ (z : (p.pieces.spoke ≡ r.kc.spoke) × (p.pieces.last ≡ total request)). inr (is ∙ w.2 ∙ z.0, w.0))
      p.pieces.spoke_is) p.told
    where
      is : p.behind.looks.spoke ≡ p.spoke
      is = ap (λ (i : CallLooks). i.spoke) p.is

  -- where it told nothing it owes what it owed, and that isn't due
  pub quiet_owes : p.acks ≡ [] → (p.behind.looks.owed_ack ≡ r.kc.owed_ack)
      × ((z : Owed) → r.kc.owed_ack ≡ Some z → now < z.rank)
  quiet_owes quiet = ⊎_elim
      (λ (w : (p.owed ≡ None) × (p.spoke ≡ now) × (1 ≤ length p.acks)).
      absurd (let none : length p.acks ≡ 0 = ap (λ (xs : List Message). length xs) quiet in
      let some : 1 ≤ length p.acks = w.2 in omega arith))
      (λ (w : (p.acks ≡ []) × (p.owed ≡ r.kc.owed_ack) × (p.spoke ≡ p.pieces.spoke)
      × ((z : Owed) → p.owed ≡ Some z → now < z.rank) × (true ≡ true → now < p.spoke + 2000)).
      (ap (λ (i : CallLooks). i.owed_ack) p.is ∙ w.1, λ z is. w.3 z (w.1 ∙ is))) p.told

  -- the request is acknowledged whole from the first piece on
  pub acked_all : came.got.all.acked ≡ total request
  acked_all = elim (cases_lt n last) as (λ w. came.got.all.acked ≡ total request) [
    | inl less ↦ came.got.known less
    | inr same ↦ came.got.known_on (ap (λ (i : CallLooks). i.sent.acked) p.is ∙ r.has.all.acked
        ∙ ⊎_elim (λ (z : r.has.a ≡ total request). z)
        (λ (z : (n ≡ 0) × (now ≤ r.has.since + 100)). absurd (let none : n ≡ 0 = z.0 in
        let known : a ≤ n = r.down.known in let go : n < last = can_go (omega arith) in omega arith)) r.acks)
  ]

  -- what the turn wrote
  pub split2 : reply ≡ (k1.sent.said ++ wrote.more) ++ wrote.rest
  split2 = r.writes ∙ ap (λ (ys : List ℕ). ys ++ r.rest) (sym came.said)
      ∙ ap (λ (ys : List ℕ). k1.sent.said ++ ys) wrote.split
      ∙ sym (append_assoc k1.sent.said wrote.more wrote.rest)

  pub ends2 : wrote.shut ≡ true → wrote.rest ≡ []
  ends2 = answering_ends x g request (k1.sent.said ++ wrote.more) wrote.shut wrote.rest wrote.life wrote.jobs wrote.job

  pub keeps2 : k1.sent.shut ≡ true → wrote.shut ≡ true
  keeps2 closed =
      let none : r.rest ≡ [] = answering_ends x g request k1.sent.said k1.sent.shut r.rest r.life r.jobs job1 closed in
      let parts : length r.rest ≡ length wrote.more + length wrote.rest =
      ap (λ (ys : List ℕ). length ys) wrote.split ∙ length-append wrote.more wrote.rest in
      let zero_ : length r.rest ≡ 0 = ap (λ (ys : List ℕ). length ys) none in
      answering_shut x g request (k1.sent.said ++ wrote.more) wrote.shut wrote.rest wrote.life wrote.jobs wrote.job
      (omega arith)

  pub down2 : Sends reply came.since1 came.a1 last k2
  down2 = sends_on reply came.since1 came.a1 last k1 came.down wrote.more wrote.rest wrote.shut split2 ends2 keeps2
      wrote.within

  pub more2 : last < total reply → came.a1 ≡ last → last < counting_of k2.sent
  more2 short same = ⊎_elim
      (λ (w : wrote.shut ≡ true). subst (λ (b : Bool). last < counting_by (length (k1.sent.said ++ wrote.more)) b)
      (sym w)
      (let whole : length reply ≡ length (k1.sent.said ++ wrote.more) = ap (λ (ys : List ℕ). length ys)
      (split2 ∙ ap (λ (ys : List ℕ). (k1.sent.said ++ wrote.more) ++ ys) (ends2 w)
      ∙ append-nil (k1.sent.said ++ wrote.more)) in omega (arith, whole)))
      (λ (w : (wrote.shut ≡ false) × (length (k1.sent.said ++ wrote.more) ≡ 1412 * (came.a1 + 32))).
      subst (λ (b : Bool). last < counting_by (length (k1.sent.said ++ wrote.more)) b) (sym w.0)
      (let full : length (k1.sent.said ++ wrote.more) ≡ 1412 * (came.a1 + 32) = w.1 in omega arith)) wrote.full

  -- how many datagrams were given
  pub given_long : length m.polled.given ≡ (length p.pieces.messages + length p.acks)
      + (length o.pieces.messages + length o.acks)
  given_long = length_both x m.polled.given p.pieces.messages p.acks o.pieces.messages o.acks came.given_is

  pub loud : 1 ≤ (length p.acks + length o.pieces.messages) + length o.acks → t ≡ m.called
  loud some = settles_not m.called t (length m.polled.given == 0)
      (ne_eqb (length m.polled.given) 0 (λ (z : length m.polled.given ≡ 0).
      (let all : length m.polled.given ≡ (length p.pieces.messages + length p.acks)
      + (length o.pieces.messages + length o.acks) = given_long in omega arith))) m.settles_are
