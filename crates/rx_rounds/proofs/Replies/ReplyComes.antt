-- The polls and the deliveries of a round in which a reply comes: the client tells of what came, the server gives more.
use Rattle.std.proofs.Common.{◌≡◌, ◌<◌, ◌≤◌, ◌+◌, ◌-◌, ◌^◌, ◌++◌, ◌⊎◌, ℕ, Bool, true, false, List, [], ◌∷◌}
use Rattle.std.proofs.Common.{refl, ap, sym, subst, ◌∙◌, inl, inr, Option, Some, None, arith, length, nat_le}
use Rattle.std.proofs.lemmas.Bool.{cases_lt}
use Rattle.std.specs.Prelude.{IfSome, if◌then◌else◌}
use Rattle.rx_model.specs.declared.names.CallName.{CallName}
use Rattle.rx_model.specs.declared.wire.TheConstants.{ACK_PING_RESPONSE, SILENCE_MS}
use Rattle.rx_model.specs.Message.{Message}
use Rattle.rx_rules.specs.CallLooks.{CallLooks}
use Rattle.rx_rules.specs.Life.{Life, is_active, is_live}
use Rattle.rx_rules.specs.Looks.{Looks}
use Rattle.rx_rules.specs.Owing.{Owed, at_once, owed_for_ack}
use Rattle.rx_rules.specs.Received.{Received, unread_of}
use Rattle.rx_rules.specs.Sent.{counting_of}
use Rattle.rx_law.specs.Worlds.{Datagram}
use Rattle.rx_jobs.specs.Handlers.{Handlers}
use Rattle.rx_jobs.specs.Jobs.{JobState}
use Rattle.rx_plan.specs.Network.{delivers}
use Rattle.rx_plan.specs.Parts.{To, each}
use Rattle.rx_plan.specs.Stages.{InvokedState, Stage}
use Rattle.rx_rounds.proofs.Between.{client_at, server_at}
use Rattle.rx_rounds.proofs.Exchange.{AreGiven, PollsOut}
use Rattle.rx_rounds.proofs.Polls.PolledEnd.{PolledOut, given_behind}
use Rattle.rx_rounds.proofs.Serving.SendsLaws.{counts_within, next_rest}
use Rattle.rx_rounds.proofs.Polls.PolledEnd.{sends_told}
use Rattle.rx_rounds.proofs.Flow.{total}
use Rattle.rx_rounds.proofs.One.OneCall.{Ends, client_place, header_of, server_place}
use Rattle.rx_rounds.proofs.One.OneFields.{FitsEnds}
use Rattle.rx_rounds.proofs.One.OneNode.{ArePlain, datagrams, plain_acks, plain_both, plain_burst}
use Rattle.rx_rounds.proofs.One.OneTaken.{client_takes}
use Rattle.rx_rounds.proofs.One.OneWay.{IsPlainOwed, Reads, Sends}
use Rattle.rx_rounds.proofs.Pair.{CallEnd}
use Rattle.rx_rounds.proofs.Replies.ReplyEnds.{GaveAll, Got, client_got, gives_none}
use Rattle.rx_rounds.proofs.Replies.ReplyHears.{HasNoPing, Hears, hears_none, hears_one, server_hears}
use Rattle.rx_rounds.proofs.Replies.ReplyTells.{told_reason}
use Rattle.rx_rounds.proofs.RoundParts.{both_polled, delivers_split}
use Rattle.rx_rounds.proofs.Rounded.{Made, RoundMade}
use Rattle.rx_rounds.proofs.Takes.TakingAck.{heard_ack, sends_heard}
use Rattle.rx_rounds.proofs.Two.{AreApart, Two}

-- the client has nothing more to say, and tells what came of the reply; the server gives more of it
module _ (x : Ends) (g : Handlers) (fits : FitsEnds x) (apart : AreApart x) (request reply : List ℕ)
    (now since said_since acked a n : ℕ) (e d : CallEnd)
    (p : PolledOut (client_place x now) request said_since acked (total request) n e)
    (q : PolledOut (server_place x now) reply since a n (total request) d)
    (up : Sends request said_since acked (total request) e.looks) (closed : e.looks.sent.shut ≡ true)
    (in_time : acked < total request → now ≤ said_since + 100)
    (awake_ping : now < e.looks.spoke + 2000) (plain_owed : IfSome e.looks.owed_ack IsPlainOwed) where
  abbrev all : GaveAll request e.looks
  all = record { since = said_since; acked = acked; sends = up; shut = closed }

  abbrev none : (p.pieces.last ≡ total request) × (p.pieces.messages ≡ [])
      × (p.pieces.givings ≡ e.looks.sent.givings) × (p.pieces.spoke ≡ e.looks.spoke)
  none = p.pieces.none (gives_none request e.looks all)

  polls_acks : PollsOut (client_place x now) e p.acks p.behind
  polls_acks = subst (λ (ms : List Message). PollsOut (client_place x now) e (ms ++ p.acks) p.behind) none.1 p.polls

  -- what it tells is no ping
  pub pingless : HasNoPing p.acks
  pingless = of p.acks polls_acks
    where
      of : (ms : List Message) → PollsOut (client_place x now) e ms p.behind → HasNoPing ms
      of [] polled = tt
      of (m ∷ ms) polled =
          told_reason (client_place x now) e p.behind (m ∷ ms) m ms refl polled refl
          (next_rest request said_since acked (total request) e.looks up (client_place x now)
          (gives_none request e.looks all) in_time) awake_ping plain_owed

  -- its end behind its polls
  pub all_behind : GaveAll request p.behind.looks
  all_behind =
      record {
        since = 0;
        acked = acked;
        sends = subst (λ (i : ℕ). Sends request 0 acked i p.behind.looks) none.0
            (sends_told (client_place x now) request said_since acked (total request) n e p 0
            (p.pieces.sends 0 (omega arith) (λ less. omega arith)));
        shut = ap (λ (k : CallLooks). k.sent.shut) p.is ∙ closed;
      }

  -- both ends behind the deliveries
  pub record ReplyCame (life : Life) (cs : List InvokedState) (js : List JobState) (read : List ℕ)
      (given : List Datagram) (t : Stage) : Type 0 where
    pub a1 : ℕ
    pub since1 : ℕ
    pub k : CallLooks
    pub l : CallLooks
    pub used_server : ℕ
    pub used_client : ℕ
    pub names : List CallName
    pub two : Two x (server_at x q.behind.given used_server now life k)
        (client_at x p.behind.given used_client names now l) cs js t
    pub given_is : given ≡ datagrams x.client x.server (p.pieces.messages ++ p.acks)
        ++ datagrams x.server x.client (q.pieces.messages ++ q.acks)
    pub down : Sends reply since1 a1 q.pieces.last k
    pub received : k.received ≡ d.looks.received
    pub said : k.sent.said ≡ d.looks.sent.said
    pub shut : k.sent.shut ≡ d.looks.sent.shut
    pub owed : k.owed_ack ≡ q.owed
    pub got : Got reply request read now n q.pieces.last p.behind.looks l
    pub told : ((p.acks ≡ []) × (a1 ≡ a) × (k ≡ q.behind.looks) × (a < n → since1 ≡ since) × (n ≤ a → since1 ≡ now))
        ⊎ ((1 ≤ length p.acks) × (a1 ≡ n) × (k.heard ≡ now) × (since1 ≡ now))

  -- the moment since which what is not acknowledged was given
  abbrev when : (a < n) ⊎ (n ≤ a) → ℕ
  when (inl less) = since
  when (inr all_) = now

  module _ (past : since ≤ now) (few1 : total request < 2 ^ 32 - 1) (few2 : total reply < 2 ^ 32 - 1)
      (down : Sends reply since a n d.looks) (r : Reads reply n e.looks) where
    early : (c : (a < n) ⊎ (n ≤ a)) → when c ≤ now
    early (inl less) = past
    early (inr all_) = omega arith

    older : (c : (a < n) ⊎ (n ≤ a)) → a < n → when c ≤ since
    older (inl less) some = omega arith
    older (inr all_) some = absurd (omega arith)

    when_less : (c : (a < n) ⊎ (n ≤ a)) → a < n → when c ≡ since
    when_less (inl less) some = refl
    when_less (inr all_) some = absurd (omega arith)

    when_all : (c : (a < n) ⊎ (n ≤ a)) → n ≤ a → when c ≡ now
    when_all (inl less) some = absurd (omega arith)
    when_all (inr all_) some = refl

    -- the server behind its polls
    down_behind : (c : (a < n) ⊎ (n ≤ a)) → Sends reply (when c) a q.pieces.last q.behind.looks
    down_behind c = sends_told (server_place x now) reply since a n (total request) d q (when c)
        (q.pieces.sends (when c) (early c) (older c))

    -- an ACK comes to it, or none
    pub record ServerCame (life : Life) (cs : List InvokedState) (js : List JobState) (lc : Looks) (t : Stage)
        : Type 0 where
      a1 : ℕ
      since1 : ℕ
      k : CallLooks
      used : ℕ
      two : Two x (server_at x q.behind.given used now life k) lc cs js t
      down1 : Sends reply since1 a1 q.pieces.last k
      received : k.received ≡ d.looks.received
      said : k.sent.said ≡ d.looks.sent.said
      shut : k.sent.shut ≡ d.looks.sent.shut
      owed : k.owed_ack ≡ q.owed
      told : ((p.acks ≡ []) × (a1 ≡ a) × (k ≡ q.behind.looks) × (a < n → since1 ≡ since) × (n ≤ a → since1 ≡ now))
          ⊎ ((1 ≤ length p.acks) × (a1 ≡ n) × (k.heard ≡ now) × (since1 ≡ now))

    server_came : (life : Life) (cs : List InvokedState) (js : List JobState) (lc : Looks) → is_active life ≡ true
        → (used : ℕ) (s t : Stage) → Two x (server_at x q.behind.given used now life q.behind.looks) lc cs js s
        → Made (each delivers (datagrams x.client x.server p.acks)) s t → ServerCame life cs js lc t
    server_came life cs js lc active used s t two made_ =
        let c : (a < n) ⊎ (n ≤ a) = cases_lt a n in
        let h : Sends reply (when c) a q.pieces.last q.behind.looks = down_behind c in
        by c h (server_hears x fits apart now cs js lc life reply (when c) a q.pieces.last n q.behind.looks h down.known
        q.pieces.more r.short few2 p.acks p.tells pingless active q.behind.given used s t two made_)
      where
        by : (c : (a < n) ⊎ (n ≤ a)) (h : Sends reply (when c) a q.pieces.last q.behind.looks)
            → Hears x fits apart now cs js lc life reply (when c) a q.pieces.last n q.behind.looks h down.known
            q.pieces.more r.short few2 p.acks q.behind.given t
            → ServerCame life cs js lc t
        by c h (hears_none quiet used2 two2) =
            record {
              a1 = a;
              since1 = when c;
              k = q.behind.looks;
              used = used2;
              two = two2;
              down1 = h;
              received = ap (λ (i : CallLooks). i.received) q.is;
              said = ap (λ (i : CallLooks). i.sent.said) q.is;
              shut = ap (λ (i : CallLooks). i.sent.shut) q.is;
              owed = ap (λ (i : CallLooks). i.owed_ack) q.is;
              told = inl (quiet, refl, refl, when_less c, when_all c);
            }
        by c h (hears_one m one reason serial pingless_ two2) =
            let given : AreGiven now n q.pieces.last q.behind.looks =
            given_behind (server_place x now) reply since a n (total request) d q n
            (q.pieces.new n (λ j low high. absurd (omega arith))) in
            let still : owed_for_ack reason serial q.behind.looks.owed_ack ≡ q.behind.looks.owed_ack =
            ap (λ (b : Bool). if b then at_once ACK_PING_RESPONSE serial else q.behind.looks.owed_ack) pingless_ in
            record {
              a1 = n;
              since1 = now;
              k = heard_ack now n reason serial q.behind.looks;
              used = now;
              two = two2;
              down1 = sends_heard reply (when c) a q.pieces.last q.behind.looks h n down.known q.pieces.more now now
                  reason
                  serial given;
              received = ap (λ (i : CallLooks). i.received) q.is;
              said = ap (λ (i : CallLooks). i.sent.said) q.is;
              shut = ap (λ (i : CallLooks). i.sent.shut) q.is;
              owed = still ∙ ap (λ (i : CallLooks). i.owed_ack) q.is;
              told = inr (omega (arith, ap (λ (ms : List Message). length ms) one), refl, refl, refl);
            }

    -- the polls of both, and what comes of what they gave
    pub reply_came : (life : Life) (cs : List InvokedState) (js : List JobState) → is_active life ≡ true
        → is_live life ≡ true → nat_le SILENCE_MS (now - e.looks.heard) ≡ false
        → nat_le SILENCE_MS (now - d.looks.heard) ≡ false → IfSome e.looks.owed_ack (λ o. o.rank ≤ now + 100)
        → (used_client used_server : ℕ) (firsts : List CallName) (s t : Stage) (m : RoundMade g s t)
        → Two x (server_at x d.given used_server now life d.looks) (client_at x e.given used_client firsts now e.looks)
        cs
        js s
        → ReplyCame life cs js r.read m.polled.given m.delivered
    reply_came life cs js active living awake awake2 late used_client used_server firsts s t m two =
        let h : Sends reply 0 a q.pieces.last q.behind.looks = sends_told (server_place x now) reply since a n
        (total request) d q 0 (q.pieces.sends 0 (omega arith) (λ less. omega arith)) in
        let most : counting_of q.behind.looks.sent ≤ total reply =
        counts_within reply 0 a q.pieces.last q.behind.looks h in
        let within : q.pieces.last ≤ total reply = (let counted : q.pieces.last ≤ counting_of q.behind.looks.sent =
        h.counted in omega arith) in
        let low : n < 2 ^ 32 - 1 = (let short : n < total reply = r.short in omega arith) in
        let plain : ArePlain (p.pieces.messages ++ p.acks) = plain_both x fits p.pieces.messages p.acks
        (plain_burst x fits true request (total request) p.pieces.last p.pieces.messages (omega (arith, none.0))
        p.pieces.burst)
        (plain_acks x fits true n p.acks low p.tells) in
        let plain2 : ArePlain (q.pieces.messages ++ q.acks) = plain_both x fits q.pieces.messages q.acks
        (plain_burst x fits false reply n q.pieces.last q.pieces.messages (omega arith) q.pieces.burst)
        (plain_acks x fits false (total request) q.acks few1 q.tells) in
        let b = both_polled x now cs js firsts life e p.behind (p.pieces.messages ++ p.acks) d q.behind
        (q.pieces.messages ++ q.acks) p.polls plain awake q.polls plain2 awake2 active living used_client used_server s
        m.polled two m.polls_are in
        let lc : Looks = client_at x p.behind.given b.1.0 firsts now p.behind.looks in
        let f = delivers_split (datagrams x.client x.server (p.pieces.messages ++ p.acks))
        (datagrams x.server x.client (q.pieces.messages ++ q.acks)) m.polled.stage m.delivered (
          m.delivers_are.0,
          subst (λ (ds : List Datagram). each delivers ds m.polled.stage m.delivers_are.0 (To m.delivered)) b.0
              m.delivers_are.1,
        ) in
        let v = server_came life cs js lc active b.1.1.0 m.polled.stage f.0 b.1.1.1 (
          f.1.0,
          subst (λ (ms : List Message). each delivers (datagrams x.client x.server (ms ++ p.acks)) m.polled.stage f.1.0
              (To f.0)) none.1 f.1.1,
        ) in
        let got = client_got reply request r.read now n q.pieces.last (header_of x) p.behind.looks r.previous
        q.pieces.messages q.acks few1 few2 all_behind (ap (λ (i : CallLooks). i.received) p.is ∙ r.kept) r.low r.short
        (ap (λ (i : Received). unread_of i) (sym r.kept) ∙ r.out) all_behind.sends.rates.steady
        (owes_still (λ (o : Owed). IsPlainOwed o) plain_owed) (owes_still (λ (o : Owed). o.rank ≤ now + 100) late)
        q.pieces.more (let near : q.pieces.last ≤ a + 32 = h.near in let known : a ≤ n = down.known in omega arith)
        within q.pieces.burst q.tells in
        let w = client_takes x fits apart now cs js (server_at x q.behind.given v.used now life v.k) p.behind.looks
        got.0
        (q.pieces.messages ++ q.acks) got.1 p.behind.given b.1.0 firsts f.0 m.delivered v.two f.2 in
        record {
          a1 = v.a1;
          since1 = v.since1;
          k = v.k;
          l = got.0;
          used_server = v.used;
          used_client = w.0;
          names = w.1.0;
          two = w.1.1;
          given_is = b.0;
          down = v.down1;
          received = v.received;
          said = v.said;
          shut = v.shut;
          owed = v.owed;
          got = got.2;
          told = v.told;
        }
      where
        -- what it owed before, or nothing
        owes_still : (P : Owed → Type 0) → IfSome e.looks.owed_ack P → IfSome p.behind.looks.owed_ack P
        owes_still P was = subst (λ (o : Option Owed). IfSome o P) (sym (ap (λ (i : CallLooks). i.owed_ack) p.is))
            (by p.told)
          where
            by : ((p.owed ≡ None) × (p.spoke ≡ now) × (1 ≤ length p.acks))
                ⊎ ((p.acks ≡ []) × (p.owed ≡ e.looks.owed_ack) × (p.spoke ≡ p.pieces.spoke)
                × ((o : Owed) → p.owed ≡ Some o → now < o.rank) × (true ≡ true → now < p.spoke + 2000))
                → IfSome p.owed P
            by (inl told) = subst (λ (o : Option Owed). IfSome o P) (sym told.0) tt
            by (inr told) = subst (λ (o : Option Owed). IfSome o P) (sym told.1) was
