-- A round in which a request comes to a server that knows its call: more pieces of it came, or an ACK of those that had
-- come; or nothing was given, and then the ACK that is owed is due.
use Rattle.std.proofs.Common.{◌≡◌, ◌<◌, ◌≤◌, ◌⊎◌, inl, inr, ◌-◌, ◌^◌, ◌++◌, ℕ}
use Rattle.std.proofs.Common.{Bool, true, false, List, [], refl, ap, sym, subst, ◌∙◌, Option, None, length}
use Rattle.std.proofs.Common.{arith, append-nil, nat_le}
use Rattle.std.proofs.lemmas.Bool.{both_ways, cases_lt}
use Rattle.std.specs.Prelude.{IfSome, if◌then◌else◌}
use Rattle.rx_model.specs.declared.wire.TheConstants.{ACK_PING_RESPONSE, SILENCE_MS}
use Rattle.rx_model.specs.Message.{Message}
use Rattle.rx_rules.specs.CallItems.{can_give}
use Rattle.rx_rules.specs.CallLooks.{CallLooks}
use Rattle.rx_rules.specs.Life as lives
use Rattle.rx_rules.specs.Owing.{Owed, at_once, owed_for_ack}
use Rattle.rx_rules.specs.Received.{Received, is_complete, marks_of, nothing_received, unread_of, used_of}
use Rattle.rx_rules.specs.Sent.{Sent, given_of, held_pieces, nothing_sent}
use Rattle.rx_law.specs.Worlds.{Datagram}
use Rattle.rx_jobs.specs.Handlers.{Handlers}
use Rattle.rx_jobs.specs.Jobs.{JobState}
use Rattle.rx_plan.specs.Network.{delivers}
use Rattle.rx_plan.specs.Parts.{To, each}
use Rattle.rx_plan.specs.Stages.{InvokedState, Stage}
use Rattle.rx_rounds.proofs.Between.{client_at, server_at}
use Rattle.rx_rounds.proofs.Exchange.{AreGiven}
use Rattle.rx_rounds.proofs.Polls.PolledEnd.{PolledOut, given_behind}
use Rattle.rx_rounds.proofs.Polls.PolledEnd.{sends_told}
use Rattle.rx_rounds.proofs.Flow.{total}
use Rattle.rx_rounds.proofs.Keeper.{drained, marks_none, part_read}
use Rattle.rx_rounds.proofs.One.OneCall.{Ends, client_place, header_of, server_place}
use Rattle.rx_rounds.proofs.One.OneFields.{FitsEnds}
use Rattle.rx_rounds.proofs.One.OneRequest.{complete_whole}
use Rattle.rx_rounds.proofs.Reading.ReadOn.{IsRead, read_out}
use Rattle.rx_rounds.proofs.One.OneNode.{ArePlain, datagrams, plain_acks, plain_both, plain_burst}
use Rattle.rx_rounds.proofs.One.OneTaken.{AreLater, client_takes_later, later_acks, later_both, later_burst}
use Rattle.rx_rounds.proofs.One.OneTaken.{server_takes}
use Rattle.rx_rounds.proofs.One.OneWay.{IsPlainOwed, IsSteady, Reads, Sends, Tells}
use Rattle.rx_rounds.proofs.Pair.{CallEnd}
use Rattle.rx_rounds.proofs.RoundParts.{both_polled, delivers_split}
use Rattle.rx_rounds.proofs.Rounded.{Made, RoundMade}
use Rattle.rx_rounds.proofs.Takes.TakingAck.{TookAck, ack_came, heard_ack, no_ack_came, sends_heard}
use Rattle.rx_rounds.proofs.Takes.Taking.{Takes}
use Rattle.rx_rounds.proofs.Takes.TakingAck.{takes_ack}
use Rattle.rx_rounds.proofs.Takes.Taking.{takes_none}
use Rattle.rx_rounds.proofs.Two.{AreApart, Two}

-- an end that said nothing
pub nothing_sends : (since : ℕ) (k : CallLooks) → k.sent ≡ nothing_sent → IsSteady k → Sends [] since 0 0 k
nothing_sends since k none steady =
    record {
      acked = ap (λ (s : Sent). s.acked) none;
      given = ap given_of none;
      marked = λ j past. ap (λ (s : Sent). s.soft j) none;
      peer = ap (λ (s : Sent). s.peer_window) none;
      known = omega arith;
      near = omega arith;
      counted = omega arith;
      rest = [];
      said = ap (λ (s : Sent). s.said ++ []) (sym none);
      shut = λ yes. refl;
      held = subst (λ (s : Sent). held_pieces s ≤ 32) (sym none) (omega arith);
      rates = steady;
      recent = λ j low high. absurd (omega arith);
    }

-- it has nothing to give
pub nothing_gives : (k : CallLooks) → k.sent ≡ nothing_sent → can_give k.cwnd k.sent ≡ false
nothing_gives k none = ap (λ (s : Sent). can_give k.cwnd s) none

-- what an end tells that received nothing, and what one tells that read out all that came
pub tells_none : (k : CallLooks) → k.received ≡ nothing_received → k.owed_ack ≡ None → Tells 0 k
tells_none k none quiet =
    record {
      used = ap used_of none;
      marks = ap marks_of none;
      previous = subst (λ (r : Received). r.previous < 2 ^ 32) (sym none) (omega arith);
      plain = subst (λ (o : Option Owed). IfSome o IsPlainOwed) (sym quiet) tt;
    }

pub used_read : (whole : List ℕ) (n : ℕ) (k : CallLooks) (r : Reads whole n k)
    → used_of (part_read whole r.read r.previous n) ≡ n
used_read whole n k r =
    drained whole r.read r.previous n r.short (ap (λ (q : Received). unread_of q) (sym r.kept) ∙ r.out)

pub tells_read : (whole : List ℕ) (n : ℕ) (k : CallLooks) → Reads whole n k → Tells n k
tells_read whole n k r =
    record {
      used = ap used_of r.kept ∙ used_read whole n k r;
      marks = ap marks_of r.kept ∙ marks_none whole r.read r.previous n (used_read whole n k r);
      previous = subst (λ (q : Received). q.previous < 2 ^ 32) (sym r.kept) r.low;
      plain = r.plain;
    }

module _ (whole : List ℕ) (now p n : ℕ) (first k : CallLooks) (read : List ℕ) where
  -- what was read out, where more is to come
  pub reads_out_of : 1 ≤ n → p < 2 ^ 32 → IfSome first.owed_ack IsPlainOwed → IsRead whole now p n first read k
      → unread_of k.received ≡ [] → is_complete k.received ≡ false → n ≤ total whole → Reads whole n k
  reads_out_of known low plain h none part within =
      let less : n < total whole =
      elim (cases_lt n (total whole)) as (λ c. n < total whole) [
        | inl below ↦ below
        | inr all ↦ absurd (both_ways (is_complete (part_read whole read p n))
            (ap (λ (i : CallLooks). is_complete i.received) (sym h.is) ∙ part)
            (complete_whole whole read p n (omega arith) known))
      ] in
      record {
        read = read;
        previous = p;
        kept = ap (λ (i : CallLooks). i.received) h.is;
        low = low;
        short = less;
        exact = read_out whole now p n first read k h none;
        out = none;
        plain = subst (λ (o : Option Owed). IfSome o IsPlainOwed) (sym (ap (λ (i : CallLooks). i.owed_ack) h.is))
            (h.plain plain);
      }

-- ---- what passes

module _ (x : Ends) (g : Handlers) (fits : FitsEnds x) (apart : AreApart x) (request : List ℕ) (now since a n : ℕ)
    (e d : CallEnd) (p : PolledOut (client_place x now) request since a n 0 e)
    (q : PolledOut (server_place x now) [] now 0 0 n d) where
  abbrev pub from_client : List Message
  from_client = p.pieces.messages ++ p.acks

  abbrev pub from_server : List Message
  from_server = q.pieces.messages ++ q.acks

  -- both are polled out, and take what the other gave
  pub record Exchanged (cs : List InvokedState) (js : List JobState) (given : List Datagram) (t : Stage) : Type 0 where
    pub given_is : given ≡ datagrams x.client x.server from_client ++ datagrams x.server x.client from_server
    pub two : (ks kc : CallLooks) → Takes (server_place x now) q.behind.looks from_client ks
        → Takes (client_place x now) p.behind.looks from_server kc
        → (used_server : ℕ) × ((used_client : ℕ)
        × Two x (server_at x q.behind.given used_server now lives.Accepted ks)
        (client_at x p.behind.given used_client [] now kc) cs js t)

  pub exchanged : p.pieces.last < 2 ^ 32 - 1 → n < 2 ^ 32 - 1 → 1 ≤ n → d.looks.sent ≡ nothing_sent
      → nat_le SILENCE_MS (now - e.looks.heard) ≡ false → nat_le SILENCE_MS (now - d.looks.heard) ≡ false
      → (cs : List InvokedState) (js : List JobState) (used_client used_server : ℕ) (s t : Stage) (m : RoundMade g s t)
      → Two x (server_at x d.given used_server now lives.Accepted d.looks)
      (client_at x e.given used_client [] now e.looks) cs js s
      → Exchanged cs js m.polled.given m.delivered
  exchanged low_last low known new awake awake2 cs js used_client used_server s t m two =
      let none : (q.pieces.last ≡ 0) × (q.pieces.messages ≡ []) × (q.pieces.givings ≡ d.looks.sent.givings)
      × (q.pieces.spoke ≡ d.looks.spoke) =
      q.pieces.none (nothing_gives d.looks new) in
      let plain : ArePlain from_client = plain_both x fits p.pieces.messages p.acks
      (plain_burst x fits true request n p.pieces.last p.pieces.messages (omega arith) p.pieces.burst)
      (plain_acks x fits true 0 p.acks (omega arith) p.tells) in
      let plain2 : ArePlain from_server = plain_both x fits q.pieces.messages q.acks
      (plain_burst x fits false [] 0 q.pieces.last q.pieces.messages (omega (arith, none.0)) q.pieces.burst)
      (plain_acks x fits false n q.acks low q.tells) in
      let b = both_polled x now cs js [] lives.Accepted e p.behind from_client d q.behind from_server p.polls plain
      awake
      q.polls plain2 awake2 refl refl used_client used_server s m.polled two m.polls_are in
      let all : Made (each delivers (datagrams x.client x.server from_client
      ++ datagrams x.server x.client from_server)) m.polled.stage m.delivered = (
        m.delivers_are.0,
        subst (λ (ds : List Datagram). each delivers ds m.polled.stage m.delivers_are.0 (To m.delivered)) b.0
            m.delivers_are.1,
      ) in
      let f = delivers_split (datagrams x.client x.server from_client) (datagrams x.server x.client from_server)
      m.polled.stage m.delivered all in
      record {
        given_is = b.0;
        two = λ ks kc takes1 takes2.
            (let late : AreLater from_client = later_both p.pieces.messages p.acks
            (later_burst (header_of x) true request n p.pieces.last p.pieces.messages known p.pieces.burst)
            (later_acks (header_of x) true 0 p.acks p.tells) in
            let late2 : AreLater from_server = later_both q.pieces.messages q.acks
            (subst AreLater (sym none.1) tt) (later_acks (header_of x) false n q.acks q.tells) in
            let c = server_takes x fits apart now cs js (client_at x p.behind.given b.1.0 [] now p.behind.looks)
            lives.Accepted q.behind.looks ks from_client refl (λ all_. refl) takes1 late q.behind.given b.1.1.0
            m.polled.stage f.0 b.1.1.1 f.1 in
            let h = client_takes_later x fits apart now cs js (server_at x q.behind.given c.0 now lives.Accepted ks)
            p.behind.looks kc from_server takes2 late2 p.behind.given b.1.0 [] f.0 m.delivered c.1 f.2 in
            (c.0, (h.0, h.1)));
      }

  -- ---- the client behind it

  -- it was told of all that had come; or it wasn't told
  pub record ClientBehind : Type 0 where
    pub a2 : ℕ
    pub since2 : ℕ
    pub kc2 : CallLooks
    pub takes : Takes (client_place x now) p.behind.looks from_server kc2
    pub up : Sends request since2 a2 p.pieces.last kc2
    pub said : kc2.sent.said ≡ e.looks.sent.said
    pub shut : kc2.sent.shut ≡ e.looks.sent.shut
    pub quiet : kc2.received ≡ e.looks.received
    pub owed : kc2.owed_ack ≡ p.owed
    pub spoke : kc2.spoke ≡ p.spoke
    pub told : ((q.acks ≡ []) × (a2 ≡ a) × (kc2 ≡ p.behind.looks) × (a < n → since2 ≡ since) × (n ≤ a → since2 ≡ now))
        ⊎ ((1 ≤ length q.acks) × (a2 ≡ n) × (kc2.heard ≡ now) × (since2 ≡ now))

  pub client_behind : since ≤ now → n < 2 ^ 32 - 1 → p.pieces.last < 2 ^ 32 - 1 → d.looks.sent ≡ nothing_sent
      → Sends request since a n e.looks → ClientBehind
  client_behind past low low_last new h =
      by (takes_ack request (since2 (cases_lt a n)) a p.pieces.last p.behind.looks up2 n h.known p.pieces.more true now
      (header_of x) q.acks low_last q.tells)
    where
      none : (q.pieces.last ≡ 0) × (q.pieces.messages ≡ []) × (q.pieces.givings ≡ d.looks.sent.givings)
          × (q.pieces.spoke ≡ d.looks.spoke)
      none = q.pieces.none (nothing_gives d.looks new)

      since2 : (a < n) ⊎ (n ≤ a) → ℕ
      since2 (inl less) = since
      since2 (inr all) = now

      early : (c : (a < n) ⊎ (n ≤ a)) → since2 c ≤ now
      early (inl less) = past
      early (inr all) = omega arith

      older : (c : (a < n) ⊎ (n ≤ a)) → a < n → since2 c ≤ since
      older (inl less) some = omega arith
      older (inr all) some = absurd (omega arith)

      when_less : (c : (a < n) ⊎ (n ≤ a)) → a < n → since2 c ≡ since
      when_less (inl less) some = refl
      when_less (inr all) some = absurd (omega arith)

      when_all : (c : (a < n) ⊎ (n ≤ a)) → n ≤ a → since2 c ≡ now
      when_all (inl less) some = absurd (omega arith)
      when_all (inr all) some = refl

      up2 : Sends request (since2 (cases_lt a n)) a p.pieces.last p.behind.looks
      up2 = sends_told (client_place x now) request since a n 0 e p (since2 (cases_lt a n))
          (p.pieces.sends (since2 (cases_lt a n)) (early (cases_lt a n)) (older (cases_lt a n)))

      no_pieces : (ms : List Message) (l : CallLooks) → Takes (client_place x now) p.behind.looks ms l
          → ms ≡ q.acks → Takes (client_place x now) p.behind.looks from_server l
      no_pieces ms l takes same = subst (λ (xs : List Message). Takes (client_place x now) p.behind.looks xs l)
          (same ∙ ap (λ (xs : List Message). xs ++ q.acks) (sym none.1)) takes

      by : TookAck true now (header_of x) n p.behind.looks q.acks → ClientBehind
      by (no_ack_came quiet) =
          record {
            a2 = a;
            since2 = since2 (cases_lt a n);
            kc2 = p.behind.looks;
            takes = no_pieces [] p.behind.looks (takes_none p.behind.looks) (sym quiet);
            up = up2;
            said = ap (λ (k : CallLooks). k.sent.said) p.is;
            shut = ap (λ (k : CallLooks). k.sent.shut) p.is;
            quiet = ap (λ (k : CallLooks). k.received) p.is;
            owed = ap (λ (k : CallLooks). k.owed_ack) p.is;
            spoke = ap (λ (k : CallLooks). k.spoke) p.is;
            told = inl (quiet, refl, refl, when_less (cases_lt a n), when_all (cases_lt a n));
          }
      by (ack_came reason serial fits_ kind takes some) =
          let given : AreGiven now n p.pieces.last p.behind.looks =
          given_behind (client_place x now) request since a n 0 e p n
          (p.pieces.new n (λ j low high. absurd (omega arith))) in
          let still : owed_for_ack reason serial p.behind.looks.owed_ack ≡ p.behind.looks.owed_ack =
          ap (λ (b : Bool). if b then at_once ACK_PING_RESPONSE serial else p.behind.looks.owed_ack) (kind refl) in
          record {
            a2 = n;
            since2 = now;
            kc2 = heard_ack now n reason serial p.behind.looks;
            takes = no_pieces (q.acks ++ []) (heard_ack now n reason serial p.behind.looks)
                (takes [] (heard_ack now n reason serial p.behind.looks)
                (takes_none (heard_ack now n reason serial p.behind.looks))) (append-nil q.acks);
            up = sends_heard request (since2 (cases_lt a n)) a p.pieces.last p.behind.looks up2 n h.known p.pieces.more
                now
                now reason serial given;
            said = ap (λ (k : CallLooks). k.sent.said) p.is;
            shut = ap (λ (k : CallLooks). k.sent.shut) p.is;
            quiet = ap (λ (k : CallLooks). k.received) p.is;
            owed = still ∙ ap (λ (k : CallLooks). k.owed_ack) p.is;
            spoke = ap (λ (k : CallLooks). k.spoke) p.is;
            told = inr (some, refl, refl, refl);
          }
