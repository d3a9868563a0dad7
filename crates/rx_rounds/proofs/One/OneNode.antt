-- Nodes with one connection and one call on it, at any moment: what polls and deliveries make of them, by what they
-- make of the call's end.
use Rattle.std.proofs.Common.{◌≡◌, ◌<◌, ◌≤◌, ◌+◌, ◌-◌, ◌*◌, ◌^◌, ◌==◌, ◌++◌, ℕ, suc, zero, Bool, true, false}
use Rattle.std.proofs.Common.{if◌then◌else◌, List, [], ◌∷◌, map, refl, ap, sym, ◌∙◌, Some, None, length}
use Rattle.std.proofs.Common.{append-nil, append_assoc, arith, drop, nat_le, length-take}
use Rattle.std.proofs.lemmas.List.{length-append}
use Rattle.rx_model.specs.declared.event.Event.TheVariants as events
use Rattle.rx_model.specs.declared.names.CallName.{CallName}
use Rattle.rx_model.specs.declared.names.Host.{Host}
use Rattle.rx_model.specs.declared.wire.TheConstants.{ACK_PING, CLIENT_INITIATED, SILENCE_MS}
use Rattle.rx_model.specs.Message.{Message, has_flag}
use Rattle.rx_model.specs.Spelling.{made, IsPlain}
use Rattle.rx_model.proofs.MessageLaws.{reads_back}
use Rattle.rx_model.proofs.NameLaws.{number_itself}
use Rattle.rx_rules.specs.After.{after}
use Rattle.rx_rules.specs.CallItems.{Sending, Piece, Ack, after_sending, flags_of}
use Rattle.rx_rules.specs.CallLooks.{CallLooks}
use Rattle.rx_rules.specs.Items.{poll_answer}
use Rattle.rx_rules.specs.Life.{Life, is_active, is_live}
use Rattle.rx_rules.specs.Looks.{Looks}
use Rattle.rx_law.specs.Worlds.{Datagram}
use Rattle.rx_jobs.specs.Jobs.{JobState}
use Rattle.rx_plan.specs.Rounds.{Polling}
use Rattle.rx_plan.specs.Stages.{InvokedState, Stage}
use Rattle.rx_rounds.proofs.Between.{client_at, server_at}
use Rattle.rx_rounds.proofs.Exchange.{Acks, Burst, PollsOut, a_piece, ack_with, an_ack, gives, no_ack, no_piece}
use Rattle.rx_rounds.proofs.Exchange.{none_due}
use Rattle.rx_rounds.proofs.Exchange.{piece_with}
use Rattle.rx_rounds.proofs.Flow.{total}
use Rattle.rx_rounds.proofs.Keeper.{piece}
use Rattle.rx_rounds.proofs.Keys.KeyClass.{index_small}
use Rattle.rx_rounds.proofs.One.OneCall.{Ends, client_place, client_poll, client_setup, datagram}
use Rattle.rx_rounds.proofs.One.OneCall.{header_of, server_place, server_poll, server_setup, the_call}
use Rattle.rx_rounds.proofs.One.OneFields.{FitsEnds, plain_data}
use Rattle.rx_rounds.proofs.One.OneSteps.{server_gave, server_none}
use Rattle.rx_rounds.proofs.Pair.{CallEnd, gave, message_of, next_of}
use Rattle.rx_rounds.proofs.Takes.Taking.{burst_more}
use Rattle.rx_rounds.proofs.Two.{Polls, Two, client_polls_none, client_polls_some}
use Rattle.rx_rounds.proofs.Two.{sent, server_polls_none, server_polls_some, two_as}

-- ---- messages that can be written

-- each of these is
abbrev pub ArePlain : List Message → Type 0
ArePlain [] = Unit {0}
ArePlain (m ∷ ms) = IsPlain m × ArePlain ms

small_flags : (c a b : Bool) → (if c then CLIENT_INITIATED else 0) + flags_of a b < 8
small_flags true true true = omega arith
small_flags true true false = omega arith
small_flags true false true = omega arith
small_flags true false false = omega arith
small_flags false true true = omega arith
small_flags false true false = omega arith
small_flags false false true = omega arith
small_flags false false false = omega arith

pub side_flags : (c a b : Bool) → has_flag CLIENT_INITIATED ((if c then CLIENT_INITIATED else 0) + flags_of a b) ≡ c
side_flags true true true = refl
side_flags true true false = refl
side_flags true false true = refl
side_flags true false false = refl
side_flags false true true = refl
side_flags false true false = refl
side_flags false false true = refl
side_flags false false false = refl

module _ (x : Ends) (fits : FitsEnds x) where
  pub plain_piece : (client : Bool) (whole : List ℕ) (seq serial : ℕ) (asking : Bool) → seq < 2 ^ 32 → serial < 2 ^ 32
      → IsPlain (piece_with (header_of x) client whole seq serial asking)
  plain_piece client whole seq serial asking low small =
      plain_data x seq serial ((if client then CLIENT_INITIATED else 0) + flags_of asking (seq == total whole))
      (piece whole seq).payload fits (short seq) low small (small_flags client asking (seq == total whole))
    where
      short : (k : ℕ) → length (piece whole k).payload ≤ 1412
      short zero = omega arith
      short (suc k) = omega (arith, length-take 1412 (drop (1412 * k) whole))

  pub plain_ack : (client : Bool) (n serial previous caused reason : ℕ) → n < 2 ^ 32 - 1 → serial < 2 ^ 32
      → previous < 2 ^ 32 → caused < 2 ^ 32 → 1 ≤ reason → reason ≤ 8
      → IsPlain (ack_with (header_of x) client n serial previous caused reason)
  plain_ack client n serial previous caused reason small fits1 fits2 fits3 low high =
      record {
        epoch = fits.epoch;
        cid = omega arith;
        number = fits.first;
        seq = omega arith;
        serial = fits1;
        flags = small_flags client (reason == ACK_PING) false;
        status = refl;
        index = index_small x.key;
        spare = refl;
        service = fits.service;
        body = record {
          first = omega arith;
          previous = fits2;
          serial = fits3;
          reason_low = low;
          reason_high = high;
          marks = omega arith;
          window = omega arith;
        };
      }

  pub plain_burst : (client : Bool) (whole : List ℕ) (n m : ℕ) (ms : List Message) → m < 2 ^ 32
      → Burst (header_of x) client whole n m ms → ArePlain ms
  plain_burst client whole n m ms small (no_piece i) = tt
  plain_burst client whole n m ms small (a_piece i j serial asking others low asks rest) = (
    plain_piece client whole (suc n) serial asking
        (let more : suc n ≤ m = burst_more (header_of x) client whole (suc n) m
        others rest in omega arith) low,
    plain_burst client whole (suc n) m others small rest,
  )

  pub plain_acks : (client : Bool) (n : ℕ) (ms : List Message) → n < 2 ^ 32 - 1 → Acks (header_of x) client n ms
      → ArePlain ms
  plain_acks client n ms small no_ack = tt
  plain_acks client n ms small (an_ack serial previous caused reason fits1 fits2 fits3 low high kind) = (
    plain_ack client n serial previous caused reason small fits1 fits2 fits3 low high,
    tt,
  )

  pub plain_both : (ms ns : List Message) → ArePlain ms → ArePlain ns → ArePlain (ms ++ ns)
  plain_both [] ns all more = more
  plain_both (m ∷ ms) ns all more = (all.0, plain_both ms ns all.1 more)

-- their datagrams
abbrev pub datagrams : Host → Host → List Message → List Datagram
datagrams from to ms = map (λ (m : Message). sent from to (made m)) ms

pub length_datagrams : (from to : Host) (ms : List Message) → length (datagrams from to ms) ≡ length ms
length_datagrams from to [] = refl
length_datagrams from to (m ∷ ms) = ap (λ (n : ℕ). suc n) (length_datagrams from to ms)

-- how many are given where both nodes give pieces and then ACKs
pub length_both : (x : Ends) (given : List Datagram) (ms ns os ps : List Message)
    → given ≡ datagrams x.client x.server (ms ++ ns) ++ datagrams x.server x.client (os ++ ps)
    → length given ≡ (length ms + length ns) + (length os + length ps)
length_both x given ms ns os ps is =
    ap (λ (ds : List Datagram). length ds) is
    ∙ length-append (datagrams x.client x.server (ms ++ ns)) (datagrams x.server x.client (os ++ ps))
    ∙ sums (length (datagrams x.client x.server (ms ++ ns))) (length ms + length ns)
    (length (datagrams x.server x.client (os ++ ps))) (length os + length ps)
    (length_datagrams x.client x.server (ms ++ ns) ∙ length-append ms ns)
    (length_datagrams x.server x.client (os ++ ps) ∙ length-append os ps)
  where
    sums : (u v w z : ℕ) → u ≡ v → w ≡ z → u + w ≡ v + z
    sums u v w z one other = omega arith

-- ---- polls

-- a client's side, whichever calls had a first packet
client_poll_on : (x : Ends) (firsts : List CallName) (now used given : ℕ) (k : CallLooks)
    → nat_le SILENCE_MS (now - k.heard) ≡ false
    → poll_answer (client_setup x) (client_at x given used firsts now k)
    ≡ datagram (client_place x now) x.server (record { looks = k; given = given }) (next_of (client_place x now) k)
client_poll_on x firsts now used given k awake = client_poll x now used given k awake

client_none_on : (x : Ends) (firsts : List CallName) (now used given : ℕ) (k : CallLooks)
    → nat_le SILENCE_MS (now - k.heard) ≡ false
    → after (client_setup x) (events.Polled None) (client_at x given used firsts now k)
    ≡ client_at x given used firsts now k
client_none_on x firsts now used given k awake = rw awake refl

client_gave_on : (x : Ends) (firsts : List CallName) (now used given : ℕ) (k : CallLooks) (i : Sending)
    → nat_le SILENCE_MS (now - k.heard) ≡ false
    → IsPlain (message_of (client_place x now) (record { looks = k; given = given }) i)
    → after (client_setup x) (events.Polled
    (Some (x.server, made (message_of (client_place x now) (record { looks = k; given = given }) i))))
    (client_at x given used firsts now k)
    ≡ client_at x (suc given) now firsts now (after_sending now i k)
client_gave_on x firsts now used given k (Piece seq again) awake plain =
    rw (reads_back (message_of (client_place x now) (record { looks = k; given = given }) (Piece seq again)) plain)
    (rw awake
    (rw (number_itself x.client.addr, number_itself x.client.port, number_itself x.epoch, number_itself x.first) refl))
client_gave_on x firsts now used given k (Ack reason serial) awake plain =
    rw (reads_back (message_of (client_place x now) (record { looks = k; given = given }) (Ack reason serial)) plain)
    (rw awake
    (rw (number_itself x.client.addr, number_itself x.client.port, number_itself x.epoch, number_itself x.first) refl))

-- the moment of its last giving, or the one before
module _ (x : Ends) (now : ℕ) (cs : List InvokedState) (js : List JobState) where
  pub client_polled_out : (firsts : List CallName) (ls : Looks) (e f : CallEnd) (ms : List Message)
      → PollsOut (client_place x now) e ms f → ArePlain ms → nat_le SILENCE_MS (now - e.looks.heard) ≡ false
      → (used : ℕ) (before : List Datagram) (s t : Stage) (w : Polling)
      → Two x ls (client_at x e.given used firsts now e.looks) cs js s → Polls 1 x.client before s w t
      → (w.given ≡ before ++ datagrams x.client x.server ms)
      × ((last : ℕ) × Two x ls (client_at x f.given last firsts now f.looks) cs js t)
  client_polled_out firsts ls e f ms (none_due k none) plain awake used before s t w two polled =
      let quiet : poll_answer (client_setup x) (client_at x e.given used firsts now e.looks) ≡ None =
      client_poll_on x firsts now used e.given e.looks awake
      ∙ ap (datagram (client_place x now) x.server e) none in
      let c = client_polls_none x ls (client_at x e.given used firsts now e.looks) cs js s t x.client before w two quiet
      polled in (
        c.0 ∙ sym (append-nil before),
        (
          used,
          two_as x ls _ ls (client_at x e.given used firsts now e.looks) cs js t t refl
              (client_none_on x firsts now used e.given e.looks awake) refl c.1,
        ),
      )
  client_polled_out firsts ls e f ms (gives k l i others next rest) plain awake used before s t w two polled =
      let m : Message = message_of (client_place x now) e i in
      let more : poll_answer (client_setup x) (client_at x e.given used firsts now e.looks) ≡ Some (x.server, made m) =
      client_poll_on x firsts now used e.given e.looks awake
      ∙ ap (datagram (client_place x now) x.server e) next in
      let c = client_polls_some x ls (client_at x e.given used firsts now e.looks) cs js s t x.client x.server
      (made m) before w two more polled in
      let two1 = two_as x ls _ ls (client_at x (suc e.given) now firsts now (after_sending now i e.looks)) cs js c.0 c.0
      refl (client_gave_on x firsts now used e.given e.looks i awake plain.0) refl c.1 in
      let after_ = client_polled_out firsts ls (gave (client_place x now) i e) f others rest plain.1
      (heard_still i e.looks awake) now (before ++ sent x.client x.server (made m) ∷ []) c.0 t w two1 c.2 in (
        after_.0 ∙ append_assoc before (sent x.client x.server (made m) ∷ []) (datagrams x.client x.server others),
        after_.1,
      )
    where
      heard_still : (i : Sending) (k : CallLooks) → nat_le SILENCE_MS (now - k.heard) ≡ false
          → nat_le SILENCE_MS (now - (after_sending now i k).heard) ≡ false
      heard_still (Piece seq again) k awake = awake
      heard_still (Ack reason serial) k awake = awake

  pub server_polled_out : (lc : Looks) (life : Life) (e f : CallEnd) (ms : List Message) → is_active life ≡ true
      → is_live life ≡ true
      → PollsOut (server_place x now) e ms f → ArePlain ms → nat_le SILENCE_MS (now - e.looks.heard) ≡ false
      → (used : ℕ) (before : List Datagram) (s t : Stage) (w : Polling)
      → Two x (server_at x e.given used now life e.looks) lc cs js s → Polls 0 x.server before s w t
      → (w.given ≡ before ++ datagrams x.server x.client ms)
      × ((last : ℕ) × Two x (server_at x f.given last now life f.looks) lc cs js t)
  server_polled_out lc life e f ms active living (none_due k none) plain awake used before s t w two polled =
      let quiet : poll_answer (server_setup x) (server_at x e.given used now life e.looks) ≡ None =
      server_poll x (the_call x ∷ []) now used e.given life e.looks active living awake
      ∙ ap (datagram (server_place x now) x.client e) none in
      let c = server_polls_none x (server_at x e.given used now life e.looks) lc cs js s t x.server before w two quiet
      polled in (
        c.0 ∙ sym (append-nil before),
        (
          used,
          two_as x _ lc (server_at x e.given used now life e.looks) lc cs js t t
              (server_none x (the_call x ∷ []) now used e.given life e.looks awake) refl refl c.1,
        ),
      )
  server_polled_out lc life e f ms active living (gives k l i others next rest) plain awake used before s t w two
      polled =
      let m : Message = message_of (server_place x now) e i in
      let more : poll_answer (server_setup x) (server_at x e.given used now life e.looks) ≡ Some (x.client, made m) =
      server_poll x (the_call x ∷ []) now used e.given life e.looks active living awake
      ∙ ap (datagram (server_place x now) x.client e) next in
      let c = server_polls_some x (server_at x e.given used now life e.looks) lc cs js s t x.server x.client
      (made m) before w two more polled in
      let two1 = two_as x _ lc (server_at x (suc e.given) now now life (after_sending now i e.looks)) lc cs js c.0 c.0
      (server_gave x (the_call x ∷ []) now used e.given life e.looks i active awake plain.0) refl refl c.1 in
      let after_ = server_polled_out lc life (gave (server_place x now) i e) f others active living rest plain.1
      (heard_still i e.looks awake) now (before ++ sent x.server x.client (made m) ∷ []) c.0 t w two1 c.2 in (
        after_.0 ∙ append_assoc before (sent x.server x.client (made m) ∷ []) (datagrams x.server x.client others),
        after_.1,
      )
    where
      heard_still : (i : Sending) (k : CallLooks) → nat_le SILENCE_MS (now - k.heard) ≡ false
          → nat_le SILENCE_MS (now - (after_sending now i k).heard) ≡ false
      heard_still (Piece seq again) k awake = awake
      heard_still (Ack reason serial) k awake = awake
