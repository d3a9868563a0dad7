-- One round in which no number of either end moves: what one end's messages make of the other.
use Rattle.std.proofs.Common.{◌≡◌, ◌<◌, ◌≤◌, if◌then◌else◌, is_some, nat_lt, ℕ, Bool, true, false, List, Option, length}
use Rattle.std.proofs.Common.{refl, ap, ◌∙◌, arith}
use Rattle.std.proofs.lemmas.Bool.{le-ltb}
use Rattle.rx_model.specs.Message.{Message}
use Rattle.rx_rules.specs.CallItems.{Sending}
use Rattle.rx_rules.specs.CallLooks.{CallLooks, after_read}
use Rattle.rx_rules.specs.Owing.{Owed, owed_for_done}
use Rattle.rx_rules.specs.Received.{Packet, Received, front_of, greatest, is_done, packet_at, used_of}
use Rattle.rx_rules.specs.Received as packets
use Rattle.rx_rules.specs.Sent.{Giving, Sent, counting_by, counting_of, given_of, greatest_given, pieces_by, pieces_of}
use Rattle.rx_rules.specs.Setup.{Setup, is_client}
use Rattle.rx_history.proofs.Laws.UsedLaws.{used_reads}
use Rattle.rx_between.specs.Agreed.{AreGiven}
use Rattle.rx_closing.proofs.Ends.BothEnds.{Ends, Round, Stood}
use Rattle.rx_closing.proofs.Ends.FrozenPolls.{has_ack, has_piece, has_ping, polls_due, polls_tell, same_end}
use Rattle.rx_closing.proofs.Ends.FrozenTakes.{OwesNow, Ready, client_frees, owes-as, ready_on, server_frees}
use Rattle.rx_closing.proofs.Ends.FrozenTakes.{takes_tell}
use Rattle.rx_closing.proofs.Ends.LowestAgain.{takes_givings}
use Rattle.rx_closing.proofs.Steps.{GivesOut, TakesIn, TurnsOn, turns_none, turns_read, turns_shut, turns_write}
use Rattle.rx_rules.proofs.ReachLaws.{reach_within}

-- ---- a turn

-- what it leaves of an end
pub record SameTurn (k f : CallLooks) : Type 0 where
  pub kept : f.received.kept ≡ k.received.kept
  pub used : used_of k.received ≤ used_of f.received
  pub owed : used_of f.received ≤ used_of k.received → f.owed_ack ≡ k.owed_ack
  pub givings : f.sent.givings ≡ k.sent.givings
  pub acked : f.sent.acked ≡ k.sent.acked
  pub soft : f.sent.soft ≡ k.sent.soft
  pub spoke : f.spoke ≡ k.spoke

read-owed : (now : ℕ) (prompt : Bool) (before after : ℕ) (owed : Option Owed) → after ≤ before
    → (if nat_lt before after then owed_for_done now prompt owed else owed) ≡ owed
read-owed now prompt before after owed low = rw (le-ltb before after low) refl

pub turn_same : (now : ℕ) (k f : CallLooks) → TurnsOn now k f → SameTurn k f
turn_same now k f (turns_none i) =
    record {
      kept = refl;
      used = omega arith;
      owed = λ low. refl;
      givings = refl;
      acked = refl;
      soft = refl;
      spoke = refl;
    }
turn_same now k f (turns_read i g end bytes rest) =
    (let more = used_reads end bytes i.received in
    let behind = turn_same now (after_read now end bytes i) g rest in
    record {
      kept = behind.kept;
      used = (let on = behind.used in omega (arith, more, on));
      owed = λ low. (
          let on = behind.used in
          behind.owed (omega (arith, low, more))
          ∙ read-owed now i.cwnd.prompt (used_of i.received)
          (used_of (packets.after_read end bytes i.received)) i.owed_ack
          (omega (arith, low, on)));
      givings = behind.givings;
      acked = behind.acked;
      soft = behind.soft;
      spoke = behind.spoke;
    })
turn_same now k f (turns_write i g bytes rest) =
    (let behind = turn_same now _ g rest in
    record {
      kept = behind.kept;
      used = behind.used;
      owed = behind.owed;
      givings = behind.givings;
      acked = behind.acked;
      soft = behind.soft;
      spoke = behind.spoke;
    })
turn_same now k f (turns_shut i g rest) =
    (let behind = turn_same now _ g rest in
    record {
      kept = behind.kept;
      used = behind.used;
      owed = behind.owed;
      givings = behind.givings;
      acked = behind.acked;
      soft = behind.soft;
      spoke = behind.spoke;
    })

-- ---- no fresh piece

given-by : (a b : Sent) → b.givings ≡ a.givings → given_of b ≡ given_of a
given-by a b same = ap (λ (gs : List Giving). greatest_given gs) same

given-stood : (s : Setup) (now : ℕ) (k k1 k2 k4 : CallLooks) (ms : List Message) → TakesIn s now k1 ms k2
    → TurnsOn now k2 k4 → Stood k k4 → given_of k1.sent ≤ given_of k.sent
given-stood s now k k1 k2 k4 ms takes turn stood =
    let taken = given-by k1.sent k2.sent (takes_givings s now k1 ms k2 takes) in
    let turned = given-by k2.sent k4.sent (turn_same now k2 k4 turn).givings in
    let same = stood.given in
    omega (arith, taken, turned, same)

-- ---- one direction of a round

-- what an end's messages make of the other, which was polled out before and has its turn behind them
pub record Half (a : CallLooks) (xs : List Sending) (b b1 b4 : CallLooks) : Type 0 where
  pub less : has_piece xs ≡ true → a.sent.acked < used_of b.received
  pub told : has_ack xs ≡ true → b.sent.acked ≡ used_of a.received
  pub piece : has_piece xs ≡ true → OwesNow b4
  pub ping : has_ping xs ≡ true → OwesNow b4
  pub calm : has_piece xs ≡ false → has_ping xs ≡ false → b4.owed_ack ≡ b1.owed_ack
  pub spoke : b4.spoke ≡ b1.spoke
  pub givings : b4.sent.givings ≡ b1.sent.givings

module _ (s t : Setup) (now_s now_t : ℕ) (a a1 a2 a4 b b1 b2 b4 : CallLooks) (xs ys : List Sending)
    (ms ns : List Message) where
  half : GivesOut s now_s a xs ms a1 → TakesIn s now_s a1 ns a2 → TurnsOn now_s a2 a4 → GivesOut t now_t b ys ns b1
      → TakesIn t now_t b1 ms b2 → TurnsOn now_t b2 b4 → Stood a a4 → Stood b b4 → a.cwnd.prompt ≡ false
      → b.cwnd.prompt ≡ false → Ready (is_client t.kind) a b → b.sent.acked ≤ used_of a.received → Half a xs b b1 b4
  half gives_a takes_a turn_a gives_b takes_b turn_b stood_a stood_b
      steady_a steady_b ready hard =
      let tell_a = polls_tell s now_s a a xs ms a1 gives_a (same_end a steady_a)
      (given-stood s now_s a a1 a2 a4 ns takes_a turn_a stood_a) in
      let tell_b = polls_tell t now_t b b ys ns b1 gives_b (same_end b steady_b)
      (given-stood t now_t b b1 b2 b4 ms takes_b turn_b stood_b) in
      let same = tell_b.1 in
      let kept : b1.received.kept ≡ b.received.kept = ap (λ (r : Received). r.kept) same.received in
      let used : used_of b1.received ≡ used_of b.received = ap (λ (r : Received). used_of r) same.received in
      let polled = ready_on (is_client t.kind) a b b1 kept used same.said same.shut ready in
      let turned = turn_same now_t b2 b4 turn_b in
      let still : front_of b2.received.kept ≤ front_of b1.received.kept =
      (let first = ap (λ (ps : List Packet). front_of ps) turned.kept in
      let second = ap (λ (ps : List Packet). front_of ps) kept in
      let third = stood_b.front in
      omega (arith, first, second, third)) in
      let all = takes_tell s t now_t a b1 xs ms b2 takes_b tell_a.0 polled still in
      let owed : b4.owed_ack ≡ b2.owed_ack =
      turned.owed (let done = all.stays.used in let end = stood_b.used in omega (arith, done, end, used)) in
      record {
        less = λ some. (let less = all.less some in omega (arith, less, used));
        told = λ some. (
            let told = all.told some in
            let turn = turned.acked in
            let end = stood_b.acked in
            omega (arith, told, turn, end, hard));
        piece = λ some. owes-as b2 b4 owed (all.piece some);
        ping = λ some. owes-as b2 b4 owed (all.ping some);
        calm = λ none quiet. owed ∙ all.calm none quiet;
        spoke = turned.spoke ∙ all.stays.spoke;
        givings = turned.givings ∙ all.stays.givings;
      }

-- ---- both directions

-- what counts is there
pub counts_within : (s : Sent) → counting_of s ≤ pieces_of s
counts_within s = of s.shut
  where
    of : (b : Bool) → counting_by (length s.said) b ≤ pieces_by (length s.said) b
    of true = omega arith
    of false = omega arith

-- what an end is done with was said
room-by : (sent : Sent) (received : Received) → AreGiven sent received → given_of sent ≤ counting_of sent
    → used_of received ≤ pieces_of sent
room-by sent received given counts =
    let done = reach_within (is_done received) (front_of received.kept) in
    let front = reach_within (λ j. is_some (packet_at received.kept j)) (greatest received.kept) in
    let within = counts_within sent in
    omega (arith, done, front, within, given, counts)

module _ (cs ss : Setup) (client : is_client cs.kind ≡ true) (server : is_client ss.kind ≡ false) (e f : Ends)
    (r : Round cs ss e f) where
  -- of what the client gave
  pub request_half : Half e.client r.passes.out_c e.server r.passes.ks1 f.server
  request_half =
      half cs ss e.client_now e.server_now e.client r.passes.kc1 r.passes.kc2 f.client e.server
      r.passes.ks1 r.passes.ks2
      f.server r.passes.out_c r.passes.out_s r.passes.gave_c r.passes.gave_s r.passes.gives_c r.passes.takes_c
      r.passes.turn_c r.passes.gives_s r.passes.takes_s r.passes.turn_s r.client_stood r.server_stood
      r.client_fit.steady
      r.server_fit.steady (record {
        truth = r.linked.request_true;
        drained = r.linked.server_drained;
        room = room-by e.server.sent e.client.received r.linked.reply_given r.server_fit.counts;
        frees = server_frees server r.linked.late;
      }) r.linked.reply_true.hard

  -- of what the server gave
  pub reply_half : Half e.server r.passes.out_s e.client r.passes.kc1 f.client
  reply_half =
      half ss cs e.server_now e.client_now e.server r.passes.ks1 r.passes.ks2 f.server e.client
      r.passes.kc1 r.passes.kc2
      f.client r.passes.out_s r.passes.out_c r.passes.gave_s r.passes.gave_c r.passes.gives_s r.passes.takes_s
      r.passes.turn_s r.passes.gives_c r.passes.takes_c r.passes.turn_c r.server_stood r.client_stood
      r.server_fit.steady
      r.client_fit.steady (record {
        truth = r.linked.reply_true;
        drained = r.linked.client_drained;
        room = room-by e.client.sent e.server.received r.linked.request_given r.client_fit.counts;
        frees = client_frees client;
      }) r.linked.request_true.hard

  -- an acknowledgement that an end owes at once is given
  pub client_due : OwesNow e.client → has_ack r.passes.out_c ≡ true
  client_due owes =
      polls_due cs e.client_now e.client r.passes.out_c r.passes.gave_c r.passes.kc1 owes.owed r.passes.gives_c owes.is
      (let now = owes.now in omega arith)

  pub server_due : OwesNow e.server → has_ack r.passes.out_s ≡ true
  server_due owes =
      polls_due ss e.server_now e.server r.passes.out_s r.passes.gave_s r.passes.ks1 owes.owed r.passes.gives_s owes.is
      (let now = owes.now in omega arith)
