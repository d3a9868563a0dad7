-- What is done to one part of a call, seen of the whole call.
use Rattle.std.proofs.Common.{◌≡◌, ◌-◌, inl, inr, ◌<◌, ◌∙◌, cond, not, min, nat_lt, Bool, true, false, ℕ}
use Rattle.std.proofs.Common.{Option, refl, sym, ap, subst, arith}
use Rattle.std.proofs.lemmas.Bool.{cases_lt}
use Rattle.std.proofs.lemmas.Bool.Decides.{nat_tests}
use Rattle.rx_rules.specs.CallLooks.{CallLooks, found, is_timed_out, slowed, tells_hole, after_piece, after_ack_given}
use Rattle.rx_rules.specs.CallItems.{Sending}
use Rattle.rx_rules.specs.Owing.{Owed, owed_for_given}
use Rattle.rx_rules.specs.Received.{Received}
use Rattle.rx_rules.specs.Lost.{halves}
use Rattle.rx_rules.specs.Sent.{Sent, after_all, after_giving, after_time}
use Rattle.rx_pool.specs.Pool.{Slots}
use Rattle.rx_pool.specs.Held.{Holds, Keeps}
use Rattle.rx_pool.proofs.Beside.{bytes_beside, bytes_before}
use Rattle.rx_recvwin.specs.Window.{RecvWindow, StandsReceived, Window, StandsFor, packet_slots}
use Rattle.rx_recvwin.proofs.Undisturbed.{seen_undisturbed}
use Rattle.rx_sendwin.specs.Window.{SendWindow, StandsSent, piece_slots}
use Rattle.rx_sendwin.proofs.Undisturbed.{stands_undisturbed}
use Rattle.rx_call.specs.Standing.{EndOfCall, StandsCall, slots_of, heard_or_same, after_given}

-- the receiving window changes
pub received_changed : (old new : Slots) (c : EndOfCall) (w : RecvWindow) (k : CallLooks) (r : Received) →
    Holds old (slots_of c) → Keeps old new (packet_slots c.received) (packet_slots w) → StandsCall old c k →
    StandsReceived new w r → StandsCall new (record c { received = w }) (record k { received = r })
received_changed old new c w k r holds keeps st now =
    record {
      received = now;
      sent =
          stands_undisturbed old new c.sent k.sent st.sent
          (bytes_beside old new (packet_slots c.received) (packet_slots w) (piece_slots c.sent) keeps holds);
      rtt = st.rtt;
      cwnd = st.cwnd;
      owed = st.owed;
      heard = st.heard;
      spoke = st.spoke;
    }

-- the sending window changes
pub sent_changed : (old new : Slots) (c : EndOfCall) (w : SendWindow) (k : CallLooks) (s : Sent) →
    Holds old (slots_of c) → Keeps old new (piece_slots c.sent) (piece_slots w) → StandsCall old c k →
    StandsSent new w s → StandsCall new (record c { sent = w }) (record k { sent = s })
sent_changed old new c w k s holds keeps st now =
    let same = (
    seen_undisturbed old new c.received
    (bytes_before old new (packet_slots c.received) (piece_slots c.sent) (piece_slots w) keeps holds)) in
    record {
      received = subst (λ (v : Window). StandsFor v k.received) (sym same) st.received;
      sent = now;
      rtt = st.rtt;
      cwnd = st.cwnd;
      owed = st.owed;
      heard = st.heard;
      spoke = st.spoke;
    }

-- it was heard
pub now_heard : (pool : Slots) (c : EndOfCall) (k : CallLooks) (now : ℕ) → StandsCall pool c k →
    StandsCall pool (record c { heard = now }) (record k { heard = now })
now_heard pool c k now st =
    record {
      received = st.received;
      sent = st.sent;
      rtt = st.rtt;
      cwnd = st.cwnd;
      owed = st.owed;
      heard = refl;
      spoke = st.spoke;
    }

-- it owes another acknowledgement, or none
pub now_owes : (pool : Slots) (c : EndOfCall) (k : CallLooks) (o p : Option Owed) → o ≡ p → StandsCall pool c k →
    StandsCall pool (record c { owed = o }) (record k { owed_ack = p })
now_owes pool c k o p is st =
    record {
      received = st.received;
      sent = st.sent;
      rtt = st.rtt;
      cwnd = st.cwnd;
      owed = is;
      heard = st.heard;
      spoke = st.spoke;
    }

-- an acknowledgement that isn't strange was heard
pub heard_one : (pool : Slots) (c : EndOfCall) (k h : CallLooks) (strange : Bool) → strange ≡ false →
    StandsCall pool c h → StandsCall pool c (heard_or_same strange h k)
heard_one pool c k h strange is st = subst (λ b. StandsCall pool c (cond b k h)) (sym is) st

-- a request that is acknowledged by a reply
pub found_client : (pool : Slots) (c : EndOfCall) (k : CallLooks) (client : Bool) → client ≡ true →
    StandsCall pool c (record k { sent = after_all k.sent }) → StandsCall pool c (found client k)
found_client pool c k client is st = subst (λ b. StandsCall pool c (found b k)) (sym is) st

-- its window stands for another stream
pub now_sent : (pool : Slots) (c : EndOfCall) (k : CallLooks) (w : SendWindow) (s : Sent) → StandsSent pool w s →
    StandsCall pool c k → StandsCall pool (record c { sent = w }) (record k { sent = s })
now_sent pool c k w s sent st =
    record {
      received = st.received;
      sent = sent;
      rtt = st.rtt;
      cwnd = st.cwnd;
      owed = st.owed;
      heard = st.heard;
      spoke = st.spoke;
    }

-- the time of the piece that is given next is up, or it isn't
pub now_timed : (pool : Slots) (c : EndOfCall) (k : CallLooks) (up t : Bool) → up ≡ t →
    StandsCall pool c (record k { sent = after_time t k.sent }) →
    StandsCall pool c (record k { sent = after_time up k.sent })
now_timed pool c k up t is st = subst (λ b. StandsCall pool c (record k { sent = after_time b k.sent })) (sym is) st

-- a piece was given
pub piece_given : (pool : Slots) (c : EndOfCall) (k : CallLooks) (w : SendWindow) (now seq : ℕ) (up half : Bool) →
    up ≡ is_timed_out k seq → half ≡ halves k.cwnd k.sent seq →
    StandsCall pool c (record (slowed up half k) { sent = after_time up k.sent }) →
    StandsSent pool w (after_giving now seq (after_time up k.sent)) →
    StandsCall pool (record c { sent = w; spoke = now }) (after_piece now seq k)
piece_given pool c k w now seq up half is closes st sent =
    let given : StandsCall pool (record c { sent = w; spoke = now })
    (record (slowed up half k) { sent = after_giving now seq (after_time up k.sent); spoke = now }) = (
    record {
      received = st.received;
      sent = sent;
      rtt = st.rtt;
      cwnd = st.cwnd;
      owed = st.owed;
      heard = st.heard;
      spoke = refl;
    }) in
    let timed : StandsCall pool (record c { sent = w; spoke = now })
    (record (slowed (is_timed_out k seq) half k) {
      sent = after_giving now seq (after_time (is_timed_out k seq) k.sent);
      spoke = now;
    }) = (
    subst
    (λ b. StandsCall pool (record c { sent = w; spoke = now })
    (record (slowed b half k) { sent = after_giving now seq (after_time b k.sent); spoke = now })) is given) in
    subst
    (λ b. StandsCall pool (record c { sent = w; spoke = now })
    (record (slowed (is_timed_out k seq) b k) {
      sent = after_giving now seq (after_time (is_timed_out k seq) k.sent);
      spoke = now;
    })) closes timed

pub is_not : (b : Bool) → not b ≡ true → b ≡ false
is_not true e = sym e
is_not false e = refl

-- a number that is cut at its type's end is 0 where the whole is
pub cut_some : (cut x y : ℕ) → cut ≡ min x 4294967295 → x ≡ y → nat_lt 0 cut ≡ nat_lt 0 y
cut_some cut x y is same =
    elim (cases_lt 0 y) as (λ _. nat_lt 0 cut ≡ nat_lt 0 y) [
      | inl lt ↦ (
          let some : 0 < cut = omega (arith, is, same, lt) in
          let one : nat_lt 0 cut ≡ true = grind (arith, nat_tests, some) in
          let two : nat_lt 0 y ≡ true = grind (arith, nat_tests, lt) in
          one ∙ sym two)
      | inr ge ↦ (
          let none : cut ≡ 0 = omega (arith, is, same, ge) in
          let gone : y ≡ 0 = omega (arith, ge) in
          ap (nat_lt 0) (none ∙ sym gone))
    ]

-- an acknowledgement was given, and so much is owed behind it
pub ack_told : (pool : Slots) (c : EndOfCall) (k : CallLooks) (now : ℕ) (o : Option Owed) →
    o ≡ owed_for_given now (tells_hole k) (now - k.heard) → StandsCall pool c k →
    StandsCall pool (record c { owed = o; spoke = now }) (after_ack_given now k)
ack_told pool c k now o is st =
    record {
      received = st.received;
      sent = st.sent;
      rtt = st.rtt;
      cwnd = st.cwnd;
      owed = is;
      heard = st.heard;
      spoke = refl;
    }

pub given_one : (pool : Slots) (c : EndOfCall) (k : CallLooks) (now : ℕ) (o p : Option Sending) → o ≡ p →
    StandsCall pool c (after_given now p k) → StandsCall pool c (after_given now o k)
given_one pool c k now o p is st = subst (λ (q : Option Sending). StandsCall pool c (after_given now q k)) (sym is) st
