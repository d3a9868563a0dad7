-- An end that isn't prompt, polled until it has nothing to give, where it gives no fresh piece: what its messages tell,
-- and what is left owed.
use Rattle.std.proofs.Common.{◌≡◌, ◌≤◌, ◌⊎◌, ◌+◌, ◌==◌, ◌||◌, is_some, max, nat_le, ℕ, suc, Bool, true, false, List, []}
use Rattle.std.proofs.Common.{◌∷◌, Option, Some, None, refl, ap, sym, ◌∙◌, inl, inr, arith}
use Rattle.std.proofs.lemmas.Bool.{or_cases, or_parts}
use Rattle.rx_model.specs.declared.wire.TheConstants.{ACK_PING, PING_MS}
use Rattle.rx_model.specs.Body as bodies
use Rattle.rx_model.specs.Message.{Message}
use Rattle.rx_rules.specs.CallItems.{Sending, Piece, Ack, ack_body, after_sending, next_sending, sending_seq}
use Rattle.rx_rules.specs.CallLooks.{CallLooks, NodeView, after_piece, is_timed_out, slowed}
use Rattle.rx_rules.specs.Lost.{halves}
use Rattle.rx_rules.specs.Owing.{Owed}
use Rattle.rx_rules.specs.Received.{Received, reach}
use Rattle.rx_rules.specs.Sent.{Sent, given_of, lowest_of, piece_at}
use Rattle.rx_rules.specs.Setup.{Setup, is_client, receiving_window}
use Rattle.rx_rules.proofs.SentLaws.{given-within}
use Rattle.rx_closing.proofs.Ends.NextGiven.{NextOf, is_again, is_fresh, is_owed, is_ping, is_view_at, next_is}
use Rattle.rx_closing.proofs.Ends.NextGiven.{none_owed, view_at}
use Rattle.rx_closing.proofs.Steps.{GivesOut, gives_none, gives_one}
use Rattle.rx_between.proofs.GivenSeqs.{sending_given}

-- ---- what was given

-- a piece is among what was given
abbrev pub has_piece : List Sending → Bool
has_piece [] = false
has_piece (Piece seq again ∷ xs) = true
has_piece (Ack reason serial ∷ xs) = has_piece xs

-- an acknowledgement is
abbrev pub has_ack : List Sending → Bool
has_ack [] = false
has_ack (Piece seq again ∷ xs) = has_ack xs
has_ack (Ack reason serial ∷ xs) = true

-- a ping is
abbrev pub has_ping : List Sending → Bool
has_ping [] = false
has_ping (Piece seq again ∷ xs) = has_ping xs
has_ping (Ack reason serial ∷ xs) = (reason == ACK_PING) || has_ping xs

-- with messages that tell what an end had as it was polled: its lowest piece, and what it received
pub data Tells (s : Setup) (k : CallLooks) : List Sending → List Message → Type 0 where
  tells_none : Tells s k [] []
  tells_piece : (seq : ℕ) (again : Bool) (m : Message) (payload : List ℕ) (xs : List Sending) (ms : List Message)
      → m.body ≡ bodies.Chunk payload → m.seq ≡ lowest_of k.sent → lowest_of k.sent ≤ given_of k.sent
      → Tells s k xs ms → Tells s k (Piece seq again ∷ xs) (m ∷ ms)
  tells_ack : (reason serial : ℕ) (m : Message) (xs : List Sending) (ms : List Message)
      → m.body ≡ bodies.Ack (ack_body (receiving_window s) reason serial k.received)
      → Tells s k xs ms → Tells s k (Ack reason serial ∷ xs) (m ∷ ms)

-- ---- one giving

-- an owed acknowledgement is no ping
abbrev pub IsPlain : CallLooks → Type 0
IsPlain k = (o : Owed) → k.owed_ack ≡ Some o → (o.reason == ACK_PING) ≡ false

-- what is behind it
pub steady_piece : (now seq : ℕ) (k : CallLooks) → k.cwnd.prompt ≡ false → (after_piece now seq k).cwnd.prompt ≡ false
steady_piece now seq k steady = of (is_timed_out k seq) (halves k.cwnd k.sent seq)
  where
    of : (up half : Bool) → (slowed up half k).cwnd.prompt ≡ false
    of true half = steady
    of false true = steady
    of false false = steady

pub steady_sending : (now : ℕ) (x : Sending) (k : CallLooks) → k.cwnd.prompt ≡ false
    → (after_sending now x k).cwnd.prompt ≡ false
steady_sending now (Piece seq again) k steady = steady_piece now seq k steady
steady_sending now (Ack reason serial) k steady = steady

-- nothing is owed behind an acknowledgement
pub acked_none : (now reason serial : ℕ) (k : CallLooks) → k.cwnd.prompt ≡ false
    → (after_sending now (Ack reason serial) k).owed_ack ≡ None
acked_none now reason serial k steady = rw steady refl

pub plain_sending : (now : ℕ) (x : Sending) (k : CallLooks) → k.cwnd.prompt ≡ false → IsPlain k
    → IsPlain (after_sending now x k)
plain_sending now (Piece seq again) k steady plain o is = plain o is
plain_sending now (Ack reason serial) k steady plain o is =
    absurd (let both : ◌≡◌ {A = Option Owed} None (Some o) = sym (acked_none now reason serial k steady) ∙ is in
    cc (both))

-- a piece is the next one or the lowest again
piece_of : (v : NodeView) (k : CallLooks) (seq : ℕ) (again : Bool) → NextOf v k (Piece seq again)
    → (seq ≡ suc (given_of k.sent)) ⊎ ((seq ≡ lowest_of k.sent) × (seq ≤ given_of k.sent))
piece_of v k seq again (is_fresh can is) = inl (ap sending_seq is)
piece_of v k seq again (is_again g last due is) =
    (let same : seq ≡ lowest_of k.sent = ap sending_seq is in
    let low = given-within k.sent.givings (lowest_of k.sent) g last in
    inr (same, omega (arith, same, low)))
piece_of v k seq again (is_owed o owed due is) = absurd (piece_no is)
  where
    piece_no : Piece seq again ≡ Ack o.reason o.serial → ⊥
    piece_no same = cc
piece_of v k seq again (is_ping client due is) = absurd (piece_no is)
  where
    piece_no : Piece seq again ≡ Ack ACK_PING 0 → ⊥
    piece_no same = cc

abbrev reason_of : Sending → ℕ
reason_of (Piece seq again) = 0
reason_of (Ack reason serial) = reason

-- an acknowledgement is owed, or it is a ping
ack_of : (v : NodeView) (k : CallLooks) (reason serial : ℕ) → NextOf v k (Ack reason serial)
    → ((o : Owed) × (k.owed_ack ≡ Some o) × (reason ≡ o.reason))
    ⊎ ((v.client ≡ true) × (k.spoke + PING_MS ≤ v.now) × (reason ≡ ACK_PING))
ack_of v k reason serial (is_fresh can is) = absurd (ack_no is)
  where
    ack_no : Ack reason serial ≡ Piece (suc (given_of k.sent)) false → ⊥
    ack_no same = cc
ack_of v k reason serial (is_again g last due is) = absurd (ack_no is)
  where
    ack_no : Ack reason serial ≡ Piece (lowest_of k.sent) true → ⊥
    ack_no same = cc
ack_of v k reason serial (is_owed o owed due is) = inl (o, owed, ap reason_of is)
ack_of v k reason serial (is_ping client due is) = inr (client, due, ap reason_of is)

-- ---- what stays

-- what an end is left with by polls that give no fresh piece
pub record SameEnd (k j : CallLooks) : Type 0 where
  pub received : j.received ≡ k.received
  pub said : j.sent.said ≡ k.sent.said
  pub shut : j.sent.shut ≡ k.sent.shut
  pub acked : j.sent.acked ≡ k.sent.acked
  pub soft : j.sent.soft ≡ k.sent.soft
  pub given : given_of j.sent ≡ given_of k.sent
  pub steady : j.cwnd.prompt ≡ false

pub same_end : (k : CallLooks) → k.cwnd.prompt ≡ false → SameEnd k k
same_end k steady =
    record { received = refl; said = refl; shut = refl; acked = refl; soft = refl; given = refl; steady = steady }

-- the lowest piece that isn't acknowledged stays
pub same_lowest : (a b : Sent) → a.acked ≡ b.acked → a.soft ≡ b.soft → given_of a ≡ given_of b
    → lowest_of a ≡ lowest_of b
same_lowest a b acked soft given = λ i. suc (reach (λ k. nat_le k (acked i) || (soft i) k) (given i))

same-piece : (now seq : ℕ) (again : Bool) (k j : CallLooks) → SameEnd k j → seq ≤ given_of k.sent
    → SameEnd k (after_sending now (Piece seq again) j)
same-piece now seq again k j same low =
    record {
      received = same.received;
      said = same.said;
      shut = same.shut;
      acked = same.acked;
      soft = same.soft;
      given = (let before = same.given in let top : max seq (given_of j.sent) ≡ given_of k.sent = omega arith in top);
      steady = steady_piece now seq j same.steady;
    }

same-ack : (now reason serial : ℕ) (k j : CallLooks) → SameEnd k j → SameEnd k (after_sending now (Ack reason serial) j)
same-ack now reason serial k j same =
    record {
      received = same.received;
      said = same.said;
      shut = same.shut;
      acked = same.acked;
      soft = same.soft;
      given = same.given;
      steady = same.steady;
    }

-- ---- polls

-- what was given only grows
pub polls_given : (s : Setup) (now : ℕ) (j : CallLooks) (xs : List Sending) (ms : List Message) (f : CallLooks)
    → GivesOut s now j xs ms f → given_of j.sent ≤ given_of f.sent
polls_given s now j xs ms f (gives_none i idle) = omega arith
polls_given s now j xs ms f (gives_one i g x m ys ns next given rest) =
    (let before = sending_given now x i in let behind = polls_given s now (after_sending now x i) ys ns g rest in
    omega (arith, before, behind))

-- what the messages tell
pub polls_tell : (s : Setup) (now : ℕ) (k j : CallLooks) (xs : List Sending) (ms : List Message) (f : CallLooks)
    → GivesOut s now j xs ms f → SameEnd k j → given_of f.sent ≤ given_of k.sent → Tells s k xs ms × SameEnd k f
polls_tell s now k j xs ms f (gives_none i idle) same low = (tells_none, same)
polls_tell s now k j xs ms f (gives_one i g (Piece seq again) m ys ns next given rest) same low =
    by (piece_of (view_at s now) i seq again
    (next_is (view_at s now) i same.steady (Piece seq again) (next (view_at s now) (is_view_at s now))))
    (λ old. polls_tell s now k (after_sending now (Piece seq again) i) ys ns g rest old low)
  where
    by : (seq ≡ suc (given_of i.sent)) ⊎ ((seq ≡ lowest_of i.sent) × (seq ≤ given_of i.sent))
        → (SameEnd k (after_sending now (Piece seq again) i) → Tells s k ys ns × SameEnd k g)
        → Tells s k (Piece seq again ∷ ys) (m ∷ ns) × SameEnd k g
    by (inl fresh) more =
        absurd (let grown = polls_given s now (after_sending now (Piece seq again) i) ys ns g rest in
        let top : max seq (given_of i.sent) ≤ given_of g.sent = grown in
        let before = same.given in
        omega (arith, top, fresh, low, before))
    by (inr old) more =
        (let before = same.given in
        let lowest = same_lowest i.sent k.sent same.acked same.soft same.given in
        let behind = more (same-piece now seq again k i same (let within = old.1 in omega (arith, within, before))) in (
          tells_piece seq again m (piece_at i.sent seq).payload ys ns given.body (given.seq ∙ (old.0 ∙ lowest))
              (let at = old.0 in let within = old.1 in omega (arith, at, within, before, lowest)) behind.0,
          behind.1,
        ))
polls_tell s now k j xs ms f (gives_one i g (Ack reason serial) m ys ns next given rest) same low =
    (let behind = polls_tell s now k (after_sending now (Ack reason serial) i) ys ns g rest
    (same-ack now reason serial k i same) low in (
      tells_ack reason serial m ys ns (given.body
          ∙ ap (λ (r : Received). bodies.Ack (ack_body (receiving_window s) reason serial r)) same.received) behind.0,
      behind.1,
    ))

-- nothing more is due
pub polls_end : (s : Setup) (now : ℕ) (j : CallLooks) (xs : List Sending) (ms : List Message) (f : CallLooks)
    → GivesOut s now j xs ms f → next_sending (view_at s now) f ≡ None
polls_end s now j xs ms f (gives_none i idle) = idle (view_at s now) (is_view_at s now)
polls_end s now j xs ms f (gives_one i g x m ys ns next given rest) =
    polls_end s now (after_sending now x i) ys ns g rest

pub polls_steady : (s : Setup) (now : ℕ) (j : CallLooks) (xs : List Sending) (ms : List Message) (f : CallLooks)
    → GivesOut s now j xs ms f → j.cwnd.prompt ≡ false → f.cwnd.prompt ≡ false
polls_steady s now j xs ms f (gives_none i idle) steady = steady
polls_steady s now j xs ms f (gives_one i g x m ys ns next given rest) steady =
    polls_steady s now (after_sending now x i) ys ns g rest (steady_sending now x i steady)

-- where nothing was given nothing changed
pub polls_quiet : (s : Setup) (now : ℕ) (j : CallLooks) (xs : List Sending) (ms : List Message) (f : CallLooks)
    → GivesOut s now j xs ms f → xs ≡ [] → f ≡ j
polls_quiet s now j xs ms f (gives_none i idle) quiet = refl
polls_quiet s now j xs ms f (gives_one i g x m ys ns next given rest) quiet = absurd (some x ys quiet)
  where
    some : (y : Sending) (zs : List Sending) → ◌≡◌ {A = List Sending} (y ∷ zs) [] → ⊥
    some y zs is = cc

-- where no piece was given, the stream and the rates are as before
pub record SameSending (k f : CallLooks) : Type 0 where
  pub sent : f.sent ≡ k.sent
  pub cwnd : f.cwnd ≡ k.cwnd
  pub rtt : f.rtt ≡ k.rtt
  pub received : f.received ≡ k.received

pub polls_same : (s : Setup) (now : ℕ) (j : CallLooks) (xs : List Sending) (ms : List Message) (f : CallLooks)
    → GivesOut s now j xs ms f → has_piece xs ≡ false → SameSending j f
polls_same s now j xs ms f (gives_none i idle) none = record { sent = refl; cwnd = refl; rtt = refl; received = refl }
polls_same s now j xs ms f (gives_one i g (Piece seq again) m ys ns next given rest) none = absurd cc
polls_same s now j xs ms f (gives_one i g (Ack reason serial) m ys ns next given rest) none =
    (let behind = polls_same s now (after_sending now (Ack reason serial) i) ys ns g rest none in
    record { sent = behind.sent; cwnd = behind.cwnd; rtt = behind.rtt; received = behind.received })

-- ---- what is owed behind them

-- where no acknowledgement was given, what was owed
pub polls_owed : (s : Setup) (now : ℕ) (j : CallLooks) (xs : List Sending) (ms : List Message) (f : CallLooks)
    → GivesOut s now j xs ms f → has_ack xs ≡ false → f.owed_ack ≡ j.owed_ack
polls_owed s now j xs ms f (gives_none i idle) none = refl
polls_owed s now j xs ms f (gives_one i g (Piece seq again) m ys ns next given rest) none =
    polls_owed s now (after_sending now (Piece seq again) i) ys ns g rest none
polls_owed s now j xs ms f (gives_one i g (Ack reason serial) m ys ns next given rest) none = absurd cc

owes-none : (s : Setup) (now : ℕ) (j : CallLooks) (xs : List Sending) (ms : List Message) (f : CallLooks)
    → GivesOut s now j xs ms f → j.cwnd.prompt ≡ false → j.owed_ack ≡ None → f.owed_ack ≡ None
owes-none s now j xs ms f (gives_none i idle) steady none = none
owes-none s now j xs ms f (gives_one i g (Piece seq again) m ys ns next given rest) steady none =
    owes-none s now (after_sending now (Piece seq again) i) ys ns g rest (steady_piece now seq i steady) none
owes-none s now j xs ms f (gives_one i g (Ack reason serial) m ys ns next given rest) steady none =
    owes-none s now (after_sending now (Ack reason serial) i) ys ns g rest steady
    (acked_none now reason serial i steady)

-- where one was given, nothing
pub polls_told : (s : Setup) (now : ℕ) (j : CallLooks) (xs : List Sending) (ms : List Message) (f : CallLooks)
    → GivesOut s now j xs ms f → j.cwnd.prompt ≡ false → has_ack xs ≡ true → f.owed_ack ≡ None
polls_told s now j xs ms f (gives_none i idle) steady some = absurd cc
polls_told s now j xs ms f (gives_one i g (Piece seq again) m ys ns next given rest) steady some =
    polls_told s now (after_sending now (Piece seq again) i) ys ns g rest (steady_piece now seq i steady) some
polls_told s now j xs ms f (gives_one i g (Ack reason serial) m ys ns next given rest) steady some =
    owes-none s now (after_sending now (Ack reason serial) i) ys ns g rest steady
    (acked_none now reason serial i steady)

-- what was due is given
pub polls_due : (s : Setup) (now : ℕ) (j : CallLooks) (xs : List Sending) (ms : List Message) (f : CallLooks) (o : Owed)
    → GivesOut s now j xs ms f → j.owed_ack ≡ Some o → o.rank ≤ now → has_ack xs ≡ true
polls_due s now j xs ms f o gives owed due = of (has_ack xs) refl
  where
    of : (b : Bool) → has_ack xs ≡ b → b ≡ true
    of true is = refl
    of false is =
        absurd (let late = none_owed (view_at s now) f o (polls_end s now j xs ms f gives)
        (polls_owed s now j xs ms f gives is ∙ owed) in omega arith)

-- ---- when it spoke

spoke-now : (s : Setup) (now : ℕ) (j : CallLooks) (xs : List Sending) (ms : List Message) (f : CallLooks)
    → GivesOut s now j xs ms f → j.spoke ≡ now → f.spoke ≡ now
spoke-now s now j xs ms f (gives_none i idle) is = is
spoke-now s now j xs ms f (gives_one i g (Piece seq again) m ys ns next given rest) is =
    spoke-now s now (after_sending now (Piece seq again) i) ys ns g rest refl
spoke-now s now j xs ms f (gives_one i g (Ack reason serial) m ys ns next given rest) is =
    spoke-now s now (after_sending now (Ack reason serial) i) ys ns g rest refl

-- now, where it gave an acknowledgement
pub polls_spoke : (s : Setup) (now : ℕ) (j : CallLooks) (xs : List Sending) (ms : List Message) (f : CallLooks)
    → GivesOut s now j xs ms f → has_ack xs ≡ true → f.spoke ≡ now
polls_spoke s now j xs ms f (gives_none i idle) some = absurd cc
polls_spoke s now j xs ms f (gives_one i g (Piece seq again) m ys ns next given rest) some =
    spoke-now s now (after_sending now (Piece seq again) i) ys ns g rest refl
polls_spoke s now j xs ms f (gives_one i g (Ack reason serial) m ys ns next given rest) some =
    spoke-now s now (after_sending now (Ack reason serial) i) ys ns g rest refl

-- now, where it gave a piece
pub polls_said : (s : Setup) (now : ℕ) (j : CallLooks) (xs : List Sending) (ms : List Message) (f : CallLooks)
    → GivesOut s now j xs ms f → has_piece xs ≡ true → f.spoke ≡ now
polls_said s now j xs ms f (gives_none i idle) some = absurd cc
polls_said s now j xs ms f (gives_one i g (Piece seq again) m ys ns next given rest) some =
    spoke-now s now (after_sending now (Piece seq again) i) ys ns g rest refl
polls_said s now j xs ms f (gives_one i g (Ack reason serial) m ys ns next given rest) some =
    spoke-now s now (after_sending now (Ack reason serial) i) ys ns g rest refl

-- no one but a client that gave nothing for so long pings
pub polls_ping : (s : Setup) (now : ℕ) (j : CallLooks) (xs : List Sending) (ms : List Message) (f : CallLooks)
    → GivesOut s now j xs ms f → j.cwnd.prompt ≡ false → IsPlain j → has_ping xs ≡ true
    → (is_client s.kind ≡ true) × (j.spoke + PING_MS ≤ now)
polls_ping s now j xs ms f (gives_none i idle) steady plain some = absurd cc
polls_ping s now j xs ms f (gives_one i g (Piece seq again) m ys ns next given rest) steady plain some =
    absurd (let late = (polls_ping s now (after_sending now (Piece seq again) i) ys ns g rest
    (steady_piece now seq i steady) (plain_sending now (Piece seq again) i steady plain) some).1 in
    let soon : now + PING_MS ≤ now = late in omega arith)
polls_ping s now j xs ms f (gives_one i g (Ack reason serial) m ys ns next given rest) steady plain some =
    by (or_cases (reason == ACK_PING) (has_ping ys) some)
    (polls_ping s now (after_sending now (Ack reason serial) i) ys ns g rest steady
    (plain_sending now (Ack reason serial) i steady plain))
    (ack_of (view_at s now) i reason serial
    (next_is (view_at s now) i steady (Ack reason serial) (next (view_at s now) (is_view_at s now))))
  where
    by : ((reason == ACK_PING) ≡ true) ⊎ (has_ping ys ≡ true)
        → (has_ping ys ≡ true → (is_client s.kind ≡ true) × (now + PING_MS ≤ now))
        → ((o : Owed) × (i.owed_ack ≡ Some o) × (reason ≡ o.reason))
        ⊎ ((is_client s.kind ≡ true) × (i.spoke + PING_MS ≤ now) × (reason ≡ ACK_PING))
        → (is_client s.kind ≡ true) × (i.spoke + PING_MS ≤ now)
    by (inr behind) more which = absurd (let late = (more behind).1 in omega arith)
    by (inl pings) more (inl owed) =
        absurd (let not_ping : (reason == ACK_PING) ≡ false =
        ap (λ (n : ℕ). n == ACK_PING) owed.2 ∙ plain owed.0 owed.1 in cc (pings, not_ping))
    by (inl pings) more (inr ping) = (ping.0, ping.1)

-- an acknowledgement that is no ping was owed
pub polls_owes : (s : Setup) (now : ℕ) (j : CallLooks) (xs : List Sending) (ms : List Message) (f : CallLooks)
    → GivesOut s now j xs ms f → j.cwnd.prompt ≡ false → has_ack xs ≡ true → has_ping xs ≡ false
    → is_some j.owed_ack ≡ true
polls_owes s now j xs ms f (gives_none i idle) steady some none = absurd cc
polls_owes s now j xs ms f (gives_one i g (Piece seq again) m ys ns next given rest) steady some none =
    polls_owes s now (after_sending now (Piece seq again) i) ys ns g rest (steady_piece now seq i steady) some none
polls_owes s now j xs ms f (gives_one i g (Ack reason serial) m ys ns next given rest) steady some none =
    by (ack_of (view_at s now) i reason serial
    (next_is (view_at s now) i steady (Ack reason serial) (next (view_at s now) (is_view_at s now))))
  where
    by : ((o : Owed) × (i.owed_ack ≡ Some o) × (reason ≡ o.reason))
        ⊎ ((is_client s.kind ≡ true) × (i.spoke + PING_MS ≤ now) × (reason ≡ ACK_PING)) → is_some i.owed_ack ≡ true
    by (inl owed) = ap (λ (o : Option Owed). is_some o) owed.1
    by (inr ping) =
        absurd (let not_ping = (or_parts (reason == ACK_PING) (has_ping ys) none).0 in
        let pings : (ACK_PING == ACK_PING) ≡ false =
        ap (λ (n : ℕ). n == ACK_PING) (sym ping.2) ∙ not_ping in cc (pings))
