-- A client's end that hears nothing, in rounds in which none of its numbers moves: its clock goes on, and each piece
-- that it gave is given again.
use Rattle.std.proofs.Common.{◌≡◌, ◌≤◌, ◌⊎◌, ◌+◌, if◌then◌else◌, is_some, max, ℕ, suc, Bool, true, false, List, ◌∷◌}
use Rattle.std.proofs.Common.{Option, Some, None, refl, ap, sym, ◌∙◌, inl, inr, arith}
use Rattle.std.proofs.lemmas.Bool.{eq-eqb}
use Rattle.rx_model.specs.declared.wire.TheConstants.{ACK_PING, PING_MS}
use Rattle.rx_model.specs.Message.{Message}
use Rattle.rx_rules.specs.CallItems.{Sending, Piece, Ack, after_sending, sending_seq}
use Rattle.rx_rules.specs.CallLooks.{CallLooks, NodeView}
use Rattle.rx_rules.specs.Owing.{Owed}
use Rattle.rx_rules.specs.Received.{Received, used_of}
use Rattle.rx_rules.specs.Sent.{Giving, LastGiving, given_of, greatest_given, last_giving, lowest_of, orders_of}
use Rattle.rx_rules.specs.Setup.{Setup}
use Rattle.rx_rules.proofs.SentLaws.{given-within}
use Rattle.rx_closing.proofs.Ends.BothEnds.{IsFit, Stood}
use Rattle.rx_closing.proofs.Ends.FrozenPolls.{SameEnd, has_ack, has_piece, has_ping, polls_given, polls_owed}
use Rattle.rx_closing.proofs.Ends.FrozenPolls.{polls_owes, polls_ping, polls_quiet, polls_said, polls_spoke, polls_tell}
use Rattle.rx_closing.proofs.Ends.FrozenPolls.{polls_told, same_end, same_lowest, steady_piece}
use Rattle.rx_closing.proofs.Ends.FrozenRound.{SameTurn, turn_same}
use Rattle.rx_closing.proofs.Ends.FrozenSteps.{none_given}
use Rattle.rx_closing.proofs.Ends.NextGiven.{NextOf, is_again, is_fresh, is_owed, is_ping, is_view_at, next_is, view_at}
use Rattle.rx_closing.proofs.Steps.{GivesOut, TurnsOn, gives_none, gives_one}

-- ---- the lowest piece

-- when it was given the last time
abbrev pub moment_of : Option LastGiving → ℕ
moment_of None = 0
moment_of (Some g) = g.moment

abbrev pub last_of : CallLooks → ℕ
last_of k = moment_of (last_giving k.sent.givings (lowest_of k.sent))

-- a piece behind it
last-again : (now seq : ℕ) (again : Bool) (k : CallLooks) → seq ≡ lowest_of k.sent → seq ≤ given_of k.sent
    → last_of (after_sending now (Piece seq again) k) ≡ now
last-again now seq again k is low =
    (let behind : CallLooks = after_sending now (Piece seq again) k in
    let top : given_of behind.sent ≡ given_of k.sent =
    (let both : max seq (given_of k.sent) ≡ given_of k.sent = omega (arith, low) in both) in
    let lowest : lowest_of behind.sent ≡ lowest_of k.sent = same_lowest behind.sent k.sent refl refl top in
    ap (λ (n : ℕ). moment_of (last_giving behind.sent.givings n)) (lowest ∙ sym is)
    ∙ ap moment_of (newest now seq k.sent.givings))
  where
    newest : (at n : ℕ) (gs : List Giving)
        → last_giving (record { seq = n; moment = at } ∷ gs) n
        ≡ Some (record { moment = at; again = is_some (last_giving gs n); order = suc (orders_of gs) })
    newest at n gs = rw (eq-eqb n n refl) refl

-- a piece that is no fresh one is the lowest, which was due
again-of : (v : NodeView) (k : CallLooks) (seq : ℕ) (again : Bool) → NextOf v k (Piece seq again)
    → (seq ≡ suc (given_of k.sent))
    ⊎ ((seq ≡ lowest_of k.sent) × (seq ≤ given_of k.sent) × (last_of k + k.rtt.rto ≤ v.now))
again-of v k seq again (is_fresh can is) = inl (ap sending_seq is)
again-of v k seq again (is_again g last due is) =
    (let same : seq ≡ lowest_of k.sent = ap sending_seq is in
    let low = given-within k.sent.givings (lowest_of k.sent) g last in
    let at : last_of k ≡ g.moment = ap moment_of last in
    inr (same, omega (arith, same, low), omega (arith, at, due)))
again-of v k seq again (is_owed o owed due is) = absurd (piece_no is)
  where
    piece_no : Piece seq again ≡ Ack o.reason o.serial → ⊥
    piece_no same = cc
again-of v k seq again (is_ping client due is) = absurd (piece_no is)
  where
    piece_no : Piece seq again ≡ Ack ACK_PING 0 → ⊥
    piece_no same = cc

module _ (s : Setup) (now : ℕ) where
  -- it is as of now through the rest of the polls
  last-now : (j : CallLooks) (xs : List Sending) (ms : List Message) (f : CallLooks) → GivesOut s now j xs ms f
      → j.cwnd.prompt ≡ false → given_of f.sent ≤ given_of j.sent → last_of j ≡ now → last_of f ≡ now
  last-now j xs ms f (gives_none i idle) steady low is = is
  last-now j xs ms f (gives_one i g (Piece seq again) m ys ns next given rest) steady low is =
      by (again-of (view_at s now) i seq again
      (next_is (view_at s now) i steady (Piece seq again) (next (view_at s now) (is_view_at s now))))
      (λ still. last-now (after_sending now (Piece seq again) i) ys ns g rest (steady_piece now seq i steady) still)
    where
      behind : CallLooks
      behind = after_sending now (Piece seq again) i

      by : (seq ≡ suc (given_of i.sent))
          ⊎ ((seq ≡ lowest_of i.sent) × (seq ≤ given_of i.sent) × (last_of i + i.rtt.rto ≤ now))
          → (given_of g.sent ≤ given_of behind.sent → last_of behind ≡ now → last_of g ≡ now) → last_of g ≡ now
      by (inl fresh) more =
          absurd (let grown = polls_given s now behind ys ns g rest in
          let top : max seq (given_of i.sent) ≤ given_of g.sent = grown in omega (arith, top, fresh, low))
      by (inr old) more =
          (let within = old.1 in
          more (let top : given_of g.sent ≤ max seq (given_of i.sent) = omega (arith, low) in top)
          (last-again now seq again i old.0 within))
  last-now j xs ms f (gives_one i g (Ack reason serial) m ys ns next given rest) steady low is =
      last-now (after_sending now (Ack reason serial) i) ys ns g rest steady low is

  -- a piece that was given again was due, and isn't due for a while
  pub polls_again : (j : CallLooks) (xs : List Sending) (ms : List Message) (f : CallLooks) → GivesOut s now j xs ms f
      → j.cwnd.prompt ≡ false → given_of f.sent ≤ given_of j.sent → has_piece xs ≡ true
      → (last_of j + j.rtt.rto ≤ now) × (last_of f ≡ now)
  polls_again j xs ms f (gives_none i idle) steady low some = absurd cc
  polls_again j xs ms f (gives_one i g (Piece seq again) m ys ns next given rest) steady low some =
      by (again-of (view_at s now) i seq again
      (next_is (view_at s now) i steady (Piece seq again) (next (view_at s now) (is_view_at s now))))
    where
      behind : CallLooks
      behind = after_sending now (Piece seq again) i

      by : (seq ≡ suc (given_of i.sent))
          ⊎ ((seq ≡ lowest_of i.sent) × (seq ≤ given_of i.sent) × (last_of i + i.rtt.rto ≤ now))
          → (last_of i + i.rtt.rto ≤ now) × (last_of g ≡ now)
      by (inl fresh) =
          absurd (let grown = polls_given s now behind ys ns g rest in
          let top : max seq (given_of i.sent) ≤ given_of g.sent = grown in omega (arith, top, fresh, low))
      by (inr old) =
          (let within = old.1 in (
            old.2,
            last-now behind ys ns g rest (steady_piece now seq i steady)
                (let top : given_of g.sent ≤ max seq (given_of i.sent) = omega (arith, low) in top)
                (last-again now seq again i old.0 within),
          ))
  polls_again j xs ms f (gives_one i g (Ack reason serial) m ys ns next given rest) steady low some =
      polls_again (after_sending now (Ack reason serial) i) ys ns g rest steady low some

-- ---- rounds

-- an end at the beginning of a round, and its clock
pub record Lone : Type 0 where
  pub end : CallLooks
  pub now : ℕ

-- a round that moves none of its numbers and brings it nothing; it may give a piece again in it, or it gives none
pub record LoneRound (s : Setup) (may : Bool) (e f : Lone) : Type 0 where
  pub time : ℕ
  pub out : List Sending
  pub gave : List Message
  pub polled : CallLooks
  pub gives : GivesOut s e.now e.end out gave polled
  pub turn : TurnsOn e.now polled f.end
  pub now : f.now ≡ e.now + time
  pub stood : Stood e.end f.end
  pub fit : IsFit e.now e.end
  pub pieces : may ≡ false → has_piece out ≡ false

-- ---- one round

-- 2000 where something is owed
abbrev pub owes : Option Owed → ℕ
owes o = if is_some o then 2000 else 0

owes-some : (o : Option Owed) → is_some o ≡ true → owes o ≡ 2000
owes-some None some = absurd cc
owes-some (Some o) some = refl

pub owes_low : (o : Option Owed) → owes o ≤ 2000
owes_low None = omega arith
owes_low (Some o) = omega arith

module _ (s : Setup) (may : Bool) (e f : Lone) (r : LoneRound s may e f) where
  pub turned : SameTurn r.polled f.end
  turned = turn_same e.now r.polled f.end r.turn

  no-fresh : given_of r.polled.sent ≤ given_of e.end.sent
  no-fresh =
      (let given : given_of f.end.sent ≡ given_of r.polled.sent =
      ap (λ (gs : List Giving). greatest_given gs) turned.givings in
      let stood = r.stood.given in
      omega (arith, given, stood))

  pub same : SameEnd e.end r.polled
  same =
      (polls_tell s e.now e.end e.end r.out r.gave r.polled r.gives (same_end e.end r.fit.steady) no-fresh).1

  -- what it owes
  owed-is : f.end.owed_ack ≡ r.polled.owed_ack
  owed-is =
      turned.owed (let used : used_of r.polled.received ≡ used_of e.end.received =
      ap (λ (x : Received). used_of x) same.received in
      let stood = r.stood.used in
      omega (arith, used, stood))

  pub lone_owes : owes f.end.owed_ack ≤ owes e.end.owed_ack
  lone_owes = of (has_ack r.out) refl
    where
      of : (b : Bool) → has_ack r.out ≡ b → owes f.end.owed_ack ≤ owes e.end.owed_ack
      of true is =
          let none = ap owes (owed-is ∙ polls_told s e.now e.end r.out r.gave r.polled r.gives r.fit.steady is) in
          omega (arith, none)
      of false is =
          let before = ap owes (owed-is ∙ polls_owed s e.now e.end r.out r.gave r.polled r.gives is) in
          omega (arith, before)

  pub lone_falls : has_ack r.out ≡ true → has_ping r.out ≡ false → owes f.end.owed_ack + 2000 ≤ owes e.end.owed_ack
  lone_falls is quiet =
      let none = ap owes (owed-is ∙ polls_told s e.now e.end r.out r.gave r.polled r.gives r.fit.steady is) in
      let some = owes-some e.end.owed_ack
      (polls_owes s e.now e.end r.out r.gave r.polled r.gives r.fit.steady is quiet) in
      omega (arith, none, some)

  -- when it spoke
  pub lone_spoke : e.end.spoke ≤ f.end.spoke
  lone_spoke = of (has_ack r.out) (has_piece r.out) refl refl
    where
      of : (a b : Bool) → has_ack r.out ≡ a → has_piece r.out ≡ b → e.end.spoke ≤ f.end.spoke
      of true b ack piece =
          (let now = turned.spoke ∙ polls_spoke s e.now e.end r.out r.gave r.polled r.gives ack in
          let before = r.fit.spoke in
          omega (arith, now, before))
      of false true ack piece =
          (let now = turned.spoke ∙ polls_said s e.now e.end r.out r.gave r.polled r.gives piece in
          let before = r.fit.spoke in
          omega (arith, now, before))
      of false false ack piece =
          (let quiet = ap (λ (k : CallLooks). k.spoke)
          (polls_quiet s e.now e.end r.out r.gave r.polled r.gives (none_given r.out piece ack)) in
          let behind = turned.spoke in
          omega (arith, quiet, behind))

  pub lone_pinged : has_ack r.out ≡ true → has_ping r.out ≡ true
      → (e.end.spoke + PING_MS ≤ e.now) × (f.end.spoke ≡ e.now)
  lone_pinged ack is = (
    (polls_ping s e.now e.end r.out r.gave r.polled r.gives r.fit.steady r.fit.plain is).1,
    turned.spoke ∙ polls_spoke s e.now e.end r.out r.gave r.polled r.gives ack,
  )
