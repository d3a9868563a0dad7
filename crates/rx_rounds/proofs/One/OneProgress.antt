-- Each two rounds of an arriving request bring at least a piece: at whole nodes, with the dispatcher that reads it. A
-- round of pieces leaves an ACK owed; the next one gives it, and the client may give on.
use Rattle.std.proofs.Common.{◌≡◌, ◌<◌, ◌≤◌, ◌+◌, ◌-◌, ◌^◌, ◌==◌, ◌⊎◌, ℕ, suc, Bool, false, List, [], ◌∷◌, refl, ap}
use Rattle.std.proofs.Common.{sym, subst, ◌∙◌, inl, inr, ⊎_elim, Option, Some, None, length, arith}
use Rattle.std.proofs.lemmas.Bool.{ne_eqb}
use Rattle.rx_model.specs.declared.wire.TheConstants.{ACK_REQUESTED}
use Rattle.rx_model.specs.Spelling.{made}
use Rattle.rx_rules.specs.CallLooks.{CallLooks}
use Rattle.rx_rules.specs.Life as lives
use Rattle.rx_rules.specs.Looks.{Looks}
use Rattle.rx_rules.specs.Owing.{Owed, at_once}
use Rattle.rx_rules.specs.Received.{is_complete, unread_of}
use Rattle.rx_rules.specs.Sent.{is_marked}
use Rattle.rx_law.specs.Worlds.{Datagram}
use Rattle.rx_jobs.specs.Handlers.{Handlers}
use Rattle.rx_jobs.specs.Jobs.{JobState, begun}
use Rattle.rx_plan.specs.Network.{below, delivers}
use Rattle.rx_plan.specs.Parts.{To, each}
use Rattle.rx_plan.specs.Stages.{InvokedState, Stage}
use Rattle.rx_plan.specs.Turned.{turns_all, turns_at}
use Rattle.rx_rounds.proofs.Flow.{Marked, Speed, asks_end, quicker, total, writer_at}
use Rattle.rx_rounds.proofs.Keeper.{keeper_at, part_read}
use Rattle.rx_rounds.proofs.Making.{ends_to}
use Rattle.rx_rounds.proofs.One.OneArrives.{hears_ack, polls_ack, polls_pieces}
use Rattle.rx_rounds.proofs.One.OneBurst.{burst, client_with, delivers_more, owes, owes_now, serving_with}
use Rattle.rx_rounds.proofs.One.OneCall.{Ends, header_of, the_call}
use Rattle.rx_rounds.proofs.One.OneFields.{FitsEnds}
use Rattle.rx_rounds.proofs.Two.{two_as}
use Rattle.rx_rounds.proofs.One.OneTurn.{Further, IsCalm, Keeps, TurnMade, goes_further, reads_on, turn_later}
use Rattle.rx_rounds.proofs.Rounded.{Made, RoundMade, settles_not}
use Rattle.rx_rounds.proofs.Two.{AreApart, Two}

-- a plan without callers
pub no_calls : (x : Ends) (ls lc : Looks) (js : List JobState) (s t : Stage) → Two x ls lc [] js s
    → Made turns_all s t → t ≡ s
no_calls x ls lc js s t two made =
    ends_to s t made.0 (subst (λ (ns : List ℕ). each turns_at ns s made.0 (To t))
    (ap (λ (cs : List InvokedState). below (length cs)) two.callers) made.1)

module _ (x : Ends) (g : Handlers) (fits : FitsEnds x) (apart : AreApart x) (bytes : List ℕ) (request : List ℕ)
    (a : ℕ) (soft : ℕ → Bool) (hard : Marked a soft) (v : Speed) (some : 0 < v.rtt.rto) where
  abbrev js : List JobState
  js = record (begun (the_call x)) { request = request } ∷ []

  abbrev pub writing : ℕ → ℕ → Looks
  writing given n = client_with x fits apart bytes [] js given (writer_at bytes v hard.h soft n)

  abbrev pub keeping_with : ℕ → CallLooks → Looks
  keeping_with gs k = serving_with x fits apart bytes [] js a soft hard v some gs lives.Accepted k

  -- how a round of pieces ends: the job waits for more, and an ACK of all that was given is owed at once; or the job
  -- goes further, since it decided a code or has the whole request
  pub data PiecesPassed (given e gs : ℕ) (t : Stage) : Type 0 where
    passed : (serial p : ℕ) (read request2 : List ℕ) → serial < 2 ^ 32 → p < 2 ^ 32
        → unread_of (part_read bytes read p (a + e)) ≡ []
        → is_complete (part_read bytes read p (a + e)) ≡ false
        → Two x (keeping_with gs (keeper_at bytes read (at_once ACK_REQUESTED serial) p (a + e)))
        (writing (given + e) (a + e)) []
        (record (begun (the_call x)) { request = request2 } ∷ []) t → PiecesPassed given e gs t
    further : (p : ℕ) (first_owed : Option Owed) (u : Stage)
        → Further x g (writing (given + e) (a + e)) [] bytes gs p (a + e) first_owed js u → Made turns_all u t
        → PiecesPassed given e gs t

  pub round_pieces : (e given gs : ℕ) (read : List ℕ) (o : Option Owed) (p : ℕ) (s t : Stage)
      → (o ≡ None) ⊎ ((w : Owed) × (o ≡ Some w) × (w.rank ≡ 100))
      → p < 2 ^ 32 → 1 ≤ a → a + suc e ≤ total bytes → suc e ≤ v.window → a + suc e ≤ 32
      → (total bytes ≡ a + suc e) ⊎ (v.window ≤ suc e)
      → Two x (keeping_with gs (keeper_at bytes read o p a)) (writing given a) [] js s → RoundMade g s t
      → PiecesPassed given (suc e) gs t
  round_pieces e given gs read o p s t calm low_p known below slow small stop two m =
      let q = polls_pieces x fits apart bytes [] js a soft hard v some (suc e) given gs read o p s m.polled calm below
      slow (omega arith) (omega arith) stop two m.polls_are in
      let ds : List Datagram = burst x fits apart bytes [] js a soft hard v some (suc e) a given in
      let all : Made (each delivers ds) m.polled.stage
      m.delivered = (
        m.delivers_are.0,
        subst
            (λ (xs : List Datagram). each delivers xs m.polled.stage m.delivers_are.0 (To m.delivered)) q.0
            m.delivers_are.1,
      ) in
      let d = delivers_more x fits apart bytes [] js a soft hard v some (suc e) a given gs p lives.Accepted read o
      (writing (given + suc e) (a + suc e)) m.polled.stage m.delivered low_p refl known below (omega arith)
      (λ p1 n1 low. omega arith) q.1 all in
      let w = owes_now x fits apart bytes [] js a soft hard v some e a given read o
      (asks_end bytes a soft hard (header_of x) v some (a + e) e refl
      (⊎_elim (λ (h : total bytes ≡ a + suc e). inl (omega arith)) (λ (h : v.window ≤ suc e). inr h) stop)) in
      let owed : Option Owed = owes x fits apart bytes [] js a soft hard v some read o (suc e) a given in
      let good : Keeps x g (writing (given + suc e) (a + suc e)) [] bytes gs d.0 (a + suc e) owed
      (keeper_at bytes read owed d.0 (a + suc e)) =
      record { read = read; owed = owed; is = refl; owes = λ o1 is. is; calm = λ c. c } in
      let turn = turn_later x g (writing (given + suc e) (a + suc e)) [] bytes gs d.0 (a + suc e) owed
      (keeper_at bytes read owed d.0 (a + suc e)) request m.delivered m.served good d.2 m.serves_are in
      by d.0 d.1 owed w.0 w.1 w.2 turn
      (λ ls ks u. no_calls x ls (writing (given + suc e) (a + suc e)) ks m.served m.called u m.calls_are)
      (settles_not m.called t (length m.polled.given == 0) (ap (λ (xs : List Datagram). length xs == 0) q.0
      ∙ ne_eqb (length ds) 0 (λ (e1 : length ds ≡ 0). omega arith)) m.settles_are)
    where
      by : (p2 : ℕ) → p2 < 2 ^ 32 → (owed : Option Owed) (serial : ℕ) → serial < 2 ^ 32
          → owed ≡ at_once ACK_REQUESTED serial
          → TurnMade x g (writing (given + suc e) (a + suc e)) [] bytes gs p2 (a + suc e) owed js m.served
          → ((ls : Looks) (ks : List JobState) → Two x ls (writing (given + suc e) (a + suc e)) [] ks m.served
          → m.called ≡ m.served)
          → t ≡ m.called → PiecesPassed given (suc e) gs t
      by p2 low2 owed serial few is (reads_on k request2 good none part two2) called settled =
          let shape : k ≡ keeper_at bytes good.read (at_once ACK_REQUESTED serial) p2 (a + suc e) =
          good.is ∙ ap (λ (w : Option Owed). keeper_at bytes good.read w p2 (a + suc e))
          (good.owes (record { reason = ACK_REQUESTED; serial = serial; rank = 0 }) is) in
          let same : m.served ≡ t = sym (settled
          ∙ called (keeping_with gs k) (record (begun (the_call x)) { request = request2 } ∷ []) two2) in
          passed serial p2 good.read request2 few low2
          (ap (λ (j : CallLooks). unread_of j.received) (sym shape) ∙ none)
          (ap (λ (j : CallLooks). is_complete j.received) (sym shape) ∙ part)
          (two_as x (keeping_with gs k) (writing (given + suc e) (a + suc e))
          (keeping_with gs (keeper_at bytes good.read (at_once ACK_REQUESTED serial) p2 (a + suc e)))
          (writing (given + suc e) (a + suc e)) [] (record (begun (the_call x)) { request = request2 } ∷ [])
          m.served t
          (ap (keeping_with gs) shape) refl same two2)
      by p2 low2 owed serial few is (goes_further d u out far same) called settled =
          further p2 owed m.served (record { view = d; stage = u; out = out; far = far; then_ = same })
          (m.calls_are.0, subst (λ (w : Stage). turns_all m.served m.calls_are.0 (To w)) (sym settled) m.calls_are.1)

  -- ---- the round of the ACK

  abbrev pub quick : ℕ → Speed
  quick n = quicker bytes a soft hard (header_of x) v some n n

  -- the client behind it: all that it gave is hard acknowledged, and nothing is marked
  abbrev pub told_client : ℕ → ℕ → Looks
  told_client given n = client_with x fits apart bytes [] js given
      (writer_at bytes (quick n) n (is_marked (n + 1) []) n)

  abbrev pub IsLate : Option Owed → Type 0
  IsLate o = (o ≡ None) ⊎ ((w : Owed) × (o ≡ Some w) × (w.rank ≡ 100))

  -- both may go on; or the job goes further
  pub data AckPassed (given n gs p : ℕ) (t : Stage) : Type 0 where
    rests : (read request2 : List ℕ) (o : Option Owed) → IsLate o → unread_of (part_read bytes read p n) ≡ []
        → Two x (keeping_with (suc gs) (keeper_at bytes read o p n)) (told_client given n) []
        (record (begun (the_call x)) { request = request2 } ∷ []) t
        → AckPassed given n gs p t
    further_on : (u : Stage) → Further x g (told_client given n) [] bytes (suc gs) p n None js u → Made turns_all u t
        → AckPassed given n gs p t

  pub round_ack : (d n given gs serial p : ℕ) (read : List ℕ) (s t : Stage)
      → n ≡ a + d → (total bytes ≤ n) ⊎ (v.window ≤ d) → n < total bytes → n < 2 ^ 32 - 1 → p < 2 ^ 32 → serial < 2 ^ 32
      → unread_of (part_read bytes read p n) ≡ []
      → Two x (keeping_with gs (keeper_at bytes read (at_once ACK_REQUESTED serial) p n)) (writing given n) [] js s
      → RoundMade g s t
      → AckPassed given n gs p t
  round_ack d n given gs serial p read s t whole stop part small low few none two m =
      let q = polls_ack x fits apart bytes [] js a soft hard v some d n given gs p serial read s m.polled whole stop
      part small low few none two m.polls_are in
      let heard = hears_ack x fits apart bytes [] js a soft hard v some n given gs p serial
      (keeping_with (suc gs) (keeper_at bytes read None p n)) m.polled.stage m.delivered
      (omega arith) small low few q.1 (
        m.delivers_are.0,
        subst (λ (xs : List Datagram). each delivers xs m.polled.stage m.delivers_are.0
            (To m.delivered)) q.0 m.delivers_are.1,
      ) in
      let good : Keeps x g (told_client given n) [] bytes (suc gs) p n None (keeper_at bytes read None p n) =
      record { read = read; owed = None; is = refl; owes = λ o1 is. is; calm = λ c. c } in
      let turn = turn_later x g (told_client given n) [] bytes (suc gs) p n None (keeper_at bytes read None p n)
      request m.delivered m.served good heard m.serves_are in
      by turn
      (λ ls ks u. no_calls x ls (told_client given n) ks m.served m.called u m.calls_are)
      (settles_not m.called t (length m.polled.given == 0) (ap (λ (xs : List Datagram). length xs == 0) q.0)
      m.settles_are)
    where
      late : (o : Option Owed) → IsCalm x g (told_client given n) [] bytes (suc gs) p n None o → IsLate o
      late None calm = inl refl
      late (Some w) calm = inr (w, refl, calm)

      by : TurnMade x g (told_client given n) [] bytes (suc gs) p n None js m.served
          → ((ls : Looks) (ks : List JobState) → Two x ls (told_client given n) [] ks m.served → m.called ≡ m.served)
          → t ≡ m.called → AckPassed given n gs p t
      by (reads_on k request2 good nothing part2 two2) called settled =
          let same : m.served ≡ t = sym (settled
          ∙ called (keeping_with (suc gs) k) (record (begun (the_call x)) { request = request2 } ∷ []) two2) in
          rests good.read request2 good.owed (late good.owed (good.calm tt))
          (ap (λ (j : CallLooks). unread_of j.received) (sym good.is) ∙ nothing)
          (two_as x (keeping_with (suc gs) k) (told_client given n)
          (keeping_with (suc gs) (keeper_at bytes good.read good.owed p n)) (told_client given n) []
          (record (begun (the_call x)) { request = request2 } ∷ []) m.served t
          (ap (keeping_with (suc gs)) good.is) refl same two2)
      by (goes_further dd u out far same) called settled =
          further_on m.served (record { view = dd; stage = u; out = out; far = far; then_ = same })
          (m.calls_are.0, subst (λ (w : Stage). turns_all m.served m.calls_are.0 (To w)) (sym settled) m.calls_are.1)
