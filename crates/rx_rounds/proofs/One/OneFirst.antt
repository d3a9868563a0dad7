-- The first round of a request that is said and shut: its call starts at the server, and is accepted in the same round.
-- So a request arrives within two rounds a piece.
use Rattle.std.proofs.Common.{◌≡◌, ◌<◌, ◌≤◌, ◌+◌, ◌-◌, ◌*◌, ◌^◌, ◌==◌, ◌⊎◌, ℕ, suc, zero, Bool, false, List, [], ◌∷◌}
use Rattle.std.proofs.Common.{refl, ap, sym, subst, ◌∙◌, inl, inr, ⊎_elim, Option, None, arith, length}
use Rattle.std.proofs.Common.{le_refl}
use Rattle.std.proofs.lemmas.Bool.{both_ways, cases_lt, lt-leb, ne_eqb}
use Rattle.rx_model.specs.declared.wire.TheConstants.{ACK_REQUESTED}
use Rattle.rx_rules.specs.CallLooks.{CallLooks}
use Rattle.rx_rules.specs.Looks.{Looks}
use Rattle.rx_rules.specs.Owing.{Owed, at_once}
use Rattle.rx_rules.specs.Rates.{first_rtt}
use Rattle.rx_rules.specs.Received.{is_complete, unread_of}
use Rattle.rx_law.specs.Worlds.{Datagram}
use Rattle.rx_jobs.specs.Handlers.{Handlers}
use Rattle.rx_jobs.specs.Jobs.{JobState, begun}
use Rattle.rx_plan.specs.Network.{delivers}
use Rattle.rx_plan.specs.Parts.{To, each}
use Rattle.rx_plan.specs.Rounds.{Polled, polls, rounds}
use Rattle.rx_plan.specs.Stages.{Stage}
use Rattle.rx_plan.specs.Turned.{turns_all}
use Rattle.rx_rounds.proofs.Flow.{Marked, Speed, asks_end, total, writer_at}
use Rattle.rx_rounds.proofs.Keeper.{keeper_at, part_read}
use Rattle.rx_rounds.proofs.One.OneBurst.{burst, client_with, delivers_first, owes_now, polls_burst, starting_with}
use Rattle.rx_rules.specs.Life as lives
use Rattle.rx_rounds.proofs.One.OneCall.{Ends, Link, from_server, header_of, node_of, open_link, the_call}
use Rattle.rx_rounds.proofs.Two.{any_two}
use Rattle.rx_rounds.proofs.One.OneFields.{FitsEnds}
use Rattle.rx_rounds.proofs.One.OneProgress.{keeping_with, no_calls, round_ack}
use Rattle.rx_rounds.proofs.One.OneRequest.{Next, WentFurther, after_ack, arrives, complete_whole, next_pieces}
use Rattle.rx_rounds.proofs.Two.{two_as}
use Rattle.rx_rounds.proofs.One.OneSteps.{empty_at}
use Rattle.rx_rounds.proofs.One.OneTurn.{Keeps, TurnMade, goes_further, reads_on, turn_first}
use Rattle.rx_rounds.proofs.Rounded.{Made, RoundMade, rounds_more, settles_not}
use Rattle.rx_rounds.proofs.Two.{AreApart, Two, host_server, out_to, polls_to, server_polls_none}

-- a turn in which the call was accepted, behind a round in which pieces passed: the rounds behind it bring the request
module _ (x : Ends) (g : Handlers) (fits : FitsEnds x) (apart : AreApart x) (bytes : List ℕ) (a : ℕ) (soft : ℕ → Bool)
    (hard : Marked a soft) (v : Speed) (some : 0 < v.rtt.rto) where
  abbrev writing_to : ℕ → ℕ → Looks
  writing_to given n = client_with x fits apart bytes [] [] given (writer_at bytes v hard.h soft n)

  pub goes_on : (d n given gs : ℕ) (s u t : Stage) (m : RoundMade g s u) (p : ℕ) (owed : Option Owed) (serial : ℕ)
      → 0 < v.window → p < 2 ^ 32 → serial < 2 ^ 32
      → (a + d < total bytes → owed ≡ at_once ACK_REQUESTED serial) → 1 ≤ a + d → a + d ≤ total bytes
      → total bytes ≤ 32 → 2 * (total bytes - (a + d)) ≤ n → u ≡ m.called
      → TurnMade x g (writing_to given (a + d)) [] bytes gs p (a + d) owed [] m.served
      → Made (rounds g (suc n)) u t
      → (total bytes ≡ a + d) ⊎ (v.window ≤ d) → WentFurther x g bytes t
  goes_on d n given gs s u t m p owed serial wide low few is known inside small enough still
      (goes_further dd w out far same) others stop =
      record {
        client = writing_to given (a + d);
        given = gs;
        previous = p;
        count = a + d;
        within = inside;
        owed = owed;
        jobs = [];
        served = m.served;
        turn = record { view = dd; stage = w; out = out; far = far; then_ = same };
        called = u;
        calls = (
          m.calls_are.0,
          subst (λ (z : Stage). turns_all m.served m.calls_are.0 (To z))
              (sym still) m.calls_are.1,
        );
        left = suc n;
        rest = others;
      }
  goes_on d n given gs s u t m p owed serial wide low few is known inside small enough still
      (reads_on j request good none part two2) others stop =
      let lc : Looks = writing_to given (a + d) in
      let open_first : is_complete (part_read bytes good.read p (a + d)) ≡ false = ap
      (λ (i : CallLooks). is_complete i.received) (sym good.is) ∙ part in
      let less : a + d < total bytes =
      elim (cases_lt (a + d) (total bytes)) as (λ c. a + d < total bytes) [
        | inl below ↦ below
        | inr all ↦ absurd (both_ways (is_complete (part_read bytes good.read p (a + d))) open_first
            (complete_whole bytes good.read p (a + d) (omega arith) (omega arith)))
      ] in
      let shape : j ≡ keeper_at bytes good.read (at_once ACK_REQUESTED serial) p (a + d) =
      good.is ∙ ap (λ (w : Option Owed). keeper_at bytes good.read w p (a + d))
      (good.owes (record { reason = ACK_REQUESTED; serial = serial; rank = 0 }) (is less)) in
      let ls : Looks = keeping_with x g fits apart bytes request a soft hard v some gs
      (keeper_at bytes good.read (at_once ACK_REQUESTED serial) p (a + d)) in
      let js : List JobState = record (begun (the_call x)) { request = request } ∷ [] in
      let same : m.served ≡ u = sym (still
      ∙ no_calls x (keeping_with x g fits apart bytes request a soft hard v some gs j) lc js m.served m.called
      two2 m.calls_are) in
      let two3 : Two x ls lc [] js u = two_as x (keeping_with x g fits apart bytes request a soft hard v some gs j)
      lc ls lc [] js m.served u (ap (keeping_with x g fits apart bytes request a soft hard v some gs) shape)
      refl same two2 in
      let nothing : unread_of (part_read bytes good.read p (a + d)) ≡ [] = ap
      (λ (i : CallLooks). unread_of i.received) (sym good.is) ∙ none in
      let r = rounds_more g n u t others.0 (any_two x ls lc [] js u two3) others.1 in
      let halt : (total bytes ≤ a + d) ⊎ (v.window ≤ d) = ⊎_elim (λ (h : total bytes ≡ a + d). inl (omega arith))
      (λ (h : v.window ≤ d). inr h) stop in
      after_ack x g fits apart bytes a (a + d) n given gs p request soft hard v some r.behind t
      wide low inside
      (arrives x g fits apart bytes (total bytes - (a + d)) n (a + d) t small (omega arith) enough
      known less)
      (round_ack x g fits apart bytes request a soft hard v some d (a + d) given gs serial p good.read u
      r.behind refl halt less (omega arith) low few nothing two3 r.first) r.others

module _ (x : Ends) (g : Handlers) (fits : FitsEnds x) (apart : AreApart x) (bytes : List ℕ) where
  abbrev pub soft : ℕ → Bool
  soft k = false

  abbrev pub hard : Marked 0 soft
  hard = record { h = 0; within = le_refl 0; marks = λ k high. sym (lt-leb k 0 high) }

  abbrev pub v : Speed
  v = record { rtt = first_rtt false; window = 2; ssthresh = 32 }

  abbrev pub some : 0 < v.rtt.rto
  some = omega arith

  abbrev pub writing_all : ℕ → ℕ → Looks
  writing_all given n = client_with x fits apart bytes [] [] given (writer_at bytes v 0 soft n)

  pub polls_start : (e : ℕ) (s : Stage) (q : Polled) → e ≤ total bytes → e ≤ 2 → (total bytes ≡ e) ⊎ (2 ≤ e)
      → Two x (empty_at 0) (writing_all 0 0) [] [] s → Made polls s q
      → (q.given ≡ burst x fits apart bytes [] [] 0 soft hard v some e 0 0) × Two x (empty_at 0)
      (writing_all e e) [] [] q.stage
  polls_start e s q below slow stop two made =
      let m = polls_to x (empty_at 0) (writing_all 0 0) [] [] s q made.0 two made.1 in
      let b = polls_burst x fits apart bytes [] [] 0 soft hard v some e 0 0 0 (empty_at 0) s m.0.stage [] m.2 refl
      (omega arith) (omega arith) (omega arith) (omega arith)
      (⊎_elim (λ (h : total bytes ≡ e). inl (omega arith)) (λ (h : 2 ≤ e). inr (omega arith)) stop) two m.4 in
      let e_is : 0 + e ≡ e = omega arith in
      let two1 : Two x (empty_at 0) (writing_all e e) [] [] m.0.stage =
      two_as x (empty_at 0) (writing_all (0 + e) (0 + e)) (empty_at 0) (writing_all e e) [] [] m.0.stage m.0.stage
      refl (ap (λ (i : ℕ). writing_all i i) e_is) refl b.1 in
      let c = out_to 0 x.server m.0 q m.1 (host_server x (empty_at 0) (writing_all e e) [] [] m.0.stage two1) m.5 in
      let d = server_polls_none x (empty_at 0) (writing_all e e) [] [] m.0.stage q.stage x.server m.0.given c.0 two1
      refl c.2 in
      (c.1 ∙ d.0 ∙ m.3 ∙ b.0, d.1)

  -- behind the deliveries of the first round: so many pieces were kept, the last of which asked for an ACK
  pub record FirstPassed (s t : Stage) (m : RoundMade g s t) : Type 0 where
    pub but_one : ℕ
    pub within : suc but_one ≤ total bytes
    pub slow : suc but_one ≤ 2
    pub stop : (total bytes ≡ suc but_one) ⊎ (2 ≤ suc but_one)
    pub previous : ℕ
    pub low : previous < 2 ^ 32
    pub serial : ℕ
    pub few : serial < 2 ^ 32
    pub two : Two x (starting_with x fits apart bytes [] [] 0 soft hard v some
        (keeper_at bytes [] (at_once ACK_REQUESTED serial) previous (suc but_one)))
        (writing_all (suc but_one) (suc but_one)) [] [] m.delivered
    pub loud : (length m.polled.given == 0) ≡ false

  pub first_passes : (s t : Stage) (m : RoundMade g s t) → total bytes ≤ 32
      → Two x (empty_at 0) (writing_all 0 0) [] [] s → FirstPassed s t m
  first_passes s t m small two =
      let e : Next bytes 2 0 = next_pieces bytes 2 0 (omega arith) (omega arith) in
      let k : ℕ = e.but_one in
      let inside : 0 + suc k ≤ total bytes = e.within in
      let slow : suc k ≤ 2 = e.slow in
      let stop : (total bytes ≡ suc k) ⊎ (2 ≤ suc k) = ⊎_elim (λ (h : total bytes ≡ 0 + suc k). inl (omega arith))
      (λ (h : 2 ≤ suc k). inr h) e.stop in
      let q = polls_start (suc k) s m.polled (omega arith) slow stop two m.polls_are in
      let ds : List Datagram = burst x fits apart bytes [] [] 0 soft hard v some (suc k) 0 0 in
      let all : Made (each delivers ds) m.polled.stage
      m.delivered = (
        m.delivers_are.0,
        subst
            (λ (xs : List Datagram). each delivers xs m.polled.stage m.delivers_are.0 (To m.delivered)) q.0
            m.delivers_are.1,
      ) in
      let lc : Looks = writing_all (suc k) (suc k) in
      let d = delivers_first x fits apart bytes [] [] 0 soft hard v some k 0 lc m.polled.stage m.delivered
      (omega arith) (omega arith) (omega arith) q.1 all in
      let w = owes_now x fits apart bytes [] [] 0 soft hard v some k 0 0 [] None
      (asks_end bytes 0 soft hard (header_of x) v some (0 + k) k (omega arith)
      (⊎_elim (λ (h : total bytes ≡ suc k). inl (omega arith)) (λ (h : 2 ≤ suc k). inr h) stop)) in
      record {
        but_one = k;
        within = omega arith;
        slow = slow;
        stop = stop;
        previous = d.0;
        low = d.1;
        serial = w.0;
        few = w.1;
        two =
            subst (λ (o : Option Owed). Two x (starting_with x fits apart bytes [] [] 0 soft hard v some
            (keeper_at bytes [] o d.0 (suc k))) lc [] [] m.delivered) w.2 d.2;
        loud =
            ap (λ (xs : List Datagram). length xs == 0) q.0
            ∙ ne_eqb (length ds) 0 (λ (e1 : length ds ≡ 0). omega arith);
      }

  -- from the start on
  pub begins_arriving : (n : ℕ) (s t : Stage) → x.key ≡ None → total bytes ≤ 32 → 2 * total bytes ≤ n
      → Two x (empty_at 0) (writing_all 0 0) [] [] s
      → Made (rounds g n) s t → WentFurther x g bytes t
  begins_arriving zero s t none small enough two made = absurd (omega arith)
  begins_arriving (suc zero) s t none small enough two made = absurd (omega arith)
  begins_arriving (suc (suc n)) s t none small enough two made =
      let r = rounds_more g (suc n) s t made.0 (any_two x (empty_at 0) (writing_all 0 0) [] [] s two) made.1 in
      let m : RoundMade g s r.behind = r.first in
      let f : FirstPassed s r.behind m = first_passes s r.behind m small two in
      let k : ℕ = f.but_one in
      let inside : suc k ≤ total bytes = f.within in
      let owed : Option Owed = at_once ACK_REQUESTED f.serial in
      let kept : CallLooks = keeper_at bytes [] owed f.previous (suc k) in
      let lc : Looks = writing_all (suc k) (suc k) in
      let two1 : Two x (node_of x (from_server x 0 0) (the_call x ∷ []) 0 lives.Waiting kept) lc [] [] m.delivered =
      two_as x (starting_with x fits apart bytes [] [] 0 soft hard v some kept) lc
      (node_of x (from_server x 0 0) (the_call x ∷ []) 0 lives.Waiting kept) lc [] [] m.delivered m.delivered
      (ap (λ (y : Link). node_of x y (the_call x ∷ []) 0 lives.Waiting kept) (open_link x 0 0 none)) refl refl f.two in
      let good : Keeps x g lc [] bytes 0 f.previous (suc k) owed kept =
      record { read = []; owed = owed; is = refl; owes = λ o1 is. is; calm = λ c. c } in
      let turn = turn_first x g lc [] bytes 0 f.previous (suc k) owed kept m.delivered
      m.served good two1 m.serves_are in
      let still : r.behind ≡ m.called = settles_not m.called r.behind (length m.polled.given == 0) f.loud
      m.settles_are in
      let one : 0 + suc k ≡ suc k = omega arith in
      goes_on x g fits apart bytes 0 soft hard v some (suc k) n (suc k) 0 s r.behind t m f.previous owed f.serial
      (omega arith) f.low f.few (λ less. refl) (omega arith) (omega arith) small (omega arith) still
      (subst (λ (i : ℕ). TurnMade x g (writing_all (suc k) i) [] bytes 0 f.previous i owed [] m.served) (sym one) turn)
      r.others
      (⊎_elim (λ (h : total bytes ≡ suc k). inl (omega arith)) (λ (h : 2 ≤ suc k). inr h) f.stop)
