-- A request arrives: within two rounds for each piece that is left its handler decides a code, or has the whole
-- request.
use Rattle.std.proofs.Common.{◌≡◌, ◌<◌, ◌≤◌, ◌+◌, ◌-◌, ◌*◌, ◌^◌, ◌⊎◌, ℕ, suc, zero, Bool, true, List, [], ◌∷◌, refl, ap}
use Rattle.std.proofs.Common.{sym, ◌∙◌, inl, inr, ⊎_elim, Option, Some, None, arith, nat_le}
use Rattle.std.proofs.lemmas.Bool.{both_ways, cases_lt, eq-eqb, le-leb}
use Rattle.rx_model.specs.declared.wire.TheConstants.{ACK_REQUESTED}
use Rattle.rx_rules.specs.Looks.{Looks}
use Rattle.rx_rules.specs.Owing.{Owed, at_once}
use Rattle.rx_rules.specs.Received.{front_of, is_complete, is_within, last_seq, packet_at}
use Rattle.rx_rules.specs.Sent.{is_marked}
use Rattle.rx_jobs.specs.Handlers.{Handlers}
use Rattle.rx_jobs.specs.Jobs.{JobState, begun}
use Rattle.rx_plan.specs.Rounds.{rounds}
use Rattle.rx_plan.specs.Stages.{Stage}
use Rattle.rx_plan.specs.Turned.{turns_all}
use Rattle.rx_rounds.proofs.Flow.{Marked, Speed, hard_told, newly, total, waits}
use Rattle.rx_rounds.proofs.Keeper.{front_kept, keeper_at, kept_to, last_kept, packet_kept, part_read, piece}
use Rattle.rx_rounds.proofs.One.OneCall.{Ends, header_of, the_call}
use Rattle.rx_rounds.proofs.Two.{any_two}
use Rattle.rx_rounds.proofs.One.OneFields.{FitsEnds}
use Rattle.rx_rounds.proofs.One.OneProgress.{AckPassed, PiecesPassed, further, further_on, keeping_with, passed, quick}
use Rattle.rx_rounds.proofs.One.OneProgress.{rests, round_ack, round_pieces, told_client, writing}
use Rattle.rx_rules.specs.CallLooks.{CallLooks}
use Rattle.rx_rounds.proofs.One.OneTurn.{Further, Keeps}
use Rattle.rx_rounds.proofs.Rounded.{Made, rounds_more}
use Rattle.rx_rounds.proofs.Two.{AreApart, Two}

-- with its last piece a stream without a gap is complete
pub complete_whole : (bytes read : List ℕ) (p n : ℕ) → n ≡ total bytes → 1 ≤ n
    → is_complete (part_read bytes read p n) ≡ true
complete_whole bytes read p zero is low = absurd (omega arith)
complete_whole bytes read p (suc m) is low =
    let last : last_seq (kept_to bytes (suc m)) ≡ Some (suc m) = rw (eq-eqb (suc m) (total bytes) is) refl in
    ap (λ (o : Option ℕ). is_within o (front_of (kept_to bytes (suc m)))) last
    ∙ ap (nat_le (suc m)) (front_kept bytes (suc m)) ∙ le-leb (suc m) (suc m) (omega arith)

-- the turn of the dispatcher in which its job decided a code, or had the whole request; and the rounds that were left
-- then
pub record WentFurther (x : Ends) (g : Handlers) (bytes : List ℕ) (t : Stage) : Type 0 where
  pub client : Looks
  pub given : ℕ
  pub previous : ℕ
  pub count : ℕ
  pub within : count ≤ total bytes
  pub owed : Option Owed
  pub jobs : List JobState
  pub served : Stage
  pub turn : Further x g client [] bytes given previous count owed jobs served
  pub called : Stage
  pub calls : Made turns_all served called
  pub left : ℕ
  pub rest : Made (rounds g left) called t

-- how many pieces pass in the next round: as many as are left, or as the window lets go
pub record Next (bytes : List ℕ) (window a : ℕ) : Type 0 where
  pub but_one : ℕ
  pub within : a + suc but_one ≤ total bytes
  pub slow : suc but_one ≤ window
  pub stop : (total bytes ≡ a + suc but_one) ⊎ (window ≤ suc but_one)

pub next_pieces : (bytes : List ℕ) (window a : ℕ) → a < total bytes → 0 < window → Next bytes window a
next_pieces bytes window a short wide =
    elim (cases_lt window (total bytes - a)) as (λ c. Next bytes window a) [
      | inl full ↦ record { but_one = window - 1; within = omega arith; slow = omega arith; stop = inr (omega arith) }
      | inr all ↦ record {
        but_one = total bytes - a - 1;
        within = omega arith;
        slow = omega arith;
        stop = inl
            (omega arith);
      }
    ]

module _ (x : Ends) (g : Handlers) (fits : FitsEnds x) (apart : AreApart x) (bytes : List ℕ) where
  abbrev pub jobs_with : List ℕ → List JobState
  jobs_with request = record (begun (the_call x)) { request = request } ∷ []

  abbrev pub IsLater : Option Owed → Type 0
  IsLater o = (o ≡ None) ⊎ ((w : Owed) × (o ≡ Some w) × (w.rank ≡ 100))

  -- from a rest at so many pieces, in so many rounds
  abbrev pub FromRest : ℕ → ℕ → Stage → Type 0
  FromRest a n t =
      (request : List ℕ) (soft : ℕ → Bool) (hard : Marked a soft) (v : Speed) (some : 0 < v.rtt.rto)
      (given gs : ℕ) (read : List ℕ) (o : Option Owed) (p : ℕ) (s : Stage)
      → 0 < v.window → p < 2 ^ 32 → IsLater o
      → Two x (keeping_with x g fits apart bytes request a soft hard v some gs (keeper_at bytes read o p a))
      (writing x g fits apart bytes request a soft hard v some given a) [] (jobs_with request) s
      → Made (rounds g n) s t → WentFurther x g bytes t

  -- behind the ACK
  pub after_ack : (a d n given gs p : ℕ) (request : List ℕ) (soft : ℕ → Bool) (hard : Marked a soft) (v : Speed)
      (some : 0 < v.rtt.rto) (u t : Stage)
      → 0 < v.window → p < 2 ^ 32 → d ≤ total bytes → FromRest d n t
      → AckPassed x g fits apart bytes request a soft hard v some given d gs p u
      → Made (rounds g n) u t → WentFurther x g bytes t
  after_ack a d n given gs p request soft hard v some u t wide low inside again (rests read request2 o late none two)
      made =
      again request2 (is_marked (d + 1) []) (hard_told bytes a soft hard (header_of x) v some d)
      (quick x g fits apart bytes request a soft hard v some d)
      (waits (newly bytes a soft hard (header_of x) v some d d).sample v.rtt some) given (suc gs) read o p u
      (omega arith) low late two made
  after_ack a d n given gs p request soft hard v some u t wide low inside again (further_on served turn calls) made =
      record {
        client = told_client x g fits apart bytes request a soft hard v some given d;
        given = suc gs;
        previous = p;
        count = d;
        within = inside;
        owed = None;
        jobs = jobs_with request;
        served = served;
        turn = turn;
        called = u;
        calls = calls;
        left = n;
        rest = made;
      }

  -- behind the pieces
  after_pieces : (a e n given gs : ℕ) (request : List ℕ) (soft : ℕ → Bool) (hard : Marked a soft) (v : Speed)
      (some : 0 < v.rtt.rto) (u t : Stage)
      → 0 < v.window → 1 ≤ a → a + suc e ≤ total bytes → total bytes ≤ 32
      → (total bytes ≡ a + suc e) ⊎ (v.window ≤ suc e)
      → (a + suc e < total bytes → FromRest (a + suc e) n t)
      → PiecesPassed x g fits apart bytes request a soft hard v some given (suc e) gs u
      → Made (rounds g (suc n)) u t → WentFurther x g bytes t
  after_pieces a e n given gs request soft hard v some u t wide known within small stop
      again (passed serial p read request2 few low none part two) made =
      let less : a + suc e < total bytes =
      elim (cases_lt (a + suc e) (total bytes)) as (λ c. a + suc e < total bytes) [
        | inl below ↦ below
        | inr all ↦ absurd (both_ways (is_complete (part_read bytes read p (a + suc e))) part
            (complete_whole bytes read p (a + suc e) (omega arith) (omega arith)))
      ] in
      let r = rounds_more g n u t made.0
      (any_two x (keeping_with x g fits apart bytes request a soft hard v some gs
      (keeper_at bytes read (at_once ACK_REQUESTED serial) p (a + suc e)))
      (writing x g fits apart bytes request a soft hard v some (given + suc e) (a + suc e)) []
      (jobs_with request2) u two) made.1 in
      let halt : (total bytes ≤ a + suc e) ⊎ (v.window ≤ suc e) = ⊎_elim
      (λ (h : total bytes ≡ a + suc e). inl (omega arith)) (λ (h : v.window ≤ suc e). inr h) stop in
      after_ack a (a + suc e) n (given + suc e) gs p request2 soft hard v some r.behind t wide low within (again less)
      (round_ack x g fits apart bytes request2 a soft hard v some (suc e) (a + suc e) (given + suc e) gs serial p read
      u r.behind refl halt less (omega arith) low few none two r.first) r.others
  after_pieces a e n given gs request soft hard v some u t wide known within small stop
      again (further p owed served turn calls) made =
      record {
        client = writing x g fits apart bytes request a soft hard v some (given + suc e) (a + suc e);
        given = gs;
        previous = p;
        count = a + suc e;
        within = within;
        owed = owed;
        jobs = jobs_with request;
        served = served;
        turn = turn;
        called = u;
        calls = calls;
        left = suc n;
        rest = made;
      }

  pub arrives : (left n a : ℕ) (t : Stage) → total bytes ≤ 32 → total bytes ≤ a + left → 2 * left ≤ n → 1 ≤ a
      → a < total bytes → FromRest a n t
  arrives zero n a t small reach enough known short request soft hard v some given gs read o p s wide low late two
      made = absurd (omega arith)
  arrives (suc left) zero a t small reach enough known short request soft hard v some given gs read o p s wide low
      late two made = absurd (omega arith)
  arrives (suc left) (suc zero) a t small reach enough known short request soft hard v some given gs read o p s wide
      low late two made = absurd (omega arith)
  arrives (suc left) (suc (suc n)) a t small reach enough known short request soft hard v some given gs read o p s
      wide low late two made =
      let e : Next bytes v.window a = next_pieces bytes v.window a short wide in
      let inside : a + suc e.but_one ≤ total bytes = e.within in
      let r = rounds_more g (suc n) s t made.0
      (any_two x (keeping_with x g fits apart bytes request a soft hard v some gs (keeper_at bytes read o p a))
      (writing x g fits apart bytes request a soft hard v some given a) [] (jobs_with request) s two) made.1 in
      after_pieces a e.but_one n given gs request soft hard v some r.behind t wide known e.within small e.stop
      (λ less. arrives left n (a + suc e.but_one) t small (omega arith) (omega arith) (omega arith) less)
      (round_pieces x g fits apart bytes request a soft hard v some e.but_one given gs read o p s r.behind late low
      known e.within e.slow (omega arith) e.stop two r.first) r.others

-- ---- the whole request

-- a stream without a gap that is complete has all its pieces
pub whole_is : (bytes read : List ℕ) (p n : ℕ) → n ≤ total bytes → is_complete (part_read bytes read p n) ≡ true
    → n ≡ total bytes
whole_is bytes read p n within whole =
    elim (cases_lt n (total bytes)) as (λ c. n ≡ total bytes) [
      | inl below ↦ absurd (both_ways (is_complete (part_read bytes read p n))
          (ap (λ (o : Option ℕ). is_within o (front_of (kept_to bytes n))) (last_kept bytes n below)) whole)
      | inr all ↦ omega arith
    ]

module _ (x : Ends) (g : Handlers) (bytes : List ℕ) (client : Looks) (given p n : ℕ) (owed : Option Owed)
    (k : CallLooks) where
  -- where the job read the end, the server keeps each piece as it was said
  pub keeps_whole : n ≤ total bytes → Keeps x g client [] bytes given p n owed k → is_complete k.received ≡ true
      → (j : ℕ) → 1 ≤ j → j ≤ total bytes → packet_at k.received.kept j ≡ Some (piece bytes j)
  keeps_whole within good whole j low high =
      let all : n ≡ total bytes = whole_is bytes good.read p n
      within (ap (λ (i : CallLooks). is_complete i.received) (sym good.is) ∙ whole) in
      ap (λ (i : CallLooks). packet_at i.received.kept j) good.is ∙ packet_kept bytes n j low (omega arith)
