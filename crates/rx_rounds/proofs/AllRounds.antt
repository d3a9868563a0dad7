-- All rounds of an invoke of a plan: each is worth one of four for each piece, one for each turn that its handler
-- waits, and a few more.
use Rattle.std.proofs.Common.{◌≡◌, ◌≢◌, ◌<◌, ◌≤◌, inl, ◌+◌, ◌*◌, ◌^◌, ◌++◌, ℕ, ℤ, pos, zero, suc, Bool, true, false}
use Rattle.std.proofs.Common.{List, [], ◌∷◌, refl, ap, sym, subst, ◌∙◌, arith, nat_lt}
use Rattle.std.specs.List.{list_any}
use Rattle.rx_model.specs.Message.{IsBytes}
use Rattle.rx_rules.specs.Looks.{Looks}
use Rattle.rx_rules.specs.Slots.{live}
use Rattle.rx_script.specs.Served.{bytes, refusal}
use Rattle.rx_jobs.specs.Handlers.{Handlers, served_for, wait_of}
use Rattle.rx_events.specs.Waits.{any_lives}
use Rattle.rx_plan.specs.Parts.{To, Then, by_test, ends}
use Rattle.rx_plan.specs.Rounds.{round, rounds}
use Rattle.rx_plan.specs.Stages.{Stage}
use Rattle.rx_rounds.specs.Bounds.{served_pieces}
use Rattle.rx_rounds.proofs.Arriving.ArrivingNext.{ArrivingNext, arriving_next, comes_on, refuses_now, replies_now}
use Rattle.rx_rounds.proofs.Arriving.ArrivingNext.{waits_now}
use Rattle.rx_rounds.proofs.Between.{Arriving, HasCome, Serving, Waiting, at_work, client_at, caller_with}
use Rattle.rx_rounds.proofs.Between.{not_yet}
use Rattle.rx_rounds.proofs.Flow.{total}
use Rattle.rx_rounds.proofs.Making.{ends_to, then_to}
use Rattle.rx_rounds.proofs.One.OneCall.{Ends}
use Rattle.rx_rounds.proofs.One.OneFields.{FitsEnds}
use Rattle.rx_rounds.proofs.Reading.ReadsNext.{TurnsNext, reads_more, refuses_next, replies_next, waits_next}
use Rattle.rx_rounds.proofs.Replies.ReplyAll.{refusing_ends, replying_ends}
use Rattle.rx_rounds.proofs.Rounded.{Made, RoundMade, caller_at, rounds_more}
use Rattle.rx_rounds.proofs.Two.{AreApart, Two, any_two}
use Rattle.rx_rounds.proofs.Arriving.WaitingRound.{WaitingNext, then_refuses, then_replies, waiting_next, waits_less}

-- ---- rounds in two parts

pub rounds_split : (g : Handlers) (f r n : ℕ) (s t : Stage) → n ≡ f + r → Made (rounds g n) s t
    → (u : Stage) × Made (rounds g f) s u × Made (rounds g r) u t
rounds_split g zero r n s t is made = (
  s,
  ([], (refl, inl refl)),
  subst (λ (m : ℕ). Made (rounds g m) s t) (let same : n ≡ r = omega arith in same) made,
)
rounds_split g (suc f) r zero s t is made = absurd (omega arith)
rounds_split g (suc f) r (suc n) s t is made =
    by (λ u rest. rounds_split g f r n u t (omega arith) rest) (any_lives s.nodes s.history) refl made.1
  where
    none_more : (m : ℕ) → any_lives s.nodes s.history ≡ false → Made (rounds g m) s s
    none_more zero dead = ([], (refl, inl refl))
    none_more (suc m) dead = (
      [],
      subst (λ (b : Bool). by_test b (Then (round g s) (rounds g m)) (ends (To s)) [] (To s)) (sym dead)
          (refl, inl refl),
    )

    by : ((u : Stage) → Made (rounds g n) u t → (v : Stage) × Made (rounds g f) u v × Made (rounds g r) v t)
        → (b : Bool) → any_lives s.nodes s.history ≡ b
        → by_test (any_lives s.nodes s.history) (Then (round g s) (rounds g n)) (ends (To s)) made.0 (To t)
        → (u : Stage) × Made (rounds g (suc f)) s u × Made (rounds g r) u t
    by again false dead m =
        let same : t ≡ s = ends_to s t made.0
        (subst (λ (b : Bool). by_test b (Then (round g s) (rounds g n)) (ends (To s)) made.0 (To t)) dead m) in
        (s, none_more (suc f) dead, subst (λ (u : Stage). Made (rounds g r) s u) (sym same) (none_more r dead))
    by again true lives_ m =
        let b = then_to (round g s) (rounds g n) made.0 t
        (subst (λ (b : Bool). by_test b (Then (round g s) (rounds g n)) (ends (To s)) made.0 (To t)) lives_ m) in
        let r2 = again b.between (b.rest, b.goes) in (
          r2.0,
          (
            b.front ++ r2.1.0,
            subst (λ (b2 : Bool). by_test b2 (Then (round g s) (rounds g f)) (ends (To s)) (b.front ++ r2.1.0)
                (To r2.0))
                (sym lives_) (record {
                  front = b.front;
                  rest = r2.1.0;
                  are = refl;
                  came = To b.between;
                  made = b.made;
                  goes = r2.1.1;
                }),
          ),
          r2.2,
        )

-- ---- a client's call lives

pub client_lives : (b : Bool) (l : Looks) → nat_lt 0 (live l) ≡ true
    → list_any (λ (c : Bool). c) (b ∷ nat_lt 0 (live l) ∷ []) ≡ true
client_lives true l is = refl
client_lives false l is = rw is refl

arriving_lives : (x : Ends) (g : Handlers) (request : List ℕ) (call line now a n q : ℕ) (s : Stage)
    → Arriving x g request call line now a n q s → any_lives s.nodes s.history ≡ true
arriving_lives x g request call line now a n q s h =
    any_two x h.server (client_at x h.given h.used [] now h.kc)
    (caller_at call line (caller_with x h.offering h.shut [] h.phase) ∷ []) h.jobs s h.two
    ∙ client_lives (nat_lt 0 (live h.server)) (client_at x h.given h.used [] now h.kc) refl

waiting_lives : (x : Ends) (g : Handlers) (request : List ℕ) (call line now left : ℕ) (s : Stage)
    → Waiting x g request call line now left s → any_lives s.nodes s.history ≡ true
waiting_lives x g request call line now left s h = any_two x _ _ _ _ s h.two

-- the pieces of what is served
reply_pieces : (g : Handlers) (request reply : List ℕ) → served_for g request ≡ bytes reply
    → served_pieces (served_for g request) ≡ total reply
reply_pieces g request reply is = ap served_pieces is

-- ---- the sum

module _ (x : Ends) (g : Handlers) (fits : FitsEnds x) (apart : AreApart x) (request : List ℕ) (call line : ℕ)
    (small : total request ≤ 1000000) (are_bytes : IsBytes request)
    (coded : (code : ℤ) → served_for g request ≡ refusal code → code ≢ pos 0) where
  abbrev replied : ℕ
  replied = served_pieces (served_for g request)

  -- a handler that waits
  pub waiting_ends : (left now turns : ℕ) (s t : Stage) → now + 2000 * left < 2 ^ 62 → turns + 4 * replied + 3 ≤ left
      → Waiting x g request call line now turns s → Made (rounds g left) s t → HasCome x g request call line t
  waiting_ends zero now turns s t early enough h made = absurd (omega arith)
  waiting_ends (suc left) now turns s t early enough h made =
      let m = rounds_more g left s t made.0 (waiting_lives x g request call line now turns s h) made.1 in
      by m.behind m.others
      (λ now2 turns2 soon more h2. waiting_ends left now2 turns2 m.behind t soon more h2 m.others)
      (waiting_next x g fits apart request call line small coded now turns s m.behind h m.first (omega arith))
    where
      by : (u : Stage) → Made (rounds g left) u t
          → ((now2 turns2 : ℕ) → now2 + 2000 * left < 2 ^ 62 → turns2 + 4 * replied + 3 ≤ left
          → Waiting x g request call line now2 turns2 u → HasCome x g request call line t)
          → WaitingNext x g request call line now turns u → HasCome x g request call line t
      by u others again (waits_less now2 turns2 from far less h2) = again now2 turns2 (omega arith) (omega arith) h2
      by u others again (then_replies reply r) =
          let is : replied ≡ total reply = reply_pieces g request reply r.served in
          let some : 1 ≤ turns = h.some in
          replying_ends x g fits apart request call line (omega arith) left now 0 0 3 reply u t (omega arith)
          (omega arith)
          r others
      by u others again (then_refuses code r) =
          let some : 1 ≤ turns = h.some in
          refusing_ends x g fits apart request call line (omega arith) left now code u t (omega arith) r others

  -- a request that comes
  pub arriving_ends : (left now a n q : ℕ) (s t : Stage) → now + 2000 * left < 2 ^ 62 → 1 ≤ n
      → 4 * total request + q + (wait_of g request + 4 * replied + 3) ≤ left + 2 * (a + n)
      → Arriving x g request call line now a n q s → Made (rounds g left) s t → HasCome x g request call line t
  arriving_ends zero now a n q s t early known enough h made =
      absurd (let short : n < total request = h.reads.short in let low : a ≤ n = h.up.known in omega arith)
  arriving_ends (suc left) now a n q s t early known enough h made =
      let m = rounds_more g left s t made.0 (arriving_lives x g request call line now a n q s h) made.1 in
      by m.behind m.others
      (λ now2 a2 n2 q2 soon some more h2. arriving_ends left now2 a2 n2 q2 m.behind t soon some more h2 m.others)
      (next m.behind m.first h.server h.jobs h.serving h.two)
    where
      short : n < total request
      short = h.reads.short

      low : a ≤ n
      low = h.up.known

      next : (u : Stage) → RoundMade g s u → (ls : Looks) (js : _) → Serving x g request now n h.ks ls js
          → Two x ls (client_at x h.given h.used [] now h.kc)
          (caller_at call line (caller_with x h.offering h.shut [] h.phase) ∷ []) js s
          → ArrivingNext x g request call line now a n q u
      next u first ls js (not_yet none is) two = absurd (omega arith)
      next u first ls js (at_work given used some) two =
          arriving_next x g fits apart request call line small are_bytes coded now a n q s u h given used some two first
          (omega arith)

      by : (u : Stage) → Made (rounds g left) u t
          → ((now2 a2 n2 q2 : ℕ) → now2 + 2000 * left < 2 ^ 62 → 1 ≤ n2
          → 4 * total request + q2 + (wait_of g request + 4 * replied + 3) ≤ left + 2 * (a2 + n2)
          → Arriving x g request call line now2 a2 n2 q2 u → HasCome x g request call line t)
          → ArrivingNext x g request call line now a n q u → HasCome x g request call line t
      by u others again (comes_on now2 a2 n2 q2 from far further h2) =
          again now2 a2 n2 q2 (omega arith) (some_given h2 further) (omega arith) h2
        where
          some_given : Arriving x g request call line now2 a2 n2 q2 u → 2 * (a + n) + q2 + 1 ≤ 2 * (a2 + n2) + q
              → 1 ≤ n2
          some_given h3 more = (let ready : q ≤ 1 = h.ready in let known2 : a2 ≤ n2 = h3.up.known in omega arith)
      by u others again (waits_now h2) =
          waiting_ends left now (wait_of g request) u t (omega arith) (omega arith) h2 others
      by u others again (replies_now reply r) =
          let is : replied ≡ total reply = reply_pieces g request reply r.served in
          replying_ends x g fits apart request call line (omega arith) left now 0 0 3 reply u t (omega arith)
          (omega arith)
          r others
      by u others again (refuses_now code r) =
          refusing_ends x g fits apart request call line (omega arith) left now code u t (omega arith) r others

  -- behind the first pieces
  pub turns_end : (left now a n : ℕ) (s t : Stage) → now + 2000 * left < 2 ^ 62 → 1 ≤ n
      → 4 * total request + 1 + (wait_of g request + 4 * replied + 3) ≤ left
      → TurnsNext x g request call line now a n s → Made (rounds g left) s t → HasCome x g request call line t
  turns_end left now a n s t early known enough (reads_more h) made =
      arriving_ends left now a n 1 s t early known (omega arith) h made
  turns_end left now a n s t early known enough (waits_next h) made =
      waiting_ends left now (wait_of g request) s t early (omega arith) h made
  turns_end left now a n s t early known enough (replies_next reply r) made =
      let is : replied ≡ total reply = reply_pieces g request reply r.served in
      replying_ends x g fits apart request call line (omega arith) left now 0 0 3 reply s t early (omega arith) r made
  turns_end left now a n s t early known enough (refuses_next code r) made =
      refusing_ends x g fits apart request call line (omega arith) left now code s t (omega arith) r made
