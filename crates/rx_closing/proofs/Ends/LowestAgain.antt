-- The lowest piece that a sender doesn't know to be there, as it comes again: where it is there already it is a repeat,
-- and where it isn't the front rises.
use Rattle.std.proofs.Common.{◌≡◌, ◌<◌, ◌≤◌, ◌-◌, if◌then◌else◌, is_some, nat_le, nat_lt, ℕ, suc, Bool, true, false}
use Rattle.std.proofs.Common.{List, refl, ap, sym, subst, ◌∙◌, inl, inr, ⊎_elim, arith}
use Rattle.std.proofs.lemmas.Bool.{cases_lt, le-leb, leb-true, or_cases, or_from, or_left, or_parts, or_right}
use Rattle.rx_model.specs.declared.answers.Took.{Took}
use Rattle.rx_model.specs.declared.answers.Took.TheVariants as tooks
use Rattle.rx_model.specs.Body.{Body}
use Rattle.rx_model.specs.Body as bodies
use Rattle.rx_model.specs.Message.{Message}
use Rattle.rx_rules.specs.CallLooks.{CallLooks, NodeView, after_body, after_chunk, after_data, after_taken, call_row}
use Rattle.rx_rules.specs.CallLooks.{found, has_lead}
use Rattle.rx_rules.specs.Received.{Received, front_of, greatest, packet_at, reach, used_of}
use Rattle.rx_rules.specs.Sent.{Sent, given_of, is_acked, is_marked, lowest_of, with_window}
use Rattle.rx_rules.specs.Setup.{Setup}
use Rattle.rx_rules.proofs.PacketLaws.{kept_within}
use Rattle.rx_between.specs.Acknowledged.{AreTrue}
use Rattle.rx_between.specs.Agreed.{MakesSense}
use Rattle.rx_between.specs.Told.{Grows}
use Rattle.rx_between.proofs.Counting.{reach_least, reach_passes, reach_short}
use Rattle.rx_between.proofs.Grows.{grows_on, grows_same, taken_grows}
use Rattle.rx_between.proofs.Marks.{used_kept}
use Rattle.rx_progress.proofs.Lowest.{moves}
use Rattle.rx_closing.proofs.Steps.{TakesIn, takes_none, takes_one}
use Rattle.rx_rules.proofs.ReachLaws.{reach_stops, reach_within}
use Rattle.rx_between.proofs.GivenSeqs.{taken_givings}

-- ---- fronts

-- it goes no further back
pub front_grows : (a b : Received) → Grows a b → front_of a.kept ≤ front_of b.kept
front_grows a b grows =
    let all : (j : ℕ) → 1 ≤ j → j ≤ front_of a.kept → is_some (packet_at b.kept j) ≡ true =
    λ j from to. grows.kept j (reach_passes (λ i. is_some (packet_at a.kept i)) (greatest_of a) j from to) in
    let within : front_of a.kept ≤ greatest_of b =
    elim (cases_lt 0 (front_of a.kept)) as (λ e. front_of a.kept ≤ greatest_of b) [
      | inl some ↦ kept_within b.kept (front_of a.kept) (all (front_of a.kept) some (omega arith))
      | inr none ↦ omega arith
    ] in
    reach_least (λ j. is_some (packet_at b.kept j)) (greatest_of b) (front_of a.kept) within all
  where
    greatest_of : Received → ℕ
    greatest_of r = greatest r.kept

-- what messages leave of it
pub takes_grow : (t : Setup) (now : ℕ) (k : CallLooks) (ms : List Message) (f : CallLooks) → TakesIn t now k ms f
    → Grows k.received f.received
takes_grow t now k ms f (takes_none i) = grows_same i.received
takes_grow t now k ms f (takes_one i g m ns v got view row sense rest) =
    grows_on i.received (after_taken v got m i).received g.received (taken_grows v got m i row)
    (takes_grow t now (after_taken v got m i) ns g rest)

-- ---- what was given stays given

body-givings : (now : ℕ) (m : Message) (body : Body) (k : CallLooks)
    → (after_body now m body k).sent.givings ≡ k.sent.givings
body-givings now m (bodies.Ack a) k = of (nat_lt (a.first - 1) k.sent.acked)
  where
    of : (b : Bool) → (if b then k.sent else record k.sent {
      acked = a.first - 1;
      soft = is_marked a.first a.marks;
      peer_window = with_window a.window k.sent.peer_window;
    }).givings ≡ k.sent.givings
    of true = refl
    of false = refl
body-givings now m bodies.AckAll k = refl
body-givings now m _ k = refl

-- by all messages of a round
pub takes_givings : (t : Setup) (now : ℕ) (k : CallLooks) (ms : List Message) (f : CallLooks) → TakesIn t now k ms f
    → f.sent.givings ≡ k.sent.givings
takes_givings t now k ms f (takes_none i) = refl
takes_givings t now k ms f (takes_one i g m ns v got view row sense rest) =
    takes_givings t now (after_taken v got m i) ns g rest ∙ taken_givings v got m i

-- ---- the row of a piece that is there

repeat-by : (strange again : Bool) (rest : Took)
    → MakesSense (if strange then tooks.Strange else if again then tooks.Repeat else rest) → again ≡ true
    → (if strange then tooks.Strange else if again then tooks.Repeat else rest) ≡ tooks.Repeat
repeat-by true again rest sense is = absurd sense
repeat-by false true rest sense is = refl
repeat-by false false rest sense is = absurd cc

pub repeat_row : (v : NodeView) (m : Message) (payload : List ℕ) (k : CallLooks)
    → is_some (packet_at k.received.kept m.seq) ≡ true → MakesSense (call_row v m (bodies.Chunk payload) k)
    → call_row v m (bodies.Chunk payload) k ≡ tooks.Repeat
repeat_row v m payload k there sense =
    repeat-by _ _ _ sense (or_right (nat_le m.seq (used_of k.received))
    (is_some (packet_at k.received.kept m.seq)) there)

-- behind it
pub repeated : (v : NodeView) (got : Took) (m : Message) (payload : List ℕ) (k : CallLooks)
    → m.body ≡ bodies.Chunk payload
    → got ≡ tooks.Repeat → after_taken v got m k ≡ after_data tooks.Repeat v.now m payload (found v.client k)
repeated v got m payload k chunk is =
    ap (λ (t : Took). after_taken v t m k) is ∙ ap (λ (b : Body). after_chunk v tooks.Repeat m b k) chunk

-- ---- the lowest piece that isn't there

-- a sender that knows all that its receiver is done with
abbrev knowing : Sent → Received → Sent
knowing sent r = record sent { acked = used_of r }

lowest-known : (sent : Sent) (r : Received) → sent.acked ≤ used_of r → lowest_of sent ≤ given_of sent
    → is_some (packet_at r.kept (lowest_of sent)) ≡ false → lowest_of (knowing sent r) ≡ lowest_of sent
lowest-known sent r hard given away =
    (let far : ℕ = reach (is_acked sent) (given_of sent) in
    let open_ = or_parts (nat_le (lowest_of sent) sent.acked) (sent.soft (lowest_of sent))
    (reach_stops (is_acked sent) (given_of sent) given) in
    let above : used_of r < lowest_of sent =
    elim (cases_lt (used_of r) (lowest_of sent)) as (λ e. used_of r < lowest_of sent) [
      | inl after ↦ after
      | inr within ↦ absurd (let there = used_kept r (lowest_of sent) (omega arith) within in cc (there, away))
    ] in
    let fails : is_acked (knowing sent r) (lowest_of sent) ≡ false =
    or_from (nat_le (lowest_of sent) (used_of r)) (sent.soft (lowest_of sent))
    (not-below (lowest_of sent) (used_of r) above)
    open_.1 in
    let short = reach_short (is_acked (knowing sent r)) (given_of sent) (lowest_of sent) (omega arith) fails in
    let wide = reach_least (is_acked (knowing sent r)) (given_of sent) far
    (reach_within (is_acked sent) (given_of sent))
    (λ j from to. more j (reach_passes (is_acked sent) (given_of sent) j from to)) in
    let same : reach (is_acked (knowing sent r)) (given_of sent) ≡ far = omega (arith, short, wide) in
    ap (λ (n : ℕ). suc n) same)
  where
    not-below : (n u : ℕ) → u < n → nat_le n u ≡ false
    not-below n u above = of (nat_le n u) refl
      where
        of : (b : Bool) → nat_le n u ≡ b → b ≡ false
        of true is = absurd (let low = leb-true n u is in omega arith)
        of false is = refl

    more : (j : ℕ) → is_acked sent j ≡ true → is_acked (knowing sent r) j ≡ true
    more j acked =
        ⊎_elim
        (λ (low : nat_le j sent.acked ≡ true). or_left (nat_le j (used_of r)) (sent.soft j)
        (le-leb j (used_of r) (let within = leb-true j sent.acked low in omega arith)))
        (λ (soft : sent.soft j ≡ true). or_right (nat_le j (used_of r)) (sent.soft j) soft)
        (or_cases (nat_le j sent.acked) (sent.soft j) acked)

module _ (sent : Sent) (v : NodeView) (got : Took) (m : Message) (payload : List ℕ) (k : CallLooks) where
  -- it makes the front rise
  pub away_moves : AreTrue sent k.received → m.body ≡ bodies.Chunk payload → m.seq ≡ lowest_of sent
      → lowest_of sent ≤ given_of sent → used_of k.received ≡ front_of k.received.kept
      → has_lead (found v.client k) ≡ false → is_some (packet_at k.received.kept (lowest_of sent)) ≡ false
      → call_row v m m.body k ≡ got → MakesSense got
      → front_of k.received.kept < front_of (after_taken v got m k).received.kept
  away_moves truth chunk seq given drained leadless away row sense =
      ⊎_elim
      (λ (up : front_of k.received.kept < front_of (after_taken v (call_row v m m.body k) m k).received.kept).
      subst (λ (t : Took). front_of k.received.kept < front_of (after_taken v t m k).received.kept) row up)
      (λ (less : used_of k.received < used_of k.received). absurd (omega arith))
      (moves (knowing sent k.received) v m payload k
      (record { hard = omega arith; soft = truth.soft }) chunk
      (let hard = truth.hard in seq ∙ sym (lowest-known sent k.received hard given away))
      (let hard = truth.hard in let same = lowest-known sent k.received hard given away in omega (arith, same, given))
      drained (λ none. leadless) (subst MakesSense (sym row) sense))
