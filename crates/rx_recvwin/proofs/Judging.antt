-- The row of a data packet, as the window finds it.
use Rattle.std.proofs.Common.{◌≡◌, inl, inr, ◌<◌, ◌≤◌, ◌+◌, ◌-◌, ◌^◌, ◌&&◌, ◌||◌, ◌==◌, nat_lt, nat_le, cond}
use Rattle.std.proofs.Common.{is_some, map, Bool, true, false, ℕ, suc, Option}
use Rattle.std.proofs.Common.{Some}
use Rattle.std.proofs.Common.{None, refl, sym, ap, ◌∙◌, arith}
use Rattle.std.proofs.lemmas.Bool.{cases_lt}
use Rattle.std.proofs.lemmas.Bool.Decides.{nat_tests}
use Rattle.rx_model.specs.declared.wire.TheConstants.{LAST_SEQ}
use Rattle.rx_model.specs.declared.answers.Took.TheVariants as tooks
use Rattle.rx_rules.specs.Received.{Packet, Received, packet_at, greatest, last_seq, front_of}
use Rattle.rx_rules.specs.Received.{is_no_seq, used_of, Arrival, is_above, has_slot}
use Rattle.rx_rules.specs.Received.{arrival_row}
use Rattle.rx_rules.specs.Received.{arrival_of}
use Rattle.rx_pool.specs.Pool.{Slots}
use Rattle.rx_recvwin.specs.Places.{place_at, leading, seen_at}
use Rattle.rx_recvwin.specs.Window.{RecvWindow, Window, window_of, StandsFor, arrival_at}
use Rattle.rx_recvwin.specs.Window.{slot_behind}
use Rattle.rx_recvwin.proofs.SlotLaws.{place_seen, some_seen}
use Rattle.rx_recvwin.proofs.SlotLaws.{leading_seen}
use Rattle.rx_recvwin.proofs.Nearness.{used_is, front_is, or_false}
use Rattle.rx_recvwin.proofs.Arriving.{CanCome}

-- ---- the judgement

-- what decides the row of a packet, over what is seen
abbrev pub arrival_in : Window → Bool → ℕ → Bool → Arrival
arrival_in w slot seq last =
    record {
      is_strange = is_no_seq seq;
      is_repeat = nat_le seq w.used || is_some (place_at w.ahead (seq - suc w.used));
      is_beyond = nat_lt (w.used + w.width) seq;
      is_clash = is_above w.last seq || (last && nat_lt seq w.greatest);
      has_slot = slot;
    }

pub arrival_seen : (pool : Slots) (w : RecvWindow) (slot : Bool) (seq : ℕ) (last : Bool) →
    arrival_at w slot seq last ≡ arrival_in (window_of pool w) slot seq last
arrival_seen pool w slot seq last =
    let j = seq - suc w.used in
    let some : is_some (place_at w.places j) ≡ is_some (place_at (map (seen_at pool) w.places) j) = (
    sym (ap is_some (place_seen pool w.places j) ∙ some_seen pool (place_at w.places j))) in
    λ i. record {
      is_strange = is_no_seq seq;
      is_repeat = nat_le seq w.used || some i;
      is_beyond = nat_lt (w.used + w.width) seq;
      is_clash = is_above w.last seq || (last && nat_lt seq w.greatest);
      has_slot = slot;
    }

pub arrival_is : (w : Window) (d : Received) (slot : Bool) (p : Packet) → StandsFor w d →
    arrival_in w slot p.seq p.piece.last ≡ arrival_of w.width slot p d
arrival_is w d slot p s =
    let seq = p.seq in
    let j = seq - suc w.used in
    let used = used_is w d s in
    let repeat : (nat_le seq w.used || is_some (place_at w.ahead j))
    ≡ (nat_le seq (used_of d) || is_some (packet_at d.kept seq)) = (
    elim (cases_lt w.used seq) as (λ _. (nat_le seq w.used || is_some (place_at w.ahead j))
    ≡ (nat_le seq (used_of d) || is_some (packet_at d.kept seq))) [
      | inl lt ↦ (
          let back : suc (w.used + j) ≡ seq = omega (arith, lt) in
          let same : place_at w.ahead j ≡ packet_at d.kept seq = s.near.ahead j ∙ ap (packet_at d.kept) back in
          λ i. nat_le seq (sym used i) || is_some (same i))
      | inr le ↦ (
          let one : nat_le seq w.used ≡ true = grind (arith, nat_tests, le) in
          let two : nat_le seq (used_of d) ≡ true = ap (nat_le seq) used ∙ one in
          rw (one, two) refl)
    ]) in
    λ i. record {
      is_strange = is_no_seq seq;
      is_repeat = repeat i;
      is_beyond = nat_lt (sym used i + w.width) seq;
      is_clash = is_above (s.near.marked i) seq || (p.piece.last && nat_lt seq (s.near.greatest i));
      has_slot = slot;
    }

-- the slot that the window finds is the rules'
pub slot_is : (pool : Slots) (w : RecvWindow) (d : Received) (leadless : Bool) (left seq : ℕ) →
    StandsFor (window_of pool w) d →
    slot_behind leadless left seq (w.used + leading w.places) ≡ has_slot leadless left seq d
slot_is pool w d leadless left seq s =
    let front : w.used + leading w.places ≡ front_of d.kept = (
    ap (λ n. w.used + n) (sym (leading_seen pool w.places)) ∙ sym (front_is (window_of pool w) d s.near)) in
    ap (slot_behind leadless left seq) front

-- what a packet that is kept isn't
pub record IsKeptRow (a : Arrival) : Type 0 where
  pub strange : a.is_strange ≡ false
  pub repeat : a.is_repeat ≡ false
  pub beyond : a.is_beyond ≡ false
  pub clash : a.is_clash ≡ false
  pub slot : a.has_slot ≡ true

row_kept : (s r b c h : Bool) →
    cond s tooks.Strange (cond r tooks.Repeat (cond b tooks.Beyond
    (cond c tooks.Clash (cond h tooks.Kept tooks.NoSlot))))
    ≡ tooks.Kept → ((s ≡ false) × (r ≡ false)) × ((b ≡ false) × (c ≡ false)) × (h ≡ true)
row_kept true r b c h e = absurd cc
row_kept false true b c h e = absurd cc
row_kept false false true c h e = absurd cc
row_kept false false false true h e = absurd cc
row_kept false false false false false e = absurd cc
row_kept false false false false true e = ((refl, refl), (refl, refl), refl)

pub kept_row : (a : Arrival) → arrival_row a ≡ tooks.Kept → IsKeptRow a
kept_row a e =
    let rows = row_kept a.is_strange a.is_repeat a.is_beyond a.is_clash a.has_slot e in
    record { strange = rows.0.0; repeat = rows.0.1; beyond = rows.1.0; clash = rows.1.1; slot = rows.2 }

-- where a packet that is kept goes
pub record HasPlace (w : RecvWindow) (seq : ℕ) : Type 0 where
  pub above : w.used < seq
  pub within : seq ≤ w.used + w.width
  pub fits : seq < 2 ^ 32 - 1
  pub empty : place_at w.places (seq - suc w.used) ≡ None

none_of : {X : Type 0} (o : Option X) → is_some o ≡ false → o ≡ None
none_of None h = refl
none_of (Some x) h = absurd cc

pub has_place : (w : RecvWindow) (slot : Bool) (seq : ℕ) (last : Bool) →
    arrival_row (arrival_at w slot seq last) ≡ tooks.Kept → HasPlace w seq
has_place w slot seq last e =
    let row = kept_row (arrival_at w slot seq last) e in
    let strange = or_false (seq == 0) (nat_lt LAST_SEQ seq) row.strange in
    let repeat = or_false (nat_le seq w.used) (is_some (place_at w.places (seq - suc w.used))) row.repeat in
    let top : nat_lt LAST_SEQ seq ≡ false = strange.1 in
    let used : nat_le seq w.used ≡ false = repeat.0 in
    let beyond : nat_lt (w.used + w.width) seq ≡ false = row.beyond in
    record {
      above = grind (arith, nat_tests, used);
      within = grind (arith, nat_tests, beyond);
      fits = grind (arith, nat_tests, top);
      empty = none_of (place_at w.places (seq - suc w.used)) repeat.1;
    }

pub can_come : (w : Window) (d : Received) (slot : Bool) (p : Packet) → StandsFor w d → w.used < p.seq →
    p.seq ≤ w.used + w.width → p.seq < 2 ^ 32 - 1 → arrival_row (arrival_in w slot p.seq p.piece.last) ≡ tooks.Kept →
    CanCome w d p
can_come w d slot p s above within fits h =
    let row = kept_row (arrival_of w.width slot p d) (ap arrival_row (sym (arrival_is w d slot p s)) ∙ h) in
    let clash = (
    or_false (is_above (last_seq d.kept) p.seq) (p.piece.last && nat_lt p.seq (greatest d.kept)) row.clash) in
    record {
      above = above;
      within = within;
      fits = fits;
      new = (or_false (nat_le p.seq (used_of d)) (is_some (packet_at d.kept p.seq)) row.repeat).1;
      before = clash.0;
      after = λ l. (let t : nat_lt p.seq (greatest d.kept) ≡ false = (rw l at clash.1) in grind (arith, nat_tests, t));
    }
