-- A window and what it stands for: what its numbers say, and the step of a packet that is used.
use Rattle.std.proofs.Common.{◌≡◌, inl, inr, ◌<◌, ◌≤◌, ◌+◌, ◌-◌, ◌||◌, ◌==◌, nat_lt, nat_le}
use Rattle.std.proofs.Common.{cond, is_some, Bool, true, false, ℕ, suc, List, [], ◌∷◌, ◌++◌, length}
use Rattle.std.proofs.Common.{drop, Option, Some, None, refl, sym, ap, ◌∙◌, arith, length-append}
use Rattle.std.proofs.lemmas.Bool.{cases_lt, cases_eq, false≢true}
use Rattle.std.proofs.lemmas.Bool.Decides.{nat_tests}
use Rattle.std.proofs.lemmas.List.{length-drop}
use Rattle.rx_rules.specs.Received.{Piece, Packet, Received, packet_at, payload_of, front_of}
use Rattle.rx_rules.specs.Received.{end_of, is_done, is_done_by, used_of, count_above}
use Rattle.rx_rules.proofs.PacketLaws.{front_only, used_only, done_kept}
use Rattle.rx_recvwin.specs.Places.{place_at, leading, count_in, is_place_done}
use Rattle.rx_recvwin.specs.Window.{Window, Near, StandsFor, IsOnce, after_use}
use Rattle.rx_recvwin.proofs.PlaceLaws.{leading_all, leading_stops, place_next, count_turned}

count_past : (kept : List Packet) (u : ℕ) → packet_at kept (suc u) ≡ None →
    count_above u kept ≡ count_above (suc u) kept
count_past [] u none = refl
count_past (p ∷ ps) u none =
    elim (cases_eq p.seq (suc u)) as (λ _. count_above u (p ∷ ps) ≡ count_above (suc u) (p ∷ ps)) [
      | inl e ↦ absurd (
          let test : (p.seq == suc u) ≡ true = grind (arith, nat_tests, e) in
          let there : packet_at (p ∷ ps) (suc u) ≡ Some p.piece = rw test refl in
          false≢true (ap is_some (sym none ∙ there)))
      | inr apart ↦ (
          let test : (p.seq == suc u) ≡ false = grind (arith, nat_tests, apart) in
          let rest : packet_at ps (suc u) ≡ None = rw test at none in
          let same : nat_lt u p.seq ≡ nat_lt (suc u) p.seq = grind (arith, nat_tests, apart) in
          let fewer = count_past ps u rest in
          λ i. cond (same i) (suc (fewer i)) (fewer i))
    ]

-- one packet fewer lies above the next seq
pub count_step : (kept : List Packet) (u : ℕ) → IsOnce kept → is_some (packet_at kept (suc u)) ≡ true →
    count_above u kept ≡ suc (count_above (suc u) kept)
count_step [] u once h = absurd (false≢true h)
count_step (p ∷ ps) u once h =
    elim (cases_eq p.seq (suc u)) as (λ _. count_above u (p ∷ ps) ≡ suc (count_above (suc u) (p ∷ ps))) [
      | inl e ↦ (
          let above : nat_lt u p.seq ≡ true = grind (arith, nat_tests, e) in
          let under : nat_lt (suc u) p.seq ≡ false = grind (arith, nat_tests, e) in
          let rest = count_past ps u (ap (packet_at ps) (sym e) ∙ once.0) in
          rw (above, under) (ap suc rest))
      | inr apart ↦ (
          let test : (p.seq == suc u) ≡ false = grind (arith, nat_tests, apart) in
          let there : is_some (packet_at ps (suc u)) ≡ true = rw test at h in
          let rest = count_step ps u once.1 there in
          let same : nat_lt u p.seq ≡ nat_lt (suc u) p.seq = grind (arith, nat_tests, apart) in
          ap (λ b. cond b (suc (count_above u ps)) (count_above u ps)) same
          ∙ (elim (nat_lt (suc u) p.seq) as (λ b. cond b (suc (count_above u ps)) (count_above u ps)
          ≡ suc (cond b (suc (count_above (suc u) ps)) (count_above (suc u) ps))) [
            | true ↦ ap suc rest
            | false ↦ rest
          ]))
    ]

-- the first place has the packet behind `used`
pub first_is : (w : Window) (d : Received) → Near w d → place_at w.ahead 0 ≡ packet_at d.kept (suc w.used)
first_is w d near = near.ahead 0 ∙ ap (λ k. packet_at d.kept (suc k)) (omega arith)

done_of : (o : Option Piece) (before offset read : ℕ) (ended : Bool) → before + offset ≡ read →
    is_place_done o offset ended ≡ is_done_by ended (before + length (payload_of o)) read o
done_of None before offset read ended h = refl
done_of (Some b) before offset read ended h =
    elim b.last as (λ t. cond t ended (nat_le (length b.payload) offset)
    ≡ cond t ended (nat_le (before + length b.payload) read)) [
      | true ↦ refl
      | false ↦ grind (arith, nat_tests, h)
    ]

-- the code's test is the model's
pub done_is : (w : Window) (d : Received) → Near w d →
    is_place_done (place_at w.ahead 0) w.offset w.ended ≡ is_done d (suc w.used)
done_is w d near =
    let o = packet_at d.kept (suc w.used) in
    let first = first_is w d near in
    (λ i. is_place_done (first i) w.offset (near.ended i))
    ∙ done_of o (end_of d.kept w.used) w.offset (length d.read) d.ended near.offset

pub used_is : (w : Window) (d : Received) → StandsFor w d → used_of d ≡ w.used
used_is w d s = used_only d w.used s.near.done s.stops

pub front_is : (w : Window) (d : Received) → Near w d → front_of d.kept ≡ w.used + leading w.ahead
front_is w d near =
    front_only d.kept (w.used + leading w.ahead)
    (λ k lt. elim (cases_lt k w.used) as (λ _. is_some (packet_at d.kept (suc k)) ≡ true) [
      | inl below ↦ done_kept d (suc k) (near.done k below)
      | inr le ↦ (
          let back : w.used + (k - w.used) ≡ k = omega (arith, le) in
          ap (λ j. is_some (packet_at d.kept (suc j))) (sym back) ∙ ap is_some (sym (near.ahead (k - w.used)))
          ∙ leading_all w.ahead (k - w.used) (omega (arith, lt, le)))
    ])
    (ap is_some (sym (near.ahead (leading w.ahead)) ∙ leading_stops w.ahead))

-- ---- the first place is done with

turned : (bs : List (Option Piece)) (width : ℕ) → length bs ≡ width → 0 < width →
    length (drop 1 bs ++ None ∷ []) ≡ width
turned bs width h some = length-append (drop 1 bs) (None ∷ []) ∙ omega (arith, h, some, length-drop 1 bs)

pub is_none : (o : Option Piece) → is_some o ≡ false → o ≡ None
is_none None h = refl
is_none (Some b) h = absurd cc

pub or_false : (a b : Bool) → (a || b) ≡ false → (a ≡ false) × (b ≡ false)
or_false true b h = absurd cc
or_false false b h = (refl, h)

offset_is : (w : Window) (d : Received) → Near w d → is_place_done (place_at w.ahead 0) w.offset w.ended ≡ true →
    w.offset ≡ length (payload_of (packet_at d.kept (suc w.used)))
offset_is w d near h =
    let done : is_done d (suc w.used) ≡ true = sym (done_is w d near) ∙ h in
    let before = near.offset in
    let start = end_of d.kept w.used in
    let read = length d.read in
    (elim (packet_at d.kept (suc w.used)) as (λ o. packet_at d.kept (suc w.used) ≡ o →
    is_done_by d.ended (start + length (payload_of o)) read o ≡ true →
    w.offset ≤ length (payload_of o) → w.offset ≡ length (payload_of o)) [
      | None ↦ λ e t s. absurd (false≢true t)
      | Some b ↦ λ e t s. (
          (elim b.last as (λ l. b.last ≡ l → cond l d.ended (nat_le (start + length b.payload) read) ≡ true →
          w.offset ≡ length b.payload) [
            | true ↦ λ last t. (
                let over = near.sound.over t in
                let at = near.sound.marked (suc w.used) b e last in
                let all : read ≡ end_of d.kept (suc w.used) = over.read ∙ ap (end_of d.kept) (over.front ∙ sym at.0) in
                let total : end_of d.kept (suc w.used) ≡ start + length b.payload = (
                ap (λ o. start + length (payload_of o)) e) in
                omega (arith, all, total, before))
            | false ↦ λ last t. (
                let le : start + length b.payload ≤ read = grind (arith, nat_tests, t) in
                omega (arith, le, before, s))
          ]) refl t)
    ]) refl done near.short

pub step_near : (w : Window) (d : Received) → Near w d → is_place_done (place_at w.ahead 0) w.offset w.ended ≡ true →
    Near (after_use w) d
step_near w d near h =
    let next : w.used + 1 ≡ suc w.used = omega arith in
    let at = offset_is w d near h in
    let before = near.offset in
    let ends : end_of d.kept (w.used + 1) ≡ end_of d.kept w.used + length (payload_of (packet_at d.kept (suc w.used))) =
    (
    ap (end_of d.kept) next) in
    let within = near.within in
    let kept : is_some (packet_at d.kept (suc w.used)) ≡ true = done_kept d (suc w.used) (sym (done_is w d near) ∙ h) in
    let counted = count_turned w.ahead (ap is_some (first_is w d near) ∙ kept) in
    let less = count_step d.kept w.used near.sound.once kept in
    let fewer : count_above (w.used + 1) d.kept ≡ count_above (suc w.used) d.kept = (
    ap (λ k. count_above k d.kept) next) in
    record {
      sound = near.sound;
      done = λ k lt. elim (cases_eq k w.used) as (λ _. is_done d (suc k) ≡ true) [
        | inl e ↦ ap (λ j. is_done d (suc j)) e ∙ sym (done_is w d near) ∙ h
        | inr apart ↦ near.done k (omega (arith, lt, apart))
      ];
      some = near.some;
      size = turned w.ahead w.width near.size near.some;
      ahead = λ i. place_next w.ahead i ∙ near.ahead (suc i) ∙ ap (λ k. packet_at d.kept (suc k)) (omega arith);
      within = omega (arith, within);
      count = omega (arith, counted, less, near.count, fewer);
      offset = omega (arith, ends, at, before);
      short = omega arith;
      marked = near.marked;
      greatest = near.greatest;
      ended = near.ended;
      previous = near.previous;
    }

-- ---- what a window tells

pub held_is : (w : Window) (d : Received) → StandsFor w d → count_in w.ahead ≡ count_above (used_of d) d.kept
held_is w d s = s.near.count ∙ ap (λ u. count_above u d.kept) (sym (used_is w d s))

pub lead_is : (w : Window) (d : Received) → StandsFor w d →
    nat_lt w.used (w.used + leading w.ahead) ≡ nat_lt (used_of d) (front_of d.kept)
lead_is w d s = λ i. nat_lt (sym (used_is w d s) i) (sym (front_is w d s.near) i)
