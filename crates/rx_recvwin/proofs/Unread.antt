-- The bytes that no read gave yet.
use Rattle.std.proofs.Common.{◌≡◌, inl, inr, ◌<◌, ◌≤◌, ◌+◌, nat_le, cond, is_some, Bool, true, false, ℕ, suc}
use Rattle.std.proofs.Common.{List, [], ◌++◌, length, drop, Option, Some, None, refl, sym, ap}
use Rattle.std.proofs.Common.{◌∙◌, arith, append_assoc, length-append}
use Rattle.std.proofs.lemmas.Bool.{cases_lt, false≢true}
use Rattle.std.proofs.lemmas.Bool.Decides.{nat_tests}
use Rattle.std.proofs.lemmas.List.{append-nil, length-drop, drop-append-le}
use Rattle.rx_rules.specs.Received.{Piece, Packet, Received, packet_at, payload_of, greatest, front_of}
use Rattle.rx_rules.specs.Received.{bytes_to, end_of, heard_of, is_done_by, unread_of, is_within}
use Rattle.rx_recvwin.specs.Window.{Window, Near, StandsFor}
use Rattle.rx_rules.proofs.PacketLaws.{front_stops, front_only, done_kept, bytes_split, above_greatest, end_is}
use Rattle.rx_rules.proofs.ReachLaws.{reach_within}
use Rattle.rx_recvwin.proofs.Nearness.{front_is}
use Rattle.rx_recvwin.proofs.ReadLists.{drop_more_at, past}

-- ---- the unread bytes

no_payload : (o : Option Piece) → is_some o ≡ false → payload_of o ≡ []
no_payload None h = refl
no_payload (Some b) h = absurd cc

pub front_most : (kept : List Packet) → front_of kept ≤ greatest kept
front_most kept = reach_within (λ k. is_some (packet_at kept k)) (greatest kept)

pub within_last : (l : Option ℕ) (front : ℕ) → is_within l front ≡ true → (m : ℕ) × (l ≡ Some m) × (m ≤ front)
within_last None front h = absurd (false≢true h)
within_last (Some m) front h = (m, refl, grind (arith, nat_tests, h))

pub done_ended : (o : Option Piece) (ended : Bool) (end read : ℕ) → is_done_by ended end read o ≡ true →
    is_done_by true end read o ≡ true
done_ended None ended end read h = h
done_ended (Some b) ended end read h =
    (elim b.last as (λ l. cond l ended (nat_le end read) ≡ true → cond l true (nat_le end read) ≡ true) [
      | true ↦ λ h. refl
      | false ↦ λ h. h
    ]) h

-- no more was read than was heard
pub read_most : (w : Window) (d : Received) → Near w d → length d.read ≤ end_of d.kept (front_of d.kept)
read_most w d near =
    let before = near.offset in
    let short = near.short in
    let front = front_is w d near in
    elim (cases_lt w.used (front_of d.kept)) as (λ _. length d.read ≤ end_of d.kept (front_of d.kept)) [
      | inl lt ↦ (
          let split = bytes_split d.kept (suc w.used) (front_of d.kept) (omega (arith, lt)) in
          let size : end_of d.kept (front_of d.kept) ≡ end_of d.kept (suc w.used) + length split.0 = (
          end_is d.kept (front_of d.kept) ∙ ap length split.1 ∙ length-append (bytes_to d.kept (suc w.used)) split.0
          ∙ ap (λ n. n + length split.0) (sym (end_is d.kept (suc w.used)))) in
          let next : end_of d.kept (suc w.used) ≡ end_of d.kept w.used + length
          (payload_of (packet_at d.kept (suc w.used))) = refl in
          omega (arith, size, next, before, short))
      | inr le ↦ (
          let at : front_of d.kept ≡ w.used = omega (arith, le, front) in
          let none = ap (λ k. is_some (packet_at d.kept (suc k))) (sym at) ∙ front_stops d.kept in
          let empty : length (payload_of (packet_at d.kept (suc w.used))) ≡ 0 = (
          ap length (no_payload (packet_at d.kept (suc w.used)) none)) in
          let size : end_of d.kept (front_of d.kept) ≡ end_of d.kept w.used = ap (end_of d.kept) at in
          omega (arith, size, before, short, empty))
    ]

no_rest : (n : ℕ) (xs : List ℕ) → xs ≡ [] → drop n xs ++ [] ≡ []
no_rest n xs is = append-nil (drop n xs) ∙ past n xs (omega (arith, ap length is))

-- they begin with what is left of the first packet
pub first_unread : (w : Window) (d : Received) → Near w d →
    (rest : List ℕ) × (unread_of d ≡ drop w.offset (payload_of (packet_at d.kept (suc w.used))) ++ rest)
first_unread w d near =
    let start : length (bytes_to d.kept w.used) + w.offset ≡ length d.read = (
    ap (λ n. n + w.offset) (sym (end_is d.kept w.used)) ∙ near.offset) in
    let front = front_is w d near in
    let here = payload_of (packet_at d.kept (suc w.used)) in
    elim (cases_lt w.used (front_of d.kept)) as (λ _. (rest : List ℕ) × (unread_of d ≡ drop w.offset here ++ rest)) [
      | inl lt ↦ (
          let split = bytes_split d.kept (suc w.used) (front_of d.kept) (omega (arith, lt)) in (
            split.0,
            ap (drop (length d.read)) (split.1 ∙ append_assoc (bytes_to d.kept w.used) here split.0)
                ∙ drop_more_at (bytes_to d.kept w.used) (here ++ split.0) w.offset (length d.read) start
                ∙ drop-append-le w.offset here split.0 near.short,
          ))
      | inr le ↦ (
          let at : front_of d.kept ≡ w.used = omega (arith, le, front) in
          let none = ap (λ k. is_some (packet_at d.kept (suc k))) (sym at) ∙ front_stops d.kept in
          let empty : here ≡ [] = no_payload (packet_at d.kept (suc w.used)) none in
          let size : length (heard_of d.kept) ≡ length (bytes_to d.kept w.used) = (
          ap (λ k. length (bytes_to d.kept k)) at) in
          let none_left = past (length d.read) (heard_of d.kept) (omega (arith, size, start)) in
          ([], none_left ∙ sym (no_rest w.offset here empty)))
    ]

-- where nothing of the first packet is left, nothing is
pub first_empty : (w : Window) (d : Received) → StandsFor w d →
    length (drop w.offset (payload_of (packet_at d.kept (suc w.used)))) ≡ 0 → unread_of d ≡ []
first_empty w d s h =
    let near = s.near in
    let before = near.offset in
    let here = payload_of (packet_at d.kept (suc w.used)) in
    let left : length here ≤ w.offset = omega (arith, h, length-drop w.offset here) in
    let next : end_of d.kept (suc w.used) ≡ end_of d.kept w.used + length here = refl in
    let upto : (f : ℕ) → front_of d.kept ≡ f → end_of d.kept f ≤ length d.read → unread_of d ≡ [] = (λ f e le.
    let size : length (heard_of d.kept) ≡ end_of d.kept f = (
    sym (end_is d.kept (front_of d.kept)) ∙ ap (end_of d.kept) e) in
    past (length d.read) (heard_of d.kept) (omega (arith, size, le))) in
    let all : (k : ℕ) → k < w.used → is_some (packet_at d.kept (suc k)) ≡ true = (λ k lt.
    done_kept d (suc k) (near.done k lt)) in
    (elim (packet_at d.kept (suc w.used)) as (λ o. packet_at d.kept (suc w.used) ≡ o →
    is_done_by d.ended (end_of d.kept (suc w.used)) (length d.read) o ≡ false → unread_of d ≡ []) [
      | None ↦ λ e t. upto w.used (front_only d.kept w.used all (ap is_some e)) (omega (arith, before))
      | Some b ↦ λ e t. (
          (elim b.last as (λ l. b.last ≡ l →
          cond l d.ended (nat_le (end_of d.kept (suc w.used)) (length d.read)) ≡ false → unread_of d ≡ []) [
            | true ↦ λ l t. (
                let at = (near.sound.marked (suc w.used) b e l).0 in
                let kept : (k : ℕ) → k < suc w.used → is_some (packet_at d.kept (suc k)) ≡ true = (λ k lt.
                elim (cases_lt k w.used) as (λ _. is_some (packet_at d.kept (suc k)) ≡ true) [
                  | inl less ↦ all k less
                  | inr le ↦ (
                      let is : k ≡ w.used = omega (arith, le, lt) in
                      ap (λ j. is_some (packet_at d.kept (suc j))) is ∙ ap is_some e)
                ]) in
                let stops = ap is_some (above_greatest d.kept (suc (suc w.used)) (omega (arith, at))) in
                upto (suc w.used) (front_only d.kept (suc w.used) kept stops) (omega (arith, next, left, before)))
            | false ↦ λ l t. absurd (
                let le : end_of d.kept (suc w.used) ≤ length d.read = omega (arith, next, left, before) in
                let yes : nat_le (end_of d.kept (suc w.used)) (length d.read) ≡ true = grind (arith, nat_tests, le) in
                false≢true (sym t ∙ yes))
          ]) refl t)
    ]) refl s.stops
