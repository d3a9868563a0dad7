-- Laws of the look-ups in the kept packets.
use Rattle.std.proofs.Common.{◌≡◌, inl, inr, ◌<◌, ◌≤◌, ◌+◌, ◌==◌, is_some, true, false, ℕ, suc, zero, List, [], ◌∷◌}
use Rattle.std.proofs.Common.{◌++◌, length, Some, None, refl, sym, ap, ◌∙◌, arith, append_assoc}
use Rattle.std.proofs.Common.{length-append}
use Rattle.std.proofs.lemmas.Bool.{cases_lt, cases_eq, false≢true}
use Rattle.std.proofs.lemmas.Bool.Decides.{nat_tests}
use Rattle.std.proofs.lemmas.List.{append-nil}
use Rattle.rx_rules.specs.Received.{Piece, Packet, Received, packet_at, payload_of, greatest, front_of, bytes_to}
use Rattle.rx_rules.specs.Received.{end_of, is_done, is_done_by, used_of}
use Rattle.rx_rules.proofs.ReachLaws.{reach_passes, reach_stops, reach_only}

-- ---- packets

pub above_greatest : (kept : List Packet) (k : ℕ) → greatest kept < k → packet_at kept k ≡ None
above_greatest [] k lt = refl
above_greatest (p ∷ ps) k lt =
    let test : (p.seq == k) ≡ false = grind (arith, nat_tests, lt) in
    rw test (above_greatest ps k (omega (arith, lt)))

pub kept_within : (kept : List Packet) (k : ℕ) → is_some (packet_at kept k) ≡ true → k ≤ greatest kept
kept_within kept k h =
    elim (cases_lt (greatest kept) k) as (λ _. k ≤ greatest kept) [
      | inl lt ↦ absurd (false≢true (ap is_some (sym (above_greatest kept k lt)) ∙ h))
      | inr le ↦ le
    ]

pub at_own : (seq : ℕ) (piece : Piece) (kept : List Packet) →
    packet_at (record { seq = seq; piece = piece } ∷ kept) seq ≡ Some piece
at_own seq piece kept = let test : (seq == seq) ≡ true = grind (arith, nat_tests) in rw test refl

pub at_other : (seq : ℕ) (piece : Piece) (kept : List Packet) (k : ℕ) → (seq ≡ k → ⊥) →
    packet_at (record { seq = seq; piece = piece } ∷ kept) k ≡ packet_at kept k
at_other seq piece kept k apart = let test : (seq == k) ≡ false = grind (arith, nat_tests, apart) in rw test refl

-- ---- the front

pub front_all : (kept : List Packet) (k : ℕ) → k < front_of kept → is_some (packet_at kept (suc k)) ≡ true
front_all kept k lt = reach_passes (λ k. is_some (packet_at kept k)) (greatest kept) k lt

pub front_stops : (kept : List Packet) → is_some (packet_at kept (suc (front_of kept))) ≡ false
front_stops kept =
    elim (cases_lt (front_of kept) (greatest kept)) as (λ _. is_some (packet_at kept (suc (front_of kept))) ≡ false) [
      | inl lt ↦ reach_stops (λ k. is_some (packet_at kept k)) (greatest kept) lt
      | inr le ↦ ap is_some (above_greatest kept (suc (front_of kept)) (omega (arith, le)))
    ]

within_of : (kept : List Packet) (u : ℕ) → ((k : ℕ) → k < u → is_some (packet_at kept (suc k)) ≡ true) →
    u ≤ greatest kept
within_of kept zero all = omega arith
within_of kept (suc u) all = kept_within kept (suc u) (all u (omega arith))

pub front_only : (kept : List Packet) (u : ℕ) → ((k : ℕ) → k < u → is_some (packet_at kept (suc k)) ≡ true) →
    is_some (packet_at kept (suc u)) ≡ false → front_of kept ≡ u
front_only kept u all stops =
    reach_only (λ k. is_some (packet_at kept k)) (greatest kept) u (within_of kept u all) all (λ _. stops)

-- ---- used

pub done_kept : (d : Received) (k : ℕ) → is_done d k ≡ true → is_some (packet_at d.kept k) ≡ true
done_kept d k h =
    (elim (packet_at d.kept k)
    as (λ o. is_done_by d.ended (end_of d.kept k) (length d.read) o ≡ true → is_some o ≡ true) [
      | None ↦ λ h. absurd (false≢true h)
      | Some b ↦ λ h. refl
    ]) h

pub used_only : (d : Received) (u : ℕ) → ((k : ℕ) → k < u → is_done d (suc k) ≡ true) → is_done d (suc u) ≡ false →
    used_of d ≡ u
used_only d u all stops =
    let within : u ≤ front_of d.kept =
    elim (cases_lt (front_of d.kept) u) as (λ _. u ≤ front_of d.kept) [
      | inl lt ↦ (
          let there = done_kept d (suc (front_of d.kept)) (all (front_of d.kept) lt) in
          absurd (false≢true (sym (front_stops d.kept) ∙ there)))
      | inr le ↦ le
    ] in
    reach_only (is_done d) (front_of d.kept) u within all (λ _. stops)

-- ---- bytes

-- where packet k ends is how many bytes there are up to it
pub end_is : (kept : List Packet) (k : ℕ) → end_of kept k ≡ length (bytes_to kept k)
end_is kept zero = refl
end_is kept (suc k) =
    ap (λ n. n + length (payload_of (packet_at kept (suc k)))) (end_is kept k)
    ∙ sym (length-append (bytes_to kept k) (payload_of (packet_at kept (suc k))))

-- the same of where it ends
pub end_below : (seq : ℕ) (piece : Piece) (kept : List Packet) (k : ℕ) → k < seq →
    end_of (record { seq = seq; piece = piece } ∷ kept) k ≡ end_of kept k
end_below seq piece kept zero lt = refl
end_below seq piece kept (suc k) lt =
    let rest = end_below seq piece kept k (omega (arith, lt)) in
    let here = at_other seq piece kept (suc k) (λ e. omega (arith, lt, e)) in
    λ i. rest i + length (payload_of (here i))

-- the bytes up to n begin with those up to a smaller k
pub bytes_split : (kept : List Packet) (k n : ℕ) → k ≤ n → (rest : List ℕ) × (bytes_to kept n ≡ bytes_to kept k ++ rest)
bytes_split kept k zero le =
    let is : k ≡ 0 = omega (arith, le) in
    ([], ap (bytes_to kept) (sym is) ∙ sym (append-nil (bytes_to kept k)))
bytes_split kept k (suc n) le =
    elim (cases_eq k (suc n)) as (λ _. (rest : List ℕ) × (bytes_to kept (suc n) ≡ bytes_to kept k ++ rest)) [
      | inl e ↦ ([], ap (bytes_to kept) (sym e) ∙ sym (append-nil (bytes_to kept k)))
      | inr apart ↦ (
          let more = bytes_split kept k n (omega (arith, le, apart)) in
          let next = payload_of (packet_at kept (suc n)) in
          (more.0 ++ next, ap (λ bs. bs ++ next) more.1 ∙ append_assoc (bytes_to kept k) more.0 next))
    ]
