-- What an acknowledgement tells: marks of kept packets, and two ends of a call of which one knows what the other has.
use Rattle.std.proofs.Common.{◌≡◌, ℕ, zero, suc, ◌+◌, ◌-◌, ◌<◌, ◌≤◌, Bool, true, false, ◌&&◌, ◌||◌}
use Rattle.std.proofs.Common.{List, [], ◌∷◌, ◌++◌, length, refl, ap, sym, ◌∙◌, subst, inl, inr, ⊎_elim, arith}
use Rattle.std.proofs.Common.{Option}
use Rattle.std.proofs.Common.{nat_lt, nat_le, ◌==◌, is_some, ap₂, slice_index_or}
use Rattle.std.proofs.lemmas.Bool.{ne_eqb, le-leb, leb-true, le-ltb, lt-leb, cases_eq, cases_lt, cases_Bool}
use Rattle.std.proofs.lemmas.Bool.{or_cases, or_parts, both_ways}
use Rattle.rx_rules.proofs.PacketLaws.{above_greatest, kept_within}
use Rattle.rx_rules.specs.Received.{Piece, Packet, Received, reach, packet_at, greatest, front_of}
use Rattle.rx_rules.specs.Received.{used_of, is_done, is_done_by, end_of, payload_of, marks_from, marks_of}
use Rattle.rx_rules.specs.Sent.{Sent, given_of, is_acked, lowest_of, is_marked, marks_past}
use Rattle.rx_rules.specs.Sent.{is_strange_ack}
use Rattle.rx_between.specs.Acknowledged.{AreTrue}
use Rattle.rx_between.proofs.Counting.{reach_passes, reach_least}
use Rattle.rx_history.proofs.Plain.PlainBodies.{marks-count}
use Rattle.rx_rules.proofs.ReachLaws.{reach_within}

-- ---- kept packets

-- packets up to the used ones are kept
pub used_kept : (r : Received) (k : ℕ) → 1 ≤ k → k ≤ used_of r → is_some (packet_at r.kept k) ≡ true
used_kept r k low high =
    reach_passes (λ j. is_some (packet_at r.kept j)) (greatest r.kept) k low
    (omega (arith, reach_within (is_done r) (front_of r.kept)))

-- ---- two ends that are true to each other

pub acked_kept : (c : Sent) (v : Received) → AreTrue c v → (k : ℕ) → 1 ≤ k → is_acked c k ≡ true
    → is_some (packet_at v.kept k) ≡ true
acked_kept c v truth k low acked =
    ⊎_elim
    (λ (hard : nat_le k c.acked ≡ true). used_kept v k low (omega (arith, leb-true k c.acked hard, truth.hard)))
    (λ (soft : c.soft k ≡ true). truth.soft k low soft)
    (or_cases (nat_le k c.acked) (c.soft k) acked)

-- all below the lowest piece that isn't acknowledged stand at the other end without a gap
pub front_reaches : (c : Sent) (v : Received) → AreTrue c v → lowest_of c ≤ front_of v.kept + 1
front_reaches c v truth =
    let k : ℕ = reach (is_acked c) (given_of c) in
    let there : (j : ℕ) → 1 ≤ j → j ≤ k → is_some (packet_at v.kept j) ≡ true =
    λ j from to. acked_kept c v truth j from (reach_passes (is_acked c) (given_of c) j from to) in
    let within : k ≤ greatest v.kept =
    elim (cases_lt 0 k) as (λ e. k ≤ greatest v.kept) [
      | inl some ↦ kept_within v.kept k (there k some (omega arith))
      | inr none ↦ omega arith
    ] in
    omega (arith, reach_least (λ j. is_some (packet_at v.kept j)) (greatest v.kept) k within there)

-- ---- the marks of an ACK

index-front : (xs ys : List Bool) (i : ℕ) → i < length xs
    → slice_index_or (xs ++ ys) i false ≡ slice_index_or xs i false
index-front [] ys i low = absurd (omega arith)
index-front (x ∷ xs) ys zero low = refl
index-front (x ∷ xs) ys (suc i) low = index-front xs ys i (omega arith)

index-last : (xs : List Bool) (y : Bool) (i : ℕ) → i ≡ length xs → slice_index_or (xs ++ y ∷ []) i false ≡ y
index-last [] y zero is = refl
index-last [] y (suc i) is = absurd (omega arith)
index-last (x ∷ xs) y zero is = absurd (omega arith)
index-last (x ∷ xs) y (suc i) is = index-last xs y i (omega arith)

index-past : (xs : List Bool) (i : ℕ) → length xs ≤ i → slice_index_or xs i false ≡ false
index-past [] i high = refl
index-past (x ∷ xs) zero high = absurd (omega arith)
index-past (x ∷ xs) (suc i) high = index-past xs i (omega arith)

-- the mark at a place
pub mark-at : (kept : List Packet) (used n i : ℕ) → i < n
    → slice_index_or (marks_from kept used n) i false ≡ is_some (packet_at kept (used + suc i))
mark-at kept used zero i low = absurd (omega arith)
mark-at kept used (suc n) i low =
    let count : length (marks_from kept used n) ≡ n = marks-count kept used n in
    elim (cases_eq i n) as (λ c. slice_index_or
    (marks_from kept used n ++ is_some (packet_at kept (used + suc n)) ∷ []) i false ≡ is_some
    (packet_at kept (used + suc i))) [
      | inl last ↦ index-last (marks_from kept used n) (is_some (packet_at kept (used + suc n))) i (omega arith)
          ∙ ap (λ j. is_some (packet_at kept (used + suc j))) (sym last)
      | inr sooner ↦ index-front (marks_from kept used n) (is_some (packet_at kept (used + suc n)) ∷ []) i (omega arith)
          ∙ mark-at kept used n i (omega arith)
    ]

-- a seq above the used ones is marked where it is kept
pub marked_is : (r : Received) (k : ℕ) → used_of r < k
    → is_marked (used_of r + 1) (marks_of r) k ≡ is_some (packet_at r.kept k)
marked_is r k above =
    let u : ℕ = used_of r in
    let place : u + suc (k - (u + 1)) ≡ k = omega arith in
    rw (le-leb (u + 1) k (omega arith))
    (elim (cases_lt (k - (u + 1)) (greatest r.kept - u))
    as (λ c. slice_index_or (marks_of r) (k - (u + 1)) false ≡ is_some (packet_at r.kept k)) [
      | inl inside ↦ mark-at r.kept u (greatest r.kept - u) (k - (u + 1)) inside
          ∙ ap (λ j. is_some (packet_at r.kept j)) place
      | inr past ↦ index-past (marks_of r) (k - (u + 1)) (omega (arith, marks-count r.kept u (greatest r.kept - u)))
          ∙ sym (ap (λ (o : Option Piece). is_some o)
          (above_greatest r.kept k (omega arith)))
    ])

-- no seq at most the used ones is
pub marked_none : (u : ℕ) (marks : List Bool) (k : ℕ) → k ≤ u → is_marked (u + 1) marks k ≡ false
marked_none u marks k low = rw (lt-leb (u + 1) k (omega arith)) refl

-- ---- one more packet

-- what is kept stays as it is
pub packet-more : (p : Packet) (kept : List Packet) (j : ℕ) → is_some (packet_at kept p.seq) ≡ false
    → is_some (packet_at kept j) ≡ true
    → packet_at (p ∷ kept) j ≡ packet_at kept j
packet-more p kept j new there =
    rw (ne_eqb p.seq j (λ (same : p.seq ≡ j). both_ways (is_some (packet_at kept j))
    (subst (λ (i : ℕ). is_some (packet_at kept i) ≡ false) same new) there)) refl

end-more : (p : Packet) (kept : List Packet) (j : ℕ) → is_some (packet_at kept p.seq) ≡ false
    → ((i : ℕ) → 1 ≤ i → i ≤ j → is_some (packet_at kept i) ≡ true) → end_of (p ∷ kept) j ≡ end_of kept j
end-more p kept zero new there = refl
end-more p kept (suc j) new there =
    λ i. end-more p kept j new (λ n low high. there n low (omega arith)) i
    + length (payload_of (packet-more p kept (suc j) new (there (suc j) (omega arith) (omega arith)) i))

-- no fewer are done with
pub used-more : (p : Packet) (r : Received) (previous : ℕ) → is_some (packet_at r.kept p.seq) ≡ false
    → used_of r ≤ used_of (record r { kept = p ∷ r.kept; previous = previous })
used-more p r previous new =
    let more : Received = record r { kept = p ∷ r.kept; previous = previous } in
    let there : (j : ℕ) → 1 ≤ j → j ≤ used_of r → is_some (packet_at (p ∷ r.kept) j) ≡ true =
    λ j low high. ap (λ (o : Option Piece). is_some o) (packet-more p r.kept j new (used_kept r j low high))
    ∙ used_kept r j low high in
    let far : used_of r ≤ front_of r.kept = reach_within (is_done r) (front_of r.kept) in
    let front : used_of r ≤ greatest r.kept = omega
    (arith, reach_within (λ j. is_some (packet_at r.kept j)) (greatest r.kept)) in
    reach_least (is_done more) (front_of (p ∷ r.kept)) (used_of r)
    (reach_least (λ j. is_some (packet_at (p ∷ r.kept) j)) (greatest (p ∷ r.kept)) (used_of r) (omega arith) there)
    (λ j low high.
    ap₂ (λ (e : ℕ) (o : Option Piece). is_done_by r.ended e (length r.read) o)
    (end-more p r.kept j new (λ i from to. used_kept r i from (omega arith)))
    (packet-more p r.kept j new (used_kept r j low high))
    ∙ reach_passes (is_done r) (front_of r.kept) j low high)

-- ---- what an ACK of these look-ups is at the other end

-- only kept packets are acknowledged softly
pub told_soft : (r : Received) (k : ℕ) → is_marked (used_of r + 1) (marks_of r) k ≡ true
    → is_some (packet_at r.kept k) ≡ true
told_soft r k marks =
    elim (cases_lt (used_of r) k) as (λ c. is_some (packet_at r.kept k) ≡ true) [
      | inl above ↦ sym (marked_is r k above) ∙ marks
      | inr below ↦ absurd (both_ways (is_marked (used_of r + 1) (marks_of r) k)
          (marked_none (used_of r) (marks_of r) k below) marks)
    ]

past-append : (xs : List Bool) (y : Bool) (k g : ℕ) → marks_past xs k g ≡ false
    → (y && nat_lt g (k + length xs)) ≡ false → marks_past (xs ++ y ∷ []) k g ≡ false
past-append [] y k g none last = (let same : k + 0 ≡ k = omega arith in rw (sym (ap (λ i. y && nat_lt g i) same)
    ∙ last) refl)
past-append (x ∷ xs) y k g none last =
    let parts = or_parts (x && nat_lt g k) (marks_past xs (suc k) g) none in
    let same : suc k + length xs ≡ k + suc (length xs) = omega arith in
    rw parts.0 (past-append xs y (suc k) g parts.1 (ap (λ i. y && nat_lt g i) same ∙ last))

past-none : (kept : List Packet) (used n g : ℕ) → ((j : ℕ) → is_some (packet_at kept j) ≡ true → j ≤ g)
    → marks_past (marks_from kept used n) (used + 1) g ≡ false
past-none kept used zero g only = refl
past-none kept used (suc n) g only =
    past-append (marks_from kept used n) (is_some (packet_at kept (used + suc n))) (used + 1) g
    (past-none kept used n g only)
    (let place : used + 1 + length (marks_from kept used n) ≡ used + suc n = omega (arith, marks-count kept used n) in
    rw place
    (elim (cases_Bool (is_some (packet_at kept (used + suc n))))
    as (λ c. (is_some (packet_at kept (used + suc n)) && nat_lt g (used + suc n)) ≡ false) [
      | inl there ↦ rw there (le-ltb g (used + suc n) (only (used + suc n) there))
      | inr gone ↦ rw gone refl
    ]))

-- and it is heard, where only given pieces are kept
pub told_heard : (c : Sent) (r : Received) → ((j : ℕ) → is_some (packet_at r.kept j) ≡ true → j ≤ given_of c)
    → is_strange_ack (used_of r + 1) (marks_of r) c ≡ false
told_heard c r only =
    let less : used_of r + 1 - 1 ≡ used_of r = omega arith in
    let positive : (used_of r + 1 == 0) ≡ false = ne_eqb (used_of r + 1) 0 (λ (e : used_of r + 1 ≡ 0). omega arith) in
    let within : used_of r ≤ given_of c =
    elim (cases_lt 0 (used_of r)) as (λ e. used_of r ≤ given_of c) [
      | inl some ↦ only (used_of r) (used_kept r (used_of r) some (omega arith))
      | inr none ↦ omega arith
    ] in
    rw (positive, less)
    (rw (le-ltb (given_of c) (used_of r) within)
    (past-none r.kept (used_of r) (greatest r.kept - used_of r) (given_of c) only))
