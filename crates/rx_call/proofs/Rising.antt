-- A read behind which fewer packets are held raised how many are done with, and no other did.
use Rattle.std.proofs.Common.{◌≡◌, inl, inr, ◌<◌, ◌≤◌, ◌==◌, nat_lt, cond, is_some, Bool, true, false, ℕ, suc, zero}
use Rattle.std.proofs.Common.{List, []}
use Rattle.std.proofs.Common.{◌∷◌, Option, refl, ap, arith}
use Rattle.std.proofs.lemmas.Bool.{cases_lt, cases_eq, false≢true}
use Rattle.std.proofs.lemmas.Bool.Decides.{nat_tests}
use Rattle.rx_rules.specs.Owing.{Owed, owed_for_read, owed_for_done}
use Rattle.rx_rules.specs.Received.{Packet, Received, packet_at, used_of, count_above, after_read, is_done, front_of}
use Rattle.rx_rules.proofs.PacketLaws.{done_kept}
use Rattle.rx_rules.proofs.ReachLaws.{reach_passes}

-- no more packets lie above a higher seq
count_fewer : (ps : List Packet) (a b : ℕ) → a ≤ b → count_above b ps ≤ count_above a ps
count_fewer [] a b le = omega arith
count_fewer (p ∷ ps) a b le =
    let rest = count_fewer ps a b le in
    elim (cases_lt b p.seq) as (λ _. count_above b (p ∷ ps) ≤ count_above a (p ∷ ps)) [
      | inl lt ↦ (
          let above : nat_lt b p.seq ≡ true = grind (arith, nat_tests, lt) in
          let below : nat_lt a p.seq ≡ true = grind (arith, nat_tests, lt, le) in
          rw (above, below) (omega (arith, rest)))
      | inr ge ↦ (
          let under : nat_lt b p.seq ≡ false = grind (arith, nat_tests, ge) in
          rw under (elim (nat_lt a p.seq) as (λ t. count_above b ps ≤ cond t (suc (count_above a ps))
          (count_above a ps)) [
            | true ↦ omega (arith, rest)
            | false ↦ rest
          ]))
    ]

-- and fewer where a packet has that seq
count_less : (ps : List Packet) (a b : ℕ) → a < b → is_some (packet_at ps b) ≡ true →
    count_above b ps < count_above a ps
count_less [] a b lt some = absurd (false≢true some)
count_less (p ∷ ps) a b lt some =
    elim (cases_eq p.seq b) as (λ _. count_above b (p ∷ ps) < count_above a (p ∷ ps)) [
      | inl e ↦ (
          let rest = count_fewer ps a b (omega (arith, lt)) in
          let under : nat_lt b p.seq ≡ false = grind (arith, nat_tests, e) in
          let above : nat_lt a p.seq ≡ true = grind (arith, nat_tests, e, lt) in
          rw (under, above) (omega (arith, rest)))
      | inr apart ↦ (
          let test : (p.seq == b) ≡ false = grind (arith, nat_tests, apart) in
          let there : is_some (packet_at ps b) ≡ true = rw test at some in
          let rest = count_less ps a b lt there in
          elim (cases_lt b p.seq) as (λ _. count_above b (p ∷ ps) < count_above a (p ∷ ps)) [
            | inl up ↦ (
                let above : nat_lt b p.seq ≡ true = grind (arith, nat_tests, up) in
                let below : nat_lt a p.seq ≡ true = grind (arith, nat_tests, up, lt) in
                rw (above, below) (omega (arith, rest)))
            | inr ge ↦ (
                let under : nat_lt b p.seq ≡ false = grind (arith, nat_tests, ge) in
                rw under (elim (nat_lt a p.seq)
                as (λ t. count_above b ps < cond t (suc (count_above a ps)) (count_above a ps)) [
                  | true ↦ omega (arith, rest)
                  | false ↦ rest
                ]))
          ])
    ]

-- the last packet that is done with is kept
used_kept : (r : Received) (n : ℕ) → n < used_of r → is_some (packet_at r.kept (suc n)) ≡ true
used_kept r n lt = done_kept r (suc n) (reach_passes (is_done r) (front_of r.kept) n lt)

used_less : (r : Received) (a n : ℕ) → used_of r ≡ n → a < n → count_above n r.kept < count_above a r.kept
used_less r a zero is lt = absurd (omega (arith, lt))
used_less r a (suc n) is lt = count_less r.kept a (suc n) lt (used_kept r n (omega (arith, is)))

pub owed_raised : (now : ℕ) (prompt end_ : Bool) (bytes : List ℕ) (r : Received) (o : Option Owed) →
    count_above (used_of (after_read end_ bytes r)) r.kept < count_above (used_of r) r.kept →
    owed_for_read now prompt (used_of r) (used_of (after_read end_ bytes r)) o ≡ owed_for_done now prompt o
owed_raised now prompt end_ bytes r o fewer =
    let after = used_of (after_read end_ bytes r) in
    elim (cases_lt (used_of r) after)
    as (λ _. owed_for_read now prompt (used_of r) after o ≡ owed_for_done now prompt o) [
      | inl lt ↦ (
          let test : nat_lt (used_of r) after ≡ true = grind (arith, nat_tests, lt) in
          ap (λ b. cond b (owed_for_done now prompt o) o) test)
      | inr ge ↦ absurd (let more = count_fewer r.kept after (used_of r) ge in omega (arith, more, fewer))
    ]

pub owed_same : (now : ℕ) (prompt end_ : Bool) (bytes : List ℕ) (r : Received) (o : Option Owed) →
    count_above (used_of r) r.kept ≤ count_above (used_of (after_read end_ bytes r)) r.kept →
    owed_for_read now prompt (used_of r) (used_of (after_read end_ bytes r)) o ≡ o
owed_same now prompt end_ bytes r o most =
    let after = used_of (after_read end_ bytes r) in
    elim (cases_lt (used_of r) after) as (λ _. owed_for_read now prompt (used_of r) after o ≡ o) [
      | inl lt ↦ absurd (
          let less = used_less (after_read end_ bytes r) (used_of r) after refl lt in omega (arith, less, most))
      | inr ge ↦ (
          let test : nat_lt (used_of r) after ≡ false = grind (arith, nat_tests, ge) in
          ap (λ b. cond b (owed_for_done now prompt o) o) test)
    ]
