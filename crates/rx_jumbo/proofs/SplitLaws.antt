-- Where a datagram is split, and into what.
use Rattle.std.proofs.Common.{◌≡◌, ◌<◌, ◌≤◌, ◌+◌, ◌^◌, ◌∷◌, [], ℕ, zero, suc, Bool, true, false, cond, not, nat_le}
use Rattle.std.proofs.Common.{nat_lt, List, length, map, refl, ap, sym, ◌∙◌, Option, Some, None, arith, slice_get}
use Rattle.std.proofs.Common.{zero-add, ◌⊎◌, inl, inr}
use Rattle.std.proofs.Math.Nat.{eq-or-lt_of_le}
use Rattle.std.proofs.lemmas.Bool.{false≢true, and_parts, not-false, leb-true, ltb-true, le-leb, lt-ltb, and_from}
use Rattle.std.proofs.lemmas.List.FromFn.{length-map-range_with_len}
use Rattle.std.specs.List.{range_with_len}
use Rattle.rx_jumbo.specs.Parts.{SplitsAt, checksum_place, header_of, has_part, if_had, is_data_datagram, is_followed}
use Rattle.rx_jumbo.specs.Parts.{is_jumbo, last_part, part_at, part_place, parts_of, parts_to, unfollowed}
use Rattle.rx_jumbo.proofs.Places.{checksum_before}
use Rattle.rx_jumbo.proofs.FindLaws.{IsFirst, find_first, first_found, get_in_range}
use Rattle.rx_model.proofs.NameLaws.{not_true}

-- a choice that gives something took its first branch
guard : (t : Bool) (x : Option ℕ) (i : ℕ) → cond t x None ≡ Some i → (t ≡ true) × (x ≡ Some i)
guard true x i h = (refl, h)
guard false x i h = absurd cc

some_same : (j i : ℕ) → ◌≡◌ {A = Option ℕ} (Some j) (Some i) → j ≡ i
some_same j i h = cc

had : (b : List ℕ) (x : Option ℕ) (i : ℕ) → if_had b x ≡ Some i → (x ≡ Some i) × (has_part b i ≡ true)
had b None i h = absurd cc
had b (Some j) i h =
    let g = guard (has_part b j) (Some j) i h in
    let same : j ≡ i = some_same j i g.1 in
    (g.1, ap (has_part b) (sym same) ∙ g.0)

-- where a last part is told, the datagram is split there
pub splits_at : (b : List ℕ) (last : ℕ) → last_part b ≡ Some last → SplitsAt b last
splits_at b last h =
    let g = guard (is_jumbo b) (if_had b (unfollowed b)) last h in
    let f = had b (unfollowed b) last g.1 in
    let first = find_first (λ k. not (is_followed b k)) 16 0 last f.0 in
    let parts = and_parts (nat_le (part_place last) (length b)) (nat_lt ((header_of b).seq + last) (2 ^ 32)) f.1 in
    let reach : part_place last ≤ length b = leb-true (part_place last) (length b) parts.0 in
    record {
      jumbo = g.0;
      followed = λ k below. not-false (is_followed b k) (first.before k (omega arith) below);
      ends = not_true (is_followed b last) first.passes;
      few = first.high;
      room = λ k below. omega (arith, reach);
      seqs = ltb-true ((header_of b).seq + last) (2 ^ 32) parts.1;
    }

reaches : (b : List ℕ) (last : ℕ) → SplitsAt b last → part_place last ≤ length b
reaches b zero s =
    let whole = and_parts (is_data_datagram b) (is_followed b 0) s.jumbo in
    let long = and_parts (nat_le 28 (length b)) _ whole.0 in
    leb-true 28 (length b) long.0
reaches b (suc last) s = omega (arith, s.room last (omega arith))

-- where the datagram is split, that last part is told
pub last_told : (b : List ℕ) (last : ℕ) → SplitsAt b last → last_part b ≡ Some last
last_told b last s =
    let first : IsFirst (λ k. not (is_followed b k)) 0 16 last =
    record {
      low = omega arith;
      high = s.few;
      passes = ap not s.ends;
      before = λ k low below. ap not (s.followed k below);
    } in
    let found : unfollowed b ≡ Some last = first_found (λ k. not (is_followed b k)) 16 0 last first in
    let has : has_part b last ≡ true =
    and_from _ _ (le-leb (part_place last) (length b) (reaches b last s))
    (lt-ltb ((header_of b).seq + last) (2 ^ 32) s.seqs) in
    ap (λ t. cond t (if_had b (unfollowed b)) None) s.jumbo ∙ ap (if_had b) found
    ∙ ap (λ t. cond t (Some last) None) has

-- the parts of a datagram that is split
pub parts_split : (b : List ℕ) (last : ℕ) → SplitsAt b last → parts_of b ≡ map (part_at b) (range_with_len 0 (suc last))
parts_split b last s = ap (parts_to b) (last_told b last s)

alone_by : (b : List ℕ) (o : Option ℕ) → last_part b ≡ o → ((last : ℕ) → ¬ SplitsAt b last) → parts_to b o ≡ b ∷ []
alone_by b None told nowhere = refl
alone_by b (Some last) told nowhere = absurd (nowhere last (splits_at b last told))

-- a datagram that is split nowhere is alone
pub parts_alone : (b : List ℕ) → ((last : ℕ) → ¬ SplitsAt b last) → parts_of b ≡ b ∷ []
parts_alone b nowhere = alone_by b (last_part b) refl nowhere

-- one that isn't jumbo is alone
pub single_alone : (b : List ℕ) → is_jumbo b ≡ false → parts_of b ≡ b ∷ []
single_alone b h = ap (λ t. parts_to b (cond t (if_had b (unfollowed b)) None)) h

-- how many parts there are
pub count_split : (b : List ℕ) (last : ℕ) → last_part b ≡ Some last → length (parts_of b) ≡ suc last
count_split b last h = ap (λ o. length (parts_to b o)) h ∙ length-map-range_with_len (part_at b) 0 (suc last)

-- part k of them
pub part_split : (b : List ℕ) (last k : ℕ) → last_part b ≡ Some last → k ≤ last →
    slice_get (parts_of b) k ≡ Some (part_at b k)
part_split b last k h low =
    ap (λ o. slice_get (parts_to b o) k) h ∙ get_in_range (part_at b) (suc last) 0 k (omega arith)
    ∙ ap (λ j. Some (part_at b j)) (zero-add k)

followed_below : (b : List ℕ) (last k : ℕ) → SplitsAt b last → k ≤ last → is_followed b k ≡ true →
    (k ≡ last) ⊎ (k < last) → k < last
followed_below b last k s low h (inl same) = absurd (false≢true (sym (ap (is_followed b) same ∙ s.ends) ∙ h))
followed_below b last k s low h (inr below) = below

-- what is known of a part that is there
pub record PartThere (b : List ℕ) (k : ℕ) : Type 0 where
  pub is : slice_get (parts_of b) k ≡ Some (part_at b k)
  pub begins : part_place k ≤ length b
  pub whole : is_followed b k ≡ true → part_place k + 1412 ≤ length b
  pub checksum : checksum_place k + 2 ≤ length b
  pub header : 28 ≤ length b

pub part_there : (b : List ℕ) (last k : ℕ) → last_part b ≡ Some last → k < length (parts_of b) → PartThere b k
part_there b last k told below =
    let s = splits_at b last told in
    let low : k ≤ last = omega (arith, below, count_split b last told) in
    let begins : part_place k ≤ length b = omega (arith, reaches b last s) in
    record {
      is = part_split b last k told low;
      begins = begins;
      whole = λ more. omega (arith, s.room k (followed_below b last k s low more (eq-or-lt_of_le low)));
      checksum = omega (arith, begins, checksum_before k);
      header = omega (arith, begins);
    }
