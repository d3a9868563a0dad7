-- Headers whose fields agree, a datagram from its fields, and the fields of a part.
use Rattle.std.proofs.Common.{◌≡◌, ◌<◌, ◌≤◌, ◌+◌, ◌%◌, ◌^◌, ◌==◌, ◌&&◌, ◌++◌, ◌∷◌, ℕ, Bool, true, false, List, length}
use Rattle.std.proofs.Common.{take, drop, ap, sym, ◌∙◌, refl, arith, cond, nat_le, bit_and, get_or, slice_index}
use Rattle.std.proofs.Common.{add-zero}
use Rattle.std.proofs.lemmas.Bool.{and_parts, eqb-true, leb-true, le-leb, not-false}
use Rattle.std.proofs.lemmas.Nat.{and-not, and_comm}
use Rattle.std.proofs.Math.Nat.{mod-eq_of_lt}
use Rattle.byteorder.specs.Endian.{big_bytes}
use Rattle.rx_model.specs.Message.{IsBytes, has_flag}
use Rattle.rx_model.specs.Reading.{number_at}
use Rattle.rx_model.specs.Spelling.{header_bytes}
use Rattle.rx_model.proofs.FieldLaws.{four, two}
use Rattle.rx_model.proofs.Fronts.{fits2, fits4, next1, next2, next4}
use Rattle.rx_jumbo.specs.JoinerState.{same_call}
use Rattle.rx_jumbo.specs.Parts.{header_of, is_data_datagram, is_followed, own_flags, part_at, part_bytes}
use Rattle.rx_jumbo.proofs.Places.{same_number}

-- all that two headers say but type, flags, checksum, seq and serial
pub record SameCall (a b : List ℕ) : Type 0 where
  pub epoch : (header_of a).epoch ≡ (header_of b).epoch
  pub cid : (header_of a).cid ≡ (header_of b).cid
  pub number : (header_of a).number ≡ (header_of b).number
  pub status : (header_of a).status ≡ (header_of b).status
  pub index : (header_of a).index ≡ (header_of b).index
  pub service : (header_of a).service ≡ (header_of b).service

-- all that two headers say but type, flags and checksum
pub record SameHead (a b : List ℕ) : Type 0 where
  pub call : SameCall a b
  pub seq : (header_of a).seq ≡ (header_of b).seq
  pub serial : (header_of a).serial ≡ (header_of b).serial

-- headers with the same bytes but for the flags
pub same_head : (a b : List ℕ) → ((j : ℕ) → j < 28 → (j ≡ 21 → ⊥) → get_or a j 0 ≡ get_or b j 0) → SameHead a b
same_head a b h =
    let word : (p : ℕ) → p + 4 ≤ 20 → number_at 4 p a ≡ number_at 4 p b =
    λ p low. same_number 4 p p a b (λ j below. h (p + j) (omega arith) (λ same. omega arith)) in
    record {
      call = record {
        epoch = word 0 (omega arith);
        cid = word 4 (omega arith);
        number = word 8 (omega arith);
        status = h 22 (omega arith) (λ same. omega arith);
        index = h 23 (omega arith) (λ same. omega arith);
        service = same_number 2 26 26 a b (λ j below. h (26 + j) (omega arith) (λ same. omega arith));
      };
      seq = word 12 (omega arith);
      serial = word 16 (omega arith);
    }

-- what `same_call` finds
pub call_found : (a b : List ℕ) → same_call a b ≡ true → SameCall a b
call_found a b h =
    let e = and_parts _ _ h in
    let c = and_parts _ _ e.1 in
    let n = and_parts _ _ c.1 in
    let s = and_parts _ _ n.1 in
    let i = and_parts _ _ s.1 in
    record {
      epoch = eqb-true _ _ e.0;
      cid = eqb-true _ _ c.0;
      number = eqb-true _ _ n.0;
      status = eqb-true _ _ s.0;
      index = eqb-true _ _ i.0;
      service = eqb-true _ _ i.1;
    }

-- headers that say the same agree with a third alike
pub call_alike : (a b d : List ℕ) → SameCall a b → same_call a d ≡ same_call b d
call_alike a b d s =
    λ i. (s.epoch i == (header_of d).epoch) && ((s.cid i == (header_of d).cid) && ((s.number i == (header_of d).number)
    && ((s.status i == (header_of d).status) && ((s.index i == (header_of d).index)
    && (s.service i == (header_of d).service)))))

-- ---- a datagram from its fields

-- the text behind the first five fields
laid_behind : (b : List ℕ) → 28 ≤ length b → IsBytes b → slice_index b 20 ≡ 1 →
    drop 20 b ≡ 1 ∷ slice_index b 21 ∷ slice_index b 22 ∷ slice_index b 23
    ∷ (big_bytes 2 (number_at 2 24 b) ++ (big_bytes 2 (number_at 2 26 b) ++ drop 28 b))
laid_behind b long fits kind =
    next1 20 b (omega arith) ∙ ap (λ (k : ℕ). k ∷ drop 21 b) kind ∙ ap (λ (t : List ℕ). 1 ∷ t) (
    next1 21 b (omega arith) ∙ ap (λ (t : List ℕ). slice_index b 21 ∷ t) (
    next1 22 b (omega arith) ∙ ap (λ (t : List ℕ). slice_index b 22 ∷ t) (
    next1 23 b (omega arith) ∙ ap (λ (t : List ℕ). slice_index b 23 ∷ t) (
    next2 24 b (omega arith) fits
    ∙ ap (λ (t : List ℕ). big_bytes 2 (number_at 2 24 b) ++ t) (next2 26 b (omega arith) fits)))))

-- DATA from its header and what stands behind it
pub laid_out : (b : List ℕ) → 28 ≤ length b → IsBytes b → slice_index b 20 ≡ 1 →
    b ≡ header_bytes (header_of b) (slice_index b 21) (slice_index b 22) (number_at 2 24 b) (drop 28 b)
laid_out b long fits kind =
    next4 0 b (omega arith) fits ∙ ap (λ (t : List ℕ). big_bytes 4 (number_at 4 0 b) ++ t) (
    next4 4 b (omega arith) fits ∙ ap (λ (t : List ℕ). big_bytes 4 (number_at 4 4 b) ++ t) (
    next4 8 b (omega arith) fits ∙ ap (λ (t : List ℕ). big_bytes 4 (number_at 4 8 b) ++ t) (
    next4 12 b (omega arith) fits ∙ ap (λ (t : List ℕ). big_bytes 4 (number_at 4 12 b) ++ t) (
    next4 16 b (omega arith) fits
    ∙ ap (λ (t : List ℕ). big_bytes 4 (number_at 4 16 b) ++ t) (laid_behind b long fits kind)))))

-- flags without JUMBO stay themselves without it
pub flags_stay : (f : ℕ) → f < 256 → has_flag 32 f ≡ false → bit_and f 223 ≡ f
flags_stay f fits h =
    let none : bit_and f 32 ≡ 0 = eqb-true (bit_and f 32) 0 (not-false (bit_and f 32 == 0) h) in
    let split : bit_and 223 f + bit_and 32 f ≡ f = and-not 8 32 f (omega arith) fits in
    omega (arith, split, none, and_comm f 223, and_comm f 32)

-- the type of DATA, and its length
pub is_kind : (b : List ℕ) → is_data_datagram b ≡ true → slice_index b 20 ≡ 1
is_kind b h = eqb-true (slice_index b 20) 1 (and_parts (nat_le 28 (length b)) (slice_index b 20 == 1) h).1

pub is_long : (b : List ℕ) → is_data_datagram b ≡ true → 28 ≤ length b
is_long b h = leb-true 28 (length b) (and_parts (nat_le 28 (length b)) (slice_index b 20 == 1) h).0

-- the first part of DATA without JUMBO is all of it
pub first_whole : (b : List ℕ) → IsBytes b → is_data_datagram b ≡ true → is_followed b 0 ≡ false → part_at b 0 ≡ b
first_whole b fits whole alone =
    let m = header_of b in
    let seq : m.seq + 0 ≡ m.seq = add-zero m.seq in
    let serial : (m.serial + 0) % 2 ^ 32 ≡ m.serial =
    ap (λ (n : ℕ). n % 2 ^ 32) (add-zero m.serial) ∙ mod-eq_of_lt (fits4 16 b fits) in
    let flags : own_flags b 0 ≡ slice_index b 21 = flags_stay (slice_index b 21) (fits 21) alone in
    let payload : part_bytes b 0 ≡ drop 28 b =
    ap (λ (t : Bool). cond t (take 1412 (drop 28 b)) (drop 28 b)) alone in
    let same : part_at b 0 ≡ header_bytes m (slice_index b 21) (slice_index b 22) (number_at 2 24 b) (drop 28 b) =
    λ i. header_bytes (record m { seq = seq i; serial = serial i }) (flags i) m.status (number_at 2 24 b) (payload i) in
    same ∙ sym (laid_out b (is_long b whole) fits (is_kind b whole))

-- ---- the fields of a part

-- a part says of the call what the datagram says
pub part_call : (b : List ℕ) (k : ℕ) → IsBytes b → SameCall (part_at b k) b
part_call b k fits =
    record {
      epoch = four (header_of b).epoch (drop 4 (part_at b k)) (fits4 0 b fits);
      cid = four (header_of b).cid (drop 8 (part_at b k)) (fits4 4 b fits);
      number = four (header_of b).number (drop 12 (part_at b k)) (fits4 8 b fits);
      status = refl;
      index = refl;
      service = two (header_of b).service (drop 28 (part_at b k)) (fits2 26 b fits);
    }

pub part_seq : (b : List ℕ) (k : ℕ) → (header_of b).seq + k < 2 ^ 32 →
    (header_of (part_at b k)).seq ≡ (header_of b).seq + k
part_seq b k fits = four ((header_of b).seq + k) (drop 16 (part_at b k)) fits

pub part_serial : (b : List ℕ) (k : ℕ) → (header_of b).serial + k < 2 ^ 32 →
    (header_of (part_at b k)).serial ≡ (header_of b).serial + k
part_serial b k fits =
    let same : ((header_of b).serial + k) % 2 ^ 32 ≡ (header_of b).serial + k = mod-eq_of_lt fits in
    four (((header_of b).serial + k) % 2 ^ 32) (drop 20 (part_at b k)) (rw same fits) ∙ same

pub part_data : (b : List ℕ) (k : ℕ) → is_data_datagram (part_at b k) ≡ true
part_data b k = ap (λ (t : Bool). t && true) (le-leb 28 (length (part_at b k)) (omega arith))

pub part_length : (b : List ℕ) (k : ℕ) → length (part_at b k) ≡ 28 + length (part_bytes b k)
part_length b k = omega arith
