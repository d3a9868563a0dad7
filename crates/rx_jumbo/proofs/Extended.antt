-- A text with one more part: what stays of it, and what is new.
use Rattle.std.proofs.Common.{◌≡◌, ◌<◌, ◌≤◌, ◌+◌, ◌-◌, ◌%◌, ◌^◌, ◌==◌, ◌&&◌, ◌⊎◌, inl, inr, ℕ, zero, suc, Bool, true}
use Rattle.std.proofs.Common.{false, not, cond, List, length, take, drop, ap, sym, ◌∙◌, refl, arith, bit_and, bit_or}
use Rattle.std.proofs.Common.{get_or, slice_index, length-append, length-drop}
use Rattle.std.proofs.lemmas.List.{get_or_append_left, get_or-append_right, get_or-set_same, get_or-set_other}
use Rattle.std.proofs.lemmas.List.{length-set, drop-drop, drop_at, take_all}
use Rattle.std.proofs.lemmas.Bool.{and_parts, eqb-true, le-leb, and_from}
use Rattle.std.proofs.lemmas.Nat.{and_or_self, and_or_apart}
use Rattle.std.proofs.Math.Nat.{eq-or-lt_of_le, mod-eq_of_lt}
use Rattle.rx_model.specs.Message.{IsBytes, has_flag}
use Rattle.rx_model.specs.Reading.{number_at}
use Rattle.rx_model.specs.Spelling.{header_bytes}
use Rattle.rx_model.proofs.Fronts.{fits4}
use Rattle.rx_jumbo.specs.Parts.{checksum_place, flags_place, header_of, is_data_datagram, is_followed, is_jumbo}
use Rattle.rx_jumbo.specs.Parts.{own_flags, part_at, part_place, part_bytes}
use Rattle.rx_jumbo.specs.JoinerState.{same_call, spare_place}
use Rattle.rx_jumbo.specs.Text.{IsJoin, extended, goes_on, link_and_bytes, marked}
use Rattle.rx_jumbo.proofs.HeadLaws.{SameCall, SameHead, call_found, flags_stay, is_kind, is_long, laid_out, same_head}
use Rattle.rx_jumbo.proofs.Places.{checksum_before, flags_before, flags_behind, flags_outside, lower, same_bytes}
use Rattle.rx_jumbo.proofs.Places.{same_number, spare_apart}

-- a datagram goes on behind a full piece
pub record GoesOn (t : List ℕ) (last : ℕ) (d : List ℕ) : Type 0 where
  pub whole : is_data_datagram d ≡ true
  pub call : SameCall t d
  pub seq : (header_of t).seq + suc last ≡ (header_of d).seq
  pub serial : (header_of t).serial + suc last ≡ (header_of d).serial
  pub full : length t ≡ part_place last + 1412

pub on_found : (t : List ℕ) (last : ℕ) (d : List ℕ) → goes_on t last d ≡ true → length t ≡ part_place last + 1412 →
    GoesOn t last d
on_found t last d h full =
    let both = and_parts (is_data_datagram t && is_data_datagram d) _ h in
    let each = and_parts (is_data_datagram t) (is_data_datagram d) both.0 in
    let call = and_parts (same_call t d) _ both.1 in
    let seq = and_parts ((header_of t).seq + suc last == (header_of d).seq) _ call.1 in
    record {
      whole = each.1;
      call = call_found t d call.0;
      seq = eqb-true _ _ seq.0;
      serial = eqb-true _ _ seq.1;
      full = full;
    }

-- ---- bytes of the extended text

module _ (t : List ℕ) (last : ℕ) (d : List ℕ) (join : IsJoin t last) (on : GoesOn t last d) where
  mark_within : flags_place last < length t
  mark_within = omega (arith, flags_before last, checksum_before last, join.reaches)

  marked_length : length (marked t last) ≡ length t
  marked_length = length-set t (flags_place last) (bit_or (slice_index t (flags_place last)) 32)

  -- before the new part all stays but the flags of the last one
  pub stays : (j : ℕ) → j < length t → (j ≡ flags_place last → ⊥) → get_or (extended t last d) j 0 ≡ get_or t j 0
  stays j below other =
      get_or_append_left (marked t last) (link_and_bytes d) 0 j (omega (arith, marked_length))
      ∙ get_or-set_other t (flags_place last) j (bit_or (slice_index t (flags_place last)) 32) 0 other

  pub mark : get_or (extended t last d) (flags_place last) 0 ≡ bit_or (slice_index t (flags_place last)) 32
  mark =
      get_or_append_left (marked t last) (link_and_bytes d) 0 (flags_place last)
      (omega (arith, marked_length, mark_within))
      ∙ get_or-set_same t (flags_place last) (bit_or (slice_index t (flags_place last)) 32) 0 mark_within

  -- behind it stands the link with its bytes
  pub added : (j : ℕ) → get_or (extended t last d) (length t + j) 0 ≡ get_or (link_and_bytes d) j 0
  added j =
      let moved : length t + j - length t ≡ j = omega arith in
      get_or-append_right (marked t last) (link_and_bytes d) (length t) (length t + j) 0 marked_length (omega arith)
      ∙ ap (λ (i : ℕ). get_or (link_and_bytes d) i 0) moved

  pub extended_length : length (extended t last d) + 24 ≡ length t + length d
  extended_length =
      let both = length-append (marked t last) (link_and_bytes d) in
      omega (arith, both, marked_length, length-drop 28 d, is_long d on.whole)

  pub extended_head : SameHead (extended t last d) t
  extended_head =
      same_head (extended t last d) t (λ j below other.
      stays j (omega (arith, join.reaches)) (flags_outside last j below other))

  -- ---- the parts that were there

  pub followed_stays : (k : ℕ) → k < last → is_followed (extended t last d) k ≡ is_followed t k
  followed_stays k below =
      let behind = flags_behind k last below in
      ap (has_flag 32) (stays (flags_place k) (omega (arith, flags_before k, checksum_before k, behind, mark_within))
      (λ same. omega (arith, flags_before k, checksum_before k, behind)))

  pub followed_now : is_followed (extended t last d) last ≡ true
  followed_now =
      ap (has_flag 32) mark ∙ ap (λ (n : ℕ). not (n == 0)) (and_or_self 32 (slice_index t (flags_place last)))

  followed_by : (k : ℕ) → (k ≡ last) ⊎ (k < last) → is_followed (extended t last d) k ≡ true
  followed_by k (inl same) = ap (is_followed (extended t last d)) same ∙ followed_now
  followed_by k (inr below) = followed_stays k below ∙ join.followed k below

  flags_by : (k : ℕ) → (k ≡ last) ⊎ (k < last) → own_flags (extended t last d) k ≡ own_flags t k
  flags_by k (inl same) =
      ap (own_flags (extended t last d)) same ∙ ap (λ (f : ℕ). bit_and f 223) mark
      ∙ and_or_apart 223 (slice_index t (flags_place last)) 32 refl ∙ ap (own_flags t) (sym same)
  flags_by k (inr below) =
      let behind = flags_behind k last below in
      ap (λ (f : ℕ). bit_and f 223)
      (stays (flags_place k) (omega (arith, flags_before k, checksum_before k, behind, mark_within))
      (λ same. omega (arith, flags_before k, checksum_before k, behind)))

  -- the place of the flags is none of those of a checksum, nor of a part's bytes
  apart_by : (k j : ℕ) → (k ≡ last) ⊎ (k < last) → checksum_place k ≤ j → j < part_place k + 1412 →
      j ≡ flags_place last → ⊥
  apart_by k j (inl same) low high at =
      let before = flags_before k in
      let equal : flags_place k ≡ flags_place last = ap flags_place same in
      omega (arith, before, equal)
  apart_by k j (inr below) low high at = omega (arith, flags_behind k last below)

  within_by : (k : ℕ) → (k ≡ last) ⊎ (k < last) → part_place k + 1412 ≤ length t
  within_by k (inl same) = let equal : part_place k ≡ part_place last = ap part_place same in omega (arith, on.full)
  within_by k (inr below) = omega (arith, on.full)

  checksum_by : (k : ℕ) → (k ≡ last) ⊎ (k < last) →
      number_at 2 (checksum_place k) (extended t last d) ≡ number_at 2 (checksum_place k) t
  checksum_by k place =
      same_number 2 (checksum_place k) (checksum_place k) (extended t last d) t (λ j below.
      stays (checksum_place k + j) (omega (arith, checksum_before k, within_by k place))
      (apart_by k (checksum_place k + j) place (omega arith) (omega (arith, checksum_before k))))

  -- each part that was there has a full piece
  piece_by : (k : ℕ) → (k ≡ last) ⊎ (k < last) → part_bytes t k ≡ take 1412 (drop (part_place k) t)
  piece_by k (inl same) =
      let alone : is_followed t k ≡ false = ap (is_followed t) same ∙ join.ends in
      let equal : part_place k ≡ part_place last = ap part_place same in
      let rest : List ℕ = drop (part_place k) t in
      let all : take 1412 rest ≡ rest =
      take_all 1412 rest (omega (arith, length-drop (part_place k) t, on.full)) in
      ap (λ (b : Bool). cond b (take 1412 rest) rest) alone ∙ sym all
  piece_by k (inr below) =
      let rest : List ℕ = drop (part_place k) t in
      ap (λ (b : Bool). cond b (take 1412 rest) rest) (join.followed k below)

  payload_by : (k : ℕ) → (k ≡ last) ⊎ (k < last) → part_bytes (extended t last d) k ≡ part_bytes t k
  payload_by k place =
      let rest : List ℕ = drop (part_place k) (extended t last d) in
      let within = within_by k place in
      let long : length t ≤ length (extended t last d) = omega (arith, extended_length, is_long d on.whole) in
      ap (λ (b : Bool). cond b (take 1412 rest) rest) (followed_by k place)
      ∙ same_bytes 1412 (part_place k) (extended t last d) t (omega (arith, within, long)) within (λ j low high.
      stays j (omega (arith, within)) (apart_by k j place (omega (arith, checksum_before k)) high))
      ∙ sym (piece_by k place)

  -- a part that was there stays as it was
  pub part_stays : (k : ℕ) → k ≤ last → part_at (extended t last d) k ≡ part_at t k
  part_stays k low =
      let place = eq-or-lt_of_le low in
      let head = extended_head in
      let flags = flags_by k place in
      let checksum = checksum_by k place in
      let payload = payload_by k place in
      λ i. header_bytes (record (header_of t) {
        epoch = head.call.epoch i;
        cid = head.call.cid i;
        number = head.call.number i;
        seq = head.seq i + k;
        serial = (head.serial i + k) % 2 ^ 32;
        index = head.call.index i;
        service = head.call.service i;
      }) (flags i) (head.call.status i) (checksum i) (payload i)

  -- ---- the new part

  new_flags : get_or (extended t last d) (flags_place (suc last)) 0 ≡ slice_index d 21
  new_flags =
      let at : flags_place (suc last) ≡ length t + 0 = omega (arith, on.full) in
      ap (λ (j : ℕ). get_or (extended t last d) j 0) at ∙ added 0

  pub new_alone : is_jumbo d ≡ false → is_followed (extended t last d) (suc last) ≡ false
  new_alone single =
      ap (has_flag 32) new_flags ∙ sym (ap (λ (b : Bool). b && is_followed d 0) on.whole) ∙ single

  link_byte : (j : ℕ) → j < 2 → get_or (link_and_bytes d) (2 + j) 0 ≡ get_or d (24 + j) 0
  link_byte zero below = refl
  link_byte (suc zero) below = refl
  link_byte (suc (suc j)) below = absurd (omega arith)

  new_checksum : number_at 2 (checksum_place (suc last)) (extended t last d) ≡ number_at 2 24 d
  new_checksum =
      same_number 2 (checksum_place (suc last)) 24 (extended t last d) d (λ j below.
      let at : checksum_place (suc last) + j ≡ length t + (2 + j) = omega (arith, on.full) in
      ap (λ (i : ℕ). get_or (extended t last d) i 0) at ∙ added (2 + j) ∙ link_byte j below)

  new_payload : is_jumbo d ≡ false → part_bytes (extended t last d) (suc last) ≡ drop 28 d
  new_payload single =
      let text : List ℕ = extended t last d in
      let at : part_place (suc last) ≡ length t + 4 = omega (arith, on.full) in
      let rest : List ℕ = drop (part_place (suc last)) text in
      ap (λ (b : Bool). cond b (take 1412 rest) rest) (new_alone single)
      ∙ ap (λ (n : ℕ). drop n text) at ∙ sym (drop-drop 4 (length t) text)
      ∙ ap (drop 4) (drop_at (marked t last) (link_and_bytes d) (length t) marked_length)

  -- the new part is the datagram
  pub part_new : IsBytes d → is_jumbo d ≡ false → part_at (extended t last d) (suc last) ≡ d
  part_new fits single =
      let head = extended_head in
      let alone : has_flag 32 (slice_index d 21) ≡ false =
      sym (ap (λ (b : Bool). b && is_followed d 0) on.whole) ∙ single in
      let epoch = head.call.epoch ∙ on.call.epoch in
      let cid = head.call.cid ∙ on.call.cid in
      let number = head.call.number ∙ on.call.number in
      let seq = ap (λ (n : ℕ). n + suc last) head.seq ∙ on.seq in
      let serial =
      ap (λ (n : ℕ). (n + suc last) % 2 ^ 32) head.serial ∙ ap (λ (n : ℕ). n % 2 ^ 32) on.serial
      ∙ mod-eq_of_lt (fits4 16 d fits) in
      let status = head.call.status ∙ on.call.status in
      let index = head.call.index ∙ on.call.index in
      let service = head.call.service ∙ on.call.service in
      let flags = ap (λ (f : ℕ). bit_and f 223) new_flags ∙ flags_stay (slice_index d 21) (fits 21) alone in
      let checksum = new_checksum in
      let payload = new_payload single in
      let same : part_at (extended t last d) (suc last)
      ≡ header_bytes (header_of d) (slice_index d 21) (slice_index d 22) (number_at 2 24 d) (drop 28 d) =
      λ i. header_bytes (record (header_of d) {
        epoch = epoch i;
        cid = cid i;
        number = number i;
        seq = seq i;
        serial = serial i;
        index = index i;
        service = service i;
      }) (flags i) (status i) (checksum i) (payload i) in
      same ∙ sym (laid_out d (is_long d on.whole) fits (is_kind d on.whole))

  -- ---- the extended text is joined

  spare_by : (k : ℕ) → 0 < k → (k ≡ suc last) ⊎ (k < suc last) → slice_index (extended t last d) (spare_place k) ≡ 0
  spare_by k some (inl same) =
      let at : spare_place k ≡ length t + 1 = omega (arith, on.full, ap part_place same) in
      ap (λ (j : ℕ). get_or (extended t last d) j 0) at ∙ added 1
  spare_by k some (inr below) =
      stays (spare_place k) (omega (arith, on.full)) (spare_apart k last some below)
      ∙ join.spares k some (omega arith)

  data_stays : is_data_datagram (extended t last d) ≡ true
  data_stays =
      let kind : slice_index (extended t last d) 20 ≡ 1 =
      stays 20 (omega (arith, join.reaches)) (flags_outside last 20 (omega arith) (λ same. omega arith))
      ∙ is_kind t join.whole in
      let long : 28 ≤ length (extended t last d) = omega (arith, extended_length, join.reaches, is_long d on.whole) in
      and_from _ _ (le-leb 28 (length (extended t last d)) long) (ap (λ (k : ℕ). k == 1) kind)

  pub extended_join : IsBytes d → is_jumbo d ≡ false → length d ≤ 1472 → suc last < 16 →
      IsJoin (extended t last d) (suc last)
  extended_join fits single small few =
      record {
        whole = data_stays;
        followed = λ k below. followed_by k (eq-or-lt_of_le (lower k last below));
        ends = new_alone single;
        few = few;
        reaches = omega (arith, extended_length, on.full, is_long d on.whole);
        room = omega (arith, extended_length, on.full, small);
        seq = rw (ap (λ (n : ℕ). n + suc last) extended_head.seq ∙ on.seq) (fits4 12 d fits);
        serial = rw (ap (λ (n : ℕ). n + suc last) extended_head.serial ∙ on.serial) (fits4 16 d fits);
        spares = λ k some low. spare_by k some (eq-or-lt_of_le low);
      }
