-- What a joiner's buffer holds.
use Rattle.std.proofs.Common.{◌≡◌, ◌<◌, ◌≤◌, ◌+◌, ◌-◌, ◌==◌, ◌&&◌, ◌++◌, ◌∷◌, [], ◌⊎◌, inl, inr, ℕ, zero, suc, true}
use Rattle.std.proofs.Common.{false, List, length, take, ap, sym, ◌∙◌, refl, arith, get_or, slice_index}
use Rattle.std.proofs.lemmas.Bool.{and_left, and_parts, cases_Bool, cases_lt, false≢true, eqb-true}
use Rattle.std.proofs.lemmas.Bool.Decides.{nat_tests}
use Rattle.std.proofs.lemmas.List.{get_or-take, get_or_past, length-take-le}
use Rattle.rx_model.specs.Message.{IsBytes}
use Rattle.rx_jumbo.specs.JoinerState.{JoinerState, continues, follows, has_full_piece, last_datagram, spare_place}
use Rattle.rx_jumbo.specs.Parts.{flags_place, is_data_datagram, is_followed, is_jumbo, part_place, parts_of}
use Rattle.rx_jumbo.specs.Text.{IsJoin, IsJoinerBuffer, datagrams_in, extended, goes_on}
use Rattle.rx_jumbo.proofs.Extended.{GoesOn, extended_join, on_found}
use Rattle.rx_jumbo.proofs.JoinLaws.{extended_parts, first_join, goes_on_continues, join_count, join_last_datagram}
use Rattle.rx_jumbo.proofs.JoinLaws.{last_length}
use Rattle.rx_jumbo.proofs.Places.{checksum_before, flags_before}
use Rattle.rx_jumbo.proofs.SplitLaws.{single_alone}

-- a text is DATA or not
abbrev IsEither : List ℕ → Type 0
IsEither t = (is_data_datagram t ≡ true) ⊎ (is_data_datagram t ≡ false)

either : (t : List ℕ) → IsEither t
either t = cases_Bool (is_data_datagram t)

-- what is no DATA is alone
no_data_alone : (t : List ℕ) → is_data_datagram t ≡ false → parts_of t ≡ t ∷ []
no_data_alone t h = single_alone t (and_left (is_data_datagram t) (is_followed t 0) h)

taken_by : (n i : ℕ) (bytes : List ℕ) → IsBytes bytes → (i < n) ⊎ (n ≤ i) → length (take n bytes) ≤ n →
    get_or (take n bytes) i 0 < 256
taken_by n i bytes fits (inl below) size = rw (get_or-take n bytes i 0 below) (fits i)
taken_by n i bytes fits (inr above) size = rw (get_or_past (take n bytes) i 0 (omega (arith, size))) (omega arith)

-- the length of the text, and its bytes
text_length : {most count len : ℕ} {bytes : List ℕ} → IsJoinerBuffer most count len bytes →
    length (take len bytes) ≡ len
text_length {len = len} {bytes = bytes} kept = length-take-le len bytes (omega (arith, kept.size, kept.within))

text_fits : {most count len : ℕ} {bytes : List ℕ} → IsJoinerBuffer most count len bytes → IsBytes (take len bytes)
text_fits {len = len} {bytes = bytes} kept =
    λ i. taken_by len i bytes kept.known (cases_lt i len) (omega (arith, text_length kept))

count_by : {most len last : ℕ} {bytes : List ℕ} → IsJoinerBuffer most (suc last) len bytes →
    IsEither (take len bytes) → length (parts_of (take len bytes)) ≡ suc last
count_by {len = len} {last = last} {bytes = bytes} kept (inl whole) =
    join_count (take len bytes) last (kept.joined last refl whole)
count_by {len = len} {last = last} {bytes = bytes} kept (inr none) =
    let one : suc last ≤ 1 = kept.alone none in
    ap (λ (ds : List (List ℕ)). length ds) (no_data_alone (take len bytes) none) ∙ omega (arith, one)

-- as many datagrams are held as are counted
pub count_held : {most count len : ℕ} {bytes : List ℕ} → IsJoinerBuffer most count len bytes →
    length (datagrams_in count (take len bytes)) ≡ count
count_held {count = zero} kept = refl
count_held {count = suc last} {len = len} {bytes = bytes} kept = count_by kept (either (take len bytes))

-- where some are held, they are the parts of the text
pub held_parts : (count : ℕ) (t : List ℕ) → 0 < count → datagrams_in count t ≡ parts_of t
held_parts zero t some = absurd (omega arith)
held_parts (suc last) t some = refl

continued_by : {most len last : ℕ} {bytes : List ℕ} (d : List ℕ) → IsJoinerBuffer most (suc last) len bytes →
    IsEither (take len bytes) →
    goes_on (take len bytes) last d ≡ continues (last_datagram (parts_of (take len bytes))) d
continued_by {len = len} {last = last} {bytes = bytes} d kept (inl whole) =
    let t : List ℕ = take len bytes in
    let join = kept.joined last refl whole in
    let latest = join_last_datagram t last (text_fits kept) join in
    goes_on_continues t last d (text_fits kept) join ∙ ap (λ (x : List ℕ). continues x d) (sym latest)
continued_by {len = len} {last = last} {bytes = bytes} d kept (inr none) =
    let t : List ℕ = take len bytes in
    let alone : last_datagram (parts_of t) ≡ t = ap last_datagram (no_data_alone t none) in
    let neither = and_left (is_data_datagram t) (is_data_datagram d) none in
    let no_join : goes_on t last d ≡ false = and_left (is_data_datagram t && is_data_datagram d) _ neither in
    let no_more : continues t d ≡ false = and_left (is_data_datagram t && is_data_datagram d) _ neither in
    no_join ∙ sym no_more ∙ ap (λ (x : List ℕ). continues x d) (sym alone)

-- a datagram continues the last one held exactly where it goes on
pub held_continued : {most count len : ℕ} {bytes : List ℕ} (d : List ℕ) → IsJoinerBuffer most count len bytes →
    0 < count →
    goes_on (take len bytes) (count - 1) d ≡ continues (last_datagram (datagrams_in count (take len bytes))) d
held_continued {count = zero} d kept some = absurd (omega arith)
held_continued {count = suc last} {len = len} {bytes = bytes} d kept some =
    let at : suc last - 1 ≡ last = omega arith in
    ap (λ (k : ℕ). goes_on (take len bytes) k d) at ∙ continued_by d kept (either (take len bytes))

-- where none is held none is continued, nor full
pub none_continues : (count : ℕ) (t d : List ℕ) → count ≡ 0 →
    continues (last_datagram (datagrams_in count t)) d ≡ false
none_continues zero t d none = refl
none_continues (suc last) t d none = absurd (omega arith)

pub none_full : (count : ℕ) (t : List ℕ) → count ≡ 0 → has_full_piece (last_datagram (datagrams_in count t)) ≡ false
none_full zero t none = refl
none_full (suc last) t none = absurd (omega arith)

length_by : {most len last : ℕ} {bytes : List ℕ} → IsJoinerBuffer most (suc last) len bytes →
    IsEither (take len bytes) → length (last_datagram (parts_of (take len bytes))) + part_place last ≡ 28 + len
length_by {len = len} {last = last} {bytes = bytes} kept (inl whole) =
    omega (arith, last_length (take len bytes) last (text_fits kept) (kept.joined last refl whole), text_length kept)
length_by {len = len} {last = last} {bytes = bytes} kept (inr none) =
    let first : last ≡ 0 = omega (arith, kept.alone none) in
    let place : part_place last ≡ 28 = ap part_place first in
    let alone = ap (λ (ds : List (List ℕ)). length (last_datagram ds)) (no_data_alone (take len bytes) none) in
    omega (arith, place, alone, text_length kept)

same_test : (a b m n : ℕ) → (a ≡ b → m ≡ n) → (m ≡ n → a ≡ b) → (a == b) ≡ (m == n)
same_test a b m n there back = grind (arith, nat_tests)

-- the last datagram held has a full piece exactly where the text ends with one
pub held_full : {most count len : ℕ} {bytes : List ℕ} → IsJoinerBuffer most count len bytes → 0 < count →
    (len == part_place (count - 1) + 1412) ≡ has_full_piece (last_datagram (datagrams_in count (take len bytes)))
held_full {count = zero} kept some = absurd (omega arith)
held_full {count = suc last} {len = len} {bytes = bytes} kept some =
    let at : part_place (suc last - 1) ≡ part_place last = omega arith in
    let size = length_by kept (either (take len bytes)) in
    same_test len (part_place (suc last - 1) + 1412) (length (last_datagram (parts_of (take len bytes)))) (28 + 1412)
    (λ same. omega (arith, at, size)) (λ same. omega (arith, at, size))

-- ---- the first datagram

module _ (most end : ℕ) (bytes d : List ℕ) where
  -- a buffer that begins with a datagram
  pub begun : take end bytes ≡ d → IsBytes bytes → length bytes ≡ 22712 → 1 ≤ most → most ≤ 16 → end ≤ 1472 → IsBytes d
      → is_jumbo d ≡ false → length d ≤ 1472 → IsJoinerBuffer most 1 end bytes
  begun text known size some few low fits single small =
      record {
        known = known;
        size = size;
        some = some;
        few = few;
        within = omega arith;
        counted = omega arith;
        alone = λ none. omega arith;
        joined = λ last counted whole.
            let first : last ≡ 0 = omega arith in
            let join = first_join d fits (sym (ap is_data_datagram text) ∙ whole) single small in
            rw (first, text) join;
      }

-- ---- one more datagram

-- what is held can take one more
pub record Grows (most count : ℕ) (t d : List ℕ) : Type 0 where
  pub last : ℕ
  pub room : count < most
  pub counted : count ≡ suc last
  pub before : count - 1 ≡ last
  pub join : IsJoin t last
  pub on : GoesOn t last d

grows_by : {most count len : ℕ} {bytes : List ℕ} (d : List ℕ) → IsJoinerBuffer most count len bytes → count < most →
    follows (last_datagram (datagrams_in count (take len bytes))) d ≡ true → Grows most count (take len bytes) d
grows_by {count = zero} d kept room h = absurd (false≢true h)
grows_by {count = suc last} {len = len} {bytes = bytes} d kept room h =
    let t : List ℕ = take len bytes in
    let last_one : List ℕ = last_datagram (parts_of t) in
    let parts = and_parts (has_full_piece last_one) (continues last_one d) h in
    let goes : goes_on t last d ≡ true = continued_by d kept (either t) ∙ parts.1 in
    let piece : length last_one ≡ 28 + 1412 = eqb-true (length last_one) (28 + 1412) parts.0 in
    let full : length t ≡ part_place last + 1412 =
    omega (arith, piece, length_by kept (either t), text_length kept) in
    let both = and_parts (is_data_datagram t && is_data_datagram d) _ goes in
    let whole = and_parts (is_data_datagram t) (is_data_datagram d) both.0 in
    record {
      last = last;
      room = room;
      counted = refl;
      before = omega arith;
      join = kept.joined last refl whole.0;
      on = on_found t last d goes full;
    }

-- a joiner that has room takes what follows its last datagram
pub grows : {most count len : ℕ} {bytes : List ℕ} (held : JoinerState) (d : List ℕ) →
    IsJoinerBuffer most count len bytes → most ≡ held.most → datagrams_in count (take len bytes) ≡ held.datagrams →
    length held.datagrams < held.most → follows (last_datagram held.datagrams) d ≡ true →
    Grows most count (take len bytes) d
grows held d kept most_is held_is room next =
    let count = count_held kept in
    let same = ap (λ (ds : List (List ℕ)). length ds) held_is in
    grows_by d kept (omega (arith, room, most_is, count, same))
    (ap (λ (ds : List (List ℕ)). follows (last_datagram ds) d) held_is ∙ next)

module _ {most count len : ℕ} {bytes d : List ℕ} (kept : IsJoinerBuffer most count len bytes) (fits : IsBytes d)
    (single : is_jumbo d ≡ false) (small : length d ≤ 1472) (g : Grows most count (take len bytes) d) where
  -- the flags of the last part stand in the text
  pub mark_there : flags_place (count - 1) < len
  mark_there =
      let place : flags_place (count - 1) ≡ flags_place g.last = ap flags_place g.before in
      omega (arith, place, text_length kept, flags_before g.last, checksum_before g.last, g.join.reaches)

  -- there is room for the datagram
  pub room_there : len + 4 + length d ≤ length bytes + 28
  room_there =
      omega (arith, text_length kept, g.on.full, kept.size, kept.few, g.counted, g.room)

  module _ (end : ℕ) (new : List ℕ) (known : IsBytes new) (same_size : length new ≡ length bytes)
      (grown : end + 28 ≡ len + 4 + length d) (text : take end new ≡ extended (take len bytes) (count - 1) d) where
    text_is : take end new ≡ extended (take len bytes) g.last d
    text_is = text ∙ ap (λ (k : ℕ). extended (take len bytes) k d) g.before

    few : suc g.last < 16
    few = omega (arith, g.counted, g.room, kept.few)

    join_is : IsJoin (extended (take len bytes) g.last d) (suc g.last)
    join_is = extended_join (take len bytes) g.last d g.join g.on fits single small few

    -- the buffer with one more
    pub kept_grown : IsJoinerBuffer most (count + 1) end new
    kept_grown =
        record {
          known = known;
          size = same_size ∙ kept.size;
          some = kept.some;
          few = kept.few;
          within = omega (arith, room_there, kept.size);
          counted = omega (arith, g.room);
          alone = λ none. absurd (false≢true (sym none ∙ ap is_data_datagram text_is ∙ join_is.whole));
          joined = λ last counted whole.
              let at : last ≡ suc g.last = omega (arith, g.counted) in
              rw (at, text_is) join_is;
        }

    -- it holds one more
    pub parts_grown : datagrams_in (count + 1) (take end new) ≡ datagrams_in count (take len bytes) ++ d ∷ []
    parts_grown =
        let more = extended_parts (take len bytes) g.last d (text_fits kept) fits g.join g.on single small few in
        let old = held_parts count (take len bytes) (omega (arith, g.counted)) in
        held_parts (count + 1) (take end new) (omega arith) ∙ ap parts_of text_is ∙ more
        ∙ ap (λ (ds : List (List ℕ)). ds ++ d ∷ []) (sym old)

-- ---- the spare bytes

spare_by : {most count len : ℕ} {bytes : List ℕ} (k : ℕ) → IsJoinerBuffer most count len bytes → 0 < k → k < count →
    IsEither (take len bytes) → (spare_place k < len) × (slice_index (take len bytes) (spare_place k) ≡ 0)
spare_by {count = zero} k kept some below whole = absurd (omega arith)
spare_by {count = suc last} k kept some below (inl whole) =
    let join = kept.joined last refl whole in
    (omega (arith, text_length kept, join.reaches), join.spares k some (omega arith))
spare_by {count = suc last} k kept some below (inr none) =
    let one : suc last ≤ 1 = kept.alone none in
    absurd (omega arith)

-- the spare byte before a later part is 0, also in a copy of the text
pub spare_copied : {most count len : ℕ} {bytes : List ℕ} (k : ℕ) (new : List ℕ) →
    IsJoinerBuffer most count len bytes → 0 < k → k < count → take len new ≡ take len bytes →
    slice_index new (spare_place k) ≡ 0
spare_copied {len = len} {bytes = bytes} k new kept some below copy =
    let s = spare_by k kept some below (either (take len bytes)) in
    sym (get_or-take len new (spare_place k) 0 s.0) ∙ ap (λ (xs : List ℕ). get_or xs (spare_place k) 0) copy ∙ s.1
