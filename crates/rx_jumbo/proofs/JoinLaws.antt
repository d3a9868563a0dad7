-- The datagrams of a joined text.
use Rattle.std.proofs.Common.{◌≡◌, ◌<◌, ◌≤◌, ◌+◌, ◌-◌, ◌==◌, ◌&&◌, ◌++◌, ◌∷◌, [], ℕ, zero, suc, Bool, true, false}
use Rattle.std.proofs.Common.{cond, List, length, take, drop, map, ap, sym, ◌∙◌, refl, arith, get_or, length-drop}
use Rattle.std.proofs.lemmas.Bool.{and_from}
use Rattle.std.proofs.lemmas.List.FromFn.{get_or-map-range_with_len, length-map-range_with_len, map-range_with_len_more}
use Rattle.std.specs.List.{range_with_len}
use Rattle.rx_model.specs.Message.{IsBytes}
use Rattle.rx_model.proofs.Fronts.{fits4}
use Rattle.rx_jumbo.specs.JoinerState.{continues, last_datagram, same_call}
use Rattle.rx_jumbo.specs.Parts.{SplitsAt, header_of, is_data_datagram, is_followed, is_jumbo, part_at, part_place}
use Rattle.rx_jumbo.specs.Parts.{parts_of, part_bytes}
use Rattle.rx_jumbo.specs.Text.{IsJoin, extended, goes_on}
use Rattle.rx_jumbo.proofs.Extended.{GoesOn, extended_join, part_new, part_stays}
use Rattle.rx_jumbo.proofs.FindLaws.{same_in_range}
use Rattle.rx_jumbo.proofs.HeadLaws.{call_alike, first_whole, is_long, part_call, part_data, part_length, part_seq}
use Rattle.rx_jumbo.proofs.HeadLaws.{part_serial}
use Rattle.rx_jumbo.proofs.SplitLaws.{parts_split, single_alone}

and_false : (t : Bool) → (t && false) ≡ false
and_false true = refl
and_false false = refl

-- DATA that nothing follows is not jumbo
plain : (b : List ℕ) → is_followed b 0 ≡ false → is_jumbo b ≡ false
plain b h = ap (λ (t : Bool). is_data_datagram b && t) h ∙ and_false (is_data_datagram b)

join_splits : (t : List ℕ) (last : ℕ) → IsJoin t (suc last) → SplitsAt t (suc last)
join_splits t last join =
    record {
      jumbo = and_from (is_data_datagram t) (is_followed t 0) join.whole (join.followed 0 (omega arith));
      followed = join.followed;
      ends = join.ends;
      few = join.few;
      room = λ k below. omega (arith, join.reaches);
      seqs = join.seq;
    }

-- the parts of a joined text
pub join_parts : (t : List ℕ) (last : ℕ) → IsBytes t → IsJoin t last →
    parts_of t ≡ map (part_at t) (range_with_len 0 (suc last))
join_parts t zero fits join =
    let whole = first_whole t fits join.whole join.ends in
    single_alone t (plain t join.ends) ∙ (λ i. sym whole i ∷ [])
join_parts t (suc last) fits join = parts_split t (suc last) (join_splits t last join)

pub join_count : (t : List ℕ) (last : ℕ) → IsJoin t last → length (parts_of t) ≡ suc last
join_count t zero join = ap (λ (ds : List (List ℕ)). length ds) (single_alone t (plain t join.ends))
join_count t (suc last) join =
    ap (λ (ds : List (List ℕ)). length ds) (parts_split t (suc last) (join_splits t last join))
    ∙ length-map-range_with_len (part_at t) 0 (suc (suc last))

-- the last datagram is the last part
pub join_last_datagram : (t : List ℕ) (last : ℕ) → IsBytes t → IsJoin t last →
    last_datagram (parts_of t) ≡ part_at t last
join_last_datagram t last fits join =
    let at : length (parts_of t) - 1 ≡ last = omega (arith, join_count t last join) in
    ap (λ (i : ℕ). get_or (parts_of t) i []) at
    ∙ ap (λ (ds : List (List ℕ)). get_or ds last []) (join_parts t last fits join)
    ∙ get_or-map-range_with_len (part_at t) 0 (suc last) last last [] (omega arith) (omega arith)

-- one more datagram that goes on is one more part
pub extended_parts : (t : List ℕ) (last : ℕ) (d : List ℕ) → IsBytes t → IsBytes d →
    IsJoin t last → GoesOn t last d → is_jumbo d ≡ false → length d ≤ 1472 → suc last < 16 →
    parts_of (extended t last d) ≡ parts_of t ++ d ∷ []
extended_parts t last d t_fits d_fits join on single small few =
    let text : List ℕ = extended t last d in
    let new = part_new t last d join on d_fits single in
    let longer = extended_join t last d join on d_fits single small few in
    let size : suc (suc last) ≡ suc last + 1 = omega arith in
    let more : map (part_at text) (range_with_len 0 (suc (suc last)))
    ≡ map (part_at text) (range_with_len 0 (suc last)) ++ part_at text (suc last) ∷ [] =
    ap (λ (n : ℕ). map (part_at text) (range_with_len 0 n)) size
    ∙ map-range_with_len_more (part_at text) 0 (suc last) (suc last) (omega arith) in
    let old : map (part_at text) (range_with_len 0 (suc last)) ≡ parts_of t =
    same_in_range (part_at text) (part_at t) (suc last) 0 (λ k low below. part_stays t last d join on k (omega arith))
    ∙ sym (join_parts t last t_fits join) in
    parts_split text (suc last) (join_splits text last longer) ∙ more ∙ (λ i. old i ++ new i ∷ [])

-- ---- which datagram follows

-- a part that none follows has the rest of the text
last_payload : (t : List ℕ) (last : ℕ) → IsJoin t last → length (part_bytes t last) ≡ length t - part_place last
last_payload t last join =
    let rest : List ℕ = drop (part_place last) t in
    ap (λ (b : Bool). length (cond b (take 1412 rest) rest)) join.ends ∙ length-drop (part_place last) t

-- how long the last datagram is
pub last_length : (t : List ℕ) (last : ℕ) → IsBytes t → IsJoin t last →
    length (last_datagram (parts_of t)) + part_place last ≡ 28 + length t
last_length t last fits join =
    let same = ap (λ (x : List ℕ). length x) (join_last_datagram t last fits join) in
    omega (arith, same, part_length t last, last_payload t last join, join.reaches)

-- a datagram continues the last part exactly where it goes on
pub goes_on_continues : (t : List ℕ) (last : ℕ) (d : List ℕ) → IsBytes t → IsJoin t last →
    goes_on t last d ≡ continues (part_at t last) d
goes_on_continues t last d fits join =
    let p : List ℕ = part_at t last in
    let whole : is_data_datagram t ≡ is_data_datagram p = join.whole ∙ sym (part_data t last) in
    let call : same_call t d ≡ same_call p d = sym (call_alike p t d (part_call t last fits)) in
    let seq_is = part_seq t last join.seq in
    let serial_is = part_serial t last join.serial in
    let seq : (header_of t).seq + suc last ≡ (header_of p).seq + 1 = omega (arith, seq_is) in
    let serial : (header_of t).serial + suc last ≡ (header_of p).serial + 1 = omega (arith, serial_is) in
    λ i. (whole i && is_data_datagram d)
    && (call i && ((seq i == (header_of d).seq) && (serial i == (header_of d).serial)))

-- DATA alone is a join
pub first_join : (d : List ℕ) → IsBytes d → is_data_datagram d ≡ true → is_jumbo d ≡ false → length d ≤ 1472 →
    IsJoin d 0
first_join d fits whole single small =
    record {
      whole = whole;
      followed = λ k below. absurd (omega arith);
      ends = sym (ap (λ (t : Bool). t && is_followed d 0) whole) ∙ single;
      few = omega arith;
      reaches = is_long d whole;
      room = omega arith;
      seq = omega (arith, fits4 12 d fits);
      serial = omega (arith, fits4 16 d fits);
      spares = λ k some low. absurd (omega arith);
    }
