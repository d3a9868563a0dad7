-- What completes some bytes can be bytes: beside a value whose content has other numbers stands one of bytes.
use Rattle.std.proofs.Common.{◌≡◌, ℕ, ℤ, zero, suc, ◌%◌, true, false, List, [], ◌∷◌, ◌++◌, length, map, replicate}
use Rattle.std.proofs.Common.{Option, Some, None, refl, sym, ap, ◌∙◌, arith}
use Rattle.std.specs.Int.{w32, w64, to_be_bytes, cast_unsigned}
use Rattle.std.proofs.lemmas.List.{length-map, map-append}
use Rattle.xdr_value.specs.declared.ty.Basic.TheVariants as basics
use Rattle.xdr_value.specs.Data.{Kind, Part, Choice, Datum, number, flag, octets, items, union, none, some, nothing}
use Rattle.xdr_value.specs.Data.{Data, end, more, Types}
use Rattle.xdr_value.specs.Heads.{Head, is_basic, is_struct, is_union, is_array, is_array_up_to, is_maybe, head_of}
use Rattle.xdr_value.specs.Heads.{arm_of, arm_kind}
use Rattle.xdr_value.specs.Fits.{Fits, PartsFit, AllFit, OctetsFit, ItemsFit, MaybeFits, UnionFits, ArmFits, tag_number}
use Rattle.xdr_value.specs.Fits.{count}
use Rattle.xdr_value.specs.Spelling.{word, padding, padded, number_spelling, octets_spelling, items_spelling}
use Rattle.xdr_value.specs.Spelling.{maybe_spelling, tag_spelling, arm_spelling, union_spelling, spelling}
use Rattle.xdr_value.specs.Spelling.{parts_spelling, all_spelling}
use Rattle.xdr_code.proofs.Bytes.{IsBytes, word_bytes, double_bytes, zero_bytes}

abbrev low : ℕ → ℕ
low b = b % 256

same : (bytes : List ℕ) → IsBytes bytes → map low bytes ≡ bytes
same [] fits = refl
same (b ∷ bytes) fits =
    let first : b % 256 ≡ b = omega (arith, fits zero) in
    rw (first, same bytes (λ i. fits (suc i))) refl

low_bytes : (bytes : List ℕ) → IsBytes (map low bytes)
low_bytes [] i = omega arith
low_bytes (b ∷ bytes) zero = omega arith
low_bytes (b ∷ bytes) (suc i) = low_bytes bytes i

behind : (a b c : List ℕ) → IsBytes a → b ≡ map low c → a ++ b ≡ map low (a ++ c)
behind a b c fits e = rw (map-append low a c, same a fits) (ap (λ (s : List ℕ). a ++ s) e)

-- ---- the value of bytes

abbrev mutual
  plain : Datum → Datum
  plain (number z) = number z
  plain (flag b) = flag b
  plain (octets bytes) = octets (map low bytes)
  plain (items vs) = items (plains vs)
  plain (union tag arm) = union tag (plain arm)
  plain none = none
  plain (some v) = some (plain v)
  plain nothing = nothing

  plains : Data → Data
  plains end = end
  plains (more v vs) = more (plain v) (plains vs)

count_plain : (vs : Data) → count (plains vs) ≡ count vs
count_plain end = refl
count_plain (more v vs) = ap suc (count_plain vs)

-- ---- it fits as well

octets_fit : (h : Head) (bytes : List ℕ) → OctetsFit h bytes → OctetsFit h (map low bytes)
octets_fit (is_basic (basics.Opaque n)) bytes h = length-map bytes low ∙ h
octets_fit (is_basic (basics.OpaqueUpTo n)) bytes h = rw (length-map bytes low) h
octets_fit (is_basic (basics.Text n)) bytes h = rw (length-map bytes low) h
octets_fit _ bytes h = absurd h

items_fit : (t : Types) (h : Head) (vs : Data) → ((ps : List Part) → PartsFit t ps vs → PartsFit t ps (plains vs))
    → ((k : Kind) → AllFit t k vs → AllFit t k (plains vs))
    → ItemsFit t h (λ ps. PartsFit t ps vs) (λ e. AllFit t e vs) (count vs)
    → ItemsFit t h (λ ps. PartsFit t ps (plains vs)) (λ e. AllFit t e (plains vs)) (count (plains vs))
items_fit t (is_struct ps) vs parts all h = parts ps h
items_fit t (is_array k m) vs parts all h = (count_plain vs ∙ h.0, all k h.1)
items_fit t (is_array_up_to k m) vs parts all h = rw (count_plain vs) (h.0, h.1, all k h.2)
items_fit t _ vs parts all h = absurd h

maybe_fits : (h : Head) (P Q : Kind → Type 0) → ((k : Kind) → P k → Q k) → MaybeFits h P → MaybeFits h Q
maybe_fits (is_maybe k) P Q go h = go k h
maybe_fits _ P Q go h = absurd h

arm_fits : (c : Option Choice) (P Q : Kind → Type 0) → ((k : Kind) → P k → Q k) → ArmFits c P → ArmFits c Q
arm_fits None P Q go h = absurd h
arm_fits (Some c) P Q go h = go (arm_kind c) h

union_fits : (h : Head) (tag : Datum) (P Q : Kind → Type 0) → ((k : Kind) → P k → Q k) → UnionFits h tag P
    → UnionFits h tag Q
union_fits (is_union s cs) tag P Q go h = (h.0, arm_fits (arm_of (tag_number tag) cs) P Q go h.1)
union_fits _ tag P Q go h = absurd h

mutual
  plain_fits : (t : Types) (d : Datum) (k : Kind) → Fits t k d → Fits t k (plain d)
  plain_fits t (number z) k h = h
  plain_fits t (flag b) k h = h
  plain_fits t (octets bytes) k h = octets_fit (head_of t k) bytes h
  plain_fits t (items vs) k h = items_fit t (head_of t k) vs (plain_parts t vs) (plain_all t vs) h
  plain_fits t (union tag arm) k h = union_fits (head_of t k) tag (λ e. Fits t e arm) (λ e. Fits t e (plain arm))
      (plain_fits t arm) h
  plain_fits t none k h = h
  plain_fits t (some v) k h = maybe_fits (head_of t k) (λ e. Fits t e v) (λ e. Fits t e (plain v)) (plain_fits t v) h
  plain_fits t nothing k h = h

  plain_parts : (t : Types) (vs : Data) (ps : List Part) → PartsFit t ps vs → PartsFit t ps (plains vs)
  plain_parts t end [] h = h
  plain_parts t end (p ∷ ps) h = absurd h
  plain_parts t (more v vs) [] h = absurd h
  plain_parts t (more v vs) (p ∷ ps) h = (plain_fits t v p.kind h.0, plain_parts t vs ps h.1)

  plain_all : (t : Types) (vs : Data) (k : Kind) → AllFit t k vs → AllFit t k (plains vs)
  plain_all t end k h = h
  plain_all t (more v vs) k h = (plain_fits t v k h.0, plain_all t vs k h.1)

-- ---- its spelling has the same bytes

number_same : (h : Head) (z : ℤ) → number_spelling h z ≡ map low (number_spelling h z)
number_same (is_basic basics.Hyper) z = sym (same (to_be_bytes w64 (cast_unsigned w64 z))
    (double_bytes (cast_unsigned w64 z)))
number_same (is_basic basics.Uhyper) z = sym (same (to_be_bytes w64 (cast_unsigned w64 z))
    (double_bytes (cast_unsigned w64 z)))
number_same _ z = sym (same (word (cast_unsigned w32 z)) (word_bytes (cast_unsigned w32 z)))

padded_same : (bytes : List ℕ) → padded (map low bytes) ≡ map low (padded bytes)
padded_same bytes = rw (
  length-map bytes low,
  map-append low bytes (replicate (padding (length bytes)) 0),
  same (replicate (padding (length bytes)) 0) (zero_bytes (padding (length bytes))),
) refl

counted_same : (bytes : List ℕ)
    → word (length (map low bytes)) ++ padded (map low bytes) ≡ map low (word (length bytes) ++ padded bytes)
counted_same bytes = ap (λ (n : ℕ). word n ++ padded (map low bytes)) (length-map bytes low) ∙ behind
    (word (length bytes)) (padded (map low bytes)) (padded bytes) (word_bytes (length bytes)) (padded_same bytes)

octets_same : (h : Head) (bytes : List ℕ) → octets_spelling h (map low bytes) ≡ map low (octets_spelling h bytes)
octets_same (is_basic (basics.Opaque n)) bytes = padded_same bytes
octets_same _ bytes = counted_same bytes

items_same : (h : Head) (p q : List Part → List ℕ) (a b : Kind → List ℕ) (n : ℕ)
    → ((ps : List Part) → q ps ≡ map low (p ps)) → ((k : Kind) → b k ≡ map low (a k))
    → items_spelling h q b n ≡ map low (items_spelling h p a n)
items_same (is_struct ps) p q a b n parts all = parts ps
items_same (is_array k m) p q a b n parts all = all k
items_same (is_array_up_to k m) p q a b n parts all = behind (word n) (b k) (a k) (word_bytes n) (all k)
items_same _ p q a b n parts all = refl

maybe_same : (h : Head) (a b : Kind → List ℕ) → ((k : Kind) → b k ≡ map low (a k))
    → maybe_spelling h b ≡ map low (maybe_spelling h a)
maybe_same (is_maybe k) a b go = behind (word 1) (b k) (a k) (word_bytes 1) (go k)
maybe_same _ a b go = refl

arm_same : (c : Option Choice) (a b : Kind → List ℕ) → ((k : Kind) → b k ≡ map low (a k))
    → arm_spelling c b ≡ map low (arm_spelling c a)
arm_same None a b go = refl
arm_same (Some c) a b go = go (arm_kind c)

union_same : (h : Head) (tag : Datum) (a b : Kind → List ℕ) → ((k : Kind) → b k ≡ map low (a k))
    → union_spelling h tag b ≡ map low (union_spelling h tag a)
union_same (is_union s cs) tag a b go = behind (tag_spelling tag) (arm_spelling (arm_of (tag_number tag) cs) b)
    (arm_spelling (arm_of (tag_number tag) cs) a) (word_bytes (cast_unsigned w32 (tag_number tag)))
    (arm_same (arm_of (tag_number tag) cs) a b go)
union_same _ tag a b go = refl

mutual
  plain_same : (t : Types) (d : Datum) (k : Kind) → spelling t k (plain d) ≡ map low (spelling t k d)
  plain_same t (number z) k = number_same (head_of t k) z
  plain_same t (flag false) k = sym (same (word 0) (word_bytes 0))
  plain_same t (flag true) k = sym (same (word 1) (word_bytes 1))
  plain_same t (octets bytes) k = octets_same (head_of t k) bytes
  plain_same t (items vs) k = rw (count_plain vs) (items_same (head_of t k) (λ ps. parts_spelling t ps vs)
      (λ ps. parts_spelling t ps (plains vs)) (λ e. all_spelling t e vs) (λ e. all_spelling t e (plains vs)) (count vs)
      (parts_same t vs) (all_same t vs))
  plain_same t (union tag arm) k = union_same (head_of t k) tag (λ e. spelling t e arm) (λ e. spelling t e (plain arm))
      (plain_same t arm)
  plain_same t none k = sym (same (word 0) (word_bytes 0))
  plain_same t (some v) k = maybe_same (head_of t k) (λ e. spelling t e v) (λ e. spelling t e (plain v))
      (plain_same t v)
  plain_same t nothing k = refl

  parts_same : (t : Types) (vs : Data) (ps : List Part)
      → parts_spelling t ps (plains vs) ≡ map low (parts_spelling t ps vs)
  parts_same t vs [] = refl
  parts_same t end (p ∷ ps) = refl
  parts_same t (more v vs) (p ∷ ps) = rw (plain_same t v p.kind, parts_same t vs ps)
      (sym (map-append low (spelling t p.kind v) (parts_spelling t ps vs)))

  all_same : (t : Types) (vs : Data) (k : Kind) → all_spelling t k (plains vs) ≡ map low (all_spelling t k vs)
  all_same t end k = refl
  all_same t (more v vs) k = rw (plain_same t v k, all_same t vs k)
      (sym (map-append low (spelling t k v) (all_spelling t k vs)))

pub by_bytes : (t : Types) (k : Kind) (bytes : List ℕ) → IsBytes bytes → (d : Datum) (y : List ℕ) → Fits t k d
    → bytes ++ y ≡ spelling t k d
    → (e : Datum) × (z : List ℕ) × IsBytes z × Fits t k e × (bytes ++ z ≡ spelling t k e)
by_bytes t k bytes in_bytes d y fits is = (
  plain d,
  map low y,
  low_bytes y,
  plain_fits t d k fits,
  ap (λ (s : List ℕ). s ++ map low y)
      (sym (same bytes in_bytes)) ∙ sym (map-append low bytes y) ∙ ap (map low) is ∙ sym (plain_same t d k),
)
