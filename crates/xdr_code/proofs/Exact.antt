-- The exact reading says what each answer claims.
use Rattle.std.proofs.Common.{◌≡◌, ℕ, ◌+◌, ◌-◌, ◌≤◌, ◌<◌, List, ◌++◌, length, take, drop, Result, Ok, Err, refl, sym}
use Rattle.std.proofs.Common.{ap, subst, ◌∙◌, arith, inl, inr, ◌⊎◌, true}
use Rattle.std.specs.Prelude.{IsTrue}
use Rattle.std.proofs.lemmas.Bool.{cases_lt}
use Rattle.std.proofs.lemmas.List.{length-append, length-drop, take-append-drop}
use Rattle.xdr_value.specs.Data.{Kind, Datum, Types}
use Rattle.xdr_value.specs.View.{value_of}
use Rattle.xdr_value.specs.Fits.{Fits, depth}
use Rattle.xdr_value.specs.Spelling.{spelling}
use Rattle.xdr_code.specs.declared.fault.Why.{Why}
use Rattle.xdr_code.specs.declared.fault.Fault.{Fault}
use Rattle.xdr_code.specs.declared.fault.Fault.TheVariants as faults
use Rattle.xdr_code.specs.declared.front.Front.{Front}
use Rattle.xdr_code.specs.declared.front.Front.TheVariants.{Whole, Short, Bad, Deep, OutOfMemory}
use Rattle.xdr_code.specs.Reading.{value_at}
use Rattle.xdr_code.specs.Reading as reading
use Rattle.xdr_code.specs.Opens.{Opens}
use Rattle.xdr_value.specs.Data.{Procs}
use Rattle.xdr_value.specs.Tests.{is_sound, is_known}
use Rattle.xdr_value.proofs.Filled.{sound_values}
use Rattle.xdr_code.specs.Answers.{IsRead, Agrees, BeginsValue, Tells, IsWhole, IsDeep, IsBad, IsShort}
use Rattle.xdr_code.proofs.Bytes.{IsBytes, IsBytes-take, IsBytes-drop}
use Rattle.xdr_code.proofs.Again.{again}
use Rattle.xdr_code.proofs.Relations.{Stays, Ends, Deepens}
use Rattle.xdr_code.proofs.Stays.{value_stays}
use Rattle.xdr_code.proofs.Ends.{value_ends}
use Rattle.xdr_code.proofs.Completed.{by_bytes}
use Rattle.xdr_code.proofs.Deeper.{value_deepens, value_opens}
use Rattle.xdr_code.specs.Reaches.{Reaches}
use Rattle.xdr_code.proofs.Reached.{Faulty, value_faults, value_stops}
use Rattle.xdr_code.proofs.Places.{read_front, refused_within}

-- the reading of what is spelled
spelled : (t : Types) (k : Kind) (d : Datum) (z : List ℕ) → Fits t k d
    → ((depth d ≤ 64) × (value_at 64 t k (spelling t k d ++ z) ≡ Ok (d, z))) ⊎
    ((64 < depth d) × (value_at 64 t k (spelling t k d ++ z) ≡ Err faults.Deep))
spelled t k d z fits =
    let a = again d 64 t k z fits in
    elim (cases_lt 64 (depth d)) [
      | inl lt ↦ inr (lt, a.1 lt)
      | inr le ↦ inl (le, a.0 le)
    ]

stayed : (t : Types) (k : Kind) (bytes y : List ℕ) → IsBytes y → (r : reading.AtFront Datum) → value_at 64 t k bytes ≡ r
    → Stays y r (value_at 64 t k (bytes ++ y))
stayed t k bytes y fits r e = subst (λ (s : reading.AtFront Datum). Stays y s (value_at 64 t k (bytes ++ y))) e
    (value_stays 64 t y fits k bytes)

no_value : (t : Types) (k : Kind) (bytes : List ℕ) (left : ℕ) (why : Why)
    → value_at 64 t k bytes ≡ Err (faults.Bad left why) → (d : Datum) → Agrees t k bytes d → ⊥
no_value t k bytes left why e d (fits, y, z, y_fits, is) =
    let a = stayed t k bytes y y_fits (Err (faults.Bad left why)) e in
    elim (spelled t k d z fits) [
      | inl p ↦ absurd (cc (p.1, a.1, ap (value_at 64 t k) is))
      | inr p ↦ absurd (cc (p.1, a.1, ap (value_at 64 t k) is))
    ]

deeper : (t : Types) (k : Kind) (bytes : List ℕ) → value_at 64 t k bytes ≡ Err faults.Deep → (d : Datum)
    → Agrees t k bytes d → 64 < depth d
deeper t k bytes e d (fits, y, z, y_fits, is) =
    let a : value_at 64 t k (bytes ++ y) ≡ Err faults.Deep = stayed t k bytes y y_fits (Err faults.Deep) e in
    elim (spelled t k d z fits) [
      | inl p ↦ absurd (cc (p.1, a, ap (value_at 64 t k) is))
      | inr p ↦ p.0
    ]

no_front : (t : Types) (k : Kind) (bytes : List ℕ) → value_at 64 t k bytes ≡ Err faults.Short
    → (d : Datum) (z : List ℕ) → Fits t k d → bytes ≡ spelling t k d ++ z → ⊥
no_front t k bytes e d z fits is =
    elim (spelled t k d z fits) [
      | inl p ↦ absurd (cc (p.1, e, ap (value_at 64 t k) is))
      | inr p ↦ absurd (cc (p.1, e, ap (value_at 64 t k) is))
    ]

-- before the place of a refused item the bytes only run short
abbrev as_bad : ℕ → Why → reading.AtFront Datum
as_bad left why = Err (faults.Bad left why)

bad_left : (m n : ℕ) (v w : Why) → as_bad m v ≡ as_bad n w → m ≡ n
bad_left m n v w e = cc

placed_at : (t : Types) (k : Kind) (front y : List ℕ) (why : Why) (r : reading.AtFront Datum)
    → value_at 64 t k front ≡ r
    → IsBytes y → IsBytes front → value_at 64 t k (front ++ y) ≡ Err (faults.Bad (length y) why)
    → value_at 64 t k front ≡ Err faults.Short
placed_at t k front y why (Ok x) e y_fits fits h = absurd (cc (stayed t k front y y_fits (Ok x) e, h))
placed_at t k front y why (Err faults.Deep) e y_fits fits h = absurd
    (cc (stayed t k front y y_fits (Err faults.Deep) e, h))
placed_at t k front y why (Err faults.Short) e y_fits fits h = e
placed_at t k front y why (Err (faults.Bad left w)) e y_fits fits h =
    let within = refused_within t k front left w fits e in
    let after = stayed t k front y y_fits (Err (faults.Bad left w)) e in
    let same : left + length y ≡ length y = bad_left (left + length y) (length y) after.0 why (sym after.1 ∙ h) in
    absurd (omega (arith, within.0, same))

placed : (t : Types) (k : Kind) (bytes : List ℕ) (at : ℕ) (why : Why) → at < length bytes → IsBytes bytes
    → value_at 64 t k bytes ≡ Err (faults.Bad (length bytes - at) why)
    → value_at 64 t k (take at bytes) ≡ Err faults.Short
placed t k bytes at why lt fits e =
    let len : length (drop at bytes) ≡ length bytes - at = length-drop at bytes in
    placed_at t k (take at bytes) (drop at bytes) why (value_at 64 t k (take at bytes)) refl
    (IsBytes-drop at bytes fits) (IsBytes-take at bytes fits) (rw (take-append-drop at bytes, len) e)

-- bytes that run short can be completed by bytes
begun : (t : Types) (procs : Procs) (k : Kind) (bytes : List ℕ) → IsTrue (is_sound t procs) → IsTrue (is_known t k)
    → IsBytes bytes → value_at 64 t k bytes ≡ Err faults.Short → BeginsValue t k bytes
begun t procs k bytes sound known fits h =
    let e : Ends bytes (spelling t k) (Fits t k) (Err faults.Short) = subst
    (λ (r : reading.AtFront Datum). Ends bytes (spelling t k) (Fits t k) r) h
    (value_ends 64 t (λ e. is_known t e ≡ true) (sound_values t procs sound) k bytes known fits) in
    by_bytes t k bytes fits e.0 e.1 e.2 e.3

pub tells : (t : Types) (procs : Procs) (k : Kind) (bytes : List ℕ) (f : Front) → IsTrue (is_sound t procs)
    → IsTrue (is_known t k) → IsBytes bytes → IsRead t k bytes f → Tells t k bytes f
tells t procs k bytes (Whole v used) sound known fits h =
    let r = read_front t k bytes (value_of v) (drop used bytes) fits h.1 in
    let n : length bytes - length (drop used bytes) ≡ used = omega (arith, length-drop used bytes, h.0) in
    (h.0, rw n at r.spells)
tells t procs k bytes Short sound known fits h = (
  no_front t k bytes h,
  begun t procs k bytes sound known fits h,
  subst
      (λ (r : reading.AtFront Datum). Faulty (λ f. Reaches f 64 t k bytes) r) h (value_faults 64 t k bytes fits),
)
tells t procs k bytes (Bad at why) sound known fits h = (
  h.0,
  begun t procs k (take at bytes) sound known (IsBytes-take at bytes fits)
      (placed t k bytes at why h.0 fits h.1),
  no_value t k bytes (length bytes - at) why h.1,
  subst
      (λ (r : reading.AtFront Datum). Faulty (λ f. Reaches f 64 t k bytes) r) h.1 (value_faults 64 t k bytes fits),
)
tells t procs k bytes Deep sound known fits h = (
  subst (λ (r : reading.AtFront Datum). Deepens (Opens 64 t k bytes) r) h (value_deepens 64 t k bytes fits),
  deeper t
      k bytes h,
)
tells t procs k bytes OutOfMemory sound known fits h = tt

ok_parts : {A B : Type 0} (a c : A) (b d : B) (r : Result (A × B) Fault) → r ≡ Ok (a, b) → r ≡ Ok (c, d)
    → (a ≡ c) × (b ≡ d)
ok_parts {A} {B} a c b d r e f =
    let x : A × B = (a, b) in
    let y : A × B = (c, d) in
    let p : x ≡ y = cc (e, f) in
    (ap (λ (q : A × B). q.0) p, ap (λ (q : A × B). q.1) p)

whole_of : (t : Types) (k : Kind) (bytes : List ℕ) (f : Front) → IsRead t k bytes f → (d : Datum) (rest : List ℕ)
    → bytes ≡ spelling t k d ++ rest → value_at 64 t k bytes ≡ Ok (d, rest) → IsWhole d (length (spelling t k d)) f
whole_of t k bytes (Whole v used) h d rest is e =
    let same = ok_parts (value_of v) d (drop used bytes) rest (value_at 64 t k bytes) h.1 e in (
      same.0,
      omega (
        arith,
        h.0,
        length-drop used bytes,
        ap length same.1,
        ap length is,
        length-append (spelling t k d)
            rest,
      ),
    )
whole_of t k bytes Short h d rest is e = absurd (cc (h, e))
whole_of t k bytes (Bad at why) h d rest is e = absurd (cc (h.1, e))
whole_of t k bytes Deep h d rest is e = absurd (cc (h, e))
whole_of t k bytes OutOfMemory h d rest is e = tt

deep_of : (t : Types) (k : Kind) (bytes : List ℕ) (f : Front) → IsRead t k bytes f
    → value_at 64 t k bytes ≡ Err faults.Deep → IsDeep f
deep_of t k bytes (Whole v used) h e = absurd (cc (h.1, e))
deep_of t k bytes Short h e = absurd (cc (h, e))
deep_of t k bytes (Bad at why) h e = absurd (cc (h.1, e))
deep_of t k bytes Deep h e = tt
deep_of t k bytes OutOfMemory h e = tt

pub whole_only : (t : Types) (k : Kind) (bytes : List ℕ) (f : Front) → IsRead t k bytes f → (d : Datum) (rest : List ℕ)
    → Fits t k d → depth d ≤ 64 → bytes ≡ spelling t k d ++ rest → IsWhole d (length (spelling t k d)) f
whole_only t k bytes f h d rest fits le is =
    let e : value_at 64 t k bytes ≡ Ok (d, rest) = ap (value_at 64 t k) is ∙ (again d 64 t k rest fits).0 le in
    whole_of t k bytes f h d rest is e

pub deep_only : (t : Types) (k : Kind) (bytes : List ℕ) (f : Front) → IsRead t k bytes f → Opens 64 t k bytes → IsDeep f
deep_only t k bytes f h opens = deep_of t k bytes f h (value_opens 64 t k bytes opens)

bad_parts : (m n : ℕ) (v w : Why) (r : reading.AtFront Datum) → r ≡ Err (faults.Bad m v) → r ≡ Err (faults.Bad n w)
    → (m ≡ n) × (v ≡ w)
bad_parts m n v w r e f = (cc, cc)

bad_of : (t : Types) (k : Kind) (bytes : List ℕ) (f : Front) → IsRead t k bytes f → (at : ℕ) (why : Why)
    → at < length bytes → (value_at 64 t k bytes ≡ Err (faults.Bad (length bytes - at) why)) ⊎
    (value_at 64 t k bytes ≡ Err faults.Deep) → IsBad at why f
bad_of t k bytes (Whole v used) h at why lt (inl e) = absurd (cc (h.1, e))
bad_of t k bytes (Whole v used) h at why lt (inr e) = absurd (cc (h.1, e))
bad_of t k bytes Short h at why lt (inl e) = absurd (cc (h, e))
bad_of t k bytes Short h at why lt (inr e) = absurd (cc (h, e))
bad_of t k bytes (Bad place reason) h at why lt (inl e) =
    let p = bad_parts (length bytes - place) (length bytes - at) reason why (value_at 64 t k bytes) h.1 e in
    (omega (arith, p.0, h.0, lt), p.1)
bad_of t k bytes (Bad place reason) h at why lt (inr e) = absurd (cc (h.1, e))
bad_of t k bytes Deep h at why lt e = tt
bad_of t k bytes OutOfMemory h at why lt e = tt

short_of : (t : Types) (k : Kind) (bytes : List ℕ) (f : Front) → IsRead t k bytes f
    → (value_at 64 t k bytes ≡ Err faults.Short) ⊎ (value_at 64 t k bytes ≡ Err faults.Deep) → IsShort f
short_of t k bytes (Whole v used) h (inl e) = absurd (cc (h.1, e))
short_of t k bytes (Whole v used) h (inr e) = absurd (cc (h.1, e))
short_of t k bytes Short h e = tt
short_of t k bytes (Bad at why) h (inl e) = absurd (cc (h.1, e))
short_of t k bytes (Bad at why) h (inr e) = absurd (cc (h.1, e))
short_of t k bytes Deep h e = tt
short_of t k bytes OutOfMemory h e = tt

pub bad_only : (t : Types) (k : Kind) (bytes : List ℕ) (f : Front) → IsRead t k bytes f → (at : ℕ) (why : Why)
    → at < length bytes → Reaches (faults.Bad (length bytes - at) why) 64 t k bytes → IsBad at why f
bad_only t k bytes f h at why lt reaches = bad_of t k bytes f h at why lt
    (value_stops (faults.Bad (length bytes - at) why) 64 t k bytes reaches)

pub short_only : (t : Types) (k : Kind) (bytes : List ℕ) (f : Front) → IsRead t k bytes f
    → Reaches faults.Short 64 t k bytes → IsShort f
short_only t k bytes f h reaches = short_of t k bytes f h (value_stops faults.Short 64 t k bytes reaches)

pub one_form_law : (t : Types) (k : Kind) (d e : Datum) (y z : List ℕ) → Fits t k d → Fits t k e
    → spelling t k d ++ y ≡ spelling t k e ++ z → (d ≡ e) × (y ≡ z)
one_form_law t k d e y z fd fe is =
    let n = depth d + depth e in
    let p : value_at n t k (spelling t k d ++ y) ≡ Ok (d, y) = (again d n t k y fd).0 (omega arith) in
    let q : value_at n t k (spelling t k e ++ z) ≡ Ok (e, z) = (again e n t k z fe).0 (omega arith) in
    ok_parts d e y z (value_at n t k (spelling t k d ++ y)) p (ap (value_at n t k) is ∙ q)
