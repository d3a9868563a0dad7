-- Reading values one after the other, as a loop does.
use Rattle.std.proofs.Common.{◌≡◌, ℕ, suc, ◌-◌, ◌+◌, ◌≤◌, ◌<◌, List, [], ◌∷◌, Ok, Err, refl, sym, ap, ◌∙◌, arith}
use Rattle.xdr_value.specs.Data.{Part, Datum, Data, end, more, Kind}
use Rattle.xdr_value.proofs.Lists.{append, append_end, append_more}
use Rattle.xdr_code.specs.declared.fault.Stop.{Stop}
use Rattle.xdr_code.specs.declared.fault.Stop.TheVariants as stops
use Rattle.xdr_code.specs.Reading.{◌>>=◌, Fails, AtFront, Read, parts_at, elements_at}

-- what was read before, and what is still read
abbrev pub with_front : Data → AtFront Data → AtFront Data
with_front front read = read >>= λ x. Ok (append front x.0, x.1)

regroup : (front : Data) (d : Datum) (read : AtFront Data)
    → with_front front (read >>= λ x. Ok (more d x.0, x.1)) ≡ with_front (append front (more d end)) read
regroup front d (Ok x) = ap (λ (ds : Data). Ok (ds, x.1)) (sym (append_more front d x.0))
regroup front d (Err f) = refl

-- ---- elements

pub elements_go_on : (read : Read) (k : Kind) (front : Data) (count i : ℕ) (bytes : List ℕ) (d : Datum)
    (after : List ℕ) (total : AtFront Data) → i < count → read k bytes ≡ Ok (d, after)
    → with_front front (elements_at read k (count - i) bytes) ≡ total
    → with_front (append front (more d end)) (elements_at read k (count - (i + 1)) after) ≡ total
unfolding elements_at
elements_go_on read k front count i bytes d after total lt h so_far =
    let n : count - i ≡ suc (count - (i + 1)) = omega arith in
    let one : with_front front (elements_at read k (count - i) bytes) ≡ with_front (append front (more d end))
    (elements_at read k (count - (i + 1)) after) = rw (n, h)
    (regroup front d (elements_at read k (count - (i + 1)) after)) in
    sym one ∙ so_far

pub elements_end : (read : Read) (k : Kind) (e : Stop) (front : Data) (count i : ℕ) (bytes : List ℕ)
    (total : AtFront Data) → i < count → Fails e (read k bytes)
    → with_front front (elements_at read k (count - i) bytes) ≡ total → Fails e total
unfolding elements_at
elements_end read k stops.Memory front count i bytes total lt h so_far = tt
elements_end read k (stops.Fault f) front count i bytes total lt h so_far =
    let n : count - i ≡ suc (count - (i + 1)) = omega arith in
    let one : with_front front (elements_at read k (count - i) bytes) ≡ Err f = rw (n, h) refl in
    sym so_far ∙ one

pub elements_done : (read : Read) (k : Kind) (front : Data) (count i : ℕ) (bytes : List ℕ) (total : AtFront Data)
    → count ≤ i → with_front front (elements_at read k (count - i) bytes) ≡ total → total ≡ Ok (front, bytes)
unfolding elements_at
elements_done read k front count i bytes total le so_far =
    let n : count - i ≡ 0 = omega arith in
    let one : with_front front (elements_at read k (count - i) bytes) ≡ Ok (front, bytes) = rw n
    (ap (λ (ds : Data). Ok (ds, bytes)) (append_end front)) in
    sym so_far ∙ one

-- ---- parts

-- one value more was read
pub parts_go_on : (read : Read) (front : Data) (p : Part) (left ps : List Part) (bytes : List ℕ) (d : Datum)
    (after : List ℕ) (total : AtFront Data) → left ≡ p ∷ ps → read p.kind bytes ≡ Ok (d, after)
    → with_front front (parts_at read left bytes) ≡ total
    → with_front (append front (more d end)) (parts_at read ps after) ≡ total
unfolding parts_at
parts_go_on read front p left ps bytes d after total is h so_far =
    let one : with_front front (parts_at read left bytes) ≡ with_front (append front (more d end))
    (parts_at read ps after) = rw (is, h) (regroup front d (parts_at read ps after)) in
    sym one ∙ so_far

-- a value couldn't be read
pub parts_end : (read : Read) (e : Stop) (front : Data) (p : Part) (left ps : List Part) (bytes : List ℕ)
    (total : AtFront Data) → left ≡ p ∷ ps → Fails e (read p.kind bytes)
    → with_front front (parts_at read left bytes) ≡ total → Fails e total
unfolding parts_at
parts_end read stops.Memory front p left ps bytes total is h so_far = tt
parts_end read (stops.Fault g) front p left ps bytes total is h so_far =
    let one : with_front front (parts_at read left bytes) ≡ Err g = rw (is, h) refl in
    sym so_far ∙ one

-- all were read
pub parts_done : (read : Read) (front : Data) (left : List Part) (bytes : List ℕ) (total : AtFront Data) → left ≡ []
    → with_front front (parts_at read left bytes) ≡ total → total ≡ Ok (front, bytes)
unfolding parts_at
parts_done read front left bytes total is so_far =
    let one : with_front front (parts_at read left bytes) ≡ Ok (front, bytes) = rw is
    (ap (λ (ds : Data). Ok (ds, bytes)) (append_end front)) in
    sym so_far ∙ one
