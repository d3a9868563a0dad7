-- A fault is given only where an item stops the reading, behind what is whole.
use Rattle.std.proofs.Common.{◌≡◌, ℕ, zero, suc, ◌≤◌, ◌<◌, ◌^◌, List, [], ◌∷◌, ◌++◌, Option, Some, None, Ok, Err, refl}
use Rattle.std.proofs.Common.{arith, inl, inr, ◌⊎◌}
use Rattle.xdr_value.specs.Data.{Kind, Part, Datum, union, some, items, more, Types, Choice}
use Rattle.xdr_value.specs.Heads.{arm_of, arm_kind, Head, is_basic, is_enum, is_struct, is_union, is_array}
use Rattle.xdr_value.specs.Heads.{is_array_up_to, is_maybe, is_unknown, head_of}
use Rattle.xdr_value.specs.Fits.{Fits, depth}
use Rattle.std.proofs.lemmas.Bool.{cases_lt}
use Rattle.xdr_code.proofs.Again.{again}
use Rattle.xdr_value.specs.Spelling.{word, tag_spelling, spelling}
use Rattle.xdr_code.specs.declared.fault.Why.TheVariants as whys
use Rattle.xdr_code.specs.declared.fault.Fault.{Fault}
use Rattle.xdr_code.specs.declared.fault.Fault.TheVariants.{Deep, Short, Bad}
use Rattle.xdr_code.specs.Reading.{◌>>=◌, AtFront, Read, limited_at, basic_at, enum_at, tag_at, parts_at, elements_at}
use Rattle.xdr_code.specs.Reading.{optional_at, arm_at, chosen_at, head_at, value_at}
use Rattle.xdr_value.specs.Hollow.{list_limit}
use Rattle.xdr_code.specs.Opens.{There, InParts, InElements, InArm, InHead}
use Rattle.xdr_code.proofs.Bytes.{IsBytes}
use Rattle.xdr_code.proofs.Meets.{Meets}
use Rattle.xdr_code.proofs.ItemLaws.{limited_meets, limited_again}
use Rattle.xdr_code.proofs.TagLaws.{TagHasArm, tag_meets, tag_again}
use Rattle.xdr_value.specs.Fits.{tag_number}
use Rattle.xdr_code.proofs.Deeper.{in_arm}
use Rattle.xdr_code.proofs.Found.{ReadMeets, FitsWithin, value_meets}
use Rattle.xdr_code.specs.Reaches.{ItemStops, Reaches}

-- where r is a fault other than Deep, P holds of it
abbrev pub Faulty : {A : Type 0} → (Fault → Type 0) → AtFront A → Type 0
Faulty P (Ok x) = Unit {0}
Faulty P (Err Deep) = Unit {0}
Faulty P (Err Short) = P Short
Faulty P (Err (Bad left why)) = P (Bad left why)

faulty_as : {A : Type 0} (P Q : Fault → Type 0) (r : AtFront A) → ((f : Fault) → P f → Q f) → Faulty P r → Faulty Q r
faulty_as P Q (Ok x) go h = tt
faulty_as P Q (Err Deep) go h = tt
faulty_as P Q (Err Short) go h = go Short h
faulty_as P Q (Err (Bad left why)) go h = go (Bad left why) h

faulty_itself : {A : Type 0} (r : AtFront A) → Faulty (λ f. r ≡ Err f) r
faulty_itself (Ok x) = tt
faulty_itself (Err Deep) = tt
faulty_itself (Err Short) = refl
faulty_itself (Err (Bad left why)) = refl

module _ {A B : Type 0} (bytes : List ℕ) (first : A → List ℕ) (M : A → Type 0) (P Q : Fault → Type 0) where
  faulty_then : (r : AtFront A) (f : A × List ℕ → AtFront B) → Meets bytes first M r → Faulty P r
      → ((f : Fault) → P f → Q f)
      → ((x : A) (rest : List ℕ) → bytes ≡ first x ++ rest → IsBytes rest → M x → Faulty Q (f (x, rest)))
      → Faulty Q (r >>= f)
  faulty_then (Ok x) f meets h up go = go x.0 x.1 meets.0 meets.1 meets.2
  faulty_then (Err Deep) f meets h up go = tt
  faulty_then (Err Short) f meets h up go = up Short h
  faulty_then (Err (Bad left why)) f meets h up go = up (Bad left why) h

faulty_done : {A B : Type 0} (P : Fault → Type 0) (r : AtFront A) (g : A → B) → Faulty P r
    → Faulty P (r >>= λ a. Ok (g a.0, a.1))
faulty_done P (Ok x) g h = tt
faulty_done P (Err Deep) g h = tt
faulty_done P (Err Short) g h = h
faulty_done P (Err (Bad left why)) g h = h

abbrev pub FaultThere : Type 1
FaultThere = Fault → There

abbrev pub ReadFaults : FaultThere → Read → Type 0
ReadFaults there read = (k : Kind) (bytes : List ℕ) → IsBytes bytes → Faulty (λ f. there f k bytes) (read k bytes)

pub parts_faults : (n : ℕ) (t : Types) (there : FaultThere) (read : Read) → ReadMeets n t read → ReadFaults there read
    → (ps : List Part) (bytes : List ℕ) → IsBytes bytes
    → Faulty (λ f. InParts t (there f) ps bytes) (parts_at read ps bytes)
unfolding parts_at
parts_faults n t there read meets ih [] bytes fits = tt
parts_faults n t there read meets ih (p ∷ ps) bytes fits =
    faulty_then bytes (spelling t p.kind) (FitsWithin n t p.kind) (λ f. there f p.kind bytes)
    (λ f. InParts t (there f) (p ∷ ps) bytes) (read p.kind bytes)
    (λ first. parts_at read ps first.1 >>= λ others. Ok (more first.0 others.0, others.1))
    (meets p.kind bytes fits) (ih p.kind bytes fits) (λ f h. inl h)
    (λ d rest is rest_fits within. faulty_done (λ f. InParts t (there f) (p ∷ ps) bytes) (parts_at read ps rest)
    (more d)
    (faulty_as (λ f. InParts t (there f) ps rest) (λ f. InParts t (there f) (p ∷ ps) bytes) (parts_at read ps rest)
    (λ f h. inr (d, rest, within.0, is, h)) (parts_faults n t there read meets ih ps rest rest_fits)))

elements_faults : (n : ℕ) (t : Types) (there : FaultThere) (read : Read) → ReadMeets n t read → ReadFaults there read
    → (k : Kind) (m : ℕ) (bytes : List ℕ) → IsBytes bytes
    → Faulty (λ f. InElements t (there f) k m bytes) (elements_at read k m bytes)
unfolding elements_at
elements_faults n t there read meets ih k zero bytes fits = tt
elements_faults n t there read meets ih k (suc m) bytes fits =
    faulty_then bytes (spelling t k) (FitsWithin n t k) (λ f. there f k bytes)
    (λ f. InElements t (there f) k (suc m) bytes) (read k bytes)
    (λ first. elements_at read k m first.1 >>= λ others. Ok (more first.0 others.0, others.1)) (meets k bytes fits)
    (ih k bytes fits) (λ f h. inl h)
    (λ d rest is rest_fits within. faulty_done (λ f. InElements t (there f) k (suc m) bytes)
    (elements_at read k m rest) (more d)
    (faulty_as (λ f. InElements t (there f) k m rest) (λ f. InElements t (there f) k (suc m) bytes)
    (elements_at read k m rest) (λ f h. inr (d, rest, within.0, is, h))
    (elements_faults n t there read meets ih k m rest rest_fits)))

abbrev Here : Types → FaultThere → Head → List ℕ → Fault → Type 0
Here t there h bytes f = ItemStops t f h bytes ⊎ InHead t (there f) h bytes

optional_faults : (t : Types) (there : FaultThere) (read : Read) → ReadFaults there read
    → (k : Kind) (c : ℕ) (bytes rest : List ℕ) → bytes ≡ word c ++ rest → IsBytes rest → c ≤ 1
    → Faulty (Here t there (is_maybe k) bytes) (optional_at read k (c, rest))
optional_faults t there read ih k zero bytes rest is fits le = tt
optional_faults t there read ih k (suc zero) bytes rest is fits le =
    faulty_done (Here t there (is_maybe k) bytes) (read k rest) some
    (faulty_as (λ f. there f k rest) (Here t there (is_maybe k) bytes) (read k rest) (λ f h. inr (rest, is, h))
    (ih k rest fits))
optional_faults t there read ih k (suc (suc c)) bytes rest is fits le = absurd (omega arith)

arm_faults : (t : Types) (there : FaultThere) (read : Read) → ReadFaults there read
    → (o : Option Choice) (d : Datum) (rest : List ℕ) → IsBytes rest → (c : Choice) → o ≡ Some c
    → Faulty (λ f. InArm (there f) o rest) (arm_at read o (d, rest))
arm_faults t there read ih None d rest fits c e = absurd cc
arm_faults t there read ih (Some c) d rest fits b e = faulty_done (λ f. there f (arm_kind c) rest)
    (read (arm_kind c) rest) (union d) (ih (arm_kind c) rest fits)

head_faults : (n : ℕ) (t : Types) (there : FaultThere) (read : Read) → ReadMeets n t read → ReadFaults there read
    → (h : Head) (bytes : List ℕ) → IsBytes bytes → Faulty (Here t there h bytes) (head_at t (Some read) h bytes)
unfolding head_at
head_faults n t there read meets ih (is_basic b) bytes fits = faulty_as (λ f. basic_at b bytes ≡ Err f)
    (Here t there (is_basic b) bytes) (basic_at b bytes) (λ f h. inl h) (faulty_itself (basic_at b bytes))
head_faults n t there read meets ih (is_enum ms) bytes fits = faulty_as (λ f. enum_at ms bytes ≡ Err f)
    (Here t there (is_enum ms) bytes) (enum_at ms bytes) (λ f h. inl h) (faulty_itself (enum_at ms bytes))
head_faults n t there read meets ih is_unknown bytes fits = inl refl
head_faults n t there read meets ih (is_union tag cs) bytes fits =
    faulty_then bytes tag_spelling (TagHasArm tag cs) (λ f. tag_at tag cs bytes ≡ Err f)
    (Here t there (is_union tag cs) bytes) (tag_at tag cs bytes) (chosen_at read cs) (tag_meets tag cs bytes fits)
    (faulty_itself (tag_at tag cs bytes)) (λ f h. inl h)
    (λ d rest is rest_fits has. faulty_as (λ f. InArm (there f) (arm_of (tag_number d) cs) rest)
    (Here t there (is_union tag cs) bytes) (chosen_at read cs (d, rest)) (λ f h. inr (d, rest, has.0, is, h))
    (arm_faults t there read ih (arm_of (tag_number d) cs) d rest rest_fits has.1.0 has.1.1))
head_faults n t there read meets ih (is_struct ps) bytes fits =
    faulty_done (Here t there (is_struct ps) bytes) (parts_at read ps bytes) items
    (faulty_as (λ f. InParts t (there f) ps bytes) (Here t there (is_struct ps) bytes) (parts_at read ps bytes)
    (λ f h. inr h) (parts_faults n t there read meets ih ps bytes fits))
head_faults n t there read meets ih (is_array k m) bytes fits =
    faulty_done (Here t there (is_array k m) bytes) (elements_at read k m bytes) items
    (faulty_as (λ f. InElements t (there f) k m bytes) (Here t there (is_array k m) bytes)
    (elements_at read k m bytes) (λ f h. inr h) (elements_faults n t there read meets ih k m bytes fits))
head_faults n t there read meets ih (is_array_up_to k m) bytes fits =
    faulty_then bytes word (λ c. (c ≤ list_limit t k m) × (c < 2 ^ 32))
    (λ f. limited_at (list_limit t k m) whys.Length bytes ≡ Err f) (Here t there (is_array_up_to k m) bytes)
    (limited_at (list_limit t k m) whys.Length bytes)
    (λ c. elements_at read k c.0 c.1 >>= λ vs. Ok (items vs.0, vs.1))
    (limited_meets (list_limit t k m) whys.Length bytes fits)
    (faulty_itself (limited_at (list_limit t k m) whys.Length bytes)) (λ f h. inl h)
    (λ c rest is rest_fits le. faulty_done (Here t there (is_array_up_to k m) bytes) (elements_at read k c rest) items
    (faulty_as (λ f. InElements t (there f) k c rest) (Here t there (is_array_up_to k m) bytes)
    (elements_at read k c rest) (λ f h. inr (c, rest, le.0, le.1, is, h))
    (elements_faults n t there read meets ih k c rest rest_fits)))
head_faults n t there read meets ih (is_maybe k) bytes fits =
    faulty_then bytes word (λ c. (c ≤ 1) × (c < 2 ^ 32)) (λ f. limited_at 1 whys.Bool bytes ≡ Err f)
    (Here t there (is_maybe k) bytes) (limited_at 1 whys.Bool bytes) (optional_at read k)
    (limited_meets 1 whys.Bool bytes fits) (faulty_itself (limited_at 1 whys.Bool bytes)) (λ f h. inl h)
    (λ c rest is rest_fits le. optional_faults t there read ih k c bytes rest is rest_fits le.0)

leaf_faults : (t : Types) (h : Head) (bytes : List ℕ) → Faulty (λ f. ItemStops t f h bytes) (head_at t None h bytes)
unfolding head_at
leaf_faults t (is_basic b) bytes = faulty_itself (basic_at b bytes)
leaf_faults t (is_enum ms) bytes = faulty_itself (enum_at ms bytes)
leaf_faults t is_unknown bytes = refl
leaf_faults t (is_union tag cs) bytes = tt
leaf_faults t (is_struct ps) bytes = tt
leaf_faults t (is_array k m) bytes = tt
leaf_faults t (is_array_up_to k m) bytes = tt
leaf_faults t (is_maybe k) bytes = tt

pub value_faults : (n : ℕ) (t : Types) → ReadFaults (λ f. Reaches f n t) (value_at n t)
unfolding value_at Reaches
value_faults zero t k bytes fits = leaf_faults t (head_of t k) bytes
value_faults (suc n) t k bytes fits = head_faults n t (λ f. Reaches f n t) (value_at n t) (value_meets n t)
    (value_faults n t) (head_of t k) bytes fits

-- ---- and wherever an item stops it, unless a level too many begins before

abbrev pub OrDeep : {A : Type 0} → Fault → AtFront A → Type 0
OrDeep f r = (r ≡ Err f) ⊎ (r ≡ Err Deep)

or_then : {A B : Type 0} (f : Fault) (r : AtFront A) (go : A × List ℕ → AtFront B) → OrDeep f r → OrDeep f (r >>= go)
or_then f r go (inl e) = inl (rw e refl)
or_then f r go (inr e) = inr (rw e refl)

or_whole : {B : Type 0} (f : Fault) (n : ℕ) (t : Types) (k : Kind) (bytes rest : List ℕ) (d : Datum)
    (go : Datum × List ℕ → AtFront B) → Fits t k d → bytes ≡ spelling t k d ++ rest → OrDeep f (go (d, rest))
    → OrDeep f (value_at n t k bytes >>= go)
or_whole f n t k bytes rest d go fits is h =
    let a = again d n t k rest fits in
    elim (cases_lt n (depth d)) [
      | inl lt ↦ inr (rw (is, a.1 lt) refl)
      | inr le ↦ rw (is, a.0 le) h
    ]

abbrev pub Stopped : Fault → There → Read → Type 0
Stopped f there read = (k : Kind) (bytes : List ℕ) → there k bytes → OrDeep f (read k bytes)

pub parts_stop : (f : Fault) (n : ℕ) (t : Types) (there : There) → Stopped f there (value_at n t)
    → (ps : List Part) (bytes : List ℕ) → InParts t there ps bytes → OrDeep f (parts_at (value_at n t) ps bytes)
unfolding parts_at
parts_stop f n t there ih [] bytes h = absurd h
parts_stop f n t there ih (p ∷ ps) bytes (inl h) = or_then f (value_at n t p.kind bytes)
    (λ first. parts_at (value_at n t) ps first.1 >>= λ others. Ok (more first.0 others.0, others.1)) (ih p.kind bytes h)
parts_stop f n t there ih (p ∷ ps) bytes (inr (d, rest, fits, is, h)) =
    or_whole f n t p.kind bytes rest d
    (λ first. parts_at (value_at n t) ps first.1 >>= λ others. Ok (more first.0 others.0, others.1)) fits is
    (or_then f (parts_at (value_at n t) ps rest) (λ others. Ok (more d others.0, others.1))
    (parts_stop f n t there ih ps rest h))

elements_stop : (f : Fault) (n : ℕ) (t : Types) (there : There) → Stopped f there (value_at n t)
    → (k : Kind) (m : ℕ) (bytes : List ℕ) → InElements t there k m bytes
    → OrDeep f (elements_at (value_at n t) k m bytes)
unfolding elements_at
elements_stop f n t there ih k zero bytes h = absurd h
elements_stop f n t there ih k (suc m) bytes (inl h) = or_then f (value_at n t k bytes)
    (λ first. elements_at (value_at n t) k m first.1 >>= λ others. Ok (more first.0 others.0, others.1)) (ih k bytes h)
elements_stop f n t there ih k (suc m) bytes (inr (d, rest, fits, is, h)) =
    or_whole f n t k bytes rest d (λ first. elements_at (value_at n t) k m first.1 >>= λ others. Ok
    (more first.0 others.0, others.1)) fits is
    (or_then f (elements_at (value_at n t) k m rest) (λ others. Ok (more d others.0, others.1))
    (elements_stop f n t there ih k m rest h))

arm_stops : (f : Fault) (n : ℕ) (t : Types) (there : There) → Stopped f there (value_at n t)
    → (o : Option Choice) (d : Datum) (rest : List ℕ) → InArm there o rest
    → OrDeep f (arm_at (value_at n t) o (d, rest))
arm_stops f n t there ih None d rest h = absurd h
arm_stops f n t there ih (Some c) d rest h = or_then f (value_at n t (arm_kind c) rest) (λ v. Ok (union d v.0, v.1))
    (ih (arm_kind c) rest h)

head_inside : (f : Fault) (n : ℕ) (t : Types) (there : There) → Stopped f there (value_at n t)
    → (h : Head) (bytes : List ℕ) → InHead t there h bytes → OrDeep f (head_at t (Some (value_at n t)) h bytes)
unfolding head_at
head_inside f n t there ih (is_basic b) bytes h = absurd h
head_inside f n t there ih (is_enum ms) bytes h = absurd h
head_inside f n t there ih is_unknown bytes h = absurd h
head_inside f n t there ih (is_union tag cs) bytes (d, rest, fits, is, h) =
    let c = in_arm there (arm_of (tag_number d) cs) rest h in
    rw (is, tag_again tag cs d c.0 rest fits c.1) (arm_stops f n t there ih (arm_of (tag_number d) cs) d rest h)
head_inside f n t there ih (is_struct ps) bytes h = or_then f (parts_at (value_at n t) ps bytes)
    (λ vs. Ok (items vs.0, vs.1)) (parts_stop f n t there ih ps bytes h)
head_inside f n t there ih (is_array k m) bytes h = or_then f (elements_at (value_at n t) k m bytes)
    (λ vs. Ok (items vs.0, vs.1)) (elements_stop f n t there ih k m bytes h)
head_inside f n t there ih (is_array_up_to k m) bytes (c, rest, le, lt, is, h) =
    rw (is, limited_again (list_limit t k m) whys.Length c rest le lt)
    (or_then f (elements_at (value_at n t) k c rest) (λ vs. Ok (items vs.0, vs.1))
    (elements_stop f n t there ih k c rest h))
head_inside f n t there ih (is_maybe k) bytes (rest, is, h) =
    rw (is, limited_again 1 whys.Bool 1 rest (omega arith) (omega arith))
    (or_then f (value_at n t k rest) (λ v. Ok (some v.0, v.1)) (ih k rest h))

head_here : (t : Types) (f : Fault) (read : Read) (h : Head) (bytes : List ℕ) → ItemStops t f h bytes
    → OrDeep f (head_at t (Some read) h bytes)
unfolding head_at
head_here t f read (is_basic b) bytes e = inl e
head_here t f read (is_enum ms) bytes e = inl e
head_here t f read is_unknown bytes e = inl (rw e refl)
head_here t f read (is_union tag cs) bytes e = inl (rw e refl)
head_here t f read (is_struct ps) bytes e = absurd e
head_here t f read (is_array k m) bytes e = absurd e
head_here t f read (is_array_up_to k m) bytes e = inl (rw e refl)
head_here t f read (is_maybe k) bytes e = inl (rw e refl)

leaf_here : (t : Types) (f : Fault) (h : Head) (bytes : List ℕ) → ItemStops t f h bytes
    → OrDeep f (head_at t None h bytes)
unfolding head_at
leaf_here t f (is_basic b) bytes e = inl e
leaf_here t f (is_enum ms) bytes e = inl e
leaf_here t f is_unknown bytes e = inl (rw e refl)
leaf_here t f (is_union tag cs) bytes e = inr refl
leaf_here t f (is_struct ps) bytes e = absurd e
leaf_here t f (is_array k m) bytes e = absurd e
leaf_here t f (is_array_up_to k m) bytes e = inr refl
leaf_here t f (is_maybe k) bytes e = inr refl

pub value_stops : (f : Fault) (n : ℕ) (t : Types) → Stopped f (Reaches f n t) (value_at n t)
unfolding value_at Reaches
value_stops f zero t k bytes h = leaf_here t f (head_of t k) bytes h
value_stops f (suc n) t k bytes (inl h) = head_here t f (value_at n t) (head_of t k) bytes h
value_stops f (suc n) t k bytes (inr h) = head_inside f n t (Reaches f n t) (value_stops f n t) (head_of t k) bytes h
