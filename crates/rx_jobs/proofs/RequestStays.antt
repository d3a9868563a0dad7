-- What a request was found to be it stays, whatever follows.
use Rattle.std.proofs.Common.{◌≡◌, ℕ, ◌+◌, ◌-◌, ◌≤◌, ◌<◌, Bool, true, false, cond, ltb}
use Rattle.std.proofs.Common.{List, [], ◌++◌, length, take, drop, Option, Some, None, Ok, Err, refl, sym, ap}
use Rattle.std.proofs.Common.{◌∙◌, arith, subst}
use Rattle.std.specs.Int.{w32, from_be_bytes}
use Rattle.std.proofs.lemmas.Bool.{ltb-false, ltb-true, le-ltb}
use Rattle.std.proofs.lemmas.List.{length-append, drop-append-le, take-append-le, append-nil, take_all, length-take-le}
use Rattle.std.proofs.Math.Seq.{take-append-add}
use Rattle.xdr_value.specs.Data.{Part, Procedure, Procs, Data, Types}
use Rattle.xdr_value.specs.declared.levels.TheConstants.{MAX_LEVELS}
use Rattle.xdr_code.specs.declared.fault.Fault.TheVariants.{Deep, Short, Bad}
use Rattle.xdr_code.specs.Reading.{AtFront, parts_at, value_at}
use Rattle.xdr_code.proofs.Bytes.{IsBytes, IsBytes-take, wide32}
use Rattle.xdr_code.proofs.Relations.{Stays}
use Rattle.xdr_code.proofs.Stays.{parts_stays, value_stays}
use Rattle.stub_table.specs.declared.stream.Stream.TheVariants as streams
use Rattle.stub_table.specs.Streams.{parts_with}
use Rattle.stub_table.specs.Requests.{RequestAnswer, whole, more_wanted, refused, found_from, args_answer, found_answer}
use Rattle.stub_table.specs.Requests.{opcode_answer, seen_answer, is_open, request_answer}

-- what more bytes make of an answer, of n bytes
abbrev pub AnswerStays : ℕ → RequestAnswer → RequestAnswer → Type 0
AnswerStays n (whole index args used) after = (after ≡ whole index args used) × (used ≤ n)
AnswerStays n more_wanted after = Unit {0}
AnswerStays n (refused c) after = after ≡ refused c

-- the arguments of n bytes that were read so far
args_stay : (index n : ℕ) (waits : Bool) (y : List ℕ) (r r' : AtFront Data) → Stays y r r'
    → AnswerStays n (args_answer index n true r) (args_answer index (n + length y) waits r')
args_stay index n waits y (Ok x) r' is =
    let same : n + length y - length (x.1 ++ y) ≡ n - length x.1 = omega (arith, length-append x.1 y) in
    (ap (args_answer index (n + length y) waits) is ∙ ap (whole index x.0) same, omega arith)
args_stay index n waits y (Err Short) r' is = tt
args_stay index n waits y (Err Deep) r' is = ap (args_answer index (n + length y) waits) is
args_stay index n waits y (Err (Bad left why)) r' is = ap (args_answer index (n + length y) waits) is.1

-- the bytes behind an opcode
found_stays : (t : Types) (n : ℕ) (waits : Bool) (y bytes : List ℕ) → IsBytes y → (found : Option (ℕ × Procedure))
    → AnswerStays n (found_answer t n true bytes found) (found_answer t (n + length y) waits (bytes ++ y) found)
found_stays t n waits y bytes fits None = refl
found_stays t n waits y bytes fits (Some found) =
    let parts : List Part = parts_with streams.Request found.1.params in
    args_stay found.0 n waits y (parts_at (value_at MAX_LEVELS t) parts bytes)
    (parts_at (value_at MAX_LEVELS t) parts (bytes ++ y))
    (parts_stays y (value_at MAX_LEVELS t) (value_stays MAX_LEVELS t y fits) parts bytes)

-- the bytes that are looked at, where more may come
short_stays : (t : Types) (ps : Procs) (ended waits : Bool) (bytes y : List ℕ) → IsBytes y → (b : Bool)
    → ltb (length bytes) 4 ≡ b
    → AnswerStays (length bytes)
    (opcode_answer t ps (length bytes) false true (cond b None (Some (from_be_bytes w32 bytes, drop 4 bytes))))
    (seen_answer t ps (bytes ++ y) ended waits)
short_stays t ps ended waits bytes y fits true e = tt
short_stays t ps ended waits bytes y fits false e =
    let long : 4 ≤ length bytes = ltb-false _ _ e in
    let is : from_be_bytes w32 (bytes ++ y) ≡ from_be_bytes w32 bytes = wide32.front bytes y long ∙ sym
    (ap (from_be_bytes w32) (sym (append-nil bytes)) ∙ wide32.front bytes [] long) in
    let h : ltb (length (bytes ++ y)) 4 ≡ false = le-ltb _ _ (omega (arith, length-append bytes y)) in
    let f : Option (ℕ × Procedure) = found_from 0 (from_be_bytes w32 bytes) ps in
    let n : length (bytes ++ y) ≡ length bytes + length y = length-append bytes y in
    rw (h, is, drop-append-le 4 bytes y long, n) (found_stays t (length bytes) waits y (drop 4 bytes) fits f)

seen_stays : (t : Types) (ps : Procs) (ended waits : Bool) (bytes y : List ℕ) → IsBytes y
    → AnswerStays (length bytes) (seen_answer t ps bytes false true) (seen_answer t ps (bytes ++ y) ended waits)
seen_stays t ps ended waits bytes y fits = short_stays t ps ended waits bytes y fits (ltb (length bytes) 4) refl

-- ---- requests as long as what is looked at

args_self : (index n k : ℕ) → n ≤ k → (r : AtFront Data)
    → AnswerStays k (args_answer index n false r) (args_answer index n false r)
args_self index n k le (Ok x) = (refl, omega arith)
args_self index n k le (Err Short) = refl
args_self index n k le (Err Deep) = refl
args_self index n k le (Err (Bad left why)) = refl

found_self : (t : Types) (n k : ℕ) (bytes : List ℕ) → n ≤ k → (found : Option (ℕ × Procedure))
    → AnswerStays k (found_answer t n false bytes found) (found_answer t n false bytes found)
found_self t n k bytes le None = refl
found_self t n k bytes le (Some found) =
    args_self found.0 n k le (parts_at (value_at MAX_LEVELS t) (parts_with streams.Request found.1.params) bytes)

full_stays : (t : Types) (ps : Procs) (ended : Bool) (s : List ℕ) (k : ℕ) → length s ≤ k
    → ltb (length s) 4 ≡ false → AnswerStays k (seen_answer t ps s false false) (seen_answer t ps s ended false)
full_stays t ps ended s k le e =
    rw e (found_self t (length s) k (drop 4 s) le (found_from 0 (from_be_bytes w32 s) ps))

-- none of the bytes behind those that are looked at changes whether more may be
never_open : (n : ℕ) (ended : Bool) → ltb n 65536 ≡ false → is_open n ended ≡ false
never_open n true e = refl
never_open n false e = e

-- ---- requests

request_by : (t : Types) (ps : Procs) (bytes y : List ℕ) (ended : Bool) → IsBytes y → (b : Bool)
    → ltb (length bytes) 65536 ≡ b
    → AnswerStays (length bytes) (request_answer t ps bytes false) (request_answer t ps (bytes ++ y) ended)
request_by t ps bytes y ended fits true e =
    let lt : length bytes < 65536 = ltb-true _ _ e in
    let rest : List ℕ = take (65536 - length bytes) y in
    let all : take 65536 bytes ≡ bytes = take_all 65536 bytes (omega arith) in
    let m : 65536 ≡ length bytes + (65536 - length bytes) = omega arith in
    let seen : take 65536 (bytes ++ y) ≡ bytes ++ rest =
    ap (λ (k : ℕ). take k (bytes ++ y)) m ∙ take-append-add bytes y (65536 - length bytes) in
    let waits : Bool = is_open (length (bytes ++ y)) ended in
    let stays : AnswerStays (length bytes) (seen_answer t ps bytes false true)
    (seen_answer t ps (bytes ++ rest) ended waits) =
    seen_stays t ps ended waits bytes rest (IsBytes-take (65536 - length bytes) y fits) in
    let now : request_answer t ps bytes false ≡ seen_answer t ps bytes false true =
    ap (λ (b : Bool). seen_answer t ps (take 65536 bytes) false b) e
    ∙ ap (λ (s : List ℕ). seen_answer t ps s false true) all in
    let then : request_answer t ps (bytes ++ y) ended ≡ seen_answer t ps (bytes ++ rest) ended waits =
    ap (λ (s : List ℕ). seen_answer t ps s ended waits) seen in
    subst (λ (a : RequestAnswer). AnswerStays (length bytes) a (request_answer t ps (bytes ++ y) ended)) (sym now)
    (subst (λ (a : RequestAnswer). AnswerStays (length bytes) (seen_answer t ps bytes false true) a) (sym then) stays)
request_by t ps bytes y ended fits false e =
    let le : 65536 ≤ length bytes = ltb-false _ _ e in
    let s : List ℕ = take 65536 bytes in
    let size : length s ≡ 65536 = length-take-le 65536 bytes le in
    let seen : take 65536 (bytes ++ y) ≡ s = take-append-le 65536 bytes y le in
    let later : ltb (length (bytes ++ y)) 65536 ≡ false = le-ltb _ _ (omega (arith, length-append bytes y)) in
    let long : ltb (length s) 4 ≡ false = le-ltb _ _ (omega arith) in
    let stays : AnswerStays (length bytes) (seen_answer t ps s false false) (seen_answer t ps s ended false) =
    full_stays t ps ended s (length bytes) (omega arith) long in
    let now : request_answer t ps bytes false ≡ seen_answer t ps s false false =
    ap (λ (b : Bool). seen_answer t ps s false b) e in
    let then : request_answer t ps (bytes ++ y) ended ≡ seen_answer t ps s ended false =
    ap (λ (b : Bool). seen_answer t ps (take 65536 (bytes ++ y)) ended b)
    (never_open (length (bytes ++ y)) ended later)
    ∙ ap (λ (q : List ℕ). seen_answer t ps q ended false) seen in
    subst (λ (a : RequestAnswer). AnswerStays (length bytes) a (request_answer t ps (bytes ++ y) ended)) (sym now)
    (subst (λ (a : RequestAnswer). AnswerStays (length bytes) (seen_answer t ps s false false) a) (sym then) stays)

-- what a request was found to be it stays, whatever bytes follow
pub request_stays : (t : Types) (ps : Procs) (bytes y : List ℕ) (ended : Bool) → IsBytes y
    → AnswerStays (length bytes) (request_answer t ps bytes false) (request_answer t ps (bytes ++ y) ended)
request_stays t ps bytes y ended fits = request_by t ps bytes y ended fits (ltb (length bytes) 65536) refl
