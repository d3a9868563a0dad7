-- What is written is read again.
use Rattle.std.proofs.Common.{◌≡◌, ℕ, ◌+◌, ◌-◌, ◌≤◌, ◌<◌, ◌^◌, Bool, true, false, ltb, List, ◌++◌, length, take, Some}
use Rattle.std.proofs.Common.{Ok, Err, refl, ap, ◌∙◌, append_assoc, arith, Result, Vec, Global}
use Rattle.std.specs.Int.{w32, from_be_bytes}
use Rattle.std.specs.List.{slice_get}
use Rattle.std.proofs.lemmas.Bool.{le-ltb}
use Rattle.std.proofs.lemmas.Nat.{from_be_bytes-to_be_bytes_4}
use Rattle.std.proofs.lemmas.List.{length-append}
use Rattle.std.proofs.Math.Seq.{take-append-add}
use Rattle.xdr_value.specs.Data.{Procedure, Procs, Data, Types}
use Rattle.xdr_value.specs.Spelling.{word}
use Rattle.xdr_value.specs.Tests.{is_sound}
use Rattle.xdr_value.specs.View.{values_of}
use Rattle.xdr_value.specs.declared.value.Value.{Value}
use Rattle.xdr_value.proofs.SoundLaw.{tests}
use Rattle.xdr_code.specs.Reading.{AtFront}
use Rattle.stub_table.specs.declared.fault.StubFault.{StubFault}
use Rattle.stub_table.specs.declared.fault.StubFault.TheVariants.{Code, OutOfMemory}
use Rattle.stub_table.specs.declared.stream.Stream.{Stream}
use Rattle.stub_table.specs.declared.stream.Stream.TheVariants as streams
use Rattle.stub_table.specs.Streams.{FitStream, stream_spelling, request_spelling}
use Rattle.stub_table.specs.Answers.{CanRequest, IsReplyRead, AreValues}
use Rattle.stub_table.specs.Requests.{whole, found_from, is_open, seen_answer, request_answer}
use Rattle.stub_table.proofs.Fronts.{read_stream, values_again}
use Rattle.stub_table.proofs.Opcodes.{found_by_opcode}

-- ---- requests

seen_again : (t : Types) (ps : Procs) (index : ℕ) (p : Procedure) (vs : Data) (rest : List ℕ) (ended waits : Bool)
    → is_sound t ps ≡ true → slice_get ps index ≡ Some p
    → p.opcode < 2 ^ 32 → FitStream t streams.Request p vs
    → seen_answer t ps (request_spelling t p vs ++ rest) ended waits ≡ whole index vs (length (request_spelling t p vs))
seen_again t ps index p vs rest ended waits sound at lt fits =
    let body : List ℕ = stream_spelling t streams.Request p vs ++ rest in
    let regrouped : request_spelling t p vs ++ rest ≡ word p.opcode ++ body =
    append_assoc (word p.opcode) (stream_spelling t streams.Request p vs) rest in
    let opcode : from_be_bytes w32 (word p.opcode ++ body) ≡ p.opcode = from_be_bytes-to_be_bytes_4 p.opcode lt in
    let long : ltb (length (word p.opcode ++ body)) 4 ≡ false = le-ltb _ _ (omega arith) in
    let found : found_from 0 p.opcode ps ≡ Some (index, p) = found_by_opcode index ps p (tests t ps sound).fifth at in
    let used : length (word p.opcode ++ body) - length rest ≡ length (request_spelling t p vs) =
    omega (arith, ap length regrouped, length-append (request_spelling t p vs) rest) in
    rw (regrouped, long, opcode, found, values_again t streams.Request p vs rest fits, used) refl

-- the front of a list that is long enough
front_of : (n : ℕ) (xs ys : List ℕ) → length xs ≤ n → take n (xs ++ ys) ≡ xs ++ take (n - length xs) ys
front_of n xs ys le =
    let m : n ≡ length xs + (n - length xs) = omega arith in
    ap (λ (k : ℕ). take k (xs ++ ys)) m ∙ take-append-add xs ys (n - length xs)

-- a request is found at the front of its bytes, whatever follows
pub request_again : (t : Types) (ps : Procs) (index : ℕ) (p : Procedure) (vs : Data) (rest : List ℕ) (ended : Bool)
    → is_sound t ps ≡ true → slice_get ps index ≡ Some p
    → p.opcode < 2 ^ 32 → CanRequest t p vs
    → request_answer t ps (request_spelling t p vs ++ rest) ended ≡ whole index vs (length (request_spelling t p vs))
request_again t ps index p vs rest ended sound at lt can =
    let spelled : List ℕ = request_spelling t p vs in
    let waits : Bool = is_open (length (spelled ++ rest)) ended in
    ap (λ (seen : List ℕ). seen_answer t ps seen ended waits) (front_of 65536 spelled rest can.1)
    ∙ seen_again t ps index p vs (take (65536 - length spelled) rest) ended waits sound at lt can.0

-- ---- replies

ok_parts : (a c : Data) (b d : List ℕ) (r : AtFront Data) → r ≡ Ok (a, b) → r ≡ Ok (c, d) → a ≡ c
ok_parts a c b d r e f =
    let x : Data × List ℕ = (a, b) in
    let y : Data × List ℕ = (c, d) in
    let p : x ≡ y = cc in
    ap (λ (q : Data × List ℕ). q.0) p

-- no two lists of values are spelled at the front of the same bytes
one_list : (t : Types) (s : Stream) (p : Procedure) (vs ws : Data) (y z : List ℕ) → FitStream t s p vs
    → FitStream t s p ws
    → stream_spelling t s p vs ++ y ≡ stream_spelling t s p ws ++ z → ws ≡ vs
one_list t s p vs ws y z fits other is =
    ok_parts ws vs z y (read_stream t s p (stream_spelling t s p vs ++ y))
    (ap (read_stream t s p) is ∙ values_again t s p ws z other) (values_again t s p vs y fits)

-- the values of a reply are found at the front of its bytes, whatever follows
pub reply_again : (t : Types) (p : Procedure) (vs : Data) (rest : List ℕ) (result : Result (Vec Value Global) StubFault)
    → FitStream t streams.Reply p vs
    → IsReplyRead t p (stream_spelling t streams.Reply p vs ++ rest) result → AreValues vs result
reply_again t p vs rest (Ok ws) fits read = one_list t streams.Reply p vs (values_of ws.items) rest read.1 fits read.0
    read.2
reply_again t p vs rest (Err (Code c)) fits read = read.1 vs rest fits refl
reply_again t p vs rest (Err OutOfMemory) fits read = tt
