-- What a whole request says of the bytes.
use Rattle.std.proofs.Common.{◌≡◌, ℕ, ℤ, suc, ◌+◌, ◌-◌, ◌≤◌, Bool, true, false, not, eqb, ltb, List, [], ◌∷◌, ◌++◌}
use Rattle.std.proofs.Common.{length, take, drop, Option, Some, None, Ok, Err, refl, sym, ap, subst, ◌∙◌, append_assoc}
use Rattle.std.proofs.Common.{arith}
use Rattle.std.specs.Int.{w32, from_be_bytes}
use Rattle.std.specs.List.{slice_get}
use Rattle.std.proofs.lemmas.Bool.{eqb-true, ltb-false}
use Rattle.std.proofs.lemmas.List.{length-append, take-append-drop, length-take}
use Rattle.xdr_value.specs.Data.{Procedure, Procs, Data, Types}
use Rattle.xdr_value.specs.Spelling.{word}
use Rattle.xdr_code.specs.declared.fault.Fault.TheVariants.{Deep, Short, Bad}
use Rattle.xdr_code.specs.Reading.{AtFront}
use Rattle.xdr_code.proofs.Bytes.{IsBytes, IsBytes-take, IsBytes-drop, wide32}
use Rattle.stub_table.specs.declared.stream.Stream.TheVariants as streams
use Rattle.stub_table.specs.Streams.{FitStream, stream_spelling, request_spelling}
use Rattle.stub_table.specs.Requests.{whole, or_wait, found_from, args_answer, found_answer, is_open, seen_answer}
use Rattle.stub_table.specs.Requests.{request_answer, IsWholeRequest}
use Rattle.stub_table.specs.declared.codes.TheConstants.{DECODE}
use Rattle.stub_table.proofs.Opcodes.{pair_is}
use Rattle.stub_table.proofs.Fronts.{read_stream, values_read}

-- a procedure that is found has the index and the opcode
pub record IsFound (i opcode : ℕ) (ps : Procs) (f : ℕ × Procedure) : Type 0 where
  pub behind : ℕ
  pub index : f.0 ≡ i + behind
  pub at : slice_get ps behind ≡ Some f.1
  pub matches : f.1.opcode ≡ opcode

found_is : (b : Bool) (i opcode : ℕ) (q : Procedure) (qs : Procs) (f : ℕ × Procedure) → eqb q.opcode opcode ≡ b
    → (found_from (suc i) opcode qs ≡ Some f → IsFound (suc i) opcode qs f) → found_from i opcode (q ∷ qs) ≡ Some f
    → IsFound i opcode (q ∷ qs) f
found_is true i opcode q qs f test go e =
    let here : ℕ × Procedure = (i, q) in
    let one : found_from i opcode (q ∷ qs) ≡ Some here = rw test refl in
    let same : here ≡ f = pair_is here f (sym one ∙ e) in
    let found : IsFound i opcode (q ∷ qs) here =
    record { behind = 0; index = omega arith; at = refl; matches = eqb-true q.opcode opcode test } in
    subst (λ (x : ℕ × Procedure). IsFound i opcode (q ∷ qs) x) same found
found_is false i opcode q qs f test go e =
    let one : found_from i opcode (q ∷ qs) ≡ found_from (suc i) opcode qs = rw test refl in
    let h = go (sym one ∙ e) in
    record { behind = suc h.behind; index = omega (arith, h.index); at = h.at; matches = h.matches }

-- what is found has the index and the opcode
pub found_has : (i opcode : ℕ) (ps : Procs) (f : ℕ × Procedure) → found_from i opcode ps ≡ Some f
    → IsFound i opcode ps f
found_has i opcode [] f e = absurd cc
found_has i opcode (q ∷ qs) f e = found_is (eqb q.opcode opcode) i opcode q qs f refl (found_has (suc i) opcode qs f) e

-- what a whole request is at the front of
pub record IsFront (t : Types) (ps : Procs) (seen : List ℕ) (index : ℕ) (vs : Data) (used : ℕ) : Type 0 where
  pub p : Procedure
  pub rest : List ℕ
  pub at : slice_get ps index ≡ Some p
  pub fits : FitStream t streams.Request p vs
  pub spelled : seen ≡ request_spelling t p vs ++ rest
  pub used_all : used ≡ length (request_spelling t p vs)

whole_parts : (a b : ℕ) (d e : Data) (m n : ℕ) → whole a d m ≡ whole b e n → (a ≡ b) × (d ≡ e) × (m ≡ n)
whole_parts a b d e m n h = (cc, cc, cc)

never_waits : (w : Bool) (code : ℤ) (index : ℕ) (vs : Data) (used : ℕ) → or_wait w code ≡ whole index vs used → ⊥
never_waits true code index vs used e = absurd cc
never_waits false code index vs used e = absurd cc

-- the four bytes of the opcode, and those behind it
word_front : (seen : List ℕ) → 4 ≤ length seen → IsBytes seen → word (from_be_bytes w32 seen) ++ drop 4 seen ≡ seen
word_front [] long fits = absurd (omega (arith, long))
word_front (a ∷ []) long fits = absurd (omega (arith, long))
word_front (a ∷ b ∷ []) long fits = absurd (omega (arith, long))
word_front (a ∷ b ∷ c ∷ []) long fits = absurd (omega (arith, long))
word_front (a ∷ b ∷ c ∷ d ∷ rest) long fits =
    ap (λ (front : List ℕ). front ++ rest) (wide32.back (a ∷ b ∷ c ∷ d ∷ []) refl (IsBytes-take 4 (a ∷ b ∷ c ∷ d ∷ rest)
    fits))

front_from : (t : Types) (ps : Procs) (seen : List ℕ) (f : ℕ × Procedure) (vs : Data) (rest : List ℕ) → 4 ≤ length seen
    → IsBytes seen
    → IsFound 0 (from_be_bytes w32 seen) ps f → read_stream t streams.Request f.1 (drop 4 seen) ≡ Ok (vs, rest)
    → IsFront t ps seen f.0 vs (length seen - length rest)
front_from t ps seen f vs rest long fits found e =
    let read = values_read t streams.Request f.1 (drop 4 seen) rest vs (IsBytes-drop 4 seen fits) e in
    let place : found.behind ≡ f.0 = omega (arith, found.index) in
    let spelled : seen ≡ request_spelling t f.1 vs ++ rest =
    sym (word_front seen long fits) ∙ ap (λ (n : ℕ). word n ++ drop 4 seen) (sym found.matches) ∙
    ap (λ (body : List ℕ). word f.1.opcode ++ body) read.1
    ∙ sym (append_assoc (word f.1.opcode) (stream_spelling t streams.Request f.1 vs) rest) in
    record {
      p = f.1;
      rest = rest;
      at = rw place at found.at;
      fits = read.0;
      spelled = spelled;
      used_all = omega (arith, ap length spelled, length-append (request_spelling t f.1 vs) rest);
    }

module _ (t : Types) (ps : Procs) (seen : List ℕ) (waits : Bool) (f : ℕ × Procedure) (index : ℕ) (vs : Data) (used : ℕ)
  where
    args_say : (r : AtFront Data) → 4 ≤ length seen → IsBytes seen → IsFound 0 (from_be_bytes w32 seen) ps f
        → read_stream t streams.Request f.1 (drop 4 seen) ≡ r
        → args_answer f.0 (length seen) waits r ≡ whole index vs used → IsFront t ps seen index vs used
    args_say (Ok x) long fits found read e =
        let parts = whole_parts f.0 index x.0 vs (length seen - length x.1) used e in
        rw (← parts.0, ← parts.1, ← parts.2) (front_from t ps seen f x.0 x.1 long fits found read)
    args_say (Err Deep) long fits found read e = absurd cc
    args_say (Err (Bad left why)) long fits found read e = absurd cc
    args_say (Err Short) long fits found read e =
        absurd (never_waits waits _ index vs used e)

found_says : (t : Types) (ps : Procs) (seen : List ℕ) (waits : Bool) (index : ℕ) (vs : Data) (used : ℕ)
    (o : Option (ℕ × Procedure)) → 4 ≤ length seen → IsBytes seen
    → found_from 0 (from_be_bytes w32 seen) ps ≡ o
    → found_answer t (length seen) waits (drop 4 seen) o ≡ whole index vs used → IsFront t ps seen index vs used
found_says t ps seen waits index vs used None long fits found e = absurd cc
found_says t ps seen waits index vs used (Some f) long fits found e =
    args_say t ps seen waits f index vs used (read_stream t streams.Request f.1 (drop 4 seen)) long fits
    (found_has 0 _ ps f found) refl e

seen_says : (t : Types) (ps : Procs) (seen : List ℕ) (ended waits b : Bool) (index : ℕ) (vs : Data) (used : ℕ)
    → IsBytes seen → ltb (length seen) 4 ≡ b
    → seen_answer t ps seen ended waits ≡ whole index vs used → IsFront t ps seen index vs used
seen_says t ps seen ended waits true index vs used fits test e =
    let cut : or_wait (not ended) DECODE ≡ whole index vs used = rw test at e in
    absurd (never_waits (not ended) DECODE index vs used cut)
seen_says t ps seen ended waits false index vs used fits test e =
    let told : found_answer t (length seen) waits (drop 4 seen) (found_from 0 (from_be_bytes w32 seen) ps)
    ≡ whole index vs used = rw test at e in
    found_says t ps seen waits index vs used (found_from 0 (from_be_bytes w32 seen) ps) (ltb-false _ _ test) fits refl
    told

-- a whole request is the front of the bytes, and no longer than what is looked at
pub whole_says : (t : Types) (ps : Procs) (bytes : List ℕ) (ended : Bool) (index : ℕ) (vs : Data) (used : ℕ)
    → IsBytes bytes
    → request_answer t ps bytes ended ≡ whole index vs used → IsWholeRequest t ps bytes index vs used
whole_says t ps bytes ended index vs used fits e =
    let seen : List ℕ = take 65536 bytes in
    let h = seen_says t ps seen ended (is_open (length bytes) ended) (ltb (length seen) 4) index vs used
    (IsBytes-take 65536 bytes fits) refl e in
    let spelled : bytes ≡ request_spelling t h.p vs ++ (h.rest ++ drop 65536 bytes) =
    sym (take-append-drop 65536 bytes) ∙ ap (λ (front : List ℕ). front ++ drop 65536 bytes) h.spelled
    ∙ append_assoc (request_spelling t h.p vs) h.rest (drop 65536 bytes) in
    let short : length (request_spelling t h.p vs) ≤ 65536 =
    omega (arith, ap length h.spelled, length-append (request_spelling t h.p vs) h.rest, length-take 65536 bytes) in
    (h.p, h.rest ++ drop 65536 bytes, h.at, (h.fits, short), spelled, h.used_all)
