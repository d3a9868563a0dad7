-- The bytes that are served for the request of an invoke say what the script answers to it.
use Rattle.std.proofs.Common.{◌≡◌, ◌≢◌, ◌≤◌, ◌<◌, ◌^◌, leb, ltb, nat_le, is_some, if◌then◌else◌, ℕ, ℤ, pos, suc}
use Rattle.std.proofs.Common.{Bool, true, false, List, [], ◌∷◌, ◌++◌, length, take, drop, Option, Some, None, refl, sym}
use Rattle.std.proofs.Common.{ap, subst, ◌∙◌, arith, append-nil, bytes_eq, slice_get, All}
use Rattle.std.specs.Option.{option_or}
use Rattle.std.specs.Int.{w32, from_be_bytes}
use Rattle.std.proofs.lemmas.Bool.{le-leb, le-ltb, leb-true}
use Rattle.std.proofs.lemmas.List.{take_at}
use Rattle.std.proofs.lemmas.List.Elements.{All-head, All-tail}
use Rattle.std.proofs.lemmas.Nat.{from_be_bytes-to_be_bytes_4}
use Rattle.std.proofs.lemmas.Option.{get_or_from_slice_get, slice_get_within}
use Rattle.std.proofs.Math.Seq.{drop-append_seam}
use Rattle.rx_model.proofs.NameLaws.{both}
use Rattle.xdr_value.specs.Data.{Data, Param, Part, Procedure, Procs, Types, end, more}
use Rattle.xdr_value.specs.Fits.{PartsFit, depths}
use Rattle.xdr_value.specs.Fitting.{does_fit, parts_fit}
use Rattle.xdr_value.specs.Spelling.{word}
use Rattle.xdr_value.specs.declared.levels.TheConstants.{MAX_LEVELS}
use Rattle.xdr_value.proofs.FitsLaw.{fits_is}
use Rattle.stub_table.specs.declared.codes.TheConstants.{MAX_STREAM_BYTES, SS_MARSHAL}
use Rattle.stub_table.specs.declared.stream.Stream.TheVariants as streams
use Rattle.stub_table.specs.Streams.{FitStream, parts_with, request_spelling, stream_spelling}
use Rattle.stub_table.proofs.Again.{request_again}
use Rattle.rx_jobs.specs.Handlers.{Handlers, served_for}
use Rattle.rx_reply.specs.Replies.{Returned, reply_says}
use Rattle.rx_reply.specs.Sent.{CanSend, UploadFits, upload_spelling}
use Rattle.rx_reply.specs.Spelled.{CanReturn, reply_spelling}
use Rattle.rx_reply.proofs.Spoken.{spelled_is_said}
use Rattle.rx_script.specs.Answers.{Answer, block_answer, block_named, came, code, code_of, coded_or, fail_code}
use Rattle.rx_script.specs.Answers.{first_given, held_code, reply}
use Rattle.rx_script.specs.Procs.{proc_named}
use Rattle.rx_script.specs.Same.{same_value}
use Rattle.rx_script.specs.Saying.{Answering, Saying, when, fail}
use Rattle.rx_script.specs.ScriptRows.{is_up}
use Rattle.rx_script.specs.Served.{as_counted, block_has, bytes, counted_at, is_reply}
use Rattle.rx_script.specs.Served.{refusal, served_answer, served_by, served_from, served_with, upload_of}
use Rattle.rx_script.specs.declared.limits.TheConstants.{MAX_BYTES}
use Rattle.rx_plan.specs.Answering.{AgreesOnStreams, AnswersNoZero, AreServable, Invoked, answer_for, request_for}
use Rattle.rx_plan.specs.Answering.{returned, upload_of as upload_in}

-- ---- what holds of each holds of one

pub all_at : {X : Type 0} (P : X → Type 0) (xs : List X) (k : ℕ) (x : X) → All P xs → slice_get xs k ≡ Some x → P x
all_at P xs k x all is = subst P (get_or_from_slice_get xs k x x is) (all k x (slice_get_within xs k x is))

-- a procedure that is found by its name has a place
pub named_at : (name : List ℕ) (ps : Procs) (p : Procedure) → proc_named name ps ≡ Some p
    → (k : ℕ) × (slice_get ps k ≡ Some p)
named_at name [] p is = absurd cc
named_at name (q ∷ qs) p is = by (bytes_eq q.name name) refl (named_at name qs p)
  where
    by : (b : Bool) → bytes_eq q.name name ≡ b → (proc_named name qs ≡ Some p → (k : ℕ) × (slice_get qs k ≡ Some p))
        → (k : ℕ) × (slice_get (q ∷ qs) k ≡ Some p)
    by true same next = (0, (let here : Some q ≡ Some p = rw same at is in here))
    by false same next =
        (let there : proc_named name qs ≡ Some p = rw same at is in
        let at : (k : ℕ) × (slice_get qs k ≡ Some p) = next there in
        (suc at.0, at.1))

-- ---- the upload

-- a counted stream is found again
counted_found : (sent : List ℕ) → length sent ≤ 16777216 → counted_at (as_counted sent) ≡ Some sent
counted_found sent within =
    let long : ltb (length (word (length sent) ++ sent)) 4 ≡ false = le-ltb _ _ (omega arith) in
    let count : from_be_bytes w32 (word (length sent) ++ sent) ≡ length sent =
    from_be_bytes-to_be_bytes_4 (length sent) (omega (arith, within)) in
    let small : leb (length sent) 16777216 ≡ true = le-leb (length sent) 16777216 within in
    let there : leb (length sent) (length sent) ≡ true = le-leb (length sent) (length sent) (omega arith) in
    let front : take (length sent) sent ≡ sent =
    ap (take (length sent)) (sym (append-nil sent)) ∙ take_at sent [] (length sent) refl in
    rw (long, count, small, there, front) refl

-- the upload of a request is what went up, where the script reads one just where there is one
upload_found : (g : Handlers) (p : Procedure) (up : Option (List ℕ)) → UploadFits up
    → is_some up ≡ block_has is_up (block_named p.name g.script)
    → upload_of g.script p (upload_spelling up) ≡ Some (upload_in up)
upload_found g p None fits agrees =
    ap (λ (b : Bool). if b then counted_at [] else Some []) (sym agrees)
upload_found g p (Some up) fits agrees =
    ap (λ (b : Bool). if b then counted_at (as_counted up) else Some []) (sym agrees) ∙ counted_found up fits

-- ---- what is served

-- of an invoke that agrees with the script
pub served_invoke : (g : Handlers) (i : Invoked) (index : ℕ) → AreServable g → slice_get g.procs index ≡ Some i.proc
    → CanSend g.types i.proc i.args i.up → AgreesOnStreams g i
    → served_for g (request_for g i) ≡ served_answer g.types i.proc i.down (answer_for g i)
unfolding served_for
served_invoke g i index servable at can agrees =
    let t : Types = g.types in
    let spelled : List ℕ = request_spelling t i.proc i.args in
    let behind : List ℕ = upload_spelling i.up in
    let lt : i.proc.opcode < 2 ^ 32 = all_at (λ p. p.opcode < 2 ^ 32) g.procs index i.proc servable.opcodes at in
    let answer = request_again t g.procs index i.proc i.args behind true servable.sound at lt can.0 in
    ap (served_from t g.procs g.script (spelled ++ behind)) answer
    ∙ ap (served_by t g.script i.args (drop (length spelled) (spelled ++ behind))) at
    ∙ ap (λ (rest : List ℕ). served_with t g.script i.proc i.args (upload_of g.script i.proc rest))
    (drop-append_seam spelled behind)
    ∙ ap (served_with t g.script i.proc i.args) (upload_found g i.proc i.up can.1 agrees.up)
    ∙ ap (λ (down : Bool). served_answer t i.proc down (answer_for g i)) (sym agrees.down)

-- ---- the values

parts_do_fit : (t : Types) (ps : List Part) (vs : Data) → parts_fit t ps vs ≡ true → PartsFit t ps vs
parts_do_fit t [] end fits = tt
parts_do_fit t [] (more v vs) fits = absurd cc
parts_do_fit t (p ∷ ps) end fits = absurd cc
parts_do_fit t (p ∷ ps) (more v vs) fits =
    let two = both (does_fit t p.kind v) (parts_fit t ps vs) fits in
    ((fits_is t p.kind v).0 two.0, parts_do_fit t ps vs two.1)

-- bytes that are served for an answer
pub record IsReturned (t : Types) (p : Procedure) (down : Bool) (a : Answer) (out : List ℕ) : Type 0 where
  pub says : Returned
  pub answers : returned down a ≡ Some says
  pub can : CanReturn t p down says
  pub spelled : out ≡ reply_spelling t p down says

bytes_are : (xs ys : List ℕ) → bytes xs ≡ bytes ys → xs ≡ ys
bytes_are xs ys is = cc

is_returned : (t : Types) (p : Procedure) (down : Bool) (vs : Data) (sent out : List ℕ)
    → FitStream t streams.Reply p vs → length sent ≤ 16777216
    → (if down then bytes (as_counted sent ++ stream_spelling t streams.Reply p vs)
    else bytes (stream_spelling t streams.Reply p vs)) ≡ bytes out
    → IsReturned t p down (reply vs sent) out
is_returned t p true vs sent out fits within is =
    record {
      says = record { values = vs; download = sent };
      answers = refl;
      can = (fits, within);
      spelled = sym (bytes_are _ _ is);
    }
is_returned t p false vs sent out fits within is =
    record {
      says = record { values = vs; download = [] };
      answers = refl;
      can = (fits, refl);
      spelled = sym (bytes_are _ _ is);
    }

pub served_returned : (t : Types) (p : Procedure) (down : Bool) (a : Answer) (out : List ℕ)
    → served_answer t p down a ≡ bytes out → IsReturned t p down a out
served_returned t p down (code c) out is = absurd cc
served_returned t p down (reply vs sent) out is =
    whether (is_reply t p vs) (nat_le (length sent) MAX_BYTES) refl refl is
  where
    spelled : List ℕ
    spelled = stream_spelling t streams.Reply p vs

    whether : (fits small : Bool) → is_reply t p vs ≡ fits → nat_le (length sent) MAX_BYTES ≡ small
        → (if fits then (if small then (if down then bytes (as_counted sent ++ spelled) else bytes spelled)
        else refusal SS_MARSHAL) else refusal SS_MARSHAL) ≡ bytes out
        → IsReturned t p down (reply vs sent) out
    whether false small fits within is = absurd cc
    whether true false fits within is = absurd cc
    whether true true fits within is =
        (let first = both (parts_fit t (parts_with streams.Reply p.params) vs) _ fits in
        let second = both (nat_le (depths vs) MAX_LEVELS) (nat_le (length spelled) MAX_STREAM_BYTES) first.1 in
        is_returned t p down vs sent out
        (parts_do_fit t (parts_with streams.Reply p.params) vs first.0, leb-true (depths vs) MAX_LEVELS second.0)
        (leb-true (length sent) 16777216 within) is)

-- what is said by bytes that are served for an answer
pub returned_said : (t : Types) (p : Procedure) (down : Bool) (a : Answer) (out : List ℕ)
    → (r : IsReturned t p down a out) → reply_says t p down out ≡ Some r.says
returned_said t p down a out r =
    ap (reply_says t p down) (r.spelled ∙ sym (append-nil (reply_spelling t p down r.says)))
    ∙ spelled_is_said t p down r.says [] r.can

-- ---- blocks and their lines

-- what the first line gives, of which something is given, is so where each line's is
pub first_given_is : {A : Type 0} (give : Saying → Option A) (P : Saying → Type 0) (Q : A → Type 0)
    → ((l : Saying) (a : A) → P l → give l ≡ Some a → Q a)
    → (ls : List Saying) (a : A) → All P ls → first_given give ls ≡ Some a → Q a
first_given_is give P Q one [] a all is = absurd cc
first_given_is {A = A} give P Q one (l ∷ ls) a all is =
    by (give l) refl (first_given_is give P Q one ls a (All-tail P l ls all))
  where
    by : (o : Option A) → give l ≡ o → (first_given give ls ≡ Some a → Q a) → Q a
    by None none next = (let there : first_given give ls ≡ Some a = rw none at is in next there)
    by (Some b) some next =
        (let same : Some b ≡ Some a = rw some at is in
        one l a (All-head P l ls all) (some ∙ same))

-- what is so of the lines of all blocks is so of those of a block that is named
pub block_in : (P : List Saying → Type 0) (name : List ℕ) (bs : List Answering) (b : Answering)
    → All (λ (x : Answering). P x.lines) bs → block_named name bs ≡ Some b → P b.lines
block_in P name [] b all is = absurd cc
block_in P name (x ∷ xs) b all is =
    by (bytes_eq x.proc name) refl (block_in P name xs b (All-tail (λ (y : Answering). P y.lines) x xs all))
  where
    by : (same : Bool) → bytes_eq x.proc name ≡ same → (block_named name xs ≡ Some b → P b.lines) → P b.lines
    by true same next =
        (let here : Some x ≡ Some b = rw same at is in
        let one : x ≡ b = cc in
        subst (λ (y : Answering). P y.lines) one (All-head (λ (y : Answering). P y.lines) x xs all))
    by false same next = (let there : block_named name xs ≡ Some b = rw same at is in next there)

-- ---- no code is 0

held_nonzero : (ps : List Param) (args : Data) (l : Saying) (c : ℤ) → AnswersNoZero l → held_code ps args l ≡ Some c
    → c ≢ pos 0
held_nonzero ps args (when arg value given) c nonzero is = by (same_value (came ps args arg) value) is
  where
    by : (b : Bool) → (if b then Some given else None) ≡ Some c → c ≢ pos 0
    by true is = (let same : given ≡ c = cc in subst (λ (d : ℤ). d ≢ pos 0) same nonzero)
    by false is = absurd cc
held_nonzero ps args l c nonzero is = absurd cc

fail_nonzero : (l : Saying) (c : ℤ) → AnswersNoZero l → fail_code l ≡ Some c → c ≢ pos 0
fail_nonzero (fail given) c nonzero is = (let same : given ≡ c = cc in subst (λ (d : ℤ). d ≢ pos 0) same nonzero)
fail_nonzero l c nonzero is = absurd cc

-- the first of two that is given
either_given : (x y : Option ℤ) (c : ℤ) → option_or x y ≡ Some c → (x ≡ Some c → c ≢ pos 0) → (y ≡ Some c → c ≢ pos 0)
    → c ≢ pos 0
either_given None y c is first second = second is
either_given (Some d) y c is first second = first is

pub answer_nonzero : (g : Handlers) (i : Invoked) (c : ℤ) → AreServable g → answer_for g i ≡ code c → c ≢ pos 0
answer_nonzero g i c servable is = by (block_named i.proc.name g.script) refl is
  where
    args_up : List ℕ
    args_up = upload_in i.up

    codes : (ls : List Saying) (values : Answer) → All AnswersNoZero ls → (o : Option ℤ)
        → code_of i.proc.params i.args ls ≡ o → coded_or o values ≡ code c → ((d : ℤ) → values ≡ code d → ⊥) → c ≢ pos 0
    codes ls values all None none is replies = absurd (replies c is)
    codes ls values all (Some d) some is replies =
        (let same : d ≡ c = cc in
        either_given (first_given (held_code i.proc.params i.args) ls) (first_given fail_code ls) c
        (some ∙ ap (λ (z : ℤ). Some z) same)
        (first_given_is (held_code i.proc.params i.args) AnswersNoZero (λ d. d ≢ pos 0)
        (held_nonzero i.proc.params i.args) ls c all)
        (first_given_is fail_code AnswersNoZero (λ d. d ≢ pos 0) fail_nonzero ls c all))

    by : (o : Option Answering) → block_named i.proc.name g.script ≡ o
        → block_answer g.types i.proc.params i.args args_up o ≡ code c → c ≢ pos 0
    by None none is = absurd cc
    by (Some b) some is =
        codes b.lines _ (block_in (All AnswersNoZero) i.proc.name g.script b servable.codes some)
        (code_of i.proc.params i.args b.lines) refl is (λ d never. absurd cc)

-- so no invoke's request is answered with the code 0
pub served_nonzero : (g : Handlers) (i : Invoked) → AreServable g
    → served_answer g.types i.proc i.down (answer_for g i) ≡ refusal (pos 0) → ⊥
served_nonzero g i servable is = by (answer_for g i) refl is
  where
    refused : (c : ℤ) → refusal c ≡ refusal (pos 0) → c ≡ pos 0
    refused c same = cc

    marshal : refusal SS_MARSHAL ≡ refusal (pos 0) → ⊥
    marshal same = (let zero : SS_MARSHAL ≡ pos 0 = refused SS_MARSHAL same in absurd cc)

    by : (a : Answer) → answer_for g i ≡ a → served_answer g.types i.proc i.down a ≡ refusal (pos 0) → ⊥
    by (code c) answer is = answer_nonzero g i c servable answer (refused c is)
    by (reply vs sent) answer is =
        whether (is_reply g.types i.proc vs) (nat_le (length sent) MAX_BYTES) i.down is
      where
        spelled : List ℕ
        spelled = stream_spelling g.types streams.Reply i.proc vs

        whether : (fits small down : Bool)
            → (if fits then (if small then (if down then bytes (as_counted sent ++ spelled) else bytes spelled)
            else refusal SS_MARSHAL) else refusal SS_MARSHAL) ≡ refusal (pos 0) → ⊥
        whether false small down is = marshal is
        whether true false down is = marshal is
        whether true true true is = absurd cc
        whether true true false is = absurd cc
