-- How long requests and replies are.
use Rattle.std.proofs.Common.{◌≡◌, ◌<◌, ◌≤◌, ◌++◌, ℕ, Bool, true, false, List, Option, Some, None, length}
use Rattle.std.proofs.Common.{refl, subst, arith, drop, slice_get, nat_le, length-append, leb-true}
use Rattle.std.proofs.lemmas.Bool.{and_parts}
use Rattle.std.specs.Prelude.{if◌then◌else◌}
use Rattle.xdr_value.specs.Data.{Data, Procedure}
use Rattle.xdr_value.specs.Fits.{depths}
use Rattle.xdr_value.specs.Fitting.{parts_fit}
use Rattle.xdr_value.specs.declared.levels.TheConstants.{MAX_LEVELS}
use Rattle.stub_table.specs.Requests.{RequestAnswer, refused, more_wanted, whole, request_answer}
use Rattle.stub_table.specs.Streams.{parts_with, request_spelling, stream_spelling}
use Rattle.stub_table.specs.declared.codes.TheConstants.{MAX_STREAM_BYTES, SS_MARSHAL}
use Rattle.stub_table.specs.declared.stream.Stream.TheVariants as streams
use Rattle.rx_asks.specs.declared.ask.TheConstants.{REPLY_BYTES}
use Rattle.rx_jobs.specs.Handlers.{Handlers, served_for}
use Rattle.rx_reply.specs.Sent.{CanSend, UploadFits, upload_spelling}
use Rattle.rx_script.specs.Answers.{Answer, answer_of, block_named, code, reply}
use Rattle.rx_script.specs.ScriptRows.{is_down}
use Rattle.rx_script.specs.Served.{as_counted, block_has, bytes, is_reply, refusal, served_answer, served_by}
use Rattle.rx_script.specs.Served.{served_from}
use Rattle.rx_script.specs.Served.{served_with, upload_of}
use Rattle.rx_script.specs.declared.limits.TheConstants.{MAX_BYTES}
use Rattle.rx_plan.specs.Answering.{Invoked, request_for}

-- ---- requests

upload_short : (up : Option (List ℕ)) → UploadFits up → length (upload_spelling up) ≤ 16777220
upload_short None fits = omega arith
upload_short (Some bytes_) fits = omega arith

-- an invoke that can be sent has a request of at most so many bytes
pub request_short : (g : Handlers) (i : Invoked) → CanSend g.types i.proc i.args i.up
    → length (request_for g i) ≤ 16842756
request_short g i can =
    let own : length (request_spelling g.types i.proc i.args) ≤ MAX_STREAM_BYTES = can.0.1 in
    omega (
      arith,
      upload_short i.up can.1,
      length-append (request_spelling g.types i.proc i.args) (upload_spelling i.up),
    )

-- and some
pub request_some : (g : Handlers) (i : Invoked) → 0 < length (request_for g i)
request_some g i =
    omega (arith, length-append (request_spelling g.types i.proc i.args) (upload_spelling i.up))

-- ---- replies

-- a reply that is served isn't longer than a caller keeps
pub reply_short : (g : Handlers) (request out : List ℕ) → served_for g request ≡ bytes out
    → length out ≤ REPLY_BYTES
unfolding served_for
reply_short g request out is = of (request_answer g.types g.procs request true) is
  where
    same_bytes : (a b : List ℕ) → bytes a ≡ bytes b → a ≡ b
    same_bytes a b same = cc

    whether : (sent spelled : List ℕ) (fits small down : Bool) → (fits ≡ true → length spelled ≤ MAX_STREAM_BYTES)
        → (small ≡ true → length sent ≤ MAX_BYTES)
        → (if fits then (if small then (if down then bytes (as_counted sent ++ spelled) else bytes spelled)
        else refusal SS_MARSHAL) else refusal SS_MARSHAL) ≡ bytes out
        → length out ≤ REPLY_BYTES
    whether sent spelled false small down brief few same = absurd cc
    whether sent spelled true false down brief few same = absurd cc
    whether sent spelled true true false brief few same =
        let all : spelled ≡ out = same_bytes spelled out same in
        subst (λ (xs : List ℕ). length xs ≤ REPLY_BYTES) all (let short = brief refl in omega arith)
    whether sent spelled true true true brief few same =
        let all : as_counted sent ++ spelled ≡ out = same_bytes (as_counted sent ++ spelled) out same in
        subst (λ (xs : List ℕ). length xs ≤ REPLY_BYTES) all
        (let short = brief refl in let small = few refl in
        omega (arith, length-append (as_counted sent) spelled))

    by_answer : (p : Procedure) (down : Bool) (a : Answer) → served_answer g.types p down a ≡ bytes out
        → length out ≤ REPLY_BYTES
    by_answer p down (code c) same = absurd cc
    by_answer p down (reply vs sent) same =
        let spelled : List ℕ = stream_spelling g.types streams.Reply p vs in
        whether sent spelled (is_reply g.types p vs) (nat_le (length sent) MAX_BYTES) down
        (λ fits. (
        let both = and_parts (parts_fit g.types (parts_with streams.Reply p.params) vs) _ fits in
        leb-true (length spelled) MAX_STREAM_BYTES
        (and_parts (nat_le (depths vs) MAX_LEVELS) (nat_le (length spelled) MAX_STREAM_BYTES) both.1).1))
        (λ small. leb-true (length sent) MAX_BYTES small) same

    with_upload : (p : Procedure) (args : Data) (o : Option (List ℕ))
        → served_with g.types g.script p args o ≡ bytes out → length out ≤ REPLY_BYTES
    with_upload p args None same = absurd cc
    with_upload p args (Some upload) same =
        by_answer p (block_has is_down (block_named p.name g.script)) (answer_of g.types g.script p args upload) same

    by_procedure : (args : Data) (rest : List ℕ) (o : Option Procedure)
        → served_by g.types g.script args rest o ≡ bytes out → length out ≤ REPLY_BYTES
    by_procedure args rest None same = absurd cc
    by_procedure args rest (Some p) same = with_upload p args (upload_of g.script p rest) same

    of : (a : RequestAnswer) → served_from g.types g.procs g.script request a ≡ bytes out → length out ≤ REPLY_BYTES
    of (refused c) same = absurd cc
    of more_wanted same = absurd cc
    of (whole index args used) same = by_procedure args (drop used request) (slice_get g.procs index) same
