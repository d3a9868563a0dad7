-- The codes that are decided while a request is read are those that are served for it.
use Rattle.std.proofs.Common.{◌≡◌, ℕ, ℤ, ◌-◌, ◌≤◌, Bool, true, false, cond, not, ◌&&◌, ◌||◌, ltb, leb}
use Rattle.std.proofs.Common.{List, [], ◌++◌, length, take, drop, Option, Some, None, refl, sym, ap, ◌∙◌, arith}
use Rattle.std.specs.Int.{w32, from_be_bytes}
use Rattle.std.specs.List.{slice_get}
use Rattle.std.proofs.lemmas.Bool.{ltb-false, ltb-true, le-ltb, lt-leb}
use Rattle.std.proofs.lemmas.List.{length-append, length-drop, drop-append-le, append-nil}
use Rattle.xdr_value.specs.Data.{Data, Procedure}
use Rattle.xdr_code.proofs.Bytes.{IsBytes, wide32}
use Rattle.stub_table.specs.declared.codes.TheConstants.{OPCODE, SS_UNMARSHAL}
use Rattle.stub_table.specs.Requests.{RequestAnswer, whole, more_wanted, refused, request_answer}
use Rattle.rx_script.specs.Answers.{block_named}
use Rattle.rx_script.specs.ScriptRows.{is_up}
use Rattle.rx_script.specs.Served.{refusal, block_has, counted_at, served_by, served_from}
use Rattle.rx_script.specs.Served.{served_with}
use Rattle.rx_jobs.specs.Handlers.{Handlers, answer_to, behind_code, early_code, early_from, served_for}
use Rattle.rx_jobs.specs.Handlers.{upload_code}
use Rattle.rx_jobs.proofs.RequestStays.{AnswerStays, request_stays}

-- ---- uploads

-- the code of an upload by what is found of it: its length isn't there; it ended; its length fits; it is cut short
abbrev code_by : Bool → Bool → Bool → Bool → Option ℤ
code_by short ended fits cut =
    cond short (cond ended (Some SS_UNMARSHAL) None) (cond (not fits || (ended && cut)) (Some SS_UNMARSHAL) None)

-- a code that is decided before the end is decided behind it too, whatever follows
later_by : (short fits cut after : Bool) (c : ℤ) → code_by short false fits cut ≡ Some c
    → (short ≡ false) × (code_by false true fits after ≡ Some c)
later_by true fits cut after c is = cc
later_by false true cut after c is = cc
later_by false false cut after c is = (refl, is)

upload_later : (rest y : List ℕ) (c : ℤ) → upload_code false rest ≡ Some c → upload_code true (rest ++ y) ≡ Some c
upload_later rest y c is =
    let n : ℕ = from_be_bytes w32 rest in
    let after : Bool = ltb (length (rest ++ y) - 4) n in
    let by : (ltb (length rest) 4 ≡ false) × (code_by false true (leb n 16777216) after ≡ Some c) =
    later_by (ltb (length rest) 4) (leb n 16777216) (ltb (length rest - 4) n) after c is in
    let long : 4 ≤ length rest = ltb-false _ _ by.0 in
    let same : from_be_bytes w32 (rest ++ y) ≡ n = wide32.front rest y long ∙ sym
    (ap (from_be_bytes w32) (sym (append-nil rest)) ∙ wide32.front rest [] long) in
    let there : ltb (length (rest ++ y)) 4 ≡ false = le-ltb _ _ (omega (arith, length-append rest y)) in
    rw (there, same) by.1

-- behind a code there is no counted stream
cut_by : (X : Option (List ℕ)) (short fits cut inside : Bool) → (cut ≡ true → inside ≡ false) → (c : ℤ)
    → code_by short true fits cut ≡ Some c
    → (cond short None (cond (fits && inside) X None) ≡ None) × (SS_UNMARSHAL ≡ c)
cut_by X true fits cut inside outside c is = (refl, cc)
cut_by X false false cut inside outside c is = (refl, cc)
cut_by X false true true inside outside c is =
    (ap (λ (b : Bool). cond b X None) (outside refl), cc)
cut_by X false true false inside outside c is = cc

upload_cut : (rest : List ℕ) (c : ℤ) → upload_code true rest ≡ Some c → (counted_at rest ≡ None) × (SS_UNMARSHAL ≡ c)
upload_cut rest c is =
    let n : ℕ = from_be_bytes w32 rest in
    cut_by (Some (take n (drop 4 rest))) (ltb (length rest) 4) (leb n 16777216) (ltb (length rest - 4) n)
    (leb n (length (drop 4 rest)))
    (λ cut. lt-leb n (length (drop 4 rest)) (omega (arith, length-drop 4 rest, ltb-true _ _ cut))) c is

-- ---- what stands behind the arguments

upload_if : (b : Bool) (rest y : List ℕ) (c : ℤ) → cond b (upload_code false rest) None ≡ Some c
    → cond b (upload_code true (rest ++ y)) None ≡ Some c
upload_if true rest y c is = upload_later rest y c is
upload_if false rest y c is = is

behind_later : (g : Handlers) (rest y : List ℕ) (o : Option Procedure) (c : ℤ)
    → behind_code g false rest o ≡ Some c → behind_code g true (rest ++ y) o ≡ Some c
behind_later g rest y None c is = is
behind_later g rest y (Some p) c is = upload_if (block_has is_up (block_named p.name g.script)) rest y c is

uploaded : (g : Handlers) (p : Procedure) (args : Data) (b : Bool) (rest : List ℕ) (c : ℤ)
    → cond b (upload_code true rest) None ≡ Some c
    → served_with g.types g.script p args (cond b (counted_at rest) (Some [])) ≡ refusal c
uploaded g p args true rest c is =
    let cut : (counted_at rest ≡ None) × (SS_UNMARSHAL ≡ c) = upload_cut rest c is in
    ap (served_with g.types g.script p args) cut.0 ∙ ap refusal cut.1
uploaded g p args false rest c is = cc

behind_served : (g : Handlers) (args : Data) (rest : List ℕ) (o : Option Procedure) (c : ℤ)
    → behind_code g true rest o ≡ Some c → served_by g.types g.script args rest o ≡ refusal c
behind_served g args rest None c is = let same : OPCODE ≡ c = cc in ap refusal same
behind_served g args rest (Some p) c is =
    uploaded g p args (block_has is_up (block_named p.name g.script)) rest c is

-- ---- requests

later_from : (g : Handlers) (request y : List ℕ) (c : ℤ) (a after : RequestAnswer)
    → AnswerStays (length request) a after → early_from g request false a ≡ Some c
    → early_from g (request ++ y) true after ≡ Some c
later_from g request y c (refused d) after stays is = ap (early_from g (request ++ y) true) stays ∙ is
later_from g request y c more_wanted after stays is = cc
later_from g request y c (whole index args used) after stays is =
    ap (early_from g (request ++ y) true) stays.0
    ∙ ap (λ (rest : List ℕ). behind_code g true rest (slice_get g.procs index)) (drop-append-le used request y stays.1)
    ∙ behind_later g (drop used request) y (slice_get g.procs index) c is

-- a code that is decided before the end is decided of each request that begins so
pub early_later : (g : Handlers) (request y : List ℕ) (c : ℤ) → IsBytes y
    → early_code g request false ≡ Some c → early_code g (request ++ y) true ≡ Some c
unfolding answer_to
early_later g request y c fits is =
    later_from g request y c (request_answer g.types g.procs request false)
    (request_answer g.types g.procs (request ++ y) true)
    (request_stays g.types g.procs request y true fits) is

served_early : (g : Handlers) (request : List ℕ) (c : ℤ) (a : RequestAnswer) → early_from g request true a ≡ Some c
    → served_from g.types g.procs g.script request a ≡ refusal c
served_early g request c (refused d) is = let same : d ≡ c = cc in ap refusal same
served_early g request c more_wanted is = cc
served_early g request c (whole index args used) is =
    behind_served g args (drop used request) (slice_get g.procs index) c is

-- a code that is decided behind the end is served
pub early_served : (g : Handlers) (request : List ℕ) (c : ℤ) → early_code g request true ≡ Some c
    → served_for g request ≡ refusal c
unfolding answer_to served_for
early_served g request c is = served_early g request c (request_answer g.types g.procs request true) is

-- a code that is decided before the end is served for each request that begins so
pub begun_served : (g : Handlers) (request y : List ℕ) (c : ℤ) → IsBytes y
    → early_code g request false ≡ Some c → served_for g (request ++ y) ≡ refusal c
begun_served g request y c fits is = early_served g (request ++ y) c (early_later g request y c fits is)
