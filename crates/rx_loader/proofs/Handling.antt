-- What a load serves, and the bytes of its requests.
use Rattle.std.proofs.Common.{◌≡◌, ◌∷◌, ◌++◌, ◌∙◌, ◌%◌, ℕ, List, [], Ok, Some, None, Global, Vec, ap, refl, replicate}
use Rattle.std.proofs.Common.{slice_get, subst, sym}
use Rattle.std.specs.Prelude.{IsTrue}
use Rattle.xdr_value.specs.Data.{Data, Procedure, Types, end, more, octets}
use Rattle.xdr_value.specs.Tests.{differ, has_one, is_sound}
use Rattle.xdr_value.specs.View.{proc_of, procs_of, types_of}
use Rattle.xdr_value.specs.declared.def.Def.{Def}
use Rattle.xdr_value.specs.declared.def.Proc.{Proc}
use Rattle.rx_reply.specs.Sent.{AreRequestBytes, sent_spelling}
use Rattle.rx_load.specs.Loads.{load_request, take_proc}

-- ---- what it serves

-- its procedure may stand alone in an interface without types
take_sound : IsTrue (is_sound [] (take_proc ∷ []))
unfolding is_sound differ has_one
take_sound = refl

-- so may a procedure that is it
pub serves_take : (types : List Def) (none procs : List Proc) (p : Proc) → types ≡ [] → none ≡ []
    → procs ≡ none ++ p ∷ [] → proc_of p ≡ take_proc → IsTrue (is_sound (types_of types) (procs_of procs))
serves_take types none procs p untyped empty pushed is =
    subst (λ ts. IsTrue (is_sound (types_of ts) (procs_of procs))) (sym untyped)
    (subst (λ ps. IsTrue (is_sound [] (procs_of ps))) (sym (pushed ∙ ap (λ ps. ps ++ p ∷ []) empty))
    (subst (λ (q : Procedure). IsTrue (is_sound [] (q ∷ []))) (sym is) take_sound))

-- ---- requests

-- the first procedure is that which is called
pub first_is_take : (procs : List Proc) (p : Proc) → procs_of procs ≡ take_proc ∷ [] → slice_get procs 0 ≡ Some p
    → proc_of p ≡ take_proc
first_is_take [] p serves first = cc
first_is_take (q ∷ qs) p serves first =
    let same : q ≡ p = cc in
    let is : proc_of q ≡ take_proc = cc in
    ap proc_of (sym same) ∙ is

-- the bytes of a request whose Body is so long
pub request_is : (types : Types) (p : Procedure) (values : Data) (bytes : Vec ℕ Global) (number length : ℕ)
    → types ≡ [] → p ≡ take_proc → AreRequestBytes types p values None (Ok bytes)
    → values ≡ more (octets (replicate length (number % 256))) end → bytes.items ≡ load_request number length
request_is types p values bytes number length untyped is sent body =
    sent.1 ∙ ap (λ ts. sent_spelling ts p values None) untyped ∙ ap (λ q. sent_spelling [] q values None) is
    ∙ ap (λ vs. sent_spelling [] take_proc vs None) body
