-- The types of a procedure's arguments are known.
use Rattle.std.proofs.Common.{◌≡◌, ℕ, zero, suc, ◌<◌, true, List, [], ◌∷◌, length, subst, arith, map, get_or, sym, ap}
use Rattle.std.proofs.Common.{◌∙◌}
use Rattle.std.specs.Prelude.{slice_index_or}
use Rattle.std.specs.List.{Contains}
use Rattle.std.proofs.lemmas.Bool.{and_parts}
use Rattle.std.specs.Str.{bytes_eq}
use Rattle.std.proofs.lemmas.List.{get_or-map, length-map}
use Rattle.xdr_value.specs.declared.def.Proc.{Proc}
use Rattle.xdr_value.specs.View.{proc_of, procs_of}
use Rattle.xdr_value.specs.Data.{Param, Procedure, Procs, Types}
use Rattle.xdr_value.specs.Tests.{differ, params_known, proc_sound, procs_sound, is_sound}
use Rattle.xdr_value.proofs.SoundLaw.{tests}

-- those of the first procedure, and the other procedures
pub first_known : (t : Types) (p : Procedure) (ps : Procs) → procs_sound t (p ∷ ps) ≡ true
    → (params_known t p.params ≡ true) × (procs_sound t ps ≡ true)
first_known t p ps h =
    let both = and_parts (proc_sound t p) (procs_sound t ps) h in
    ((and_parts (params_known t p.params) (differ bytes_eq (map (λ (a : Param). a.name) p.params)) both.0).0, both.1)

each_known : (t : Types) (ps : Procs) → procs_sound t ps ≡ true → (i : ℕ) (p : Procedure) → i < length ps
    → slice_index_or ps i p ≡ p
    → params_known t p.params ≡ true
each_known t [] h i p lt is = absurd (omega (arith, lt))
each_known t (q ∷ ps) h zero p lt is = subst (λ (r : Procedure). params_known t r.params ≡ true) is
    (first_known t q ps h).0
each_known t (q ∷ ps) h (suc i) p lt is = each_known t ps (first_known t q ps h).1 i p (omega (arith, lt)) is

-- in a sound interface
pub params_are_known : (t : Types) (ps : Procs) (p : Procedure) → is_sound t ps ≡ true → Contains ps p
    → params_known t p.params ≡ true
params_are_known t ps p sound has = each_known t ps (tests t ps sound).sixth has.0 p has.1 has.2

-- a procedure of an interface's list is one of its procedures
pub proc_at : (ps : List Proc) (i : ℕ) (p : Proc) → i < length ps → p ≡ get_or ps i p
    → Contains (procs_of ps) (proc_of p)
proc_at ps i p lt is =
    let same : get_or (procs_of ps) i (proc_of p) ≡ proc_of p = get_or-map proc_of ps i p (proc_of p) lt ∙ ap proc_of
    (sym is) in
    (i, omega (arith, lt, length-map ps proc_of), same)
