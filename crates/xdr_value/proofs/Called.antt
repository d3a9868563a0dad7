-- Names, seen through what they belong to.
use Rattle.std.proofs.Common.{◌≡◌, ℕ, List, map, string_bytes}
use Rattle.std.proofs.lemmas.Simd.{map-map}
use Rattle.xdr_value.specs.Data.{Form, Part, Param, Procedure}
use Rattle.xdr_value.specs.View.{def_of, member_of, part_of, param_of, proc_of, procs_of, types_of}
use Rattle.xdr_value.specs.Facts.{names_of}
use Rattle.xdr_value.specs.declared.def.Member.{Member}
use Rattle.xdr_value.specs.declared.def.Field.{Field}
use Rattle.xdr_value.specs.declared.def.Arg.{Arg}
use Rattle.xdr_value.specs.declared.def.Def.{Def}
use Rattle.xdr_value.specs.declared.def.Proc.{Proc}
use Rattle.std.proofs.Common.{ℤ}

pub member_names : (ms : List Member) → names_of (map member_of ms) ≡ map (λ (m : Member). string_bytes m.name) ms
member_names ms = map-map (λ (m : List ℕ × ℤ). m.0) member_of ms

pub field_names : (fs : List Field)
    → map (λ (p : Part). p.name) (map part_of fs) ≡ map (λ (f : Field). string_bytes f.name) fs
field_names fs = map-map (λ (p : Part). p.name) part_of fs

pub arg_names : (as_given : List Arg)
    → map (λ (p : Param). p.name) (map param_of as_given) ≡ map (λ (a : Arg). string_bytes a.name) as_given
arg_names as_given = map-map (λ (p : Param). p.name) param_of as_given

pub def_names : (ds : List Def) → names_of (types_of ds) ≡ map (λ (d : Def). string_bytes d.name) ds
def_names ds = map-map (λ (d : List ℕ × Form). d.0) def_of ds

pub proc_names : (ps : List Proc)
    → map (λ (p : Procedure). p.name) (procs_of ps) ≡ map (λ (p : Proc). string_bytes p.name) ps
proc_names ps = map-map (λ (p : Procedure). p.name) proc_of ps
