-- Going through the arguments of a procedure, one after the other.
use Rattle.std.proofs.Common.{◌≡◌, ◌↔◌, ◌≤◌, Bool, true, false, List, [], ◌∷◌, map, length, refl, sym, ◌∙◌, arith, eqb}
use Rattle.xdr_value.specs.declared.def.Arg.{Arg}
use Rattle.xdr_value.specs.Data.{Part, Param, Types}
use Rattle.xdr_value.specs.View.{param_of, values_of}
use Rattle.xdr_value.specs.declared.value.Value.{Value}
use Rattle.std.specs.Prelude.{IsTrue}
use Rattle.std.proofs.lemmas.Bool.{false≢true, ne_eqb}
use Rattle.stub_table.specs.declared.stream.Stream.{Stream}
use Rattle.stub_table.specs.Streams.{goes_with, parts_with, PartsFitWithin}

-- the field of an argument
abbrev pub part_for : Param → Part
part_for p = record { name = p.name; kind = p.kind }

pub parts_go : (s : Stream) (p : Param) (ps : List Param) → goes_with s p.mode ≡ true
    → parts_with s (p ∷ ps) ≡ part_for p ∷ parts_with s ps
parts_go s p ps e = rw e refl

pub parts_stay : (s : Stream) (p : Param) (ps : List Param) → goes_with s p.mode ≡ false
    → parts_with s (p ∷ ps) ≡ parts_with s ps
parts_stay s p ps e = rw e refl

-- those that are left, where the first goes with the stream, and where it doesn't
pub left_go : (s : Stream) (left rest : List Arg) (a : Arg) → left ≡ a ∷ rest → goes_with s a.mode ≡ true
    → parts_with s (map param_of left) ≡ part_for (param_of a) ∷ parts_with s (map param_of rest)
left_go s left rest a is e = rw is (parts_go s (param_of a) (map param_of rest) e)

pub left_stay : (s : Stream) (left rest : List Arg) (a : Arg) → left ≡ a ∷ rest → goes_with s a.mode ≡ false
    → parts_with s (map param_of left) ≡ parts_with s (map param_of rest)
left_stay s left rest a is e = rw is (parts_stay s (param_of a) (map param_of rest) e)

-- where no argument is left, no value is
pub fit_done : (t : Types) (left : List Value) (r : Bool) → r ≡ eqb (length left) 0
    → IsTrue r ↔ PartsFitWithin t [] (values_of left)
fit_done t [] r e = (λ h. (tt, omega arith), λ h. e)
fit_done t (v ∷ vs) r e =
    let no : eqb (length (v ∷ vs)) 0 ≡ false = ne_eqb _ _ (λ n. absurd (omega (arith, n))) in
    (λ h. absurd (false≢true (sym no ∙ sym e ∙ h)), λ h. absurd h.0)
