-- Finding a procedure by its opcode.
use Rattle.std.proofs.Common.{◌≡◌, ℕ, zero, suc, ◌+◌, Bool, true, false, not, ◌||◌, eqb, List, [], ◌∷◌, map, Some, refl}
use Rattle.std.proofs.Common.{sym, ap, ◌∙◌, subst, arith}
use Rattle.std.specs.Prelude.{nat_eq}
use Rattle.std.specs.List.{slice_get}
use Rattle.std.proofs.lemmas.Bool.{and_parts, eq-eqb, not-true, false≢true}
use Rattle.xdr_value.specs.Data.{Procedure, Procs, Types}
use Rattle.xdr_value.specs.Tests.{has_one, differ, params_known, procs_sound, is_sound}
use Rattle.xdr_value.proofs.SoundLaw.{tests}
use Rattle.stub_table.specs.Requests.{found_from}
use Rattle.stub_table.proofs.Known.{first_known}

abbrev opcodes : Procs → List ℕ
opcodes ps = map (λ (p : Procedure). p.opcode) ps

some_is : (q p : Procedure) → Some q ≡ Some p → q ≡ p
some_is q p e = cc

or_true : (a b : Bool) → b ≡ true → (a || b) ≡ true
or_true true b e = refl
or_true false b e = e

-- a procedure's opcode is one of them
has_opcode : (ps : Procs) (k : ℕ) (p : Procedure) (n : ℕ) → slice_get ps k ≡ Some p → eqb n p.opcode ≡ true
    → has_one nat_eq n (opcodes ps) ≡ true
unfolding has_one
has_opcode [] k p n at same = absurd cc
has_opcode (q ∷ qs) zero p n at same = rw (some_is q p at, same) refl
has_opcode (q ∷ qs) (suc k) p n at same = or_true (eqb n q.opcode) (has_one nat_eq n (opcodes qs))
    (has_opcode qs k p n at same)

-- the first of two with different opcodes isn't the one that is looked for
found_behind : (b : Bool) (i k : ℕ) (q p : Procedure) (qs : Procs) → eqb q.opcode p.opcode ≡ b
    → has_one nat_eq q.opcode (opcodes qs) ≡ false → slice_get qs k ≡ Some p
    → found_from (suc i) p.opcode qs ≡ Some (suc i + k, p) → found_from i p.opcode (q ∷ qs) ≡ Some (i + suc k, p)
found_behind true i k q p qs test alone at found = absurd (false≢true (sym alone ∙ has_opcode qs k p q.opcode at test))
found_behind false i k q p qs test alone at found = let n : suc i + k ≡ i + suc k = omega arith in rw test
    (found ∙ ap (λ (m : ℕ). Some (m, p)) n)

found_at : (i k : ℕ) (ps : Procs) (p : Procedure) → differ nat_eq (opcodes ps) ≡ true → slice_get ps k ≡ Some p
    → found_from i p.opcode ps ≡ Some (i + k, p)
unfolding differ
found_at i k [] p alone at = absurd cc
found_at i zero (q ∷ qs) p alone at =
    let is : q ≡ p = some_is q p at in
    let n : i ≡ i + 0 = omega arith in
    rw (← is, eq-eqb q.opcode q.opcode refl) (ap (λ (m : ℕ). Some (m, q)) n)
found_at i (suc k) (q ∷ qs) p alone at =
    let both = and_parts (not (has_one nat_eq q.opcode (opcodes qs))) (differ nat_eq (opcodes qs)) alone in
    found_behind (eqb q.opcode p.opcode) i k q p qs refl (not-true _ both.0) at (found_at (suc i) k qs p both.1 at)

-- where opcodes differ, the procedure with an index is found by its opcode
pub found_by_opcode : (k : ℕ) (ps : Procs) (p : Procedure) → differ nat_eq (opcodes ps) ≡ true → slice_get ps k ≡ Some p
    → found_from 0 p.opcode ps ≡ Some (k, p)
found_by_opcode k ps p alone at =
    let n : 0 + k ≡ k = omega arith in
    found_at 0 k ps p alone at ∙ ap (λ (m : ℕ). Some (m, p)) n

-- what is found is one thing
pub pair_is : (here found : ℕ × Procedure) → Some here ≡ Some found → here ≡ found
pair_is here found e = cc

-- the types of what is found are known
known_found : (t : Types) (b : Bool) (i opcode : ℕ) (p : Procedure) (ps : Procs) (found : ℕ × Procedure)
    → eqb p.opcode opcode ≡ b → params_known t p.params ≡ true
    → (found_from (suc i) opcode ps ≡ Some found → params_known t found.1.params ≡ true)
    → found_from i opcode (p ∷ ps) ≡ Some found → params_known t found.1.params ≡ true
known_found t true i opcode p ps found test known behind e =
    let here : ℕ × Procedure = (i, p) in
    let one : found_from i opcode (p ∷ ps) ≡ Some here = rw test refl in
    subst (λ (x : ℕ × Procedure). params_known t x.1.params ≡ true) (pair_is here found (sym one ∙ e)) known
known_found t false i opcode p ps found test known behind e =
    let one : found_from i opcode (p ∷ ps) ≡ found_from (suc i) opcode ps = rw test refl in
    behind (sym one ∙ e)

each_found : (t : Types) (i opcode : ℕ) (ps : Procs) (found : ℕ × Procedure) → procs_sound t ps ≡ true
    → found_from i opcode ps ≡ Some found
    → params_known t found.1.params ≡ true
each_found t i opcode [] found sound e = absurd cc
each_found t i opcode (p ∷ ps) found sound e =
    let first = first_known t p ps sound in
    known_found t (eqb p.opcode opcode) i opcode p ps found refl first.0 (each_found t (suc i) opcode ps found first.1)
    e

-- in a sound interface the types of what is found are known
pub found_known : (t : Types) (ps : Procs) (opcode : ℕ) (found : ℕ × Procedure) → is_sound t ps ≡ true
    → Some found ≡ found_from 0 opcode ps
    → params_known t found.1.params ≡ true
found_known t ps opcode found sound e = each_found t 0 opcode ps found (tests t ps sound).sixth (sym e)
