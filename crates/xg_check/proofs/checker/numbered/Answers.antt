use Rattle.std.proofs.Common.{◌≡◌, ℕ, List, Option, Some, None, Bor, option_map, unwrap_or, refl, ap, subst, ◌∙◌}
use Rattle.xg_check.specs.Places.{HoldsNowhere}
use Rattle.xg_check.specs.Constants.{ConstantDef, constants_in}
use Rattle.xg_check.specs.Opcodes.{opcodes_in}
use Rattle.xg_check.specs.Counting.{number_at, IsMissing, StandsAgain}
use Rattle.xg_check.specs.Answers.{IsFirstPlace, IsFirstNumber}
use Rattle.xg_check.specs.Meaning.{OpcodeAt, opcodes_of}
use Rattle.xg_check.proofs.CheckLaws.{has_all, differ_all, opcode_fault, opcode_twice_fault}
use Rattle.xg_check.proofs.checker.numbered.Goals as goal
use Rattle.xg_check.proofs.StepLaws.{seconds}

-- the text of a name that is there
there : (o : Option (Bor (List ℕ))) (other : Bor (List ℕ)) (name : List ℕ) → name ≡ (unwrap_or o other).now
    → name ≡ unwrap_or (option_map (λ (s : Bor (List ℕ)). s.now) o) name
there None other name h = refl
there (Some r) other name h = h

pub returns-in-Some-clause-fault : goal.returns-in-Some-clause-fault
returns-in-Some-clause-fault c =
    let tree = c.args.tree.now in
    let list = c.as_slice.result.now in
    let list_is : list ≡ seconds (opcodes_of tree) =
    c.as_slice.ensures.value ∙ c.in_ok-opcodes.ensures
    ∙ ap (λ (cs : List ConstantDef). seconds (opcodes_in cs tree.items)) c.requires.constants in
    opcode_fault tree list list_is c.in-Some.at c.proc_name.result c.in_ok-name.name c.requires.faultless
    (subst (IsFirstPlace (IsMissing list)) c.in-Some.is c.first_without.ensures)
    (c.proc_name.ensures (constants_in tree.items))
    (there c.proc_name.result _ c.in_ok-name.name
    (c.in_ok-name.ensures ∙ ap (λ (s : Bor (List ℕ)). s.now) c.unwrap_or-name.ensures))

pub returns-in-Some-2-clause-fault : goal.returns-in-Some-2-clause-fault
returns-in-Some-2-clause-fault c =
    let tree = c.args.tree.now in
    let held : c.in_ok-opcodes.opcodes.items ≡ seconds (opcodes_of tree) =
    c.in_ok-opcodes.ensures
    ∙ ap (λ (cs : List ConstantDef). seconds (opcodes_in cs tree.items)) c.requires.constants in
    let has : HoldsNowhere (OpcodeAt tree) = has_all tree c.as_slice.result.now (c.as_slice.ensures.value ∙ held)
    (subst (IsFirstPlace (IsMissing c.as_slice.result.now)) c.in_default.is c.first_without.ensures) in
    let list = c.as_slice-2.result.now in
    opcode_twice_fault tree list (c.as_slice-2.ensures.value ∙ held) c.in-Some-2.n c.requires.faultless has
    (subst (IsFirstNumber (StandsAgain list) (number_at list)) c.in-Some-2.is c.in_ok-n.ensures)

pub returns-clause-has : goal.returns-clause-has
returns-clause-has c =
    let tree = c.args.tree.now in
    let held : c.in_ok-opcodes.opcodes.items ≡ seconds (opcodes_of tree) =
    c.in_ok-opcodes.ensures
    ∙ ap (λ (cs : List ConstantDef). seconds (opcodes_in cs tree.items)) c.requires.constants in
    has_all tree c.as_slice.result.now (c.as_slice.ensures.value ∙ held)
    (subst (IsFirstPlace (IsMissing c.as_slice.result.now)) c.in_default.is c.first_without.ensures)

pub returns-clause-differ : goal.returns-clause-differ
returns-clause-differ c =
    let tree = c.args.tree.now in
    let held : c.in_ok-opcodes.opcodes.items ≡ seconds (opcodes_of tree) =
    c.in_ok-opcodes.ensures
    ∙ ap (λ (cs : List ConstantDef). seconds (opcodes_in cs tree.items)) c.requires.constants in
    let list = c.as_slice-2.result.now in
    differ_all tree list (c.as_slice-2.ensures.value ∙ held)
    (subst (IsFirstNumber (StandsAgain list) (number_at list)) c.in_default-2.is c.in_ok-n.ensures)
