use Rattle.std.proofs.Common.{ℤ, ◌<ℤ◌, ◌+ℤ◌, pos, ◌^◌, option_map, ap, sym, ◌∙◌}
use Rattle.std.specs.Int.RustNames.{FitsSigned}
use Rattle.std.proofs.lemmas.Int.{to_z-of_z}
use Rattle.std.proofs.Common.{rules}
use mir.Syntax.{w128}
use Rattle.xg_check.proofs.ConstLaws.{one_behind}
use Rattle.xg_check.proofs.values.behind.Goals as goal

pub returns-in-Some : goal.returns-in-Some
returns-in-Some c =
    let h : c.in-Some.value <ℤ pos (2 ^ 67) = c.requires c.in-Some.value c.in-Some.is in
    let fit : FitsSigned w128 c.in-Some.value = search rules in
    one_behind c.checked_add.result c.in-Some.value _ fit h (to_z-of_z w128 c.in-Some.value fit) c.checked_add.ensures
    ∙ ap (option_map (λ (z : ℤ). z +ℤ pos 1)) (sym c.in-Some.is)
