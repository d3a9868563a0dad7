use Rattle.std.proofs.Common.{◌∙◌, rules}
use Rattle.std.specs.Int.RustNames.{FitsSigned}
use Rattle.std.proofs.lemmas.Int.{to_z-of_z}
use mir.Syntax.{w128}
use Rattle.xg_check.proofs.JudgeLaws.{tags_right, case_is}
use Rattle.xg_check.proofs.sizes.Judge.is_case_bad.Goals as goal

pub returns-in-Some : goal.returns-in-Some
returns-in-Some c =
    let ts = c.args.types.now in
    let cs = c.args.constants.now in
    let can = c.requires in
    let fit : FitsSigned w128 c.in-Some.value = search rules in
    let same = to_z-of_z w128 c.in-Some.value fit in
    case_is ts cs c.args.tag.now c.tag.result c.in-Some.value c.has.result _
    (c.tag.ensures ∙ tags_right ts c.args.self.now.tags.tags.items can.tags.tags_are c.args.tag.now)
    (rw same at (c.has.ensures ts cs can.tags)) c.in-Some.ensures.value
