use Rattle.std.proofs.Common.{◌≡◌, ◌∙◌}
use mir.Val.{to_z, of_z}
use mir.Syntax.{w128}
use Rattle.std.proofs.Math.Facts.{to_z-of_z}
use Rattle.xg_check.proofs.MetLaws.{meets_case, case_met, was_in}
use Rattle.xg_check.proofs.twice.Met.meet_case.Goals as goal

pub returns : goal.returns
returns c = λ cs front n u w has is.
    let fit : to_z w128 (of_z w128 c.args.value) ≡ c.args.value = to_z-of_z c.ranges.value in (
      meets_case cs front c.args.self.now is c.args.item n u w c.args.value _ has
          (λ i z. rw fit at (c.in_ok-insert.ensures.updates.0 (i, z))),
      was_in _ _ _ (rw fit at c.in_ok-insert.ensures.added)
          (is.cases c.args.item c.args.value ∙ case_met cs front c.args.item n u w c.args.value has),
    )
