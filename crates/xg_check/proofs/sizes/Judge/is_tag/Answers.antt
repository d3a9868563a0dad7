use Rattle.std.proofs.Common.{ap, ◌∙◌}
use Rattle.xg_check.specs.Judged.{is_tag}
use Rattle.xg_check.proofs.JudgeLaws.{tags_right}
use Rattle.xg_check.proofs.sizes.Judge.is_tag.Goals as goal

pub returns-in-Other : goal.returns-in-Other
returns-in-Other c =
    ap is_tag (c.in-Other.ensures
    ∙ tags_right c.args.types.now c.args.self.now.tags.tags.items c.requires.tags.tags_are c.args.word.now)
