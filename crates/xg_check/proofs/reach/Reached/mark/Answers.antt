use Rattle.std.proofs.Common.{◌≡◌, false, length, slice_get, Some, refl, ap, ◌∙◌}
use Rattle.std.proofs.lemmas.Option.{slice_get_read}
use Rattle.xg_check.proofs.SearchLaws.{marked_now}
use Rattle.xg_check.proofs.reach.Reached.mark.Goals as goal

pub returns : goal.returns
returns c =
    let marks = c.args.self.now.marks.items in
    let at : slice_get c.args.self.now.marks.items c.args.node ≡ Some false =
    slice_get_read marks (length marks) c.args.node c.index.result.now refl c.requires.there c.index.ensures
    ∙ ap Some c.if-index.false in
    rw c.in_ok-push.ensures.items
    (marked_now marks c.args.self.now.nodes.items c.args.node c.requires.listed c.requires.there at)
