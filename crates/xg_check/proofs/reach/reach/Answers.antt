use Rattle.std.proofs.Common.{◌∙◌}
use Rattle.xg_check.proofs.SearchLaws.{reaching_starts}
use Rattle.xg_check.proofs.reach.reach.Goals as goal

pub follow-requires : goal.follow-requires
follow-requires c =
    reaching_starts c.args.graph.now c.args.starts.now c.in_ok-reached.reached.marks.items c.add.new.self.marks.items
    c.in_ok-reached.reached.nodes.items c.add.new.self.nodes.items (c.in_ok-reached.ensures.size ∙ c.len.ensures)
    c.in_ok-reached.ensures.unmarked c.in_ok-add.ensures
