use Rattle.std.proofs.Common.{sym, ap, ◌∙◌, is_some}
use Rattle.rx_call.proofs.KeyLaws.{some_there}
use Rattle.rx_call.proofs.calls.Calls.at.Goals as goal

pub index-requires : goal.index-requires
index-requires g c =
    let there = (rw (← c.self.view_is) at c.requires) in
    ap is_some (sym (some_there c.self.inside.free.items c.self.inside.entries.slots c.args.key there)) ∙ there

pub returns-clause-call : goal.returns-clause-call
returns-clause-call g c =
    let there = (rw (← c.self.view_is) at c.requires) in
    rw (← c.self.view_is)
    (some_there c.self.inside.free.items c.self.inside.entries.slots c.args.key there ∙ c.index.ensures)
