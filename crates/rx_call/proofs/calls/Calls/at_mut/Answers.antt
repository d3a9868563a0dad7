use Rattle.std.proofs.Common.{sym, ap, ◌∙◌, is_some, refl}
use Rattle.rx_call.proofs.KeyLaws.{some_there, lent_kept, lent_calls}
use Rattle.rx_call.proofs.calls.Calls.at_mut.Goals as goal

pub index_mut-requires : goal.index_mut-requires
index_mut-requires g c =
    let there = (rw (← c.self.view_is) at c.requires) in
    ap is_some (sym (some_there c.self.inside.free.items c.self.inside.entries.slots c.args.key there)) ∙ there

pub invariant_of-self-lent : goal.invariant_of-self-lent
invariant_of-self-lent g c = λ w.
    let there = (rw (← c.self.view_is) at c.requires) in
    lent_kept c.self.inside.entries.slots c.self.inside.free.items c.self.inside.pace _ c.args.key w there
    c.self.invariant

pub returns : goal.returns
returns g c =
    let there = (rw (← c.self.view_is) at c.requires) in
    let cs = c.self.inside.entries.slots in
    let free = c.self.inside.free.items in (
      (refl, λ w. rw (← c.self.view_is) (lent_calls cs c.self.inside.pace free c.args.key w there)),
      record {
        writes_back = tt;
        call = rw (← c.self.view_is) (some_there free cs c.args.key there ∙ c.index_mut.ensures.value);
        steps = c.tick.ensures;
      },
    )
