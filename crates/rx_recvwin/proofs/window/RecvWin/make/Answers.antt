use Rattle.std.proofs.Common.{◌∙◌, ◌≡◌, ap, rules, replicate, None}
use Rattle.rx_recvwin.proofs.EmptyLaws.{tied_empty, empty_stands, slots_none}
use Rattle.rx_recvwin.specs.Places.{slots_in}
use Rattle.rx_recvwin.proofs.window.RecvWin.make.Goals as goal

pub invariant_of-result : goal.invariant_of-result
invariant_of-result c =
    let end : c.loop.counter ≡ c.args.window = search rules in
    let items : c.loop.places.items ≡ replicate c.args.window None = (
    c.loop.invariant.items ∙ ap (λ n. replicate n None) end) in
    (search rules, search rules, tied_empty c.args.window c.loop.places.items items c.requires.least c.requires.most)

pub returns-clause-empty : goal.returns-clause-empty
returns-clause-empty c =
    let end : c.loop.counter ≡ c.args.window = search rules in
    let items : c.loop.places.items ≡ replicate c.args.window None = (
    c.loop.invariant.items ∙ ap (λ n. replicate n None) end) in
    λ pool. empty_stands pool c.args.window c.loop.places.items items c.requires.least

pub returns-clause-slots : goal.returns-clause-slots
returns-clause-slots c = ap slots_in c.loop.invariant.items ∙ slots_none c.loop.counter
