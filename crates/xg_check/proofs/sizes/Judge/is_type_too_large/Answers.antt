use Rattle.std.proofs.Common.{sym, ◌∙◌}
use Rattle.std.proofs.lemmas.Bool.{false≢true}
use Rattle.xg_check.specs.Encodings.{bytes_at}
use Rattle.xg_check.proofs.JudgeLaws.{free_is, name_inside, count_is, not_free_type, free_type}
use Rattle.xg_check.proofs.sizes.Judge.is_type_too_large.Goals as goal

pub returns-then-is_free : goal.returns-then-is_free
returns-then-is_free c =
    let ts = c.args.types.now in
    let cs = c.args.constants.now in
    let can = c.requires in
    let p = c.in-Some.place in
    let e = c.in-Some.ensures in
    let lt = name_inside ts c.args.name.now p (sym e) in
    let free = (free_is ts c.args.self.now.without_end.items p can.without_end lt).0
    (c.is_free.ensures.0 c.if-is_free.true) in
    let count = count_is ts cs _ c.args.self.now.encodings.least.items can.encodings p lt free in
    free_type ts cs c.args.name.now p c.passes_most.result e free
    (c.passes_most.ensures (bytes_at ts cs p) (c.bytes.ensures ∙ count))

pub returns-else-is_free : goal.returns-else-is_free
returns-else-is_free c =
    let ts = c.args.types.now in
    let cs = c.args.constants.now in
    let p = c.in-Some.place in
    let e = c.in-Some.ensures in
    let lt = name_inside ts c.args.name.now p (sym e) in
    not_free_type ts cs c.args.name.now p c.is_free.result e c.if-is_free.false
    (λ h. false≢true (sym c.if-is_free.false
    ∙ c.is_free.ensures.1 ((free_is ts c.args.self.now.without_end.items p c.requires.without_end lt).1 h)))
