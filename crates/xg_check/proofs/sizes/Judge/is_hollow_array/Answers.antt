use Rattle.std.proofs.Common.{◌∙◌, inl, inr}
use Rattle.xg_check.proofs.JudgeLaws.{hollow_is_right, held_hollow}
use Rattle.xg_check.proofs.sizes.Judge.is_hollow_array.Goals as goal

pub returns-then-ends : goal.returns-then-ends
returns-then-ends c =
    let ts = c.args.types.now in
    let cs = c.args.constants.now in
    let t = c.in-Fixed.word in
    let free = c.ends.ensures.0 c.if-ends.true in
    let encodings = c.args.self.now.encodings in
    let right = c.is_hollow.ensures
    ∙ hollow_is_right ts cs encodings.hollow.items encodings.least.items c.requires.encodings t free in
    let h = held_hollow ts cs t c.is_hollow.result free right in
    elim c.in-Fixed.is [
      | inl f ↦ rw f.1 h
      | inr f ↦ rw f.1 h
    ]
