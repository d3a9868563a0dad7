use Rattle.std.proofs.Common.{ℕ, Option, ap, ◌∙◌, option_map}
use Rattle.xg_parse.specs.declared.tree.Form.{Form}
use Rattle.xg_parse.specs.declared.tree.Form.TheVariants as forms
use Rattle.xg_check.specs.Encodings.{form_bytes, word_bytes, declared_bytes}
use Rattle.xg_check.specs.Held.{capped}
use Rattle.xg_check.proofs.JudgeLaws.{known_bytes, known_capped, fixed_bytes, held_large, opaque_large}
use Rattle.xg_check.proofs.sizes.Judge.is_too_large.Goals as goal

pub returns-then-ends : goal.returns-then-ends
returns-then-ends c =
    let ts = c.args.types.now in
    let cs = c.args.constants.now in
    let t = c.in-Fixed.word in
    let size = c.in-Fixed.field-1 in
    let free = c.ends.ensures.0 c.if-ends.true in
    let hollow = c.args.self.now.encodings.hollow.items in
    let least = c.args.self.now.encodings.least.items in
    let known : ℕ → Option ℕ = known_bytes ts cs least in
    let bytes = c.form_bytes.ensures known (known_capped ts cs hollow least c.requires.encodings)
    ∙ ap (λ (f : Form). option_map capped (form_bytes (word_bytes known ts) cs f)) c.in-Fixed.is
    ∙ ap (option_map capped) (fixed_bytes ts cs hollow least c.requires.encodings t size free) in
    rw c.in-Fixed.is (held_large ts cs t size c.passes_most.result free
    (c.passes_most.ensures (declared_bytes ts cs (forms.Fixed t size)) bytes))

pub returns-in-Opaque : goal.returns-in-Opaque
returns-in-Opaque c =
    let ts = c.args.types.now in
    let cs = c.args.constants.now in
    let size = c.in-Opaque.field-0 in
    let hollow = c.args.self.now.encodings.hollow.items in
    let least = c.args.self.now.encodings.least.items in
    let known : ℕ → Option ℕ = known_bytes ts cs least in
    let bytes = c.form_bytes-in-Opaque.ensures known (known_capped ts cs hollow least c.requires.encodings)
    ∙ ap (λ (f : Form). option_map capped (form_bytes (word_bytes known ts) cs f)) c.in-Opaque.is in
    rw c.in-Opaque.is (opaque_large ts cs size c.passes_most-in-Opaque.result
    (c.passes_most-in-Opaque.ensures (declared_bytes ts cs (forms.Opaque size)) bytes))
