use Rattle.std.proofs.Common.{◌≡◌, None, ◌+◌, ◌≤◌, refl, ◌∙◌, arith}
use Rattle.xg_parse.specs.declared.tree.Decl.{Decl}
use Rattle.xg_check.specs.Encodings.{word_bytes, form_bytes, decls_bytes}
use Rattle.xg_check.specs.Held.{capped}
use Rattle.xg_check.proofs.ByteLaws.{some_small, none_here, plus_first, plus_next, plus_last}
use Rattle.xg_check.proofs.encoding.Encodings.fields_bytes.Goals as goal

pub loop-field-init : goal.loop-field-init
loop-field-init c = record {
  small = omega arith;
  sum_is = λ held cap. plus_first (decls_bytes (word_bytes held c.args.types.now) c.args.constants.now)
      c.args.fields.now;
}

pub returns-in_err-bytes : goal.returns-in_err-bytes
returns-in_err-bytes c = λ held cap.
    let none : c.from_residual.result ≡ None = cc in
    none ∙ none_here (λ (d : Decl). form_bytes (word_bytes held c.args.types.now) c.args.constants.now d.form)
    (decls_bytes (word_bytes held c.args.types.now) c.args.constants.now) (λ m n. m + n) (λ d ds. refl)
    c.args.fields.now
    c.loop-field.field-index c.field-item.result c.loop-field.sum c.loop-field-test.true c.field-item.is _
    (c.in_err-bytes.ensures held cap) (c.loop-field.invariant.sum_is held cap)

pub loop-field-preserved : goal.loop-field-preserved
loop-field-preserved c = record {
  small = omega (arith, c.capped-sum.ensures);
  sum_is = λ held cap.
      let e = c.in_ok-bytes.ensures held cap in
      let b = c.in_ok-bytes.bytes in
      let few : b ≤ 65537 = some_small b _ e in
      let is : c.capped-sum.result ≡ capped (b + c.loop-field.sum) =
      omega (arith, c.capped-sum.ensures, c.saturating_add.ensures, few, c.loop-field.invariant.small) in
      plus_next (λ (d : Decl). form_bytes (word_bytes held c.args.types.now) c.args.constants.now d.form)
      (decls_bytes (word_bytes held c.args.types.now) c.args.constants.now) (λ d ds. refl) c.args.fields.now
      c.loop-field.field-index c.field-item.result c.loop-field.sum b c.capped-sum.result _ c.loop-field-test.true
      c.field-item.is e is (c.loop-field.invariant.sum_is held cap);
}

pub returns : goal.returns
returns c = λ held cap.
    plus_last (decls_bytes (word_bytes held c.args.types.now) c.args.constants.now) c.args.fields.now
    c.loop-field.field-index c.loop-field.sum _ refl c.loop-field-test.false c.loop-field.invariant.small
    (c.loop-field.invariant.sum_is held cap)
