use Rattle.std.proofs.Common.{◌≡◌, ◌≤◌, None, max, refl, ◌∙◌, arith}
use Rattle.xg_parse.specs.declared.tree.ArmItem.{ArmItem}
use Rattle.xg_check.specs.Encodings.{word_bytes, held_bytes, arms_bytes}
use Rattle.xg_check.proofs.ByteLaws.{some_small, none_here, max_first, max_next, max_last}
use Rattle.xg_check.proofs.encoding.Encodings.arms_bytes.Goals as goal

pub loop-arm-init : goal.loop-arm-init
loop-arm-init c = λ held cap.
    (omega arith, max_first (arms_bytes (word_bytes held c.args.types.now) c.args.constants.now) c.args.arms.now)

pub returns-in_err-arm_bytes : goal.returns-in_err-arm_bytes
returns-in_err-arm_bytes c = λ held cap.
    let none : c.from_residual.result ≡ None = cc in
    none ∙ none_here (λ (a : ArmItem). held_bytes (word_bytes held c.args.types.now) c.args.constants.now a.decl)
    (arms_bytes (word_bytes held c.args.types.now) c.args.constants.now) max (λ a more. refl) c.args.arms.now
    c.loop-arm.arm-index c.arm-item.result c.loop-arm.most c.loop-arm-test.true c.arm-item.is _
    (c.in_err-arm_bytes.ensures held cap) (c.loop-arm.invariant held cap).1

pub loop-arm-preserved : goal.loop-arm-preserved
loop-arm-preserved c = λ held cap.
    let m = c.in_ok-arm_bytes.field-0 in
    let e = c.in_ok-arm_bytes.ensures held cap in
    let few : m ≤ 65537 = some_small m _ e in
    let was : c.loop-arm.most ≤ 65537 = (c.loop-arm.invariant held cap).0 in (
      omega (arith, c.max-most.ensures, few, was),
      max_next (λ (a : ArmItem). held_bytes (word_bytes held c.args.types.now) c.args.constants.now a.decl)
          (arms_bytes (word_bytes held c.args.types.now) c.args.constants.now) (λ a more. refl) c.args.arms.now
          c.loop-arm.arm-index c.arm-item.result c.loop-arm.most m c.max-most.result _ c.loop-arm-test.true
          c.arm-item.is e c.max-most.ensures (c.loop-arm.invariant held cap).1,
    )

pub returns : goal.returns
returns c = λ held cap.
    max_last (arms_bytes (word_bytes held c.args.types.now) c.args.constants.now) c.args.arms.now
    c.loop-arm.arm-index c.loop-arm.most _ refl c.loop-arm-test.false (c.loop-arm.invariant held cap).0
    (c.loop-arm.invariant held cap).1
