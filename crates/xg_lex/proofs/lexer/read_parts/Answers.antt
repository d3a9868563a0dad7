use Rattle.std.proofs.Common.{◌≡◌, ℕ, ◌+◌, ◌<◌, false, eqb, length, arith, sym, ap, subst, ◌∙◌}
use Rattle.std.specs.Str.{IsUtf8}
use Rattle.std.proofs.lemmas.Bool.{eqb-true, eqb-false}
use Rattle.std.proofs.lemmas.Str.{IsUtf8-drop}
use Rattle.xg_lex.specs.Grammar.{line_feeds, last_line}
use Rattle.xg_lex.proofs.LoopLaws.{at_more, at_fault, at_end, feeds_fit, all_feeds}
use Rattle.xg_lex.proofs.Boundaries.{step_boundary, step_some}
use Rattle.xg_lex.proofs.lexer.read_parts.Goals as goal

some_left : (n : ℕ) → eqb n 0 ≡ false → 0 < n
some_left n e = let some = eqb-false n 0 e in omega (arith, some)

pub returns-in-Err : goal.returns-in-Err
returns-in-Err c =
    at_fault _ _ _ _ _ c.in-Err.why c.line_after.result _ c.loop-rest.invariant.1
    (some_left _ (sym c.is_empty.ensures ∙ c.loop-rest-test.true)) (sym c.step_at.ensures ∙ c.in-Err.is)
    c.line_after.ensures c.fault_of.ensures

pub split_at-requires : goal.split_at-requires
split_at-requires c =
    step_boundary c.loop-rest.starts c.loop-rest.rest.now c.in-Ok.step c.loop-rest.invariant.0
    (sym c.step_at.ensures ∙ c.in-Ok.is)

pub overflow_add-feeds : goal.overflow_add-feeds
overflow_add-feeds c =
    omega (
      arith,
      feeds_fit c.args.text.now c.loop-rest.rest.now c.loop-rest.items.items c.loop-rest.feeds c.loop-rest.starts
          c.loop-rest.invariant.1,
      c.feeds_of-more_feeds.ensures.within,
      c.split_at.ensures.front_len,
      c.split_at.ensures.back_len,
      c.as_bytes-bytes.type_inv.0,
      ap length c.as_bytes-bytes.ensures.value,
    )

pub loop-rest-smaller : goal.loop-rest-smaller
loop-rest-smaller c =
    let some = step_some c.loop-rest.starts c.loop-rest.rest.now c.in-Ok.step (sym c.step_at.ensures ∙ c.in-Ok.is) in
    omega (arith, c.split_at.ensures.back_len)

pub loop-rest-preserved : goal.loop-rest-preserved
loop-rest-preserved c =
    let e = sym c.step_at.ensures ∙ c.in-Ok.is in (
      subst IsUtf8 (sym c.split_at.ensures.back)
          (IsUtf8-drop c.loop-rest.rest.now c.in-Ok.step.len c.loop-rest.invariant.0
          (step_boundary c.loop-rest.starts c.loop-rest.rest.now c.in-Ok.step c.loop-rest.invariant.0 e)),
      at_more c.args.text.now c.loop-rest.rest.now c.loop-rest.items.items c.loop-rest.feeds c.loop-rest.starts
          c.in-Ok.step
          c.split_at.result.0.now c.split_at.result.1.now c.push_token.new.items.items
          (c.loop-rest.feeds + c.feeds_of-more_feeds.result)
          c.is_line_end-starts.result c.loop-rest.invariant.1 e c.split_at.ensures.front c.split_at.ensures.back
          c.in_ok-push_token.ensures (ap (λ (n : ℕ). c.loop-rest.feeds + n) c.feeds_of-more_feeds.ensures.feeds)
          c.is_line_end-starts.ensures,
    )

pub last_line-requires : goal.last_line-requires
last_line-requires c =
    all_feeds c.args.text.now c.loop-rest.rest.now c.loop-rest.items.items c.loop-rest.feeds c.loop-rest.starts
    c.loop-rest.invariant.1
    (eqb-true _ 0 (sym c.is_empty.ensures ∙ c.loop-rest-test.false))
    ∙ ap line_feeds (sym c.as_bytes-bytes.ensures.value)

pub returns : goal.returns
returns c =
    at_end c.args.text.now c.loop-rest.rest.now c.loop-rest.items.items c.loop-rest.feeds c.loop-rest.starts
    c.of.result c.last_line.result
    c.loop-rest.invariant.1 (eqb-true _ 0 (sym c.is_empty.ensures ∙ c.loop-rest-test.false)) c.of.ensures
    (c.last_line.ensures ∙ ap last_line c.as_bytes-bytes.ensures.value)
