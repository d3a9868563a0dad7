use Rattle.std.proofs.Common.{arith}
use Rattle.xg_lex.proofs.Closes.{close_more, close_found, close_none}
use Rattle.xg_lex.proofs.part.close_len.Goals as goal
use Rattle.xg_lex.proofs.part.close_len.Goals.{else-bytes-i-eq42-via-then-bytes-i-eq42+else-bytes-i-eq47}
use Rattle.xg_lex.proofs.part.close_len.Goals.{else-bytes-i-eq42-via-else-bytes-i-eq42}

pub loop-i-preserved : goal.loop-i-preserved
loop-i-preserved c =
    close_more c.args.bytes.now c.loop-i.i (omega arith) (omega arith)
    (λ a b. elim c.else-bytes-i-eq42.branch [
      | else-bytes-i-eq42-via-then-bytes-i-eq42+else-bytes-i-eq47 w ↦ w.if-bytes-i-eq47.false b
      | else-bytes-i-eq42-via-else-bytes-i-eq42 w ↦ w.if-bytes-i-eq42.false a
    ])
    c.loop-i.invariant

pub returns-then-bytes-i-eq47-clause-first : goal.returns-then-bytes-i-eq47-clause-first
returns-then-bytes-i-eq47-clause-first c =
    close_found c.args.bytes.now c.loop-i.i (omega arith) (omega arith) c.if-bytes-i-eq42.true
    c.if-bytes-i-eq47.true c.loop-i.invariant

pub returns-clause-first : goal.returns-clause-first
returns-clause-first c = close_none c.args.bytes.now c.loop-i.i (omega arith) c.loop-i-test.false c.loop-i.invariant
