use Rattle.std.proofs.Common.{◌+◌, ◌^◌, arith}
use Rattle.xg_check.proofs.CountLaws.{higher}
use Rattle.xg_check.proofs.ConstLaws.{behind_below}
use Rattle.xg_check.proofs.values.value.Goals as goal

pub returns-in-Word-clause-bound : goal.returns-in-Word-clause-bound
returns-in-Word-clause-bound c = λ n h.
    higher (2 ^ 64 + n) (2 ^ 64 + (n + 1)) c.word_value.result (omega arith) (c.word_value.ensures.bound n h)

pub returns-in-Some-clause-bound : goal.returns-in-Some-clause-bound
returns-in-Some-clause-bound c = λ n h.
    behind_below n c.in-Some.before c.args.values.now c.value_in.result c.behind.result h c.value_in.ensures
    c.behind.ensures
