use Rattle.std.proofs.Common.{sym, arith}
use Rattle.rx_jumbo.proofs.SplitLaws.{count_split, splits_at}
use Rattle.rx_jumbo.proofs.split.parts.Goals as goal

pub overflow_add-result : goal.overflow_add-result
overflow_add-result c = omega (arith, (splits_at c.args.bytes.now c.in-Some.last (sym c.in-Some.ensures)).few)

pub returns-in-Some-clause-count : goal.returns-in-Some-clause-count
returns-in-Some-clause-count c =
    omega (arith, count_split c.args.bytes.now c.in-Some.last (sym c.in-Some.ensures))

pub returns-in-Some-clause-few : goal.returns-in-Some-clause-few
returns-in-Some-clause-few c = omega (arith, (splits_at c.args.bytes.now c.in-Some.last (sym c.in-Some.ensures)).few)
