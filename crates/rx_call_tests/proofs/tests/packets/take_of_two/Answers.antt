use Rattle.rx_pool.proofs.Beside.{holds_left, holds_right, keeps_left, keeps_right}
use Rattle.rx_call.specs.Standing.{slots_of}
use Rattle.rx_call_tests.proofs.tests.packets.take_of_two.Goals as goal

pub take-requires-clause-holds : goal.take-requires-clause-holds
take-requires-clause-holds c =
    holds_left c.args.pool.now (slots_of c.args.first.now) (slots_of c.args.second.now) c.requires

pub take-requires-else-to_first-clause-holds : goal.take-requires-else-to_first-clause-holds
take-requires-else-to_first-clause-holds c =
    holds_right c.args.pool.now (slots_of c.args.first.now) (slots_of c.args.second.now) c.requires

pub returns-then-to_first : goal.returns-then-to_first
returns-then-to_first c =
    (keeps_left c.args.pool.now c.take.new.pool (slots_of c.args.first.now) (slots_of c.take.new.self)
    (slots_of c.args.second.now) c.take.ensures.keeps c.requires).holds

pub returns-else-to_first : goal.returns-else-to_first
returns-else-to_first c =
    (keeps_right c.args.pool.now c.take-else-to_first.new.pool (slots_of c.args.first.now) (slots_of c.args.second.now)
    (slots_of c.take-else-to_first.new.self) c.take-else-to_first.ensures.keeps c.requires).holds
