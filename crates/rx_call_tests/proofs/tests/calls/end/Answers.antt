use Rattle.rx_call.specs.Kept.{with_call_under}
use Rattle.rx_call.proofs.CallsAt.{holds_at, changes_one, changes_kept, changes_then}
use Rattle.rx_call_tests.proofs.tests.calls.end.Goals as goal

pub clear-requires : goal.clear-requires
clear-requires g c =
    holds_at c.args.pool.now c.args.calls.now c.args.key _ c.at_mut-call.ensures.call c.requires.holds

pub returns-clause-one : goal.returns-clause-one
returns-clause-one g c =
    let pool = c.clear.new.pool in
    let cleared = with_call_under c.args.calls.now c.args.key c.clear.new.self in
    let first =
    changes_one c.args.pool.now pool c.args.calls.now c.args.key _ c.clear.new.self c.at_mut-call.ensures.call
    c.requires.holds c.clear.ensures.keeps in
    changes_then c.args.pool.now pool pool c.args.calls.now cleared c.leave.new.self c.args.key first
    (changes_kept pool cleared c.leave.new.self c.args.key first.keeps.holds c.leave.ensures.others
    c.leave.ensures.slots)
