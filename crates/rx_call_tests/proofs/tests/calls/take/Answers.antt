use Rattle.std.proofs.Common.{sym, subst, ap, is_some}
use Rattle.rx_rules.specs.CallLooks.{after_taken}
use Rattle.rx_packet.specs.Seen.{message_of}
use Rattle.rx_call.specs.Standing.{EndOfCall, StandsCall, view_of}
use Rattle.rx_call.specs.Kept.{call_under, with_call_under}
use Rattle.rx_call.proofs.CallsAt.{changes_one, holds_at, only_one, some_and, call_under-with_same}
use Rattle.rx_call_tests.proofs.tests.calls.take.Goals as goal

pub take-requires-clause-holds : goal.take-requires-clause-holds
take-requires-clause-holds g c =
    holds_at c.args.pool.now c.args.calls.now c.args.key _ c.at_mut-call.ensures.call c.requires.holds

pub returns-clause-stands : goal.returns-clause-stands
returns-clause-stands g c =
    let calls = c.args.calls.now in
    let new = c.take.new.self in
    let message = message_of c.args.head.now c.args.body.now in
    λ e k is st. (
    let same = only_one calls c.args.key c.at_mut-call.result.now e c.at_mut-call.ensures.call is in
    some_and (call_under (with_call_under calls c.args.key new) c.args.key)
    (λ d. StandsCall c.take.new.pool d (after_taken (view_of e c.args.common c.args.now) c.take.result message k)) new
    (call_under-with_same calls c.args.key new (ap is_some is))
    (subst (λ (x : EndOfCall). StandsCall c.take.new.pool new
    (after_taken (view_of x c.args.common c.args.now) c.take.result message k)) (sym same)
    (c.take.ensures.stands k (subst (λ (x : EndOfCall). StandsCall c.args.pool.now x k) same st))))

pub returns-clause-one : goal.returns-clause-one
returns-clause-one g c =
    changes_one c.args.pool.now c.take.new.pool c.args.calls.now c.args.key _ _ c.at_mut-call.ensures.call
    c.requires.holds c.take.ensures.keeps
