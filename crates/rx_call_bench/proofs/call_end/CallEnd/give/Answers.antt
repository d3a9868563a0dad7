use Rattle.std.proofs.Common.{◌≡◌, ℕ, List, sym, subst}
use Rattle.rx_rules.specs.CallLooks.{CallLooks}
use Rattle.rx_pool.specs.Held.{Holds}
use Rattle.rx_call.specs.Standing.{EndOfCall, StandsCall, slots_of}
use Rattle.rx_call_bench.specs.declared.call_end.CallEnd.{CallEnd}
use Rattle.rx_call_bench.specs.Standing.{Stands}
use Rattle.rx_call_bench.proofs.call_end.CallEnd.give.Goals as goal

-- a poll leaves the slots and what they are
polled : (e : CallEnd) (next : EndOfCall) (serial : ℕ) (k : CallLooks) → Stands e → StandsCall e.slots next k →
    slots_of next ≡ slots_of e.call → Stands (record e { call = next; serial = serial })
polled e next serial k here stands same =
    record {
      looks = k;
      stands = stands;
      holds = subst (λ (held : List ℕ). Holds e.slots held) (sym same) here.holds;
    }

pub returns-in-Some-Piece-clause-stands : goal.returns-in-Some-Piece-clause-stands
returns-in-Some-Piece-clause-stands c =
    let here = c.requires.stands in
    polled c.args.self.now c.poll.new.self _ _ here
    (c.poll.ensures.stands c.args.self.now.slots here.looks 0 here.stands) c.poll.ensures.slots

pub returns-in-Some-Ack-clause-stands : goal.returns-in-Some-Ack-clause-stands
returns-in-Some-Ack-clause-stands c =
    let here = c.requires.stands in
    polled c.args.self.now c.poll.new.self _ _ here
    (c.poll.ensures.stands c.args.self.now.slots here.looks 0 here.stands) c.poll.ensures.slots

pub returns-in-None-clause-stands : goal.returns-in-None-clause-stands
returns-in-None-clause-stands c =
    let here = c.requires.stands in
    polled c.args.self.now c.poll.new.self _ _ here
    (c.poll.ensures.stands c.args.self.now.slots here.looks 0 here.stands) c.poll.ensures.slots
