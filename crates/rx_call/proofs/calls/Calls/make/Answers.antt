use Rattle.std.proofs.Common.{ap, ◌∙◌, arith, length, rules}
use Rattle.std.proofs.lemmas.List.{length_push}
use Rattle.rx_call.specs.Keys.{there_from}
use Rattle.rx_call.proofs.KeyLaws.{count_none, slots_none}
use Rattle.rx_call.proofs.Making.{one_more, none_there, all_kept}
use Rattle.rx_call.proofs.calls.Calls.make.Goals as goal

pub loop-preserved : goal.loop-preserved
loop-preserved c =
    let so = c.loop.invariant in
    let free = c.loop.free.items in
    let key = c.insert_reserved.result in
    let items = c.push_reserved.ensures.items in
    record {
      room = search rules;
      free_room = search rules;
      count = search rules;
      free = ap length items ∙ length_push free key ∙ omega (arith, so.free);
      all =
          one_more c.loop.entries c.insert_reserved.new.self free c.push_reserved.new.self.items key c.args.pace
          c.in_ok-call.call items c.insert_reserved.ensures.was_vacant c.insert_reserved.ensures.updates
          (record { idle = c.in_ok-call.ensures.idle; pace_is = c.in_ok-call.ensures.pace }) so.all;
    }

pub invariant_of-result : goal.invariant_of-result
invariant_of-result c =
    let so = c.loop.invariant in
    all_kept c.loop.entries c.loop.free.items c.args.pace _ c.loop.counter so.all so.count so.free (omega arith)

pub returns-clause-empty : goal.returns-clause-empty
returns-clause-empty c = none_there c.loop.entries c.loop.free.items c.args.pace c.loop.invariant.all

pub returns-clause-live : goal.returns-clause-live
returns-clause-live c =
    count_none (there_from c.loop.free.items 0 c.loop.entries.slots)
    (none_there c.loop.entries c.loop.free.items c.args.pace c.loop.invariant.all)

pub returns-clause-slots : goal.returns-clause-slots
returns-clause-slots c =
    slots_none (there_from c.loop.free.items 0 c.loop.entries.slots)
    (none_there c.loop.entries c.loop.free.items c.args.pace c.loop.invariant.all)
