-- One datagram after another meets its fate.
use Rattle.std.proofs.Common.{◌∙◌, append-nil, drop, length, refl, rules, suc, sym}
use Rattle.std.proofs.lemmas.Iterator.Adapters.{YieldsList-from_vec}
use Rattle.std.proofs.lemmas.Iterator.Consumers.{YieldsList-end, YieldsList-so_far, YieldsList-turn}
use Rattle.rx_plan.specs.Network.{delivers}
use Rattle.rx_stage.proofs.Fated.{comes_all, comes_ended, comes_more, drawn_all, held_all, held_more, turn_around}
use Rattle.rx_stage.proofs.Fated.{tally_all, tally_more, words_more}
use Rattle.rx_stage.proofs.Playing.{each_none}
use Rattle.rx_stage.proofs.world.World.carry_all.Goals as goal

pub loop-datagram-init : goal.loop-datagram-init
loop-datagram-init g c = record {
  plays = each_none delivers c.args.self.now _;
  held = sym (append-nil c.args.network.now.held.items);
  words = refl;
  tally = refl;
  script = refl;
}

pub returns-in_err-carry-clause-plays : goal.returns-in_err-carry-clause-plays
returns-in_err-carry-clause-plays g c =
    (let road =
    YieldsList-from_vec {s = c.into_iter-datagram-iterator.result} c.args.given.items (search rules) (search rules) in
    let far =
    YieldsList-so_far road c.loop-datagram.yielded c.loop-datagram.datagram-iterator c.loop-datagram.yielded_by in
    let turn =
    YieldsList-turn road c.loop-datagram.yielded c.loop-datagram.datagram-iterator c.loop-datagram.yielded_by
    c.next.result c.next.new.self c.in-Some.datagram c.in-Some.is c.next.ensures.steps in
    comes_ended c.args.network.now.words c.loop-datagram.network.words c.next_word.new.self c.args.given.items
    c.loop-datagram.yielded (drop (suc (length c.loop-datagram.yielded)) c.args.given.items) c.in-Some.datagram
    c.next_word.result c.fate_of-fate.result c.args.self.now c.loop-datagram.self c.carry.new.self
    c.from_residual.result c.in_err-carry.field-0.0 _ _ _
    (turn_around c.args.given.items c.loop-datagram.yielded c.in-Some.datagram far turn)
    c.loop-datagram.invariant.words c.next_word.ensures c.fate_of-fate.ensures c.loop-datagram.invariant.plays
    c.in_err-carry.ensures.plays c.from_residual.ensures)

pub loop-datagram-preserved : goal.loop-datagram-preserved
loop-datagram-preserved g c = record {
  plays = comes_more c.args.network.now.words c.loop-datagram.network.words c.next_word.new.self c.loop-datagram.yielded
      c.in-Some.datagram c.next_word.result c.fate_of-fate.result c.args.self.now c.loop-datagram.self
      c.carry.new.self _ _ _ c.loop-datagram.invariant.words c.next_word.ensures c.fate_of-fate.ensures
      c.loop-datagram.invariant.plays
      c.in_ok-carry.ensures.plays;
  held = held_more c.args.network.now.words c.loop-datagram.network.words c.next_word.new.self c.loop-datagram.yielded
      c.in-Some.datagram c.next_word.result c.fate_of-fate.result c.args.network.now.held.items
      c.loop-datagram.network.held.items c.carry.new.held.items c.loop-datagram.invariant.words c.next_word.ensures
      c.fate_of-fate.ensures c.loop-datagram.invariant.held c.in_ok-carry.ensures.held;
  words = words_more c.args.network.now.words c.loop-datagram.network.words c.next_word.new.self c.loop-datagram.yielded
      c.in-Some.datagram c.next_word.result c.loop-datagram.invariant.words c.next_word.ensures;
  tally = tally_more c.args.network.now.words c.loop-datagram.network.words c.next_word.new.self c.loop-datagram.yielded
      c.in-Some.datagram c.next_word.result c.fate_of-fate.result c.args.network.now.tally c.loop-datagram.network.tally
      c.count.new.self c.loop-datagram.invariant.words c.next_word.ensures c.fate_of-fate.ensures
      c.loop-datagram.invariant.tally c.count.ensures;
  script = c.carry.ensures.script ∙ c.loop-datagram.invariant.script;
}

pub returns-clause-plays : goal.returns-clause-plays
returns-clause-plays g c =
    (let road =
    YieldsList-from_vec {s = c.into_iter-datagram-iterator.result} c.args.given.items (search rules) (search rules) in
    let end =
    YieldsList-end road c.loop-datagram.yielded c.loop-datagram.datagram-iterator c.loop-datagram.yielded_by
    c.next.result c.next.new.self c.in-None.is c.next.ensures.steps in
    comes_all c.args.network.now.words c.args.given.items c.loop-datagram.yielded c.args.self.now c.loop-datagram.self _
    _ end.0 c.loop-datagram.invariant.plays)

pub returns-clause-held : goal.returns-clause-held
returns-clause-held g c =
    (let road =
    YieldsList-from_vec {s = c.into_iter-datagram-iterator.result} c.args.given.items (search rules) (search rules) in
    let end =
    YieldsList-end road c.loop-datagram.yielded c.loop-datagram.datagram-iterator c.loop-datagram.yielded_by
    c.next.result c.next.new.self c.in-None.is c.next.ensures.steps in
    held_all c.args.network.now.words c.args.given.items c.loop-datagram.yielded c.args.network.now.held.items
    c.loop-datagram.network.held.items end.0 c.loop-datagram.invariant.held)

pub returns-clause-words : goal.returns-clause-words
returns-clause-words g c =
    (let road =
    YieldsList-from_vec {s = c.into_iter-datagram-iterator.result} c.args.given.items (search rules) (search rules) in
    let end =
    YieldsList-end road c.loop-datagram.yielded c.loop-datagram.datagram-iterator c.loop-datagram.yielded_by
    c.next.result c.next.new.self c.in-None.is c.next.ensures.steps in
    drawn_all c.args.network.now.words c.args.given.items c.loop-datagram.yielded c.loop-datagram.network.words end.0
    c.loop-datagram.invariant.words)

pub returns-clause-tally : goal.returns-clause-tally
returns-clause-tally g c =
    (let road =
    YieldsList-from_vec {s = c.into_iter-datagram-iterator.result} c.args.given.items (search rules) (search rules) in
    let end =
    YieldsList-end road c.loop-datagram.yielded c.loop-datagram.datagram-iterator c.loop-datagram.yielded_by
    c.next.result c.next.new.self c.in-None.is c.next.ensures.steps in
    tally_all c.args.network.now.words c.args.given.items c.loop-datagram.yielded c.args.network.now.tally
    c.loop-datagram.network.tally end.0 c.loop-datagram.invariant.tally)
