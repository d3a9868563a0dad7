use Rattle.std.proofs.Common.{◌≡◌, ◌∙◌, ◌==◌, length, rules}
use Rattle.rx_jobs.specs.Handlers.{handlers_of}
use Rattle.rx_stage.specs.Shown.{script_of}
use Rattle.rx_stage.proofs.RoundsKept.{delivered_of, turned_by}
use Rattle.rx_stage.proofs.RoundsMade.{round_delivers, round_polls, round_settles, round_turns}
use Rattle.rx_stage.proofs.world.World.round.Goals as goal

pub returns-in_err-poll_all-clause-plays : goal.returns-in_err-poll_all-clause-plays
returns-in_err-poll_all-clause-plays g c =
    round_polls (handlers_of c.args.iface.now (script_of c.args.self.now)) c.args.self.now c.poll_all.new.self _
    c.args.given.now.items c.poll_all.new.given.items c.from_residual.result c.in_err-poll_all.field-0.0 _ _ c.requires
    c.in_err-poll_all.ensures.plays c.from_residual.ensures

pub returns-in_err-deliver_given-clause-plays : goal.returns-in_err-deliver_given-clause-plays
returns-in_err-deliver_given-clause-plays g c =
    round_delivers (handlers_of c.args.iface.now (script_of c.args.self.now)) c.args.self.now c.poll_all.new.self
    c.deliver_given.new.self _ c.args.given.now.items c.poll_all.new.given.items
    c.from_residual-in_err-deliver_given.result c.in_err-deliver_given.field-0.0 _ _ _ c.requires
    c.in_ok-poll_all.ensures.plays
    (delivered_of c.deref.result.now c.poll_all.new.given.items _ _ _ _ _ c.deref.ensures.value
    c.in_err-deliver_given.ensures.plays) c.from_residual-in_err-deliver_given.ensures

pub returns-in_err-turn_all-clause-plays : goal.returns-in_err-turn_all-clause-plays
returns-in_err-turn_all-clause-plays g c =
    round_turns (handlers_of c.args.iface.now (script_of c.args.self.now)) c.args.self.now c.poll_all.new.self
    c.deliver_given.new.self c.turn_all.new.self _ c.args.given.now.items c.poll_all.new.given.items
    c.from_residual-in_err-turn_all.result c.in_err-turn_all.field-0.0 _ _ _ _ c.requires
    c.in_ok-poll_all.ensures.plays
    (delivered_of c.deref.result.now c.poll_all.new.given.items _ _ _ _ _ c.deref.ensures.value
    c.in_ok-deliver_given.ensures.plays)
    (turned_by (handlers_of c.args.iface.now) (script_of c.deliver_given.new.self) (script_of c.args.self.now) _ _ _ _ _
    (c.deliver_given.ensures.script ∙ c.poll_all.ensures.script) c.in_err-turn_all.ensures.plays)
    c.from_residual-in_err-turn_all.ensures

pub returns-clause-plays : goal.returns-clause-plays
returns-clause-plays g c =
    let quiet : c.is_empty.result ≡ (length c.poll_all.new.given.items == 0) = search rules in
    round_settles (handlers_of c.args.iface.now (script_of c.args.self.now)) c.args.self.now c.poll_all.new.self
    c.deliver_given.new.self c.turn_all.new.self c.settle.new.self c.args.given.now.items c.poll_all.new.given.items
    c.is_empty.result _ _ _ _ _ _ c.requires quiet c.in_ok-poll_all.ensures.plays
    (delivered_of c.deref.result.now c.poll_all.new.given.items _ _ _ _ _ c.deref.ensures.value
    c.in_ok-deliver_given.ensures.plays)
    (turned_by (handlers_of c.args.iface.now) (script_of c.deliver_given.new.self) (script_of c.args.self.now) _ _ _ _ _
    (c.deliver_given.ensures.script ∙ c.poll_all.ensures.script) c.in_ok-turn_all.ensures.plays) c.settle.ensures.plays
