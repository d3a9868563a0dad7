use Rattle.std.proofs.Common.{◌∙◌, ap}
use Rattle.rx_jobs.specs.Handlers.{handlers_of}
use Rattle.rx_stage.specs.Shown.{script_of}
use Rattle.rx_stage.proofs.LossyRounds.{carried_fates, carried_held, carried_settles, carried_turned, held_behind}
use Rattle.rx_stage.proofs.RoundsKept.{delivered_of, turned_by}
use Rattle.rx_stage.proofs.world.World.carry_round.Goals as goal

pub returns-in_err-carry_all-clause-plays : goal.returns-in_err-carry_all-clause-plays
returns-in_err-carry_all-clause-plays g c =
    carried_fates (handlers_of c.args.iface.now (script_of c.args.self.now)) c.args.self.now c.carry_all.new.self _
    c.args.network.now.words _ c.args.network.now.held.items _ c.args.given.items c.from_residual.result
    c.in_err-carry_all.field-0.0 _ _
    c.in_err-carry_all.ensures.plays c.from_residual.ensures

pub returns-in_err-deliver_given-clause-plays : goal.returns-in_err-deliver_given-clause-plays
returns-in_err-deliver_given-clause-plays g c =
    carried_held (handlers_of c.args.iface.now (script_of c.args.self.now)) c.args.self.now c.carry_all.new.self
    c.deliver_given.new.self _ c.args.network.now.words _ c.args.network.now.held.items _ c.args.given.items
    c.from_residual-in_err-deliver_given.result c.in_err-deliver_given.field-0.0 _ _ _
    c.in_ok-carry_all.ensures.plays
    (delivered_of c.deref.result.now c.args.network.now.held.items _ _ _ _ _
    (c.deref.ensures.value ∙ ap (λ v. v.items) c.replace-held.ensures.value)
    c.in_err-deliver_given.ensures.plays) c.from_residual-in_err-deliver_given.ensures

pub returns-in_err-turn_all-clause-plays : goal.returns-in_err-turn_all-clause-plays
returns-in_err-turn_all-clause-plays g c =
    carried_turned (handlers_of c.args.iface.now (script_of c.args.self.now)) c.args.self.now c.carry_all.new.self
    c.deliver_given.new.self c.turn_all.new.self _ c.args.network.now.words _ c.args.network.now.held.items _
    c.args.given.items c.from_residual-in_err-turn_all.result c.in_err-turn_all.field-0.0 _ _ _ _
    c.in_ok-carry_all.ensures.plays
    (delivered_of c.deref.result.now c.args.network.now.held.items _ _ _ _ _
    (c.deref.ensures.value ∙ ap (λ v. v.items) c.replace-held.ensures.value)
    c.in_ok-deliver_given.ensures.plays)
    (turned_by (handlers_of c.args.iface.now) (script_of c.deliver_given.new.self) (script_of c.args.self.now) _ _ _ _ _
    (c.deliver_given.ensures.script ∙ c.carry_all.ensures.script) c.in_err-turn_all.ensures.plays)
    c.from_residual-in_err-turn_all.ensures

pub returns-clause-plays : goal.returns-clause-plays
returns-clause-plays g c =
    carried_settles (handlers_of c.args.iface.now (script_of c.args.self.now)) c.args.self.now c.carry_all.new.self
    c.deliver_given.new.self c.turn_all.new.self c.settle.new.self c.args.network.now.words
    c.carry_all.new.network.words c.args.network.now.held.items c.carry_all.new.network.held.items c.args.given.items
    c.none_of-quiet.result _ _ _ _ _ _ c.none_of-quiet.ensures c.in_ok-carry_all.ensures.words
    (held_behind c.args.network.now.words c.args.given.items c.replace-held.new.dest.items
    c.carry_all.new.network.held.items (ap (λ v. v.items) c.replace-held.ensures.after ∙ c.new.ensures.items)
    c.in_ok-carry_all.ensures.held)
    c.in_ok-carry_all.ensures.plays
    (delivered_of c.deref.result.now c.args.network.now.held.items _ _ _ _ _
    (c.deref.ensures.value ∙ ap (λ v. v.items) c.replace-held.ensures.value)
    c.in_ok-deliver_given.ensures.plays)
    (turned_by (handlers_of c.args.iface.now) (script_of c.deliver_given.new.self) (script_of c.args.self.now) _ _ _ _ _
    (c.deliver_given.ensures.script ∙ c.carry_all.ensures.script) c.in_ok-turn_all.ensures.plays)
    c.settle.ensures.plays
