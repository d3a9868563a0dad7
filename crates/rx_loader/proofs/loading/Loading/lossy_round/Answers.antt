use Rattle.std.proofs.Common.{add-one, refl}
use Rattle.rx_jobs.specs.Handlers.{handlers_of}
use Rattle.rx_load.specs.Loads.{load_handlers}
use Rattle.rx_stage.specs.Shown.{script_of}
use Rattle.rx_loader.proofs.Made.{carried_by, lossy_made, lossy_polls, lossy_stops}
use Rattle.rx_loader.proofs.loading.Loading.lossy_round.Goals as goal

pub returns-in_err-poll_all-clause-plays : goal.returns-in_err-poll_all-clause-plays
returns-in_err-poll_all-clause-plays g c =
    lossy_polls c.args.self.now (record c.args.self.now { world = c.poll_all.new.self }) c.poll_all.new.self
    c.new-given.result.items c.poll_all.new.given.items c.from_residual.result c.in_err-poll_all.field-0.0 _ _
    c.new-given.ensures.items c.in_err-poll_all.ensures.plays c.from_residual.ensures

pub returns-in_err-carry_round-clause-plays : goal.returns-in_err-carry_round-clause-plays
returns-in_err-carry_round-clause-plays g c =
    lossy_stops c.args.self.now _ c.poll_all.new.self c.carry_round.new.self c.carry_round.new.network.words
    c.carry_round.new.network.held.items c.new-given.result.items c.poll_all.new.given.items
    c.from_residual-in_err-carry_round.result c.in_err-carry_round.field-0.0 _ _ _ c.new-given.ensures.items
    c.in_ok-poll_all.ensures.plays
    (carried_by (handlers_of c.args.iface.now) (script_of c.poll_all.new.self) (script_of c.args.self.now.world)
    load_handlers.script c.poll_all.new.self c.carry_round.new.self c.args.self.now.network.words
    c.carry_round.new.network.words c.args.self.now.network.held.items c.carry_round.new.network.held.items
    c.poll_all.new.given.items _ _ _ c.poll_all.ensures.script c.requires.script c.requires.iface
    c.in_err-carry_round.ensures.plays) c.from_residual-in_err-carry_round.ensures

pub returns-clause-plays : goal.returns-clause-plays
returns-clause-plays g c =
    lossy_made c.args.self.now _ c.poll_all.new.self c.new-given.result.items c.poll_all.new.given.items _ _ _
    c.new-given.ensures.items c.in_ok-poll_all.ensures.plays
    (carried_by (handlers_of c.args.iface.now) (script_of c.poll_all.new.self) (script_of c.args.self.now.world)
    load_handlers.script c.poll_all.new.self c.carry_round.new.self c.args.self.now.network.words
    c.carry_round.new.network.words c.args.self.now.network.held.items c.carry_round.new.network.held.items
    c.poll_all.new.given.items _ _ _ c.poll_all.ensures.script c.requires.script c.requires.iface
    c.in_ok-carry_round.ensures.plays) (record {
      next = refl;
      bodies = refl;
      rounds = add-one c.args.self.now.rounds;
      tally = c.in_ok-carry_round.ensures.tally;
    })
