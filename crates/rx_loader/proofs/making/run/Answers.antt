use Rattle.std.proofs.Common.{None, arith, refl}
use Rattle.rx_load.specs.Loads.{connects_all, load_rounds}
use Rattle.rx_load.specs.declared.limits.TheConstants.{MAX_ROUNDS}
use Rattle.rx_loader.specs.Showing.{ShowsLoad}
use Rattle.rx_loader.proofs.Ending.{begun, ended_is, lacks_is, stopped_is, whole_is}
use Rattle.rx_loader.proofs.Made.{both_played, first_plays}
use Rattle.rx_loader.proofs.making.run.Goals as goal

pub returns-in_err-iface-clause-load : goal.returns-in_err-iface-clause-load
returns-in_err-iface-clause-load g c =
    stopped_is c.args.number c.args.calls c.from_residual.result _ _ _ c.from_residual.ensures
    (lacks_is c.args.number c.args.calls _)

pub returns-in_err-loading-clause-load : goal.returns-in_err-loading-clause-load
returns-in_err-loading-clause-load g c =
    stopped_is c.args.number c.args.calls c.from_residual-in_err-loading.result _ _ _
    c.from_residual-in_err-loading.ensures (lacks_is c.args.number c.args.calls _)

pub returns-in_err-connect_all-clause-load : goal.returns-in_err-connect_all-clause-load
returns-in_err-connect_all-clause-load g c =
    stopped_is c.args.number c.args.calls c.from_residual-in_err-connect_all.result _ _ _
    c.from_residual-in_err-connect_all.ensures
    (ended_is c.args.number c.args.calls (ShowsLoad c.connect_all.new.self) c.in_err-connect_all.field-0.0 _ _ refl
    (omega arith)
    (begun c.args.number c.args.calls c.in_ok-loading.loading c.connect_all.new.self _ _ _ c.in_ok-loading.ensures.shows
    (first_plays connects_all (load_rounds c.args.calls MAX_ROUNDS) c.in_ok-loading.loading c.connect_all.new.self
    c.connect_all.new.self _ _ _ c.in_err-connect_all.ensures.plays)))

pub returns-in_err-make_rounds-clause-load : goal.returns-in_err-make_rounds-clause-load
returns-in_err-make_rounds-clause-load g c =
    stopped_is c.args.number c.args.calls c.from_residual-in_err-make_rounds.result _ _ _
    c.from_residual-in_err-make_rounds.ensures
    (ended_is c.args.number c.args.calls (ShowsLoad c.make_rounds.new.self) c.in_err-make_rounds.field-0.0 _ _ refl
    (omega arith)
    (begun c.args.number c.args.calls c.in_ok-loading.loading c.make_rounds.new.self _ _ _ c.in_ok-loading.ensures.shows
    (both_played connects_all (load_rounds c.args.calls MAX_ROUNDS) c.in_ok-loading.loading c.connect_all.new.self
    c.make_rounds.new.self _ _ _ _ c.in_ok-connect_all.ensures.plays c.in_err-make_rounds.ensures.plays)))

pub returns-clause-load : goal.returns-clause-load
returns-clause-load g c =
    whole_is c.args.number c.args.calls c.make_rounds.new.self c.summary.result _ _ c.summary.ensures
    (begun c.args.number c.args.calls c.in_ok-loading.loading c.make_rounds.new.self None _ _
    c.in_ok-loading.ensures.shows
    (both_played connects_all (load_rounds c.args.calls MAX_ROUNDS) c.in_ok-loading.loading c.connect_all.new.self
    c.make_rounds.new.self None _ _ _ c.in_ok-connect_all.ensures.plays c.in_ok-make_rounds.ensures.plays))
