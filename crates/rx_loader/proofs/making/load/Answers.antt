use Rattle.std.proofs.Common.{None, sym, subst, ◌∙◌}
use Rattle.rx_loader.specs.Loaded.{LoadIs}
use Rattle.rx_loader.proofs.Ending.{load_keeps}
use Rattle.rx_stage.specs.Tells.{told}
use Rattle.rx_loader.proofs.making.load.Goals as goal

pub returns-clause-load : goal.returns-clause-load
returns-clause-load g c =
    subst (λ loaded. LoadIs c.args.number c.args.calls loaded (told (g.J.Journal.told c.args.book.now) None 0)
    (told (g.J.Journal.told c.run-ran.new.book) None 0)) (sym c.loaded_of.ensures) c.run-ran.ensures.load

pub returns-clause-promises : goal.returns-clause-promises
returns-clause-promises g c =
    load_keeps c.loads_keep_promises.ensures.world c.loads_keep_promises.ensures.promises
    c.loads_keep_promises.ensures.says c.args.number c.args.calls c.loaded_of.result _ _

pub returns-clause-err_told : goal.returns-clause-err_told
returns-clause-err_told g c = c.show.ensures.told ∙ c.run-ran.ensures.err_told

pub returns-clause-err_faults : goal.returns-clause-err_faults
returns-clause-err_faults g c = c.show.ensures.faults ∙ c.run-ran.ensures.err_faults
