use Rattle.rx_loader.proofs.Handling.{serves_take}
use Rattle.rx_loader.proofs.handlers.interface.Goals as goal

pub make-requires : goal.make-requires
make-requires c =
    serves_take _ _ _ _ c.new.ensures.items c.new-procs.ensures.items c.in_ok-push.ensures.items c.in_ok-take.ensures
