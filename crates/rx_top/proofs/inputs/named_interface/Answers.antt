use Rattle.rx_top.proofs.SimLemmas.{empty_is_sound}
use Rattle.rx_top.proofs.inputs.named_interface.Goals as goal

pub make-requires : goal.make-requires
make-requires g c = rw (c.new.ensures.items, c.new-in-None.ensures.items) empty_is_sound
