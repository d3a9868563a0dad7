use Rattle.rx_between.proofs.LawsAgree.{sense_held, sense_in_world, sense_once}
use Rattle.rx_between.proofs.laws.messages_make_sense.Goals as goal

pub returns : goal.returns
returns c = record { once = sense_once; held = sense_held; world = sense_in_world }
