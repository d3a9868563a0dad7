use Rattle.rx_between.proofs.LawsAgree.{agree_held, agree_in_world, agree_once}
use Rattle.rx_between.proofs.laws.ends_agree.Goals as goal

pub returns : goal.returns
returns c = record { once = agree_once; held = agree_held; world = agree_in_world }
