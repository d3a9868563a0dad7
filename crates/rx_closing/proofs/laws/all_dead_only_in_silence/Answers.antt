use Rattle.rx_closing.proofs.laws.all_dead_only_in_silence.Goals as goal
use Rattle.rx_closing.proofs.Silence.HearsSoon.{dead_all_in_silence}

pub returns : goal.returns
returns c = dead_all_in_silence
