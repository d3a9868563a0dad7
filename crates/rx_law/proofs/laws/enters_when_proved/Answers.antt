use Rattle.rx_history.proofs.Laws.EnteredLaw.{entered_when_proved}
use Rattle.rx_law.proofs.laws.enters_when_proved.Goals as goal

pub returns : goal.returns
returns c = entered_when_proved
