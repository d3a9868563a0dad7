use Rattle.xdr_value.proofs.SoundLaw.{sound_says}
use Rattle.xdr_value.proofs.laws.sound_is.Goals as goal

pub returns : goal.returns
returns c = sound_says
