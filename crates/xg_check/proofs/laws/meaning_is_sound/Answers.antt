use Rattle.xg_check.proofs.SoundLaws.{meant_passes}
use Rattle.xg_check.proofs.laws.meaning_is_sound.Goals as goal

pub returns : goal.returns
returns c = λ tree h has once. meant_passes tree h has once
