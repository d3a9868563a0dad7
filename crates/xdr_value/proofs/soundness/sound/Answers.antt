use Rattle.xdr_value.specs.View.{types_of, procs_of}
use Rattle.xdr_value.proofs.SoundLaw.{sound_says}
use Rattle.xdr_value.proofs.soundness.sound.Goals as goal

pub returns-clause-exact : goal.returns-clause-exact
returns-clause-exact c = rw c.passes.ensures (sound_says (types_of c.args.types.now) (procs_of c.args.procs.now))
