use Rattle.xdr_value.specs.View.{types_of, procs_of}
use Rattle.xdr_value.proofs.SoundLaw.{tests}
use Rattle.xdr_value.proofs.interface.Interface.make.Goals as goal

pub link_all-requires : goal.link_all-requires
link_all-requires c =
    rw c.as_mut_slice.ensures.value (tests (types_of c.args.types.items) (procs_of c.args.procs.items) c.requires).first
