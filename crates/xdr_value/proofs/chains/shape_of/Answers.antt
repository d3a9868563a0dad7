use Rattle.std.proofs.Common.{sym}
use Rattle.xdr_value.specs.View.{types_of, procs_of}
use Rattle.xdr_value.proofs.PlaceLaws.{place_within, shape_there}
use Rattle.xdr_value.proofs.SoundLaw.{tests}
use Rattle.xdr_value.proofs.chains.shape_of.Goals as goal

pub place_of-requires : goal.place_of-requires
place_of-requires c =
    rw c.as_slice-types.ensures.value (tests (types_of c.args.iface.now.types.items)
    (procs_of c.args.iface.now.procs.items) c.args.iface.now.sound).first

pub bounds-types-at : goal.bounds-types-at
bounds-types-at c = place_within c.as_slice-types.result.now c.in-Some.at c.args.name.now c.in-Some.ensures

pub returns-in-Some : goal.returns-in-Some
returns-in-Some c =
    let differ = (tests (types_of c.args.iface.now.types.items) (procs_of c.args.iface.now.procs.items)
    c.args.iface.now.sound).first in
    let at = rw c.as_slice-types.ensures.value at c.in-Some.ensures in
    rw c.as_slice-types.ensures.value
    (sym (shape_there c.args.iface.now.types.items c.in-Some.at c.index-types-at.result c.args.name.now differ at))
