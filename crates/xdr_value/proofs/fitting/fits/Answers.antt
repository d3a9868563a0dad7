use Rattle.xdr_value.specs.View.{kind_of, types_of, value_of}
use Rattle.xdr_value.proofs.FitsLaw.{fits_is}
use Rattle.xdr_value.proofs.fitting.fits.Goals as goal

pub returns : goal.returns
returns c = rw c.value_fits.ensures
    (fits_is (types_of c.args.iface.now.types.items) (kind_of c.args.ty.now) (value_of c.args.value.now))
