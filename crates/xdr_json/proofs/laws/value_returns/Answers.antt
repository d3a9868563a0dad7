use Rattle.xdr_value.proofs.FitsLaw.{fits_is}
use Rattle.xdr_json.proofs.Back.{value_back}
use Rattle.xdr_json.proofs.laws.value_returns.Goals as goal

pub returns : goal.returns
returns c = λ t ps k d sound held fit. value_back t sound.forms k d held ((fits_is t k d).1 fit)
