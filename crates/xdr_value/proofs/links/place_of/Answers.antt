use Rattle.std.proofs.Common.{◌≡◌, ◌<◌, Some, length, sym, ap, ◌∙◌, arith}
use Rattle.std.proofs.lemmas.Slice.Eq.{bytes_eq-Decides}
use Rattle.xdr_value.proofs.PlaceLaws.{named_there}
use Rattle.xdr_value.proofs.links.place_of.Goals as goal

pub returns-then-eq : goal.returns-then-eq
returns-then-eq c =
    let lt : c.args.place < length c.args.types.now = omega arith in
    let same : c.as_str.result.now ≡ c.args.name.now = (bytes_eq-Decides c.as_str.result.now c.args.name.now).0
    (sym c.eq.ensures ∙ c.if-eq.true) in
    named_there c.args.types.now c.args.place c.index-types-place.result lt
    ∙ ap Some (sym c.as_str.ensures.value ∙ same)
