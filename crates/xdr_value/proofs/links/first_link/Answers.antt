use Rattle.std.proofs.Common.{Some, string_bytes, ap, ◌∙◌}
use Rattle.xdr_value.specs.Data.{alias}
use Rattle.xdr_value.specs.View.{kind_of, form_of, types_of}
use Rattle.xdr_value.specs.declared.ty.Ty.{Ty}
use Rattle.xdr_value.proofs.Views.{kind-named}
use Rattle.xdr_value.proofs.PlaceLaws.{shape_there}
use Rattle.xdr_value.proofs.ChainLaws.{link_one}
use Rattle.xdr_value.proofs.links.first_link.Goals as goal

pub returns-in-Some : goal.returns-in-Some
returns-in-Some c s e =
    let ds = c.args.types.now in
    let there = shape_there ds c.args.at c.index-types-at.result s c.requires.differ e in
    let shape = ap form_of c.in-Alias.is ∙ ap (λ (k : Ty). alias (kind_of k)) c.in-Named.is ∙ ap alias
    (kind-named c.in-Named.name c.in-Named.place) in
    link_one (types_of ds) s (string_bytes c.in-Named.name) c.in-Some.end (there ∙ ap Some shape)
    (c.in-Some.ensures ∙ ap Some c.as_str.ensures.value)
