use Rattle.std.proofs.Common.{◌≡◌, ℕ, ◌^◌, ◌&&◌, leb, ltb, map, ap, sym, refl, ◌∙◌, arith}
use Rattle.std.proofs.lemmas.List.{length-map}
use Rattle.std.proofs.lemmas.Bool.{eq-eqb, ne_eqb}
use Rattle.xdr_value.specs.Data.{items}
use Rattle.xdr_value.specs.Fits.{count}
use Rattle.xdr_value.specs.View.{kind_of, types_of, value_of, values_of, part_of}
use Rattle.xdr_value.proofs.Views.{value-items}
use Rattle.xdr_value.proofs.Lists.{count-values, uneven, array_then, array_else, list_then, list_else}
use Rattle.xdr_value.proofs.fitting.+fits.Goals as goal

pub fields_fit-returns-then-len : goal.fields_fit-returns-then-len
fields_fit-returns-then-len t c =
    sym (uneven (types_of c.args.iface.now.types.items) (map part_of c.args.fields.now.items)
    (values_of c.args.items.now.items)
    (λ e. c.if-len.true (omega (
      arith,
      c.len.ensures,
      c.len-2.ensures,
      c.args.fields.now.ok.0,
      c.args.items.now.ok.0,
      length-map c.args.fields.now.items part_of,
      count-values c.args.items.now.items,
      e,
    ))))

pub value_fits-returns-then-len-n : goal.value_fits-returns-then-len-n
value_fits-returns-then-len-n t c =
    let is : value_of c.args.value.now ≡ items (values_of c.in-List.items.items) = ap value_of c.in-List.is ∙
    value-items c.in-List.items in
    let counted : count (values_of c.in-List.items.items) ≡ c.len-in-Array.result = count-values c.in-List.items.items
    ∙ sym (c.len-in-Array.ensures ∙ c.in-List.items.ok.0) in
    array_then (types_of c.args.iface.now.types.items) (kind_of c.args.ty.now) (kind_of c.in-Array.of.now) c.in-Array.n
    c.len-in-Array.result (value_of c.args.value.now) (values_of c.in-List.items.items) c.elements_fit.result
    is c.in-Array.ensures counted (eq-eqb _ _ c.if-len-n.true) c.elements_fit.ensures

pub value_fits-returns-else-len-n : goal.value_fits-returns-else-len-n
value_fits-returns-else-len-n t c =
    let is : value_of c.args.value.now ≡ items (values_of c.in-List.items.items) = ap value_of c.in-List.is ∙
    value-items c.in-List.items in
    let counted : count (values_of c.in-List.items.items) ≡ c.len-in-Array.result = count-values c.in-List.items.items
    ∙ sym (c.len-in-Array.ensures ∙ c.in-List.items.ok.0) in
    array_else (types_of c.args.iface.now.types.items) (kind_of c.args.ty.now) (kind_of c.in-Array.of.now) c.in-Array.n
    c.len-in-Array.result (value_of c.args.value.now) (values_of c.in-List.items.items) _
    is c.in-Array.ensures counted refl (ne_eqb _ _ c.if-len-n.false)

pub value_fits-returns-then-is_length : goal.value_fits-returns-then-is_length
value_fits-returns-then-is_length t c =
    let is : value_of c.args.value.now ≡ items (values_of c.in-List.items.items) = ap value_of c.in-List.is ∙
    value-items c.in-List.items in
    let counted : count (values_of c.in-List.items.items) ≡ c.len-in-ArrayUpTo.result = count-values
    c.in-List.items.items ∙ sym (c.len-in-ArrayUpTo.ensures ∙ c.in-List.items.ok.0) in
    let limit = c.is_length.ensures ∙ ap
    (λ (m : ℕ). leb c.len-in-ArrayUpTo.result m && ltb c.len-in-ArrayUpTo.result (2 ^ 32)) c.list_limit.ensures in
    list_then (types_of c.args.iface.now.types.items) (kind_of c.args.ty.now) (kind_of c.in-ArrayUpTo.of.now)
    c.in-ArrayUpTo.n
    c.len-in-ArrayUpTo.result (value_of c.args.value.now) (values_of c.in-List.items.items)
    c.elements_fit-then-is_length.result
    is c.in-ArrayUpTo.ensures counted (sym limit ∙ c.if-is_length.true) c.elements_fit-then-is_length.ensures

pub value_fits-returns-else-is_length : goal.value_fits-returns-else-is_length
value_fits-returns-else-is_length t c =
    let is : value_of c.args.value.now ≡ items (values_of c.in-List.items.items) = ap value_of c.in-List.is ∙
    value-items c.in-List.items in
    let counted : count (values_of c.in-List.items.items) ≡ c.len-in-ArrayUpTo.result = count-values
    c.in-List.items.items ∙ sym (c.len-in-ArrayUpTo.ensures ∙ c.in-List.items.ok.0) in
    let limit = c.is_length.ensures ∙ ap
    (λ (m : ℕ). leb c.len-in-ArrayUpTo.result m && ltb c.len-in-ArrayUpTo.result (2 ^ 32)) c.list_limit.ensures in
    list_else (types_of c.args.iface.now.types.items) (kind_of c.args.ty.now) (kind_of c.in-ArrayUpTo.of.now)
    c.in-ArrayUpTo.n
    c.len-in-ArrayUpTo.result (value_of c.args.value.now) (values_of c.in-List.items.items) c.is_length.result
    is c.in-ArrayUpTo.ensures counted limit c.if-is_length.false
