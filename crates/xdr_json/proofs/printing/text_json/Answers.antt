use Rattle.std.proofs.Common.{sym, subst, refl, ◌∙◌}
use Rattle.std.proofs.lemmas.Result.{IfOk-weaker}
use Rattle.std.specs.Str.{IsUtf8}
use Rattle.serde_json.specs.View.{view}
use Rattle.xdr_json.proofs.Texts.{text_is, hex_is}
use Rattle.xdr_json.proofs.printing.text_json.Goals as goal

pub returns-in-Ok : goal.returns-in-Ok
returns-in-Ok c =
    let bytes = c.args.bytes.now.items in
    let utf8 : IsUtf8 bytes = subst IsUtf8 c.as_slice.ensures.value c.in-Ok.ensures.cases.1 in
    IfOk-weaker c.try_from_str.result _ _ (λ j is. text_is bytes c.in-Ok.text.now (view j) utf8
    (c.in-Ok.ensures.cases.0 ∙ c.as_slice.ensures.value) is) c.try_from_str.ensures

pub returns-in-Err : goal.returns-in-Err
returns-in-Err c =
    let bytes = c.args.bytes.now.items in
    IfOk-weaker c.hex_object.result _ _ (λ j is. hex_is bytes (view j) _ refl
    (λ h. c.in-Err.ensures.cases.0 (subst IsUtf8 (sym c.as_slice.ensures.value) h)) is) c.hex_object.ensures
