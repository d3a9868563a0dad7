use Rattle.std.proofs.Common.{◌≡◌, ◌∙◌, ap}
use Rattle.std.proofs.lemmas.Result.{IfOk-weaker}
use Rattle.std.specs.String.{string_bytes}
use Rattle.serde_json.specs.Written.{compact_text}
use Rattle.serde_json.specs.View.{view}
use Rattle.xdr_value.specs.View.{kind_of, types_of, value_of, procs_of}
use Rattle.xdr_value.proofs.SoundLaw.{sound_says}
use Rattle.xdr_value.proofs.FitsLaw.{fits_is}
use Rattle.xdr_json.specs.Json.{json_of}
use Rattle.xdr_json.proofs.Back.{value_back, read_back}
use Rattle.xdr_json.proofs.Printed.{no_float, reads, says}
use Rattle.xdr_json.proofs.printing.to_json.Goals as goal

pub returns-clause-text : goal.returns-clause-text
returns-clause-text c =
    let types = types_of c.args.iface.now.types.items in
    let kind = kind_of c.args.ty.now in
    let value = value_of c.args.v.now in
    let is : view c.in_ok-json.json ≡ json_of types kind value = c.in_ok-json.ensures.json in
    let whole = no_float types kind value (view c.in_ok-json.json) is c.requires.shallow in
    IfOk-weaker c.to_string.result _ _ (λ s h. h whole ∙ ap compact_text is) c.to_string.ensures.text

pub returns-clause-read : goal.returns-clause-read
returns-clause-read c =
    let types = types_of c.args.iface.now.types.items in
    let kind = kind_of c.args.ty.now in
    let value = value_of c.args.v.now in
    let is : view c.in_ok-json.json ≡ json_of types kind value = c.in_ok-json.ensures.json in
    IfOk-weaker c.to_string.result _ _ (λ s h. reads types kind value (view c.in_ok-json.json) (string_bytes s) is
    c.requires.shallow h) c.to_string.ensures.reads_back

pub returns-clause-back : goal.returns-clause-back
returns-clause-back c =
    let types = types_of c.args.iface.now.types.items in
    let kind = kind_of c.args.ty.now in
    let value = value_of c.args.v.now in
    let is : view c.in_ok-json.json ≡ json_of types kind value = c.in_ok-json.ensures.json in
    let sound = (sound_says types (procs_of c.args.iface.now.procs.items)).0 c.args.iface.now.sound in
    let back = value_back types sound.forms kind value c.in_ok-json.ensures.held
    ((fits_is types kind value).1 c.requires.fits) in
    IfOk-weaker c.to_string.result _ _ (λ s h. read_back types kind value (json_of types kind value) (string_bytes s)
    (reads types kind value (view c.in_ok-json.json) (string_bytes s) is c.requires.shallow h) back)
    c.to_string.ensures.reads_back

pub returns-clause-says : goal.returns-clause-says
returns-clause-says c =
    let types = types_of c.args.iface.now.types.items in
    let kind = kind_of c.args.ty.now in
    let value = value_of c.args.v.now in
    let is : view c.in_ok-json.json ≡ json_of types kind value = c.in_ok-json.ensures.json in
    let sound = (sound_says types (procs_of c.args.iface.now.procs.items)).0 c.args.iface.now.sound in
    IfOk-weaker c.to_string.result _ _ (λ s h. says types sound.forms kind value (string_bytes s)
    c.in_ok-json.ensures.held c.requires.fits (reads types kind value (view c.in_ok-json.json) (string_bytes s) is
    c.requires.shallow h)) c.to_string.ensures.reads_back
