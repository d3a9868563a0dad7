use Rattle.xdr_value.specs.View.{kind_of, types_of, procs_of}
use Rattle.xdr_value.proofs.SoundLaw.{sound_says}
use Rattle.xdr_json.proofs.Answered.{judged_fits, judged_is_said, said_is_judged}
use Rattle.xdr_json.proofs.judging.from_json.Goals as goal

pub returns-clause-fits : goal.returns-clause-fits
returns-clause-fits c =
    let types = types_of c.args.iface.now.types.items in
    let sound = (sound_says types (procs_of c.args.iface.now.procs.items)).0 c.args.iface.now.sound in
    judged_fits types sound.forms (kind_of c.args.ty.now) c.args.text.now _ c.read_text.ensures

pub returns-clause-says : goal.returns-clause-says
returns-clause-says c =
    let types = types_of c.args.iface.now.types.items in
    let sound = (sound_says types (procs_of c.args.iface.now.procs.items)).0 c.args.iface.now.sound in
    judged_is_said types sound.forms (kind_of c.args.ty.now) c.args.text.now _ c.read_text.ensures

pub returns-clause-only : goal.returns-clause-only
returns-clause-only c = λ d fit said.
    let types = types_of c.args.iface.now.types.items in
    let sound = (sound_says types (procs_of c.args.iface.now.procs.items)).0 c.args.iface.now.sound in
    said_is_judged types sound.forms (kind_of c.args.ty.now) c.args.text.now d _
    c.read_text.ensures fit said
