use Rattle.std.proofs.Common.{map}
use Rattle.xdr_value.specs.View.{types_of, procs_of, param_of}
use Rattle.xdr_value.proofs.SoundLaw.{sound_says}
use Rattle.xdr_json.proofs.Answered.{args_fit, args_are_said, said_are_args}
use Rattle.xdr_json.proofs.args.args_from_json.Goals as goal

pub returns-clause-fits : goal.returns-clause-fits
returns-clause-fits c =
    let types = types_of c.args.iface.now.types.items in
    let sound = (sound_says types (procs_of c.args.iface.now.procs.items)).0 c.args.iface.now.sound in
    args_fit types sound.forms (map param_of c.args.args.now) c.args.text.now _
    c.read_args.ensures

pub returns-clause-says : goal.returns-clause-says
returns-clause-says c =
    let types = types_of c.args.iface.now.types.items in
    let sound = (sound_says types (procs_of c.args.iface.now.procs.items)).0 c.args.iface.now.sound in
    args_are_said types sound.forms (map param_of c.args.args.now) c.args.text.now _
    c.read_args.ensures

pub returns-clause-only : goal.returns-clause-only
returns-clause-only c = λ ds fit said.
    let types = types_of c.args.iface.now.types.items in
    let sound = (sound_says types (procs_of c.args.iface.now.procs.items)).0 c.args.iface.now.sound in
    said_are_args types sound.forms (map param_of c.args.args.now) c.args.text.now ds _
    c.read_args.ensures fit said
