use Rattle.std.proofs.Common.{map, sym}
use Rattle.xdr_value.specs.View.{param_of, types_of, procs_of, proc_of}
use Rattle.stub_table.proofs.Known.{params_are_known}
use Rattle.rx_script.proofs.ProcLemmas.{named_known}
use Rattle.rx_script.proofs.procs.arg_word.Goals as goal

pub returns-then-has_role-clause-known : goal.returns-then-has_role-clause-known
returns-then-has_role-clause-known c =
    let types = types_of c.args.iface.now.types.items in
    let known = params_are_known types (procs_of c.args.iface.now.procs.items) (proc_of c.args.p.now)
    c.args.iface.now.sound c.requires in
    let found = rw c.deref.ensures.value at c.in-Some.ensures in
    named_known types c.in_ok-word.word.now (map param_of c.args.p.now.args.items) (param_of c.in-Some.arg.now) known
    (sym found)
