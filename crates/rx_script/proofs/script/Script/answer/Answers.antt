use Rattle.std.proofs.Common.{sym}
use Rattle.xdr_value.specs.View.{types_of, procs_of, proc_of}
use Rattle.stub_table.proofs.Known.{params_are_known}
use Rattle.rx_script.proofs.script.Script.answer.Goals as goal

pub lines_answer-requires : goal.lines_answer-requires
lines_answer-requires c =
    rw c.deref.ensures.value (params_are_known (types_of c.args.iface.now.types.items)
    (procs_of c.args.iface.now.procs.items) (proc_of c.args.p.now) c.args.iface.now.sound c.requires)

pub zero_values-requires : goal.zero_values-requires
zero_values-requires c =
    rw c.deref-in-None.ensures.value (params_are_known (types_of c.args.iface.now.types.items)
    (procs_of c.args.iface.now.procs.items) (proc_of c.args.p.now) c.args.iface.now.sound c.requires)

pub returns-in_ok-lines_answer-in-Some : goal.returns-in_ok-lines_answer-in-Some
returns-in_ok-lines_answer-in-Some c =
    let found = sym (rw c.as_str.ensures.value at c.in-Some.ensures) in
    let told = rw (c.deref.ensures.value, c.deref-in-Some.ensures.value) at c.in_ok-lines_answer-in-Some.ensures in
    record { exact = rw found told }
