use Rattle.std.proofs.Common.{ap, inl, map, refl, sym}
use Rattle.std.specs.String.{string_bytes}
use Rattle.rx_top.specs.declared.load.LoadOutcome.TheVariants as load_outcomes
use Rattle.rx_top.specs.declared.outcome.SimOutcome.TheVariants as outcomes
use Rattle.rx_top.specs.declared.wire_outcome.WireOutcome.TheVariants as wire_outcomes
use Rattle.rx_top.specs.Outside.{Names}
use Rattle.rx_words.specs.declared.command.Command.TheVariants as commands
use Rattle.rx_top.proofs.CommandLemmas.{command_fits, same_command}
use Rattle.rx_top.proofs.top.rx_main.Goals as goal

pub do_command-requires : goal.do_command-requires
do_command-requires g c = command_fits (map string_bytes c.args.words.now) c.in-Ok.command c.in-Ok.ensures.ok

pub returns-in-Err-OutOfMemory-clause-sim : goal.returns-in-Err-OutOfMemory-clause-sim
returns-in-Err-OutOfMemory-clause-sim g c names is =
    (outcomes.OutOfMemory, c.end_for_memory.ensures.memory, inl (refl, refl, refl), c.end_for_memory.ensures.said)

pub returns-in-Err-OutOfMemory-clause-serve : goal.returns-in-Err-OutOfMemory-clause-serve
returns-in-Err-OutOfMemory-clause-serve g c names given is = (
  wire_outcomes.OutOfMemory,
  c.end_for_memory.ensures.memory,
  inl (refl, refl, refl),
  λ refused. absurd (cc (refused)),
  c.end_for_memory.ensures.said,
)

pub returns-in-Err-OutOfMemory-clause-call : goal.returns-in-Err-OutOfMemory-clause-call
returns-in-Err-OutOfMemory-clause-call g c asked given is = (
  wire_outcomes.OutOfMemory,
  c.end_for_memory.ensures.memory,
  inl (refl, refl, refl),
  λ refused. absurd (cc (refused)),
  c.end_for_memory.ensures.said,
)

pub returns-in-Err-OutOfMemory-clause-load : goal.returns-in-Err-OutOfMemory-clause-load
returns-in-Err-OutOfMemory-clause-load g c number calls is =
    (load_outcomes.OutOfMemory, c.end_for_memory.ensures.memory, inl (refl, refl), c.end_for_memory.ensures.said)

pub returns-in-Ok-clause-sim : goal.returns-in-Ok-clause-sim
returns-in-Ok-clause-sim g c names is =
    let files = c.files-1.given.1 (sym (ap (λ (n : Names). n.files) c.do_command.ensures.counts.names)) in
    let out = c.out-1.given.1 (sym (ap (λ (n : Names). n.out) c.do_command.ensures.counts.names)) in
    let err = c.err-1.given.1 (sym (ap (λ (n : Names). n.err) c.do_command.ensures.counts.names)) in
    let book = c.book-1.given.1 (sym (ap (λ (n : Names). n.book) c.do_command.ensures.counts.names)) in
    let does = same_command (map string_bytes c.args.words.now) c.in-Ok.command (commands.Sim names)
    c.in-Ok.ensures.ok is in
    rw (files, out, err, book) (rw does at c.do_command.ensures.leaves)

pub returns-in-Ok-clause-serve : goal.returns-in-Ok-clause-serve
returns-in-Ok-clause-serve g c names given is =
    let files = c.files-1.given.1 (sym (ap (λ (n : Names). n.files) c.do_command.ensures.counts.names)) in
    let out = c.out-1.given.1 (sym (ap (λ (n : Names). n.out) c.do_command.ensures.counts.names)) in
    let err = c.err-1.given.1 (sym (ap (λ (n : Names). n.err) c.do_command.ensures.counts.names)) in
    let wire = c.wire-1.given.1 (sym (ap (λ (n : Names). n.wire) c.do_command.ensures.counts.names)) in
    let book = c.book-1.given.1 (sym (ap (λ (n : Names). n.book) c.do_command.ensures.counts.names)) in
    let does = same_command (map string_bytes c.args.words.now) c.in-Ok.command (commands.Serve names given)
    c.in-Ok.ensures.ok is in
    rw (files, out, err, wire, book) (rw does at c.do_command.ensures.leaves)

pub returns-in-Ok-clause-call : goal.returns-in-Ok-clause-call
returns-in-Ok-clause-call g c asked given is =
    let files = c.files-1.given.1 (sym (ap (λ (n : Names). n.files) c.do_command.ensures.counts.names)) in
    let out = c.out-1.given.1 (sym (ap (λ (n : Names). n.out) c.do_command.ensures.counts.names)) in
    let err = c.err-1.given.1 (sym (ap (λ (n : Names). n.err) c.do_command.ensures.counts.names)) in
    let wire = c.wire-1.given.1 (sym (ap (λ (n : Names). n.wire) c.do_command.ensures.counts.names)) in
    let book = c.book-1.given.1 (sym (ap (λ (n : Names). n.book) c.do_command.ensures.counts.names)) in
    let does = same_command (map string_bytes c.args.words.now) c.in-Ok.command (commands.Call asked given)
    c.in-Ok.ensures.ok is in
    rw (files, out, err, wire, book) (rw does at c.do_command.ensures.leaves)

pub returns-in-Ok-clause-compile : goal.returns-in-Ok-clause-compile
returns-in-Ok-clause-compile g c xg is =
    let files = c.files-1.given.1 (sym (ap (λ (n : Names). n.files) c.do_command.ensures.counts.names)) in
    let out = c.out-1.given.1 (sym (ap (λ (n : Names). n.out) c.do_command.ensures.counts.names)) in
    let err = c.err-1.given.1 (sym (ap (λ (n : Names). n.err) c.do_command.ensures.counts.names)) in
    let does = same_command (map string_bytes c.args.words.now) c.in-Ok.command (commands.Compile xg)
    c.in-Ok.ensures.ok is in
    rw (files, out, err) (rw does at c.do_command.ensures.leaves)

pub returns-in-Ok-clause-load : goal.returns-in-Ok-clause-load
returns-in-Ok-clause-load g c number calls is =
    let out = c.out-1.given.1 (sym (ap (λ (n : Names). n.out) c.do_command.ensures.counts.names)) in
    let err = c.err-1.given.1 (sym (ap (λ (n : Names). n.err) c.do_command.ensures.counts.names)) in
    let book = c.book-1.given.1 (sym (ap (λ (n : Names). n.book) c.do_command.ensures.counts.names)) in
    let does = same_command (map string_bytes c.args.words.now) c.in-Ok.command (commands.Load number calls)
    c.in-Ok.ensures.ok is in
    rw (out, err, book) (rw does at c.do_command.ensures.leaves)

pub returns-in-Ok-clause-file_fault : goal.returns-in-Ok-clause-file_fault
returns-in-Ok-clause-file_fault g c is =
    let files = c.files-1.given.1 (sym (ap (λ (n : Names). n.files) c.do_command.ensures.counts.names)) in
    rw files (c.do_command.ensures.counts.file_fault is)

pub returns-in-Ok-clause-wire_fault : goal.returns-in-Ok-clause-wire_fault
returns-in-Ok-clause-wire_fault g c is =
    let wire = c.wire-1.given.1 (sym (ap (λ (n : Names). n.wire) c.do_command.ensures.counts.names)) in
    rw wire (c.do_command.ensures.counts.wire_fault is)
