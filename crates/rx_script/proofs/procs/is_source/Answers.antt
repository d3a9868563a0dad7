use Rattle.std.proofs.Common.{◌≡◌, true, sym, ◌∙◌}
use Rattle.stub_table.specs.Streams.{goes_with}
use Rattle.stub_table.specs.declared.stream.Stream.TheVariants as streams
use Rattle.rx_script.proofs.procs.is_source.Goals as goal

pub returns-then-comes : goal.returns-then-comes
returns-then-comes c =
    let goes : goes_with streams.Request c.args.arg.now.mode ≡ true = sym c.comes.ensures ∙ c.if-comes.true in
    rw goes c.same_type.ensures
