use Rattle.std.proofs.Common.{rules, IfSome, take, ◌≡◌, ◌+◌, ◌++◌}
use Rattle.std.specs.Option.{option_map}
use Rattle.rx_base.proofs.DiskLemmas.{all_bounded}
use Rattle.rx_base.proofs.disk.read_within.Goals as goal

pub returns-in-Ok-clause-all : goal.returns-in-Ok-clause-all
returns-in-Ok-clause-all g c =
    let first : IfSome (option_map (take (c.args.most + 1)) (g.R.Read.remaining c.args.reader))
    (λ first. c.read_to_end.new.buf.items ≡ c.args.bytes.items ++ first) = search (rules, c.in-Ok.ensures.bytes) in
    all_bounded c.bounded.result c.args.bytes c.read_to_end.new.buf (g.R.Read.remaining c.args.reader) c.in-Ok.read
    c.args.most first c.in-Ok.ensures.ok c.bounded.ensures.ok c.bounded.ensures.within
