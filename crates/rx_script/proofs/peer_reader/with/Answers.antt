use Rattle.std.proofs.Common.{◌≡◌, [], ◌∷◌, ◌++◌, refl, ap, ◌∙◌}
use Rattle.std.proofs.lemmas.List.{map-append}
use Rattle.rx_script.specs.Saying.{peer_row, peer_rows, peer_said}
use Rattle.rx_script.proofs.RowLemmas.{peer_hosts-push}
use Rattle.rx_script.proofs.peer_reader.with.Goals as goal

pub invariant_of-result : goal.invariant_of-result
invariant_of-result c =
    let rows = peer_rows c.args.draft.lines.items in
    let more : peer_rows c.push.new.self.items ≡ rows ++ (c.args.line, peer_said c.args.what) ∷ [] =
    ap peer_rows c.in_ok-push.ensures.items ∙ map-append peer_row c.args.draft.lines.items _ in
    record {
      hosts = rw (
        more,
        peer_hosts-push rows (c.args.line, peer_said c.args.what),
        c.in_ok-taken.ensures,
        c.args.draft.hosts,
      ) refl;
    }
