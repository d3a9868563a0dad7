use Rattle.std.proofs.Common.{◌≡◌, [], ◌∷◌, ◌++◌, refl, ap, ◌∙◌}
use Rattle.std.proofs.lemmas.List.{map-append}
use Rattle.std.specs.Option.{option_or}
use Rattle.rx_script.specs.Plans.{server_in}
use Rattle.rx_script.specs.Saying.{plan_row, plan_rows, plan_said}
use Rattle.rx_script.proofs.RowLemmas.{server_host-push}
use Rattle.rx_script.proofs.plan_reader.with.Goals as goal

pub invariant_of-result : goal.invariant_of-result
invariant_of-result c =
    let rows = plan_rows c.args.draft.lines.items in
    let more : plan_rows c.push.new.self.items ≡ rows ++ (c.args.line, plan_said c.args.what) ∷ [] =
    ap plan_rows c.in_ok-push.ensures.items ∙ map-append plan_row c.args.draft.lines.items _ in
    let named : c.or-server.result ≡ option_or c.args.draft.server (server_in (plan_said c.args.what)) =
    c.or-server.ensures ∙ ap (option_or c.args.draft.server) c.server_in.ensures in
    record {
      served = rw (more, server_host-push rows (c.args.line, plan_said c.args.what), named, c.args.draft.served) refl;
    }
