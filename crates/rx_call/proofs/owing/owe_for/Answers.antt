use Rattle.std.proofs.Common.{◌∙◌, ap, sym}
use Rattle.rx_model.specs.declared.answers.Took.{Took}
use Rattle.rx_packet.specs.Seen.{message_with_head}
use Rattle.rx_rules.specs.Owing.{owed_for}
use Rattle.rx_call.specs.Standing.{owed_of}
use Rattle.rx_call.proofs.owing.owe_for.Goals as goal

pub returns-in-Kept : goal.returns-in-Kept
returns-in-Kept c =
    λ body. c.owe_for_kept.ensures body
    ∙ ap (λ (t : Took). owed_for t c.args.now c.args.prompt c.args.before.hole (message_with_head c.args.head.now body)
    c.args.before.front (owed_of c.args.owed))
    (sym c.in-Kept.is)
