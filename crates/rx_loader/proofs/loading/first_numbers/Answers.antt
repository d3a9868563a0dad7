use Rattle.std.proofs.Common.{◌∙◌, ◌∷◌, ◌++◌, [], ap, arith}
use Rattle.rx_loader.proofs.Clients.{numbers_more}
use Rattle.rx_loader.proofs.loading.first_numbers.Goals as goal

pub loop-client-preserved : goal.loop-client-preserved
loop-client-preserved c =
    c.in_ok-push.ensures.items ∙ ap (λ ns. ns ++ c.loop-client.client ∷ []) c.loop-client.invariant
    ∙ numbers_more c.loop-client.client (omega arith)
