use Rattle.rx_top.proofs.WireLemmas.{unnoted_holds}
use Rattle.rx_top.proofs.serve.serve_with.Goals as goal

pub returns-clause-unnoted : goal.returns-clause-unnoted
returns-clause-unnoted g c =
    λ is. unnoted_holds c.serve-result.result c.serve-result.ensures.unnoted (c.served.ensures.unnoted is)
