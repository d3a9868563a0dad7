use Rattle.std.proofs.Common.{ap, arith}
use Rattle.rx_loader.specs.declared.loading.Loading.{Loading}
use Rattle.rx_loader.proofs.Living.{lives_told, none_lives}
use Rattle.rx_loader.proofs.loading.Loading.live.Goals as goal

pub returns-then-client-clients : goal.returns-then-client-clients
returns-then-client-clients c =
    λ l shown.
    none_lives c.args.self.now.world _ l.net.stage c.args.client (ap (λ (v : Loading). v.world.nodes) c.self.view_is)
    shown.net.0 (omega arith)

pub returns : goal.returns
returns c =
    λ l shown.
    lives_told c.args.self.now.world _ l.net.stage c.args.client _ (ap (λ (v : Loading). v.world.nodes) c.self.view_is)
    shown.net.0 (omega arith) c.live.ensures
