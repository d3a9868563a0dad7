use Rattle.std.proofs.Common.{subst}
use Rattle.rx_history.proofs.Laws.OnceLaw.{once_under_forgery}
use Rattle.rx_rules.specs.Setup.{IsServer}
use Rattle.rx_node.specs.Node.{setup_of}
use Rattle.rx_server.specs.Server.{ServerState}
use Rattle.rx_server.proofs.TurnedSteps.{is_server}
use Rattle.rx_server.proofs.server.Server.accepts_once.Goals as goal

pub returns : goal.returns
returns g c =
    let server = subst (λ (sv : ServerState). IsServer sv.node.kind) c.self.view_is
    (is_server c.self.inside.node.kind c.self.inside.service c.self.invariant.0.server) in
    λ h st none. once_under_forgery (setup_of g.C.Class.class_of c.args.self.now.node) h server st.legal none
