use Rattle.std.proofs.Common.{subst}
use Rattle.rx_history.proofs.Laws.EnteredLaw.{entered_when_proved}
use Rattle.rx_rules.specs.Setup.{IsServer}
use Rattle.rx_node.specs.Node.{setup_of}
use Rattle.rx_server.specs.Server.{ServerState}
use Rattle.rx_server.proofs.TurnedSteps.{is_server}
use Rattle.rx_server.proofs.server.Server.enters_when_proved.Goals as goal

pub returns : goal.returns
returns g c =
    let server = subst (λ (sv : ServerState). IsServer sv.node.kind) c.self.view_is
    (is_server c.self.inside.node.kind c.self.inside.service c.self.invariant.0.server) in
    λ h key name st class.
    entered_when_proved (setup_of g.C.Class.class_of c.args.self.now.node) key h server class st.legal name
