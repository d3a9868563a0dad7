-- What the nodes are once one that they lent comes back. Public clauses cite this module.
use Rattle.std.specs.Prelude.{ℕ}
use Rattle.std.specs.Borrow.{Lends, MutBor, Fml}
use Rattle.rx_node.specs.Node.{NodeState}
use Rattle.rx_server.specs.Server.{ServerState}
use Rattle.rx_client.specs.contracts.client.Client.{the_row as client_row}
use Rattle.rx_server.specs.contracts.server.Server.{the_row as server_row}
use Rattle.rx_token.specs.contracts.chosen.Chosen.{the_row as chosen_row}
use Rattle.rx_token.specs.contracts.chosen.ChosenClass.TheImpl as classes
use Rattle.rx_joint.specs.contracts.nodes.Nodes.{the_row}
use Rattle.rx_joint.specs.Nodes.{NodesState, with_client, with_server}

-- they end with what is left of the server
abbrev pub LendsServer : MutBor NodesState → MutBor ServerState → Fml
LendsServer n r = Lends the_row (server_row chosen_row classes.ghosts) n r (with_server n.now)

-- they end with what is left of a client
abbrev pub LendsClient : MutBor NodesState → ℕ → MutBor NodeState → Fml
LendsClient n node r = Lends the_row (client_row chosen_row classes.ghosts) n r (with_client n.now node)
