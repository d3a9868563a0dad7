-- Which end of its connections a node is, as the code keeps it and as the rules have it. Public clauses cite this
-- module.
use Rattle.rx_rules.specs.Setup.{Kind, Server, Client}
use Rattle.rx_node.specs.declared.kind.Kind.{Kind as CodeKind}
use Rattle.rx_node.specs.declared.kind.Kind.TheVariants as kinds

-- the kind that the rules have, variant by variant
abbrev pub kind_of : CodeKind → Kind
kind_of (kinds.Server service nonces) = Server service nonces
kind_of (kinds.Client host epoch) = Client host epoch
