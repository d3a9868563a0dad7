-- How a client takes a message. Public clauses cite this module.
use Rattle.std.specs.Prelude.{◌≡◌, ◌==◌, ◌&&◌, ℕ, Bool, List}
use Rattle.rx_model.specs.declared.answers.Took.{Took}
use Rattle.rx_model.specs.declared.answers.Took.TheVariants as tooks
use Rattle.rx_model.specs.declared.names.CallName.{CallName}
use Rattle.rx_model.specs.declared.names.Host.{Host}
use Rattle.rx_model.specs.Body.{Body}
use Rattle.rx_model.specs.Message.{Message}
use Rattle.rx_model.specs.Names.{Channel, connection_of}
use Rattle.rx_rules.specs.After.{taken_message, taken_over, taken_with}
use Rattle.rx_rules.specs.Classes.{Class}
use Rattle.rx_rules.specs.Judging.{is_for_clients, is_peer, took_named, took_reading}
use Rattle.rx_rules.specs.Looks.{Looks, conn_at, latest, latest_name}
use Rattle.rx_rules.specs.Records.{used}
use Rattle.rx_node.specs.Steps.{stopped_by}
use Rattle.rx_node.specs.Mirrors.{Mirrors}
use Rattle.rx_node.specs.Node.{NodeState, setup_of}
use Rattle.std.specs.Prelude.{Ok}

-- the answer of a message from a host is the rules', and the node then mirrors what they make of the look-ups
pub record TakesMessage (class : List ℕ → Class) (old new : NodeState) (l : Looks) (from : Host) (m : Message)
    (got : Took) : Type 0 where
  pub answered : got ≡ took_reading (setup_of class old) l from (Ok m)
  pub mirrors : Mirrors class new (taken_message (setup_of class old) from (Ok m) got l)

-- the same of a message of a connection that is known
pub record TakesNamed (class : List ℕ → Class) (old new : NodeState) (l : Looks) (c : CallName) (m : Message)
    (got : Took) : Type 0 where
  pub answered : got ≡ took_named (setup_of class old) l c m
  pub mirrors : Mirrors class new (taken_with (setup_of class old) got c m (used (connection_of c) l))

-- a message comes from the peer of its connection, in its class, and is of a kind for clients
abbrev pub is_let_in : Class → Looks → Host → CallName → Message → Bool
is_let_in class l from c m =
    is_peer from (conn_at l (connection_of c))
    && ((m.index == class.index) && is_for_clients class.challenges m.body)

-- what a message for a channel changes where a row in front of its call's answers
abbrev pub turned_from : Took → Body → Channel → Looks → Looks
turned_from tooks.Stopped body ch l = stopped_by body ch.connection l
turned_from tooks.Over body ch l = taken_over (latest_name l ch) body (latest l ch) l
turned_from _ body ch l = l
