-- What a look-up of a call's channel gave.
use Rattle.std.proofs.Common.{◌≡◌, ℕ, List, Option, Some, None, subst}
use Rattle.std.specs.Prelude.{IfSome}
use Rattle.rx_model.specs.declared.names.CallName.{CallName}
use Rattle.rx_model.specs.Names.{channel_of, connection_of}
use Rattle.rx_rules.specs.Classes.{Class}
use Rattle.rx_rules.specs.Looks.{Looks, conn_at}
use Rattle.rx_node.specs.Mirrors.{IsChannel, IsKey, Mirrors}
use Rattle.rx_node.specs.Node.{NodeState}
use Rattle.rx_node.specs.Steps.{IsChannelAt, IsFound}

module _ (class : List ℕ → Class) (n : NodeState) (c : CallName) (channel : Option ℕ)
    (found : IsFound class n c channel) where
  -- a key that it gave is one
  pub found_key : (key : ℕ) → channel ≡ Some key → IsKey n key
  found_key key is = subst (λ (o : Option ℕ). IfSome o (IsKey n)) is found.key

  -- and that of the channel
  pub found_channel : (key : ℕ) → channel ≡ Some key → (l : Looks) → Mirrors class n l → IsChannel l key (channel_of c)
  found_channel key is l m = subst (λ (o : Option ℕ). IsChannelAt l o (channel_of c)) is (found.at l m)

  -- where it gave none, the connection isn't known
  pub found_none : channel ≡ None → (l : Looks) → Mirrors class n l → conn_at l (connection_of c) ≡ None
  found_none is l m = subst (λ (o : Option ℕ). IsChannelAt l o (channel_of c)) is (found.at l m)
