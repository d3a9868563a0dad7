-- What decides the rows of a message, by the key of its channel.
use Rattle.std.proofs.Common.{◌≡◌, ℕ, Bool, false, List, Option, Some, None, option_map, ap, sym}
use Rattle.std.specs.Prelude.{is_some}
use Rattle.rx_model.specs.Names.{Channel}
use Rattle.rx_rules.specs.Classes.{Class}
use Rattle.rx_rules.specs.Life.{Life}
use Rattle.rx_rules.specs.Looks.{CallRecord, ConnLooks, Looks, conn_at, is_call}
use Rattle.rx_node.specs.Mirrors.{Mirrors}
use Rattle.rx_node.specs.Node.{NodeState}
use Rattle.rx_node.specs.Steps.{IsChannelAt}
use Rattle.rx_node.proofs.Steps.IdleSteps.{channel_conn}

-- whether a life passes a test; where there is none it doesn't
abbrev pub holds : (Life → Bool) → Option Life → Bool
holds test None = false
holds test (Some life) = test life

-- that of a call
pub holds_call : (test : Life → Bool) (x : Option Life) (o : Option CallRecord) → x ≡ option_map (λ k. k.life) o
    → holds test x ≡ is_call (λ k. test k.life) o
holds_call test x None is = ap (holds test) is
holds_call test x (Some k) is = ap (holds test) is

-- a channel's connection is known where it has a key
pub known_is : (class : List ℕ → Class) (n : NodeState) (l : Looks) (ch : Channel) (o : Option ℕ) → Mirrors class n l
    → IsChannelAt l o ch → is_some o ≡ is_some (conn_at l ch.connection)
known_is class n l ch None m at = ap (λ (o : Option ConnLooks). is_some o) (sym at)
known_is class n l ch (Some key) m at =
    ap (λ (o : Option ConnLooks). is_some o) (sym (channel_conn l key ch m.orderly.conns.differ at))
