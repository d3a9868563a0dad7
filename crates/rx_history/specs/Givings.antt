-- What a poll gives: the written form of one plain message that is owed. Public clauses cite this module.
use Rattle.std.specs.Prelude.{◌≡◌, ◌⊎◌, ℕ, List, [], ◌∷◌, Some, Ok}
use Rattle.rx_model.specs.declared.names.Host.{Host}
use Rattle.rx_model.specs.declared.stray.Stray.{Stray}
use Rattle.rx_model.specs.Message.{Message}
use Rattle.rx_model.specs.Names.{connection_of}
use Rattle.rx_model.specs.Reading.{reading_of}
use Rattle.rx_model.specs.Spelling.{IsPlain, made}
use Rattle.rx_model.specs.Strays.{stray_message}
use Rattle.rx_rules.specs.Items.{Item, message_on, next_item}
use Rattle.rx_rules.specs.Looks.{ConnLooks, Looks, conn_at}
use Rattle.rx_rules.specs.Records.{silenced}
use Rattle.rx_rules.specs.Setup.{Setup}

-- the oldest stray abort that is owed, for its host
pub record GivesStray (l : Looks) (to : Host) (m : Message) : Type 0 where
  pub oldest : Stray
  pub later : List Stray
  pub owed : l.strays ≡ oldest ∷ later
  pub host : to ≡ oldest.host
  pub is : m ≡ stray_message oldest

-- where none is owed, the next item once silent calls ended, for the peer of its connection
pub record GivesItem (s : Setup) (l : Looks) (to : Host) (m : Message) : Type 0 where
  pub item : Item
  pub conn : ConnLooks
  pub owed : l.strays ≡ []
  pub next : next_item s (silenced l) ≡ Some item
  pub there : conn_at l (connection_of item.name) ≡ Some conn
  pub host : to ≡ conn.peer
  pub is : m ≡ message_on s item conn

-- a datagram for a host is the written form of one of these, each number of which fits its field; it is read as that
-- message
pub record GivesPlain (s : Setup) (l : Looks) (to : Host) (bytes : List ℕ) : Type 0 where
  pub message : Message
  pub owed : GivesStray l to message ⊎ GivesItem s l to message
  pub written : bytes ≡ made message
  pub plain : IsPlain message
  pub read : reading_of bytes ≡ Ok message
