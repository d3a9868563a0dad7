-- What the two ends of a call gave makes sense to the other end.
use Rattle.std.proofs.Common.{◌≡◌, ◌++◌, ℕ, suc, true, false, List, [], ◌∷◌, None, Ok, refl, ◌∙◌, ap, sym, subst}
use Rattle.std.proofs.Common.{append_assoc}
use Rattle.rx_model.specs.declared.answers.Took.{Took}
use Rattle.rx_model.specs.declared.answers.Took.TheVariants as tooks
use Rattle.rx_model.specs.declared.event.Event.TheVariants as events
use Rattle.rx_model.specs.declared.event.Noted.{Noted}
use Rattle.rx_model.specs.declared.names.CallName.{CallName}
use Rattle.rx_model.specs.declared.names.Host.{Host}
use Rattle.rx_model.specs.declared.wire.TheConstants.{CLIENT_INITIATED}
use Rattle.rx_model.specs.Message.{Message, has_flag}
use Rattle.rx_model.specs.Names.{connection_of, name_of}
use Rattle.rx_model.specs.Reading.{reading_of}
use Rattle.rx_rules.specs.After.{looks}
use Rattle.rx_rules.specs.Classes.{Class, null}
use Rattle.rx_rules.specs.Judging.{is_peer, outer_row}
use Rattle.rx_rules.specs.Looks.{Looks, call_at, conn_at}
use Rattle.rx_rules.specs.Setup.{Client, Kind, Server, client_host, is_client, named}
use Rattle.rx_law.proofs.Joint.{Fed, fed-at}
use Rattle.rx_law.specs.Promises.{ends_in}
use Rattle.rx_law.specs.Worlds.{Gave, TwoEnds}
use Rattle.rx_history.specs.Sides.{Node, side}
use Rattle.rx_wire.specs.Turns.{noted}
use Rattle.rx_between.specs.Agreed.{SenseAt}
use Rattle.rx_between.proofs.CameAll.{CameAll}
use Rattle.rx_between.proofs.Sense.{sense_at_client, sense_at_server}
use Rattle.rx_closing.proofs.Messages.Rows.{client_front, server_front}
use Rattle.rx_closing.proofs.Messages.Sifted.{IsOwn}

-- ---- what comes was given

-- at each earlier moment
pub came_before : (x : TwoEnds) (later now : List Noted) → CameAll x (later ++ now) → CameAll x now
came_before x [] now came = came
came_before x (e ∷ later) now came = came_before x later now came.2

-- ---- the two ends of a call

-- a call's client and its server in a joint history, neither with a key
pub record Meet (c : CallName) (k : ℕ) (client server : Node) (service nonces : ℕ) (h : List Noted) : Type 0 where
  pub client_is : client.setup.kind ≡ Client c.host c.epoch
  pub server_is : server.setup.kind ≡ Server service nonces
  pub client_open : client.setup.class ≡ null
  pub server_open : server.setup.class ≡ null
  pub home : client.host ≡ c.host
  pub fed : Fed (ends_in (connection_of c) (suc k) client server) h
  pub came : CameAll (ends_in (connection_of c) (suc k) client server) h

module _ (c : CallName) (k : ℕ) (client server : Node) (service nonces : ℕ) (h : List Noted)
    (meet : Meet c k client server service nonces h) where
  abbrev x : TwoEnds
  x = ends_in (connection_of c) (suc k) client server

  -- what the client says of the call, and what the server says
  abbrev pub Asks : Message → Type 0
  Asks m = IsOwn client.setup c service m

  abbrev pub Answers : (its : ℕ) → Message → Type 0
  Answers its m = IsOwn server.setup c its m

  -- the server's record of the connection isn't asked for anything; the client's is of the server's host
  abbrev pub Knows : Looks → Type 0
  Knows l = is_peer server.host (conn_at l (connection_of c)) ≡ true

  classes : client.setup.class ≡ server.setup.class
  classes = meet.client_open ∙ sym meet.server_open

  asks_flag : (m : Message) → Asks m → has_flag CLIENT_INITIATED m.flags ≡ true
  asks_flag m own = own.side ∙ ap is_client meet.client_is

  answers_flag : (its : ℕ) (m : Message) → Answers its m → has_flag CLIENT_INITIATED m.flags ≡ false
  answers_flag its m own = own.side ∙ ap is_client meet.server_is

  -- its name at either end
  pub server_names : (from : Host) (m : Message) → from ≡ c.host → name_of c.host m ≡ c → named server.setup from m ≡ c
  server_names from m home own =
      ap (λ (q : Kind). name_of (client_host q from) m) meet.server_is ∙ ap (λ (a : Host). name_of a m) home ∙ own

  pub client_names : (peer : Host) (m : Message) → name_of c.host m ≡ c → named client.setup peer m ≡ c
  client_names peer m own = ap (λ (q : Kind). name_of (client_host q peer) m) meet.client_is ∙ own

  -- what the client says comes to the server through the rows in front
  pub asks_front : (l : Looks) (m : Message) → Asks m → outer_row server.setup server.setup.kind l client.host m ≡ None
  asks_front l m own =
      server_front server.setup service nonces l client.host m meet.server_is (asks_flag m own) own.stream own.for_it
      (own.index ∙ ap (λ (q : Class). q.index) classes)

  -- and the other way round
  pub answers_front : (its : ℕ) (l : Looks) (m : Message) → Answers its m → Knows l
      → outer_row client.setup client.setup.kind l server.host m ≡ None
  answers_front its l m own knows =
      client_front client.setup c.host c.epoch l server.host m c meet.client_is (answers_flag its m own) own.stream
      (client_names server.host m own.name) knows (own.index ∙ sym (ap (λ (q : Class). q.index) classes))

  -- what comes makes sense
  pub server_sense : (bytes : List ℕ) (m : Message) (got : Took) (later at : List Noted) → Asks m
      → h ≡ later ++ noted 0 (events.Taken client.host bytes got) ∷ at → reading_of bytes ≡ Ok m
      → (got ≡ tooks.Foreign → ⊥)
      → outer_row server.setup server.setup.kind (looks server.setup (side 0 at)) client.host m ≡ None
      → SenseAt server.setup m (call_at (looks server.setup (side 0 at)) c)
  server_sense bytes m got later at own is reads other front =
      let e : Noted = noted 0 (events.Taken client.host bytes got) in
      let came : CameAll x (e ∷ at) = came_before x later (e ∷ at) (subst (CameAll x) is meet.came) in
      let fed : Fed x at =
      fed-at x (later ++ e ∷ []) at (subst (Fed x) (is ∙ sym (append_assoc later (e ∷ []) at)) meet.fed) in
      let name : named server.setup client.host m ≡ c = server_names client.host m meet.home own.name in
      let gave : Gave server.host bytes (side (suc k) at) =
      came.0 refl m other reads front (ap connection_of name) in
      sense_at_server x at fed came.2 c refl bytes m gave reads (client_names server.host m own.name)

  pub client_sense : (its : ℕ) (bytes : List ℕ) (m : Message) (got : Took) (later at : List Noted) → Answers its m
      → h ≡ later ++ noted (suc k) (events.Taken server.host bytes got) ∷ at → reading_of bytes ≡ Ok m
      → (got ≡ tooks.Foreign → ⊥)
      → outer_row client.setup client.setup.kind (looks client.setup (side (suc k) at)) server.host m ≡ None
      → SenseAt client.setup m (call_at (looks client.setup (side (suc k) at)) c)
  client_sense its bytes m got later at own is reads other front =
      let e : Noted = noted (suc k) (events.Taken server.host bytes got) in
      let came : CameAll x (e ∷ at) = came_before x later (e ∷ at) (subst (CameAll x) is meet.came) in
      let fed : Fed x at =
      fed-at x (later ++ e ∷ []) at (subst (Fed x) (is ∙ sym (append_assoc later (e ∷ []) at)) meet.fed) in
      let name : named client.setup server.host m ≡ c = client_names server.host m own.name in
      let gave : Gave c.host bytes (side 0 at) = came.1 refl m other reads front (ap connection_of name) in
      sense_at_client x at fed came.2 c refl bytes m gave reads (server_names c.host m refl own.name)
