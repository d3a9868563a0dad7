-- What is so of the host and the service of each connection that a client makes is so of its connections at every
-- moment.
use Rattle.std.proofs.Common.{◌≡◌, ◌∷◌, ℕ, true, List, [], Option, Some, None, Ok, Err, Result, refl, sym, subst}
use Rattle.std.proofs.Common.{is_some}
use Rattle.rx_model.specs.declared.answers.BadMsg.{BadMsg}
use Rattle.rx_model.specs.declared.answers.Took.{Took}
use Rattle.rx_model.specs.declared.answers.Took.TheVariants as tooks
use Rattle.rx_model.specs.declared.event.Event.{Event}
use Rattle.rx_model.specs.declared.event.Event.TheVariants as events
use Rattle.rx_model.specs.declared.names.CallName.{CallName}
use Rattle.rx_model.specs.declared.names.Host.{Host}
use Rattle.rx_model.specs.declared.wire.TheConstants.{RX_PROTOCOL_ERROR}
use Rattle.rx_model.specs.Body.{Body}
use Rattle.rx_model.specs.Body as bodies
use Rattle.rx_model.specs.Message.{Message}
use Rattle.rx_model.specs.Names.{Connection, channel_of, connection_of, same_connection}
use Rattle.rx_model.specs.Reading.{reading_of}
use Rattle.rx_model.proofs.NameLaws.{host_itself}
use Rattle.rx_rules.specs.After.{after, looks, owing_abort, owing_again, prepared}
use Rattle.rx_rules.specs.Judging.{is_peer}
use Rattle.rx_rules.specs.Looks.{ChannelLooks, ConnLooks, Looks, conn_at, fresh_channel}
use Rattle.rx_rules.specs.Setup.{Client, IsServer, Kind, Server, Setup, named}
use Rattle.rx_rules.proofs.EveryLaws.{Every}
use Rattle.rx_history.proofs.Differ.{every_found}
use Rattle.rx_plan.proofs.ConnsHold.{Bears, Lasts, MayLink, MayTake, MayTakeFrom, MayTell, bears_any, hold_after}
use Rattle.rx_plan.proofs.Keys.ServicesStay.{LinksTo}
use Rattle.rx_closing.proofs.Polls.OnePoll.{ConnIs}

-- it is so of a connection that is made
abbrev pub LinksSo : (Host → ℕ → Type 0) → Event → Type 0
LinksSo Fits (events.Linked host service first got) = Fits host service
LinksSo Fits _ = Unit {0}

-- and of one that is there
abbrev pub IsSo : (Host → ℕ → Type 0) → ConnLooks → Type 0
IsSo Fits r = Fits r.peer r.service

-- a connection that is made is to this host
abbrev pub LinksAt : Host → Event → Type 0
LinksAt to e = LinksSo (λ host service. host ≡ to) e

-- a record is of a connection to it
abbrev pub IsTo : Host → ConnLooks → Type 0
IsTo to r = r.peer ≡ to

module _ (s : Setup) (host : Host) (epoch : ℕ) (kind : s.kind ≡ Client host epoch) (Fits : Host → ℕ → Type 0) where
  abbrev Here : ConnLooks → Type 0
  Here r = IsSo Fits r

  no_server : IsServer s.kind → ⊥
  no_server serves = subst IsServer kind serves

  lasts : Lasts s Here
  lasts =
      record {
        used = λ r now is. is;
        given = λ r given now is. is;
        proved = λ r is. is;
        cleared = λ r n f clears is. is;
        entered = λ x its l serves. absurd (no_server serves);
      }

  bears : (d : CallName) (f : ChannelLooks → ChannelLooks) (l : Looks) → Bears s Here (channel_of d) f l
  bears d f l = bears_any s Here (channel_of d) f l (λ r is. is)

  take_at : (got : Took) (d : CallName) (body : Body) (l : Looks) → MayTake s Here got d body l
  take_at tooks.Kept d body l = λ above. bears d (λ q. fresh_channel d.number) l
  take_at tooks.NoSlot d body l = λ above. bears d (λ q. fresh_channel d.number) l
  take_at tooks.Heard d (bodies.Challenge asked) l =
      bears d (λ q. record q { owed_response = s.class.respond d asked }) l
  take_at tooks.Stopped d (bodies.Response bytes) l = bears d (owing_abort (Some RX_PROTOCOL_ERROR)) l
  take_at tooks.Over d body l = λ k there. bears d (owing_again body k.life) l
  take_at _ d body l = tt

  taken_at : (from : Host) (reading : Result Message BadMsg) (got : Took) (l : Looks)
      → MayTakeFrom s Here l from reading got
  taken_at from (Err bad) got l = tt
  taken_at from (Ok m) got l = λ front.
      take_at got (named s from m) m.body (prepared s got (connection_of (named s from m)) l)

  linked_at : (its : Kind) (at : Host) (of first cid : ℕ) (l : Looks) → Fits at of
      → MayLink s Here its at of first cid l
  linked_at (Client h e) at of first cid l is = is
  linked_at (Server own nonces) at of first cid l is = tt

  event_at : (l : Looks) (e : Event) → LinksSo Fits e → MayTell s Here l e
  event_at l (events.Linked at of first (Ok cid)) is = linked_at s.kind at of first cid l is
  event_at l (events.Called cid (Ok d)) is = bears d (λ q. fresh_channel d.number) l
  event_at l (events.Finished d code (Ok done)) is = λ some. bears d (owing_abort (Some code)) l
  event_at l (events.Cancelled d code (Ok done)) is = bears d (owing_abort (Some code)) l
  event_at l (events.Taken from bytes got) is = taken_at from (reading_of bytes) got l
  event_at l _ is = tt

  -- so it is behind each event
  pub conns_after : (l : Looks) (e : Event) → LinksSo Fits e → Every (IsSo Fits) l.conns
      → Every (IsSo Fits) (after s e l).conns
  conns_after l e links all = hold_after s Here lasts l e (event_at l e links) all

  -- and of any history
  pub conns_hold : (h : List Event) → Every (LinksSo Fits) h → Every (IsSo Fits) (looks s h).conns
  conns_hold [] links = tt
  conns_hold (e ∷ h) links = conns_after (looks s h) e links.0 (conns_hold h links.1)

-- of the host alone
pub peers_after : (s : Setup) (host : Host) (epoch : ℕ) → s.kind ≡ Client host epoch
    → (to : Host) (l : Looks) (e : Event)
    → LinksAt to e → Every (IsTo to) l.conns → Every (IsTo to) (after s e l).conns
peers_after s host epoch kind to l e links all = conns_after s host epoch kind (λ a i. a ≡ to) l e links all

-- a connection that is there is with it
pub peer_of : (l : Looks) (x : Connection) (to : Host) → Every (IsTo to) l.conns → is_some (conn_at l x) ≡ true
    → is_peer to (conn_at l x) ≡ true
peer_of l x to all known = of (conn_at l x) refl known
  where
    of : (o : Option ConnLooks) → conn_at l x ≡ o → is_some o ≡ true → is_peer to o ≡ true
    of None there some = absurd cc
    of (Some r) there some =
        (let at : r.peer ≡ to =
        every_found (IsTo to) (λ (q : ConnLooks). same_connection q.connection x) l.conns r all there in
        subst (λ (a : Host). is_peer to (Some (record r { peer = a })) ≡ true) (sym at) (host_itself to))

-- ---- of the host and the service

module _ (s : Setup) (host : Host) (epoch : ℕ) (kind : s.kind ≡ Client host epoch) (peer : Host) (service : ℕ) where
  abbrev IsWith : Host → ℕ → Type 0
  IsWith at of = (at ≡ peer) × (of ≡ service)

  links_with : (e : Event) → LinksAt peer e → LinksTo service e → LinksSo IsWith e
  links_with (events.Linked at of first got) is for_it = (is, for_it)
  links_with e is for_it = tt

  all_with : (h : List Event) → Every (LinksAt peer) h → Every (LinksTo service) h → Every (LinksSo IsWith) h
  all_with [] links for_it = tt
  all_with (e ∷ h) links for_it = (links_with e links.0 for_it.0, all_with h links.1 for_it.1)

  -- each connection of the client is with that host and for that service
  pub peers_stay : (h : List Event) → Every (LinksAt peer) h → Every (LinksTo service) h
      → Every (IsSo IsWith) (looks s h).conns
  peers_stay h links for_it = conns_hold s host epoch kind IsWith h (all_with h links for_it)

  pub client_conn : (h : List Event) (x : Connection) → Every (LinksAt peer) h → Every (LinksTo service) h
      → ConnIs (looks s h) x peer service
  client_conn h x links for_it =
      record {
        is = λ q there. every_found (IsSo IsWith) (λ r. same_connection r.connection x) (looks s h).conns q
            (peers_stay h links for_it) there;
      }
