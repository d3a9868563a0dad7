-- DATA that a client gives is for the service that its connections are made for, and of its class.
use Rattle.std.proofs.Common.{Err, List, Ok, Result, Some, [], ap, inl, inr, subst, sym, ℕ}
use Rattle.std.proofs.Common.{◌∙◌, ◌∷◌, ◌≡◌, ◌⊎◌}
use Rattle.rx_model.specs.declared.answers.BadMsg.{BadMsg}
use Rattle.rx_model.specs.declared.answers.Took.{Took}
use Rattle.rx_model.specs.declared.answers.Took.TheVariants as tooks
use Rattle.rx_model.specs.declared.event.Event.{Event}
use Rattle.rx_model.specs.declared.event.Event.TheVariants as events
use Rattle.rx_model.specs.declared.names.CallName.{CallName}
use Rattle.rx_model.specs.declared.names.Host.{Host}
use Rattle.rx_model.specs.declared.wire.TheConstants.{RX_INVALID_OPERATION, RX_PROTOCOL_ERROR}
use Rattle.rx_model.specs.Body.{Body}
use Rattle.rx_model.specs.Body as bodies
use Rattle.rx_model.specs.Message.{Message}
use Rattle.rx_model.specs.Names.{channel_of, connection_of, same_connection}
use Rattle.rx_model.specs.Reading.{reading_of}
use Rattle.rx_rules.specs.After.{looks, owing_abort, owing_again, prepared}
use Rattle.rx_rules.specs.Items.{poll_answer}
use Rattle.rx_rules.specs.Looks.{ChannelLooks, ConnLooks, Looks, fresh_channel}
use Rattle.rx_rules.specs.Rules.{AllowedAt, Legal}
use Rattle.rx_rules.specs.Setup.{Client, FitsSetup, IsServer, Kind, Server, Setup, named}
use Rattle.rx_rules.proofs.EveryLaws.{Every}
use Rattle.rx_history.specs.Givings.{GivesItem, GivesStray}
use Rattle.rx_history.specs.Sides.{GivesTo}
use Rattle.rx_law.specs.Worlds.{Gave}
use Rattle.rx_history.proofs.Differ.{every_found}
use Rattle.rx_history.proofs.Given.Givings.{poll_gives}
use Rattle.rx_law.proofs.Joint.{gives-at, polled-is}
use Rattle.rx_plan.proofs.ConnsHold.{Bears, Lasts, MayLink, MayTake, MayTakeFrom, MayTell, bears_any, hold_after}

-- a connection that is made is for this service
abbrev pub LinksTo : ℕ → Event → Type 0
LinksTo service (events.Linked to its first got) = its ≡ service
LinksTo service _ = Unit {0}

module _ (s : Setup) (host : Host) (epoch : ℕ) (kind : s.kind ≡ Client host epoch) (service : ℕ) where
  abbrev IsFor : ConnLooks → Type 0
  IsFor r = r.service ≡ service

  no_server : IsServer s.kind → ⊥
  no_server serves = subst IsServer kind serves

  lasts : Lasts s IsFor
  lasts =
      record {
        used = λ r now is. is;
        given = λ r given now is. is;
        proved = λ r is. is;
        cleared = λ r n f clears is. is;
        entered = λ x its l serves. absurd (no_server serves);
      }

  bears : (d : CallName) (f : ChannelLooks → ChannelLooks) (l : Looks) → Bears s IsFor (channel_of d) f l
  bears d f l = bears_any s IsFor (channel_of d) f l (λ r is. is)

  take_for : (got : Took) (d : CallName) (body : Body) (l : Looks) → MayTake s IsFor got d body l
  take_for tooks.Kept d body l = λ above. bears d (λ q. fresh_channel d.number) l
  take_for tooks.NoSlot d body l = λ above. bears d (λ q. fresh_channel d.number) l
  take_for tooks.Heard d (bodies.Challenge asked) l =
      bears d (λ q. record q { owed_response = s.class.respond d asked }) l
  take_for tooks.Stopped d (bodies.Response bytes) l = bears d (owing_abort (Some RX_PROTOCOL_ERROR)) l
  take_for tooks.Over d body l = λ k there. bears d (owing_again body k.life) l
  take_for _ d body l = tt

  taken_for : (from : Host) (reading : Result Message BadMsg) (got : Took) (l : Looks)
      → MayTakeFrom s IsFor l from reading got
  taken_for from (Err bad) got l = tt
  taken_for from (Ok m) got l = λ front.
      take_for got (named s from m) m.body (prepared s got (connection_of (named s from m)) l)

  linked_for : (its : Kind) (to : Host) (of first cid : ℕ) (l : Looks) → of ≡ service
      → MayLink s IsFor its to of first cid l
  linked_for (Client h e) to of first cid l is = is
  linked_for (Server own nonces) to of first cid l is = tt

  event_for : (l : Looks) (e : Event) → LinksTo service e → MayTell s IsFor l e
  event_for l (events.Linked to of first (Ok cid)) is = linked_for s.kind to of first cid l is
  event_for l (events.Called cid (Ok d)) is = bears d (λ q. fresh_channel d.number) l
  event_for l (events.Finished d code (Ok done)) is = λ some. bears d (owing_abort (Some code)) l
  event_for l (events.Cancelled d code (Ok done)) is = bears d (owing_abort (Some code)) l
  event_for l (events.Taken from bytes got) is = taken_for from (reading_of bytes) got l
  event_for l _ is = tt

  -- each connection of the client is for it
  services_stay : (h : List Event) → Every (LinksTo service) h → Every IsFor (looks s h).conns
  services_stay [] links = tt
  services_stay (e ∷ h) links =
      hold_after s IsFor lasts (looks s h) e (event_for (looks s h) e links.0) (services_stay h links.1)

  -- DATA is of the client's class, and for that service
  pub record IsOwnData (m : Message) : Type 0 where
    pub of_class : m.index ≡ s.class.index
    pub for_it : m.service ≡ service

  pub data_given : (h : List Event) (to : Host) (bytes : List ℕ) (m : Message) (payload : List ℕ) → FitsSetup s
      → Legal s h → Every (LinksTo service) h → reading_of bytes ≡ Ok m → m.body ≡ bodies.Chunk payload
      → Gave to bytes h → IsOwnData m
  data_given [] to bytes m payload fits legal links reads chunk gave = absurd gave
  data_given (e ∷ h) to bytes m payload fits legal links reads chunk gave =
      by gave (λ before. data_given h to bytes m payload fits legal.1 links.1 reads chunk before)
    where
      polled : poll_answer s (looks s h) ≡ Some (to, bytes) → IsOwnData m
      polled answer =
          (let g = poll_gives s h fits legal.1 to bytes answer in
          let same : g.message ≡ m = (let one : Ok g.message ≡ Ok m = sym g.read ∙ reads in cc) in
          of (subst (λ (n : Message). GivesStray (looks s h) to n ⊎ GivesItem s (looks s h) to n) same g.owed))
        where
          of : GivesStray (looks s h) to m ⊎ GivesItem s (looks s h) to m → IsOwnData m
          of (inl g) =
              absurd (let never : bodies.Chunk payload ≡ bodies.Abort RX_INVALID_OPERATION =
              sym chunk ∙ ap (λ (n : Message). n.body) g.is in cc)
          of (inr g) =
              record {
                of_class = ap (λ (n : Message). n.index) g.is;
                for_it =
                    ap (λ (n : Message). n.service) g.is
                    ∙ every_found IsFor (λ q. same_connection q.connection (connection_of g.item.name))
                    (looks s h).conns g.conn (services_stay h links.1) g.there;
              }

      by : GivesTo to bytes e ⊎ Gave to bytes h → (Gave to bytes h → IsOwnData m) → IsOwnData m
      by (inl gives) earlier =
          (let g = gives-at to bytes e gives in
          let answer = polled-is s.kind s (looks s h) g.0
          (subst (λ (x : Event). AllowedAt s.kind s (looks s h) x) g.1 legal.0) in
          polled (sym answer ∙ g.2))
      by (inr gave) earlier = earlier gave
