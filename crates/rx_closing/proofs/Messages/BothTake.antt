-- The two ends of a call among others, through the deliveries of a round: each takes what the other gave where its
-- life stays, and hears nothing where nothing of the call comes.
use Rattle.std.proofs.Common.{◌≡◌, ℕ, suc, true, List, Some, ap, sym, ◌∙◌}
use Rattle.std.specs.Prelude.{slice_get}
use Rattle.rx_model.specs.declared.names.CallName.{CallName}
use Rattle.rx_model.specs.Message.{Message}
use Rattle.rx_model.specs.Names.{connection_of, same_host}
use Rattle.rx_model.proofs.NameLaws.{host_itself}
use Rattle.rx_rules.specs.Life.{is_active}
use Rattle.rx_rules.specs.Looks.{CallRecord}
use Rattle.rx_rules.specs.Setup.{Server}
use Rattle.rx_history.specs.Sides.{Node}
use Rattle.rx_law.specs.Worlds.{Datagram}
use Rattle.rx_plan.specs.Network.{delivers}
use Rattle.rx_plan.specs.Parts.{each}
use Rattle.rx_plan.specs.Stages.{Stage}
use Rattle.rx_rounds.proofs.Rounded.{Made}
use Rattle.rx_closing.specs.Living.{looks_of}
use Rattle.rx_closing.proofs.Conns.PeersTo.{peer_of}
use Rattle.rx_closing.proofs.Conns.PlanPeers.{AreLinked}
use Rattle.rx_closing.proofs.Far.FarStands.{scene_fed}
use Rattle.rx_closing.proofs.Frame.{OneOf, asked_in, served_in}
use Rattle.rx_closing.proofs.Living.Before.{one_before}
use Rattle.rx_closing.proofs.Living.LifeBetween.{client_anew_at, server_anew_at}
use Rattle.rx_closing.proofs.Messages.Arrives.{Answers, Asks, Knows, Meet, answers_front, asks_front, client_names}
use Rattle.rx_closing.proofs.Messages.Arrives.{client_sense, server_names, server_sense}
use Rattle.rx_closing.proofs.Messages.Delivered.{delivers_grow}
use Rattle.rx_closing.proofs.Messages.OneMeets.{one_meets, one_peers}
use Rattle.rx_closing.proofs.Messages.Rows.{IsLast, known_by}
use Rattle.rx_closing.proofs.Messages.Sifted.{IsOwn, Sifted}
use Rattle.rx_closing.proofs.Messages.TakesAll.{IsNotFor, takes_all}
use Rattle.rx_closing.proofs.Rounds.Chains.{Adds}
use Rattle.rx_closing.proofs.Steps.{TakesIn}

module _ (c : CallName) (k : ℕ) (client server : Node) (t : Stage) (one : OneOf c k client server t)
    (service nonces : ℕ) (kind : server.setup.kind ≡ Server service nonces) (u v : Stage)
    (till : Adds v.history t.history) (nodes : v.nodes ≡ t.nodes) (ds : List Datagram)
    (made : Made (each delivers ds) u v) where
  meet : Meet c k client server service nonces t.history
  meet = one_meets c k client server t one service nonces kind

  at_end : OneOf c k client server v
  at_end = one_before c k client server t one v nodes till

  nodes_u : u.nodes ≡ v.nodes
  nodes_u = sym (ap (λ (w : Stage). w.nodes) (delivers_grow ds u v made).rest)

  server_there : slice_get u.nodes 0 ≡ Some server
  server_there = ap (λ (ns : List Node). slice_get ns 0) nodes_u ∙ at_end.server_there

  client_there : slice_get u.nodes (suc k) ≡ Some client
  client_there = ap (λ (ns : List Node). slice_get ns (suc k)) nodes_u ∙ at_end.client_there

  -- the server takes what is the call's of these
  pub server_takes : (Else : Datagram → Type 0) → ((d : Datagram) → Else d → IsNotFor server c d) → (ms : List Message)
      → Sifted (IsOwn client.setup c service) Else client.host server.host ds ms → (a b : CallRecord)
      → served_in c server u ≡ Some a → is_active a.life ≡ true → served_in c server v ≡ Some b → b.life ≡ a.life
      → TakesIn server.setup (looks_of u 0 server).now a.looks ms b.looks
  server_takes Else other ms sifted a b at active behind same =
      takes_all server 0 c meet.server_open client.host server.host
      (Asks c k client server service nonces t.history meet) (host_itself server.host)
      (λ m own. server_names c k client server service nonces t.history meet client.host m meet.home own.name)
      (λ m own. own.stream) (λ l. Unit {0}) (λ l m is opens. tt)
      (λ l m own opens. asks_front c k client server service nonces t.history meet l m own) t.history
      (server_sense c k client server service nonces t.history meet)
      (scene_fed c k client server t one).server_fits (scene_fed c k client server t one).server_legal
      (server_anew_at c k client server t one) (λ w back r last. tt) Else other ds ms sifted u v server_there made
      till a b at active behind same

  -- the client takes what is the call's, where its connections are with the server
  pub client_takes : AreLinked t → (its : ℕ) (Else : Datagram → Type 0)
      → ((d : Datagram) → Else d → IsNotFor client c d) → (ms : List Message)
      → Sifted (IsOwn server.setup c its) Else server.host c.host ds ms → (a b : CallRecord)
      → asked_in c k client u ≡ Some a → is_active a.life ≡ true → asked_in c k client v ≡ Some b
      → b.life ≡ a.life → TakesIn client.setup (looks_of u (suc k) client).now a.looks ms b.looks
  client_takes linked its Else other ms sifted a b at active behind same =
      takes_all client (suc k) c meet.client_open server.host c.host
      (Answers c k client server service nonces t.history meet its)
      (ap (same_host c.host) meet.home ∙ host_itself c.host)
      (λ m own. client_names c k client server service nonces t.history meet server.host m own.name)
      (λ m own. own.stream) (Knows c k client server service nonces t.history meet)
      (λ l m is opens. is server.host ∙ opens)
      (λ l m own opens. answers_front c k client server service nonces t.history meet its l m own opens) t.history
      (client_sense c k client server service nonces t.history meet its)
      (scene_fed c k client server t one).client_fits (scene_fed c k client server t one).client_legal
      (client_anew_at c k client server t one) opens Else other ds ms sifted u v client_there made till a b at active
      behind same
    where
      opens : (w : Stage) → Adds w.history t.history → (r : CallRecord) → IsLast (looks_of w (suc k) client) c r
          → Knows c k client server service nonces t.history meet (looks_of w (suc k) client)
      opens w back r last =
          peer_of (looks_of w (suc k) client) (connection_of c) server.host
          (one_peers c k client server t one linked w back)
          (known_by (looks_of w (suc k) client) c last.number last.some)
