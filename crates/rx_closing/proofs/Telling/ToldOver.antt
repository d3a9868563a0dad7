-- A server whose call is over with a code, or broken, owes that code once a DATA or an ACK of its client came, up to
-- the end of the round.
use Rattle.std.specs.Prelude.{slice_get}
use Rattle.std.proofs.Common.{◌≡◌, ℕ, false, List, ◌∷◌, Some, sym, subst}
use Rattle.rx_model.specs.declared.event.Event.{Event}
use Rattle.rx_model.specs.declared.event.Noted.{Noted}
use Rattle.rx_model.specs.declared.names.CallName.{CallName}
use Rattle.rx_model.specs.Message.{Message}
use Rattle.rx_model.proofs.NameLaws.{host_itself}
use Rattle.rx_rules.specs.After.{looks}
use Rattle.rx_rules.specs.Life.{is_active}
use Rattle.rx_rules.specs.Looks.{CallRecord}
use Rattle.rx_history.specs.Sides.{Node, side}
use Rattle.rx_law.specs.Worlds.{Datagram}
use Rattle.rx_events.specs.Events.{IsClocked}
use Rattle.rx_jobs.specs.Handlers.{Handlers}
use Rattle.rx_jobs.specs.Jobs.{Ask, IsCall}
use Rattle.rx_plan.specs.Network.{delivers}
use Rattle.rx_plan.specs.Parts.{each}
use Rattle.rx_plan.specs.Stages.{Stage}
use Rattle.rx_rounds.proofs.Rounded.{Made, RoundMade}
use Rattle.rx_closing.specs.Living.{looks_of}
use Rattle.rx_closing.proofs.Messages.Arrives.{Asks, Meet, asks_front, server_names, server_sense}
use Rattle.rx_closing.proofs.Messages.OwnTakes.{AllOver, all_over}
use Rattle.rx_closing.proofs.Messages.Rows.{IsLast}
use Rattle.rx_closing.proofs.Messages.Sifted.{Sifted}
use Rattle.rx_closing.proofs.Telling.AbortOwed.{Owing}
use Rattle.rx_closing.proofs.Telling.TurnsKeep.{calls_leave, dispatch_keeps, owing_asked, owing_clocked, settles_keeps}

-- an ABORT that the server's channel owes behind its deliveries is owed at the end of the round
pub owing_round : (c : CallName) (server : Node) (g : Handlers) (s t : Stage) (a : RoundMade g s t)
    → Owing c (looks_of a.delivered 0 server) → Owing c (looks_of t 0 server)
owing_round c server g s t a owes =
    settles_keeps Owes asks clocks _ a.called t a.settles_are
    (subst Owes (sym (calls_leave a.served a.called a.calls_are))
    (dispatch_keeps Owes asks clocks g a.delivered a.served a.serves_are owes))
  where
    Owes : List Event → Type 0
    Owes h = Owing c (looks server.setup h)

    asks : (h : List Event) (q : Ask) (e : Event) → IsCall q e
        → Owing c (looks server.setup h) → Owing c (looks server.setup (e ∷ h))
    asks h q e is o = owing_asked server.setup c q e (looks server.setup h) is o

    clocks : (h : List Event) (now : ℕ) (e : Event) → IsClocked now e
        → Owing c (looks server.setup h) → Owing c (looks server.setup (e ∷ h))
    clocks h now e is o = owing_clocked server.setup c now e (looks server.setup h) is o

-- ---- the server

module _ (c : CallName) (k : ℕ) (client server : Node) (service nonces : ℕ) (h : List Noted)
    (meet : Meet c k client server service nonces h) where
  -- where its call isn't at work
  pub server_over : (ds : List Datagram) (ms : List Message)
      → Sifted (Asks c k client server service nonces h meet) (λ d. ⊥) client.host server.host ds ms → (s t : Stage)
      → slice_get s.nodes 0 ≡ Some server → Made (each delivers ds) s t → (r : CallRecord)
      → IsLast (looks server.setup (side 0 s.history)) c r → is_active r.life ≡ false
      → AllOver c (λ l. Unit {0}) (looks server.setup (side 0 s.history)) r ms (looks server.setup (side 0 t.history))
  server_over ds ms sifted s t there made r last active =
      all_over server 0 c meet.server_open client.host server.host (Asks c k client server service nonces h meet)
      (host_itself server.host)
      (λ m own. server_names c k client server service nonces h meet client.host m meet.home own.name)
      (λ m own. own.stream) (λ l. Unit {0}) (λ l m same open_. tt)
      (λ l m own open_. asks_front c k client server service nonces h meet l m own) h
      (server_sense c k client server service nonces h meet) ds ms sifted s t there made r last
      active tt
