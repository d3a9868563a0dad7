-- A node's calls and connections at every moment of a legal history.
use Rattle.std.proofs.Common.{◌≡◌, ℕ, List, [], ◌∷◌}
use Rattle.std.proofs.Common.{Some, None, Ok, Err, refl, ◌∙◌, ap, arith}
use Rattle.rx_model.specs.declared.event.Event.{Event}
use Rattle.rx_model.specs.declared.event.Event.TheVariants as events
use Rattle.rx_model.specs.declared.names.Host.{Host}
use Rattle.rx_model.specs.Reading.{reading_of}
use Rattle.rx_rules.specs.After.{after, is_end, looks}
use Rattle.rx_rules.specs.CallLooks.{after_shut, after_write}
use Rattle.rx_rules.specs.Life.{after_accept, is_live}
use Rattle.rx_rules.specs.Life as lives
use Rattle.rx_rules.specs.Looks.{Looks, conn_at}
use Rattle.rx_rules.specs.Rules.{AllowedAt, AllowedClient, AllowedServer, Legal}
use Rattle.rx_rules.specs.Setup.{Setup, Kind, Server, Client, is_client}
use Rattle.rx_history.proofs.Dimensions.Dims.{dims_life, dims_looks, dims_refl}
use Rattle.rx_history.proofs.Dimensions.DimsEvents.{cancel_dims, finish_dims, polled_dims, read_dims}
use Rattle.rx_history.proofs.LifeFalls.{accept_falls}
use Rattle.rx_history.proofs.Numbers.{new-call}
use Rattle.rx_history.proofs.Order.Orderly.{Orderly, orderly_dims}
use Rattle.rx_history.proofs.Order.OrderlyStart.{orderly_started}
use Rattle.rx_history.proofs.Order.OrderlyTaken.{orderly_message}
use Rattle.rx_history.proofs.Room.RoomStarts.{RoomyAt}
use Rattle.rx_history.proofs.Suffice.{roomy_history}
use Rattle.rx_history.proofs.Order.OrderlyClient.{free-call, linked-by}

-- ---- a server

server-orderly : (s : Setup) (l : Looks) (e : Event) → AllowedServer s l e → RoomyAt s l → Orderly s l
    → Orderly s (after s e l)
server-orderly s l (events.Wrote c offered got bytes) allowed r o =
    orderly_dims s l (after s (events.Wrote c offered got bytes) l) (dims_looks c (after_write bytes) l (λ k is. is)) o
server-orderly s l (events.HasRead c max got bytes) allowed r o =
    orderly_dims s l (after s (events.HasRead c max got bytes) l) (read_dims c (is_end got) bytes l) o
server-orderly s l (events.Accepted (Some c)) allowed r o =
    orderly_dims s l (after s (events.Accepted (Some c)) l) (dims_life c after_accept l accept_falls) o
server-orderly s l (events.Accepted None) allowed r o = o
server-orderly s l (events.Finished c code got) allowed r o =
    orderly_dims s l (after s (events.Finished c code got) l) (finish_dims c code got l) o
server-orderly s l (events.Taken from bytes got) allowed r o = orderly_message s from
    (reading_of bytes) got l allowed.1 r o
server-orderly s l (events.Polled got) allowed r o = orderly_dims s l (after s (events.Polled got) l)
    (polled_dims s got l) o
server-orderly s l (events.Clocked now) allowed r o =
    orderly_dims s l (after s (events.Clocked now) l) (let same = dims_refl l in
    record { calls = same.calls; conns = same.conns }) o
server-orderly s l (events.Linked to service first got) allowed r o = absurd allowed
server-orderly s l (events.Called cid got) allowed r o = absurd allowed
server-orderly s l (events.Shut c got) allowed r o = absurd allowed
server-orderly s l (events.Ended c got) allowed r o = absurd allowed
server-orderly s l (events.Cancelled c code got) allowed r o = absurd allowed

-- ---- a client

client-orderly : (s : Setup) (host : Host) (epoch : ℕ) (l : Looks) (e : Event) → s.kind ≡ Client host epoch
    → AllowedClient s host epoch l e
    → RoomyAt s l → Orderly s l → Orderly s (after s e l)
client-orderly s host epoch l (events.Linked to service first (Ok cid)) kind allowed r o =
    linked-by s s.kind host epoch to service first cid l kind (ap is_client kind) allowed.3 o
client-orderly s host epoch l (events.Linked to service first (Err full)) kind allowed r o = o
client-orderly s host epoch l (events.Called cid (Ok c)) kind allowed r o =
    let n = new-call s host epoch cid l c allowed in
    let f = free-call s host epoch cid l c allowed in
    orderly_started s lives.Calling c l n.conn (ap (conn_at l) n.on ∙ n.there) n.chan f.free o f.room r.differ
client-orderly s host epoch l (events.Called cid (Err refused)) kind allowed r o = o
client-orderly s host epoch l (events.Wrote c offered got bytes) kind allowed r o =
    orderly_dims s l (after s (events.Wrote c offered got bytes) l) (dims_looks c (after_write bytes) l (λ k is. is)) o
client-orderly s host epoch l (events.Shut c (Ok done)) kind allowed r o =
    orderly_dims s l (after s (events.Shut c (Ok done)) l) (dims_looks c after_shut l (λ k is. is)) o
client-orderly s host epoch l (events.Shut c (Err closed)) kind allowed r o = o
client-orderly s host epoch l (events.HasRead c max got bytes) kind allowed r o =
    orderly_dims s l (after s (events.HasRead c max got bytes) l) (read_dims c (is_end got) bytes l) o
client-orderly s host epoch l (events.Ended c got) kind allowed r o = o
client-orderly s host epoch l (events.Cancelled c code (Ok done)) kind allowed r o =
    orderly_dims s l (after s (events.Cancelled c code (Ok done)) l) (cancel_dims c code l) o
client-orderly s host epoch l (events.Cancelled c code (Err closed)) kind allowed r o = o
client-orderly s host epoch l (events.Taken from bytes got) kind allowed r o = orderly_message s from
    (reading_of bytes) got l allowed.1 r o
client-orderly s host epoch l (events.Polled got) kind allowed r o = orderly_dims s l (after s (events.Polled got) l)
    (polled_dims s got l) o
client-orderly s host epoch l (events.Clocked now) kind allowed r o =
    orderly_dims s l (after s (events.Clocked now) l) (let same = dims_refl l in
    record { calls = same.calls; conns = same.conns }) o
client-orderly s host epoch l (events.Accepted got) kind allowed r o = absurd allowed
client-orderly s host epoch l (events.Finished c code got) kind allowed r o = absurd allowed

-- ---- a history

orderly-after : (s : Setup) (kind : Kind) (l : Looks) (e : Event) → s.kind ≡ kind → AllowedAt kind s l e
    → RoomyAt s l → Orderly s l
    → Orderly s (after s e l)
orderly-after s (Client host epoch) l e is allowed r o = client-orderly s host epoch l e is allowed r o
orderly-after s (Server service nonces) l e is allowed r o = server-orderly s l e allowed r o

-- the calls and the connections of a node at every moment
pub orderly_history : (s : Setup) (h : List Event) → Legal s h → Orderly s (looks s h)
orderly_history s [] legal =
    record {
      conns = record { differ = tt; fours = tt; few = omega arith; low = λ client. tt };
      few = omega arith;
      latest = λ c lives. absurd cc;
    }
orderly_history s (e ∷ h) legal =
    orderly-after s s.kind (looks s h) e refl legal.0 (roomy_history s h legal.1) (orderly_history s h legal.1)
