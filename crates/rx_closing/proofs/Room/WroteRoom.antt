-- What a write that the rules allow accepted: no bytes, or no more than there was room for, of a stream that isn't
-- shut.
use Rattle.std.proofs.Common.{◌≡◌, ◌⊎◌, ◌&&◌, ℕ, List, Option, Some}
use Rattle.std.proofs.Common.{ap, ◌∙◌}
use Rattle.rx_model.specs.declared.answers.WroteGot.{WroteGot}
use Rattle.rx_model.specs.declared.answers.WroteGot.TheVariants as writers
use Rattle.rx_model.specs.declared.event.Event.TheVariants as events
use Rattle.rx_model.specs.declared.names.CallName.{CallName}
use Rattle.rx_model.specs.Names.{same_name}
use Rattle.rx_model.proofs.NameLaws.{name_itself}
use Rattle.rx_rules.specs.Life as lives
use Rattle.rx_rules.specs.Looks.{CallRecord, Looks, call_at}
use Rattle.rx_rules.specs.Rules.{AllowedAt, own_call, served_write}
use Rattle.rx_rules.specs.Setup.{Client, Kind, Server, Setup, is_client}
use Rattle.rx_rules.specs.Slots.{room}
use Rattle.rx_history.proofs.Client.{own-is}
use Rattle.rx_history.proofs.Differ.{every_found}
use Rattle.rx_history.proofs.LifeFalls.{is_begun}
use Rattle.rx_history.proofs.Room.RoomEvents.{Wrote}
use Rattle.rx_history.proofs.Room.RoomStarts.{RoomyAt}
use Rattle.rx_history.proofs.Room.Tight.{TightOf}
use Rattle.rx_history.proofs.Suffice.{client-wrote, serve-wrote}

-- at either kind of node
pub wrote_by : (kind : Kind) (s : Setup) (l : Looks) (c : CallName) (r : CallRecord) (offered : ℕ) (got : WroteGot)
    (bytes : List ℕ) → s.kind ≡ kind → RoomyAt s l → call_at l c ≡ Some r
    → AllowedAt kind s l (events.Wrote c offered got bytes) → Wrote s l r bytes
wrote_by (Client host epoch) s l c r offered (writers.Client got) bytes kind roomy there allowed =
    client-wrote s l r (own_call l c) offered got bytes (own-is l c c r (name_itself c) there) allowed.0 allowed.2
wrote_by (Client host epoch) s l c r offered (writers.Server got) bytes kind roomy there allowed = absurd allowed
wrote_by (Server service nonces) s l c r offered (writers.Server got) bytes kind roomy there allowed =
    let tight : TightOf (is_client s.kind) r =
    every_found (TightOf (is_client s.kind)) (λ (x : CallRecord). same_name x.name c) l.calls r roomy.tight there in
    serve-wrote s l r r.life r.looks.received.ended offered got bytes
    (λ accepted. tight.unshut (ap is_client kind) (ap is_begun accepted))
    (allowed.0 ∙ ap (λ (o : Option CallRecord). served_write s l o offered) there) allowed.2
wrote_by (Server service nonces) s l c r offered (writers.Client got) bytes kind roomy there allowed = absurd allowed
