-- Legal events are answered as their node's kind answers, with as many bytes as their answers say.
use Rattle.std.proofs.Common.{ℕ, Bool, true, false, not, List, [], ◌∷◌, Option, Some, None}
use Rattle.std.proofs.Common.{Result, Ok, Err, refl, sym, subst}
use Rattle.std.specs.List.{All}
use Rattle.std.proofs.lemmas.List.{length-take}
use Rattle.std.proofs.lemmas.List.Elements.{All-nil, All-cons, All-head, All-tail}
use Rattle.rx_model.specs.declared.answers.End.TheVariants as ends
use Rattle.rx_model.specs.declared.answers.ReadAns.{ReadAns}
use Rattle.rx_model.specs.declared.answers.ReadGot.TheVariants as readers
use Rattle.rx_model.specs.declared.answers.ServeRead.{ServeRead}
use Rattle.rx_model.specs.declared.answers.WroteGot.TheVariants as writers
use Rattle.rx_model.specs.declared.event.Event.{Event}
use Rattle.rx_model.specs.declared.event.Event.TheVariants as events
use Rattle.rx_model.specs.Telling.{AreReadByClient, AreReadByServer, AreWritten, FitsEvent, IsOfKind, IsTold}
use Rattle.rx_rules.specs.After.{looks}
use Rattle.rx_rules.specs.Life.{Life}
use Rattle.rx_rules.specs.Life as lives
use Rattle.rx_rules.specs.Looks.{CallRecord, Looks, call_at}
use Rattle.rx_rules.specs.Received.{is_complete, read_from, unread_of}
use Rattle.rx_rules.specs.Rules.{AllowedAt, HasBytes, Legal, client_read, client_read_by, own_call, served_read}
use Rattle.rx_rules.specs.Rules.{served_read_by}
use Rattle.rx_rules.specs.Setup.{Setup, Kind, Server, Client, is_client}

-- a read's answer with as many bytes as it says
abbrev ClientCounts : ReadAns × List ℕ → Type 0
ClientCounts got = AreReadByClient got.0 got.1

abbrev ServerCounts : ServeRead × List ℕ → Type 0
ServerCounts got = AreReadByServer got.0 got.1

client_from : (max : ℕ) (bytes : List ℕ) (complete : Bool) (life : Life)
    → ClientCounts (client_read_by life (read_from max bytes complete))
client_from max bytes complete (lives.Ended ends.Ok) = refl
client_from max bytes complete (lives.Ended (ends.Abort code)) = refl
client_from max bytes complete (lives.Ended (ends.Dead silence)) = refl
client_from max bytes complete (lives.Ended (ends.Cancelled code)) = refl
client_from max [] true _ = refl
client_from max [] false _ = refl
client_from max (b ∷ bs) complete _ = length-take max (b ∷ bs)

server_from : (max : ℕ) (bytes : List ℕ) (complete : Bool) (life : Life)
    → ServerCounts (served_read_by life (read_from max bytes complete))
server_from max [] true lives.Accepted = refl
server_from max [] false lives.Accepted = refl
server_from max (b ∷ bs) complete lives.Accepted = length-take max (b ∷ bs)
server_from max bytes complete (lives.Broken code) = refl
server_from max bytes complete _ = refl

client_counts : (o : Option CallRecord) (max : ℕ) → ClientCounts (client_read o max)
client_counts None max = refl
client_counts (Some k) max = client_from max (unread_of k.looks.received) (is_complete k.looks.received) k.life

server_counts : (o : Option CallRecord) (max : ℕ) → ServerCounts (served_read o max)
server_counts None max = refl
server_counts (Some k) max = server_from max (unread_of k.looks.received) (is_complete k.looks.received) k.life

written_counts : {E : Type 0} (got : Result ℕ E) (bytes : List ℕ) → HasBytes got bytes → AreWritten got bytes
written_counts (Ok n) bytes has = has
written_counts (Err e) bytes has = has

of_kind : (kind : Kind) (s : Setup) (l : Looks) (e : Event) → AllowedAt kind s l e → IsOfKind (not (is_client kind)) e
of_kind (Client host epoch) s l (events.HasRead c max (readers.Client got) bytes) allowed =
    subst ClientCounts (sym allowed.1) (client_counts (own_call l c) max)
of_kind (Client host epoch) s l (events.HasRead c max (readers.Server got) bytes) allowed = absurd allowed
of_kind (Client host epoch) s l (events.Wrote c offered (writers.Client got) bytes) allowed =
    written_counts got bytes allowed.2
of_kind (Client host epoch) s l (events.Wrote c offered (writers.Server got) bytes) allowed = absurd allowed
of_kind (Client host epoch) s l _ allowed = tt
of_kind (Server service nonces) s l (events.HasRead c max (readers.Server got) bytes) allowed =
    subst ServerCounts (sym allowed.1) (server_counts (call_at l c) max)
of_kind (Server service nonces) s l (events.HasRead c max (readers.Client got) bytes) allowed = absurd allowed
of_kind (Server service nonces) s l (events.Wrote c offered (writers.Server got) bytes) allowed =
    written_counts got bytes allowed.2
of_kind (Server service nonces) s l (events.Wrote c offered (writers.Client got) bytes) allowed = absurd allowed
of_kind (Server service nonces) s l _ allowed = tt

-- the line of each event of a legal history tells the event
pub legal_told : (s : Setup) (h : List Event) → Legal s h → All FitsEvent h
    → All (IsTold (not (is_client s.kind))) h
legal_told s [] legal fits = All-nil (IsTold (not (is_client s.kind)))
legal_told s (e ∷ h) legal fits =
    let told : IsTold (not (is_client s.kind)) e =
    record { fits = All-head FitsEvent e h fits; kind = of_kind s.kind s (looks s h) e legal.0 } in
    All-cons (IsTold (not (is_client s.kind))) e h told (legal_told s h legal.1 (All-tail FitsEvent e h fits))
