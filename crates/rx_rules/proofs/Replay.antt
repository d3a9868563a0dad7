-- A history played again: each event with the answer that the rules give after those before it. For examples.
use Rattle.std.specs.Prelude.{◌+◌, ◌-◌, ◌*◌, if◌then◌else◌, nat_lt, ℕ, List, [], ◌∷◌}
use Rattle.rx_model.specs.declared.answers.ReadAns.{ReadAns}
use Rattle.rx_model.specs.declared.answers.ReadGot.{ReadGot}
use Rattle.rx_model.specs.declared.answers.ReadGot.TheVariants as readers
use Rattle.rx_model.specs.declared.answers.ServeRead.{ServeRead}
use Rattle.rx_model.specs.declared.answers.WroteGot.{WroteGot}
use Rattle.rx_model.specs.declared.answers.WroteGot.TheVariants as writers
use Rattle.rx_model.specs.declared.event.Event.{Event}
use Rattle.rx_model.specs.declared.event.Event.TheVariants as events
use Rattle.rx_model.specs.declared.names.CallName.{CallName}
use Rattle.rx_rules.specs.After.{after}
use Rattle.rx_rules.specs.Items.{poll_answer}
use Rattle.rx_rules.specs.Judging.{took_of}
use Rattle.rx_rules.specs.Life.{is_live}
use Rattle.rx_rules.specs.Looks.{Looks, at_start, call_at, is_call}
use Rattle.rx_rules.specs.Rules.{accept_answer, call_answer, can_say, client_read, client_write, connect_answer}
use Rattle.rx_rules.specs.Rules.{done_where, end_answer, own_call, served_finish, served_read, served_write}
use Rattle.rx_rules.specs.Setup.{Setup, Kind, Server, Client}

-- ---- the same events with the rules' answers

abbrev pub client_said : CallName → ℕ → ReadAns × List ℕ → Event
client_said c max got = events.HasRead c max (readers.Client got.0) got.1

abbrev pub server_said : CallName → ℕ → ServeRead × List ℕ → Event
server_said c max got = events.HasRead c max (readers.Server got.0) got.1

abbrev pub called : Setup → Kind → Looks → ℕ → Event
called s (Client host epoch) l cid = events.Called cid (call_answer s host epoch l cid)
called s (Server service nonces) l cid = events.Clocked 0

abbrev pub wrote : Setup → Looks → CallName → ℕ → WroteGot → List ℕ → Event
wrote s l c offered (writers.Client got) bytes =
    events.Wrote c offered (writers.Client (client_write s l (own_call l c) offered)) bytes
wrote s l c offered (writers.Server got) bytes =
    events.Wrote c offered (writers.Server (served_write s l (call_at l c) offered)) bytes

abbrev pub has_read : Looks → CallName → ℕ → ReadGot → Event
has_read l c max (readers.Client got) = client_said c max (client_read (own_call l c) max)
has_read l c max (readers.Server got) = server_said c max (served_read (call_at l c) max)

abbrev pub answered : Setup → Looks → Event → Event
answered s l (events.Linked to service first got) = events.Linked to service first (connect_answer s l)
answered s l (events.Called cid got) = called s s.kind l cid
answered s l (events.Wrote c offered got bytes) = wrote s l c offered got bytes
answered s l (events.Shut c got) = events.Shut c (done_where (is_call can_say (own_call l c)))
answered s l (events.HasRead c max got bytes) = has_read l c max got
answered s l (events.Ended c got) = events.Ended c (end_answer (own_call l c))
answered s l (events.Cancelled c code got) =
    events.Cancelled c code (done_where (is_call (λ k. is_live k.life) (own_call l c)))
answered s l (events.Accepted got) = events.Accepted (accept_answer s l)
answered s l (events.Finished c code got) = events.Finished c code (served_finish (call_at l c) code)
answered s l (events.Taken from bytes got) = events.Taken from bytes (took_of s l from bytes)
answered s l (events.Polled got) = events.Polled (poll_answer s l)
answered s l (events.Clocked now) = events.Clocked now

-- the oldest first
abbrev pub played_from : Setup → List Event → Looks → List Event
played_from s [] l = []
played_from s (e ∷ es) l = answered s l e ∷ played_from s es (after s e l)

abbrev pub played : Setup → List Event → List Event
played s es = played_from s es at_start

-- ---- bytes as hex

abbrev pub digit : ℕ → ℕ
digit c = if nat_lt c 58 then c - 48 else c - 87

abbrev pub unhex : List ℕ → List ℕ
unhex [] = []
unhex (a ∷ []) = []
unhex (a ∷ b ∷ rest) = (16 * digit a + digit b) ∷ unhex rest
