-- The lines of a server that serves. Public clauses cite this module.
use Rattle.std.specs.Prelude.{ℕ, ℤ, List, [], ◌∷◌, ◌++◌, Some, None, Result, Ok, Err, codes}
use Rattle.std.specs.Fmt.{signed_decimal}
use Rattle.rx_model.specs.Text.{host_text, name_text}
use Rattle.rx_model.specs.declared.answers.ServeRefused.{ServeRefused}
use Rattle.rx_model.specs.declared.answers.ServeRefused.TheVariants as refusals
use Rattle.rx_model.specs.declared.event.Event.{Event}
use Rattle.rx_model.specs.declared.event.Event.TheVariants as events
use Rattle.rx_model.specs.declared.event.Noted.{Noted}
use Rattle.rx_model.specs.declared.names.CallName.{CallName}
use Rattle.rx_model.specs.declared.names.Host.{Host}

-- that a host is served
abbrev pub ready_line : Host → List ℕ
ready_line host = codes "ready " ++ host_text host ++ codes "\n"

-- that a call was accepted
abbrev pub accept_line : CallName → List ℕ
accept_line c = codes "accept " ++ name_text c ++ codes "\n"

-- that a call was finished with a code, or had ended with one before
abbrev pub finish_line : CallName → ℤ → Result (Unit {0}) ServeRefused → List ℕ
finish_line c code (Ok done) = codes "finish " ++ name_text c ++ codes " " ++ signed_decimal code ++ codes "\n"
finish_line c code (Err (refusals.Gone told)) =
    codes "finish " ++ name_text c ++ codes " gone " ++ signed_decimal told ++ codes "\n"
finish_line c code (Err refusals.NotOpen) =
    codes "finish " ++ name_text c ++ codes " " ++ signed_decimal code ++ codes "\n"
finish_line c code (Err refusals.Unread) =
    codes "finish " ++ name_text c ++ codes " " ++ signed_decimal code ++ codes "\n"

-- that the time is up
abbrev pub time_up_line : List ℕ
time_up_line = codes "time up\n"

-- the line of an event, if it has one
abbrev pub event_line : Event → List ℕ
event_line (events.Accepted (Some c)) = accept_line c
event_line (events.Accepted None) = []
event_line (events.Finished c code got) = finish_line c code got
event_line (events.Linked to service first got) = []
event_line (events.Called cid got) = []
event_line (events.Wrote c offered got bytes) = []
event_line (events.Shut c got) = []
event_line (events.HasRead c max got bytes) = []
event_line (events.Ended c got) = []
event_line (events.Cancelled c code got) = []
event_line (events.Taken from bytes got) = []
event_line (events.Polled got) = []
event_line (events.Clocked now) = []

-- the line of an event of a node
abbrev pub noted_line : Noted → List ℕ
noted_line n = event_line n.event

-- those of events, in order
abbrev pub lines : List Event → List ℕ
lines [] = []
lines (e ∷ es) = event_line e ++ lines es
