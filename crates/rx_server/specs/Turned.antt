-- What a row that reaches no live call changes, and what becomes of a message. Public clauses cite this module.
use Rattle.std.specs.Prelude.{◌≡◌, ℕ, Bool, false, List, Ok}
use Rattle.rx_model.specs.declared.names.Host.{Host}
use Rattle.rx_model.specs.Body.{Body}
use Rattle.rx_model.specs.Message.{Message}
use Rattle.rx_rules.specs.After.{taken_message}
use Rattle.rx_rules.specs.Classes.{Class}
use Rattle.rx_rules.specs.Judging.{is_data, took_reading}
use Rattle.rx_rules.specs.Looks.{Looks}
use Rattle.rx_node.specs.Node.{setup_of}
use Rattle.rx_server.specs.Server.{ServerState, Serves}
use Rattle.rx_model.specs.declared.answers.Took.{Took}
use Rattle.rx_model.specs.declared.answers.Took.TheVariants as tooks
use Rattle.rx_server.specs.declared.server.taking.Turned.{Turned}
use Rattle.rx_server.specs.declared.server.taking.Turned.TheVariants as turns

-- row by row
abbrev pub turned_of : Took → Turned
turned_of tooks.NoRoom = turns.Crowded
turned_of tooks.Busy = turns.Busy
turned_of tooks.Stopped = turns.Stopped
turned_of tooks.Over = turns.Over
turned_of _ = turns.Aside

-- whether it owes a stray abort
abbrev pub strays : Took → Body → Bool
strays tooks.Unserved body = is_data body
strays _ body = false

-- the answer is the rules', and the server then serves what the rules make of the look-ups
pub record Judges (class : List ℕ → Class) (old new : ServerState) (l : Looks) (from : Host) (m : Message)
    (got : Took) : Type 0 where
  pub answered : got ≡ took_reading (setup_of class old.node) l from (Ok m)
  pub serves : Serves class new (taken_message (setup_of class old.node) from (Ok m) got l)
