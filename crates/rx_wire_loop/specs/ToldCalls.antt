-- What holds of a call that was made and ended. Public clauses cite this module.
use Rattle.std.specs.Prelude.{◌≡◌, ◌<◌, ◌^◌, ℕ, true, List, [], Ok, is_some}
use Rattle.rx_asks.specs.History.{Tells}
use Rattle.rx_asks.specs.View.{CallerState}
use Rattle.rx_model.specs.declared.event.Event.{Event}
use Rattle.rx_model.specs.declared.names.Host.{Host}
use Rattle.rx_rules.specs.After.{looks}
use Rattle.rx_rules.specs.Classes.{Class, FitsClass}
use Rattle.rx_rules.specs.Rules.{Legal}
use Rattle.rx_rules.specs.Setup.{FitsLimits}
use Rattle.rx_wire.specs.Turns.{HasNotedAll, after_all}
use Rattle.rx_wire_loop.specs.declared.calling.CallEnd.TheVariants as call_ends
use Rattle.rx_wire_loop.specs.declared.calling.Calling.{Calling as Words}
use Rattle.rx_wire_loop.specs.Calls.{CallIs, client_setup}
use Rattle.rx_wire_loop.specs.Tells.{Told}

-- the events that were noted are a legal history of the client on some host, and in it the caller, which is finished,
-- tells of its call
pub record CallTold (w : Words) (request : List ℕ) (class : Class) (v : CallerState) (before after : Told)
    : Type 0 where
  pub host : Host
  pub events : List Event
  pub noted : HasNotedAll before.noted after.noted 1 events
  pub legal : Legal (client_setup w class host) (after_all events [])
  pub finished : is_some v.end ≡ true
  pub tells : Tells request v (looks (client_setup w class host) (after_all events []))

-- each call that ended is told so, where what it was made with fits a client
abbrev pub CallsTell : Type 0
CallsTell =
    (w : Words) (request : List ℕ) (class : Class) (v : CallerState) (before after : Told)
    → w.epoch < 2 ^ 32 → FitsLimits w.limits → FitsClass class
    → CallIs w request class (Ok (call_ends.Ended v)) before after → CallTold w request class v before after
