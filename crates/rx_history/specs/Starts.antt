-- A call of a server that never starts while it has a record: its streams never begin anew. Public clauses cite this
-- module.
use Rattle.std.specs.Prelude.{◌≡◌, ℕ, true, nat_lt, List, [], ◌∷◌, None, Ok}
use Rattle.rx_model.specs.declared.answers.Took.{Took}
use Rattle.rx_model.specs.declared.answers.Took.TheVariants as tooks
use Rattle.rx_model.specs.declared.event.Event.{Event}
use Rattle.rx_model.specs.declared.event.Event.TheVariants as events
use Rattle.rx_model.specs.declared.names.CallName.{CallName}
use Rattle.rx_model.specs.declared.names.Host.{Host}
use Rattle.rx_rules.specs.After.{looks, prepared}
use Rattle.rx_rules.specs.Judging.{outer_row}
use Rattle.rx_rules.specs.Looks.{Looks, call_at, channel_at}
use Rattle.rx_model.specs.Message.{Message}
use Rattle.rx_model.specs.Names.{channel_of, connection_of}
use Rattle.rx_model.specs.Reading.{reading_of}
use Rattle.rx_rules.specs.Setup.{Setup, named}

-- where a data packet starts the call, the call has no record
abbrev pub StartsBy : Setup → Looks → Host → List ℕ → CallName → Took → Type 0
StartsBy s l from bytes c got =
    (m : Message) → reading_of bytes ≡ Ok m → outer_row s s.kind l from m ≡ None → named s from m ≡ c
    → nat_lt (channel_at (prepared s got (connection_of c) l) (channel_of c)).number c.number ≡ true → call_at l c
    ≡ None

-- the same of any event: one that is kept or has no slot may start a call
abbrev pub StartsNew : Setup → Looks → Event → CallName → Type 0
StartsNew s l (events.Taken from bytes tooks.Kept) c = StartsBy s l from bytes c tooks.Kept
StartsNew s l (events.Taken from bytes tooks.NoSlot) c = StartsBy s l from bytes c tooks.NoSlot
StartsNew s l _ c = Unit {0}

-- with each event
abbrev pub StartsOnce : Setup → List Event → CallName → Type 0
StartsOnce s [] c = Unit {0}
StartsOnce s (e ∷ h) c = StartsNew s (looks s h) e c × StartsOnce s h c
