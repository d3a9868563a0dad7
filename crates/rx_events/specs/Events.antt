-- Which event is the call that was made, whatever its answer is. Public clauses cite this module.
use Rattle.std.specs.Prelude.{◌≡◌, ℕ, ℤ, List, take, length, Result, Ok, Err}
use Rattle.rx_model.specs.declared.answers.ReadGot.TheVariants as readers
use Rattle.rx_model.specs.declared.answers.WroteGot.TheVariants as writers
use Rattle.rx_model.specs.declared.event.Event.{Event}
use Rattle.rx_model.specs.declared.event.Event.TheVariants as events
use Rattle.rx_model.specs.declared.names.CallName.{CallName}
use Rattle.rx_model.specs.declared.names.Host.{Host}

-- how many bytes a write accepted
abbrev pub written_count : {E : Type 0} → Result ℕ E → ℕ
written_count (Ok n) = n
written_count (Err refused) = 0

-- a connection to a service, with the first call number
abbrev pub IsLinked : Host → ℕ → ℕ → Event → Type 0
IsLinked to service first (events.Linked host its low got) = (host ≡ to) × (its ≡ service) × (low ≡ first)
IsLinked to service first _ = ⊥

-- a call on the connection with this cid
abbrev pub IsCalled : ℕ → Event → Type 0
IsCalled cid (events.Called its got) = its ≡ cid
IsCalled cid _ = ⊥

-- bytes offered by a client: the first ones were accepted
abbrev pub IsSaid : CallName → List ℕ → Event → Type 0
IsSaid c offer (events.Wrote call offered (writers.Client got) bytes) =
    (call ≡ c) × (offered ≡ length offer) × (bytes ≡ take (written_count got) offer)
IsSaid c offer _ = ⊥

-- bytes offered by a handler: the first ones were accepted
abbrev pub IsReplied : CallName → List ℕ → Event → Type 0
IsReplied c offer (events.Wrote call offered (writers.Server got) bytes) =
    (call ≡ c) × (offered ≡ length offer) × (bytes ≡ take (written_count got) offer)
IsReplied c offer _ = ⊥

-- the end of a request
abbrev pub IsShut : CallName → Event → Type 0
IsShut c (events.Shut call got) = call ≡ c
IsShut c _ = ⊥

-- a read of a reply
abbrev pub IsReadBack : CallName → ℕ → Event → Type 0
IsReadBack c max (events.HasRead call most (readers.Client got) bytes) = (call ≡ c) × (most ≡ max)
IsReadBack c max _ = ⊥

-- a handler's read
abbrev pub IsReadIn : CallName → ℕ → Event → Type 0
IsReadIn c max (events.HasRead call most (readers.Server got) bytes) = (call ≡ c) × (most ≡ max)
IsReadIn c max _ = ⊥

-- a question for a call's end
abbrev pub IsAsked : CallName → Event → Type 0
IsAsked c (events.Ended call got) = call ≡ c
IsAsked c _ = ⊥

-- a call given up with a code
abbrev pub IsCancelled : CallName → ℤ → Event → Type 0
IsCancelled c code (events.Cancelled call with got) = (call ≡ c) × (with ≡ code)
IsCancelled c code _ = ⊥

-- a handler takes the next call
abbrev pub IsAccepted : Event → Type 0
IsAccepted (events.Accepted got) = Unit {0}
IsAccepted _ = ⊥

-- a handler ends with a code
abbrev pub IsFinished : CallName → ℤ → Event → Type 0
IsFinished c code (events.Finished call with got) = (call ≡ c) × (with ≡ code)
IsFinished c code _ = ⊥

-- a datagram comes from a host
abbrev pub IsTaken : Host → List ℕ → Event → Type 0
IsTaken from datagram (events.Taken sender bytes got) = (sender ≡ from) × (bytes ≡ datagram)
IsTaken from datagram _ = ⊥

-- the datagram that is due is asked for
abbrev pub IsPolled : Event → Type 0
IsPolled (events.Polled got) = Unit {0}
IsPolled _ = ⊥

-- the clock is set
abbrev pub IsClocked : ℕ → Event → Type 0
IsClocked now (events.Clocked moment) = moment ≡ now
IsClocked now _ = ⊥
