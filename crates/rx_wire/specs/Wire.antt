-- What a wire tells of its binds, takes and gives. Public clauses cite this module.
use Rattle.std.specs.Prelude.{◌≡◌, ℕ, List, [], ◌∷◌, ◌++◌, Option, Some, None, length, take}
use Rattle.rx_model.specs.declared.names.Host.{Host}
use Rattle.rx_wire.specs.declared.wire.LastBind.{LastBind}

-- what came of a datagram: the host that it is from, and its bytes
pub record Came : Type 0 where
  pub from : Host
  pub bytes : List ℕ

-- what a log has of a call: a take into a buffer of so many bytes, up to a moment, with what came and the moment after
-- it; or the bytes given to a host
pub data Logged : Type 0 where
  TookUntil : ℕ → ℕ → Option Came → ℕ → Logged
  GaveTo : Host → List ℕ → Logged

-- what a wire tells: the last bind that answered, if there was one, and its log, the first entry first
pub record Traffic : Type 0 where
  pub bound : Option LastBind
  pub log : List Logged

-- what came, as a take answers it: the host, and how many of the buffer's first bytes
abbrev pub came_in : Option (Host × ℕ) → List ℕ → Option Came
came_in None buffer = None
came_in (Some (from, count)) buffer = Some (record { from = from; bytes = take count buffer })

-- what is told after a bind that answered: the log stays
abbrev pub bound_to : Traffic → Host → Host → Traffic
bound_to old asked answered =
    record old { bound = Some (record { asked = asked; answered = answered; log_length = length old.log }) }

-- what is told after an entry: the last bind stays
abbrev pub logged : Traffic → Logged → Traffic
logged old one = record old { log = old.log ++ one ∷ [] }

-- what is told, where it is, has this bind for its last; a wire that tells goes on to tell
abbrev pub HasBound : Option Traffic → Option Traffic → Host → Host → Type 0
HasBound None after asked answered = after ≡ None
HasBound (Some old) after asked answered = after ≡ Some (bound_to old asked answered)

-- what is told, where it is, has gained this entry
abbrev pub HasLogged : Option Traffic → Option Traffic → Logged → Type 0
HasLogged None after one = after ≡ None
HasLogged (Some old) after one = after ≡ Some (logged old one)
