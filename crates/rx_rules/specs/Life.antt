-- The lives of a call at its two ends. Public clauses cite this module.
use Rattle.std.specs.Prelude.{if◌then◌else◌, ℕ, ℤ, Bool, true, false, Option, Some, None}
use Rattle.rx_model.specs.declared.answers.End.{End}
use Rattle.rx_model.specs.declared.answers.End.TheVariants as ends
use Rattle.rx_model.specs.declared.wire.TheConstants.{RX_CALL_DEAD}

-- at a client:   Calling --(the reply is read to its end, a code, a cancel, silence)--> Ended
-- at a server:   Waiting --accept--> Accepted --finish with 0--> Finished --(all is acknowledged)--> Over
--                a code or silence: Waiting, Finished --> Over; Accepted --> Broken --finish--> Over
--                finish with another code: Accepted --> Over
--                a later call on the channel: Waiting, Finished --> Over
pub data Life : Type 0 where
  Calling : Life
  Ended : (end : End) → Life
  Waiting : Life
  Accepted : Life
  Finished : Life
  Broken : (code : ℤ) → Life
  Over : (code : Option ℤ) → Life

-- a call that is broken lives until its handler's finish
abbrev pub is_live : Life → Bool
is_live Calling = true
is_live (Ended end) = false
is_live Waiting = true
is_live Accepted = true
is_live Finished = true
is_live (Broken code) = true
is_live (Over code) = false

-- it lives and isn't broken: it holds slots, sends, and may die of silence
abbrev pub is_active : Life → Bool
is_active Calling = true
is_active (Ended end) = false
is_active Waiting = true
is_active Accepted = true
is_active Finished = true
is_active (Broken code) = false
is_active (Over code) = false

-- a client's that lives
abbrev pub is_calling : Life → Bool
is_calling Calling = true
is_calling _ = false

-- no handler has it yet
abbrev pub is_waiting : Life → Bool
is_waiting Waiting = true
is_waiting _ = false

-- its handler hasn't ended: no later call can take its channel
abbrev pub is_handled : Life → Bool
is_handled Accepted = true
is_handled (Broken code) = true
is_handled _ = false

-- ---- steps

-- a code reaches a call: by an ABORT, by silence or by a later call
abbrev pub after_code : ℤ → Life → Life
after_code code Calling = Ended (ends.Abort code)
after_code code (Ended end) = Ended end
after_code code Waiting = Over (Some code)
after_code code Accepted = Broken code
after_code code Finished = Over (Some code)
after_code code (Broken before) = Broken before
after_code code (Over before) = Over before

-- nothing was heard for so long
abbrev pub after_silence : ℕ → Life → Life
after_silence silence Calling = Ended (ends.Dead silence)
after_silence silence life = after_code RX_CALL_DEAD life

-- a call with a higher number takes its channel
abbrev pub after_later : Life → Life
after_later Waiting = Over (Some RX_CALL_DEAD)
after_later Finished = Over None
after_later life = life

-- a finished call is over once all its pieces are acknowledged
abbrev pub after_acks : Bool → Life → Life
after_acks all Finished = if all then Over None else Finished
after_acks all life = life

-- a handler takes it
abbrev pub after_accept : Life → Life
after_accept Waiting = Accepted
after_accept life = life

-- its handler ended, with 0 or with a code
abbrev pub after_finish : Bool → ℤ → Life → Life
after_finish true code Accepted = Finished
after_finish false code Accepted = Over (Some code)
after_finish fine code life = life

-- its handler was told that it is broken
abbrev pub after_gone : Life → Life
after_gone (Broken code) = Over (Some code)
after_gone life = life

-- a read answered End
abbrev pub after_end : Bool → Life → Life
after_end true Calling = Ended ends.Ok
after_end end life = life

-- the application gives it up
abbrev pub after_cancel : ℤ → Life → Life
after_cancel code Calling = Ended (ends.Cancelled code)
after_cancel code life = life
