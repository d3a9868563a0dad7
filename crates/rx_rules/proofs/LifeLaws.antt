-- No step of a life makes a call wait; only a start does.
use Rattle.std.proofs.Common.{◌≡◌, ℕ, ℤ, Bool, true, false, refl}
use Rattle.rx_rules.specs.Life.{Life, is_waiting, after_code, after_silence, after_later, after_acks, after_accept}
use Rattle.rx_rules.specs.Life.{after_finish, after_gone, after_end}
use Rattle.rx_rules.specs.Life as lives

pub code_waits : (code : ℤ) (x : Life) → is_waiting (after_code code x) ≡ true → is_waiting x ≡ true
code_waits code lives.Calling is = absurd cc
code_waits code (lives.Ended end) is = absurd cc
code_waits code lives.Waiting is = refl
code_waits code lives.Accepted is = absurd cc
code_waits code lives.Finished is = absurd cc
code_waits code (lives.Broken before) is = absurd cc
code_waits code (lives.Over before) is = absurd cc

pub silence_waits : (n : ℕ) (x : Life) → is_waiting (after_silence n x) ≡ true → is_waiting x ≡ true
silence_waits n lives.Waiting is = refl
silence_waits n lives.Calling is = absurd cc
silence_waits n (lives.Ended end) is = absurd cc
silence_waits n lives.Accepted is = absurd cc
silence_waits n lives.Finished is = absurd cc
silence_waits n (lives.Broken before) is = absurd cc
silence_waits n (lives.Over before) is = absurd cc

pub later_waits : (x : Life) → is_waiting (after_later x) ≡ true → is_waiting x ≡ true
later_waits lives.Waiting is = refl
later_waits lives.Finished is = absurd cc
later_waits lives.Calling is = is
later_waits (lives.Ended end) is = is
later_waits lives.Accepted is = is
later_waits (lives.Broken before) is = is
later_waits (lives.Over before) is = is

pub acks_wait : (all : Bool) (x : Life) → is_waiting (after_acks all x) ≡ true → is_waiting x ≡ true
acks_wait all lives.Waiting is = refl
acks_wait true lives.Finished is = absurd cc
acks_wait false lives.Finished is = absurd cc
acks_wait all lives.Calling is = is
acks_wait all (lives.Ended end) is = is
acks_wait all lives.Accepted is = is
acks_wait all (lives.Broken before) is = is
acks_wait all (lives.Over before) is = is

pub accept_waits : (x : Life) → is_waiting (after_accept x) ≡ true → is_waiting x ≡ true
accept_waits lives.Waiting is = refl
accept_waits lives.Finished is = is
accept_waits lives.Calling is = is
accept_waits (lives.Ended end) is = is
accept_waits lives.Accepted is = is
accept_waits (lives.Broken before) is = is
accept_waits (lives.Over before) is = is

pub finish_waits : (fine : Bool) (code : ℤ) (x : Life) → is_waiting (after_finish fine code x) ≡ true → is_waiting x
    ≡ true
finish_waits true code lives.Waiting is = refl
finish_waits true code lives.Accepted is = absurd cc
finish_waits true code lives.Finished is = absurd cc
finish_waits true code lives.Calling is = absurd cc
finish_waits true code (lives.Ended e) is = absurd cc
finish_waits true code (lives.Broken before) is = absurd cc
finish_waits true code (lives.Over before) is = absurd cc
finish_waits false code lives.Waiting is = refl
finish_waits false code lives.Accepted is = absurd cc
finish_waits false code lives.Finished is = absurd cc
finish_waits false code lives.Calling is = absurd cc
finish_waits false code (lives.Ended e) is = absurd cc
finish_waits false code (lives.Broken before) is = absurd cc
finish_waits false code (lives.Over before) is = absurd cc

pub gone_waits : (x : Life) → is_waiting (after_gone x) ≡ true → is_waiting x ≡ true
gone_waits lives.Waiting is = refl
gone_waits lives.Accepted is = is
gone_waits lives.Finished is = is
gone_waits lives.Calling is = is
gone_waits (lives.Ended end) is = is
gone_waits (lives.Broken before) is = absurd cc
gone_waits (lives.Over before) is = is

pub end_waits : (end : Bool) (x : Life) → is_waiting (after_end end x) ≡ true → is_waiting x ≡ true
end_waits true lives.Waiting is = refl
end_waits true lives.Accepted is = absurd cc
end_waits true lives.Finished is = absurd cc
end_waits true lives.Calling is = absurd cc
end_waits true (lives.Ended e) is = absurd cc
end_waits true (lives.Broken before) is = absurd cc
end_waits true (lives.Over before) is = absurd cc
end_waits false lives.Waiting is = refl
end_waits false lives.Accepted is = absurd cc
end_waits false lives.Finished is = absurd cc
end_waits false lives.Calling is = absurd cc
end_waits false (lives.Ended e) is = absurd cc
end_waits false (lives.Broken before) is = absurd cc
end_waits false (lives.Over before) is = absurd cc

-- a call that is accepted no longer waits
pub accepted_waits : (x : Life) → is_waiting (after_accept x) ≡ false
accepted_waits lives.Waiting = refl
accepted_waits lives.Finished = refl
accepted_waits lives.Calling = refl
accepted_waits (lives.Ended end) = refl
accepted_waits lives.Accepted = refl
accepted_waits (lives.Broken before) = refl
accepted_waits (lives.Over before) = refl
