-- Lives of calls along the steps of a node: a client's call lives or has ended, and stays ended; a server's is over
-- with no code only by a later call, or by the acknowledgement of its whole reply.
use Rattle.std.proofs.Common.{◌≡◌, ◌⊎◌, ℕ, ℤ, Bool, true, false}
use Rattle.std.proofs.Common.{Some, None, refl, ◌∙◌, ap, sym, subst, inl, inr}
use Rattle.rx_model.specs.declared.answers.End.{End}
use Rattle.rx_model.specs.declared.answers.Took.TheVariants as tooks
use Rattle.rx_model.specs.declared.event.Event.{Event}
use Rattle.rx_model.specs.declared.names.CallName.{CallName}
use Rattle.rx_model.specs.declared.wire.TheConstants.{RX_CALL_DEAD}
use Rattle.rx_model.specs.Message.{Message}
use Rattle.rx_rules.specs.After.{is_end, is_zero}
use Rattle.rx_rules.specs.CallLooks.{CallLooks, is_delivered}
use Rattle.rx_rules.specs.Life.{Life, after_accept, after_acks, after_cancel, after_code, after_end, after_finish}
use Rattle.rx_rules.specs.Life.{after_gone, after_later, after_silence}
use Rattle.rx_rules.specs.Life as lives
use Rattle.rx_rules.specs.Looks.{Looks}
use Rattle.rx_rules.specs.Setup.{Setup}
use Rattle.rx_between.specs.Agreed.{is_over_well}
use Rattle.rx_between.proofs.Each.EachStep.{IsFollowedBy, Judges, LifeStep, accepted, cancelled, finished, gone}
use Rattle.rx_between.proofs.Each.EachStep.{is_acked}
use Rattle.rx_between.proofs.Each.EachStep.{is_busy, is_followed, is_silent, is_stopped, lives_on, read_out}

-- ---- at a client

-- a client's call lives, or has ended
abbrev pub IsClients : Life → Type 0
IsClients lives.Calling = Unit {0}
IsClients (lives.Ended end) = Unit {0}
IsClients _ = ⊥

-- a step that keeps it so, and what has ended as it ended
pub record Onward (f : Life → Life) : Type 0 where
  pub calling : IsClients (f lives.Calling)
  pub ended : (end : End) → f (lives.Ended end) ≡ lives.Ended end

finish_onward : (fine : Bool) (code : ℤ) → Onward (after_finish fine code)
finish_onward true code = record { calling = tt; ended = λ end. refl }
finish_onward false code = record { calling = tt; ended = λ end. refl }

end_onward : (end : Bool) → Onward (after_end end)
end_onward true = record { calling = tt; ended = λ end. refl }
end_onward false = record { calling = tt; ended = λ end. refl }

-- each step is one
pub life_onward : (s : Setup) (l : Looks) (e : Event) (c : CallName) (b : CallLooks) (x y : Life)
    → LifeStep s l e c b x y → (f : Life → Life) × Onward f × (y ≡ f x)
life_onward s l e c b x y (lives_on is) = ((λ z. z), record { calling = tt; ended = λ end. refl }, is)
life_onward s l e c b x y (is_stopped code stops is) =
    (after_code code, record { calling = tt; ended = λ end. refl }, is)
life_onward s l e c b x y (is_busy busy is) =
    (after_code RX_CALL_DEAD, record { calling = tt; ended = λ end. refl }, is)
life_onward s l e c b x y (is_followed later is) = (after_later, record { calling = tt; ended = λ end. refl }, is)
life_onward s l e c b x y (is_acked m judges is) =
    (after_acks (is_delivered b), record { calling = tt; ended = λ end. refl }, is)
life_onward s l e c b x y (is_silent got silence event is) =
    (after_silence silence, record { calling = tt; ended = λ end. refl }, is)
life_onward s l e c b x y (accepted event is) = (after_accept, record { calling = tt; ended = λ end. refl }, is)
life_onward s l e c b x y (finished code event is) =
    (after_finish (is_zero code) code, finish_onward (is_zero code) code, is)
life_onward s l e c b x y (gone code told event is) = (after_gone, record { calling = tt; ended = λ end. refl }, is)
life_onward s l e c b x y (read_out most got bytes event is) = (after_end (is_end got), end_onward (is_end got), is)
life_onward s l e c b x y (cancelled code event is) =
    (after_cancel code, record { calling = tt; ended = λ end. refl }, is)

-- so a client's call stays one
pub clients_on : (s : Setup) (l : Looks) (e : Event) (c : CallName) (b : CallLooks) (x y : Life)
    → LifeStep s l e c b x y → IsClients x → IsClients y
clients_on s l e c b x y step is =
    (let f = life_onward s l e c b x y step in subst IsClients (sym f.2) (of f.0 f.1 x is))
  where
    of : (f : Life → Life) → Onward f → (x : Life) → IsClients x → IsClients (f x)
    of f on lives.Calling is = on.calling
    of f on (lives.Ended end) is = subst IsClients (sym (on.ended end)) tt
    of f on _ is = absurd is

-- and ended
pub ended_on : (s : Setup) (l : Looks) (e : Event) (c : CallName) (b : CallLooks) (x y : Life) (end : End)
    → LifeStep s l e c b x y → x ≡ lives.Ended end → y ≡ lives.Ended end
ended_on s l e c b x y end step is =
    (let f = life_onward s l e c b x y step in f.2 ∙ ap f.0 is ∙ f.1.ended end)

-- ---- at a server

-- a call comes to be over with no code
abbrev pub CodeLeaves : (Life → Life) → Type 0
CodeLeaves f = (x : Life) → is_over_well (f x) → is_over_well x

code_leaves : (code : ℤ) → CodeLeaves (after_code code)
code_leaves code (lives.Over None) over = tt
code_leaves code _ over = over

silence_leaves : (silence : ℕ) → CodeLeaves (after_silence silence)
silence_leaves silence (lives.Over None) over = tt
silence_leaves silence _ over = over

accept_leaves : CodeLeaves after_accept
accept_leaves lives.Waiting over = absurd over
accept_leaves _ over = over

finish_leaves : (fine : Bool) (code : ℤ) → CodeLeaves (after_finish fine code)
finish_leaves true code lives.Accepted over = absurd over
finish_leaves false code (lives.Over told) over = over
finish_leaves false code lives.Calling over = over
finish_leaves false code (lives.Ended end) over = over
finish_leaves false code lives.Waiting over = over
finish_leaves false code lives.Accepted over = absurd over
finish_leaves false code lives.Finished over = over
finish_leaves false code (lives.Broken told) over = over
finish_leaves true code _ over = over

gone_leaves : CodeLeaves after_gone
gone_leaves (lives.Broken told) over = absurd over
gone_leaves _ over = over

end_leaves : (end : Bool) → CodeLeaves (after_end end)
end_leaves true lives.Calling over = absurd over
end_leaves true (lives.Over code) over = over
end_leaves true (lives.Ended end) over = over
end_leaves true lives.Waiting over = over
end_leaves true lives.Accepted over = over
end_leaves true lives.Finished over = over
end_leaves true (lives.Broken told) over = over
end_leaves false _ over = over

cancel_leaves : (code : ℤ) → CodeLeaves (after_cancel code)
cancel_leaves code lives.Calling over = absurd over
cancel_leaves code _ over = over

acks_leave : (all : Bool) (x : Life) → is_over_well (after_acks all x) → is_over_well x ⊎ (all ≡ true)
acks_leave true lives.Finished over = inr refl
acks_leave false lives.Finished over = absurd over
acks_leave all _ over = inl over

-- why a call is over with no code behind a step
pub data OverBy (s : Setup) (l : Looks) (e : Event) (c : CallName) (b : CallLooks) (x : Life) : Type 0 where
  was_over : is_over_well x → OverBy s l e c b x
  by_later : IsFollowedBy s l e c → OverBy s l e c b x
  by_acks : (m : Message) → Judges s l e c m tooks.Heard → is_delivered b ≡ true → OverBy s l e c b x

pub over_by : (s : Setup) (l : Looks) (e : Event) (c : CallName) (b : CallLooks) (x y : Life) → LifeStep s l e c b x y
    → is_over_well y → OverBy s l e c b x
over_by s l e c b x y (lives_on is) over = was_over (subst is_over_well is over)
over_by s l e c b x y (is_stopped code stops is) over = was_over (code_leaves code x (subst is_over_well is over))
over_by s l e c b x y (is_busy busy is) over = was_over (code_leaves RX_CALL_DEAD x (subst is_over_well is over))
over_by s l e c b x y (is_followed later is) over = by_later later
over_by s l e c b x y (is_acked m judges is) over =
    (elim (acks_leave (is_delivered b) x (subst is_over_well is over)) as (λ t. OverBy s l e c b x) [
      | inl before ↦ was_over before
      | inr all ↦ by_acks m judges all
    ])
over_by s l e c b x y (is_silent got silence event is) over =
    was_over (silence_leaves silence x (subst is_over_well is over))
over_by s l e c b x y (accepted event is) over = was_over (accept_leaves x (subst is_over_well is over))
over_by s l e c b x y (finished code event is) over =
    was_over (finish_leaves (is_zero code) code x (subst is_over_well is over))
over_by s l e c b x y (gone code told event is) over = was_over (gone_leaves x (subst is_over_well is over))
over_by s l e c b x y (read_out most got bytes event is) over =
    was_over (end_leaves (is_end got) x (subst is_over_well is over))
over_by s l e c b x y (cancelled code event is) over = was_over (cancel_leaves code x (subst is_over_well is over))
